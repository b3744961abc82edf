-- which requests can be handled, and which records can be taken
use Rattle.std.specs.Prelude.{◌≤◌, ◌<◌, ◌^◌}
use Rattle.xt_messages.specs.declared.meta.MetaReq.{MetaReq}
use Rattle.xt_messages.specs.declared.meta.MetaReq.TheVariants as ask
use Rattle.xt_messages.specs.declared.message.Payload.{Payload}
use Rattle.xt_messages.specs.declared.message.Payload.TheVariants as payload
use Rattle.xt_messages.specs.declared.event.Event.{Event}
use Rattle.xt_messages.specs.declared.event.Event.TheVariants as event
use Rattle.xt_messages.specs.declared.record.Logged.TheVariants as logged
use Rattle.xt_messages.specs.declared.record.Record.{Record}
use Rattle.xt_messages.specs.declared.record.Record.TheVariants as kept

-- a new file asks for one to nine OSDs
abbrev pub WantsSome : MetaReq → Type 0
WantsSome (ask.Create path mode kind n stripe) = (1 ≤ n) × (n ≤ 9)
WantsSome _ = Unit {0}

-- a message that can be handled: a request is one that can be
abbrev pub CanHear : Payload → Type 0
CanHear (payload.Meta number user group request) = WantsSome request
CanHear _ = Unit {0}

abbrev pub CanHandle : Event → Type 0
CanHandle (event.Deliver msg) = CanHear msg.payload
CanHandle event.Wake = Unit {0}
CanHandle (event.Call call) = Unit {0}

-- a record that can be taken: its request is one that can be handled, at a clock
abbrev pub CanTake : Record → Type 0
CanTake (kept.Meta client number now nodes (logged.Meta user group request)) = (now < 2 ^ 62) × WantsSome request
CanTake _ = Unit {0}
