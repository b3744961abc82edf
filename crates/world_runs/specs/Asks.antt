-- what stands in the trace before each ask that was ever sent
use Rattle.std.specs.Prelude.{◌≡◌, Some, List, [], ◌++◌}
use Rattle.xt_messages.specs.Limits.{FitsOp}
use Rattle.xt_base.specs.declared.ids.NodeId.{NodeId}
use Rattle.xt_messages.specs.declared.message.Msg.{Msg}
use Rattle.xt_messages.specs.declared.message.Payload.{Payload}
use Rattle.xt_messages.specs.declared.message.Payload.TheVariants as payload
use Rattle.lease_safety.specs.State.{Has}
use Rattle.time_line.specs.declared.entry.Entry.{Entry}
use Rattle.time_line.specs.TimeLine.{id_of, operation_begun}
use Rattle.world_spec.specs.World.{World}
use Rattle.world_spec.specs.Lines.{Next, finished, opens, goes_on, ends}
use Rattle.world_runs.specs.View.{messages}

-- an ask is of a call that has begun on its file: it asks what the call does, within its limits
abbrev pub HasBegunSo : List Entry → NodeId → Payload → Type 0
HasBegunSo es from (payload.Ask number capability asked) = (operation_begun capability.file.number es (id_of from number) ≡ Some asked) × FitsOp asked
HasBegunSo es from _ = Unit {0}

-- So are all asks that were ever sent, and those of a node to itself.
abbrev pub AsksHaveBegun : World → List Msg → Type 0
AsksHaveBegun w own = (m : Msg) → Has m (own ++ messages w) → HasBegunSo w.entries m.from m.payload

-- and at each step of a line
abbrev pub NextHasBegun : Next → Type 0
NextHasBegun (finished w) = AsksHaveBegun w []
NextHasBegun (opens l w) = AsksHaveBegun w []
NextHasBegun (goes_on d) = AsksHaveBegun d.world d.own
NextHasBegun (ends cause w) = AsksHaveBegun w []
