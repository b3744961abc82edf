-- what holds of each ask of a file that isn't answered
use Rattle.std.specs.Prelude.{ℕ, Option, Some, None}
use Rattle.std.specs.List.{AllByRecursion}
use Rattle.xt_messages.specs.Limits.{FitsOp}
use Rattle.xt_base.specs.declared.ids.NodeId.{NodeId}
use Rattle.xt_messages.specs.declared.message.Payload.{Payload}
use Rattle.xt_messages.specs.declared.message.Payload.TheVariants as payload
use Rattle.xt_messages.specs.declared.record.FileRow.{FileRow}
use Rattle.xt_protocol.specs.LeaseRows.{Awake}
use Rattle.xt_protocol.specs.declared.states.Asks.{Asks}
use Rattle.xt_protocol.specs.declared.states.IssuedAsk.{IssuedAsk}
use Rattle.xt_protocol.specs.declared.states.WaitingAsk.{WaitingAsk}
use Rattle.xt_protocol.specs.FileStates.{FileState, Site, file_from}
use Rattle.xt_protocol.specs.Overdue.{expired}
use Rattle.xt_protocol.specs.FileSteps.{step_of_file, wake_of_file}

abbrev pub IssuedIs : (WaitingAsk → Type 0) → Option IssuedAsk → Type 0
IssuedIs P None = Unit {0}
IssuedIs P (Some issued) = P issued.ask

-- this holds of each ask that waits, and of the issued one
pub record AsksAre (P : WaitingAsk → Type 0) (asks : Asks) : Type 0 where
  pub waiting : AllByRecursion P asks.waiting
  pub issued : IssuedIs P asks.issued

-- this holds of the ask that a message brings, whatever its deadline
abbrev pub AskIs : (WaitingAsk → Type 0) → NodeId → Payload → Type 0
AskIs P from (payload.Ask number capability asked) =
    (deadline : ℕ) → P (record { id = record { client = from; number = number }; epoch = capability.epoch; op = asked; deadline = deadline })
AskIs P from _ = Unit {0}

-- What holds of each ask that comes holds of each that waits or is issued, step by step.
pub record AsksStay (P : WaitingAsk → Type 0) : Type 0 where
  pub start : (awake : Awake) (row : FileRow) → AsksAre P (file_from awake row).asks
  pub expiry : (site : Site) (s : FileState) → AsksAre P s.asks → AsksAre P (expired site s).state.asks
  pub message : (site : Site) (s : FileState) (from : NodeId) (content : Payload) → AsksAre P s.asks → AskIs P from content → AsksAre P (step_of_file site s from content).state.asks
  pub wake : (site : Site) (s : FileState) → AsksAre P s.asks → AsksAre P (wake_of_file site s).state.asks

-- its operation is within the limits of the fields
abbrev pub IsWithinLimits : WaitingAsk → Type 0
IsWithinLimits ask = FitsOp ask.op
