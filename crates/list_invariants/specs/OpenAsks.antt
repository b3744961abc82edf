-- what holds of each ask of a file that isn't answered, where lists change
use Rattle.std.specs.Prelude.{ℕ}
use Rattle.xt_base.specs.declared.ids.NodeId.{NodeId}
use Rattle.xt_messages.specs.declared.message.Payload.{Payload}
use Rattle.xt_protocol.specs.declared.states.WaitingAsk.{WaitingAsk}
use Rattle.xt_protocol.specs.FileStates.{FileState, Site}
use Rattle.osd_invariants.specs.OpenAsks.{AskIs, AsksAre}
use Rattle.list_rows.specs.ListRows.{step_of_message, wake_of_listed}

-- What holds of each ask that comes holds of each that waits or is issued, step by step.
pub record AsksStay (P : WaitingAsk → Type 0) : Type 0 where
  pub message : (site : Site) (s : FileState) (from : NodeId) (list : ℕ) (content : Payload) → AsksAre P s.asks → AskIs P from content
      → AsksAre P (step_of_message site s from list content).state.asks
  pub wake : (site : Site) (s : FileState) → AsksAre P s.asks → AsksAre P (wake_of_listed site s).state.asks
