-- whether an ask of a file is due, and what that it is none means
use Rattle.std.specs.Prelude.{ℕ, Bool, false, ◌&&◌, ◌||◌, not, Option, Some, None, [], filter, ◌≡◌}
use Rattle.std.specs.List.{list_any}
use Rattle.xt_base.specs.declared.ids.NodeId.{NodeId}
use Rattle.xt_base.specs.declared.ids.FileId.{FileId}
use Rattle.xt_messages.specs.declared.reply.Reply.{Reply}
use Rattle.xt_protocol.specs.declared.states.IssuedAsk.{IssuedAsk}
use Rattle.xt_protocol.specs.declared.states.Asks.{Asks}
use Rattle.xt_protocol.specs.Asks.{tells_untold}
use Rattle.xt_protocol.specs.Overdue.{is_due, issued_due, newly_due}

-- the deadline of the issued ask has come, and it wasn't answered
abbrev pub is_issued_due : ℕ → Option IssuedAsk → Bool
is_issued_due now None = false
is_issued_due now (Some issued) = is_due now issued.ask && not issued.told

-- one that waits is due, or the issued one
abbrev pub are_due : ℕ → Asks → Bool
are_due now asks = list_any (is_due now) asks.waiting || is_issued_due now asks.issued

-- No ask is due: none is to be answered, and all stay as they are.
pub record NoneDue (now : ℕ) (asks : Asks) : Type 0 where
  pub due : filter (is_due now) asks.waiting ≡ []
  pub left : filter (λ w. not (is_due now w)) asks.waiting ≡ asks.waiting
  pub untold : (node : NodeId) (file : FileId) (answer : Reply) → tells_untold node file (newly_due now asks.issued) answer ≡ []
  pub issued : issued_due now asks.issued ≡ asks.issued
