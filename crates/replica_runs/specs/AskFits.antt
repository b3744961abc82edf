-- What is known of an ask that waits.
use Rattle.std.specs.Prelude.{◌≡◌, ℕ, Option, Some, None}
use Rattle.xt_messages.specs.declared.file.Op.{Op}
use Rattle.xt_protocol.specs.declared.states.Asks.{Asks}
use Rattle.xt_protocol.specs.declared.states.IssuedAsk.{IssuedAsk}
use Rattle.xt_protocol.specs.declared.states.WaitingAsk.{WaitingAsk}
use Rattle.replica_safety.specs.Lists.{Has}
use Rattle.replica_runs.specs.HeadSteps.{IsAllowed}
use Rattle.replica_runs.specs.Seen.{name_of}

-- it is within its limits, and what its client asked under this id
pub record AskFits (stripe : ℕ) (ops : ℕ × ℕ → Op) (ask : WaitingAsk) : Type 0 where
  pub allowed : IsAllowed stripe ask.op
  pub asked : ops (name_of ask.id) ≡ ask.op

abbrev pub IssuedAskFits : ℕ → (ℕ × ℕ → Op) → Option IssuedAsk → Type 0
IssuedAskFits stripe ops None = Unit {0}
IssuedAskFits stripe ops (Some issued) = AskFits stripe ops issued.ask

-- all of a file's asks are so
pub record AsksFit (stripe : ℕ) (ops : ℕ × ℕ → Op) (asks : Asks) : Type 0 where
  pub waiting : (w : WaitingAsk) → Has w asks.waiting → AskFits stripe ops w
  pub issued : IssuedAskFits stripe ops asks.issued
