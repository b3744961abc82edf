-- answers that hold no list, so that a copy of one takes no memory
use Rattle.std.specs.Prelude.{◌≡◌, Result, Ok, Err}
use Rattle.xt_messages.specs.declared.meta.MetaAnswer.{MetaAnswer}
use Rattle.xt_messages.specs.declared.meta.MetaAnswer.TheVariants as answer
use Rattle.volume_rows.specs.Rows.{Volumes}
use Rattle.volume_rows.specs.Requests.{Outcome}
use Rattle.server_rows.specs.Requests.{Settlement}
use Rattle.mrc_core.specs.declared.settling.Settled.{Settled}
use Rattle.mrc_core.specs.declared.settling.Settled.TheVariants as settled
use Rattle.mrc_core.specs.declared.settling.Settling.{Settling}

abbrev pub answer_of : Settled → MetaAnswer
answer_of settled.Done = answer.Done
answer_of (settled.Refused why) = answer.Refused why
answer_of (settled.Granted capability mark) = answer.Granted capability mark

-- what a grant or a report comes to
abbrev pub settlement_of : Settling → Settlement
settlement_of settling = record { sets = settling.sets; answer = answer_of settling.settled }

-- a change came to this outcome, or no memory was left and nothing changed
abbrev pub IsSettled : {E : Type 0} → Volumes → Volumes → Outcome → Result Settled E → Type 0
IsSettled old new outcome (Ok what) = (answer_of what ≡ outcome.answer) × (new ≡ outcome.volumes)
IsSettled old new outcome (Err why) = new ≡ old
