use Rattle.std.proofs.Common.{◌≡◌, ◌++◌, take}
use Rattle.server_text.specs.Words.{behind}
use Rattle.schedule_text.specs.OutcomeText.{answer_words}
use Rattle.schedule_text.proofs.outcome.push_answers.Given as goal

-- what was gone over is spelled
abbrev pub invariant-loop-answered : goal.invariant-loop-answered
invariant-loop-answered l = l.out.items ≡ l.fn.out.items ++ behind (answer_words (take l.answered-index l.answers))
