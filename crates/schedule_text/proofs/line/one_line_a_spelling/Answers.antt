use Rattle.schedule_text.proofs.LineAgain.{one_line}
use Rattle.schedule_text.proofs.line.one_line_a_spelling.Goals as goal

pub returns : goal.returns
returns c = one_line
