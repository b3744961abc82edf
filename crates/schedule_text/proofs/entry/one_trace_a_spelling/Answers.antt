use Rattle.schedule_text.proofs.TraceAgain.{one_trace}
use Rattle.schedule_text.proofs.entry.one_trace_a_spelling.Goals as goal

pub returns : goal.returns
returns c = one_trace
