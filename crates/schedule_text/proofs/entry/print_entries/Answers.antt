use Rattle.std.proofs.Common.{arith}
use Rattle.schedule_text.proofs.Trace.{entry_step}
use Rattle.schedule_text.proofs.entry.print_entries.Goals as goal

pub loop-entry-preserved : goal.loop-entry-preserved
loop-entry-preserved c = grind (arith, entry_step)
