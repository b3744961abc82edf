use Rattle.std.proofs.Common.{subst}
use Rattle.trace_judge.specs.Found.{IsVerdictOn}
use Rattle.trace_audit.proofs.EntryByEntry.{times_first}
use Rattle.trace_audit.proofs.auditing.judged.Goals as goal

pub returns-in-Ok-Safe : goal.returns-in-Ok-Safe
returns-in-Ok-Safe g c = subst (IsVerdictOn c.args.entries.now) c.in-Ok-Safe.field-0-is (c.in-Ok-Safe.ensures.verdict (times_first c.args.entries.now c.requires))

pub returns-in-Ok-Broken : goal.returns-in-Ok-Broken
returns-in-Ok-Broken g c = subst (IsVerdictOn c.args.entries.now) c.in-Ok-Broken.field-0-is (c.in-Ok-Broken.ensures.verdict (times_first c.args.entries.now c.requires))
