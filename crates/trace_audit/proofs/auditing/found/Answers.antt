use Rattle.std.proofs.Common.{subst, List}
use Rattle.time_line.specs.declared.entry.Entry.{Entry}
use Rattle.trace_audit.specs.Audit.{IsSaid}
use Rattle.trace_audit.proofs.Endings.{said_found}
use Rattle.trace_audit.proofs.auditing.found.Goals as goal

pub returns-in-Ok-clause-found : goal.returns-in-Ok-clause-found
returns-in-Ok-clause-found g c =
    said_found _ _ c.in-Ok.entries.items c.judged.result c.in-Ok.ensures.trace (subst (λ (es : List Entry). IsSaid es c.judged.result) c.as_slice.ensures.value c.judged.ensures)
