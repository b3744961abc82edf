use Rattle.registry_table.proofs.Pages.{SoFar, told_after}
use Rattle.registry_table.proofs.registry.Registry.page.Given as goal

abbrev pub invariant-loop-count : goal.invariant-loop-count
invariant-loop-count l = SoFar l.self l.kind l.last l.page l._count (told_after l.self l.kind l.fn.after.0)
