use Rattle.capabilities.proofs.Differences.{Compares}
use Rattle.capabilities.proofs.same_tag.Given as goal

abbrev pub invariant-loop-i : goal.invariant-loop-i
invariant-loop-i l = Compares l.one l.other l.i l.differing
