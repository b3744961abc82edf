use Rattle.std.specs.Map.{values_of}
use Rattle.osd_core.proofs.Keeping.{KeptSoFar}
use Rattle.osd_core.proofs.slots.keep_all.Given as goal

abbrev pub invariant-loop-slot : goal.invariant-loop-slot
invariant-loop-slot l = KeptSoFar (values_of l.met.slots.entries) l.slot-iterator l.initial.keep l.keep
