use Rattle.osd_core.proofs.Waking.{EndedSoFar}
use Rattle.osd_core.proofs.slots.end_busy.Given as goal

abbrev pub invariant-loop-file : goal.invariant-loop-file
invariant-loop-file l = EndedSoFar l.now l.busy.keys l.file-iterator l.initial.slots l.slots
