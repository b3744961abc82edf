use Rattle.osd_core.proofs.Waking.{GaveSoFar}
use Rattle.osd_core.proofs.slots.wake_busy.Given as goal

abbrev pub invariant-loop-file : goal.invariant-loop-file
invariant-loop-file l = GaveSoFar l.now l.met.busy.keys l.file-iterator l.met.slots l.woken
