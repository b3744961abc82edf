use Rattle.list_coordinator.proofs.Wakes.{GoneTo}
use Rattle.list_coordinator.proofs.changes.first_ripe.Given as goal

-- no file before the place gets a choice, and each was asked
abbrev pub invariant-loop-place : goal.invariant-loop-place
invariant-loop-place l = GoneTo l.now l.files l.place l.initial.outs l.outs
