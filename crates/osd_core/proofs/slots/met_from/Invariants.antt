use Rattle.std.proofs.Common.{◌≡◌, []}
use Rattle.osd_core.proofs.Starting.{all_put}
use Rattle.osd_core.proofs.slots.met_from.Given as goal

-- the rows so far
abbrev pub invariant-loop-row : goal.invariant-loop-row
invariant-loop-row l = l.slots.entries ≡ all_put [] l.yielded
