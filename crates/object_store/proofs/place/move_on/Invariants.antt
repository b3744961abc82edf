use Rattle.std.proofs.Common.{◌≡◌, ◌++◌, map, take, drop}
use Rattle.object_store.specs.Places.{later}
use Rattle.object_store.proofs.place.move_on.Given as goal

-- those so far are moved
abbrev pub invariant-loop-place : goal.invariant-loop-place
invariant-loop-place l = l.places ≡ map (later l.by) (take l.place-index l.initial.places) ++ drop l.place-index l.initial.places
