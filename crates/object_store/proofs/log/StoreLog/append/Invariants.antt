use Rattle.std.proofs.Common.{◌≡◌, ◌++◌, drop, map}
use Rattle.object_store.specs.Logs.{bare_in, places_in}
use Rattle.object_store.specs.Places.{ArePairs, later}
use Rattle.object_store.proofs.log.StoreLog.append.Given as goal

-- those that are left come after those so far
abbrev pub invariant-loop-rec : goal.invariant-loop-rec
invariant-loop-rec l = record {
  pairs : ArePairs l.rec-iterator.rest.items (drop l.index l.bodies.items);
  bare : bare_in l.self ++ l.rec-iterator.rest.items ≡ bare_in l.fn.self ++ bare_in l.fn.more;
  places : places_in l.self ++ drop l.index l.bodies.items ≡ places_in l.fn.self ++ map (later l.by) (places_in l.fn.more);
}
