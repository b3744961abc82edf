use Rattle.std.proofs.Common.{◌≡◌, ◌++◌, map}
use Rattle.std.specs.List.{AllByRecursion}
use Rattle.object_store.specs.Logs.{bare_in, places_in}
use Rattle.object_store.specs.Swapping.{FitsCopied, bare_one, payload_of, places_from}
use Rattle.object_store.proofs.swapping.prepared.Given as goal

-- what is made of those so far, and what those give that are left
abbrev pub invariant-loop-copied : goal.invariant-loop-copied
invariant-loop-copied l = record {
  fit : AllByRecursion FitsCopied l.copied-iterator.rest.items;
  payloads : l.payloads.items ++ map payload_of l.copied-iterator.rest.items ≡ map payload_of l.fn.records.items;
  bare : bare_in l.log ++ map bare_one l.copied-iterator.rest.items ≡ map bare_one l.fn.records.items;
  places : places_in l.log ++ places_from l.gate l.copied-iterator.rest.items ≡ places_from 0 l.fn.records.items;
}
