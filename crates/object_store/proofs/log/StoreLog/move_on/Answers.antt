use Rattle.std.proofs.Common.{◌≡◌, ℕ, sym, ◌∙◌, ap, subst, arith, length, map, List}
use Rattle.std.specs.Prelude.{Vec}
use Rattle.std.specs.Vec.{with_items}
use Rattle.std.proofs.lemmas.List.{length-map, with_items_is}
use Rattle.replica_records.specs.Places.{ArePlacesIn}
use Rattle.object_store.specs.declared.place.BodyPlace.{BodyPlace}
use Rattle.object_store.specs.Places.{ArePairs, filled, later}
use Rattle.object_store.proofs.Filled.{filled_map, later_pairs}
use Rattle.object_store.proofs.log.StoreLog.move_on.Goals as goal

moved : {Z : Type 0} (v : Vec BodyPlace Z) (by : ℕ) (new slice : List BodyPlace) → new ≡ map (later by) slice → slice ≡ v.items → v.len ≡ length v.items
    → (with_items v new).items ≡ map (later by) v.items
moved v by new slice is value size =
    with_items_is v new (omega (arith, ap length is, length-map slice (later by), ap length value, size)) ∙ is ∙ ap (map (later by)) value

pub invariant_of-self : goal.invariant_of-self
invariant_of-self c =
    let log = c.args.self.now in
    let is = moved log.bodies c.args.by c.move_on.new.places c.as_mut_slice.result.now c.move_on.ensures c.as_mut_slice.ensures.value log.bodies.ok.0 in
    record {
      pairs = subst (ArePairs log.records.items) (sym is) (later_pairs c.args.by log.records.items log.bodies.items log.pairs);
      found = λ bytes.
          subst (λ (ps : List BodyPlace). ArePlacesIn log.last (filled bytes log.records.items ps)) (sym is)
          (subst (ArePlacesIn log.last) (sym (filled_map bytes (later c.args.by) log.records.items log.bodies.items)) (log.found (λ p. bytes (later c.args.by p))));
    }

pub returns-clause-places : goal.returns-clause-places
returns-clause-places c =
    let log = c.args.self.now in
    moved log.bodies c.args.by c.move_on.new.places c.as_mut_slice.result.now c.move_on.ensures c.as_mut_slice.ensures.value log.bodies.ok.0
