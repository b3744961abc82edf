use Rattle.std.proofs.Common.{◌++◌, ◌∷◌, [], sym, ◌∙◌, subst, arith, List}
use Rattle.xt_messages.specs.declared.record.Record.{Record}
use Rattle.replica_records.specs.Places.{ArePlacesIn}
use Rattle.std.proofs.lemmas.Bool.{cond-true}
use Rattle.std.specs.Prelude.{is_ok}
use Rattle.object_store.specs.declared.place.BodyPlace.{BodyPlace}
use Rattle.object_store.specs.Bare.{with_body}
use Rattle.object_store.specs.Places.{ArePairs, filled}
use Rattle.object_store.proofs.Filled.{filled-push, length-filled, pairs-push, same_key}
use Rattle.object_store.proofs.log.StoreLog.put.Goals as goal

pub invariant_of-self : goal.invariant_of-self
invariant_of-self c =
    let old = c.args.self.now in
    let rec = c.args.rec in
    let place = c.args.place in
    let records = c.push.ensures.items ∙ cond-true (is_ok c.push.result) (old.records.items ++ rec ∷ []) old.records.items (c.push.ensures.succeeds c.requires.room.0) in
    let places = c.push-2.ensures.items ∙ cond-true (is_ok c.push-2.result) (old.bodies.items ++ place ∷ []) old.bodies.items (c.push-2.ensures.succeeds c.requires.room.1) in
    record {
      pairs =
          subst (λ (ps : List BodyPlace). ArePairs c.push.new.self.items ps) (sym places)
          (subst (λ (rs : List Record). ArePairs rs (old.bodies.items ++ place ∷ [])) (sym records)
          (pairs-push old.records.items old.bodies.items rec place old.pairs c.requires.pair));
      found = λ bytes.
          subst (λ (ps : List BodyPlace). ArePlacesIn c.put.new.self (filled bytes c.push.new.self.items ps)) (sym places)
          (subst (λ (rs : List Record). ArePlacesIn c.put.new.self (filled bytes rs (old.bodies.items ++ place ∷ []))) (sym records)
          (subst (ArePlacesIn c.put.new.self) (sym (filled-push bytes old.records.items old.bodies.items rec place old.pairs))
          (c.put.ensures (filled bytes old.records.items old.bodies.items) (with_body (bytes place) rec) (same_key (bytes place) rec)
          (omega (arith, c.len.ensures, length-filled bytes old.records.items old.bodies.items old.pairs)) (old.found bytes))));
    }
