use Rattle.std.proofs.Common.{◌≡◌, ◌+◌, ◌++◌, ◌∷◌, [], List, sym, ◌∙◌, ap, subst, append_assoc, drop, get_or}
use Rattle.xt_messages.specs.declared.record.Record.{Record}
use Rattle.object_store.specs.declared.place.BodyPlace.{BodyPlace}
use Rattle.object_store.specs.Logs.{bare_in, places_in}
use Rattle.object_store.specs.Places.{ArePairs, IsPair}
use Rattle.object_store.proofs.Filled.{pair_left, pairs_left, places_left}
use Rattle.object_store.proofs.log.StoreLog.append.Goals as goal

pub loop-rec-init : goal.loop-rec-init
loop-rec-init c =
    let more = c.move_on.new.self in
    let begins : c.into_iter-rec-iterator.result.rest.items ≡ more.records.items = c.into_iter-rec-iterator.ensures.into_iter_gives.0 in
    record {
      pairs = subst (λ (rs : List Record). ArePairs rs more.bodies.items) (sym begins) more.pairs;
      bare = ap (λ (l : List Record). bare_in c.args.self.now ++ l) (begins ∙ c.move_on.ensures.bare);
      places = ap (λ (l : List BodyPlace). places_in c.args.self.now ++ l) c.move_on.ensures.places;
    }

pub loop-rec-preserved : goal.loop-rec-preserved
loop-rec-preserved c =
    let l = c.loop-rec in
    let bodies = c.move_on.new.self.bodies.items in
    let rec = c.in-Some.rec in
    let rest = c.next.new.self.rest.items in
    let d = c.index.result.now in
    let step : l.rec-iterator.rest.items ≡ rec ∷ rest = c.in-Some.ensures.steps.0 in
    let are : ArePairs (rec ∷ rest) (drop l.index bodies) = subst (λ (rs : List Record). ArePairs rs (drop l.index bodies)) step l.invariant.pairs in
    let place : d ≡ get_or bodies l.index d = c.index.ensures in
    record {
      pairs = pairs_left rec rest bodies l.index d are;
      bare =
          ap (λ (rs : List Record). rs ++ rest) c.in_ok-push.ensures.bare ∙ append_assoc (bare_in l.self) (rec ∷ []) rest
          ∙ ap (λ (rs : List Record). bare_in l.self ++ rs) (sym step) ∙ l.invariant.bare;
      places =
          ap (λ (ps : List BodyPlace). ps ++ drop (l.index + 1) bodies) c.in_ok-push.ensures.places
          ∙ append_assoc (places_in l.self) (d ∷ []) (drop (l.index + 1) bodies)
          ∙ ap (λ (p : BodyPlace). places_in l.self ++ p ∷ drop (l.index + 1) bodies) place
          ∙ ap (λ (ps : List BodyPlace). places_in l.self ++ ps) (sym (places_left rec rest bodies l.index d are)) ∙ l.invariant.places;
    }

pub push-requires : goal.push-requires
push-requires c =
    let l = c.loop-rec in
    let bodies = c.move_on.new.self.bodies.items in
    let rec = c.in-Some.rec in
    let rest = c.next.new.self.rest.items in
    let d = c.index.result.now in
    let are : ArePairs (rec ∷ rest) (drop l.index bodies) =
    subst (λ (rs : List Record). ArePairs rs (drop l.index bodies)) c.in-Some.ensures.steps.0 l.invariant.pairs in
    subst (IsPair rec) (sym c.index.ensures) (pair_left rec rest bodies l.index d are)
