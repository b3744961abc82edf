use Rattle.std.proofs.Common.{◌≡◌, ◌+◌, ◌++◌, ◌∷◌, [], List, ℕ, refl, ◌∙◌, sym, ap, subst, length, arith}
use Rattle.std.proofs.lemmas.Result.{err_from_is_err_and}
use Rattle.xt_messages.specs.declared.record.Record.{Record}
use Rattle.xt_journal.specs.Access.{place_of}
use Rattle.xt_journal.specs.Format.{open_gate, record_of}
use Rattle.replica_records.specs.RecordText.{record_text}
use Rattle.object_store.specs.declared.place.BodyPlace.{BodyPlace}
use Rattle.object_store.specs.Logs.{bare_in, places_in}
use Rattle.object_store.specs.Places as places
use Rattle.object_store.specs.Places.{IsPair}
use Rattle.object_store.specs.Waits.{IsRefused}
use Rattle.object_store.proofs.Filled.{pair_of_bare}
use Rattle.object_store.proofs.preparing.add.Goals as goal

-- nothing was added
pub returns-in_err-made : goal.returns-in_err-made
returns-in_err-made g c =
    let p = err_from_is_err_and c.from_residual.result c.from_residual.ensures.1 in
    rw (p.1, p.2) (record { bytes = refl; bare = c.prepare.ensures.records; places = c.prepare.ensures.places }, tt)

pub returns-in_err-room_for : goal.returns-in_err-room_for
returns-in_err-room_for g c =
    let p = err_from_is_err_and c.from_residual-in_err-room_for.result c.from_residual-in_err-room_for.ensures.1 in
    let text : c.as_slice-payload.result.now ≡ record_text c.args.rec.now = c.as_slice-payload.ensures ∙ c.in_ok-made.ensures.bytes in
    let store = c.args.store.now in
    let needed : (place_of store.journal + c.len-2.result) + (6 + length c.as_slice-payload.result.now) ≡ (place_of store.journal + length c.args.bytes.now.items) + (6 + length (record_text c.args.rec.now)) =
    omega (arith, c.len-2.ensures, ap length text) in
    rw (p.1, p.2) (
      record { bytes = refl; bare = c.prepare.ensures.records; places = c.prepare.ensures.places },
      subst (λ (n : ℕ). IsRefused {g = g.D.Disk} store n c.in_err-room_for.field-0.0) needed c.in_err-room_for.ensures.full,
    )

pub returns-in_err-push_record : goal.returns-in_err-push_record
returns-in_err-push_record g c =
    let p = err_from_is_err_and c.from_residual-in_err-push_record.result c.from_residual-in_err-push_record.ensures.1 in
    rw (p.1, p.2) (record { bytes = c.in_err-push_record.ensures.same; bare = c.prepare.ensures.records; places = c.prepare.ensures.places }, tt)

-- it comes after the others
pub returns : goal.returns
returns g c =
    let rec = c.args.rec.now in
    let old = c.args.bytes.now.items in
    let log = c.args.log.now in
    let text : c.as_slice-payload.result.now ≡ record_text rec = c.as_slice-payload.ensures ∙ c.in_ok-made.ensures.bytes in
    record {
      bytes = c.in_ok-push_record.ensures.done ∙ ap (λ (l : List ℕ). old ++ open_gate ∷ record_of l) text;
      bare =
          c.put.ensures.bare ∙ ap (λ (l : List Record). l ++ c.in_ok-made.made.bare ∷ []) c.prepare.ensures.records
          ∙ ap (λ (r : Record). bare_in log ++ r ∷ []) c.in_ok-made.ensures.bare;
      places =
          c.put.ensures.places ∙ ap (λ (l : List BodyPlace). l ++ c.in_ok-made.made.place ∷ []) c.prepare.ensures.places
          ∙ ap (λ (p : BodyPlace). places_in log ++ p ∷ [])
          (c.in_ok-made.ensures.place ∙ ap (λ (gate : ℕ). places.place_of (record { gate = gate; bytes = record_text rec }) rec) (c.len.ensures ∙ c.args.bytes.now.ok.0));
      room = omega (arith, c.in_ok-room_for.ensures.room, c.len-2.ensures, ap length text);
    }

-- the record without its body, and the body's place
pub put-requires-clause-pair : goal.put-requires-clause-pair
put-requires-clause-pair g c =
    subst (λ (r : Record). IsPair r c.in_ok-made.made.place) (sym c.in_ok-made.ensures.bare)
    (pair_of_bare c.args.rec.now c.in_ok-made.made.place (ap (λ (p : BodyPlace). p.len) c.in_ok-made.ensures.place))
