-- the place of a payload that is no record
use Rattle.std.proofs.Common.{ℕ, ◌≡◌, ◌<◌, ◌+◌, ◌-◌, ◌∙◌, true, ap, refl, sym, List, ◌∷◌, length, get_or, length-append, arith}
use Rattle.std.proofs.Math.ListN.{get_or-map}
use Rattle.std.proofs.lemmas.List.{length-map}
use Rattle.journal_moves.specs.declared.extent.Extent.{Extent}
use Rattle.xt_journal.specs.Placed.{placed_at, placed_on}
use Rattle.xt_journal.specs.Reading.{IsTheReading, Stands, payloads_on}
use Rattle.object_store.specs.Texts.{texts_of, IsFirstBad}
use Rattle.replica_records.specs.RecordText.{record_text}
use Rattle.store_loading.specs.Loading.{HasBadRecord}

pub bad_inside : (payloads : List (List ℕ)) (count index : ℕ) → length payloads ≡ count → IsFirstBad payloads index → index < count
bad_inside payloads count index all bad =
    let parts : length payloads ≡ length (texts_of bad.before) + length (bad.payload ∷ bad.rest) =
    ap length bad.split ∙ length-append (texts_of bad.before) (bad.payload ∷ bad.rest) in
    let before : length (texts_of bad.before) ≡ length bad.before = length-map bad.before record_text in
    let place : index ≡ length bad.before = bad.place in
    omega arith

pub bad_record : (bytes : List ℕ) (extents : List Extent) (index : ℕ) (e : Extent) → IsTheReading bytes (Stands (placed_on true bytes extents))
    → IsFirstBad (payloads_on bytes extents) index → e ≡ get_or extents index e → HasBadRecord bytes (e.at - 5)
bad_record bytes extents index e reading bad is = record {
  placed = placed_on true bytes extents;
  stand = reading.reads;
  index = index;
  first = bad;
  bad = placed_at true bytes e;
  is_there = ap (placed_at true bytes) is ∙ sym (get_or-map (placed_at true bytes) extents index e);
  is_place = refl;
}
