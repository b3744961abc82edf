-- bodies that are read where they were put
use Rattle.std.proofs.Common.{◌≡◌, ℕ, ◌+◌, ◌-◌, ◌≤◌, ◌<◌, ◌^◌, true, false, List, [], ◌∷◌, ◌++◌, length, drop, take, map, refl, sym, ◌∙◌, ap, arith, length-append}
use Rattle.std.specs.List.{AllByRecursion}
use Rattle.std.proofs.lemmas.List.{drop-drop, drop-take}
use Rattle.xt_base.specs.Faults.{counted}
use Rattle.xt_messages.specs.declared.record.Record.{Record}
use Rattle.journal_areas.proofs.Records.{length-record}
use Rattle.xt_journal.specs.Placed.{Placed}
use Rattle.xt_journal.specs.Format.{open_gate, record_of}
use Rattle.xt_journal.specs.Reading.{payloads_of, placed_from}
use Rattle.xt_journal.proofs.Payloads.{payload_there}
use Rattle.replica_records.specs.Known.{known_of}
use Rattle.replica_records.specs.Places.{body_in}
use Rattle.replica_records.specs.RecordText.{record_text}
use Rattle.replica_records.proofs.BodyText.{body_last, body_shorter}
use Rattle.object_store.specs.declared.place.BodyPlace.{BodyPlace}
use Rattle.object_store.specs.Bare.{bare, bare_of, with_body}
use Rattle.object_store.specs.Places.{bytes_at, filled, later, place_of, places_of}
use Rattle.object_store.specs.Texts.{texts_of}
use Rattle.object_store.proofs.Filled.{with_own, with_zeros}
use Rattle.object_store.proofs.Standing.{AreInside, IsInside}

no_texts : (payload : List ℕ) (rest : List (List ℕ)) → [] ≡ payload ∷ rest → ⊥
no_texts payload rest is = cc

pub first_text : (a b : List ℕ) (rs bs : List (List ℕ)) → a ∷ rs ≡ b ∷ bs → a ≡ b
first_text a b rs bs is = cc

pub other_texts : (a b : List ℕ) (rs bs : List (List ℕ)) → a ∷ rs ≡ b ∷ bs → rs ≡ bs
other_texts a b rs bs is = cc

-- ---- one body

module _ (bytes : List ℕ) (end : ℕ) (small : end < 2 ^ 64) (p : Placed) (rec : Record) (inside : IsInside bytes end p) (text : p.bytes ≡ record_text rec) where
  size : length p.bytes ≡ length (record_text rec)
  size = ap length text

  exact : (place_of p rec).at ≡ (p.gate + 5) + (length p.bytes - length (body_in rec))
  exact = omega (arith, inside.before, small)

  body_read : bytes_at true bytes (place_of p rec) ≡ body_in rec
  body_read =
      let len = length (body_in rec) in
      let before = length p.bytes - len in
      let all : before + len ≡ length p.bytes = omega (arith, size, body_shorter rec) in
      ap (λ (at : ℕ). take len (drop at bytes)) exact
      ∙ ap (take len) (sym (drop-drop before (p.gate + 5) bytes))
      ∙ sym (drop-take before len (drop (p.gate + 5) bytes))
      ∙ ap (λ (n : ℕ). drop before (take n (drop (p.gate + 5) bytes))) all
      ∙ ap (drop before) (payload_there bytes p inside.there)
      ∙ ap (drop before) text
      ∙ ap (λ (n : ℕ). drop (n - len) (record_text rec)) size
      ∙ body_last rec

  place_inside : (place_of p rec).at + (place_of p rec).len ≤ length bytes
  place_inside =
      omega (
        arith,
        exact,
        size,
        body_shorter rec,
        ap length inside.there.are,
        inside.there.place,
        length-append inside.there.front (open_gate ∷ (record_of p.bytes ++ inside.there.later)),
        length-append (record_of p.bytes) inside.there.later,
        length-record p.bytes,
      )

-- ---- the bodies of records

-- they are read as they were put
pub filled_back : (bytes : List ℕ) (end : ℕ) (placed : List Placed) (records : List Record) → end < 2 ^ 64 → AreInside bytes end placed
    → payloads_of placed ≡ texts_of records → filled (bytes_at true bytes) (bare_of records) (places_of placed records) ≡ records
filled_back bytes end [] [] small inside texts = refl
filled_back bytes end [] (r ∷ records) small inside texts = absurd (no_texts _ _ texts)
filled_back bytes end (p ∷ placed) [] small inside texts = absurd (no_texts _ _ (sym texts))
filled_back bytes end (p ∷ placed) (r ∷ records) small inside texts =
    let here : with_body (bytes_at true bytes (place_of p r)) (bare r) ≡ r =
    ap (λ (b : List ℕ). with_body b (bare r)) (body_read bytes end small p r inside.0 (first_text _ _ _ _ texts)) ∙ with_own r in
    let there = filled_back bytes end placed records small inside.1 (other_texts _ _ _ _ texts) in
    λ i. here i ∷ there i

-- zeros are read where contracts don't know what is
pub filled_zeros : (bytes : List ℕ) (placed : List Placed) (records : List Record) → payloads_of placed ≡ texts_of records
    → filled (bytes_at false bytes) (bare_of records) (places_of placed records) ≡ known_of false records
filled_zeros bytes [] [] texts = refl
filled_zeros bytes [] (r ∷ records) texts = absurd (no_texts _ _ texts)
filled_zeros bytes (p ∷ placed) [] texts = absurd (no_texts _ _ (sym texts))
filled_zeros bytes (p ∷ placed) (r ∷ records) texts =
    let there = filled_zeros bytes placed records (other_texts _ _ _ _ texts) in
    λ i. with_zeros r i ∷ there i

abbrev pub IsReadable : List ℕ → BodyPlace → Type 0
IsReadable bytes place = place.at + place.len ≤ length bytes

pub places_inside : (bytes : List ℕ) (end : ℕ) (placed : List Placed) (records : List Record) → end < 2 ^ 64 → AreInside bytes end placed
    → payloads_of placed ≡ texts_of records → AllByRecursion (IsReadable bytes) (places_of placed records)
places_inside bytes end [] records small inside texts = tt
places_inside bytes end (p ∷ placed) [] small inside texts = tt
places_inside bytes end (p ∷ placed) (r ∷ records) small inside texts =
    (place_inside bytes end small p r inside.0 (first_text _ _ _ _ texts), places_inside bytes end placed records small inside.1 (other_texts _ _ _ _ texts))

-- ---- the places of their bodies

pub places-append : (placed more : List Placed) (records recs : List Record) → payloads_of placed ≡ texts_of records
    → places_of (placed ++ more) (records ++ recs) ≡ places_of placed records ++ places_of more recs
places-append [] more [] recs texts = refl
places-append [] more (r ∷ records) recs texts = absurd (no_texts _ _ texts)
places-append (q ∷ placed) more [] recs texts = absurd (no_texts _ _ (sym texts))
places-append (q ∷ placed) more (r ∷ records) recs texts =
    ap (λ (l : List BodyPlace). place_of q r ∷ l) (places-append placed more records recs (other_texts _ _ _ _ texts))

pub places-push : (placed : List Placed) (records : List Record) (p : Placed) (rec : Record) → payloads_of placed ≡ texts_of records
    → places_of (placed ++ p ∷ []) (records ++ rec ∷ []) ≡ places_of placed records ++ place_of p rec ∷ []
places-push placed records p rec texts = places-append placed (p ∷ []) records (rec ∷ []) texts

-- in an area that begins further on
pub places_later : (by gate : ℕ) (payloads : List (List ℕ)) (records : List Record)
    → map (later by) (places_of (placed_from gate payloads) records) ≡ places_of (placed_from (by + gate) payloads) records
places_later by gate [] records = refl
places_later by gate (t ∷ payloads) [] = refl
places_later by gate (t ∷ payloads) (r ∷ records) =
    let len = length (body_in r) in
    let here : counted (by + counted (gate + (5 + (length t - len)))) ≡ counted ((by + gate) + (5 + (length t - len))) = omega arith in
    let next : by + (gate + (5 + length t)) ≡ (by + gate) + (5 + length t) = omega arith in
    ap (λ (at : ℕ). record { at = at; len = len } ∷ map (later by) (places_of (placed_from (gate + (5 + length t)) payloads) records)) here
    ∙ ap (λ (l : List BodyPlace). record { at = counted ((by + gate) + (5 + (length t - len))); len = len } ∷ l)
    (places_later by (gate + (5 + length t)) payloads records ∙ ap (λ (g : ℕ). places_of (placed_from g payloads) records) next)
