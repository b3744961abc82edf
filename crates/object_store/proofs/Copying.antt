-- records whose bodies are copied, as contracts know them
use Rattle.std.proofs.Common.{◌≡◌, ◌⊎◌, ⊎_elim, ◌+◌, ◌-◌, ◌≤◌, ℕ, true, false, Bool, List, [], ◌∷◌, ◌++◌, length, map, drop, refl, sym, ◌∙◌, ap, arith, length-append, length-drop}
use Rattle.std.specs.Prelude.{IsTrue}
use Rattle.std.specs.List.{AllByRecursion}
use Rattle.std.proofs.lemmas.List.{length-replicate, length-take-le}
use Rattle.xt_base.specs.Faults.{counted}
use Rattle.xt_messages.specs.Limits.{FitsRecord}
use Rattle.journal_moves.specs.Extents.{bytes_in}
use Rattle.journal_moves.specs.Gathering.{gathered, gathered_in, sizes_of}
use Rattle.xt_journal.specs.Reading.{placed_from}
use Rattle.replica_records.specs.Fronts.{front_text}
use Rattle.replica_records.specs.Places.{body_in}
use Rattle.replica_records.specs.RecordText.{record_text}
use Rattle.replica_records.proofs.FrontText.{front_then_body}
use Rattle.object_store.specs.declared.copied.Copied.{Copied}
use Rattle.object_store.specs.declared.place.BodyPlace.{BodyPlace}
use Rattle.object_store.specs.Bare.{bare_of}
use Rattle.object_store.specs.Copying.{copied, copied_in}
use Rattle.object_store.specs.Places.{IsPair, bytes_at, places_of}
use Rattle.object_store.specs.Swapping.{FitsCopied, bare_one, before_body, payload_of, places_from}
use Rattle.object_store.specs.Texts.{texts_of}
use Rattle.object_store.proofs.Filled.{bare_again, body_there}

-- as many bytes are known as its place says, where that is in these bytes
pub size_there : (told : Bool) (read : List ℕ) (place : BodyPlace) → (IsTrue told → (place.len ≡ 0) ⊎ (place.at + place.len ≤ length read)) → length (bytes_at told read place) ≡ place.len
size_there true read place inside =
    length-take-le place.len (drop place.at read)
    (⊎_elim (λ none. omega (arith, none)) (λ fits. omega (arith, fits, length-drop place.at read)) (inside refl))
size_there false read place inside = length-replicate place.len 0

module _ (told : Bool) (read : List ℕ) where
  -- one that has its body's bytes
  pub record IsWhole (made : Copied) : Type 0 where
    pub pair : IsPair made.bare made.body
    pub size : length (bytes_at told read made.body) ≡ made.body.len
    pub fits : FitsRecord (copied_in told read made)

  abbrev body_of : Copied → List ℕ
  body_of made = bytes_at told read made.body

  same_bytes : (told : Bool) (place : BodyPlace) → bytes_in told read (record { at = place.at; len = place.len }) ≡ bytes_at told read place
  same_bytes true place = refl
  same_bytes false place = refl

  puts_it : (made : Copied) → IsWhole made → body_in (copied_in told read made) ≡ body_of made
  puts_it made is = body_there told read made.bare made.body is.pair

  text_is : (made : Copied) → IsWhole made → record_text (copied_in told read made) ≡ front_text made.body.len made.bare ++ body_of made
  text_is made is = front_then_body made.body.len made.bare (body_of made) is.size (puts_it made is)

  text_length : (made : Copied) → IsWhole made → length (record_text (copied_in told read made)) ≡ length (front_text made.body.len made.bare) + made.body.len
  text_length made is = ap length (text_is made is) ∙ length-append (front_text made.body.len made.bare) (body_of made) ∙ ap (λ (n : ℕ). length (front_text made.body.len made.bare) + n) is.size

  one_gathered : (made : Copied) → IsWhole made → gathered_in told read (payload_of made) ≡ record_text (copied_in told read made)
  one_gathered made is = ap (λ b. front_text made.body.len made.bare ++ b) (same_bytes told made.body) ∙ sym (text_is made is)

  -- ---- all of them

  pub gathered_texts : (records : List Copied) → AllByRecursion IsWhole records → gathered told read (map payload_of records) ≡ texts_of (copied told read records)
  gathered_texts [] all = refl
  gathered_texts (c ∷ records) all = λ i. one_gathered c all.0 i ∷ gathered_texts records all.1 i

  pub gathered_sizes : (records : List Copied) → AllByRecursion IsWhole records → sizes_of (map payload_of records) ≡ map length (texts_of (copied told read records))
  gathered_sizes [] all = refl
  gathered_sizes (c ∷ records) all = λ i. sym (text_length c all.0) i ∷ gathered_sizes records all.1 i

  pub bare_copied : (records : List Copied) → AllByRecursion IsWhole records → map bare_one records ≡ bare_of (copied told read records)
  bare_copied [] all = refl
  bare_copied (c ∷ records) all = λ i. sym (bare_again (body_of c) c.bare c.body all.0.pair) i ∷ bare_copied records all.1 i

  pub fit_copied : (records : List Copied) → AllByRecursion IsWhole records → AllByRecursion FitsCopied records
  fit_copied [] all = tt
  fit_copied (c ∷ records) all =
      let is = all.0 in (record { pair = is.pair; fits = record { body = body_of c; size = is.size; puts = puts_it c is; fits = is.fits } }, fit_copied records all.1)

  -- the places where they go, from a gate on that doesn't count past 64 bits
  pub places_copied : (records : List Copied) (gate place : ℕ) → AllByRecursion IsWhole records → gate ≡ counted place
      → places_from gate records ≡ places_of (placed_from place (texts_of (copied told read records))) (copied told read records)
  places_copied [] gate place all is = refl
  places_copied (c ∷ records) gate place all is =
      let text = length (record_text (copied_in told read c)) in
      let body = length (body_in (copied_in told read c)) in
      let size : body ≡ c.body.len = ap length (puts_it c all.0) ∙ all.0.size in
      let there : counted (gate + before_body c) ≡ counted (place + (5 + (text - body))) = omega (arith, is, size, text_length c all.0) in
      let next : counted (gate + (before_body c + c.body.len)) ≡ counted (place + (5 + text)) = omega (arith, is, text_length c all.0) in
      let here : BodyPlace = record { at = counted (place + (5 + (text - body))); len = body } in
      ap (λ (at : ℕ). record { at = at; len = c.body.len } ∷ places_from (counted (gate + (before_body c + c.body.len))) records) there
      ∙ ap (λ (len : ℕ). record { at = counted (place + (5 + (text - body))); len = len } ∷ places_from (counted (gate + (before_body c + c.body.len))) records) (sym size)
      ∙ ap (λ (l : List BodyPlace). here ∷ l) (places_copied records (counted (gate + (before_body c + c.body.len))) (place + (5 + text)) all.1 next)
