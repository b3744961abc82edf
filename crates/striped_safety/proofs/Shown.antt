-- one object's bytes in the content of a file
use Rattle.std.proofs.Common.{◌≡◌, ◌≢◌, ℕ, ◌+◌, ◌-◌, ◌*◌, ◌<◌, ◌≤◌, ◌⊎◌, inl, inr, List, [], length, take, get_or, refl, ap, sym, ◌∙◌, arith}
use Rattle.std.proofs.lemmas.List.{places}
use Rattle.std.proofs.lemmas.Bool.{cases_lt}
use Rattle.xt_base.specs.Overlay.{overlay, cut_or_filled}
use Rattle.time_line.specs.Content.{place_of}
use Rattle.replica_runs.proofs.Bytes.{length-overlay, overlay-inside, overlay-outside, length-cut_or_filled, byte-cut_or_filled}
use Rattle.replica_runs.proofs.Flat.{row_below}
use Rattle.striped_safety.specs.Members.{Lies}

-- objects of different numbers don't overlap
apart : (o object stripe i at count : ℕ) → o ≢ object → i < stripe → at + count ≤ stripe → (o * stripe + i < object * stripe + at) ⊎ (object * stripe + at + count ≤ o * stripe + i)
apart o object stripe i at count ne below fits =
    elim (cases_lt o object) as (λ w. (o * stripe + i < object * stripe + at) ⊎ (object * stripe + at + count ≤ o * stripe + i)) [
      | inl h ↦ inl (omega (arith, row_below o object stripe h))
      | inr h ↦ (let more : object < o = omega arith in inr (omega (arith, row_below object o stripe more)))
    ]

pub lies_first : (stripe object : ℕ) → Lies stripe [] object []
lies_first stripe object = record { small = omega arith; bytes = λ i h. refl }

-- a write into another object
pub lies_aside : (stripe object other at : ℕ) (bytes content body : List ℕ) → at + length bytes ≤ stripe → other ≢ object → Lies stripe content other body
    → Lies stripe (overlay content (place_of stripe object at) bytes) other body
lies_aside stripe object other at bytes content body fits ne lies =
    record {
      small = lies.small;
      bytes = λ i h. overlay-outside content (object * stripe + at) bytes (other * stripe + i) (apart other object stripe i at (length bytes) ne h fits) ∙ lies.bytes i h;
    }

-- a write into this one
pub lies_written : (stripe object at : ℕ) (bytes content body : List ℕ) → at + length bytes ≤ stripe → Lies stripe content object body
    → Lies stripe (overlay content (place_of stripe object at) bytes) object (overlay body at bytes)
lies_written stripe object at bytes content body fits lies =
    record {
      small = let old = lies.small in rw (length-overlay body at bytes) (omega arith);
      bytes = here;
    }
  where
    here : (i : ℕ) → i < stripe → get_or (overlay content (object * stripe + at) bytes) (object * stripe + i) 0 ≡ get_or (overlay body at bytes) i 0
    here i below =
        let same = lies.bytes i below in
        elim (cases_lt i at) as (λ w. get_or (overlay content (object * stripe + at) bytes) (object * stripe + i) 0 ≡ get_or (overlay body at bytes) i 0) [
          | inl h ↦ (overlay-outside content (object * stripe + at) bytes (object * stripe + i) (inl (omega arith)) ∙ same ∙ sym (overlay-outside body at bytes i (inl h)))
          | inr h ↦
              elim (cases_lt i (at + length bytes)) as (λ w. get_or (overlay content (object * stripe + at) bytes) (object * stripe + i) 0 ≡ get_or (overlay body at bytes) i 0) [
                | inl k ↦
                    (let place : object * stripe + i - (object * stripe + at) ≡ i - at = omega arith in
                    overlay-inside content (object * stripe + at) bytes (object * stripe + i) (omega arith) (omega arith)
                    ∙ ap (λ j. get_or bytes j 0) place ∙ sym (overlay-inside body at bytes i h k))
                | inr k ↦ (overlay-outside content (object * stripe + at) bytes (object * stripe + i) (inr (omega arith)) ∙ same ∙ sym (overlay-outside body at bytes i (inr k)))
              ]
        ]

past : (bytes : List ℕ) (i : ℕ) → length bytes ≤ i → get_or bytes i 0 ≡ 0
past bytes i h = grind (arith, places)

take-inside : (bytes : List ℕ) (n i : ℕ) → i < n → get_or (take n bytes) i 0 ≡ get_or bytes i 0
take-inside bytes n i h = grind (arith, places)

take-past : (bytes : List ℕ) (n i : ℕ) → n ≤ i → get_or (take n bytes) i 0 ≡ 0
take-past bytes n i h = grind (arith, places)

filled-past : (bytes : List ℕ) (size i : ℕ) → size ≤ i → get_or (cut_or_filled bytes size) i 0 ≡ 0
filled-past bytes size i h = past (cut_or_filled bytes size) i (omega (arith, length-cut_or_filled bytes size))

shorter : (bytes : List ℕ) (n k : ℕ) → length bytes ≤ k → length (take n bytes) ≤ k
shorter bytes n k h = grind (arith, places)

-- a truncation to `last * stripe + rest`: an object before the last one stays
pub lies_below : (stripe last rest size object : ℕ) (content body : List ℕ) → last * stripe + rest ≡ size → object < last → Lies stripe content object body
    → Lies stripe (cut_or_filled content size) object body
lies_below stripe last rest size object content body splits low lies =
    record {
      small = lies.small;
      bytes = λ i h. (
          let inside : object * stripe + i < size = omega (arith, row_below object last stripe low) in
          byte-cut_or_filled content size (object * stripe + i) inside ∙ lies.bytes i h
          );
    }

-- the last one is cut
pub lies_cut : (stripe last rest size : ℕ) (content body : List ℕ) → last * stripe + rest ≡ size → rest < stripe → Lies stripe content last body
    → Lies stripe (cut_or_filled content size) last (take rest body)
lies_cut stripe last rest size content body splits less lies =
    record { small = shorter body rest stripe lies.small; bytes = here }
  where
    here : (i : ℕ) → i < stripe → get_or (cut_or_filled content size) (last * stripe + i) 0 ≡ get_or (take rest body) i 0
    here i h =
        elim (cases_lt i rest) as (λ w. get_or (cut_or_filled content size) (last * stripe + i) 0 ≡ get_or (take rest body) i 0) [
          | inl l ↦
              (let inside : last * stripe + i < size = omega arith in
              byte-cut_or_filled content size (last * stripe + i) inside ∙ lies.bytes i h ∙ sym (take-inside body rest i l))
          | inr l ↦ (let outside : size ≤ last * stripe + i = omega arith in filled-past content size (last * stripe + i) outside ∙ sym (take-past body rest i l))
        ]

-- and a later one goes
pub lies_gone : (stripe last rest size object : ℕ) (content : List ℕ) → last * stripe + rest ≡ size → rest < stripe → last < object → Lies stripe (cut_or_filled content size) object []
lies_gone stripe last rest size object content splits less high =
    record {
      small = omega arith;
      bytes = λ i h. (let outside : size ≤ object * stripe + i = omega (arith, row_below last object stripe high) in filled-past content size (object * stripe + i) outside);
    }
