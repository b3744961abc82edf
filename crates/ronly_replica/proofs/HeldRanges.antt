-- what is shown of held objects that are the ranges of a content is the range of it
use Rattle.std.proofs.Common.{◌≡◌, ℕ, zero, suc, ◌+◌, ◌-◌, ◌*◌, ◌/◌, ◌<◌, ◌≤◌, inl, inr, List, [], ◌∷◌, ◌++◌, length, map, take, drop, refl, ap, ◌∙◌, subst, arith, Option, Some, Bool, true, false}
use Rattle.std.specs.Prelude.{min, ◌==◌, if◌then◌else◌}
use Rattle.std.specs.List.{AllByRecursion, range_with_len}
use Rattle.std.proofs.lemmas.Bool.{cases_lt}
use Rattle.std.proofs.lemmas.Bool.Decides.{nat_tests}
use Rattle.std.proofs.lemmas.List.{append-nil, length-take, length-drop}
use Rattle.std.proofs.Math.Nat.{le-div_iff_mul-le, suc-mul}
use Rattle.xt_base.specs.Overlay.{cut_or_filled, zeros}
use Rattle.xt_messages.specs.declared.record.Record.{Record}
use Rattle.time_line.specs.Content.{place_of}
use Rattle.striping.specs.declared.Piece.{Piece}
use Rattle.striping.specs.Cover.{Covers, object_of, bytes_of}
use Rattle.ronly_replica.specs.declared.pin.Pin.{Pin}
use Rattle.ronly_replica.specs.Pins.{stage_of, held_in, or_empty, shown_in, objects_below, IsRangeOf, AreRanges}
use Rattle.ronly_replica.specs.Holding.{Fetching, Holds, begun, was_held, fetched}
use Rattle.ronly_replica.proofs.Frozen.{held_push, still_held, staged_here}

-- ---- each object of a chain is held

pub record IsHeld (pin : Pin) (records : List Record) (object : ℕ) : Type 0 where
  pub bytes : List ℕ
  pub here : held_in pin records object ≡ Some bytes

all_push : {X : Type 0} (P : X → Type 0) (xs : List X) (x : X) → AllByRecursion P xs → P x → AllByRecursion P (xs ++ x ∷ [])
all_push P [] x all is = (is, tt)
all_push P (y ∷ ys) x all is = (all.0, all_push P ys x all.1 is)

all_along : {X : Type 0} (P Q : X → Type 0) (xs : List X) → AllByRecursion P xs → ((x : X) → P x → Q x) → AllByRecursion Q xs
all_along P Q [] all so = tt
all_along P Q (x ∷ xs) all so = (so x all.0, all_along P Q xs all.1 so)

-- an object more: what was held is held
grown : (pin : Pin) (records : List Record) (rec : Record) (object : ℕ) → IsHeld pin records object → IsHeld pin (records ++ rec ∷ []) object
grown pin records rec object h =
    let now = still_held (held_in pin records object) _ h.bytes h.here in
    record { bytes = now.0; here = held_push pin records rec object ∙ now.1 }

module _ {O : Type 0} (fetches : Fetching O) (pin : Pin) where
  pub all_held : (records : List Record) (start : O) (objects : List ℕ) (now : List Record) (origin : O) → Holds fetches true pin records start objects now origin
      → AllByRecursion (IsHeld pin now) objects
  all_held records start objects now origin begun = tt
  all_held records start objects now origin (was_held front later o object bytes so_far here) =
      all_push (IsHeld pin later) front object (all_held records start front later o so_far) (record { bytes = bytes; here = here })
  all_held records start objects now origin (fetched front later between after object made so_far none does same) =
      let rec = stage_of pin object made.bytes in
      all_push (IsHeld pin (later ++ rec ∷ [])) front object
      (all_along (IsHeld pin later) (IsHeld pin (later ++ rec ∷ [])) front (all_held records start front later between so_far) (grown pin later rec))
      (let here = staged_here pin later object made.bytes in record { bytes = made.bytes; here = here })

-- ---- each piece of a range is of one of its objects

pub picked : (P : ℕ → Type 0) (first count : ℕ) → AllByRecursion P (range_with_len first count) → (x : ℕ) → first ≤ x → x < first + count → P x
picked P first zero all x le lt = absurd (omega arith)
picked P first (suc count) all x le lt = elim (cases_lt first x) as (λ w. P x) [
  | inl less ↦ picked P (first + 1) count all.1 x (omega arith) (omega arith)
  | inr same ↦ (let is : first ≡ x = omega arith in subst P is all.0)
]

-- an object of a piece is not before the first one of the range, and below its end
not_before : (stripe object at from first : ℕ) → 0 < stripe → place_of stripe object at ≡ from → at < stripe → first ≤ from → first / stripe ≤ object
not_before stripe object at from first some is inside le = elim (cases_lt object (first / stripe)) as (λ w. first / stripe ≤ object) [
  | inl above ↦ absurd (let more : suc object * stripe ≤ first = (le-div_iff_mul-le {k = stripe} {x = suc object} {y = first} some).0 (omega arith) in
      let wide : suc object * stripe ≡ object * stripe + stripe = suc-mul object stripe in omega arith)
  | inr le ↦ le
]

below_end : (stripe object at from end : ℕ) → 0 < stripe → place_of stripe object at ≡ from → from < end → object < (end - 1) / stripe + 1
below_end stripe object at from end some is lt =
    let within : object * stripe ≤ end - 1 = omega arith in
    let at_most : object ≤ (end - 1) / stripe = (le-div_iff_mul-le {k = stripe} {x = object} {y = end - 1} some).1 within in
    omega arith

-- ---- a piece that is held is that of the content

zeros_none : (n : ℕ) → n ≡ 0 → zeros n ≡ []
zeros_none n is = ap zeros is

filled_whole : (bytes : List ℕ) (len : ℕ) → len ≤ length bytes → cut_or_filled bytes len ≡ take len bytes
filled_whole bytes len le =
    let none : len - length bytes ≡ 0 = omega arith in
    ap (λ end. take len bytes ++ end) (zeros_none (len - length bytes) none) ∙ append-nil (take len bytes)

-- how much of an object there is behind a place of it
left_of : (stripe object at len : ℕ) (whole : List ℕ) → at + len ≤ stripe → place_of stripe object at + len ≤ length whole → len ≤ length (drop at (object_of stripe whole object))
left_of stripe object at len whole inside within =
    let size : length (object_of stripe whole object) ≡ min stripe (length whole - object * stripe)
    = length-take stripe (drop (object * stripe) whole) ∙ ap (min stripe) (length-drop (object * stripe) whole) in
    omega (arith, size, length-drop at (object_of stripe whole object))

module _ (pin : Pin) (whole : List ℕ) (records : List Record) (ranges : AreRanges pin records whole) where
  shown_held : (piece : Piece) (o : Option (List ℕ)) → held_in pin records piece.object ≡ o → (b : List ℕ) → o ≡ Some b
      → b ≡ object_of pin.location.stripe whole piece.object
  shown_held piece o is b some =
      let range : IsRangeOf pin.location.stripe whole piece.object (Some b) = subst (IsRangeOf pin.location.stripe whole piece.object) (is ∙ some) (ranges piece.object) in
      range

  pub shown_piece : (piece : Piece) → IsHeld pin records piece.object → piece.at + piece.len ≤ pin.location.stripe
      → place_of pin.location.stripe piece.object piece.at + piece.len ≤ length whole → shown_in pin records piece ≡ bytes_of pin.location.stripe whole piece
  shown_piece piece held inside within =
      let is : held.bytes ≡ object_of pin.location.stripe whole piece.object = shown_held piece (held_in pin records piece.object) refl held.bytes held.here in
      let body : or_empty (held_in pin records piece.object) ≡ object_of pin.location.stripe whole piece.object = ap or_empty held.here ∙ is in
      ap (λ b. cut_or_filled (drop piece.at b) piece.len) body
      ∙ filled_whole (drop piece.at (object_of pin.location.stripe whole piece.object)) piece.len
      (left_of pin.location.stripe piece.object piece.at piece.len whole inside within)

  -- all pieces of a range whose objects are held
  pub shown_pieces : (at from end first count : ℕ) (pieces : List Piece) → 0 < pin.location.stripe → end ≤ length whole → at ≤ from
      → first ≡ at / pin.location.stripe → first + count ≡ objects_below pin.location.stripe end
      → AllByRecursion (IsHeld pin records) (range_with_len first count)
      → Covers pin.location.stripe 1 from end pieces → map (shown_in pin records) pieces ≡ map (bytes_of pin.location.stripe whole) pieces
  shown_pieces at from end first count [] some within le first_is count_is held covers = refl
  shown_pieces at from end first count (piece ∷ pieces) some within le first_is count_is held covers =
      let is = covers.0 in
      let stripe = pin.location.stripe in
      let begins = is.begins in
      let long = is.some in
      let fits = is.within in
      let inside = is.inside in
      let low : at / stripe ≤ piece.object = not_before stripe piece.object piece.at from at some begins (omega arith) le in
      let high : piece.object < (end - 1) / stripe + 1 = below_end stripe piece.object piece.at from end some begins (omega arith) in
      let there : IsHeld pin records piece.object
      = picked (IsHeld pin records) first count held piece.object (omega (arith, first_is, low)) (below_count end (omega arith) high) in
      let one : shown_in pin records piece ≡ bytes_of stripe whole piece
      = shown_piece piece there inside (omega arith) in
      let rest : map (shown_in pin records) pieces ≡ map (bytes_of stripe whole) pieces
      = shown_pieces at (from + piece.len) end first count pieces some within (omega arith) first_is count_is held covers.1 in
      ap (λ b. b ∷ map (shown_in pin records) pieces) one ∙ ap (λ bs. bytes_of stripe whole piece ∷ bs) rest
    where
      below_count : (e : ℕ) → 0 < end → piece.object < (end - 1) / pin.location.stripe + 1 → piece.object < first + count
      below_count e more high = by_none (end == 0) refl
        where
          by_none : (b : Bool) → (end == 0) ≡ b → piece.object < first + count
          by_none true is = absurd (grind (arith, nat_tests))
          by_none false is =
              let sum : first + count ≡ (end - 1) / pin.location.stripe + 1
              = count_is ∙ ap (λ b. if b then 0 else (end - 1) / pin.location.stripe + 1) is in
              omega (arith, sum)
