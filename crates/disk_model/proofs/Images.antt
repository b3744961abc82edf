-- What an image is made of.
use Rattle.std.proofs.Common.{◌≡◌, ℕ, ◌+◌, ◌<◌, ◌≤◌, false, List, length, get_or, take, drop, refl, sym, ◌∙◌, ap, subst, arith, length-drop}
use Rattle.std.proofs.lemmas.Bool.{and_from, not_from_false, lt-ltb, lt-leb, le-ltb, or_from, and_left, and_right}
use Rattle.std.proofs.lemmas.List.{get_or-take, get_or-drop, length-take-le}
use Rattle.std.proofs.lemmas.Grind.{same_number_lists}
use Rattle.disk_model.specs.Disk.{Kept, Range, IsImage, at_rest, is_inside, after_write, range_of}

-- a crash leaves a disk at rest as it is
pub rest_stays : (bytes image : List ℕ) → IsImage (at_rest bytes) image → image ≡ bytes
rest_stays bytes image is =
    let size : length image ≡ length bytes = omega (arith, is.no_shorter, is.no_longer) in
    same_number_lists image bytes size (λ k inside. is.same k (and_from _ _ (lt-ltb k (length bytes) (omega (arith, inside, size))) refl))

-- what was synced and what was written since decide what a crash may leave
pub same_images : (one two : Kept) (image : List ℕ) → one.synced ≡ two.synced → one.written ≡ two.written → IsImage one image → IsImage two image
same_images one two image synced written is =
    let P : List ℕ → List Range → Type 0 = λ bytes ranges. IsImage (record { read = two.read; synced = bytes; written = ranges }) image in
    let start : P one.synced one.written = record { no_shorter = is.no_shorter; no_longer = is.no_longer; same = is.same } in
    let end : P two.synced two.written = subst (λ (ranges : List Range). P two.synced ranges) written (subst (λ (bytes : List ℕ). P bytes one.written) synced start) in
    record { no_shorter = end.no_shorter; no_longer = end.no_longer; same = end.same }

-- a write that isn't begun is one that may be torn
pub unbegun : (at : ℕ) (piece bytes image : List ℕ) → IsImage (at_rest bytes) image → IsImage (after_write at piece (at_rest bytes)) image
unbegun at piece bytes image is =
    let stays = rest_stays bytes image is in
    record { no_shorter = is.no_shorter; no_longer = omega (arith, ap length stays); same = λ k synced. ap (λ (l : List ℕ). get_or l k 0) stays }

below : (place start end : ℕ) → place < start → is_inside place (record { start = start; end = end }) ≡ false
below place start end before = and_left _ _ (lt-leb start place before)

above : (place start end : ℕ) → end ≤ place → is_inside place (record { start = start; end = end }) ≡ false
above place start end behind = and_right _ _ (le-ltb place end behind)

module _ (bytes : List ℕ) (at : ℕ) (piece image : List ℕ) (is : IsImage (after_write at piece (at_rest bytes)) image) where
  here : (place : ℕ) → place < length bytes → is_inside place (range_of at piece) ≡ false → get_or image place 0 ≡ get_or bytes place 0
  here place inside outside =
      is.same place (and_from _ _ (lt-ltb place (length bytes) inside) (not_from_false _ (or_from _ _ outside refl)))

  -- the bytes before the range of a write stay
  pub front_stays : (n : ℕ) → n ≤ at → n ≤ length bytes → take n image ≡ take n bytes
  front_stays n before long =
      let one : length (take n image) ≡ n = length-take-le n image (omega (arith, long, is.no_shorter)) in
      let two : length (take n bytes) ≡ n = length-take-le n bytes long in
      same_number_lists (take n image) (take n bytes) (one ∙ sym two)
      (λ k inside.
      let less : k < n = omega (arith, inside, one) in
      get_or-take n image k 0 less ∙ here k (omega (arith, less, long)) (below k at (at + length piece) (omega (arith, less, before))) ∙ sym (get_or-take n bytes k 0 less))

  pub size_stays : at + length piece ≤ length bytes → length image ≡ length bytes
  size_stays inside = omega (arith, is.no_shorter, is.no_longer, inside)

  -- and so do those after it
  pub back_stays : at + length piece ≤ length bytes → drop (at + length piece) image ≡ drop (at + length piece) bytes
  back_stays inside =
      let n = at + length piece in
      let size = size_stays inside in
      same_number_lists (drop n image) (drop n bytes) (omega (arith, size, length-drop n image, length-drop n bytes))
      (λ k less.
      get_or-drop n image k 0
      ∙ here (n + k) (omega (arith, less, size, length-drop n image)) (above (n + k) at (at + length piece) (omega arith))
      ∙ sym (get_or-drop n bytes k 0))
