-- The laws of a disk in memory: its images are those of its record, and a read gives one of them.
use Rattle.std.specs.Prelude.{ℕ, ◌+◌, ◌-◌, ◌<◌, ◌≤◌, ◌≡◌, ◌⊎◌, true, false, not, nat_lt, max, List, [], ◌∷◌, ◌++◌, length, take, drop, refl}
use Rattle.std.specs.List.{list_any}
use Rattle.std.proofs.Common.{get_or, sym, ◌∙◌, ap, subst, inl, inr, ⊎_elim, arith, length-append, length-drop, length-take}
use Rattle.std.proofs.lemmas.List.{get_or_append_left, get_or-append_right, get_or-take, get_or-drop, length-replicate, take_all}
use Rattle.std.proofs.lemmas.List.Folds.{list_any-append}
use Rattle.std.proofs.lemmas.Bool.{and_parts, and_from, or_parts, and_cases, not-true, not_from_false, ltb-true, ltb-false, leb-false}
use Rattle.std.proofs.Math.Bool.{or-false}
use Rattle.disk_model.specs.Disk.{Range, Kept, IsImage, at_rest, is_inside, is_synced, greatest_end, reach, range_of, after_write, after_sync}
use Rattle.xt_base.specs.Overlay.{overlay, zeros}
use Rattle.disk_model.specs.Changes.{Change, Write, Sync, Memory, memory_kept, kept_after, MightHaveLeft}

-- what an overlay begins with: the bytes up to its place, with zeros where they end before it
abbrev start : ℕ → List ℕ → List ℕ
start place bytes = take place bytes ++ zeros (place - length bytes)

start_length : (place : ℕ) (bytes : List ℕ) → length (start place bytes) ≡ place
start_length place bytes =
    omega (arith, length-append (take place bytes) (zeros (place - length bytes)), length-take place bytes, length-replicate {A = ℕ} (place - length bytes) 0)

written_length : (place : ℕ) (piece bytes : List ℕ) → length (start place bytes ++ piece) ≡ place + length piece
written_length place piece bytes = omega (arith, start_length place bytes, length-append (start place bytes) piece)

pub length-overlay : (place : ℕ) (piece bytes : List ℕ) → length (overlay bytes place piece) ≡ max (length bytes) (place + length piece)
length-overlay place piece bytes =
    omega (arith, written_length place piece bytes, length-append (start place bytes ++ piece) (drop (place + length piece) bytes), length-drop (place + length piece) bytes)

-- a byte outside the range stays
pub overlay_outside : (place : ℕ) (piece bytes : List ℕ) (i : ℕ) → i < length bytes → (i < place) ⊎ (place + length piece ≤ i) → get_or (overlay bytes place piece) i 0 ≡ get_or bytes i 0
overlay_outside place piece bytes i inside (inl below) =
    get_or_append_left (start place bytes ++ piece) (drop (place + length piece) bytes) 0 i (omega (arith, written_length place piece bytes))
    ∙ get_or_append_left (start place bytes) piece 0 i (omega (arith, start_length place bytes))
    ∙ get_or_append_left (take place bytes) (zeros (place - length bytes)) 0 i (omega (arith, length-take place bytes))
    ∙ get_or-take place bytes i 0 below
overlay_outside place piece bytes i inside (inr above) =
    let end = place + length piece in
    let at : end + (i - end) ≡ i = omega arith in
    get_or-append_right (start place bytes ++ piece) (drop end bytes) end i 0 (written_length place piece bytes) above
    ∙ get_or-drop end bytes (i - end) 0 ∙ ap (λ (k : ℕ). get_or bytes k 0) at

pub greatest_end-append : (ranges : List Range) (range : Range) → greatest_end (ranges ++ range ∷ []) ≡ max (greatest_end ranges) range.end
greatest_end-append [] range = omega arith
greatest_end-append (r ∷ ranges) range = omega (arith, greatest_end-append ranges range)

outside : (place : ℕ) (range : Range) → is_inside place range ≡ false → (place < range.start) ⊎ (range.end ≤ place)
outside place range not_in = ⊎_elim (λ below. inl (leb-false range.start place below)) (λ above. inr (ltb-false place range.end above)) (and_cases _ _ not_in)

-- what is synced after a write was synced before it, and lies outside the range
pub synced_before : (kept : Kept) (at : ℕ) (piece : List ℕ) (place : ℕ) → is_synced (after_write at piece kept) place ≡ true
    → (is_synced kept place ≡ true) × (place < length kept.synced) × ((place < at) ⊎ (at + length piece ≤ place))
synced_before kept at piece place synced =
    let parts = and_parts (nat_lt place (length kept.synced)) (not (list_any (is_inside place) (kept.written ++ range_of at piece ∷ []))) synced in
    let none = or_parts _ _ (sym (list_any-append (is_inside place) kept.written (range_of at piece ∷ [])) ∙ not-true _ parts.1) in
    let last : is_inside place (range_of at piece) ≡ false = sym (or-false (is_inside place (range_of at piece))) ∙ none.1 in
    (and_from _ _ parts.0 (not_from_false _ none.0), ltb-true place (length kept.synced) parts.0, outside place (range_of at piece) last)

rest_image : (bytes : List ℕ) → IsImage (at_rest bytes) bytes
rest_image bytes = record { no_shorter = omega arith; no_longer = omega arith; same = λ place synced. refl }

write_image : (at : ℕ) (piece : List ℕ) (kept : Kept) → IsImage kept kept.read → IsImage (after_write at piece kept) (overlay kept.read at piece)
write_image at piece kept image =
    let size = length-overlay at piece kept.read in
    let far = greatest_end-append kept.written (range_of at piece) in
    record {
      no_shorter = omega (arith, size, image.no_shorter);
      no_longer = omega (arith, size, far, image.no_longer);
      same = λ place synced.
          let before = synced_before kept at piece place synced in
          overlay_outside at piece kept.read place (omega (arith, image.no_shorter, before.1)) before.2 ∙ image.same place before.0;
    }

kept_image : (changes : List Change) (kept : Kept) → IsImage kept kept.read → IsImage (kept_after changes kept) (kept_after changes kept).read
kept_image [] kept image = image
kept_image (Write at piece ∷ changes) kept image = kept_image changes (after_write at piece kept) (write_image at piece kept image)
kept_image (Sync ∷ changes) kept image = kept_image changes (after_sync kept) (rest_image kept.read)

pub memory_read_is_image : (disk : Memory) → IsImage (memory_kept disk) (memory_kept disk).read
memory_read_is_image disk = kept_image disk.changes (at_rest disk.first) (rest_image disk.first)

pub memory_counts_now : (disk : Memory) (t : ℕ) (image : List ℕ) → t ≤ length disk.changes → IsImage (memory_kept disk) image → MightHaveLeft disk.first disk.changes t image
memory_counts_now disk t image le now = record {
  moment = length disk.changes;
  since = le;
  until = omega arith;
  is_image = subst (λ (changes : List Change). IsImage (kept_after changes (at_rest disk.first)) image) (sym (take_all (length disk.changes) disk.changes (omega arith))) now;
}

pub memory_only_now : (disk : Memory) (image : List ℕ) → MightHaveLeft disk.first disk.changes (length disk.changes) image → IsImage (memory_kept disk) image
memory_only_now disk image left =
    let whole : take left.moment disk.changes ≡ disk.changes = take_all left.moment disk.changes left.since in
    subst (λ (changes : List Change). IsImage (kept_after changes (at_rest disk.first)) image) whole left.is_image

write_reach : (at : ℕ) (piece : List ℕ) (kept : Kept) → length kept.read ≡ reach kept → length (overlay kept.read at piece) ≡ reach (after_write at piece kept)
write_reach at piece kept is = omega (arith, is, length-overlay at piece kept.read, greatest_end-append kept.written (range_of at piece))

kept_reach : (changes : List Change) (kept : Kept) → length kept.read ≡ reach kept → length (kept_after changes kept).read ≡ reach (kept_after changes kept)
kept_reach [] kept is = is
kept_reach (Write at piece ∷ changes) kept is = kept_reach changes (after_write at piece kept) (write_reach at piece kept is)
kept_reach (Sync ∷ changes) kept is = kept_reach changes (after_sync kept) (omega arith)

-- a read gives all that was written
pub memory_reach : (disk : Memory) → length (memory_kept disk).read ≡ reach (memory_kept disk)
memory_reach disk = kept_reach disk.changes (at_rest disk.first) (omega arith)
