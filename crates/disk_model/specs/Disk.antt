-- What a disk keeps, what its calls do to that, and what a crash may leave of it.
use Rattle.std.specs.Prelude.{ℕ, ◌+◌, ◌<◌, ◌≤◌, ◌≡◌, ◌⊎◌, Bool, true, false, not, ◌&&◌, nat_le, nat_lt, max, List, [], ◌∷◌, ◌++◌, length, slice_index}
use Rattle.std.specs.List.{list_any}
use Rattle.xt_base.specs.Overlay.{overlay}

-- the places from start up to end, which is outside
pub record Range : Type 0 where
  pub start : ℕ
  pub end : ℕ

-- the bytes that a read gives, those of the last sync that succeeded, and the ranges that were written since
pub record Kept : Type 0 where
  pub read : List ℕ
  pub synced : List ℕ
  pub written : List Range

-- these bytes, all of them synced
abbrev pub at_rest : List ℕ → Kept
at_rest bytes = record { read = bytes; synced = bytes; written = [] }

abbrev pub is_inside : ℕ → Range → Bool
is_inside place range = nat_le range.start place && nat_lt place range.end

abbrev pub greatest_end : List Range → ℕ
greatest_end [] = 0
greatest_end (range ∷ ranges) = max range.end (greatest_end ranges)

-- how far there may be bytes after a crash
abbrev pub reach : Kept → ℕ
reach kept = max (length kept.synced) (greatest_end kept.written)

-- whether a crash leaves this place as it was synced
abbrev pub is_synced : Kept → ℕ → Bool
is_synced kept place = nat_lt place (length kept.synced) && not (list_any (is_inside place) kept.written)

-- A crash may leave this: the synced bytes where nothing was written since, any bytes elsewhere, and a length
-- between the synced one and the reach.
pub record IsImage (kept : Kept) (image : List ℕ) : Type 0 where
  pub no_shorter : length kept.synced ≤ length image
  pub no_longer : length image ≤ reach kept
  pub same : (place : ℕ) → is_synced kept place ≡ true → slice_index image place ≡ slice_index kept.synced place

-- the longest image, with this byte at each place that isn't synced
pub record IsFilled (fill : ℕ) (kept : Kept) (image : List ℕ) : Type 0 where
  pub size : length image ≡ reach kept
  pub same : (place : ℕ) → is_synced kept place ≡ true → slice_index image place ≡ slice_index kept.synced place
  pub filled : (place : ℕ) → place < reach kept → is_synced kept place ≡ false → slice_index image place ≡ fill

abbrev pub range_of : ℕ → List ℕ → Range
range_of place piece = record { start = place; end = place + length piece }

abbrev pub after_write : ℕ → List ℕ → Kept → Kept
after_write place piece kept = record {
  read = overlay kept.read place piece;
  synced = kept.synced;
  written = kept.written ++ range_of place piece ∷ [];
}

abbrev pub after_sync : Kept → Kept
after_sync kept = at_rest kept.read

-- A write changes what a read gives where it succeeds. Also where it fails, its range is one of those written.
pub record Writes (place : ℕ) (piece : List ℕ) (old new : Kept) (failed : Bool) : Type 0 where
  pub done : failed ≡ false → new ≡ after_write place piece old
  pub synced : new.synced ≡ old.synced
  pub written : new.written ≡ old.written ++ range_of place piece ∷ []

-- A sync that fails changes nothing.
pub record Syncs (old new : Kept) (failed : Bool) : Type 0 where
  pub done : failed ≡ false → new ≡ after_sync old
  pub undone : failed ≡ true → new ≡ old

-- Time goes on: a crash since t might have left what it might have left before, or what it may leave now.
pub record Elapses (before now : ℕ) (past since : ℕ → List ℕ → Type 0) (kept : Kept) : Type 0 where
  pub later : before ≤ now
  pub nothing_else : (t : ℕ) (image : List ℕ) → t ≤ before → since t image → past t image ⊎ IsImage kept image
  pub keeps : (t : ℕ) (image : List ℕ) → t ≤ before → past t image → since t image

-- a crash at any moment since the old disk leaves what has P
pub record LeavesOnly {D : Type 0} (moment : D → ℕ) (left_since : D → ℕ → List ℕ → Type 0) (old new : D) (P : List ℕ → Type 0) : Type 0 where
  pub later : moment old ≤ moment new
  pub each : (image : List ℕ) → left_since new (moment old) image → P image
  -- for a run that began earlier
  pub before : (t : ℕ) (image : List ℕ) → t ≤ moment old → left_since new t image → left_since old t image ⊎ P image

-- Of the coming calls this one came, after as many that look and as many that change: it failed as was planned.
pub record GoesByPlan (looks changes : ℕ) (old new : ℕ → ℕ → Bool) (failed : Bool) : Type 0 where
  pub answer : failed ≡ old looks changes
  pub rest : (l c : ℕ) → new l c ≡ old (looks + l) (changes + c)
