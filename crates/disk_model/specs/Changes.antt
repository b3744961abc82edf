-- A disk in memory: the bytes that it was made with, and what was done since.
use Rattle.std.specs.Prelude.{ℕ, ◌≤◌, ◌≡◌, List, [], ◌∷◌, length, take, MatchOption}
use Rattle.disk_model.specs.declared.plan.Plan.{Plan}
use Rattle.disk_model.specs.Disk.{Kept, IsImage, IsFilled, at_rest, after_write, after_sync}

-- a write of a piece at a place, or a sync that succeeded
pub data Change : Type 0 where
  Write : ℕ → List ℕ → Change
  Sync : Change

abbrev pub kept_after : List Change → Kept → Kept
kept_after [] kept = kept
kept_after (Write place piece ∷ changes) kept = kept_after changes (after_write place piece kept)
kept_after (Sync ∷ changes) kept = kept_after changes (after_sync kept)

pub record Memory : Type 0 where
  pub first : List ℕ
  pub changes : List Change
  pub reserved : ℕ
  pub room : ℕ
  pub plan : Plan

abbrev pub memory_kept : Memory → Kept
memory_kept disk = kept_after disk.changes (at_rest disk.first)

-- a crash at one of the moments from t on might have left this
pub record MightHaveLeft (first : List ℕ) (changes : List Change) (t : ℕ) (image : List ℕ) : Type 0 where
  pub moment : ℕ
  pub since : t ≤ moment
  pub until : moment ≤ length changes
  pub is_image : IsImage (kept_after (take moment changes) (at_rest first)) image

-- what a crash leaves now: each place that isn't synced holds the byte of the stop, where there is one
abbrev pub IsLeft : Memory → List ℕ → Type 0
IsLeft disk image =
    MatchOption disk.plan.stop (image ≡ (memory_kept disk).read) (λ stop. IsFilled stop.fill (memory_kept disk) image)
