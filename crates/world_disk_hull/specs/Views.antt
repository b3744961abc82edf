-- what is shown of a node that keeps its records on a disk
use Rattle.std.specs.Prelude.{ℕ, ◌≡◌, ◌+◌, ◌%◌, Bool, Option, true, false, List, [], ◌∷◌, ◌++◌}
use Rattle.disk_model.specs.Changes.{Memory}
use Rattle.xt_messages.specs.declared.record.KeepBody.{KeepBody}
use Rattle.xt_messages.specs.declared.record.Record.{Record}
use Rattle.xt_protocol.specs.Forgetting.{rewritten}
use Rattle.world_spec.specs.World.{Deed, puts, rewrites}
use Rattle.journal_areas.specs.declared.superblock.Superblock.{Superblock}
use Rattle.world_hull.specs.declared.hull.Kept.{Kept}
use Rattle.world_hull.specs.declared.hull.Kept.TheVariants.{Done, StoppedKept, StoppedLost}
use Rattle.world_disk.specs.Room.{laid_by}
use Rattle.world_disk.specs.Stored as store
use Rattle.world_disk.specs.declared.TheConstants.{REWRITING_PERIOD}

-- its records in order, what was done to them, and the disk on which they stand
pub record StoredView : Type 0 where
  pub records : List Record
  pub past : List Deed
  pub disk : Memory

-- no record, on a disk without a byte
abbrev pub none_stored : StoredView
none_stored = record { records = []; past = []; disk = store.none_stored.disk }

-- what was done to a node's records after an append that ended so
abbrev pub own_past_after : List Deed → Record → Kept → List Deed
own_past_after past rec Done = past ++ puts rec ∷ []
own_past_after past rec StoppedKept = past ++ puts rec ∷ []
own_past_after past rec StoppedLost = past

-- a node's records were rewritten with these bodies, or it is as it was
abbrev pub OwnRewritten : StoredView → List KeepBody → Bool → StoredView → Type 0
OwnRewritten old keep true new = (new.records ≡ rewritten keep old.records) × (new.past ≡ old.past ++ rewrites keep ∷ [])
OwnRewritten old keep false new = new ≡ old

-- how many records were put, modulo the period, after an append that ended so
abbrev pub own_put_after : ℕ → Kept → ℕ
own_put_after put Done = (put + 1) % REWRITING_PERIOD
own_put_after put StoppedKept = (put + 1) % REWRITING_PERIOD
own_put_after put StoppedLost = put

-- These are a node's records, their journal's superblock, and the number of those that were put since the last load, modulo the period,
-- by what was done to them.
pub record IsLaidBy (past : List Deed) (records : List Record) (super : Option Superblock) (put : ℕ) : Type 0 where
  pub are : records ≡ (laid_by past).records
  pub superblock : super ≡ (laid_by past).superblock
  pub number : put ≡ (laid_by past).put % REWRITING_PERIOD
