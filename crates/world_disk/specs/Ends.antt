-- how the disk of a node comes to its end, and a new one takes its place
use Rattle.std.specs.Prelude.{ℕ, List, [], ◌∷◌, ◌++◌}
use Rattle.disk_model.specs.Changes.{Memory, memory_kept, MightHaveLeft}
use Rattle.disk_model.specs.Disk.{IsImage, IsFilled, at_rest}
use Rattle.disk_model.specs.declared.plan.Stop.{Stop}
use Rattle.xt_messages.specs.declared.record.Record.{Record}
use Rattle.replica_records.specs.RecordText.{record_text}
use Rattle.xt_journal.specs.Append.{payloads_after_stop}
use Rattle.xt_journal.specs.Format.{StandsFor}
use Rattle.xt_journal.specs.Loaded.{LeavesAsBefore}
use Rattle.object_store.specs.Texts.{texts_of}
use Rattle.world_hull.specs.declared.hull.Kept.{Kept}
use Rattle.world_hull.specs.declared.hull.Kept.TheVariants.{Done, StoppedKept, StoppedLost}
use Rattle.world_disk.specs.Disks.{AreOn}

-- a node's records after an append that ended so
abbrev pub own_after : List Record → Record → Kept → List Record
own_after records rec Done = records ++ rec ∷ []
own_after records rec StoppedKept = records ++ rec ∷ []
own_after records rec StoppedLost = records

-- The disk began with these bytes, and was only loaded since: a crash at any moment since it was made leaves these bytes, or,
-- where they can hold no record, what is torn while they are made a journal.
abbrev pub IsLoadedWith : List ℕ → Memory → Type 0
IsLoadedWith bytes disk = (image : List ℕ) → MightHaveLeft disk.first disk.changes 0 image → LeavesAsBefore (at_rest bytes) image

-- a node started on a disk with these bytes, and they stand for its records
pub record IsStartedFrom (image : List ℕ) (disk : Memory) (records : List Record) : Type 0 where
  pub loaded : IsLoadedWith image disk
  pub stand : ∥ AreOn image records ∥₁

-- the node started again from what a crash leaves of its old disk
pub record IsReadAgain (old new : Memory) (records : List Record) : Type 0 where
  pub image : List ℕ
  pub left : IsImage (memory_kept old) image
  pub started : IsStartedFrom image new records

-- The node stopped in this append, in the stop's call. Whatever the byte, what a crash leaves of its disk is a journal of the records that
-- this call leaves; with the stop's byte, it leaves these bytes.
pub record IsLeftBy (stop : Stop) (records : List Record) (rec : Record) (image : List ℕ) : Type 0 where
  pub disk : Memory
  pub tells : (fill : ℕ) (bytes : List ℕ) → IsFilled fill (memory_kept disk) bytes
      → StandsFor bytes (payloads_after_stop stop.call fill (texts_of records) (record_text rec))
  pub left : IsFilled stop.fill (memory_kept disk) image

-- it started again from what that left
pub record IsReadAfter (stop : Stop) (records : List Record) (rec : Record) (new : Memory) : Type 0 where
  pub image : List ℕ
  pub left : IsLeftBy stop records rec image
  pub loaded : IsLoadedWith image new
