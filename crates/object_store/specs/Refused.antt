-- Why payloads aren't read as records.
use Rattle.std.specs.Prelude.{ℕ, ◌≡◌, Bool, true, IsTrue, Result, Ok, Err, List, length}
use Rattle.journal_moves.specs.declared.extent.Extent.{Extent}
use Rattle.xt_messages.specs.declared.record.Record.{Record}
use Rattle.xt_journal.specs.Placed.{Placed, placed_on}
use Rattle.xt_journal.specs.Reading.{payloads_of}
use Rattle.object_store.specs.declared.loading.Trouble.{Trouble}
use Rattle.object_store.specs.declared.loading.Trouble.TheVariants.{BadRecord, DiskFault, OutOfMemory}
use Rattle.object_store.specs.declared.log.StoreLog.{StoreLog}
use Rattle.object_store.specs.Bare.{bare_of}
use Rattle.object_store.specs.Logs.{bare_in, places_in}
use Rattle.object_store.specs.Places.{places_of}
use Rattle.object_store.specs.Texts.{texts_of, AreRecords, IsFirstBad}

-- The payloads are the texts of records, each within its limits and in its place, and the log has these without their bodies, and the
-- places of the bodies.
pub record IsLogOf (placed : List Placed) (log : StoreLog) : Type 0 where
  pub records : List Record
  pub texts : texts_of records ≡ payloads_of placed
  pub are : AreRecords records
  pub bare : bare_in log ≡ bare_of records
  pub places : places_in log ≡ places_of placed records

-- these are what a read of the disk gives at these extents; as many others where contracts don't know what it gives
pub record AreFrom (told : Bool) (read : List ℕ) (extents : List Extent) (placed : List Placed) : Type 0 where
  pub size : length placed ≡ length extents
  pub from : IsTrue told → placed ≡ placed_on true read extents

-- The payloads at these extents are records in their places; or the first payload is reported that is no record in its place.
abbrev pub IsReadFrom : Bool → List ℕ → List Extent → Result StoreLog Trouble → Type 0
IsReadFrom told read extents (Ok log) = (placed : List Placed) × AreFrom told read extents placed × IsLogOf placed log
IsReadFrom told read extents (Err (BadRecord index)) = (placed : List Placed) × AreFrom told read extents placed × IsFirstBad (payloads_of placed) index
IsReadFrom told read extents (Err DiskFault) = Unit {0}
IsReadFrom told read extents (Err OutOfMemory) = Unit {0}
