-- what making a replica does to a store, what loading one finds there, and what is shown of it
use Rattle.std.specs.Prelude.{ℕ, ◌≡◌, ◌≢◌, ◌⊎◌, Bool, true, false, IsTrue, None, length, Result, Ok, Err, IfOk, List, [], ◌∷◌, ◌++◌}
use Rattle.disk_model.specs.declared.disk.Disk.{Ghosts}
use Rattle.xt_base.specs.Faults.{fault_count_after}
use Rattle.xt_messages.specs.declared.record.Record.{Record}
use Rattle.xt_journal.specs.Access.{limit_of, place_of}
use Rattle.xt_journal.specs.Append.{IsWithAllOrNone}
use Rattle.xt_protocol.specs.Folds.{fold_of}
use Rattle.object_store.specs.declared.store.Store.{Store}
use Rattle.object_store.specs.declared.waiting.Waiting.{Waiting}
use Rattle.object_store.specs.declared.waiting.StageErr.{StageErr}
use Rattle.object_store.specs.declared.waiting.StageErr.TheVariants as stage
use Rattle.object_store.specs.Access as store
use Rattle.object_store.specs.Texts.{texts_of}
use Rattle.object_store.specs.Waits.{CanBePut, IsOverLimit, needed_after, recs_of}
use Rattle.ronly_replica.specs.declared.pin.Pin.{Pin}
use Rattle.ronly_replica.specs.declared.replica.Ronly.{Ronly}
use Rattle.ronly_replica.specs.declared.errors.MakeErr.{MakeErr}
use Rattle.ronly_replica.specs.declared.errors.MakeErr.TheVariants as make
use Rattle.ronly_replica.specs.declared.errors.RonlyErr.{RonlyErr}
use Rattle.ronly_replica.specs.declared.errors.RonlyErr.TheVariants as err
use Rattle.ronly_replica.specs.Pins.{view_of, head_of, pins_of, held_in, Lacks}
use Rattle.ronly_replica.specs.Access.{pin_of, records_of, store_of, disk_of}
use Rattle.ronly_replica.specs.Disks.{LeftSo, limit_in}
use Rattle.ronly_replica.specs.Holding.{Shows}

-- what the files are pinned to that have a place in these records
abbrev pub pins_in : List Record → List Pin
pins_in records = pins_of (fold_of records).files

-- the records of a pin, in the order in which they are put
abbrev pub both_of : Pin → List Record
both_of pin = view_of pin ∷ head_of pin ∷ []

-- The records of a pin are there behind the others, and it is the only one. No object is held, where the records before said nothing of its
-- file.
pub record IsMade {D : Type 0} {g : Ghosts D} (old : Store D g) (pin : Pin) (new : Ronly D g) : Type 0 where
  pub pinned : pin_of new ≡ pin
  pub records : records_of new ≡ store.records_of old ++ both_of pin
  pub alone : pins_in (records_of new) ≡ pin ∷ []
  pub fresh : Lacks pin.file (store.records_of old) → (object : ℕ) → held_in pin (records_of new) object ≡ None

module _ {D : Type 0} {g : Ghosts D} where
  -- a journal has no room for the first record of a pin, or for both
  abbrev pub HasNoRoomFor : Store D g → Pin → ℕ → ℕ → Type 0
  HasNoRoomFor old pin need limit =
      IsOverLimit old (needed_after (place_of (store.journal_of old)) (view_of pin ∷ [])) need limit
      ⊎ IsOverLimit old (needed_after (place_of (store.journal_of old)) (both_of pin)) need limit

  -- what comes of letting the records of a pin wait: they can be put; or there is no room for them, or no memory
  abbrev pub WaitEnds : Store D g → Pin → Result Waiting StageErr → Type 0
  WaitEnds old pin (Ok waiting) = (recs_of waiting ≡ both_of pin) × CanBePut old (both_of pin)
  WaitEnds old pin (Err (stage.Full need limit)) = HasNoRoomFor old pin need limit
  WaitEnds old pin (Err stage.OutOfMemory) = Unit {0}

  -- what comes of making a replica: nothing is put unless there is room for all of it
  abbrev pub MakeEnds : Store D g → Pin → Result (Ronly D g) (MakeErr D g) → Type 0
  MakeEnds old pin (Ok new) = IsMade old pin new
  MakeEnds old pin (Err (make.Broken count disk)) = count ≡ g.fault_count disk
  MakeEnds old pin (Err (make.Full back need limit)) = (back ≡ old) × HasNoRoomFor old pin need limit
  MakeEnds old pin (Err (make.OutOfMemory disk)) = g.kept disk ≡ g.kept (store.disk_of old)

  -- the disk that it leaves
  abbrev pub disk_made : Result (Ronly D g) (MakeErr D g) → D
  disk_made (Ok new) = disk_of new
  disk_made (Err (make.Broken count disk)) = disk
  disk_made (Err (make.Full back need limit)) = store.disk_of back
  disk_made (Err (make.OutOfMemory disk)) = disk

  abbrev pub has_broken : Result (Ronly D g) (MakeErr D g) → Bool
  has_broken (Err (make.Broken count disk)) = true
  has_broken _ = false

  -- A crash at any moment leaves the old records, with both of the pin or with none of them; and the journal's limit stays.
  pub record MakeLeaves (old : Store D g) (pin : Pin) (result : Result (Ronly D g) (MakeErr D g)) : Type 0 where
    pub any_moment : LeftSo g (store.disk_of old) (disk_made result) (IsWithAllOrNone (texts_of (store.records_of old)) (texts_of (both_of pin)))
    pub faults : g.fault_count (disk_made result) ≡ fault_count_after (has_broken result) (g.fault_count (store.disk_of old))
    pub limit : IfOk result (λ new. limit_in new ≡ limit_of (store.journal_of old))

  -- It is the replica of the one file with a place; or there isn't one such file; or memory ran out, and the store is as it was.
  abbrev pub LoadEnds : Store D g → Result (Ronly D g) (RonlyErr D g) → Type 0
  LoadEnds old (Ok new) = (store_of new ≡ old) × (pins_in (store.records_of old) ≡ pin_of new ∷ [])
  LoadEnds old (Err (err.PinStore back pins)) = (back ≡ old) × (pins ≡ length (pins_in (store.records_of old))) × (pins ≢ 1)
  LoadEnds old (Err (err.Unloaded back)) = back ≡ old
  LoadEnds old (Err _) = ⊥

  -- The range is shown, and the replica is as it was; or memory ran out; or a read of the disk failed.
  abbrev pub ShownEnds : Ronly D g → ℕ → ℕ → Result (Ronly D g × List ℕ) (RonlyErr D g) → Type 0
  ShownEnds old from len (Ok made) = (made.0 ≡ old) × (IsTrue g.is_told → Shows (pin_of old) (records_of old) from len made.1)
  ShownEnds old from len (Err (err.OutOfMemory replica)) = replica ≡ old
  ShownEnds old from len (Err (err.Bodies count disk)) =
      (count ≡ g.fault_count disk) × (count ≡ fault_count_after true (g.fault_count (disk_of old))) × (IsTrue g.is_told → ⊥)
  ShownEnds old from len (Err _) = ⊥
