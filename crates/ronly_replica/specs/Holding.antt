-- How objects come to be held: one after the other, each held already, or fetched at the pin's count and put; and why one isn't.
use Rattle.std.specs.Prelude.{ℕ, ◌≡◌, ◌≢◌, ◌+◌, ◌-◌, ◌⊎◌, Bool, false, IsTrue, Option, Some, None, Result, Ok, Err, List, [], ◌∷◌, ◌++◌}
use Rattle.disk_model.specs.declared.disk.Disk.{Ghosts}
use Rattle.xt_journal.specs.Format.{StandsFor}
use Rattle.xt_messages.specs.declared.record.Record.{Record}
use Rattle.replica_records.specs.Known.{as_known}
use Rattle.object_store.specs.Puts.{needed_for}
use Rattle.object_store.specs.Texts.{texts_of}
use Rattle.object_store.specs.Waits.{IsOverLimit}
use Rattle.time_line.specs.Content.{range_of}
use Rattle.striping.specs.declared.Piece.{Piece}
use Rattle.striping.specs.Cover.{Covers}
use Rattle.ronly_replica.specs.declared.pin.Pin.{Pin}
use Rattle.ronly_replica.specs.declared.origin.Fetched.{Fetched}
use Rattle.ronly_replica.specs.declared.origin.OriginErr.{OriginErr}
use Rattle.ronly_replica.specs.Faults.{is_memory}
use Rattle.ronly_replica.specs.declared.replica.Ronly.{Ronly}
use Rattle.ronly_replica.specs.declared.errors.RonlyErr.{RonlyErr}
use Rattle.ronly_replica.specs.declared.errors.RonlyErr.TheVariants as err
use Rattle.ronly_replica.specs.Pins.{stage_of, held_in, all_shown, end_of, objects_of, IsPinOf, AreRanges}
use Rattle.ronly_replica.specs.Access.{pin_of, records_of, store_of}

-- what a fetch of an object does, by an origin's own definition
abbrev pub Fetching : Type 0 → Type 1
Fetching O = O → ℕ → Result Fetched OriginErr → O → Type 0

-- These objects are held, in a store that had these records and has those now: each was held when its turn came, or was fetched at the
-- pin's count and put.
pub data Holds {O : Type 0} (fetches : Fetching O) (told : Bool) (pin : Pin) (records : List Record) (start : O)
    : List ℕ → List Record → O → Type 0 where
  begun : Holds fetches told pin records start [] records start
  was_held : (objects : List ℕ) (now : List Record) (origin : O) (object : ℕ) (bytes : List ℕ)
      → Holds fetches told pin records start objects now origin → held_in pin now object ≡ Some bytes
      → Holds fetches told pin records start (objects ++ object ∷ []) now origin
  fetched : (objects : List ℕ) (now : List Record) (between after : O) (object : ℕ) (made : Fetched)
      → Holds fetches told pin records start objects now between → held_in pin now object ≡ None
      → fetches between object (Ok made) after → made.count ≡ pin.count
      → Holds fetches told pin records start (objects ++ object ∷ []) (now ++ as_known told (stage_of pin object made.bytes) ∷ []) after

-- A crash leaves a store in which some front of the objects is held.
pub record LeavesHeld {O : Type 0} (fetches : Fetching O) (told : Bool) (pin : Pin) (records : List Record) (start : O) (objects image : List ℕ) : Type 0 where
  pub front : List ℕ
  pub rest : List ℕ
  pub split : objects ≡ front ++ rest
  pub now : List Record
  pub between : O
  pub holds : Holds fetches told pin records start front now between
  pub stands : StandsFor image (texts_of now)

-- ---- why one isn't

-- an object was fetched, and not at the pin's count
pub record WasMoved {O : Type 0} (fetches : Fetching O) (pin : Pin) (between after : O) (object count : ℕ) : Type 0 where
  pub made : Fetched
  pub fetched : fetches between object (Ok made) after
  pub other : made.count ≢ pin.count
  pub told : count ≡ made.count

-- an object was fetched at the pin's count
pub record WasFetched {O : Type 0} (fetches : Fetching O) (pin : Pin) (between after : O) (object : ℕ) : Type 0 where
  pub made : Fetched
  pub fetched : fetches between object (Ok made) after
  pub same : made.count ≡ pin.count

-- an object wasn't fetched, for this reason, which isn't memory
pub record WasNot {O : Type 0} (fetches : Fetching O) (between after : O) (object : ℕ) (why : OriginErr) : Type 0 where
  pub failed : fetches between object (Err why) after
  pub other : is_memory why ≡ false

-- an object was asked for
pub record WasAsked {O : Type 0} (fetches : Fetching O) (between after : O) (object : ℕ) : Type 0 where
  pub result : Result Fetched OriginErr
  pub asked : fetches between object result after

-- what a replica that is handed back is: pinned as before, with these records
pub record IsWith {D : Type 0} {g : Ghosts D} (pin : Pin) (records : List Record) (replica : Ronly D g) : Type 0 where
  pub pinned : pin_of replica ≡ pin
  pub kept : records_of replica ≡ records

module _ {D : Type 0} {g : Ghosts D} where
  -- the replica's journal has no room for a record more
  abbrev pub HasNoRoom : Ronly D g → Record → ℕ → ℕ → Type 0
  HasNoRoom replica rec need limit = IsOverLimit (store_of replica) (needed_for (store_of replica) rec) need limit

  -- what comes of putting a record: it is there behind the others; or there is no room for it, or no memory; or the disk failed
  abbrev pub PutEnds : Ronly D g → Record → Result (Ronly D g) (RonlyErr D g) → Type 0
  PutEnds old rec (Ok new) = IsWith (pin_of old) (records_of old ++ as_known g.is_told rec ∷ []) new
  PutEnds old rec (Err (err.OutOfMemory replica)) = IsWith (pin_of old) (records_of old) replica
  PutEnds old rec (Err (err.Full replica need limit)) = IsWith (pin_of old) (records_of old) replica × HasNoRoom replica rec need limit
  PutEnds old rec (Err (err.Broken count disk)) = count ≡ g.fault_count disk
  PutEnds old rec (Err _) = ⊥

  -- what comes of an object that was fetched: it is put, where that was at the pin's count
  abbrev pub TakeEnds : Ronly D g → ℕ → Fetched → Result (Ronly D g) (RonlyErr D g) → Type 0
  TakeEnds old object made (Ok new) =
      (made.count ≡ (pin_of old).count)
      × IsWith (pin_of old) (records_of old ++ as_known g.is_told (stage_of (pin_of old) object made.bytes) ∷ []) new
  TakeEnds old object made (Err (err.Moved replica count)) =
      IsWith (pin_of old) (records_of old) replica × (made.count ≢ (pin_of old).count) × (count ≡ made.count)
  TakeEnds old object made (Err (err.OutOfMemory replica)) = IsWith (pin_of old) (records_of old) replica
  TakeEnds old object made (Err (err.Full replica need limit)) =
      IsWith (pin_of old) (records_of old) replica × HasNoRoom replica (stage_of (pin_of old) object made.bytes) need limit
      × (made.count ≡ (pin_of old).count)
  TakeEnds old object made (Err (err.Broken count disk)) = (count ≡ g.fault_count disk) × (made.count ≡ (pin_of old).count)
  TakeEnds old object made (Err _) = ⊥

-- and what a crash leaves meanwhile: the old records, and the object too where it was fetched at the pin's count
abbrev pub LeavesTaken : Pin → List Record → ℕ → Fetched → List ℕ → Type 0
LeavesTaken pin records object made image =
    StandsFor image (texts_of records)
    ⊎ (made.count ≡ pin.count) × StandsFor image (texts_of (records ++ stage_of pin object made.bytes ∷ []))

module _ {D : Type 0} {g : Ghosts D} {O : Type 0} where
  -- Why an object that isn't held isn't put, where the store had these records.
  abbrev pub EndsAt : Fetching O → Pin → List Record → O → O → ℕ → RonlyErr D g → Type 0
  EndsAt fetches pin now between after object (err.Moved replica count) = IsWith pin now replica × WasMoved fetches pin between after object count
  EndsAt fetches pin now between after object (err.Origin replica why) = IsWith pin now replica × WasNot fetches between after object why
  EndsAt fetches pin now between after object (err.OutOfMemory replica) = IsWith pin now replica × WasAsked fetches between after object
  EndsAt fetches pin now between after object (err.Full replica need limit) =
      IsWith pin now replica
      × ((was : WasFetched fetches pin between after object) × HasNoRoom replica (stage_of pin object was.made.bytes) need limit)
  EndsAt fetches pin now between after object (err.Broken count disk) = (count ≡ g.fault_count disk) × WasFetched fetches pin between after object
  EndsAt fetches pin now between after object _ = ⊥

-- The objects up to this one are held, and this one isn't put.
pub record StopsAt {D : Type 0} {g : Ghosts D} {O : Type 0} (fetches : Fetching O) (pin : Pin) (records : List Record) (start after : O)
    (objects : List ℕ) (why : RonlyErr D g) : Type 0 where
  pub front : List ℕ
  pub object : ℕ
  pub rest : List ℕ
  pub split : objects ≡ front ++ object ∷ rest
  pub now : List Record
  pub between : O
  pub holds : Holds fetches g.is_told pin records start front now between
  pub lacks : held_in pin now object ≡ None
  pub ends : EndsAt fetches pin now between after object why

module _ {D : Type 0} {g : Ghosts D} {O : Type 0} where
  -- what comes of holding objects
  abbrev pub HoldEnds : Fetching O → Ronly D g → O → O → List ℕ → Result (Ronly D g) (RonlyErr D g) → Type 0
  HoldEnds fetches old start after objects (Ok new) =
      (pin_of new ≡ pin_of old) × Holds fetches g.is_told (pin_of old) (records_of old) start objects (records_of new) after
  HoldEnds fetches old start after objects (Err why) = StopsAt fetches (pin_of old) (records_of old) start after objects why

-- ---- reading

-- These are the bytes of a range, piece by piece as the records hold them.
pub record Shows (pin : Pin) (records : List Record) (from len : ℕ) (bytes : List ℕ) : Type 0 where
  pub pieces : List Piece
  pub cover : Covers pin.location.stripe 1 from (from + len) pieces
  pub are : bytes ≡ all_shown pin records pieces

-- how many bytes of a range are below the pinned size
abbrev pub length_of : Pin → ℕ → ℕ → ℕ
length_of pin at len = end_of pin at len - at

-- All these objects are held, and a read of the disk failed over them, which can't be where contracts know what it keeps.
pub record FailsOver {O : Type 0} (fetches : Fetching O) (told : Bool) (pin : Pin) (records : List Record) (start after : O) (objects : List ℕ) : Type 0 where
  pub now : List Record
  pub holds : Holds fetches told pin records start objects now after
  pub untold : IsTrue told → ⊥

module _ {D : Type 0} {g : Ghosts D} {O : Type 0} where
  -- A range is shown once its objects are held. Where that isn't so, an object wasn't put; or all are held, and memory ran out or a read of
  -- the disk failed over them.
  abbrev pub ReadEnds : Fetching O → Ronly D g → O → O → ℕ → ℕ → Result (Ronly D g × List ℕ) (RonlyErr D g) → Type 0
  ReadEnds fetches old start after at len (Ok made) =
      HoldEnds fetches old start after (objects_of (pin_of old) at len) (Ok made.0)
      × (IsTrue g.is_told → Shows (pin_of old) (records_of made.0) at (length_of (pin_of old) at len) made.1)
  ReadEnds fetches old start after at len (Err (err.OutOfMemory replica)) =
      StopsAt fetches (pin_of old) (records_of old) start after (objects_of (pin_of old) at len) (err.OutOfMemory replica)
      ⊎ HoldEnds fetches old start after (objects_of (pin_of old) at len) (Ok replica)
  ReadEnds fetches old start after at len (Err (err.Bodies count disk)) =
      (count ≡ g.fault_count disk)
      × FailsOver fetches g.is_told (pin_of old) (records_of old) start after (objects_of (pin_of old) at len)
  ReadEnds fetches old start after at len (Err why) =
      StopsAt fetches (pin_of old) (records_of old) start after (objects_of (pin_of old) at len) why

  -- ---- what is frozen

  -- Over an origin that tells the content at the pin's count, and with held objects that are its ranges, a read is the range of it, and
  -- held objects stay its ranges.
  abbrev pub ShowsFrozen : (O → ℕ → Option (List ℕ)) → (O → ℕ) → Ronly D g → O → ℕ → ℕ → Ronly D g × List ℕ → Type 0
  ShowsFrozen content stripe old start at len made =
      (whole : List ℕ) → IsTrue g.is_told → content start (pin_of old).count ≡ Some whole → stripe start ≡ (pin_of old).location.stripe
      → IsPinOf (pin_of old) whole → AreRanges (pin_of old) (records_of old) whole
      → (made.1 ≡ range_of whole at len) × AreRanges (pin_of old) (records_of made.0) whole

  abbrev pub KeepsFrozen : (O → ℕ → Option (List ℕ)) → (O → ℕ) → Ronly D g → O → Ronly D g → Type 0
  KeepsFrozen content stripe old start new =
      (whole : List ℕ) → IsTrue g.is_told → content start (pin_of old).count ≡ Some whole → stripe start ≡ (pin_of old).location.stripe
      → AreRanges (pin_of old) (records_of old) whole → AreRanges (pin_of old) (records_of new) whole
