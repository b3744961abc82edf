-- what a call of a replica leaves of its disk, and why its origin's faults rose
use Rattle.std.specs.Prelude.{◌≡◌, ◌⊎◌, Bool, true, false, IsTrue, Result, Ok, Err, List, ℕ}
use Rattle.disk_model.specs.declared.disk.Disk.{Ghosts}
use Rattle.disk_model.specs.Disk.{LeavesOnly}
use Rattle.xt_base.specs.Faults.{fault_count_after}
use Rattle.xt_journal.specs.Access.{limit_of}
use Rattle.object_store.specs.Access as store
use Rattle.ronly_replica.specs.declared.replica.Ronly.{Ronly}
use Rattle.ronly_replica.specs.declared.errors.RonlyErr.{RonlyErr}
use Rattle.ronly_replica.specs.declared.errors.RonlyErr.TheVariants as err
use Rattle.ronly_replica.specs.Access.{disk_of, store_of}
use Rattle.ronly_replica.specs.Origins.{HasOriginCause}

module _ {D : Type 0} {g : Ghosts D} where
  -- the disk of what an error hands back
  abbrev pub disk_in : RonlyErr D g → D
  disk_in (err.PinStore back pins) = store.disk_of back
  disk_in (err.Unloaded back) = store.disk_of back
  disk_in (err.OutOfMemory replica) = disk_of replica
  disk_in (err.Moved replica count) = disk_of replica
  disk_in (err.Origin replica why) = disk_of replica
  disk_in (err.Bodies count disk) = disk
  disk_in (err.Broken count disk) = disk
  disk_in (err.Full replica need limit) = disk_of replica

  -- whether an error is a failure of the disk
  abbrev pub is_fault : RonlyErr D g → Bool
  is_fault (err.Bodies count disk) = true
  is_fault (err.Broken count disk) = true
  is_fault _ = false

  abbrev pub disk_left : Result (Ronly D g) (RonlyErr D g) → D
  disk_left (Ok replica) = disk_of replica
  disk_left (Err why) = disk_in why

  abbrev pub has_failed : Result (Ronly D g) (RonlyErr D g) → Bool
  has_failed (Ok replica) = false
  has_failed (Err why) = is_fault why

  -- how many bytes the journal of a replica may have
  abbrev pub limit_in : Ronly D g → ℕ
  limit_in replica = limit_of (store.journal_of (store_of replica))

  -- this stays the limit of the journal, and is what is reported where there is no room
  abbrev pub KeepsLimit : ℕ → Result (Ronly D g) (RonlyErr D g) → Type 0
  KeepsLimit limit (Ok replica) = limit_in replica ≡ limit
  KeepsLimit limit (Err (err.Full replica need most)) = most ≡ limit
  KeepsLimit limit (Err _) = Unit {0}

  -- a count of faults of the origin rose exactly where its fault is reported, and is the count that it reports
  abbrev pub HasFetchCause : ℕ → ℕ → ℕ → ℕ → Result (Ronly D g) (RonlyErr D g) → Type 0
  HasFetchCause link link_after clock clock_after (Err (err.Origin replica why)) = HasOriginCause link link_after clock clock_after (Err why)
  HasFetchCause link link_after clock clock_after _ = (link_after ≡ link) × (clock_after ≡ clock)

  -- a read gives bytes beside the replica
  abbrev pub without_bytes : Result (Ronly D g × List ℕ) (RonlyErr D g) → Result (Ronly D g) (RonlyErr D g)
  without_bytes (Ok made) = Ok made.0
  without_bytes (Err why) = Err why

-- A disk was left alone, or a crash at any moment since leaves what has P.
abbrev pub LeftSo : {D : Type 0} → Ghosts D → D → D → (List ℕ → Type 0) → Type 0
LeftSo g old new P = IsTrue g.is_told → (new ≡ old) ⊎ LeavesOnly g.moment g.left_since old new P

-- What a call does to the disk of a replica: a crash at any moment leaves what has P; the disk counts one fault more exactly where the call
-- ends by one; and the journal's limit stays.
pub record Leaves {D : Type 0} {g : Ghosts D} (old : Ronly D g) (P : List ℕ → Type 0) (result : Result (Ronly D g) (RonlyErr D g)) : Type 0 where
  pub any_moment : LeftSo g (disk_of old) (disk_left result) P
  pub faults : g.fault_count (disk_left result) ≡ fault_count_after (has_failed result) (g.fault_count (disk_of old))
  pub limit : KeepsLimit (limit_in old) result
