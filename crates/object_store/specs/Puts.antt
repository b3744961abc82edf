-- what putting records does to a store
use Rattle.std.specs.Prelude.{ℕ, ◌<◌, ◌≤◌, ◌≡◌, Bool, List, [], ◌∷◌, ◌++◌, is_some, IsTrue, Result, Ok, Err}
use Rattle.disk_model.specs.declared.disk.Disk.{Ghosts}
use Rattle.disk_model.specs.Disk.{IsImage, LeavesOnly}
use Rattle.xt_base.specs.Faults.{counted, fault_count_after}
use Rattle.xt_messages.specs.declared.record.Record.{Record}
use Rattle.xt_journal.specs.Access.{place_of, limit_of, superblock_of}
use Rattle.xt_journal.specs.Append.{AreStopped, IsWithAllOrNone}
use Rattle.journal_records.specs.Calls.{AllSucceed, GoesOn}
use Rattle.xt_journal.specs.Format.{StandsFor}
use Rattle.replica_records.specs.Known.{known_of}
use Rattle.object_store.specs.declared.store.Store.{Store}
use Rattle.object_store.specs.declared.errors.AppendErr.{AppendErr}
use Rattle.object_store.specs.declared.errors.AppendErr.TheVariants as append
use Rattle.object_store.specs.declared.errors.PutAllErr.{PutAllErr}
use Rattle.object_store.specs.declared.errors.PutAllErr.TheVariants as put
use Rattle.object_store.specs.Access.{journal_of, disk_of, records_of}
use Rattle.object_store.specs.Answers.{put_all_fault, put_fault, disk_after_put, disk_after_put_all}
use Rattle.object_store.specs.Texts.{texts_of}
use Rattle.object_store.specs.Waits.{end_after, needed_after}

-- how long the journal has to be for a record more: its end, a gate and a length, the record's payload, and the next gate
abbrev pub needed_for : {D : Type 0} {g : Ghosts D} → Store D g → Record → ℕ
needed_for old rec = needed_after (place_of (journal_of old)) (rec ∷ [])

-- What is known of the records comes after the others, the records themselves are on the disk, and each crash leaves all of them from now on. The journal's superblock is as it
-- was. All four calls succeeded.
pub record ArePut {D : Type 0} {g : Ghosts D} (old : Store D g) (recs : List Record) (new : Store D g) : Type 0 where
  pub records : records_of new ≡ records_of old ++ known_of g.is_told recs
  pub acknowledged : IsTrue g.is_told → (image : List ℕ) → IsImage (g.kept (disk_of new)) image → StandsFor image (texts_of (records_of old ++ recs))
  pub place : place_of (journal_of new) ≡ end_after (place_of (journal_of old)) recs
  pub limit : limit_of (journal_of new) ≡ limit_of (journal_of old)
  pub superblock : superblock_of (journal_of new) ≡ superblock_of (journal_of old)
  pub succeeded : IsTrue g.is_told → AllSucceed (g.fails (disk_of old)) 4
  pub plan : IsTrue g.is_told → GoesOn 0 4 (g.fails (disk_of old)) (g.fails (disk_of new))
  pub room : needed_after (place_of (journal_of old)) recs ≤ limit_of (journal_of old)

-- One of the four calls failed, which tells what a crash leaves: the old records, with all of the new ones or with none of them.
pub record AreBroken {D : Type 0} {g : Ghosts D} (old : Store D g) (recs : List Record) (count : ℕ) (disk : D) : Type 0 where
  pub left : IsTrue g.is_told → (image : List ℕ) → IsImage (g.kept disk) image → IsWithAllOrNone (texts_of (records_of old)) (texts_of recs) image
  pub stopped : IsTrue g.is_told → AreStopped (superblock_of (journal_of old)) (g.fails (disk_of old)) (g.kept disk) (texts_of (records_of old)) (texts_of recs)
  pub fault : count ≡ g.fault_count disk
  pub room : needed_after (place_of (journal_of old)) recs ≤ limit_of (journal_of old)

-- Memory ran out before the first call. The disk is as it was.
pub record IsUntouched {D : Type 0} {g : Ghosts D} (old : Store D g) (disk : D) : Type 0 where
  pub kept : g.kept disk ≡ g.kept (disk_of old)
  pub no_call : IsTrue g.is_told → GoesOn 0 0 (g.fails (disk_of old)) (g.fails disk)

-- A put that ends so, and leaves this disk: a crash at any moment leaves the old records, with all of the new ones or with none of them; and
-- the disk counts one fault more exactly when it fails.
pub record PutsTo {D : Type 0} {g : Ghosts D} (old : Store D g) (recs : List Record) (ends : Type 0) (disk : D) (failed : Bool) : Type 0 where
  pub end : ends
  pub any_moment : IsTrue g.is_told → LeavesOnly g.moment g.left_since (disk_of old) disk (IsWithAllOrNone (texts_of (records_of old)) (texts_of recs))
  pub faults : g.fault_count disk ≡ fault_count_after failed (g.fault_count (disk_of old))

-- ---- several records at once

-- how it ends
abbrev pub PutAllEnds : {D : Type 0} {g : Ghosts D} → Store D g → List Record → Result (Store D g) (PutAllErr D) → Type 0
PutAllEnds old recs (Ok new) = ArePut old recs new
PutAllEnds old recs (Err (put.Broken count disk)) = AreBroken old recs count disk
PutAllEnds old recs (Err (put.OutOfMemory disk)) = IsUntouched old disk

-- what putting them does
abbrev pub PutsAll : {D : Type 0} {g : Ghosts D} → Store D g → List Record → Result (Store D g) (PutAllErr D) → Type 0
PutsAll old recs result = PutsTo old recs (PutAllEnds old recs result) (disk_after_put_all result) (is_some (put_all_fault result))

-- ---- one record

abbrev pub IsPut : {D : Type 0} {g : Ghosts D} → Store D g → Record → Store D g → Type 0
IsPut old rec new = ArePut old (rec ∷ []) new

abbrev pub IsBroken : {D : Type 0} {g : Ghosts D} → Store D g → Record → ℕ → D → Type 0
IsBroken old rec count disk = AreBroken old (rec ∷ []) count disk

-- The journal would need more than its limit, which is reported. It is as it was, and so are the records.
pub record IsFull {D : Type 0} {g : Ghosts D} (old : Store D g) (rec : Record) (new : Store D g) (need limit : ℕ) : Type 0 where
  pub over : limit_of (journal_of old) < needed_for old rec
  pub journal : journal_of new ≡ journal_of old
  pub records : records_of new ≡ records_of old
  pub need_is : need ≡ counted (needed_for old rec)
  pub limit_is : limit ≡ limit_of (journal_of old)

-- Memory ran out before the first call. The store is as it was.
pub record IsUntried {D : Type 0} {g : Ghosts D} (old new : Store D g) : Type 0 where
  pub records : records_of new ≡ records_of old
  pub kept : g.kept (disk_of new) ≡ g.kept (disk_of old)
  pub place : place_of (journal_of new) ≡ place_of (journal_of old)
  pub limit : limit_of (journal_of new) ≡ limit_of (journal_of old)
  pub superblock : superblock_of (journal_of new) ≡ superblock_of (journal_of old)
  pub no_call : IsTrue g.is_told → GoesOn 0 0 (g.fails (disk_of old)) (g.fails (disk_of new))

-- what comes of it
abbrev pub PutEnds : {D : Type 0} {g : Ghosts D} → Store D g → Record → Result (Store D g) (AppendErr D g) → Type 0
PutEnds old rec (Ok new) = IsPut old rec new
PutEnds old rec (Err (append.Broken count disk)) = IsBroken old rec count disk
PutEnds old rec (Err (append.Full new need limit)) = IsFull old rec new need limit
PutEnds old rec (Err (append.OutOfMemory new)) = IsUntried old new

-- what putting it does
abbrev pub Puts : {D : Type 0} {g : Ghosts D} → Store D g → Record → Result (Store D g) (AppendErr D g) → Type 0
Puts old rec result = PutsTo old (rec ∷ []) (PutEnds old rec result) (disk_after_put result) (is_some (put_fault result))
