-- the last boot in records, and the put of the next one
use Rattle.std.proofs.Common.{ℕ, suc, ◌≡◌, ◌≤◌, ◌<◌, ◌^◌, refl, ap, subst, List, [], ◌∷◌, ◌++◌, arith}
use Rattle.std.specs.Prelude.{IsTrue}
use Rattle.std.specs.List.{All, fold}
use Rattle.std.proofs.Math.Logic.{∥∥₁_elim}
use Rattle.std.proofs.Props.{props}
use Rattle.disk_model.specs.declared.disk.Disk.{Ghosts}
use Rattle.disk_model.specs.Disk.{IsImage, LeavesOnly}
use Rattle.xt_messages.specs.Limits.{FitsBoot, FitsRecord}
use Rattle.xt_messages.specs.declared.record.Record.{Record}
use Rattle.xt_messages.specs.declared.record.Record.TheVariants as kept
use Rattle.xt_messages.specs.declared.status.Status.TheVariants as status
use Rattle.xt_protocol.specs.Folds.{boot_after}
use Rattle.xt_journal.specs.Access.{place_of, limit_of, superblock_of}
use Rattle.xt_journal.specs.Append.{IsWithOrWithout}
use Rattle.xt_journal.specs.Format.{end_in}
use Rattle.xt_journal.proofs.Push.{end_in-push}
use Rattle.xt_journal.proofs.Steps.{place_of_end}
use Rattle.replica_records.specs.RecordText.{record_text}
use Rattle.object_store.specs.declared.store.Store.{Store}
use Rattle.object_store.specs.Access.{disk_of, records_of, journal_of as journal_in}
use Rattle.object_store.specs.Puts.{needed_for}
use Rattle.object_store.specs.Texts.{texts_of, AreRecords}
use Rattle.object_store.proofs.Reading.{texts-push}
use Rattle.node_runs.specs.BatchEnds.{nothing, putting, refused, KeepsDoing, LeavesDoing}
use Rattle.node_runs.specs.Keeping.{KeepsOn, StandsForOne}
use Rattle.node_runs.specs.Serving.{IsOver}
use Rattle.node_runs.proofs.Keeping.{puts_one}
use Rattle.node_loop.specs.Events.{HasDiskCause}
use Rattle.store_loading.specs.Boots.{stored_boot, next_boot, boot_record, booted}
use Rattle.node_jobs.specs.Disks.{CannotBoot, length_booted}
use Rattle.store_loading.proofs.Disks.{medium_of}

boot_below : (boot : ℕ) (rec : Record) → boot < 2 ^ 62 → FitsRecord rec → boot_after boot rec < 2 ^ 62
boot_below boot (kept.Boot b) low fits = fits
boot_below boot _ low fits = low

stored_below : (boot : ℕ) (records : List Record) → boot < 2 ^ 62 → All FitsRecord records → fold boot_after boot records < 2 ^ 62
stored_below boot [] low fit = low
stored_below boot (rec ∷ records) low fit =
    stored_below (boot_after boot rec) records (boot_below boot rec low (fit 0 rec (omega arith))) (λ k d less. fit (suc k) d (omega (arith, less)))

-- no boot is stored after the last one that there is
pub last_stored : (records : List Record) → ∥ AreRecords records ∥₁ → 4611686018427387903 ≤ stored_boot records → stored_boot records ≡ 4611686018427387903
last_stored records sound late =
    ∥∥₁_elim sound (hlevel props) (λ are.
    let low : stored_boot records < 2 ^ 62 = stored_below 0 records (omega arith) are.fit in
    omega (arith, late, low))

module _ {D : Type 0} {g : Ghosts D} where
  -- a journal with the boot's record is as long as a put of it needs
  pub needed_is : (store : Store D g) → IsTrue g.is_told
      → needed_for store (boot_record (records_of store)) ≡ length_booted (superblock_of (journal_in store)) (records_of store)
  needed_is store told =
      let records = records_of store in
      let text = record_text (boot_record records) in
      let super = superblock_of (journal_in store) in
      let place : place_of (journal_in store) ≡ end_in super (texts_of records) =
      place_of_end super (g.kept (disk_of store)) (place_of (journal_in store)) (texts_of records) ((journal_in store).ends told) (store.keeps told) in
      let whole : end_in super (texts_of (booted records)) ≡ end_in super (texts_of records ++ text ∷ []) = ap (end_in super) (texts-push records (boot_record records)) in
      omega (arith, place, whole, end_in-push super (texts_of records) text)

  -- a put of it that fails
  module _ (store : Store D g) (disk : D) (rec : Record) (is : rec ≡ boot_record (records_of store)) (fits : FitsBoot (next_boot (records_of store)))
      (any_moment : IsTrue g.is_told → LeavesOnly g.moment g.left_since (disk_of store) disk (IsWithOrWithout (texts_of (records_of store)) (record_text rec))) where
    -- meanwhile the record is there or not
    meanwhile : KeepsOn g.is_told g.moment g.left_since (disk_of store) disk (records_of store ∷ booted (records_of store) ∷ [])
    meanwhile =
        subst (λ (r : Record). KeepsOn g.is_told g.moment g.left_since (disk_of store) disk (records_of store ∷ (records_of store ++ r ∷ []) ∷ [])) is
        (puts_one g.is_told g.kept g.moment g.left_since (disk_of store) disk (records_of store) rec any_moment)

    -- the disk failed
    pub breaks : (count : ℕ) → needed_for store rec ≤ limit_of (journal_in store)
        → ((t : ℕ) (image : List ℕ) → IsTrue g.is_told → t ≤ g.moment disk → IsImage (g.kept disk) image → g.left_since disk t image)
        → HasDiskCause (g.fault_count (disk_of store)) (g.fault_count disk) (status.DiskFault count)
        → CannotBoot (medium_of g) store disk (status.DiskFault count)
    breaks count room counts_now cause = record {
      doing = putting (boot_record (records_of store) ∷ []);
      why = (
        fits,
        refl,
        λ told. subst (λ (n : ℕ). n ≤ limit_of (journal_in store)) (needed_is store told)
            (subst (λ (r : Record). needed_for store r ≤ limit_of (journal_in store)) is room),
      );
      cause = cause;
      keeps = meanwhile;
      last = λ told image now. let run = meanwhile told in run.each image (counts_now (g.moment (disk_of store)) image told run.later now);
    }

    -- memory ran out before
    pub refuses : g.fault_count disk ≡ g.fault_count (disk_of store)
        → (IsTrue g.is_told → (image : List ℕ) → IsImage (g.kept disk) image → StandsForOne (records_of store ∷ []) image)
        → CannotBoot (medium_of g) store disk status.OutOfMemory
    refuses faults last = record {
      doing = refused (boot_record (records_of store) ∷ []);
      why = (fits, refl);
      cause = faults;
      keeps = meanwhile;
      last = last;
    }

  -- there is no room for it
  pub lacks_room : (store : Store D g) (disk : D) (rec : Record) (need limit : ℕ) → rec ≡ boot_record (records_of store) → FitsBoot (next_boot (records_of store))
      → IsOver (limit_of (journal_in store)) (needed_for store rec) need limit → g.fault_count disk ≡ g.fault_count (disk_of store)
      → KeepsDoing g.is_told g.moment g.left_since (disk_of store) disk (records_of store) nothing
      → LeavesDoing g.is_told g.kept disk (records_of store) nothing
      → CannotBoot (medium_of g) store disk (status.JournalFull need limit)
  lacks_room store disk rec need limit is fits over faults keeps last = record {
    doing = nothing;
    why = (
      fits,
      refl,
      (
        needed_for store (boot_record (records_of store)),
        needed_is store,
        subst (λ (r : Record). IsOver (limit_of (journal_in store)) (needed_for store r) need limit) is over,
      ),
    );
    cause = faults;
    keeps = keeps;
    last = last;
  }
