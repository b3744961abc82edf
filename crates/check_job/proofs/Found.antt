-- what is found in a store, and that nothing was written to it
use Rattle.std.proofs.Common.{◌≡◌, ◌∙◌, ◌≤◌, ◌<◌, ◌+◌, inl, inr, ⊎_elim, ℕ, Bool, true, false, cond, Option, Some, None, List, [], length, refl, sym, ap, subst, arith}
use Rattle.std.specs.Prelude.{IsTrue, nat_lt}
use Rattle.disk_model.specs.declared.disk.Disk.{Ghosts}
use Rattle.disk_model.specs.Disk.{Kept, IsImage, LeavesOnly}
use Rattle.disk_model.proofs.Moments.{joined}
use Rattle.journal_areas.specs.declared.site.Area.{Area}
use Rattle.journal_areas.specs.declared.superblock.Slot.{Slot}
use Rattle.journal_areas.specs.Sites.{area_by, slot_of}
use Rattle.xt_journal.specs.Access.{place_of, superblock_of}
use Rattle.xt_journal.specs.Format.{end_in}
use Rattle.xt_journal.specs.Loaded.{LeavesAsBefore}
use Rattle.xt_journal.proofs.Steps.{place_of_end}
use Rattle.object_store.specs.declared.store.Store.{Store}
use Rattle.object_store.specs.Access.{area_of, disk_of, journal_of, records_of}
use Rattle.object_store.specs.Bare.{bare_of}
use Rattle.object_store.specs.Texts.{texts_of, AreRecords}
use Rattle.store_loading.specs.Loading.{Medium, IsLoaded}
use Rattle.store_loading.specs.Sinks.{HasSinkCause, Reports}
use Rattle.store_loading.proofs.Disks.{medium_of}
use Rattle.node_links.specs.Streams.{Puts}
use Rattle.xt_messages.specs.declared.record.Record.{Record}
use Rattle.xt_messages.specs.declared.status.Status.{Status}
use Rattle.xt_messages.specs.declared.status.Status.TheVariants as status
use Rattle.check_job.specs.Reports.{compacted_size, need_at, report_lines, report_text, status_at, status_of}
use Rattle.check_job.specs.Checking.{IsCheck, IsFoundIn, IsUnwritten, found_in}
use Rattle.check_job.proofs.Bare.{report_same, status_same}
use Rattle.check_job.proofs.Parts.{none_size}

-- ---- where the journal ends

area_end : (end : ℕ) (slot : Option Slot) → (area_by end slot).place ≤ end → (area_by end slot).place + (area_by end slot).length ≡ end + 1
area_end end None began = omega (arith, began)
area_end end (Some slot) began = omega (arith, began)

module _ {D : Type 0} {g : Ghosts D} (store : Store D g) where
  pub long_is : (area_of store).place + (area_of store).length ≡ place_of (journal_of store) + 1
  long_is = area_end (place_of (journal_of store)) (slot_of (superblock_of (journal_of store))) store.journal.located.began

  pub is_found : (before : D) (limit : ℕ) → IsLoaded (medium_of g) before limit store → IsTrue g.is_told → IsFoundIn (g.kept before).read (found_in store limit)
  is_found before limit is told =
      let super = superblock_of (journal_of store) in
      let place : place_of (journal_of store) ≡ end_in super (texts_of (records_of store)) =
      place_of_end super (g.kept (disk_of store)) (place_of (journal_of store)) (texts_of (records_of store)) ((journal_of store).ends told) (store.keeps told) in
      inl (super, is.stood told, long_is ∙ ap (λ (n : ℕ). n + 1) place)

-- ---- nothing was written

-- where the file's contents were only looked at
pub unwritten_chosen : {D : Type 0} (m : Medium D) (before chosen : D) → (IsTrue m.is_told → m.kept chosen ≡ m.kept before)
    → (IsTrue m.is_told → LeavesOnly m.moment m.left_since before chosen (IsImage (m.kept before))) → IsUnwritten m before chosen
unwritten_chosen m before chosen same each = record { same = λ told. ap (λ (k : Kept). k.read) (same told); each = each }

module _ {D : Type 0} (m : Medium D) (before chosen after : D) (same : IsTrue m.is_told → m.kept chosen ≡ m.kept before)
    (choosing : IsTrue m.is_told → LeavesOnly m.moment m.left_since before chosen (IsImage (m.kept before)))
    (long : IsTrue m.is_told → 13 < length (m.kept before).read) where
  long_there : IsTrue m.is_told → 13 < length (m.kept chosen).read
  long_there told = subst (λ (k : Kept). 13 < length k.read) (sym (same told)) (long told)

  as_before : IsTrue m.is_told → (image : List ℕ) → LeavesAsBefore (m.kept chosen) image → IsImage (m.kept before) image
  as_before told image left =
      ⊎_elim (λ was. subst (λ (k : Kept). IsImage k image) (same told) was) (λ unready. absurd (omega (arith, unready.0.0, long_there told))) left

  pub unwritten : (IsTrue m.is_told → LeavesOnly m.moment m.left_since chosen after (LeavesAsBefore (m.kept chosen)))
      → (IsTrue m.is_told → (m.kept after).read ≡ (m.kept chosen).read) → IsUnwritten m before after
  unwritten loads read = record {
    same = λ told. read told ∙ ap (λ (k : Kept). k.read) (same told);
    each = λ told.
        joined m.moment m.left_since before chosen after (IsImage (m.kept before)) (LeavesAsBefore (m.kept chosen)) (IsImage (m.kept before))
        (choosing told) (loads told) (λ image was. was) (as_before told);
  }

-- ---- what is found

module _ {D : Type 0} (g : Ghosts D) (before chosen : D) (same : IsTrue g.is_told → g.kept chosen ≡ g.kept before)
    (choosing : IsTrue g.is_told → LeavesOnly g.moment g.left_since before chosen (IsImage (g.kept before)))
    (faults : g.fault_count chosen ≡ g.fault_count before) (long : IsTrue g.is_told → 13 < length (g.kept before).read)
    (limit : ℕ) (held later : Option (List ℕ)) (sink risen : ℕ) (said : Status) where
  -- a store was loaded, and its report was put
  pub finds_some : (store : Store D g) → IsLoaded (medium_of g) chosen limit store
      → Reports (report_text (found_in store limit)) (status_of (found_in store limit)) held later said → HasSinkCause sink risen said
      → IsCheck (medium_of g) limit before (disk_of store) held later sink risen said
  finds_some store is reports cause = record {
    finds = inr (record {
      found = found_in store limit;
      are = is.are;
      room = refl;
      stood = λ told. subst (λ (k : Kept). IsFoundIn k.read (found_in store limit)) (same told) (is_found store chosen limit is told);
      reports = reports;
      cause = cause;
      disk_count = is.comes.faults ∙ faults;
    });
    unwritten = unwritten (medium_of g) before chosen (disk_of store) same choosing long is.comes.loads
        (λ told. is.same told (long_there (medium_of g) before chosen (disk_of store) same choosing long told));
  }

-- ---- the report

put_with : (text : List ℕ) (need limit : ℕ) (held later : Option (List ℕ)) (b : Bool) → Puts held later text
    → Reports text (cond b (status.JournalFull need limit) status.Done) held later (cond b (status.JournalFull need limit) status.Done)
put_with text need limit held later true puts = (puts, refl)
put_with text need limit held later false puts = (puts, refl)

-- it was put whole
pub put_whole : (text given : List ℕ) (records : List Record) (long limit : ℕ) (held later : Option (List ℕ)) (said : Status) → given ≡ text
    → said ≡ status_at records long limit → Puts held later given → Reports text (status_at records long limit) held later said
put_whole text given records long limit held later said is said_is puts =
    subst (λ (s : Status). Reports text (status_at records long limit) held later s) (sym said_is)
    (put_with text (need_at records long) limit held later (nat_lt limit (need_at records long)) (subst (λ (t : List ℕ). Puts held later t) is puts))

sound_with : (before after need limit : ℕ) (b : Bool) → after ≡ before → HasSinkCause before after (cond b (status.JournalFull need limit) status.Done)
sound_with before after need limit true same = same
sound_with before after need limit false same = same

pub put_sound : (before after : ℕ) (records : List Record) (long limit : ℕ) (said : Status) → said ≡ status_at records long limit → after ≡ before
    → HasSinkCause before after said
put_sound before after records long limit said said_is same =
    subst (λ (s : Status). HasSinkCause before after s) (sym said_is)
    (sound_with before after (need_at records long) limit (nat_lt limit (need_at records long)) same)

-- no record is reported as the records of a store without any
pub none_told : (limit : ℕ) (held later : Option (List ℕ)) (said : Status) → Reports (report_lines [] 13 limit 15) (status_at [] 13 limit) held later said
    → Reports (report_text (record { records = []; long = 13; limit = limit })) (status_of (record { records = []; long = 13; limit = limit })) held later said
none_told limit held later said told = subst (λ (n : ℕ). Reports (report_lines [] 13 limit n) (status_at [] 13 limit) held later said) (sym none_size) told

pub none_are : AreRecords []
none_are = record { fit = λ k d inside. absurd (omega (arith, inside)); placed = tt }

module _ {D : Type 0} {g : Ghosts D} (store : Store D g) (limit : ℕ) (given : List Record) (area : Area) (compacted : ℕ) (bare : given ≡ bare_of (records_of store))
    (is : area ≡ area_of store) (size : compacted ≡ compacted_size (records_of store)) where
  all_text : report_lines given (area.place + area.length) limit compacted ≡ report_text (found_in store limit)
  all_text =
      ap (λ (rs : List Record). report_lines rs (area.place + area.length) limit compacted) bare
      ∙ report_same (records_of store) (area.place + area.length) limit compacted
      ∙ ap (λ (a : Area). report_lines (records_of store) (a.place + a.length) limit compacted) is
      ∙ ap (λ (n : ℕ). report_lines (records_of store) ((area_of store).place + (area_of store).length) limit n) size

  all_status : status_at given (area.place + area.length) limit ≡ status_of (found_in store limit)
  all_status =
      ap (λ (rs : List Record). status_at rs (area.place + area.length) limit) bare
      ∙ status_same (records_of store) (area.place + area.length) limit
      ∙ ap (λ (a : Area). status_at (records_of store) (a.place + a.length) limit) is

  pub all_told : (held later : Option (List ℕ)) (said : Status)
      → Reports (report_lines given (area.place + area.length) limit compacted) (status_at given (area.place + area.length) limit) held later said
      → Reports (report_text (found_in store limit)) (status_of (found_in store limit)) held later said
  all_told held later said told =
      subst (λ (t : List ℕ). Reports t (status_of (found_in store limit)) held later said) all_text
      (subst (λ (s : Status). Reports (report_lines given (area.place + area.length) limit compacted) s held later said) all_status told)
