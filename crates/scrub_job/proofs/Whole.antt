-- the scrub of a store, from the file to the line
use Rattle.std.proofs.Common.{◌≡◌, ◌==◌, ◌⊎◌, inl, inr, ⊎_elim, ℕ, Bool, true, false, cond, List, [], ◌∷◌, ◌++◌, Option, refl, sym, ap, subst}
use Rattle.std.specs.Prelude.{IsTrue}
use Rattle.std.specs.List.{count_by}
use Rattle.disk_model.specs.declared.disk.Disk.{Ghosts}
use Rattle.disk_model.specs.Disk.{LeavesOnly}
use Rattle.disk_model.proofs.Moments.{joined, weaker}
use Rattle.journal_areas.specs.declared.superblock.Superblock.{Superblock}
use Rattle.xt_journal.specs.Access.{limit_of, superblock_of}
use Rattle.xt_journal.specs.Format.{StandsFor}
use Rattle.xt_journal.specs.Loaded.{LeavesAsBefore}
use Rattle.xt_messages.specs.declared.record.Record.{Record}
use Rattle.xt_messages.specs.declared.status.Status.{Status}
use Rattle.xt_messages.specs.declared.status.Status.TheVariants as status
use Rattle.object_store.specs.declared.store.Store.{Store}
use Rattle.object_store.specs.Access.{disk_of, journal_of, records_of}
use Rattle.object_store.specs.Texts.{texts_of, AreRecords}
use Rattle.node_runs.specs.BatchEnds.{Doing, nothing, has_put, done_by}
use Rattle.node_runs.specs.Keeping.{StandsForOne}
use Rattle.node_loop.specs.Events.{HasDiskCause}
use Rattle.node_loop.specs.Passing.{IsDoing}
use Rattle.store_loading.specs.Loading.{IsLoaded, IsUnloaded}
use Rattle.store_loading.specs.Sinks.{HasSinkCause, Reports}
use Rattle.store_loading.proofs.Disks.{medium_of}
use Rattle.scrub.specs.declared.found.Found.{Found}
use Rattle.scrub.specs.Laws.{ScrubsSayNothing}
use Rattle.scrub.specs.Report.{is_damaged, seals_of}
use Rattle.scrub_job.specs.Checked.{items_in, HasFound}
use Rattle.scrub_job.specs.Counts.{counts_text, status_by, status_of}
use Rattle.scrub_job.specs.Scrubbing.{Ends, unread, unsealed, sealed, EndsUnread, IsScrub, LeavesSealed, SaysTheSame, ScrubsLoaded}
use Rattle.scrub_job.specs.Sealing.{AreSealed, CannotSeal, EndsUnsealed}
use Rattle.scrub_job.specs.declared.checking.Findings.{Findings}
use Rattle.scrub_job.proofs.Seals.{seals_say}

-- ---- the counts of faults

-- what ends a scrub before its line isn't the sink
early : (sink : ℕ) (said : Status) → EndsUnread said → HasSinkCause sink sink said
early sink (status.DiskFault count) ends = refl
early sink status.OutOfMemory ends = refl
early sink _ ends = absurd ends

early_put : (is_told : Bool) (super : Option Superblock) (records seals : List Record) (limit : ℕ) (doing : Doing) (sink : ℕ) (said : Status)
    → EndsUnsealed is_told super records seals limit doing said → HasSinkCause sink sink said
early_put is_told super records seals limit doing sink (status.DiskFault count) ends = refl
early_put is_told super records seals limit doing sink (status.JournalFull need most) ends = refl
early_put is_told super records seals limit doing sink status.OutOfMemory ends = refl
early_put is_told super records seals limit doing sink _ ends = absurd ends

-- once the line is due the disk has no fault
no_fault : (damaged count : ℕ) (b : Bool) → status.DiskFault count ≡ cond b status.Done (status.Unmended damaged) → ⊥
no_fault damaged count true is = absurd cc
no_fault damaged count false is = absurd cc

late : (text : List ℕ) (damaged before after : ℕ) (held later : Option (List ℕ)) (said : Status) → Reports text (status_by damaged) held later said → after ≡ before
    → HasDiskCause before after said
late text damaged before after held later (status.DiskFault count) reports same = absurd (no_fault damaged count (damaged == 0) reports.1)
late text damaged before after held later _ reports same = same

-- ---- what was being done to the records

-- they are as they were once it is done, or they have the seals after them
done_so : (is_told : Bool) (super : Option Superblock) (records seals : List Record) (limit : ℕ) (doing : Doing) (said : Status)
    → EndsUnsealed is_told super records seals limit doing said → (done_by records doing ≡ records) ⊎ (done_by records doing ≡ records ++ seals)
done_so is_told super records seals limit doing (status.DiskFault count) is = inr (ap (done_by records) is)
done_so is_told super records seals limit doing (status.JournalFull need most) is = inl (ap (done_by records) is.0)
done_so is_told super records seals limit doing status.OutOfMemory is =
    ⊎_elim (λ none. inl (ap (done_by records) none)) (λ refused. inr (ap (done_by records) refused)) is
done_so is_told super records seals limit doing _ is = absurd is

-- so they say what they said
same_so : (records : List Record) (image : List ℕ) → StandsFor image (texts_of records) → SaysTheSame records image
same_so records image is = record { now = records; stands = is; files = refl; requests = refl }

says_so : ScrubsSayNothing → (records : List Record) → AreRecords records → (report : List Found) (done : List Record)
    → (done ≡ records) ⊎ (done ≡ records ++ seals_of (items_in records) report) → (image : List ℕ) → StandsFor image (texts_of done) → SaysTheSame records image
says_so say records are report done is image stands =
    ⊎_elim (λ same. same_so records image (subst (λ (rs : List Record). StandsFor image (texts_of rs)) same stands))
    (λ more.
    let says = seals_say say records are report in
    record {
      now = records ++ seals_of (items_in records) report;
      stands = subst (λ (rs : List Record). StandsFor image (texts_of rs)) more stands;
      files = says.0;
      requests = says.1;
    })
    is

leaves_so : (records : List Record) (doing : Doing) → ((image : List ℕ) → StandsFor image (texts_of (done_by records doing)) → SaysTheSame records image)
    → (image : List ℕ) → StandsForOne (records ∷ done_by records doing ∷ []) image → LeavesSealed records doing image
leaves_so records doing says image is =
    (is, ⊎_elim (same_so records image) (⊎_elim (says image) (λ none. absurd none)) is)

-- ---- a store that was loaded

module _ {D : Type 0} {g : Ghosts D} (store : Store D g) (held : Option (List ℕ)) (sink : ℕ) where
  abbrev records : List Record
  records = records_of store

  abbrev Does : D → Doing → Type 0
  Does after doing = IsDoing g.is_told g.kept g.moment g.left_since (disk_of store) after records doing

  each_so : (after : D) (doing : Doing) → ((image : List ℕ) → StandsFor image (texts_of (done_by records doing)) → SaysTheSame records image) → Does after doing
      → IsTrue g.is_told → LeavesOnly g.moment g.left_since (disk_of store) after (LeavesSealed records doing)
  each_so after doing says does told =
      weaker g.moment g.left_since (disk_of store) after (StandsForOne (records ∷ done_by records doing ∷ [])) (LeavesSealed records doing) (does.0 told)
      (leaves_so records doing says)

  -- its bodies weren't all read
  pub scrubs_unread : (after : D) (said : Status) → EndsUnread said → HasDiskCause (g.fault_count (disk_of store)) (g.fault_count after) said
      → Does after nothing → ScrubsLoaded store after held held sink sink said
  scrubs_unread after said why cause does = record {
    doing = nothing;
    ends = unread refl why refl;
    each = each_so after nothing (same_so records) does;
    last = does.1;
    cause = cause;
    sink_cause = early sink said why;
  }

  module _ (say : ScrubsSayNothing) (are : AreRecords records) (findings : Findings) (found : HasFound g.is_told records findings) where
    abbrev report : List Found
    report = findings.report.items

    abbrev seals : List Record
    seals = seals_of (items_in records) report

    -- they weren't put
    pub scrubs_unsealed : (disk : D) (said : Status) → CannotSeal store findings.seals.items disk said → ScrubsLoaded store disk held held sink sink said
    scrubs_unsealed disk said cannot' =
        let super = superblock_of (journal_of store) in
        let limit = limit_of (journal_of store) in
        let cannot = subst (λ (s : List Record). CannotSeal store s disk said) found.new cannot' in
        record {
          doing = cannot.doing;
          ends = unsealed report found.is cannot.why refl;
          each = each_so disk cannot.doing
              (says_so say records are report (done_by records cannot.doing) (done_so g.is_told super records seals limit cannot.doing said cannot.why)) cannot.is;
          last = cannot.is.1;
          cause = cannot.cause;
          sink_cause = early_put g.is_told super records seals limit cannot.doing sink said cannot.why;
        }

    -- all were put, and then the line, or a front of it
    pub scrubs_sealed : (new : Store D g) (after : D) (later : Option (List ℕ)) (risen : ℕ) (said : Status) → AreSealed store findings.seals.items new → after ≡ disk_of new
        → Reports (counts_text report) (status_of report) held later said → HasSinkCause sink risen said
        → ScrubsLoaded store after held later sink risen said
    scrubs_sealed new after later risen said done' is reports cause =
        let done = subst (λ (s : List Record). AreSealed store s new) found.new done' in
        subst (λ (d : D). ScrubsLoaded store d held later sink risen said) (sym is) (record {
          doing = has_put seals;
          ends = sealed report found.is refl reports;
          each = each_so (disk_of new) (has_put seals) (says_so say records are report (records ++ seals) (inr refl)) done.is;
          last = done.is.1;
          cause =
              late (counts_text report) (count_by is_damaged report) (g.fault_count (disk_of store)) (g.fault_count (disk_of new)) held later said
              reports done.faults;
          sink_cause = cause;
        })

-- ---- from the file on

pub scrubs_none : {D : Type 0} (g : Ghosts D) (limit : ℕ) (before after : D) (held : Option (List ℕ)) (sink : ℕ) (said : Status)
    → IsUnloaded (medium_of g) before after said → IsScrub (medium_of g) limit before after held held sink sink said
scrubs_none g limit before after held sink said unloaded = inl (record { unloaded = unloaded; quiet = refl; sink_count = refl })

module _ {D : Type 0} {g : Ghosts D} (limit : ℕ) (before after : D) (held later : Option (List ℕ)) (sink risen : ℕ) (said : Status) where
  pub scrubs_some : (store : Store D g) → IsLoaded (medium_of g) before limit store → ScrubsLoaded store after held later sink risen said
      → IsScrub (medium_of g) limit before after held later sink risen said
  scrubs_some store is scrubs =
      let super = superblock_of (journal_of store) in
      let records = records_of store in
      let sealed = LeavesSealed records scrubs.doing in
      inr (record {
        records = records;
        are = is.are;
        super = super;
        stood = is.stood;
        doing = scrubs.doing;
        ends = subst (λ (n : ℕ). Ends g.is_told super records n scrubs.doing held later said) is.room scrubs.ends;
        each = λ told.
            joined g.moment g.left_since before (disk_of store) after (LeavesAsBefore (g.kept before)) sealed
            (λ image. LeavesAsBefore (g.kept before) image ⊎ sealed image) (is.comes.loads told) (scrubs.each told)
            (λ image was. inl was) (λ image is. inr is);
        last = scrubs.last;
        cause = subst (λ (n : ℕ). HasDiskCause n (g.fault_count after) said) is.comes.faults scrubs.cause;
        sink_cause = scrubs.sink_cause;
      })
