-- seals that are put after the records of a store
use Rattle.std.proofs.Common.{◌≡◌, ◌∙◌, ◌≤◌, ◌<◌, ◌+◌, inl, inr, ⊎_elim, ℕ, suc, Bool, List, [], ◌∷◌, ◌++◌, length, take, drop, get_or, Option, Err, true, false, refl, sym, ap, subst, append-nil, append_assoc, take-append-drop, arith}
use Rattle.std.specs.Prelude.{IsTrue}
use Rattle.std.specs.List.{All}
use Rattle.std.proofs.lemmas.List.{take_more}
use Rattle.std.proofs.Math.Seq.{drop-cons}
use Rattle.disk_model.specs.declared.disk.Disk.{Ghosts}
use Rattle.disk_model.specs.Disk.{IsImage}
use Rattle.journal_areas.specs.declared.superblock.Superblock.{Superblock}
use Rattle.xt_journal.specs.Access.{limit_of, place_of, superblock_of}
use Rattle.xt_journal.specs.Format.{StandsFor, end_in}
use Rattle.xt_journal.proofs.Push.{end_in-push}
use Rattle.xt_journal.proofs.Steps.{place_of_end}
use Rattle.xt_messages.specs.declared.record.Record.{Record}
use Rattle.xt_messages.specs.declared.status.Status.TheVariants as status
use Rattle.replica_records.specs.Known.{known_of}
use Rattle.replica_records.specs.RecordText.{record_text}
use Rattle.object_store.specs.declared.store.Store.{Store}
use Rattle.object_store.specs.declared.waiting.StageErr.{StageErr}
use Rattle.object_store.specs.declared.waiting.StageErr.TheVariants.{Full, OutOfMemory}
use Rattle.object_store.specs.declared.waiting.Waiting.{Waiting}
use Rattle.object_store.specs.Access.{disk_of, journal_of, records_of}
use Rattle.object_store.specs.Puts.{AreBroken, ArePut, IsUntouched, PutsTo}
use Rattle.object_store.specs.Texts.{texts_of}
use Rattle.object_store.specs.Waits.{CanBePut, IsOverLimit, IsStaged, Stages, end_after, end_with, recs_of}
use Rattle.object_store.proofs.Callers.{none_waits}
use Rattle.object_store.proofs.Reading.{texts-push}
use Rattle.object_store.proofs.Waited.{end_after-push}
use Rattle.node_runs.specs.BatchEnds.{nothing, putting, refused, has_put}
use Rattle.node_runs.specs.Keeping.{KeepsOn}
use Rattle.node_loop.specs.Passing.{IsDoing}
use Rattle.node_loop.proofs.Committing.{puts_all, refuses}
use Rattle.node_loop.proofs.Counting.{stays_changed}
use Rattle.node_loop.proofs.Finishing.{does_nothing, leaves_putting}
use Rattle.store_loading.proofs.Disks.{rose_by_one}
use Rattle.scrub_job.specs.Sealing.{AreSealed, AreStaged, CannotSeal, CannotStage, HasNoRoom, IsSeal}
use Rattle.scrub_job.proofs.Seals.{seals_known}

-- ---- the seal at an index, with those before it and after it

pub split_at_index : (seals : List Record) (i : ℕ) (seal : Record) → i < length seals → seal ≡ get_or seals i seal → seals ≡ take i seals ++ seal ∷ drop (suc i) seals
split_at_index seals i seal inside is =
    sym (take-append-drop i seals)
    ∙ ap (λ (rest : List Record). take i seals ++ rest) (drop-cons seals i seal inside ∙ ap (λ (s : Record). s ∷ drop (suc i) seals) (sym is))

next_seal : (seals : List Record) (i : ℕ) (seal : Record) → i < length seals → seal ≡ get_or seals i seal → take (i + 1) seals ≡ take i seals ++ seal ∷ []
next_seal seals i seal inside is = take_more seals i seal inside ∙ ap (λ (s : Record). take i seals ++ s ∷ []) (sym is)

-- ---- where a journal ends

-- with these records after those, it ends where these end that are put from its end on
ends_after : (super : Option Superblock) (records recs : List Record) → end_after (end_in super (texts_of records)) recs ≡ end_in super (texts_of (records ++ recs))
ends_after super records [] = ap (λ (rs : List Record). end_in super (texts_of rs)) (sym (append-nil records))
ends_after super records (rec ∷ recs) =
    ap (λ (n : ℕ). end_after n recs) (sym (end_in-push super (texts_of records) (record_text rec)) ∙ ap (end_in super) (sym (texts-push records rec)))
    ∙ ends_after super (records ++ rec ∷ []) recs
    ∙ ap (λ (rs : List Record). end_in super (texts_of rs)) (append_assoc records (rec ∷ []) recs)

module _ {D : Type 0} {g : Ghosts D} where
  -- a journal with them is as long as one needs to be to let the last one wait
  needs : (store : Store D g) (before : List Record) (seal : Record) → IsTrue g.is_told
      → end_with store before + (6 + length (record_text seal)) ≡ end_in (superblock_of (journal_of store)) (texts_of (records_of store ++ (before ++ seal ∷ []))) + 1
  needs store before seal told =
      let super = superblock_of (journal_of store) in
      let place : place_of (journal_of store) ≡ end_in super (texts_of (records_of store)) =
      place_of_end super (g.kept (disk_of store)) (place_of (journal_of store)) (texts_of (records_of store)) ((journal_of store).ends told) (store.keeps told) in
      let whole : end_with store (before ++ seal ∷ []) ≡ end_in super (texts_of (records_of store ++ (before ++ seal ∷ []))) =
      ap (λ (n : ℕ). end_after n (before ++ seal ∷ [])) place ∙ ends_after super (records_of store) (before ++ seal ∷ []) in
      omega (arith, whole, end_after-push (place_of (journal_of store)) before seal)

  -- ---- they wait

  pub none_staged : (store : Store D g) (waiting : Waiting) → recs_of waiting ≡ [] → AreStaged store [] waiting
  none_staged store waiting none = record { recs = none; can = subst (CanBePut store) (sym none) (none_waits store) }

  pub one_staged : (store : Store D g) (seals : List Record) (i : ℕ) (seal : Record) (old new : Waiting) → i < length seals → seal ≡ get_or seals i seal
      → AreStaged store (take i seals) old → IsStaged store old seal new → AreStaged store (take (i + 1) seals) new
  one_staged store seals i seal old new inside is before staged = record {
    recs = staged.recs ∙ ap (λ (rs : List Record). rs ++ seal ∷ []) before.recs ∙ sym (next_seal seals i seal inside is);
    can = staged.can;
  }

  -- there is no room for one of them
  one_over : (store : Store D g) (seals : List Record) (i : ℕ) (seal : Record) (old : Waiting) (need limit : ℕ) → i < length seals → seal ≡ get_or seals i seal
      → AreStaged store (take i seals) old → IsOverLimit store (end_with store (recs_of old) + (6 + length (record_text seal))) need limit
      → HasNoRoom g.is_told (superblock_of (journal_of store)) (records_of store) seals (limit_of (journal_of store)) need limit
  one_over store seals i seal old need limit inside is before over = record {
    before = take i seals;
    seal = seal;
    rest = drop (suc i) seals;
    split = split_at_index seals i seal inside is;
    needed = end_with store (recs_of old) + (6 + length (record_text seal));
    needed_is = λ told.
        ap (λ (rs : List Record). end_with store rs + (6 + length (record_text seal))) before.recs ∙ needs store (take i seals) seal told;
    over = (over.over, over.need_is, over.limit_is);
  }

  -- one of them doesn't wait
  pub cannot_stage : (T : Type 0) (store : Store D g) (seals : List Record) (i : ℕ) (seal : Record) (old new : Waiting) → i < length seals → seal ≡ get_or seals i seal
      → AreStaged store (take i seals) old → (error : StageErr) → Stages {T = T} store old seal new (Err error) → CannotStage store seals error
  cannot_stage T store seals i seal old new inside is before (Full need limit) stages = one_over store seals i seal old need limit inside is before stages.0
  cannot_stage T store seals i seal old new inside is before OutOfMemory stages = tt

  -- ---- they are put

  module _ (only_now : (disk : D) (image : List ℕ) → IsTrue g.is_told → g.left_since disk (g.moment disk) image → IsImage (g.kept disk) image)
      (counts_now : (disk : D) (t : ℕ) (image : List ℕ) → IsTrue g.is_told → t ≤ g.moment disk → IsImage (g.kept disk) image → g.left_since disk t image)
      (store : Store D g) where
    abbrev Does : D → Type 0
    Does disk = IsDoing g.is_told g.kept g.moment g.left_since (disk_of store) disk (records_of store) nothing

    -- the store is closed, and nothing was done to it
    pub closes : (disk : D) → disk ≡ disk_of store → Does disk
    closes disk is =
        does_nothing g.is_told g.kept g.moment g.left_since counts_now (disk_of store) disk (records_of store)
        (stays_changed g.is_told g.kept g.moment g.left_since (disk_of store) disk (records_of store) is store.keeps only_now)

    -- there is no room for all of them
    pub has_no_room : (seals : List Record) (disk : D) (need limit : ℕ) → disk ≡ disk_of store
        → HasNoRoom g.is_told (superblock_of (journal_of store)) (records_of store) seals (limit_of (journal_of store)) need limit
        → CannotSeal store seals disk (status.JournalFull need limit)
    has_no_room seals disk need limit is full = record { doing = nothing; why = (refl, full); is = closes disk is; cause = ap g.fault_count is }

    -- memory ran out before all of them waited
    pub runs_out : (seals : List Record) (disk : D) → disk ≡ disk_of store → CannotSeal store seals disk status.OutOfMemory
    runs_out seals disk is = record { doing = nothing; why = inl refl; is = closes disk is; cause = ap g.fault_count is }

    -- there are none
    pub none_sealed : (seals : List Record) → seals ≡ [] → AreSealed store seals store
    none_sealed seals none = subst (λ (s : List Record). AreSealed store s store) (sym none) (record {
      records = sym (append-nil (records_of store));
      is = (
        λ told. subst (λ (rs : List Record). KeepsOn g.is_told g.moment g.left_since (disk_of store) (disk_of store) (records_of store ∷ rs ∷ []))
            (sym (append-nil (records_of store))) here.0 told,
        λ told image now. inl (subst (λ (rs : List Record). StandsFor image (texts_of rs)) (sym (append-nil (records_of store)))
            (⊎_elim (λ is. is) (λ none. absurd none) (here.1 told image now))),
      );
      faults = refl;
    })
      where
        here : Does (disk_of store)
        here = closes (disk_of store) refl

    module _ (seals recs : List Record) (are : recs ≡ seals) (all : All IsSeal seals) where
      -- what is known of them is all of them
      known : known_of g.is_told recs ≡ seals
      known = ap (known_of g.is_told) are ∙ seals_known g.is_told seals all

      meanwhile : {E : Type 0} (disk : D) (failed : Bool) → PutsTo store recs E disk failed
          → KeepsOn g.is_told g.moment g.left_since (disk_of store) disk (records_of store ∷ (records_of store ++ seals) ∷ [])
      meanwhile disk failed puts =
          subst (λ (rs : List Record). KeepsOn g.is_told g.moment g.left_since (disk_of store) disk (records_of store ∷ (records_of store ++ rs) ∷ [])) known
          (puts_all g.is_told g.kept g.moment g.left_since (disk_of store) disk (records_of store) recs puts.any_moment)

      pub all_sealed : (new : Store D g) → PutsTo store recs (ArePut store recs new) (disk_of new) false → AreSealed store seals new
      all_sealed new puts = record {
        records = puts.end.records ∙ ap (λ (rs : List Record). records_of store ++ rs) known;
        is = (
          meanwhile (disk_of new) false puts,
          λ told image now. inl (subst (λ (rs : List Record). StandsFor image (texts_of (records_of store ++ rs))) are (puts.end.acknowledged told image now)),
        );
        faults = puts.faults;
      }

      -- the disk failed
      pub breaks : (disk : D) (count : ℕ) → PutsTo store recs (AreBroken store recs count disk) disk true → CannotSeal store seals disk (status.DiskFault count)
      breaks disk count puts = record {
        doing = putting seals;
        why = refl;
        is = leaves_putting g.is_told g.kept g.moment g.left_since counts_now (disk_of store) disk (records_of store) seals (meanwhile disk true puts);
        cause = (rose_by_one (g.fault_count (disk_of store)) (g.fault_count disk) puts.faults, puts.end.fault);
      }

      -- memory ran out before the first call
      pub untouched : (disk : D) → PutsTo store recs (IsUntouched store disk) disk false → CannotSeal store seals disk status.OutOfMemory
      untouched disk puts = record {
        doing = refused seals;
        why = inr refl;
        is = refuses g.is_told g.kept g.moment g.left_since (disk_of store) disk (records_of store) seals (meanwhile disk false puts) store.keeps puts.end.kept;
        cause = puts.faults;
      }
