-- what a node does to its disk, one thing after the other
use Rattle.std.proofs.Common.{ℕ, ◌≡◌, sym, ◌∙◌, ap, subst, inl, ⊎_elim, Some, List, [], ◌∷◌}
use Rattle.std.specs.Prelude.{IsTrue}
use Rattle.disk_model.specs.declared.disk.Disk.{Ghosts}
use Rattle.disk_model.specs.Disk.{Kept, IsImage}
use Rattle.disk_model.proofs.Moments.{weaker}
use Rattle.xt_base.specs.declared.ids.Boot.{Boot}
use Rattle.xt_messages.specs.declared.record.Record.{Record}
use Rattle.xt_messages.specs.declared.status.Status.{Status}
use Rattle.xt_journal.specs.Format.{end_in}
use Rattle.xt_journal.specs.Access.{place_of, superblock_of}
use Rattle.xt_journal.proofs.Steps.{each_stands, place_of_end}
use Rattle.object_store.specs.declared.store.Store.{Store}
use Rattle.object_store.specs.Access.{disk_of, records_of, journal_of as journal_in}
use Rattle.object_store.specs.Texts.{texts_of}
use Rattle.node_runs.specs.BatchEnds.{Doing, nothing, KeepsDoing, LeavesDoing}
use Rattle.node_runs.specs.Keeping.{KeepsOn, KeptInTurn, StandsForOne, from_start, then_next}
use Rattle.node_runs.specs.Runs.{JournalAt, grown}
use Rattle.node_runs.proofs.Keeping.{stays}
use Rattle.node_loop.specs.Events.{HasDiskCause}
use Rattle.node_loop.specs.Stores.{journal_at}
use Rattle.store_loading.specs.Boots.{boot_record, booted}
use Rattle.store_loading.specs.Loading.{Medium, ComesFrom, IsLoaded}
use Rattle.store_loading.proofs.Disks.{medium_of}
use Rattle.node_jobs.specs.Disks.{EndsUnbooted, IsUnbooted, KeepsFrom, ComesTo, IsBooted, CannotBoot, EndsWithin, StandAt}

module _ {D : Type 0} (m : Medium D) where
  -- ---- records were given, and others after them

  -- some lists of records in turn, those that were given first
  pub keeps_from : (before loaded until after : D) (records : List Record) (lists : List (List Record)) (settled : List Record) (doing : Doing)
      → ComesFrom m before loaded records → (IsTrue m.is_told → KeptInTurn m.moment m.left_since loaded records lists settled until)
      → KeepsDoing m.is_told m.moment m.left_since until after settled doing → LeavesDoing m.is_told m.kept after settled doing
      → KeepsFrom m before after records lists settled doing
  keeps_from before loaded until after records lists settled doing comes in_turn ending last = record {
    stood = comes.stood;
    loaded = loaded;
    loads = comes.loads;
    until = until;
    in_turn = in_turn;
    ending = ending;
    last = last;
  }

  module _ {g : Ghosts D} where
    pub unbooted_from : (before : D) (limit : ℕ) (store : Store D g) (after : D) (said : Status) → IsLoaded m before limit store
        → CannotBoot m store after said → IsUnbooted m limit before after said
    unbooted_from before limit store after said is cannot =
        let records = records_of store in
        record {
          records = records;
          are = is.are;
          doing = cannot.doing;
          super = superblock_of (journal_in store);
          stood = is.stood;
          why = subst (λ (n : ℕ). EndsUnbooted m.is_told (superblock_of (journal_in store)) records n cannot.doing said) is.room cannot.why;
          cause = subst (λ (n : ℕ). HasDiskCause n (m.fault_count after) said) is.comes.faults cannot.cause;
          keeps = keeps_from before (disk_of store) (disk_of store) after records (records ∷ []) records cannot.doing is.comes
              (λ told. from_start (is.comes.kept told)) cannot.keeps cannot.last;
        }

module _ {D : Type 0} {g : Ghosts D}
    (only_now : (disk : D) (image : List ℕ) → IsTrue g.is_told → g.left_since disk (g.moment disk) image → IsImage (g.kept disk) image) where
  -- A disk that holds what the store's disk holds stands for its records.
  pub leaves_records : (store : Store D g) (disk : D) → g.kept disk ≡ g.kept (disk_of store)
      → IsTrue g.is_told → (image : List ℕ) → IsImage (g.kept disk) image → StandsForOne (records_of store ∷ []) image
  leaves_records store disk same told image is = inl (each_stands (g.kept (disk_of store)) (texts_of (records_of store)) image (store.keeps told)
      (subst (λ (k : Kept). IsImage k image) same is))

  -- The store is closed, and nothing was done to its records.
  pub keeps_closed : (store : Store D g) (disk : D) → disk ≡ disk_of store
      → KeepsDoing g.is_told g.moment g.left_since (disk_of store) disk (records_of store) nothing
  keeps_closed store disk same =
      let records = records_of store in
      subst (λ d. KeepsOn g.is_told g.moment g.left_since (disk_of store) d (records ∷ records ∷ [])) (sym same)
      (λ told. weaker g.moment g.left_since (disk_of store) (disk_of store) (StandsForOne (records ∷ [])) (StandsForOne (records ∷ records ∷ []))
      (stays g.is_told g.kept g.moment g.left_since (disk_of store) records store.keeps (λ image told left. only_now (disk_of store) image told left) told)
      (λ image. ⊎_elim (λ was. inl was) (λ none. absurd none)))

  -- the store of a node that kept its boot is closed
  pub closed_from : (before loaded after : D) (store : Store D g) (records : List Record)
      → ComesFrom (medium_of g) before loaded records → ComesTo (medium_of g) loaded (disk_of store) records (records_of store)
      → records_of store ≡ booted records → after ≡ disk_of store
      → KeepsFrom (medium_of g) before after records (records ∷ booted records ∷ []) (booted records) nothing
  closed_from before loaded after store records comes to is same =
      let all = records_of store in
      subst (λ (rs : List Record). KeepsFrom (medium_of g) before after records (records ∷ rs ∷ []) rs nothing) is
      (keeps_from (medium_of g) before loaded (disk_of store) after records (records ∷ all ∷ []) all nothing comes
      (λ told. then_next (records ∷ []) records all loaded (disk_of store) (from_start (comes.kept told)) (to.each told) (to.kept told))
      (keeps_closed store after same) (leaves_records store after (ap g.kept same)))

-- where the records of a loaded store are on the disk, once that of its boot was put
module _ {D : Type 0} {g : Ghosts D} where
  pub stand_at : (before : D) (limit : ℕ) (old new : Store D g) (boot : Boot) → IsLoaded (medium_of g) before limit old → IsBooted (medium_of g) old new boot
      → IsTrue g.is_told → StandAt (g.kept before).read (records_of old) (boot_record (records_of old)) (journal_at new)
  stand_at before limit old new boot is boots told =
      let super = superblock_of (journal_in old) in
      let rec = boot_record (records_of old) in
      let place : place_of (journal_in old) ≡ end_in super (texts_of (records_of old)) =
      place_of_end super (g.kept (disk_of old)) (place_of (journal_in old)) (texts_of (records_of old)) ((journal_in old).ends told) (old.keeps told) in
      record {
        super = super;
        stand = is.stood told;
        is = boots.journal ∙ (λ i. grown (record { superblock = super; end = place i; limit = sym (ap (λ (j : JournalAt). j.limit) boots.journal) i }) (Some rec));
      }

  -- its journal is within the limit
  pub within_at : (before : D) (limit : ℕ) (old new : Store D g) (boot : Boot) → IsLoaded (medium_of g) before limit old → IsBooted (medium_of g) old new boot
      → EndsWithin limit (journal_at new)
  within_at before limit old new boot is boots = subst (λ (n : ℕ). EndsWithin n (journal_at new)) is.room boots.within
