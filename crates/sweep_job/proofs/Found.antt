-- what is loaded of a store
use Rattle.std.proofs.Common.{◌≡◌, ◌∙◌, ℕ, Bool, List, [], ◌∷◌, Option, None, Some, get_or, inr, refl, sym, ap, subst}
use Rattle.std.specs.List.{All}
use Rattle.std.specs.Option.{IfSome}
use Rattle.std.proofs.lemmas.List.Elements.{All-map, All-weaker}
use Rattle.disk_model.specs.declared.disk.Disk.{Ghosts}
use Rattle.xt_base.specs.TimeSettings.{TimeSettings}
use Rattle.xt_base.specs.declared.ids.FileId.{FileId}
use Rattle.xt_messages.specs.Limits.{FitsRecord}
use Rattle.xt_messages.specs.declared.record.Folded.{Folded}
use Rattle.xt_messages.specs.declared.record.Record.{Record}
use Rattle.xt_messages.specs.declared.status.Status.{Status}
use Rattle.xt_messages.specs.declared.status.Status.TheVariants as status
use Rattle.xt_protocol.specs.Folds.{fold_of}
use Rattle.xt_journal.specs.Access.{limit_of, place_of, superblock_of}
use Rattle.xt_journal.proofs.Steps.{place_of_end}
use Rattle.object_store.specs.declared.store.Store.{Store}
use Rattle.object_store.specs.Access.{disk_of, journal_of, records_of}
use Rattle.object_store.specs.Bare.{bare, bare_of}
use Rattle.replica_records.proofs.BodyLaws.{unseen}
use Rattle.object_store.specs.Texts.{texts_of, AreRecords}
use Rattle.mrc_core.specs.Picking.{CanTake}
use Rattle.mrc_core.proofs.Fitting.{can_take}
use Rattle.server_rows.specs.Laws.{files_made}
use Rattle.server_rows.specs.Metadata.{Catalogue, MrcNode, catalogue_of, empty_catalogue, mrc_of}
use Rattle.server_rows.specs.Metadata as metadata
use Rattle.object_store.proofs.BareFolds.{fold_bare, fold_of_bare}
use Rattle.orphan_sweep.specs.Fates.{FitsFate, fates_of}
use Rattle.orphan_sweep.proofs.Fitting.{files_fit}
use Rattle.orphan_sweep.proofs.Orphans.{others_stay}
use Rattle.node_links.specs.Links.{next_reading, readings_left}
use Rattle.node_runs.specs.Links.{Reads}
use Rattle.store_loading.proofs.Bare.{mrc_bare, taken_bare}
use Rattle.store_loading.specs.Loading.{EndsUnloaded, IsLoaded}
use Rattle.store_loading.specs.Sinks.{HasSinkCause}
use Rattle.store_loading.proofs.Disks.{medium_of}
use Rattle.sweep_job.specs.Sweeping.{files_by, HasClockCause, IsFound, IsServer, LoadsOrNot, SweepsOrStops}

-- ---- the records of the metadata server

-- the files that they made
pub files_known : (key : List ℕ) (given records : List Record) (now : ℕ) (mrc : MrcNode) → given ≡ bare_of records
    → mrc ≡ record { secret = key; state = mrc_of key given now } → files_made mrc.state.catalogue.made ≡ files_by key records
files_known key given records now mrc bare is =
    ap (λ (m : MrcNode). files_made m.state.catalogue.made) is
    ∙ ap (λ (c : Catalogue). files_made c.made) (ap (catalogue_of key) bare ∙ mrc_bare key records)

-- each of those that were loaded can be taken
pub all_taken : (given records : List Record) → given ≡ bare_of records → AreRecords records → All CanTake given
all_taken given records is are = taken_bare given records is (All-weaker FitsRecord CanTake can_take records are.fit)

-- ---- the clock

-- it was read once, and gave this
pub read_once : (before after : Option (List ℕ)) (reading : ℕ) → IfSome before (λ left. (reading ≡ next_reading left) × (after ≡ Some (readings_left left)))
    → (before ≡ None → after ≡ None) → Reads before after (reading ∷ [])
read_once None after reading reads untold = untold refl
read_once (Some left) after reading reads untold = reads

-- ---- the fates of the OSD's files

pub fates_known : (records given : List Record) (folded : Folded) (files : List (FileId × Option ℕ)) (times : TimeSettings) (now : ℕ) → given ≡ bare_of records
    → folded ≡ fold_of given → fates_of folded files times now ≡ fates_of (fold_of records) files times now
fates_known records given folded files times now bare is =
    ap (λ (f : Folded). fates_of f files times now) (is ∙ ap fold_of bare ∙ fold_bare records)

pub fates_fit : (records : List Record) → AreRecords records → (files : List (FileId × Option ℕ)) (times : TimeSettings) (now : ℕ)
    → All FitsFate (fates_of (fold_of records) files times now)
fates_fit records are files times now = files_fit records are files times now

module _ {D : Type 0} {g : Ghosts D} (before : D) (limit : ℕ) (store : Store D g) (is : IsLoaded (medium_of g) before limit store) where
  pub is_server : (after : D) → after ≡ disk_of store → IsServer (medium_of g) before after (records_of store)
  is_server after same = subst (λ (d : D). IsServer (medium_of g) before d (records_of store)) (sym same) (record { are = is.are; comes = is.comes })

  -- ---- those of the OSD

  is_found : IsFound (medium_of g) before (disk_of store) (records_of store) (superblock_of (journal_of store)) (place_of (journal_of store))
  is_found = record {
    are = is.are;
    comes = is.comes;
    stood = is.stood;
    place = λ told.
        place_of_end (superblock_of (journal_of store)) (g.kept (disk_of store)) (place_of (journal_of store)) (texts_of (records_of store))
        ((journal_of store).ends told) (store.keeps told);
  }

  -- they were found, and swept
  pub loads : (times : TimeSettings) (files : List (FileId × Option ℕ)) (reading : ℕ) (after : D) (held later : Option (List ℕ)) (said : Status)
      → SweepsOrStops (medium_of g) (limit_of (journal_of store)) (disk_of store) after (records_of store) (superblock_of (journal_of store)) (place_of (journal_of store))
      (fates_of (fold_of (records_of store)) files times reading) held later said
      → LoadsOrNot (medium_of g) limit times files reading before after held later said
  loads times files reading after held later said does = inr (record {
    loaded = disk_of store;
    records = records_of store;
    super = superblock_of (journal_of store);
    end = place_of (journal_of store);
    found = is_found;
    goes = others_stay (fold_of (records_of store)) files times reading;
    does = subst
        (λ (n : ℕ). SweepsOrStops (medium_of g) n (disk_of store) after (records_of store) (superblock_of (journal_of store)) (place_of (journal_of store))
        (fates_of (fold_of (records_of store)) files times reading) held later said)
        is.room does;
  })

-- ---- causes

-- the sink isn't used where no records are loaded
pub unloaded_sink : (is_told : Bool) (bytes : List ℕ) (said : Status) (count : ℕ) → EndsUnloaded is_told bytes said → HasSinkCause count count said
unloaded_sink is_told bytes (status.SinkFault n) count why = absurd why
unloaded_sink is_told bytes _ count why = refl

-- and neither does the clock fail
pub unloaded_clock : (is_told : Bool) (bytes : List ℕ) (said : Status) (count : ℕ) → EndsUnloaded is_told bytes said → HasClockCause count count said
unloaded_clock is_told bytes (status.ClockFault n) count why = absurd why
unloaded_clock is_told bytes _ count why = refl
