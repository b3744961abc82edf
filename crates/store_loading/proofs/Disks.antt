-- the records of a disk are loaded
use Rattle.std.proofs.Common.{ℕ, ◌≡◌, ◌≤◌, ◌<◌, ◌-◌, ◌^◌, true, arith, sym, ◌∙◌, ap, subst, inl, inr, ⊎_elim, Option, List, [], length, Ok}
use Rattle.std.specs.Prelude.{Bool, IsTrue}
use Rattle.std.proofs.lemmas.Bool.{cases_lt}
use Rattle.disk_model.specs.declared.disk.Disk.{Ghosts}
use Rattle.disk_model.specs.Disk.{Kept, IsImage, Elapses, LeavesOnly, at_rest}
use Rattle.disk_model.proofs.Moments.{joined, unchanged, weaker}
use Rattle.xt_base.specs.Faults.{Rose, fault_count_after}
use Rattle.xt_messages.specs.declared.status.Status.{Status}
use Rattle.xt_messages.specs.declared.status.Status.TheVariants as status
use Rattle.journal_areas.specs.declared.superblock.Superblock.{Superblock}
use Rattle.xt_journal.specs.Format.{StandsIn, StandsFor, KeepsJournal, journal_of}
use Rattle.xt_journal.specs.Loaded.{LeavesAsBefore}
use Rattle.xt_journal.specs.declared.journal.Journal.{Journal}
use Rattle.xt_journal.specs.Placed.{Placed}
use Rattle.xt_journal.specs.Access as journal
use Rattle.xt_journal.specs.Access.{limit_of, place_of, superblock_of}
use Rattle.xt_journal.specs.Reading.{IsTheReading, Stands, Foreign, Unknown, Damaged, payloads_of}
use Rattle.xt_journal.proofs.Unique.{reads_stand}
use Rattle.object_store.specs.declared.store.Store.{Store}
use Rattle.object_store.specs.Access.{disk_of, records_of, journal_of as journal_in}
use Rattle.object_store.specs.Loading.{IsLoadOf}
use Rattle.object_store.specs.Texts.{texts_of, AreRecords}
use Rattle.object_store.proofs.Stored.{known_there}
use Rattle.object_store.proofs.Stores.{known_are}
use Rattle.node_runs.proofs.Keeping.{keeps_now}
use Rattle.node_loop.specs.Events.{HasDiskCause}
use Rattle.store_loading.specs.Loading.{Medium, HasBadRecord, EndsUnloaded, IsLeftUnloaded, IsUnloaded, IsLoaded}

-- what contracts know of a disk, by the members of its trait
abbrev pub medium_of : {D : Type 0} → Ghosts D → Medium D
medium_of g = record { is_told = g.is_told; kept = g.kept; moment = g.moment; left_since = g.left_since; fault_count = g.fault_count }

-- why no records are loaded from a disk, where it is known that it reads the same bytes
reread : (is_told : Bool) (bytes same : List ℕ) → (IsTrue is_told → same ≡ bytes) → (said : Status)
    → EndsUnloaded is_told same said → EndsUnloaded is_told bytes said
reread is_told bytes same is (status.NotOurs first) why = λ told. subst (λ (b : List ℕ). IsTheReading b (Foreign first)) (is told) (why told)
reread is_told bytes same is (status.Layout version) why = λ told. subst (λ (b : List ℕ). IsTheReading b (Unknown version)) (is told) (why told)
reread is_told bytes same is (status.Damaged place) why = λ told.
    ⊎_elim (λ damaged. inl (subst (λ (b : List ℕ). IsTheReading b (Damaged place)) (is told) damaged))
    (λ bad. inr (subst (λ (b : List ℕ). HasBadRecord b place) (is told) bad))
    (why told)
reread is_told bytes same is _ why = why

-- a count that goes up by one, or stays at the greatest
pub rose_by_one : (old new : ℕ) → new ≡ fault_count_after true old → Rose old new
rose_by_one old new is =
    ⊎_elim (λ low. inl (omega (arith, is, low))) (λ high. inr (omega (arith, is, high))) (cases_lt old (2 ^ 64 - 1))

-- a load that gave a journal, and no store
pub left_unloaded : (old new : Kept) (payloads : List (List ℕ)) → KeepsJournal new payloads → (13 < length old.read → new.read ≡ old.read)
    → (length old.read ≤ 13 → new ≡ at_rest (journal_of [])) → IsLeftUnloaded old new
left_unloaded old new payloads keeps same fresh =
    ⊎_elim (λ long. inl (inr (inl (keeps.rests ∙ ap at_rest (same long))))) (λ short. inr (short, fresh short)) (cases_lt 13 (length old.read))

module _ {D : Type 0} (m : Medium D) where
  -- ---- the file is chosen

  module _ (before chosen : D) (same : IsTrue m.is_told → m.kept chosen ≡ m.kept before)
      (time : IsTrue m.is_told → Elapses (m.moment before) (m.moment chosen) (m.left_since before) (m.left_since chosen) (m.kept chosen))
      (only_now : (image : List ℕ) → IsTrue m.is_told → m.left_since before (m.moment before) image → IsImage (m.kept before) image) where
    choosing : IsTrue m.is_told → LeavesOnly m.moment m.left_since before chosen (IsImage (m.kept before))
    choosing told =
        unchanged m.moment m.left_since before chosen (m.kept before) (m.kept chosen) (same told) (λ image left. only_now image told left) (time told)

    -- it can't be
    pub unchosen : (count : ℕ) → HasDiskCause (m.fault_count before) (m.fault_count chosen) (status.DiskFault count)
        → IsUnloaded m before chosen (status.DiskFault count)
    unchosen count cause = record {
      why = tt;
      cause = cause;
      each = λ told. weaker m.moment m.left_since before chosen (IsImage (m.kept before)) (LeavesAsBefore (m.kept before)) (choosing told) (λ image was. inl was);
      left = λ told. inl (inl (same told));
    }

    module _ (faults : m.fault_count chosen ≡ m.fault_count before) where
      loads_from : (after : D) → (IsTrue m.is_told → LeavesOnly m.moment m.left_since chosen after (LeavesAsBefore (m.kept chosen)))
          → IsTrue m.is_told → LeavesOnly m.moment m.left_since before after (LeavesAsBefore (m.kept before))
      loads_from after loads told =
          joined m.moment m.left_since before chosen after (IsImage (m.kept before)) (LeavesAsBefore (m.kept chosen)) (LeavesAsBefore (m.kept before))
          (choosing told) (loads told) (λ image was. inl was)
          (λ image left. subst (λ (k : Kept). LeavesAsBefore k image) (same told) left)

      pub unloaded_from : (after : D) (said : Status) → IsUnloaded m chosen after said → IsUnloaded m before after said
      unloaded_from after said is = record {
        why = reread m.is_told (m.kept before).read (m.kept chosen).read (λ told. ap (λ (k : Kept). k.read) (same told)) said is.why;
        cause = subst (λ (n : ℕ). HasDiskCause n (m.fault_count after) said) faults is.cause;
        each = loads_from after is.each;
        left = λ told. subst (λ (k : Kept). IsLeftUnloaded k (m.kept after)) (same told) (is.left told);
      }

      pub loaded_from : {g : Ghosts D} (limit : ℕ) (store : Store D g) → IsLoaded m chosen limit store → IsLoaded m before limit store
      loaded_from limit store is = record {
        are = is.are;
        room = is.room;
        stood = λ told. subst (λ (k : Kept). StandsIn (superblock_of (journal_in store)) k.read (texts_of (records_of store))) (same told) (is.stood told);
        comes = record {
          stood = λ told. subst (λ (k : Kept). StandsFor k.read (texts_of (records_of store))) (same told) (is.comes.stood told);
          loads = loads_from (disk_of store) is.comes.loads;
          kept = is.comes.kept;
          faults = is.comes.faults ∙ faults;
        };
        same = λ told. subst (λ (k : Kept). 13 < length k.read → (m.kept (disk_of store)).read ≡ k.read) (same told) (is.same told);
      }

module _ {D : Type 0} {g : Ghosts D}
    (only_now : (disk : D) (image : List ℕ) → IsTrue g.is_told → g.left_since disk (g.moment disk) image → IsImage (g.kept disk) image) where
  -- a store that was loaded from a disk
  pub loaded_is : (before : D) (limit : ℕ) (from : Journal D g) (placed : List Placed) (payloads : List (List ℕ)) (store : Store D g)
      → (IsTrue g.is_told → IsTheReading (g.kept before).read (Stands placed)) → (IsTrue g.is_told → payloads ≡ payloads_of placed) → limit_of from ≡ limit
      → (IsTrue g.is_told → StandsIn (superblock_of from) (g.kept before).read (payloads_of placed))
      → (IsTrue g.is_told → LeavesOnly g.moment g.left_since before (journal.disk_of from) (LeavesAsBefore (g.kept before)))
      → g.fault_count (journal.disk_of from) ≡ g.fault_count before
      → (IsTrue g.is_told → 13 < length (g.kept before).read → (g.kept (journal.disk_of from)).read ≡ (g.kept before).read)
      → IsLoadOf from payloads (Ok store) → IsLoaded (medium_of g) before limit store
  loaded_is before limit from placed payloads store reads are room stood loads faults same is =
      let there : IsTrue g.is_told → texts_of (records_of store) ≡ payloads_of placed =
      λ told. ap texts_of (is.known ∙ known_there g.is_told is.records told) ∙ is.texts ∙ are told in
      record {
        are = subst AreRecords (sym is.known) (known_are g.is_told is.records is.are);
        room = ap (λ (j : Journal D g). limit_of j) is.journal_is ∙ room;
        stood = λ told.
            subst (λ (super : Option Superblock). StandsIn super (g.kept before).read (texts_of (records_of store))) (sym (ap (λ (j : Journal D g). superblock_of j) is.journal_is))
            (subst (λ (ps : List (List ℕ)). StandsIn (superblock_of from) (g.kept before).read ps) (sym (there told)) (stood told));
        comes = record {
          stood = λ told. subst (λ (ps : List (List ℕ)). StandsFor (g.kept before).read ps) (sym (there told)) (reads_stand (g.kept before).read placed (reads told).reads);
          loads = λ told.
              subst (λ (j : Journal D g). LeavesOnly g.moment g.left_since before (journal.disk_of j) (LeavesAsBefore (g.kept before))) (sym is.journal_is) (loads told);
          kept = keeps_now g.is_told g.kept g.moment g.left_since (disk_of store) (records_of store) store.keeps (λ image told left. only_now (disk_of store) image told left);
          faults = ap (λ (j : Journal D g). g.fault_count (journal.disk_of j)) is.journal_is ∙ faults;
        };
        same = λ told long. ap (λ (j : Journal D g). (g.kept (journal.disk_of j)).read) is.journal_is ∙ same told long;
      }
