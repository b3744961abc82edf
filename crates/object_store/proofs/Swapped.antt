-- a journal's new payloads are the texts of records
use Rattle.std.proofs.Common.{◌≡◌, ◌-◌, ℕ, Bool, inl, refl, Option, Some, List, sym, ◌∙◌, ap, subst, Err}
use Rattle.std.specs.Prelude.{IsTrue}
use Rattle.disk_model.specs.declared.disk.Disk.{Ghosts}
use Rattle.disk_model.specs.Disk.{Kept, IsImage, LeavesOnly}
use Rattle.disk_model.proofs.Moments.{begun}
use Rattle.xt_messages.specs.declared.record.Record.{Record}
use Rattle.journal_areas.specs.declared.site.Area.{Area}
use Rattle.journal_areas.specs.declared.superblock.Superblock.{Superblock}
use Rattle.journal_areas.specs.Sites.{area_size, moved, need_for, new_area_of}
use Rattle.journal_moves.specs.Answers.{full_need}
use Rattle.journal_moves.specs.Moves.{IsEither, IsMoveStopped, move_calls}
use Rattle.xt_journal.specs.Format.{KeepsJournal, StandsFor}
use Rattle.xt_journal.proofs.Steps.{each_stands}
use Rattle.object_store.specs.declared.store.Store.{Store}
use Rattle.object_store.specs.declared.errors.AppendErr.TheVariants as append
use Rattle.object_store.specs.Access.{disk_of, records_of}
use Rattle.object_store.specs.Swaps.{Swaps}
use Rattle.object_store.specs.Texts.{texts_of}
use Rattle.object_store.proofs.Outcomes.{goes_on_itself}

module _ (payloads texts : List (List ℕ)) (is : payloads ≡ texts) where
  pub stands_as : (image : List ℕ) → StandsFor image payloads → StandsFor image texts
  stands_as image fact = subst (λ (ps : List (List ℕ)). StandsFor image ps) is fact

  pub either_as : (old : List (List ℕ)) (image : List ℕ) → IsEither old payloads image → IsEither old texts image
  either_as old image fact = subst (λ (ps : List (List ℕ)). IsEither old ps image) is fact

  pub moments_as : {D : Type 0} (moment : D → ℕ) (left : D → ℕ → List ℕ → Type 0) (before after : D) (old : List (List ℕ))
      → LeavesOnly moment left before after (IsEither old payloads) → LeavesOnly moment left before after (IsEither old texts)
  moments_as moment left before after old fact = subst (λ (ps : List (List ℕ)). LeavesOnly moment left before after (IsEither old ps)) is fact

  module _ (super : Option Superblock) (end : ℕ) where
    pub area_as : (area : Area) → area ≡ new_area_of super end (area_size payloads) → area ≡ new_area_of super end (area_size texts)
    area_as area fact = subst (λ (ps : List (List ℕ)). area ≡ new_area_of super end (area_size ps)) is fact

    pub superblock_as : (new : Option Superblock) → new ≡ Some (moved super end (area_size payloads)) → new ≡ Some (moved super end (area_size texts))
    superblock_as new fact = subst (λ (ps : List (List ℕ)). new ≡ Some (moved super end (area_size ps))) is fact

    pub place_as : (new : ℕ) → new ≡ need_for super end (area_size payloads) - 1 → new ≡ need_for super end (area_size texts) - 1
    place_as new fact = subst (λ (ps : List (List ℕ)). new ≡ need_for super end (area_size ps) - 1) is fact

    pub need_as : (limit : ℕ) (need : Option ℕ) → full_need super end (area_size payloads) limit ≡ need → full_need super end (area_size texts) limit ≡ need
    need_as limit need fact = subst (λ (ps : List (List ℕ)). full_need super end (area_size ps) limit ≡ need) is fact

    pub stopped_as : (sizes lengths : List ℕ) → sizes ≡ lengths → (fails : ℕ → ℕ → Bool) (kept : Kept) (old : List (List ℕ))
        → IsMoveStopped (move_calls super end sizes) fails kept old payloads → IsMoveStopped (move_calls super end lengths) fails kept old texts
    stopped_as sizes lengths same fails kept old fact =
        subst (λ (ns : List ℕ). IsMoveStopped (move_calls super end ns) fails kept old texts) same
        (subst (λ (ps : List (List ℕ)). IsMoveStopped (move_calls super end sizes) fails kept old ps) is fact)

-- the disk keeps the texts of these records
pub keeps_as : (kept : Kept) (payloads : List (List ℕ)) (made records : List Record) → payloads ≡ texts_of made → records ≡ made → KeepsJournal kept payloads → KeepsJournal kept (texts_of records)
keeps_as kept payloads made records is same fact = subst (λ (ps : List (List ℕ)). KeepsJournal kept ps) (is ∙ ap texts_of (sym same)) fact

-- ---- nothing is done

rests_either : (kept : Kept) (old made : List (List ℕ)) (image : List ℕ) → KeepsJournal kept old → IsImage kept image → IsEither old made image
rests_either kept old made image keeps is = inl (each_stands kept old image keeps is)

-- memory ran out before a call was made, and before the store was touched
pub not_tried : {D : Type 0} {g : Ghosts D} (old : Store D g) (made : List Record)
    → ((image : List ℕ) → IsTrue g.is_told → g.left_since (disk_of old) (g.moment (disk_of old)) image → IsImage (g.kept (disk_of old)) image)
    → Swaps old made (Err (append.OutOfMemory old))
not_tried {g = g} old made only = record {
  end = record { records = refl; kept = refl; place = refl; limit = refl; superblock = refl; no_call = λ told. goes_on_itself (g.fails (disk_of old)) };
  any_moment = λ told.
      begun g.moment g.left_since (disk_of old) (IsEither (texts_of (records_of old)) (texts_of made))
      (λ image left. rests_either (g.kept (disk_of old)) (texts_of (records_of old)) (texts_of made) image (old.keeps told) (only image told left));
  faults = refl;
}
