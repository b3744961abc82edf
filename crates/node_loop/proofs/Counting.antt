-- The disk's count of faults, from a node's start to its end.
use Rattle.std.proofs.Common.{ℕ, ◌≡◌, ◌∙◌, sym, ap, subst, inl, Bool, List, [], ◌∷◌}
use Rattle.std.specs.Prelude.{IsTrue}
use Rattle.disk_model.specs.Disk.{Kept, IsImage, Elapses}
use Rattle.disk_model.proofs.Moments.{unchanged, weaker}
use Rattle.xt_messages.specs.declared.record.Record.{Record}
use Rattle.xt_messages.specs.declared.status.Status.{Status}
use Rattle.xt_journal.specs.Format.{KeepsJournal}
use Rattle.xt_journal.proofs.Steps.{each_stands}
use Rattle.object_store.specs.Texts.{texts_of}
use Rattle.node_runs.specs.Keeping.{StandsForOne}
use Rattle.node_runs.proofs.Keeping.{keeps_now, stays_so}
use Rattle.node_loop.specs.Passing.{Changes}
use Rattle.node_loop.specs.Events.{HasDiskCause}

-- where the count hasn't risen until now, what ends the node now has its cause since the start
pub cause_since : (first before after : ℕ) (ended : Status) → before ≡ first → HasDiskCause before after ended → HasDiskCause first after ended
cause_since first before after ended same cause = subst (λ n. HasDiskCause n after ended) same cause

-- a disk that was handed back, and has counted a fault, keeps what it kept
pub counted_keeps : {D : Type 0} (is_told : Bool) (kept : D → Kept) (moment : D → ℕ) (left_since : D → ℕ → List ℕ → Type 0) (disk closed after : D) (records : List Record)
    → closed ≡ disk → (IsTrue is_told → KeepsJournal (kept disk) (texts_of records))
    → ((disk : D) (image : List ℕ) → IsTrue is_told → left_since disk (moment disk) image → IsImage (kept disk) image)
    → kept after ≡ kept closed → (IsTrue is_told → Elapses (moment closed) (moment after) (left_since closed) (left_since after) (kept after))
    → Changes is_told moment left_since disk after records records
counted_keeps is_told kept moment left_since disk closed after records is keeps only same time = record {
  on = λ told. weaker moment left_since disk after (IsImage (kept disk)) (StandsForOne (records ∷ records ∷ []))
      (unchanged moment left_since disk after (kept disk) (kept after) (same ∙ ap kept is) (λ image left. only disk image told left)
      (subst (λ d. Elapses (moment d) (moment after) (left_since d) (left_since after) (kept after)) is (time told)))
      (λ image was. inl (each_stands (kept disk) (texts_of records) image (keeps told) was));
  now = λ told image left. each_stands (kept disk) (texts_of records) image (keeps told)
      (subst (λ k. IsImage k image) (same ∙ ap kept is) (only after image told left));
}

-- a disk that is as it was
pub stays_changed : {D : Type 0} (is_told : Bool) (kept : D → Kept) (moment : D → ℕ) (left_since : D → ℕ → List ℕ → Type 0) (disk closed : D) (records : List Record)
    → closed ≡ disk → (IsTrue is_told → KeepsJournal (kept disk) (texts_of records))
    → ((disk : D) (image : List ℕ) → IsTrue is_told → left_since disk (moment disk) image → IsImage (kept disk) image)
    → Changes is_told moment left_since disk closed records records
stays_changed is_told kept moment left_since disk closed records is keeps only = subst (λ d. Changes is_told moment left_since disk d records records) (sym is) (record {
  on = stays_so is_told kept moment left_since disk records keeps (λ image told left. only disk image told left);
  now = keeps_now is_told kept moment left_since disk records keeps (λ image told left. only disk image told left);
})
