-- what a disk keeps, from one put to the next
use Rattle.std.proofs.Common.{ℕ, ◌≡◌, ◌⊎◌, refl, sym, subst, Bool, List, [], ◌∷◌, ◌++◌, inl, inr, ⊎_elim}
use Rattle.std.specs.Prelude.{IsTrue}
use Rattle.disk_model.specs.Disk.{Kept, IsImage, LeavesOnly}
use Rattle.disk_model.proofs.Moments.{begun, weaker}
use Rattle.xt_messages.specs.declared.record.Record.{Record}
use Rattle.xt_journal.specs.Append.{IsWithOrWithout}
use Rattle.xt_journal.specs.Format.{StandsFor, KeepsJournal}
use Rattle.xt_journal.proofs.Steps.{each_stands}
use Rattle.replica_records.specs.RecordText.{record_text}
use Rattle.object_store.specs.Texts.{texts_of}
use Rattle.object_store.proofs.Reading.{texts-push}
use Rattle.node_runs.specs.Keeping.{StandsForOne, KeepsOn, KeepsNow, KeptInTurn, from_start, then_next}

-- ---- one of some lists

pub one_of_first : (moments more : List (List Record)) (image : List ℕ) → StandsForOne moments image → StandsForOne (moments ++ more) image
one_of_first [] more image is = absurd is
one_of_first (records ∷ moments) more image (inl is) = inl is
one_of_first (records ∷ moments) more image (inr is) = inr (one_of_first moments more image is)

pub one_of_later : (moments more : List (List Record)) (image : List ℕ) → StandsForOne more image → StandsForOne (moments ++ more) image
one_of_later [] more image is = is
one_of_later (records ∷ moments) more image is = inr (one_of_later moments more image is)

module _ {D : Type 0} (is_told : Bool) (kept : D → Kept) (moment : D → ℕ) (left_since : D → ℕ → List ℕ → Type 0) where
  -- a crash leaves now what the disk keeps
  pub keeps_now : (disk : D) (records : List Record) → (IsTrue is_told → KeepsJournal (kept disk) (texts_of records))
      → ((image : List ℕ) → IsTrue is_told → left_since disk (moment disk) image → IsImage (kept disk) image)
      → IsTrue is_told → KeepsNow moment left_since disk records
  keeps_now disk records keeps only told = λ image left. each_stands (kept disk) (texts_of records) image (keeps told) (only image told left)

  -- nothing was put
  pub stays : (disk : D) (records : List Record) → (IsTrue is_told → KeepsJournal (kept disk) (texts_of records))
      → ((image : List ℕ) → IsTrue is_told → left_since disk (moment disk) image → IsImage (kept disk) image)
      → KeepsOn is_told moment left_since disk disk (records ∷ [])
  stays disk records keeps only told = begun moment left_since disk (StandsForOne (records ∷ []))
      (λ image left. inl (each_stands (kept disk) (texts_of records) image (keeps told) (only image told left)))

  -- a disk that is handed back as it was
  pub stays_closed : (disk closed : D) (records : List Record) → closed ≡ disk → (IsTrue is_told → KeepsJournal (kept disk) (texts_of records))
      → ((image : List ℕ) → IsTrue is_told → left_since disk (moment disk) image → IsImage (kept disk) image)
      → KeepsOn is_told moment left_since disk closed (records ∷ records ∷ [])
  stays_closed disk closed records is keeps only = subst (λ d. KeepsOn is_told moment left_since disk d (records ∷ records ∷ [])) (sym is)
      (λ told. weaker moment left_since disk disk (StandsForOne (records ∷ [])) (StandsForOne (records ∷ records ∷ [])) (stays disk records keeps only told)
      (λ image was. one_of_first (records ∷ []) (records ∷ []) image was))

  -- a disk that is as it was
  pub stays_so : (disk : D) (records : List Record) → (IsTrue is_told → KeepsJournal (kept disk) (texts_of records))
      → ((image : List ℕ) → IsTrue is_told → left_since disk (moment disk) image → IsImage (kept disk) image)
      → KeepsOn is_told moment left_since disk disk (records ∷ records ∷ [])
  stays_so disk records keeps only = stays_closed disk disk records refl keeps only

  -- A record was put, or a put of it failed; or records were rewritten, or that failed.
  pub changes_one : (before after : D) (records new : List Record)
      → (IsTrue is_told → LeavesOnly moment left_since before after (λ image. StandsFor image (texts_of records) ⊎ StandsFor image (texts_of new)))
      → KeepsOn is_told moment left_since before after (records ∷ new ∷ [])
  changes_one before after records new leaves told = weaker moment left_since before after (λ image. StandsFor image (texts_of records) ⊎ StandsFor image (texts_of new))
      (StandsForOne (records ∷ new ∷ [])) (leaves told) (λ image. ⊎_elim (λ was. inl was) (λ is. inr (inl is)))

  pub puts_one : (before after : D) (records : List Record) (rec : Record)
      → (IsTrue is_told → LeavesOnly moment left_since before after (IsWithOrWithout (texts_of records) (record_text rec)))
      → KeepsOn is_told moment left_since before after (records ∷ (records ++ rec ∷ []) ∷ [])
  puts_one before after records rec leaves = changes_one before after records (records ++ rec ∷ [])
      (λ told. weaker moment left_since before after (IsWithOrWithout (texts_of records) (record_text rec))
      (λ image. StandsFor image (texts_of records) ⊎ StandsFor image (texts_of (records ++ rec ∷ []))) (leaves told)
      (λ image. ⊎_elim (λ was. inl was) (λ is. inr (subst (StandsFor image) (sym (texts-push records rec)) is))))

-- ---- one list after the other

module _ {D : Type 0} (moment : D → ℕ) (left_since : D → ℕ → List ℕ → Type 0) where
  -- with a list before the others
  pub from_before : (before first : D) (records start : List Record) → KeepsNow moment left_since before records
      → LeavesOnly moment left_since before first (StandsForOne (records ∷ start ∷ []))
      → (lists : List (List Record)) (now : List Record) (disk : D) → KeptInTurn moment left_since first start lists now disk
      → KeptInTurn moment left_since before records (records ∷ lists) now disk
  from_before before first records start here on lists now disk (from_start kept) =
      then_next (records ∷ []) records start before first (from_start here) on kept
  from_before before first records start here on lists now disk (then_next lists' now' next between after run step kept) =
      then_next (records ∷ lists') now' next between after (from_before before first records start here on lists' now' between run) step kept
