-- a record more in what is kept
use Rattle.std.proofs.Common.{◌≡◌, ◌+◌, ◌≤◌, ◌<◌, ◌++◌, ◌∷◌, [], ℕ, Bool, Option, List, length, sym, ◌∙◌, ap, subst, zero-add}
use Rattle.disk_model.specs.Disk.{Kept, LeavesOnly}
use Rattle.xt_base.specs.Faults.{counted}
use Rattle.xt_messages.specs.declared.record.Record.{Record}
use Rattle.replica_records.specs.RecordText.{record_text}
use Rattle.journal_areas.specs.declared.superblock.Superblock.{Superblock}
use Rattle.xt_journal.specs.Append.{IsStopped, IsWithOrWithout}
use Rattle.journal_records.specs.Calls.{GoesOn}
use Rattle.xt_journal.specs.Format.{KeepsJournal, StandsFor}
use Rattle.object_store.specs.Texts.{texts_of, AreRecords}
use Rattle.object_store.proofs.Reading.{texts-push}

texts : (old : List Record) (rec : Record) (bytes : List ℕ) → bytes ≡ record_text rec → texts_of old ++ bytes ∷ [] ≡ texts_of (old ++ rec ∷ [])
texts old rec bytes is = ap (λ b. texts_of old ++ b ∷ []) is ∙ sym (texts-push old rec)

pub keeps_longer : (kept : Kept) (old new : List Record) (rec : Record) (bytes : List ℕ) → new ≡ old ++ rec ∷ [] → bytes ≡ record_text rec
    → KeepsJournal kept (texts_of old ++ bytes ∷ []) → KeepsJournal kept (texts_of new)
keeps_longer kept old new rec bytes more is keeps =
    subst (λ (l : List (List ℕ)). KeepsJournal kept l) (texts old rec bytes is ∙ ap texts_of (sym more)) keeps

-- the same disk, and the same records
pub keeps_same : (kept new : Kept) (old rs : List Record) → new ≡ kept → rs ≡ old → KeepsJournal kept (texts_of old) → KeepsJournal new (texts_of rs)
keeps_same kept new old rs disk same keeps =
    subst (λ (k : Kept). KeepsJournal k (texts_of rs)) (sym disk) (subst (λ (l : List Record). KeepsJournal kept (texts_of l)) (sym same) keeps)

pub sound_same : (old rs : List Record) → rs ≡ old → ∥ AreRecords old ∥₁ → ∥ AreRecords rs ∥₁
sound_same old rs same sound = subst (λ (l : List Record). ∥ AreRecords l ∥₁) (sym same) sound

pub stands_longer : (image : List ℕ) (old : List Record) (rec : Record) (bytes : List ℕ) → bytes ≡ record_text rec
    → StandsFor image (texts_of old ++ bytes ∷ []) → StandsFor image (texts_of (old ++ rec ∷ []))
stands_longer image old rec bytes is stands = subst (λ (l : List (List ℕ)). StandsFor image l) (texts old rec bytes is) stands

-- ---- the payload is the record's

module _ (bytes text : List ℕ) (is : bytes ≡ text) where
  pub place_with : (new old : ℕ) → new ≡ old + (5 + length bytes) → new ≡ old + (5 + length text)
  place_with new old fact = subst (λ b. new ≡ old + (5 + length b)) is fact

  pub room_with : (old limit : ℕ) → old + (6 + length bytes) ≤ limit → old + (6 + length text) ≤ limit
  room_with old limit fact = subst (λ b. old + (6 + length b) ≤ limit) is fact

  pub over_with : (old limit : ℕ) → limit < old + (6 + length bytes) → limit < old + (6 + length text)
  over_with old limit fact = subst (λ b. limit < old + (6 + length b)) is fact

  pub need_with : (old need : ℕ) → need ≡ counted (old + (6 + length bytes)) → need ≡ counted (old + (6 + length text))
  need_with old need fact = subst (λ b. need ≡ counted (old + (6 + length b))) is fact

  pub left_with : (payloads : List (List ℕ)) (image : List ℕ) → IsWithOrWithout payloads bytes image → IsWithOrWithout payloads text image
  left_with payloads image fact = subst (λ b. IsWithOrWithout payloads b image) is fact

  pub stopped_with : (super : Option Superblock) (fails : ℕ → ℕ → Bool) (kept : Kept) (payloads : List (List ℕ)) → IsStopped super fails kept payloads bytes
      → IsStopped super fails kept payloads text
  stopped_with super fails kept payloads fact = subst (λ b. IsStopped super fails kept payloads b) is fact

  pub moments_with : {D : Type 0} (moment : D → ℕ) (left : D → ℕ → List ℕ → Type 0) (old new : D) (payloads : List (List ℕ))
      → LeavesOnly moment left old new (IsWithOrWithout payloads bytes) → LeavesOnly moment left old new (IsWithOrWithout payloads text)
  moments_with moment left old new payloads fact = subst (λ b. LeavesOnly moment left old new (IsWithOrWithout payloads b)) is fact

pub goes_on_itself : (fails : ℕ → ℕ → Bool) → GoesOn 0 0 fails fails
goes_on_itself fails l c = ap (λ n. fails n c) (sym (zero-add l)) ∙ ap (fails (0 + l)) (sym (zero-add c))
