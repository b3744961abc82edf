-- the records that wait are put at once
use Rattle.std.proofs.Common.{ℕ, ◌≡◌, ◌≢◌, ◌⊎◌, refl, sym, ◌∙◌, ap, subst, Bool, true, false, List, [], ◌∷◌, ◌++◌, length, inl, arith}
use Rattle.std.specs.Prelude.{IsTrue, ◌==◌}
use Rattle.std.proofs.lemmas.List.{map-append}
use Rattle.std.proofs.lemmas.Bool.{eqb-true, eqb-false}
use Rattle.disk_model.specs.Disk.{Kept, IsImage, LeavesOnly}
use Rattle.xt_messages.specs.declared.record.Record.{Record}
use Rattle.xt_messages.specs.declared.status.Status.{Status}
use Rattle.xt_messages.specs.declared.status.Status.TheVariants as status
use Rattle.xt_journal.specs.Format.{StandsFor, KeepsJournal}
use Rattle.xt_journal.proofs.Steps.{each_stands}
use Rattle.replica_records.specs.Known.{known_of}
use Rattle.replica_records.specs.RecordText.{record_text}
use Rattle.object_store.specs.Texts.{texts_of}
use Rattle.object_store.proofs.Stored.{known_there}
use Rattle.node_runs.specs.Keeping.{KeepsOn}
use Rattle.node_runs.specs.BatchEnds.{refused}
use Rattle.node_runs.proofs.Keeping.{changes_one}
use Rattle.node_loop.specs.declared.event.Stop.TheVariants as stop
use Rattle.node_loop.specs.Events.{HasDiskCause}
use Rattle.node_loop.specs.Passing.{IsDoing, IsReason}

pub none_of : {A : Type 0} (xs : List A) → (length xs == 0) ≡ true → xs ≡ []
none_of [] e = refl
none_of (x ∷ xs) e =
    let none : length (x ∷ xs) ≡ 0 = eqb-true (length (x ∷ xs)) 0 e in
    absurd (omega arith)

pub some_known : (told : Bool) (recs : List Record) → (length recs == 0) ≡ false → known_of told recs ≢ []
some_known told [] e = let other : length {A = Record} [] ≢ 0 = eqb-false _ _ e in λ is. other refl
some_known told (rec ∷ recs) e = λ is. let none : length (known_of told (rec ∷ recs)) ≡ 0 = ap length is in absurd (omega arith)

module _ {D : Type 0} (is_told : Bool) (kept : D → Kept) (moment : D → ℕ) (left_since : D → ℕ → List ℕ → Type 0) where
  -- Records were put at once, or a put of them failed.
  pub puts_all : (before after : D) (records recs : List Record)
      → (IsTrue is_told → LeavesOnly moment left_since before after (λ image. StandsFor image (texts_of records) ⊎ StandsFor image (texts_of records ++ texts_of recs)))
      → KeepsOn is_told moment left_since before after (records ∷ (records ++ known_of is_told recs) ∷ [])
  puts_all before after records recs leaves =
      changes_one is_told kept moment left_since before after records (records ++ known_of is_told recs) (λ told.
      let same : texts_of records ++ texts_of recs ≡ texts_of (records ++ known_of is_told recs) =
      sym (map-append record_text records recs) ∙ ap (λ (rs : List Record). texts_of (records ++ rs)) (sym (known_there is_told recs told)) in
      subst (λ (ts : List (List ℕ)). LeavesOnly moment left_since before after (λ image. StandsFor image (texts_of records) ⊎ StandsFor image ts)) same (leaves told))

  -- memory ran out before a put: the disk keeps what it kept
  pub refuses : (before after : D) (records puts : List Record) → KeepsOn is_told moment left_since before after (records ∷ (records ++ puts) ∷ [])
      → (IsTrue is_told → KeepsJournal (kept before) (texts_of records)) → kept after ≡ kept before
      → IsDoing is_told kept moment left_since before after records (refused puts)
  refuses before after records puts on keeps same =
      (on, λ told image is. inl (each_stands (kept before) (texts_of records) image (keeps told) (subst (λ k. IsImage k image) same is)))

-- a reason that isn't one of the disk
pub reason_cause : (before after : ℕ) (said : Status) → IsReason (stop.With said) → after ≡ before → HasDiskCause before after said
reason_cause before after (status.DiskFault count) is same = absurd is
reason_cause before after _ is same = same
