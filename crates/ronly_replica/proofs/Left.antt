-- what runs of calls leave of a disk
use Rattle.std.proofs.Common.{◌≡◌, List, ℕ, [], ◌∷◌, ◌++◌, inl, inr, ap, sym, ◌∙◌, subst, false}
use Rattle.std.specs.Prelude.{Result, IsTrue}
use Rattle.std.proofs.lemmas.List.{map-append}
use Rattle.disk_model.specs.declared.disk.Disk.{Ghosts}
use Rattle.disk_model.specs.Disk.{LeavesOnly}
use Rattle.disk_model.proofs.Moments as moments
use Rattle.xt_base.specs.Faults.{fault_count_after}
use Rattle.xt_journal.specs.Append.{IsWithAllOrNone}
use Rattle.xt_messages.specs.declared.record.Record.{Record}
use Rattle.replica_records.specs.RecordText.{record_text}
use Rattle.object_store.specs.Puts.{PutsTo}
use Rattle.object_store.specs.Texts.{texts_of}
use Rattle.ronly_replica.specs.declared.replica.Ronly.{Ronly}
use Rattle.ronly_replica.specs.declared.errors.RonlyErr.{RonlyErr}
use Rattle.ronly_replica.specs.Access.{disk_of, records_of, store_of}
use Rattle.ronly_replica.specs.Disks.{LeftSo, Leaves, disk_left, has_failed, limit_in, KeepsLimit}

pub texts-append : (records more : List Record) → texts_of (records ++ more) ≡ texts_of records ++ texts_of more
texts-append records more = map-append record_text records more

module _ {D : Type 0} (g : Ghosts D) where
  pub weaker_left : (old new : D) (P R : List ℕ → Type 0) → LeftSo g old new P → (IsTrue g.is_told → (image : List ℕ) → P image → R image) → LeftSo g old new R
  weaker_left old new P R left p told = elim (left told) [
    | inl same ↦ inl same
    | inr run ↦ inr (moments.weaker g.moment g.left_since old new P R run (p told))
  ]

  -- one run after another
  pub left_along : (old mid new : D) (P : List ℕ → Type 0) → LeftSo g old mid P → LeftSo g mid new P → LeftSo g old new P
  left_along old mid new P first second told = elim (first told) [
    | inl same ↦ subst (λ d. LeftSo g d new P) same second told
    | inr run ↦ elim (second told) [
      | inl same ↦ inr (subst (λ d. LeavesOnly g.moment g.left_since old d P) (sym same) run)
      | inr later ↦ inr (moments.joined g.moment g.left_since old mid new P P P run later (λ image p. p) (λ image p. p))
    ]
  ]

module _ {D : Type 0} {g : Ghosts D} (old : Ronly D g) where
  -- nothing is done
  pub untouched : (P : List ℕ → Type 0) (result : Result (Ronly D g) (RonlyErr D g)) → disk_left result ≡ disk_of old → has_failed result ≡ false → KeepsLimit (limit_in old) result → Leaves old P result
  untouched P result same sound limit = record {
    any_moment = λ told. inl same;
    faults = ap g.fault_count same ∙ sym (ap (λ b. fault_count_after b (g.fault_count (disk_of old))) sound);
    limit = limit;
  }

  pub put_left : (rec : Record) (ends : Type 0) (result : Result (Ronly D g) (RonlyErr D g)) → PutsTo (store_of old) (rec ∷ []) ends (disk_left result) (has_failed result)
      → KeepsLimit (limit_in old) result → Leaves old (IsWithAllOrNone (texts_of (records_of old)) (texts_of (rec ∷ []))) result
  put_left rec ends result puts limit = record { any_moment = λ told. inr (puts.any_moment told); faults = puts.faults; limit = limit }

  pub weaker : (P R : List ℕ → Type 0) (result : Result (Ronly D g) (RonlyErr D g)) → Leaves old P result → (IsTrue g.is_told → (image : List ℕ) → P image → R image) → Leaves old R result
  weaker P R result left p = record { any_moment = weaker_left g (disk_of old) (disk_left result) P R left.any_moment p; faults = left.faults; limit = left.limit }

  -- a call after others that went well
  pub goes_on : (mid : Ronly D g) (P : List ℕ → Type 0) (result : Result (Ronly D g) (RonlyErr D g)) → LeftSo g (disk_of old) (disk_of mid) P
      → g.fault_count (disk_of mid) ≡ g.fault_count (disk_of old) → limit_in mid ≡ limit_in old → Leaves mid P result → Leaves old P result
  goes_on mid P result first same kept later = record {
    any_moment = left_along g (disk_of old) (disk_of mid) (disk_left result) P first later.any_moment;
    faults = later.faults ∙ ap (fault_count_after (has_failed result)) same;
    limit = subst (λ n. KeepsLimit n result) kept later.limit;
  }
