-- what the disk of a served node keeps, one list of records after the other
use Rattle.std.specs.Prelude.{ℕ, ◌⊎◌, Bool, IsTrue, List, [], ◌∷◌, ◌++◌}
use Rattle.disk_model.specs.Disk.{LeavesOnly}
use Rattle.xt_messages.specs.declared.record.Record.{Record}
use Rattle.xt_journal.specs.Format.{StandsFor}
use Rattle.object_store.specs.Texts.{texts_of}

-- these bytes stand for one of these lists of records
abbrev pub StandsForOne : List (List Record) → List ℕ → Type 0
StandsForOne [] image = ⊥
StandsForOne (records ∷ more) image = StandsFor image (texts_of records) ⊎ StandsForOne more image

-- From one disk to another a crash at any moment leaves one of these lists of records.
abbrev pub KeepsOn : {D : Type 0} → Bool → (D → ℕ) → (D → ℕ → List ℕ → Type 0) → D → D → List (List Record) → Type 0
KeepsOn is_told moment left_since before after moments = IsTrue is_told → LeavesOnly moment left_since before after (StandsForOne moments)

-- a crash leaves these records now
abbrev pub KeepsNow : {D : Type 0} → (D → ℕ) → (D → ℕ → List ℕ → Type 0) → D → List Record → Type 0
KeepsNow moment left_since disk records = (image : List ℕ) → left_since disk (moment disk) image → StandsFor image (texts_of records)

-- A disk kept these lists of records in turn, from its first state on, which kept the start; it keeps the last of them now. On the way from
-- one to the next a crash leaves one of the two; once the next is kept, it leaves none before it.
pub data KeptInTurn {D : Type 0} (moment : D → ℕ) (left_since : D → ℕ → List ℕ → Type 0) (first : D) (start : List Record)
    : List (List Record) → List Record → D → Type 0 where
  from_start : KeepsNow moment left_since first start → KeptInTurn moment left_since first start (start ∷ []) start first
  then_next : (lists : List (List Record)) (records next : List Record) (between after : D)
      → KeptInTurn moment left_since first start lists records between
      → LeavesOnly moment left_since between after (StandsForOne (records ∷ next ∷ []))
      → KeepsNow moment left_since after next
      → KeptInTurn moment left_since first start (lists ++ next ∷ []) next after
