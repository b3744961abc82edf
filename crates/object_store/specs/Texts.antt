-- records and their payloads
use Rattle.std.specs.Prelude.{ℕ, ◌≡◌, List, ◌∷◌, ◌++◌, length, map}
use Rattle.std.specs.List.{All}
use Rattle.xt_messages.specs.Limits.{FitsRecord}
use Rattle.xt_messages.specs.declared.record.Record.{Record}
use Rattle.xt_protocol.specs.Folds.{nothing_kept, fold_of, IsInPlace, AreInPlace}
use Rattle.replica_records.specs.RecordText.{record_text}

-- the payloads of these records
abbrev pub texts_of : List Record → List (List ℕ)
texts_of records = map record_text records

-- each record is within its limits, and in its place after those before it
pub record AreRecords (records : List Record) : Type 0 where
  pub fit : All FitsRecord records
  pub placed : AreInPlace nothing_kept records

-- The payload at this index is no record in its place, and those before it are.
pub record IsFirstBad (payloads : List (List ℕ)) (index : ℕ) : Type 0 where
  pub before : List Record
  pub are : AreRecords before
  pub payload : List ℕ
  pub rest : List (List ℕ)
  pub split : payloads ≡ texts_of before ++ payload ∷ rest
  pub place : index ≡ length before
  pub bad : (rec : Record) → FitsRecord rec → payload ≡ record_text rec → IsInPlace (fold_of before) rec → ⊥
