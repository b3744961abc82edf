-- what records and their payloads are to one another
use Rattle.std.specs.Prelude.{ℕ, ◌≡◌, List}
use Rattle.xt_messages.specs.declared.record.Record.{Record}
use Rattle.object_store.specs.Texts.{texts_of, AreRecords, IsFirstBad}

-- The payloads of records are those of no other records.
abbrev pub AreOfOneList : Type 0
AreOfOneList = (kept found : List Record) → AreRecords kept → AreRecords found → texts_of found ≡ texts_of kept → found ≡ kept

-- No payload of records in their places is reported as a bad one.
abbrev pub NoneIsBad : Type 0
NoneIsBad = (kept : List Record) (index : ℕ) → AreRecords kept → IsFirstBad (texts_of kept) index → ⊥
