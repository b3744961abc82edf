-- The bytes of a journal: its header, and records after open gates.
use Rattle.std.specs.Prelude.{ℕ, ◌+◌, ◌≢◌, List, [], ◌∷◌, ◌++◌, length, slice_index}
use Rattle.std.specs.List.{All}
pub use Rattle.disk_model.specs.Gate.{open_gate}
pub use Rattle.journal_records.specs.Records.{record_of, IsPayload}

-- the text XTFSJRNL
abbrev pub sign : List ℕ
sign = 0x58 ∷ 0x54 ∷ 0x46 ∷ 0x53 ∷ 0x4a ∷ 0x52 ∷ 0x4e ∷ 0x4c ∷ []

-- the sign, and the number of the layout
abbrev pub header : List ℕ
header = sign ++ 0 ∷ 0 ∷ 0 ∷ 1 ∷ []

-- each after an open gate
abbrev pub records : List (List ℕ) → List ℕ
records [] = []
records (payload ∷ payloads) = open_gate ∷ (record_of payload ++ records payloads)

-- the header, the records, and a closed gate
abbrev pub journal_of : List (List ℕ) → List ℕ
journal_of payloads = header ++ (records payloads ++ 0 ∷ [])

-- the place of the gate after the records, where nothing else is among them
abbrev pub end_of : List (List ℕ) → ℕ
end_of payloads = 12 + length (records payloads)

-- the first byte of a superblock's payload
abbrev pub superblock_kind : ℕ
superblock_kind = 8

-- A payload that is handed up, with a length of 32 bits and at least one byte. One that begins as a superblock's isn't.
pub record IsGiven (payload : List ℕ) : Type 0 where
  pub fits : IsPayload payload
  pub kind : slice_index payload 0 ≢ superblock_kind

abbrev pub AreGiven : List (List ℕ) → Type 0
AreGiven payloads = All IsGiven payloads
