-- The bytes of one record of a journal, and what is at a gate.
use Rattle.std.specs.Prelude.{ℕ, ◌+◌, ◌^◌, ◌<◌, ◌≤◌, ◌≡◌, ◌≢◌, ◌⊎◌, List, ◌∷◌, ◌++◌, length}
use Rattle.byteorder.specs.Endian.{big_bytes, big_number}
use Rattle.disk_model.specs.Gate.{open_gate}
use Rattle.journal_records.specs.declared.next.Next.{Next}
use Rattle.journal_records.specs.declared.next.Next.TheVariants as next

-- a payload after its length
abbrev pub record_of : List ℕ → List ℕ
record_of payload = big_bytes 4 (length payload) ++ payload

-- a payload has at least one byte, and its length is a number of 32 bits
pub record IsPayload (payload : List ℕ) : Type 0 where
  pub some : 1 ≤ length payload
  pub fits : length payload < 2 ^ 32

-- what comes after an open gate isn't a length of at least 1, that many bytes and a gate
abbrev pub IsCutOff : List ℕ → Type 0
IsCutOff rest = (length rest < 4) ⊎ ((big_number 4 rest ≡ 0) ⊎ (length rest < 5 + big_number 4 rest))

pub record IsRecord (bytes payload rest : List ℕ) : Type 0 where
  pub are : bytes ≡ open_gate ∷ (record_of payload ++ rest)
  pub is_payload : IsPayload payload
  pub some : 1 ≤ length rest

pub record IsClosed (bytes : List ℕ) : Type 0 where
  pub gate : ℕ
  pub rest : List ℕ
  pub shut : gate ≢ open_gate
  pub are : bytes ≡ gate ∷ rest

pub record IsCut (bytes : List ℕ) : Type 0 where
  pub rest : List ℕ
  pub are : bytes ≡ open_gate ∷ rest
  pub cut_off : IsCutOff rest

-- what is in a place where a record may be
abbrev pub IsNext : List ℕ → Next → Type 0
IsNext bytes next.Closed = IsClosed bytes
IsNext bytes next.CutOff = IsCut bytes
IsNext bytes (next.Record payload rest) = IsRecord bytes payload.now rest.now
