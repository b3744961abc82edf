-- what is at a gate of a disk
use Rattle.std.specs.Prelude.{ℕ, ◌+◌, ◌≤◌, ◌≡◌, List, take, drop, slice_index}
use Rattle.journal_records.specs.Records.{IsRecord, IsClosed, IsCut}
use Rattle.xt_journal.specs.declared.next.Next.{Next}
use Rattle.xt_journal.specs.declared.next.Next.TheVariants as next

-- as many bytes as a payload has, after a gate at this place and a length
abbrev pub payload_at : List ℕ → ℕ → ℕ → List ℕ
payload_at bytes gate len = take len (drop (gate + 5) bytes)

-- the record of such a payload is there, and it begins with this byte
pub record HasRecord (bytes : List ℕ) (gate len kind : ℕ) : Type 0 where
  pub is : IsRecord (drop gate bytes) (payload_at bytes gate len) (drop (gate + (5 + len)) bytes)
  pub kind_is : kind ≡ slice_index (payload_at bytes gate len) 0

-- what is there
abbrev pub IsNextAt : List ℕ → ℕ → Next → Type 0
IsNextAt bytes gate next.Closed = IsClosed (drop gate bytes)
IsNextAt bytes gate next.CutOff = IsCut (drop gate bytes)
IsNextAt bytes gate (next.Record len kind) = HasRecord bytes gate len kind

-- a record there and the gate after it have room in so many bytes
abbrev pub HasRoom : ℕ → ℕ → Next → Type 0
HasRoom size gate next.Closed = Unit {0}
HasRoom size gate next.CutOff = Unit {0}
HasRoom size gate (next.Record len kind) = (1 ≤ len) × (gate + (6 + len) ≤ size)
