-- Journals as bytes, what bytes are read as, and what an append leaves that is stopped.
use Rattle.std.specs.Prelude.{ℕ, List, [], ◌∷◌, ◌++◌, slice_set}
use Rattle.xt_journal.specs.Append.{payloads_after_stop}
use Rattle.xt_journal.specs.Reading.{Reading, Stands, Foreign, Unknown, Damaged, ReadsAs}

-- XTFSJRNL in the layout of this number
abbrev pub in_layout : ℕ → List ℕ → List ℕ
in_layout number rest = 0x58 ∷ 0x54 ∷ 0x46 ∷ 0x53 ∷ 0x4a ∷ 0x52 ∷ 0x4e ∷ 0x4c ∷ 0 ∷ 0 ∷ 0 ∷ number ∷ rest

-- the payload of a start
abbrev pub start : ℕ → List ℕ
start boot = 1 ∷ 0 ∷ 0 ∷ 0 ∷ 0 ∷ 0 ∷ 0 ∷ 0 ∷ boot ∷ []

abbrev pub no_start : List ℕ
no_start = in_layout 1 (0 ∷ [])

abbrev pub one_start : List ℕ
one_start = in_layout 1 (0xa5 ∷ 0 ∷ 0 ∷ 0 ∷ 9 ∷ 1 ∷ 0 ∷ 0 ∷ 0 ∷ 0 ∷ 0 ∷ 0 ∷ 0 ∷ 1 ∷ 0 ∷ [])

abbrev pub two_starts : List ℕ
two_starts =
    in_layout 1
    (0xa5 ∷ 0 ∷ 0 ∷ 0 ∷ 9 ∷ 1 ∷ 0 ∷ 0 ∷ 0 ∷ 0 ∷ 0 ∷ 0 ∷ 0 ∷ 1
    ∷ 0xa5 ∷ 0 ∷ 0 ∷ 0 ∷ 9 ∷ 1 ∷ 0 ∷ 0 ∷ 0 ∷ 0 ∷ 0 ∷ 0 ∷ 0 ∷ 2 ∷ 0 ∷ [])

-- that one with another byte at a place
abbrev pub changed : ℕ → ℕ → List ℕ
changed place byte = slice_set two_starts place byte

-- Bytes, and what they are read as.
abbrev pub Row : Type 0
Row = List ℕ × Reading

abbrev pub AreRead : List Row → Type 0
AreRead [] = Unit {0}
AreRead (row ∷ rows) = ReadsAs row.0 row.1 × AreRead rows

abbrev pub at_first : List ℕ → Reading
at_first payload = Stands (record { gate = 12; bytes = payload } ∷ [])

-- what stands where the length of the first start is another
abbrev pub half_a_start : List ℕ
half_a_start = 1 ∷ 0 ∷ 0 ∷ 0 ∷ 0 ∷ 0 ∷ 0 ∷ 0 ∷ []

abbrev pub start_and_more : List ℕ
start_and_more = start 1 ++ 0xa5 ∷ 0 ∷ 0 ∷ 0 ∷ 9 ∷ start 2

-- as many payloads as stand
abbrev pub standing : List Row
standing =
    ([], Stands [])
    -- in 13 bytes no record stands, whatever they are
    ∷ (in_layout 1 (0xa5 ∷ []), Stands [])
    ∷ (in_layout 2 (0 ∷ []), Stands [])
    -- what is after a gate that isn't open doesn't count
    ∷ (in_layout 1 (0 ∷ 0 ∷ 0 ∷ 0 ∷ 1 ∷ 0x61 ∷ 0x62 ∷ 0x63 ∷ []), Stands [])
    ∷ (in_layout 1 (0x37 ∷ 0 ∷ 0 ∷ 0 ∷ 1 ∷ 0x61 ∷ 0 ∷ []), Stands [])
    ∷ (in_layout 1 (0xa5 ∷ 0 ∷ 0 ∷ 0 ∷ 1 ∷ 0x61 ∷ 0x37 ∷ 0xa5 ∷ []), at_first (0x61 ∷ []))
    ∷ (one_start, at_first (start 1))
    ∷ (changed 26 0x37, at_first (start 1))
    ∷ (changed 40 0x37, Stands (record { gate = 12; bytes = start 1 } ∷ record { gate = 26; bytes = start 2 } ∷ []))
    ∷ (changed 16 8, at_first half_a_start)
    ∷ (changed 16 23, at_first start_and_more)
    ∷ []

-- another sign, or another layout
abbrev pub foreign : List Row
foreign =
    (changed 0 0x59, Foreign (0x59 ∷ 0x54 ∷ 0x46 ∷ 0x53 ∷ 0x4a ∷ 0x52 ∷ 0x4e ∷ 0x4c ∷ []))
    ∷ (changed 7 0x4b, Foreign (0x58 ∷ 0x54 ∷ 0x46 ∷ 0x53 ∷ 0x4a ∷ 0x52 ∷ 0x4e ∷ 0x4b ∷ []))
    ∷ (changed 8 1, Unknown 0x01000001)
    ∷ (changed 9 1, Unknown 0x00010001)
    ∷ (changed 10 1, Unknown 0x00000101)
    ∷ (in_layout 0 (0 ∷ 0 ∷ []), Unknown 0)
    ∷ (in_layout 2 (0 ∷ 0 ∷ []), Unknown 2)
    ∷ []

-- an open gate with no record after it
abbrev pub damaged : List Row
damaged =
    -- the length is cut off; there is no payload; there is no gate after it
    (in_layout 1 (0xa5 ∷ 0 ∷ []), Damaged 12)
    ∷ (in_layout 1 (0xa5 ∷ 0 ∷ 0 ∷ 0 ∷ []), Damaged 12)
    ∷ (in_layout 1 (0xa5 ∷ 0 ∷ 0 ∷ 0 ∷ 0 ∷ 0 ∷ []), Damaged 12)
    ∷ (in_layout 1 (0xa5 ∷ 0 ∷ 0 ∷ 0 ∷ 1 ∷ 0x61 ∷ []), Damaged 12)
    -- each byte of the length counts: after the first one stand 24 bytes
    ∷ (changed 13 1, Damaged 12)
    ∷ (changed 14 1, Damaged 12)
    ∷ (changed 15 1, Damaged 12)
    ∷ (changed 16 24, Damaged 12)
    ∷ (changed 30 0, Damaged 26)
    ∷ (changed 30 10, Damaged 26)
    ∷ (changed 40 0xa5, Damaged 40)
    ∷ []

-- in which call an append stops, and with which byte
abbrev pub stops : List (ℕ × ℕ)
stops = (1, 0xa5) ∷ (2, 0xa5) ∷ (3, 0) ∷ (3, 0x37) ∷ (3, 0xa5) ∷ (4, 0) ∷ (4, 0x37) ∷ (4, 0xa5) ∷ []

-- what stands where the second start was being appended
abbrev pub left_by : ℕ × ℕ → List (List ℕ)
left_by row = payloads_after_stop row.0 row.1 (start 1 ∷ []) (start 2)

abbrev pub without : List (List ℕ)
without = start 1 ∷ []

abbrev pub both : List (List ℕ)
both = start 1 ∷ start 2 ∷ []

abbrev pub left_wanted : List (List (List ℕ))
left_wanted = without ∷ without ∷ without ∷ without ∷ both ∷ without ∷ without ∷ both ∷ []
