-- parts of messages of node 1, one after another
use Rattle.std.specs.Prelude.{ℕ, Bool, Option, Some, None, List, [], ◌∷◌, ◌++◌, map, scan, take, is_none, replicate, slice_set, option_map}
use Rattle.std.specs.List.{range_with_len}
use Rattle.message_ids.specs.declared.MessageId.{MessageId}
use Rattle.xt_parts.specs.declared.part.Header.{Header}
use Rattle.xt_parts.specs.Joining.{HalfJoined, Taken, half_of, joined_to, after_part}
use Rattle.xt_parts.specs.Part.{parts_in, bytes_in}

-- message of node 1 by its boot and its number
abbrev pub id : ℕ → ℕ → MessageId
id boot number = record { sender = record { 0 = 1 }; boot = record { 0 = boot }; number = number }

-- the bytes of `abc`, and these as message 3 of boot 2 in its one part
abbrev pub abc : List ℕ
abc = 97 ∷ 98 ∷ 99 ∷ []

abbrev pub part_of_abc : List ℕ
part_of_abc =
    1 ∷ 0 ∷ 0 ∷ 0 ∷ 1 ∷ 0 ∷ 0 ∷ 0 ∷ 0 ∷ 0 ∷ 0 ∷ 0 ∷ 2 ∷ 0 ∷ 0 ∷ 0 ∷ 0 ∷ 0 ∷ 0 ∷ 0 ∷ 3 ∷ 0 ∷ 1 ∷ 0 ∷ 0 ∷ 0 ∷ 3 ∷ abc

-- places in the part of `abc`, and a byte for each that makes it no part
abbrev pub changes : List (ℕ × ℕ)
changes =
    -- the version
    (0, 0)
    ∷ (0, 2)
    -- the index
    ∷ (21, 1)
    -- how many parts there are
    ∷ (22, 0)
    ∷ (22, 2)
    -- the length of the message: past its limit, of two parts, 0, and not that of the payload
    ∷ (23, 1)
    ∷ (24, 16)
    ∷ (25, 128)
    ∷ (26, 0)
    ∷ (26, 2)
    ∷ (26, 4)
    ∷ []

-- the part with each change, each of its beginnings, and one byte more
abbrev pub no_parts : List (List ℕ)
no_parts =
    map (λ change. slice_set part_of_abc change.0 change.1) changes
    ++ map (λ size. take size part_of_abc) (range_with_len 0 30)
    ++ (part_of_abc ++ 100 ∷ [])
    ∷ []

abbrev pub is_refused : List ℕ → Bool
is_refused bytes = is_none (after_part [] bytes)

-- A joiner, where the index of a part stands for its payload.

-- the boot and the number of a message, its length, the index of the part, and what it gives: none where it is refused
abbrev pub Row : Type 0
Row = ℕ × ℕ × ℕ × ℕ × Option (Option (List ℕ))

abbrev pub wanted : Row → Option (Option (List ℕ))
wanted row = row.4

abbrev pub header : Row → Header
header row = record { id = id row.0 row.1; index = row.3; size = row.2 }

abbrev pub taken : List HalfJoined → Row → Option Taken
taken held row = joined_to held (half_of held (id row.0 row.1)) (header row) (row.3 ∷ [])

-- a part that is refused changes nothing
abbrev pub held_behind : List HalfJoined → Option Taken → List HalfJoined
held_behind held None = held
held_behind held (Some taken) = taken.held

abbrev pub after : List HalfJoined → Row → List HalfJoined
after held row = held_behind held (taken held row)

abbrev pub given_by : List HalfJoined → Row → Option (Option (List ℕ))
given_by held row = option_map (λ taken. option_map (λ whole. whole.bytes) taken.whole) (taken held row)

abbrev pub given_after : List HalfJoined → List Row → List (Option (Option (List ℕ)))
given_after held rows = scan after given_by held rows

abbrev pub nothing : Option (Option (List ℕ))
nothing = Some None

abbrev pub gives : List ℕ → Option (Option (List ℕ))
gives indices = Some (Some indices)

abbrev pub rows : List Row
rows =
    -- two parts in order, one of them twice
    (2, 3, 32769, 0, nothing)
    ∷ (2, 3, 32769, 0, nothing)
    ∷ (2, 3, 32769, 1, gives (0 ∷ 1 ∷ []))
    -- a message that was given starts again; in the other order
    ∷ (2, 3, 32769, 1, nothing)
    ∷ (2, 3, 32769, 1, nothing)
    ∷ (2, 3, 32769, 0, gives (0 ∷ 1 ∷ []))
    -- one part
    ∷ (2, 4, 3, 0, gives (0 ∷ []))
    -- two boots give nothing together
    ∷ (2, 5, 32769, 0, nothing)
    ∷ (4, 5, 32769, 1, nothing)
    ∷ (4, 5, 32769, 0, gives (0 ∷ 1 ∷ []))
    -- a message of another length under the number of one that has begun
    ∷ (2, 6, 32769, 0, nothing)
    ∷ (2, 6, 32770, 0, None)
    ∷ (2, 6, 32770, 1, None)
    ∷ (2, 6, 32769, 1, gives (0 ∷ 1 ∷ []))
    ∷ (2, 6, 32770, 0, nothing)
    -- three parts, the last one first
    ∷ (2, 7, 98304, 2, nothing)
    ∷ (2, 7, 98304, 0, nothing)
    ∷ (2, 7, 98304, 1, gives (0 ∷ 1 ∷ 2 ∷ []))
    ∷ []

-- the first parts of 65 messages
abbrev pub firsts : List Row
firsts = map (λ number. (2, number, 32769, 0, nothing)) (range_with_len 1 65)

-- the second parts of three of them
abbrev pub seconds : List Row
seconds =
    (2, 2, 32769, 1, gives (0 ∷ 1 ∷ []))
    ∷ (2, 65, 32769, 1, gives (0 ∷ 1 ∷ []))
    ∷ (2, 1, 32769, 1, nothing)
    ∷ []

-- Lengths.

-- the length of a message, and those of its parts' payloads
abbrev pub sizes : List (ℕ × List ℕ)
sizes =
    (3, 3 ∷ []) ∷ (32769, 32768 ∷ 1 ∷ []) ∷ (32770, 32768 ∷ 2 ∷ []) ∷ (98304, 32768 ∷ 32768 ∷ 32768 ∷ [])
    -- the longest Status, and the longest message
    ∷ (463990, replicate 14 32768 ++ 5238 ∷ []) ∷ (1048576, replicate 32 32768) ∷ []

abbrev pub size : ℕ × List ℕ → ℕ
size row = row.0

abbrev pub lengths : ℕ × List ℕ → List ℕ
lengths row = row.1

abbrev pub lengths_in : ℕ → List ℕ
lengths_in size = map (bytes_in size) (range_with_len 0 (parts_in size))
