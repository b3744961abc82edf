-- what joining promises of whole runs, whatever was taken before
use Rattle.std.specs.Prelude.{ℕ, List, [], ◌∷◌, ◌++◌, ◌≡◌, ◌<◌, ◌≤◌, ◌+◌, ◌==◌, Some, None, if◌then◌else◌, length, map, take, slice_index, All, Any, IsSome, IsSomeAnd}
use Rattle.xt_parts.specs.declared.TheConstants.{HALF_JOINED}
use Rattle.message_ids.specs.declared.MessageId.{MessageId}
use Rattle.xt_parts.specs.declared.part.Header.{Header}
use Rattle.xt_parts.specs.Part.{parts_in, FitsMessage, FitsFields, part_bytes, read_part, part_of, parts_of}
use Rattle.xt_parts.specs.Joining.{HalfJoined, Taken, half_of, newest, after_part}
use Rattle.xt_parts.specs.Runs.{joined, CanBeCut, AreApart, whole_of, HasRoomFor, after_first, parts_at, IsLastOf}

-- What is laid out as a part is read as it was.
abbrev pub ReadsLayout : Type 0
ReadsLayout =
    (header : Header) (payload : List ℕ) → FitsFields header → FitsMessage header payload →
    read_part (part_bytes header payload) ≡ Some (header, payload)

-- What is read as a part is laid out as one, each byte of it.
abbrev pub ReadsLayoutOnly : Type 0
ReadsLayoutOnly =
    (bytes : List ℕ) (part : Header × List ℕ) → ((place : ℕ) → slice_index bytes place < 256) →
    read_part bytes ≡ Some part → FitsMessage part.0 part.1 × (bytes ≡ part_bytes part.0 part.1)

-- Parts that come in order give the message at the last of them, and leave the joiner as it was.
abbrev pub WholeInOrder : Type 0
WholeInOrder = (held : List HalfJoined) (id : MessageId) (message : List ℕ) → CanBeCut id message → HasRoomFor held id →
    joined held (parts_of id message) ≡ Some (record { held = held; wholes = whole_of id message ∷ [] })

-- Before the last of them they give nothing.
abbrev pub EarlyInOrder : Type 0
EarlyInOrder = (held : List HalfJoined) (id : MessageId) (message : List ℕ) → CanBeCut id message → HasRoomFor held id →
    (taken : ℕ) → taken < parts_in (length message) →
    IsSomeAnd (joined held (take taken (parts_of id message))) (λ so_far. so_far.wholes ≡ [])

-- Part by part: only the last of them gives the message.
abbrev pub StepsInOrder : Type 0
StepsInOrder = (held : List HalfJoined) (id : MessageId) (message : List ℕ) → CanBeCut id message → HasRoomFor held id →
    (taken : ℕ) → taken < parts_in (length message) →
    after_part (after_first held id message taken) (part_of id message taken)
    ≡ Some (record {
      held = after_first held id message (taken + 1);
      whole = if taken + 1 == parts_in (length message) then Some (whole_of id message) else None;
    })

-- In whatever order the parts of a message come, and however often, the last index that was missing gives the message,
-- and the joiner is as it was.
abbrev pub WholeInAnyOrder : Type 0
WholeInAnyOrder = (held : List HalfJoined) (id : MessageId) (message : List ℕ) → CanBeCut id message → HasRoomFor held id →
    (front : List ℕ) (last : ℕ) → IsLastOf (parts_in (length message)) front last →
    joined held (parts_at id message (front ++ last ∷ [])) ≡ Some (record { held = held; wholes = whole_of id message ∷ [] })

-- Until then they give nothing.
abbrev pub EarlyInAnyOrder : Type 0
EarlyInAnyOrder = (held : List HalfJoined) (id : MessageId) (message : List ℕ) → CanBeCut id message → HasRoomFor held id →
    (front : List ℕ) (last : ℕ) → IsLastOf (parts_in (length message)) front last →
    IsSomeAnd (joined held (parts_at id message front)) (λ so_far. so_far.wholes ≡ [])

-- One message was sent under each id, and these parts of such messages come, each by its id and its index, in whatever
-- order and however often: none is refused, and each message that is given is one of those, whole.
abbrev pub NeverMixes : Type 0
NeverMixes = (sent : MessageId → List ℕ) (parts : List (MessageId × ℕ)) →
    All (λ part. CanBeCut part.0 (sent part.0) × (part.1 < parts_in (length (sent part.0)))) parts →
    IsSomeAnd (joined [] (map (λ part. part_of part.0 (sent part.0) part.1) parts))
    (λ after. All (λ whole. Any (λ part. whole ≡ whole_of part.0 (sent part.0)) parts) after.wholes)

-- Whatever comes, at most 64 messages are half joined.
abbrev pub StaysFew : Type 0
StaysFew =
    (held : List HalfJoined) (bytes : List ℕ) (taken : Taken) → length held ≤ HALF_JOINED →
    after_part held bytes ≡ Some taken → length taken.held ≤ HALF_JOINED

-- Whatever comes, no message is half joined twice.
abbrev pub StaysApart : Type 0
StaysApart = (held : List HalfJoined) (bytes : List ℕ) (taken : Taken) → AreApart held → after_part held bytes ≡ Some taken →
    AreApart taken.held

-- A message that is given is forgotten: its next part begins it again, with no index taken.
abbrev pub ForgetsGiven : Type 0
ForgetsGiven = (held : List HalfJoined) (bytes : List ℕ) (part : Header × List ℕ) (taken : Taken) → AreApart held →
    read_part bytes ≡ Some part → after_part held bytes ≡ Some taken → IsSome taken.whole →
    half_of taken.held part.0.id ≡ None

-- The oldest of too many is dropped, and forgotten too.
abbrev pub ForgetsDropped : Type 0
ForgetsDropped = (oldest : HalfJoined) (others : List HalfJoined) → AreApart (oldest ∷ others) →
    HALF_JOINED < length (oldest ∷ others) → half_of (newest (oldest ∷ others)) oldest.id ≡ None
