-- what taking parts does: which messages are half joined afterwards, and which message is whole
use Rattle.std.specs.Prelude.{ℕ, Bool, true, false, Option, Some, None, List, [], ◌∷◌, ◌++◌, ◌-◌, ◌==◌, if◌then◌else◌, length, drop, unwrap_or, option_and_then, is_some, slice_get, slice_set, replicate}
use Rattle.std.specs.List.{list_all, flat_map}
use Rattle.xt_parts.specs.declared.TheConstants.{HALF_JOINED}
use Rattle.message_ids.specs.Same.{is_same}
use Rattle.message_ids.specs.declared.MessageId.{MessageId}
use Rattle.xt_parts.specs.declared.part.Header.{Header}
use Rattle.xt_parts.specs.declared.joining.Whole.{Whole}
use Rattle.xt_parts.specs.Part.{parts_in, read_part}

-- a half joined message: which one it is, its length, and the payloads taken so far, each at its index
pub record HalfJoined : Type 0 where
  pub id : MessageId
  pub size : ℕ
  pub taken : List (Option (List ℕ))

-- what taking a part leads to: the half joined messages, oldest first, and the message that is whole now
pub record Taken : Type 0 where
  pub held : List HalfJoined
  pub whole : Option Whole

-- the half joined message with this id
abbrev pub half_of : List HalfJoined → MessageId → Option HalfJoined
half_of [] id = None
half_of (half ∷ held) id = if is_same half.id id then Some half else half_of held id

-- the others
abbrev pub without : List HalfJoined → MessageId → List HalfJoined
without [] id = []
without (half ∷ held) id = if is_same half.id id then held else half ∷ without held id

-- all of them, with this in place of the one with this id
abbrev pub changed : List HalfJoined → MessageId → HalfJoined → List HalfJoined
changed [] id new = []
changed (half ∷ held) id new = if is_same half.id id then new ∷ held else half ∷ changed held id new

-- at most 64 stay: the oldest ones are dropped
abbrev pub newest : List HalfJoined → List HalfJoined
newest held = drop (length held - HALF_JOINED) held

-- the payloads in order, if each index has one
abbrev pub bytes_of : List (Option (List ℕ)) → Option (List ℕ)
bytes_of taken =
    if list_all is_some taken then Some (flat_map (λ payload. unwrap_or payload []) taken) else None

-- Whether that index has a payload.
abbrev pub has_payload : Option (Option (List ℕ)) → Bool
has_payload (Some (Some payload)) = true
has_payload _ = false

-- With these payloads the message is given and forgotten, if no index is missing, and else it stays half joined.
abbrev pub given_or_kept : MessageId → List HalfJoined → List HalfJoined → Option (List ℕ) → Taken
given_or_kept id forgotten kept None = record { held = kept; whole = None }
given_or_kept id forgotten kept (Some bytes) =
    record { held = forgotten; whole = Some (record { sender = id.sender; boot = id.boot; bytes = bytes }) }

-- no index of a message of this length is taken
abbrev pub none_taken : ℕ → List (Option (List ℕ))
none_taken size = replicate (parts_in size) None

-- The first part that comes of a message, or comes after the message was given or dropped, begins it.
abbrev pub begun : List HalfJoined → Header → List ℕ → Taken
begun held header payload =
    let taken = slice_set (none_taken header.size) header.index (Some payload) in
    given_or_kept header.id held
    (newest (held ++ record { id = header.id; size = header.size; taken = taken } ∷ [])) (bytes_of taken)

-- A new index of a half joined message adds its payload.
abbrev pub added : List HalfJoined → HalfJoined → Header → List ℕ → Taken
added held half header payload =
    let taken = slice_set half.taken header.index (Some payload) in
    given_or_kept header.id (without held header.id) (changed held header.id (record half { taken = taken }))
    (bytes_of taken)

-- A repeated index changes nothing, and a part that gives the message another length is refused.
abbrev pub continued : List HalfJoined → HalfJoined → Header → List ℕ → Option Taken
continued held half header payload =
    if half.size == header.size then Some
    (if has_payload (slice_get half.taken header.index) then record { held = held; whole = None }
    else added held half header payload)
    else None

-- A part is of the half joined message with its id, or begins one.
abbrev pub joined_to : List HalfJoined → Option HalfJoined → Header → List ℕ → Option Taken
joined_to held None header payload = Some (begun held header payload)
joined_to held (Some half) header payload = continued held half header payload

-- what taking these bytes leads to; none where they are refused
abbrev pub after_part : List HalfJoined → List ℕ → Option Taken
after_part held bytes =
    option_and_then (λ part. joined_to held (half_of held part.0.id) part.0 part.1) (read_part bytes)
