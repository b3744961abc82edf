-- what taking many parts does, one after another
use Rattle.std.specs.Prelude.{ℕ, Bool, true, false, Option, Some, None, List, [], ◌∷◌, ◌++◌, ◌≡◌, ◌<◌, ◌≤◌, ◌^◌, ◌==◌, ◌||◌, nat_lt, if◌then◌else◌, length, map, option_and_then}
use Rattle.std.specs.Option.{option_map, option_to_list}
use Rattle.std.specs.List.{list_any, range_with_len}
use Rattle.xt_base.specs.declared.TheConstants.{FRAME}
use Rattle.xt_parts.specs.declared.TheConstants.{HALF_JOINED}
use Rattle.message_ids.specs.declared.MessageId.{MessageId}
use Rattle.xt_parts.specs.declared.joining.Whole.{Whole}
use Rattle.xt_parts.specs.Part.{parts_in, payload_of, part_of}
use Rattle.xt_parts.specs.Joining.{HalfJoined, half_of, after_part}

-- what taking parts leads to: the half joined messages, and the whole ones in the order in which they were given
pub record Joined : Type 0 where
  pub held : List HalfJoined
  pub wholes : List Whole

-- a message that was given before the others
abbrev pub with_whole : Option Whole → Joined → Joined
with_whole whole later = record later { wholes = option_to_list whole ++ later.wholes }

-- what taking these parts in this order leads to; none where one of them is refused
abbrev pub joined : List HalfJoined → List (List ℕ) → Option Joined
joined held [] = Some (record { held = held; wholes = [] })
joined held (part ∷ parts) =
    option_and_then (λ taken. option_map (with_whole taken.whole) (joined taken.held parts)) (after_part held part)

-- The numbers fit their fields, and the length is one that may be cut.
pub record CanBeCut (id : MessageId) (message : List ℕ) : Type 0 where
  pub sender : id.sender.0 < 2 ^ 32
  pub boot : id.boot.0 < 2 ^ 64
  pub number : id.number < 2 ^ 64
  pub some : 1 ≤ length message
  pub limit : length message ≤ FRAME

-- the message as a joiner gives it
abbrev pub whole_of : MessageId → List ℕ → Whole
whole_of id message = record { sender = id.sender; boot = id.boot; bytes = message }

-- the payloads of the message by index, when the first ones were taken, so many of them
abbrev pub first_payloads : List ℕ → ℕ → List (Option (List ℕ))
first_payloads message taken =
    map (λ index. if nat_lt index taken then Some (payload_of message index) else None)
    (range_with_len 0 (parts_in (length message)))

-- No message with this id is half joined, and one may be without another being dropped.
pub record HasRoomFor (held : List HalfJoined) (id : MessageId) : Type 0 where
  pub unknown : half_of held id ≡ None
  pub room : length held < HALF_JOINED

-- whether the index is among these
abbrev pub has_index : List ℕ → ℕ → Bool
has_index indices index = list_any (λ other. other == index) indices

-- the parts of the message with these indices
abbrev pub parts_at : MessageId → List ℕ → List ℕ → List (List ℕ)
parts_at id message indices = map (part_of id message) indices

-- these indices of a message with so many parts, in any order and with repeats, and a last one that is the only one missing
pub record IsLastOf (count : ℕ) (front : List ℕ) (last : ℕ) : Type 0 where
  pub below : (index : ℕ) → has_index (front ++ last ∷ []) index ≡ true → index < count
  pub new : has_index front last ≡ false
  pub complete : (index : ℕ) → index < count → has_index (front ++ last ∷ []) index ≡ true

-- the joiner after the first parts of the message, so many of them, were taken in order
abbrev pub after_first : List HalfJoined → MessageId → List ℕ → ℕ → List HalfJoined
after_first held id message taken =
    if (taken == 0) || (taken == parts_in (length message)) then held
    else held ++ record { id = id; size = length message; taken = first_payloads message taken } ∷ []

-- No message is half joined twice.
abbrev pub AreApart : List HalfJoined → Type 0
AreApart [] = Unit {0}
AreApart (half ∷ held) = (half_of held half.id ≡ None) × AreApart held
