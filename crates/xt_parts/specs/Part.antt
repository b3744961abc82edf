-- a part of a message: how its bytes lie, and which bytes are a part
use Rattle.std.specs.Prelude.{ℕ, Bool, Option, Some, None, List, ◌∷◌, ◌++◌, ◌≡◌, ◌<◌, ◌≤◌, ◌^◌, ◌+◌, ◌-◌, ◌*◌, ◌/◌, ◌==◌, ◌&&◌, nat_le, nat_lt, if◌then◌else◌, length, take, drop, min, map, slice_index}
use Rattle.std.specs.Int.{w32, w64, to_be_bytes, from_be_bytes}
use Rattle.std.specs.List.{range_with_len}
use Rattle.xt_base.specs.declared.TheConstants.{FRAME}
use Rattle.xt_parts.specs.declared.TheConstants.{VERSION, HEADER, PAYLOAD}
use Rattle.message_ids.specs.declared.MessageId.{MessageId}
use Rattle.xt_parts.specs.declared.part.Header.{Header}

-- how many parts a message of this length has
abbrev pub parts_in : ℕ → ℕ
parts_in size = (size + (PAYLOAD - 1)) / PAYLOAD

-- how many bytes of a message of this length the part with this index carries: 32,768, or in the last part what is left
abbrev pub bytes_in : ℕ → ℕ → ℕ
bytes_in size index = min PAYLOAD (size - index * PAYLOAD)

-- version, sender, boot and number of the message, index of the part, how many parts there are, length of the message
abbrev pub header_bytes : Header → List ℕ
header_bytes header =
    VERSION ∷ to_be_bytes w32 header.id.sender.0 ++ to_be_bytes w64 header.id.boot.0
    ++ to_be_bytes w64 header.id.number ++ header.index ∷ parts_in header.size ∷ to_be_bytes w32 header.size

-- the payload stands after the header
abbrev pub part_bytes : Header → List ℕ → List ℕ
part_bytes header payload = header_bytes header ++ payload

-- The length may be one, the index is below the number of parts, and the payload is as long as it is to be.
pub record FitsMessage (header : Header) (payload : List ℕ) : Type 0 where
  pub some : 1 ≤ header.size
  pub limit : header.size ≤ FRAME
  pub index : header.index < parts_in header.size
  pub long : length payload ≡ bytes_in header.size header.index

-- The numbers fit their fields.
pub record FitsFields (header : Header) : Type 0 where
  pub sender : header.id.sender.0 < 2 ^ 32
  pub boot : header.id.boot.0 < 2 ^ 64
  pub number : header.id.number < 2 ^ 64

-- the fields that stand at these places
abbrev pub word_at : List ℕ → ℕ → ℕ
word_at bytes at = from_be_bytes w32 (take 4 (drop at bytes))

abbrev pub long_at : List ℕ → ℕ → ℕ
long_at bytes at = from_be_bytes w64 (take 8 (drop at bytes))

unfoldable pub header_of : List ℕ → Header
header_of bytes = record {
  id = record { sender = record { 0 = word_at bytes 1 }; boot = record { 0 = long_at bytes 5 }; number = long_at bytes 13 };
  index = slice_index bytes 21;
  size = word_at bytes 23;
}

-- whether index, number of parts and length of the payload are what the length of the message says
abbrev pub is_cut : List ℕ → ℕ → Bool
is_cut bytes size =
    nat_le 1 size && nat_le size FRAME && (slice_index bytes 22 == parts_in size)
    && nat_lt (slice_index bytes 21) (parts_in size)
    && (length bytes - HEADER == bytes_in size (slice_index bytes 21))

-- whether the bytes are a part
unfoldable pub is_part : List ℕ → Bool
is_part bytes =
    nat_le HEADER (length bytes) && (slice_index bytes 0 == VERSION) && is_cut bytes (word_at bytes 23)

-- the header and the payload, where the bytes are a part
abbrev pub read_part : List ℕ → Option (Header × List ℕ)
read_part bytes = if is_part bytes then Some (header_of bytes, drop HEADER bytes) else None

-- the bytes of the message that the part with this index carries
abbrev pub payload_of : List ℕ → ℕ → List ℕ
payload_of message index = take PAYLOAD (drop (index * PAYLOAD) message)

-- the part of the message with this index
unfoldable pub part_of : MessageId → List ℕ → ℕ → List ℕ
part_of id message index =
    part_bytes (record { id = id; index = index; size = length message }) (payload_of message index)

-- all parts of the message, in order
abbrev pub parts_of : MessageId → List ℕ → List (List ℕ)
parts_of id message = map (part_of id message) (range_with_len 0 (parts_in (length message)))
