-- what a node makes of the datagrams that it receives
use Rattle.std.specs.Prelude.{ℕ, Bool, not, ◌==◌, ◌&&◌, nat_le, if◌then◌else◌, Option, Some, None, Result, Ok, Err, List, [], length, fold}
use Rattle.std.specs.Ordering.{nat_cmp, is_eq}
use Rattle.std.specs.BTreeMap.{insert_entry}
use Rattle.std.specs.Map.{lookup}
use Rattle.xt_base.specs.declared.ids.NodeId.{NodeId}
use Rattle.xt_messages.specs.declared.message.Msg.{Msg}
use Rattle.xt_messages.specs.declared.message.Payload.{Payload}
use Rattle.xt_messages.specs.declared.message.Payload.TheVariants as payload
use Rattle.xt_messages.specs.declared.registry.RegistryRow.{RegistryRow}
use Rattle.xt_messages.specs.declared.registry.RegistryAnswer.{RegistryAnswer}
use Rattle.xt_messages.specs.declared.registry.RegistryAnswer.TheVariants as answer
use Rattle.xt_parts.specs.Joining.{HalfJoined, Taken, after_part}
use Rattle.xt_parts.specs.declared.joining.Whole.{Whole}
use Rattle.xt_frames.specs.Decoding.{decoded}
use Rattle.xt_frames.specs.declared.fault.FrameErr.{FrameErr}
use Rattle.node_links.specs.declared.link.Datagram.{Datagram}

-- where nodes are reached, rising by node
abbrev pub Book : Type 0
Book = List (ℕ × List ℕ)

abbrev pub address_of : Book → NodeId → Option (List ℕ)
address_of book node = lookup (λ n. is_eq (nat_cmp node.0 n)) book

abbrev pub with_address : Book → NodeId → List ℕ → Book
with_address book node address = insert_entry nat_cmp book node.0 address

-- Whether a row of the registry may say where this node is reached: none of the number 0, and the directory service is reached where a
-- node was told that it is.
abbrev pub is_told_by_row : NodeId → Bool
is_told_by_row node = not (node.0 == 0) && not (node.0 == 900)

-- a row of the registry whose address is too long gives none
abbrev pub with_row : Book → RegistryRow → Book
with_row book row =
    if is_told_by_row row.node && nat_le (length row.address) 64 then with_address book row.node row.address else book

abbrev pub with_rows : Book → List RegistryRow → Book
with_rows book rows = fold with_row book rows

abbrev pub with_answer : Book → RegistryAnswer → Book
with_answer book (answer.Row row) = with_row book row
with_answer book (answer.Rows rows) = with_rows book rows
with_answer book _ = book

abbrev pub with_payload : Book → Payload → Book
with_payload book (payload.RegistryReply number what) = with_answer book what
with_payload book _ = book

-- only the DIR's answers are learnt from
abbrev pub learns : Book → Msg → Book
learns book msg = if msg.from.0 == 900 then with_payload book msg.payload else book

-- what a node keeps of its link: the half joined messages, and where nodes are reached
pub record Ears : Type 0 where
  pub halves : List HalfJoined
  pub book : Book

-- nothing was heard yet
abbrev pub no_ears : Ears
no_ears = record { halves = []; book = [] }

-- what a datagram leads to: what is kept then, and the message for this node that is whole with it
pub record Heard : Type 0 where
  pub ears : Ears
  pub message : Option Msg

-- A joined message is heard where it is one whole frame for this node, of the first list of its file: lists don't change yet, so no
-- node takes a message of a later one.
abbrev pub frame_heard : NodeId → Ears → ℕ → Result (Msg × ℕ) FrameErr → Heard
frame_heard node ears size (Err fault) = record { ears = ears; message = None }
frame_heard node ears size (Ok read) =
    if (read.1 == size) && (read.0.to.0 == node.0) && (read.0.list == 1)
    then record { ears = record ears { book = learns ears.book read.0 }; message = Some read.0 }
    else record { ears = ears; message = None }

-- the sender of a joined message is reached where it came from
abbrev pub whole_heard : NodeId → List ℕ → Ears → Option Whole → Heard
whole_heard node peer ears None = record { ears = ears; message = None }
whole_heard node peer ears (Some whole) =
    frame_heard node (record ears { book = with_address ears.book whole.sender peer }) (length whole.bytes) (decoded whole.bytes)

abbrev pub part_heard : NodeId → List ℕ → Ears → Option Taken → Heard
part_heard node peer ears None = record { ears = ears; message = None }
part_heard node peer ears (Some joined) = whole_heard node peer (record ears { halves = joined.held }) joined.whole

-- what comes of a datagram
abbrev pub hears : NodeId → Ears → Datagram → Heard
hears node ears datagram = part_heard node datagram.peer ears (after_part ears.halves datagram.bytes)
