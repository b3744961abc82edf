-- the datagrams that messages become
use Rattle.std.specs.Prelude.{ℕ, ◌≡◌, ◌+◌, ◌==◌, if◌then◌else◌, Option, Some, None, List, [], ◌++◌, map, fold, take}
use Rattle.xt_base.specs.declared.ids.NodeId.{NodeId}
use Rattle.xt_base.specs.declared.ids.Boot.{Boot}
use Rattle.xt_messages.specs.declared.message.Msg.{Msg}
use Rattle.message_ids.specs.declared.MessageId.{MessageId}
use Rattle.xt_parts.specs.Part.{parts_of}
use Rattle.xt_frames.specs.Frames.{frame_of}
use Rattle.node_links.specs.declared.link.Datagram.{Datagram}
use Rattle.node_runs.specs.Hearing.{Book, address_of}

-- how many messages were posted in this boot, and the datagrams of the last ones
pub record Posted : Type 0 where
  pub count : ℕ
  pub datagrams : List Datagram

abbrev pub sent_to : List ℕ → List (List ℕ) → List Datagram
sent_to address parts = map (λ part. record { peer = address; bytes = part }) parts

abbrev pub datagrams_to : List ℕ → MessageId → Msg → List Datagram
datagrams_to address id msg = sent_to address (parts_of id (frame_of msg))

-- A message to the node itself isn't posted, nor is one to a node without an address. The others are numbered from 1 in each boot.
abbrev pub posted_to : NodeId → Boot → Msg → Option (List ℕ) → Posted → Posted
posted_to node boot msg None before = before
posted_to node boot msg (Some address) before =
    let id : MessageId = record { sender = node; boot = boot; number = before.count + 1 } in
    record { count = before.count + 1; datagrams = before.datagrams ++ datagrams_to address id msg }

abbrev pub one_posted : NodeId → Boot → Book → Posted → Msg → Posted
one_posted node boot book before msg =
    if msg.to.0 == node.0 then before else posted_to node boot msg (address_of book msg.to) before

abbrev pub posted : NodeId → Boot → Book → Posted → List Msg → Posted
posted node boot book before msgs = fold (one_posted node boot book) before msgs

abbrev pub none_posted : ℕ → Posted
none_posted count = record { count = count; datagrams = [] }

-- What sending messages did: as many more were counted, and their datagrams were handed over.
pub record HasPosted (p : Posted) (count : ℕ) (handed : List Datagram → Type 0) : Type 0 where
  pub counted : count ≡ p.count
  pub went : handed p.datagrams

-- a front of messages was sent
abbrev pub HasSentFront : NodeId → Boot → Book → ℕ → List Msg → (List Datagram → Type 0) → Type 0
HasSentFront node boot book count msgs handed =
    (front : ℕ) × handed (posted node boot book (none_posted count) (take front msgs)).datagrams
