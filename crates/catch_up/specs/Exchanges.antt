-- what passes between a primary and a peer that it feeds
use Rattle.std.specs.Prelude.{◌≡◌, ℕ, ◌+◌, suc, zero, Bool, true, false, if◌then◌else◌, Option, Some, List}
use Rattle.std.specs.List.{sum_by}
use Rattle.xt_base.specs.declared.ids.Epoch.{Epoch}
use Rattle.xt_base.specs.declared.ids.Stamp.{Stamp}
use Rattle.xt_messages.specs.declared.file.FileHead.{FileHead}
use Rattle.xt_messages.specs.declared.file.ObjectVersion.{ObjectVersion}
use Rattle.xt_messages.specs.declared.message.Payload.{Payload}
use Rattle.xt_messages.specs.declared.message.Payload.TheVariants as payload
use Rattle.xt_messages.specs.declared.record.FileRow.{FileRow}
use Rattle.xt_protocol.specs.Folds.{body_of}
use Rattle.xt_protocol.specs.Stamps.{has_version, is_below, without_version, with_held}
use Rattle.xt_protocol.specs.declared.states.Acted.{Acted}
use Rattle.xt_protocol.specs.declared.states.PeerState.{PeerState}
use Rattle.xt_protocol.specs.declared.states.PeerState.TheVariants as peer
use Rattle.xt_protocol.specs.Primaries.{fed}
use Rattle.xt_protocol.specs.ReplicaRows.{kept_after, staged, headed}

-- a peer is fed: what is known of it, and what it keeps; or it has acknowledged the head, and keeps this
pub data Exchange : Type 0 where
  feeds : (known : List ObjectVersion) → (row : FileRow) → Exchange
  acknowledged : (row : FileRow) → Exchange

module _ (body : ℕ → Stamp → List ℕ) (epoch : Epoch) (target : FileHead) where
  -- what the primary makes of an answer: a staged body is known, a missing one isn't, and the peer is fed on
  abbrev pub answered : List ObjectVersion → FileRow → Option Payload → Exchange
  answered known row (Some (payload.Staged file e object version)) = feeds (with_held known (body_of object version)) row
  answered known row (Some (payload.Missing file e object version)) = feeds (without_version known (body_of object version)) row
  answered known row (Some (payload.Ack file stamp)) = acknowledged row
  answered known row _ = feeds known row

  -- what the peer keeps and answers by its row
  abbrev pub acts : List ObjectVersion → FileRow → Acted → Exchange
  acts known row acted = answered known (kept_after row acted.rec) acted.answer

  -- the body or the head goes to the peer
  abbrev pub goes_to : List ObjectVersion → FileRow → PeerState → Exchange
  goes_to known row (peer.Feeding k object version bytes) = acts known row (staged row.file row.head row.held epoch object version bytes)
  goes_to known row (peer.Heading k head) = acts known row (headed row.file row.head row.held epoch head)
  goes_to known row _ = feeds known row

  -- one message to the peer, and its answer
  abbrev pub next : Exchange → Exchange
  next (feeds known row) = goes_to known row (fed body target known)
  next (acknowledged row) = acknowledged row

  -- so many of them
  abbrev pub exchanges : ℕ → Exchange → Exchange
  exchanges zero x = x
  exchanges (suc k) x = exchanges k (next x)

-- the head that a peer ends with: the target, or its own where that isn't below it
abbrev pub ends_with : FileHead → FileHead → FileHead
ends_with own target = if is_below own.stamp target.stamp then target else own

-- how often a body is sent or missed still: one that isn't known is sent; one that is known and not held is missed, and then sent
abbrev pub left_of : Bool → Bool → ℕ
left_of false is_held = 1
left_of true false = 2
left_of true true = 0

-- the same of all bodies of the target
abbrev pub exchanges_left : List ObjectVersion → List ObjectVersion → FileHead → ℕ
exchanges_left known held target = sum_by (λ v. left_of (has_version known v) (has_version held v)) target.versions

-- the peer has promised this epoch, and the target is a head of it
pub record IsOf (epoch : Epoch) (target own : FileHead) : Type 0 where
  pub promised : own.promised ≡ epoch
  pub under : target.promised ≡ epoch
  pub stamped : target.stamp.epoch ≡ epoch

-- Whatever is known of a peer that has promised the epoch, it has acknowledged the target after so many exchanges.
abbrev pub CatchesUp : Type 0
CatchesUp =
    (body : ℕ → Stamp → List ℕ) (epoch : Epoch) (target : FileHead) (known : List ObjectVersion) (before : FileRow) → IsOf epoch target before.head
    → (after : FileRow) × (exchanges body epoch target (exchanges_left known before.held target + 1) (feeds known before) ≡ acknowledged after)

-- Where a peer has acknowledged the target, after any number of exchanges, it has one and the same head, whatever was known of it.
abbrev pub EndsWithOneHead : Type 0
EndsWithOneHead =
    (body : ℕ → Stamp → List ℕ) (epoch : Epoch) (target : FileHead) (k : ℕ) (known : List ObjectVersion) (before after : FileRow)
    → exchanges body epoch target k (feeds known before) ≡ acknowledged after → after.head ≡ ends_with before.head target
