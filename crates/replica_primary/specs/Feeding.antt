-- a peer that is brought to a head
use Rattle.std.specs.Prelude.{ℕ, ◌≡◌, Bool, true, false, Option, Some, List}
use Rattle.xt_messages.specs.declared.file.ObjectVersion.{ObjectVersion}
use Rattle.xt_messages.specs.declared.file.FileHead.{FileHead}
use Rattle.xt_protocol.specs.declared.states.PeerState.{PeerState}
use Rattle.xt_protocol.specs.declared.states.PeerState.TheVariants as peer
use Rattle.replica_primary.specs.declared.feeding.Target.{Target}
use Rattle.replica_primary.specs.declared.feeding.Target.TheVariants as target

-- the head as it is, or under an epoch
abbrev pub head_of : Target → FileHead
head_of (target.Whole head) = head.now
head_of (target.Under head epoch) = record head.now { promised = epoch; stamp = record { epoch = epoch; count = head.now.stamp.count } }

-- it is the own head, unless it is one under an epoch
abbrev pub IsOfOwn : FileHead → Target → Type 0
IsOfOwn own (target.Whole head) = head.now ≡ own
IsOfOwn own (target.Under head epoch) = Unit {0}

-- so many of the own head's versions, where peers are brought to that one
abbrev pub of_own : Target → ℕ → ℕ
of_own (target.Whole head) passed = passed
of_own (target.Under head epoch) passed = 0

-- whether a peer was sent a head last
abbrev pub is_at_head : Option PeerState → Bool
is_at_head (Some (peer.Heading known head)) = true
is_at_head _ = false

-- the state of a peer that was sent a body or a head, with these versions in place of those that were known
abbrev pub with_known : PeerState → List ObjectVersion → PeerState
with_known (peer.Feeding before object version body) known = peer.Feeding known object version body
with_known (peer.Heading before head) known = peer.Heading known head
with_known state known = state
