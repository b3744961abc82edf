-- a peer that lacks two objects of three, and what an active primary sends it
use Rattle.std.specs.Prelude.{ℕ, None, List, [], ◌∷◌, replicate}
use Rattle.xt_base.specs.declared.ids.NodeId.{NodeId}
use Rattle.xt_base.specs.declared.ids.FileId.{FileId}
use Rattle.xt_base.specs.declared.ids.Epoch.{Epoch}
use Rattle.xt_base.specs.declared.ids.Stamp.{Stamp}
use Rattle.xt_messages.specs.declared.file.FileHead.{FileHead}
use Rattle.xt_messages.specs.declared.file.ObjectVersion.{ObjectVersion}
use Rattle.xt_messages.specs.declared.message.Msg.{Msg}
use Rattle.xt_messages.specs.declared.message.Payload.{Payload}
use Rattle.xt_messages.specs.declared.message.Payload.TheVariants as payload
use Rattle.xt_protocol.specs.declared.states.PeerState.TheVariants as peer
use Rattle.xt_protocol.specs.declared.states.PrimaryState.{PrimaryState}
use Rattle.xt_protocol.specs.declared.states.Progress.TheVariants as progress
use Rattle.xt_protocol.specs.Folds.{body_of}
use Rattle.xt_protocol.specs.Primaries.{Ground, in_tenure}
use Rattle.xt_protocol.specs.PrimaryRows.{hears}
use Rattle.xt_protocol.specs.Turns.{message}

abbrev pub node : ℕ → NodeId
node number = record { 0 = number }

abbrev pub epoch : ℕ → ℕ → Epoch
epoch number owner = record { number = number; node = node owner }

abbrev pub stamp : ℕ → ℕ → ℕ → Stamp
stamp number owner count = record { epoch = epoch number owner; count = count }

-- the epoch of the primary, on node 1, and the file
abbrev pub now : Epoch
now = epoch 3 1

abbrev pub of : FileId
of = record { volume = replicate 16 0; number = 7 }

-- four different stamps
abbrev pub a : Stamp
a = stamp 1 1 1

abbrev pub b : Stamp
b = stamp 1 1 2

abbrev pub c : Stamp
c = stamp 2 2 3

abbrev pub d : Stamp
d = stamp 2 2 4

-- what the peer has, and what the primary has
abbrev pub have : List ObjectVersion
have = body_of 0 a ∷ body_of 1 b ∷ []

abbrev pub want : List ObjectVersion
want = body_of 0 a ∷ body_of 1 c ∷ body_of 2 d ∷ []

abbrev pub head : Stamp → List ObjectVersion → FileHead
head last versions =
    record {
      promised = now;
      stamp = last;
      last = record { client = node 10; number = last.count };
      mark = record { epoch = 0; size = 0 };
      versions = versions;
      sessions = [];
    }

-- the peer's head, and the primary's, which is of its epoch
abbrev pub reported : FileHead
reported = head b have

abbrev pub own : FileHead
own = head (stamp 3 1 4) want

-- the body of an object is one byte, its number
abbrev pub ground : Ground
ground =
    record {
      place = record { node = node 1; file = of; stripe = 1024 };
      own = own;
      held = want;
      body = λ object version. object ∷ [];
    }

-- the primary is active, and nothing is known of the peer
abbrev pub primary : PrimaryState
primary =
    in_tenure 0
    (record {
      epoch = now;
      peers = record { node = node 1; state = peer.Current } ∷ record { node = node 2; state = peer.Unknown } ∷ [];
      progress = progress.Active own None;
    })

-- what the primary sends for each of these messages of the peer
abbrev pub sent : PrimaryState → List Payload → List (List Msg)
sent p [] = []
sent p (content ∷ later) = let led = hears ground p (node 2) content in led.turned.outs ∷ sent led.primary later

-- its status, and that it has staged each body
abbrev pub told : List Payload
told = payload.Status of now reported ∷ payload.Staged of now 1 c ∷ payload.Staged of now 2 d ∷ []

abbrev pub to_peer : Payload → List Msg
to_peer content = message (node 1) (node 2) content ∷ []

-- the two bodies that it lacks, and then the head
abbrev pub lacked : List (List Msg)
lacked =
    to_peer (payload.Stage of now 1 c (1 ∷ []))
    ∷ to_peer (payload.Stage of now 2 d (2 ∷ []))
    ∷ to_peer (payload.Head of now own)
    ∷ []
