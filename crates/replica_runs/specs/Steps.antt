-- What may happen in a world, one small step at a time. A row of the protocol is a chain of these; a row that is stopped or cut
-- is a front of that chain, and then a stop.
use Rattle.std.specs.Prelude.{◌≡◌, ℕ, suc, pred, ◌<◌, ◌≤◌, ◌⊎◌, ◌==◌, if◌then◌else◌, true, List, [], ◌∷◌, ◌++◌, length, map, take, slice_get, Option, None, Some}
use Rattle.xt_protocol.specs.Stamps.{is_earlier}
use Rattle.replica_safety.specs.Epochs.{Epoch, Stamp, Below, AtMost, Write, name, Head, stamp_of, at_node}
use Rattle.replica_safety.specs.Lists.{Has}
use Rattle.replica_safety.specs.Protocol.{Activated, Issued, Committed, last_write}
use Rattle.replica_safety.specs.Rules.{Start}
use Rattle.xt_base.specs.declared.TheConstants.{NO_OBJECT}
use Rattle.xt_protocol.specs.Heads.{version_of}
use Rattle.replica_runs.specs.FileHeads.{Body, body_of, bodies_in, versions_of}
use Rattle.replica_runs.specs.Made.{bodies_of}
use Rattle.replica_runs.specs.World.{Counted, Primary, Idle, Gathering, Installing, Active, epoch_of, Node, Message, Gather, Status, Install, Update, Ack, Piece, Mark, Told, ShowsRead, ShowsWrite, World, among, counted_from, IsMost}

pub data Step : Type 0 where
  -- the lease
  Gains : (node : ℕ) → Step
  Loses : (node : ℕ) → Step
  -- rows of a replica
  Promises : (replica : ℕ) → (epoch : Epoch) → Step
  SendsStatus : (replica : ℕ) → (epoch : Epoch) → Step
  TakesHead : (replica : ℕ) → (epoch : Epoch) → (writes : List Write) → Step
  TakesUpdate : (replica : ℕ) → (write : Write) → Step
  SendsAck : (replica : ℕ) → (stamp : Stamp) → Step
  -- bodies
  KeepsUpdate : (replica : ℕ) → (write : Write) → Step
  SendsBody : (replica : ℕ) → (body : Body) → Step
  KeepsBody : (replica : ℕ) → (body : Body) → Step
  -- of its bodies it keeps these
  Forgets : (replica : ℕ) → (held : List Body) → Step
  -- rows of a primary
  Draws : (node : ℕ) → (epoch : Epoch) → Step
  SendsGather : (node : ℕ) → (epoch : Epoch) → Step
  CountsStatus : (node : ℕ) → (epoch : Epoch) → (counted : List Counted) → (replica : ℕ) → (head : Head) → Step
  Chooses : (node : ℕ) → (epoch : Epoch) → (counted : List Counted) → (replica : ℕ) → (found : Head) → Step
  SendsChosen : (node : ℕ) → (epoch : Epoch) → (chosen : List Write) → (acked : List ℕ) → Step
  SendsOwn : (node : ℕ) → Step
  CountsInstalled : (node : ℕ) → (epoch : Epoch) → (chosen : List Write) → (acked : List ℕ) → (replica : ℕ) → (stamp : Stamp) → Step
  Activates : (node : ℕ) → (epoch : Epoch) → (chosen : List Write) → (acked : List ℕ) → Step
  Issues : (node : ℕ) → (epoch : Epoch) → (committed : List Write) → (acked : List ℕ) → (write : Write) → Step
  SendsUpdate : (node : ℕ) → (epoch : Epoch) → (committed : List Write) → (write : Write) → (acked : List ℕ) → Step
  CountsUpdated : (node : ℕ) → (epoch : Epoch) → (committed : List Write) → (write : Write) → (acked : List ℕ) → (replica : ℕ) → (stamp : Stamp) → Step
  Commits : (node : ℕ) → (epoch : Epoch) → (committed : List Write) → (write : Write) → (acked : List ℕ) → Step
  AnswersRead : (node : ℕ) → (epoch : Epoch) → (committed : List Write) → (issued : Option Write) → (acked : List ℕ) → (object : ℕ) → (body : List ℕ) → Step
  AnswersWrite : (node : ℕ) → (epoch : Epoch) → (committed : List Write) → (issued : Option Write) → (acked : List ℕ) → (place : ℕ) → (write : Write) → Step

-- The world with another state of a node.
abbrev pub renoded : World → ℕ → Node → World
renoded w n x = record w { nodes = at_node n x w.nodes }

abbrev pub leads : World → ℕ → Primary → World
leads w n p = renoded w n (record { promised = (w.nodes n).promised; head = (w.nodes n).head; primary = p })

abbrev pub sends : World → Message → World
sends w m = record w { messages = m ∷ w.messages }

abbrev pub marks : World → Mark → World
marks w m = record w { marks = m ∷ w.marks }

abbrev pub keeps : World → ℕ → Body → World
keeps w r b = record w { held = at_node r (b ∷ w.held r) w.held }

-- What is held of an object's version: where there is none, no bytes.
abbrev pub IsHeld : List Body → ℕ → Option Stamp → List ℕ → Type 0
IsHeld held o None bytes = bytes ≡ []
IsHeld held o (Some v) bytes = Has (record { object = o; version = v; bytes = bytes }) held

-- A body of this version is held.
abbrev pub Holds : List Body → ℕ → Stamp → Type 0
Holds held o v = (bytes : List ℕ) × Has (record { object = o; version = v; bytes = bytes }) held

-- A body of each version of these writes is held.
abbrev pub AreHeld : List Body → List Write → Type 0
AreHeld held ws = (o : ℕ) (v : Stamp) → o < NO_OBJECT → version_of (versions_of ws) o ≡ Some v → Holds held o v

-- The bodies of the writes that a primary serves are held.
abbrev pub ServesHeld : List Body → Primary → Type 0
ServesHeld held (Active e ws issued acked) = AreHeld held ws
ServesHeld held Idle = Unit {0}
ServesHeld held (Gathering e counted) = Unit {0}
ServesHeld held (Installing e ws acked) = Unit {0}

-- Nobody holds the lease after this node has lost it.
abbrev pub without : ℕ → Option ℕ → Option ℕ
without n None = None
without n (Some m) = if m == n then None else Some m

abbrev pub after : World → Step → World
after w (Gains n) = record w { holder = Some n }
after w (Loses n) = record (leads w n Idle) { holder = without n w.holder }
after w (Promises r e) = renoded w r (record { promised = e; head = (w.nodes r).head; primary = (w.nodes r).primary })
after w (SendsStatus r e) = sends w (Status r e (w.nodes r).head)
after w (TakesHead r e ws) =
    renoded w r (record { promised = (w.nodes r).promised; head = record { epoch = e; writes = ws }; primary = (w.nodes r).primary })
after w (TakesUpdate r v) =
    renoded w r (record {
      promised = (w.nodes r).promised;
      head = record { epoch = v.stamp.epoch; writes = (w.nodes r).head.writes ++ v ∷ [] };
      primary = (w.nodes r).primary;
    })
after w (SendsAck r t) = sends w (Ack r t)
after w (KeepsUpdate r v) = keeps w r (body_of v)
after w (SendsBody r b) = sends w (Piece b)
after w (KeepsBody r b) = keeps w r b
after w (Forgets r held) = record w { held = at_node r held w.held }
after w (Draws n e) = renoded w n (record { promised = e; head = (w.nodes n).head; primary = Gathering e [] })
after w (SendsGather n e) = sends w (Gather e)
after w (CountsStatus n e counted r h) = leads w n (Gathering e (record { replica = r; head = h } ∷ counted))
after w (Chooses n e counted r found) = leads w n (Installing e found.writes [])
after w (SendsChosen n e ws acked) = sends w (Install e ws)
after w (SendsOwn n) = sends w (Install (w.nodes n).head.epoch (w.nodes n).head.writes)
after w (CountsInstalled n e ws acked r t) = leads w n (Installing e ws (r ∷ acked))
after w (Activates n e ws acked) =
    marks (leads w n (Active e (w.nodes n).head.writes None []))
    (Told n (Activated (length (w.nodes n).head.writes) (last_write (w.nodes n).head.writes)))
after w (Issues n e ws acked v) =
    marks (leads w n (Active e ws (Some v) [])) (Told n (Issued (suc (length ws)) v))
after w (SendsUpdate n e ws v acked) = sends w (Update v)
after w (CountsUpdated n e ws v acked r t) = leads w n (Active e ws (Some v) (r ∷ acked))
after w (Commits n e ws v acked) =
    marks (leads w n (Active e (w.nodes n).head.writes None [])) (Told n (Committed (suc (length ws)) v))
after w (AnswersRead n e ws issued acked o body) = marks w (ShowsRead n ws o body)
after w (AnswersWrite n e ws issued acked place v) = marks w (ShowsWrite n place (name v))

-- A message of this stamp asks for an acknowledgement.
abbrev pub IsAsked : Stamp → List Message → Type 0
IsAsked t messages =
    ((ws : List Write) × Has (Install t.epoch ws) messages × (length ws ≡ t.count)) ⊎ ((v : Write) × Has (Update v) messages × (v.stamp ≡ t))

-- When a step is allowed.
abbrev pub May : (List Write → Write → Type 0) → List ℕ → World → Step → Type 0
-- the leases let one node in at a time
May makes members w (Gains n) = w.holder ≡ None
May makes members w (Loses n) = Unit {0}
-- whoever asked for it
May makes members w (Promises r e) = record {
  above : is_earlier (w.nodes r).promised e ≡ true;
}
May makes members w (SendsStatus r e) = record {
  asked : Has (Gather e) w.messages;
  promised : (w.nodes r).promised ≡ e;
}
May makes members w (TakesHead r e ws) = record {
  asked : Has (Install e ws) w.messages;
  promised : (w.nodes r).promised ≡ e;
  above : Below (stamp_of (w.nodes r).head) (record { epoch = e; count = length ws });
  held : AreHeld (w.held r) ws;
}
May makes members w (TakesUpdate r v) = record {
  asked : Has (Update v) w.messages;
  promised : (w.nodes r).promised ≡ v.stamp.epoch;
  same : (w.nodes r).head.epoch ≡ v.stamp.epoch;
  next : suc (length (w.nodes r).head.writes) ≡ v.stamp.count;
  -- an update without an object has no body
  held : (v.object ≡ NO_OBJECT → ⊥) → Holds (w.held r) v.object v.stamp;
}
May makes members w (SendsAck r t) = record {
  asked : IsAsked t w.messages;
  reached : AtMost t (stamp_of (w.nodes r).head);
}
May makes members w (KeepsUpdate r v) = Has (Update v) w.messages × (v.object ≡ NO_OBJECT → ⊥)
May makes members w (SendsBody r b) = Has b (w.held r)
May makes members w (KeepsBody r b) = Has (Piece b) w.messages
-- those of the head that it has, and of the writes that it serves
May makes members w (Forgets r held) = record {
  less : (b : Body) → Has b held → Has b (w.held r);
  heads : AreHeld held (w.nodes r).head.writes;
  served : ServesHeld held (w.nodes r).primary;
}
May makes members w (Draws n e) = record {
  holds : w.holder ≡ Some n;
  own : e.node.0 ≡ n;
  above : (w.nodes n).promised.number < e.number;
}
May makes members w (SendsGather n e) = epoch_of (w.nodes n).primary ≡ Some e
May makes members w (CountsStatus n e counted r h) = record {
  gathers : (w.nodes n).primary ≡ Gathering e counted;
  told : Has (Status r e h) w.messages;
}
May makes members w (Chooses n e counted r found) = record {
  gathers : (w.nodes n).primary ≡ Gathering e counted;
  most : IsMost members (λ m. counted_from m counted);
  one : Has (record { replica = r; head = found }) counted;
  greatest : (c : Counted) → Has c counted → AtMost (stamp_of c.head) (stamp_of found);
}
May makes members w (SendsChosen n e ws acked) = (w.nodes n).primary ≡ Installing e ws acked
May makes members w (SendsOwn n) = epoch_of (w.nodes n).primary ≡ Some (w.nodes n).head.epoch
May makes members w (CountsInstalled n e ws acked r t) = record {
  installs : (w.nodes n).primary ≡ Installing e ws acked;
  told : Has (Ack r t) w.messages;
  same : t.epoch ≡ e;
}
May makes members w (Activates n e ws acked) = record {
  installs : (w.nodes n).primary ≡ Installing e ws acked;
  most : IsMost members (λ m. among m acked);
  own : among n acked ≡ true;
}
May makes members w (Issues n e ws acked v) = record {
  serves : (w.nodes n).primary ≡ Active e ws None acked;
  new : Has (name v) (map name ws) → ⊥;
  stamped : v.stamp ≡ record { epoch = e; count = suc (length ws) };
  -- it does to the file what was asked, where these writes are committed
  made : makes ws v;
}
May makes members w (SendsUpdate n e ws v acked) = (w.nodes n).primary ≡ Active e ws (Some v) acked
May makes members w (CountsUpdated n e ws v acked r t) = record {
  serves : (w.nodes n).primary ≡ Active e ws (Some v) acked;
  told : Has (Ack r t) w.messages;
  same : t.epoch ≡ e;
  reached : suc (length ws) ≤ t.count;
}
May makes members w (Commits n e ws v acked) = record {
  serves : (w.nodes n).primary ≡ Active e ws (Some v) acked;
  most : IsMost members (λ m. among m acked);
  own : among n acked ≡ true;
}
May makes members w (AnswersRead n e ws issued acked o body) = record {
  serves : (w.nodes n).primary ≡ Active e ws issued acked;
  -- the number that stands for no object has no body
  none : o ≡ NO_OBJECT → bodies_of ws o ≡ [];
  held : IsHeld (w.held n) o (version_of (versions_of ws) o) body;
}
May makes members w (AnswersWrite n e ws issued acked place v) = record {
  serves : (w.nodes n).primary ≡ Active e ws issued acked;
  stands : slice_get ws (pred place) ≡ Some v;
  -- places are counted from 1
  placed : 1 ≤ place;
}

abbrev pub after_all : World → List Step → World
after_all w [] = w
after_all w (s ∷ ss) = after_all (after w s) ss

abbrev pub MayAll : (List Write → Write → Type 0) → List ℕ → World → List Step → Type 0
MayAll makes members w [] = Unit {0}
MayAll makes members w (s ∷ ss) = May makes members w s × MayAll makes members (after w s) ss

-- The world at the start of a version of the list.
abbrev pub begin : Start → World
begin start = record {
  nodes = λ r. record {
    promised = start.promised r;
    head = record { epoch = start.epoch; writes = take (start.holds r) (start.line ++ start.open_writes) };
    primary = Idle;
  };
  holder = None;
  held = λ r. bodies_in (take (start.holds r) (start.line ++ start.open_writes));
  messages = map Piece start.old;
  marks = [];
}
