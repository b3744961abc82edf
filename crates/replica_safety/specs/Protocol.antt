-- One version of a file's replica list: what its replicas keep, what its primaries know, and what may happen.
use Rattle.std.specs.Prelude.{ℕ, suc, pred, Bool, true, List, [], ◌∷◌, ◌++◌, length, take, drop, Option, None, Some}
use Rattle.replica_safety.specs.Epochs.{Epoch, Stamp, Write, Head, at_epoch, at_node}

-- What a replica reported to the primary of an epoch: the head that it had.
pub record Reported : Type 0 where
  pub replica : ℕ
  pub epoch : Epoch
  pub head : Head

-- What a replica acknowledged: a stamp that its head has reached.
pub record Acknowledged : Type 0 where
  pub replica : ℕ
  pub stamp : Stamp

-- What a primary does that others see. Each act reports a write, and which place that write has in the file's line of
-- writes.
pub data Act : Type 0 where
  -- it begins to serve; the write is the last of those that it begins with, `no_write` where there is none
  Activated : (place : ℕ) → (write : Write) → Act
  -- it sends a new write to the replicas
  Issued : (place : ℕ) → (write : Write) → Act
  -- a majority has the write
  Committed : (place : ℕ) → (write : Write) → Act

pub record State : Type 0 where
  -- of a replica: the epoch that it promised last, and its head
  pub promised : ℕ → Epoch
  pub head : ℕ → Head
  -- of an epoch: whether it was drawn; whether a head was chosen for it, and the writes of that head; whether its
  -- primary is active; the writes issued in it; how many of its writes, those of the chosen head among them, are committed
  pub drawn : Epoch → Bool
  pub chosen : Epoch → Bool
  pub base : Epoch → List Write
  pub active : Epoch → Bool
  pub log : Epoch → List Write
  pub committed : Epoch → ℕ
  -- the one epoch that may act, if any may
  pub current : Option Epoch
  -- everything that was ever reported and acknowledged, and the acts so far, the newest first
  pub reports : List Reported
  pub acknowledged : List Acknowledged
  pub acts : List Act

-- The writes of an epoch: those of the head that was chosen for it, and those issued in it.
abbrev pub writes_of : State → Epoch → List Write
writes_of s e = s.base e ++ s.log e

-- What stands for a write where there is none.
abbrev pub no_write : Write
no_write = record {
  stamp = record { epoch = record { number = 0; node = record { 0 = 0 } }; count = 0 };
  id = record { client = record { 0 = 0 }; number = 0 };
  mark = record { epoch = 0; size = 0 };
  drop_from = 0;
  object = 0;
  body = [];
}

-- The last write, `no_write` where there is none.
abbrev pub last_write : List Write → Write
last_write [] = no_write
last_write (w ∷ []) = w
last_write (w ∷ v ∷ ws) = last_write (v ∷ ws)

pub data Move : Type 0 where
  -- a node that may lead draws an epoch, which is the current one from then on
  Draw : (epoch : Epoch) → Move
  -- a replica promises an epoch
  Promise : (replica : ℕ) → (epoch : Epoch) → Move
  -- a replica reports to the primary of an epoch its head, as it is
  Report : (replica : ℕ) → (epoch : Epoch) → Move
  -- the primary of an epoch chooses the head that the epoch begins with
  Choose : (epoch : Epoch) → (found : Head) → Move
  -- a replica takes a head: as many writes of an epoch as the stamp says
  Take_head : (replica : ℕ) → (stamp : Stamp) → Move
  -- a replica takes an update: the write of an epoch whose place the stamp says
  Take_update : (replica : ℕ) → (stamp : Stamp) → Move
  -- a replica acknowledges a stamp
  Acknowledge : (replica : ℕ) → (stamp : Stamp) → Move
  -- the primary of an epoch begins to serve
  Activate : (epoch : Epoch) → Move
  -- it issues a new write
  Issue : (epoch : Epoch) → (write : Write) → Move
  -- it commits the write after those that are committed
  Commit : (epoch : Epoch) → Move
  -- the current epoch may act no more, as its node's lease has ended or the node has stopped
  Lose : Move

-- The state after a move.
abbrev pub after : State → Move → State
after s (Draw e) = record s { drawn = at_epoch e true s.drawn; current = Some e }
after s (Promise r e) = record s { promised = at_node r e s.promised }
after s (Report r e) = record s { reports = record { replica = r; epoch = e; head = s.head r } ∷ s.reports }
after s (Choose e found) =
    record s { chosen = at_epoch e true s.chosen; base = at_epoch e found.writes s.base }
after s (Take_head r t) =
    record s { head = at_node r (record { epoch = t.epoch; writes = take t.count (writes_of s t.epoch) }) s.head }
after s (Take_update r t) =
    record s {
      head = at_node r (record {
        epoch = t.epoch;
        writes = (s.head r).writes ++ take 1 (drop (pred t.count) (writes_of s t.epoch));
      }) s.head;
    }
after s (Acknowledge r t) = record s { acknowledged = record { replica = r; stamp = t } ∷ s.acknowledged }
after s (Activate e) =
    record s {
      active = at_epoch e true s.active;
      committed = at_epoch e (length (s.base e)) s.committed;
      acts = Activated (length (s.base e)) (last_write (s.base e)) ∷ s.acts;
    }
after s (Issue e w) =
    record s {
      log = at_epoch e (s.log e ++ w ∷ []) s.log;
      acts = Issued (suc (length (writes_of s e))) w ∷ s.acts;
    }
after s (Commit e) =
    record s {
      committed = at_epoch e (suc (s.committed e)) s.committed;
      acts = Committed (suc (s.committed e)) (last_write (take (suc (s.committed e)) (writes_of s e))) ∷ s.acts;
    }
after s Lose = record s { current = None }

-- The state after several moves, the first one first.
abbrev pub after_all : State → List Move → State
after_all s [] = s
after_all s (m ∷ ms) = after_all (after s m) ms
