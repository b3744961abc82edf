-- When a move is allowed, and from where a history begins.
use Rattle.std.specs.Prelude.{◌≡◌, ℕ, suc, ◌<◌, ◌≤◌, Bool, true, false, List, [], ◌∷◌, ◌++◌, length, map, take, None, Some}
use Rattle.xt_protocol.specs.Stamps.{is_earlier, is_epoch}
use Rattle.replica_safety.specs.Epochs.{Epoch, Stamp, Below, AtMost, Write, name, Head, Body, stamp_of, at_epoch}
use Rattle.replica_safety.specs.Lists.{Has, AreDistinct, Majority}
use Rattle.replica_safety.specs.Protocol.{Reported, Acknowledged, State, writes_of, Move, Draw, Promise, Report, Choose, Take_head, Take_update, Acknowledge, Activate, Issue, Commit, Lose, after}

-- The rules that keep the acts on one line. Each can be lifted, to see what it is for.
pub record Rules : Type 0 where
  -- an epoch is drawn once
  pub drawn_once : Bool
  -- a replica promises only epochs above its last promise
  pub promises_rise : Bool
  -- it reports only to the epoch that it promised last
  pub promised_first : Bool
  -- a primary chooses a head once a majority has reported to it
  pub majority_reports : Bool
  -- no report of that majority has a greater stamp than the chosen head
  pub greatest_head : Bool
  -- it chooses once
  pub chosen_once : Bool
  -- a replica takes a head only above its own
  pub heads_rise : Bool
  -- it takes updates in order, without a gap
  pub in_order : Bool
  -- a primary becomes active once a majority has acknowledged the chosen head
  pub majority_has_head : Bool
  -- it becomes active once
  pub active_once : Bool
  -- it issues a write only when all before it are committed
  pub one_open : Bool
  -- and only one that its epoch doesn't have yet
  pub write_is_new : Bool
  -- it commits a write once a majority has acknowledged it
  pub majority_has_write : Bool
  -- only the current epoch chooses, becomes active, issues and commits
  pub current_acts : Bool

-- All of them.
abbrev pub every_rule : Rules
every_rule = record {
  drawn_once = true;
  promises_rise = true;
  promised_first = true;
  majority_reports = true;
  greatest_head = true;
  chosen_once = true;
  heads_rise = true;
  in_order = true;
  majority_has_head = true;
  active_once = true;
  one_open = true;
  write_is_new = true;
  majority_has_write = true;
  current_acts = true;
}

-- The condition, where the rule stands.
abbrev pub Under : Bool → Type 0 → Type 0
Under true condition = condition
Under false condition = Unit {0}

-- r has reported to e, and, where the rule `greatest` stands, no head above `found`.
abbrev pub HasReported : Bool → List Reported → Epoch → Head → ℕ → Type 0
HasReported greatest reports e found r =
    (h : Head) × Has (record { replica = r; epoch = e; head = h }) reports × Under greatest (AtMost (stamp_of h) (stamp_of found))

-- r has acknowledged this stamp or one above it.
abbrev pub HasAcknowledged : List Acknowledged → Stamp → ℕ → Type 0
HasAcknowledged acknowledged t r =
    (u : Stamp) × Has (record { replica = r; stamp = u }) acknowledged × AtMost t u

-- Whether a move may follow. What stands under no rule says what the move is.
abbrev pub Legal : Rules → List ℕ → State → Move → Type 0
-- A node draws above its own promise, and promises what it draws: that is a draw and a promise.
Legal rules members s (Draw e) = record {
  -- what was reported to an epoch that was drawn before may be older than the line
  new : Under rules.drawn_once (s.drawn e ≡ false);
}
Legal rules members s (Promise r e) = record {
  -- a majority that has promised an epoch keeps every lower one from being chosen after it
  above : Under rules.promises_rise (is_earlier (s.promised r) e ≡ true);
}
Legal rules members s (Report r e) = record {
  drawn : s.drawn e ≡ true;
  -- who has reported to an epoch has promised it
  promised : Under rules.promised_first (s.promised r ≡ e);
}
Legal rules members s (Choose e found) = record {
  current : Under rules.current_acts (s.current ≡ Some e);
  -- the heads of an epoch are fronts of one list
  first : Under rules.chosen_once (s.chosen e ≡ false);
  reported : (r : ℕ) × Has (record { replica = r; epoch = e; head = found }) s.reports;
  -- in any majority one replica has the whole line, and so has the greatest head
  greatest : Under rules.majority_reports (Majority members (HasReported rules.greatest_head s.reports e found));
}
-- A replica may refuse the heads and updates of all epochs but the one that it promised last. The line doesn't rest on that:
-- all acts of an epoch come before the next one is drawn, so what is taken late was never committed.
Legal rules members s (Take_head r t) = record {
  chosen : s.chosen t.epoch ≡ true;
  -- no shorter than the head that was chosen, and no longer than what was issued
  whole : length (s.base t.epoch) ≤ t.count;
  known : t.count ≤ length (writes_of s t.epoch);
  -- a replica keeps what it has acknowledged
  above : Under rules.heads_rise (Below (stamp_of (s.head r)) t);
}
Legal rules members s (Take_update r t) = record {
  same : (s.head r).epoch ≡ t.epoch;
  -- the replica has the writes before this one
  next : Under rules.in_order (suc (length (s.head r).writes) ≡ t.count);
  known : t.count ≤ length (writes_of s t.epoch);
}
Legal rules members s (Acknowledge r t) = record {
  reached : AtMost t (stamp_of (s.head r));
}
Legal rules members s (Activate e) = record {
  current : Under rules.current_acts (s.current ≡ Some e);
  chosen : s.chosen e ≡ true;
  first : Under rules.active_once (s.active e ≡ false);
  -- so the next primary finds what this one begins with
  acknowledged : Under rules.majority_has_head
      (Majority members (HasAcknowledged s.acknowledged (record { epoch = e; count = length (s.base e) })));
}
Legal rules members s (Issue e w) = record {
  current : Under rules.current_acts (s.current ≡ Some e);
  active : s.active e ≡ true;
  -- so the next primary finds at most one write that isn't committed, and its first act reports that one
  none_open : Under rules.one_open (s.committed e ≡ length (writes_of s e));
  new : Under rules.write_is_new (Has (name w) (map name (writes_of s e)) → ⊥);
}
Legal rules members s (Commit e) = record {
  current : Under rules.current_acts (s.current ≡ Some e);
  active : s.active e ≡ true;
  open_write : s.committed e < length (writes_of s e);
  -- so the next primary finds the write
  acknowledged : Under rules.majority_has_write
      (Majority members (HasAcknowledged s.acknowledged (record { epoch = e; count = suc (s.committed e) })));
}
Legal rules members s Lose = Unit {0}

-- Each of the moves, the first one first, is allowed when it comes.
abbrev pub AreLegal : Rules → List ℕ → State → List Move → Type 0
AreLegal rules members s [] = Unit {0}
AreLegal rules members s (m ∷ ms) = Legal rules members s m × AreLegal rules members (after s m) ms

-- What a version of the replica list begins with.
pub record Start : Type 0 where
  -- the epoch of every replica's head
  pub epoch : Epoch
  -- the file's line of writes so far, and what was issued after it and isn't committed
  pub line : List Write
  pub open_writes : List Write
  -- of a replica: the epoch that it has promised, and how many of these writes it has
  pub promised : ℕ → Epoch
  pub holds : ℕ → ℕ
  -- no epoch with this number or a smaller one is drawn from here on; and bodies of writes before that nodes may still have
  pub floor : ℕ
  pub old : List Body

-- Replicas may differ at the start, and some may have less than the line.
pub record IsStart (members : List ℕ) (start : Start) : Type 0 where
  pub at_most_one_open : length start.open_writes ≤ 1
  pub different : AreDistinct (map name (start.line ++ start.open_writes))
  -- a majority has the line, and has promised this epoch or one above it
  pub kept : Majority members (λ r. (length start.line ≤ start.holds r) × (is_earlier (start.promised r) start.epoch ≡ false))

-- The state at the start. The starting epoch counts as one that has issued all these writes, and may act no more.
abbrev pub begin : Start → State
begin start = record {
  promised = start.promised;
  head = λ r. record { epoch = start.epoch; writes = take (start.holds r) (start.line ++ start.open_writes) };
  drawn = λ e. is_epoch e start.epoch;
  chosen = λ e. is_epoch e start.epoch;
  base = λ e. [];
  active = λ e. is_epoch e start.epoch;
  log = at_epoch start.epoch (start.line ++ start.open_writes) (λ e. []);
  committed = λ e. length start.line;
  current = None;
  reports = [];
  acknowledged = [];
  acts = [];
}

-- The first version of a list begins with no write and no promise.
abbrev pub first_start : Start
first_start = record {
  epoch = record { number = 0; node = record { 0 = 0 } };
  line = [];
  open_writes = [];
  promised = λ r. record { number = 0; node = record { 0 = 0 } };
  holds = λ r. 0;
  floor = 0;
  old = [];
}

-- A history: moves from a start, each allowed when it comes.
pub record IsHistory (rules : Rules) (members : List ℕ) (start : Start) (moves : List Move) : Type 0 where
  pub begins : IsStart members start
  pub legal : AreLegal rules members (begin start) moves
