-- What a history says of a primary and of a message, and that it goes on to say so.
use Rattle.std.proofs.Common.{◌≡◌, ℕ, suc, ◌≤◌, ◌<◌, ◌⊎◌, true, false, List, [], ◌∷◌, ◌++◌, length, refl, sym, ap, ◌∙◌, subst, inl, inr, arith, append_assoc, append-nil, if◌then◌else◌, Option, Some, None}
use Rattle.std.specs.Prelude.{map}
use Rattle.replica_safety.specs.Epochs.{Epoch, Stamp, Write}
use Rattle.replica_safety.specs.Lists.{Has}
use Rattle.replica_safety.specs.Protocol.{Reported, Acknowledged, State, writes_of, Move, Draw, Report, Choose, Acknowledge, Issue, after}
use Rattle.replica_safety.specs.Rules.{every_rule, Legal, Start, HasAcknowledged}
use Rattle.replica_safety.proofs.Lists.{IsFront}
use Rattle.replica_runs.specs.World.{Counted, Primary, Idle, Gathering, Installing, Active, epoch_of, Message, Gather, Status, Install, Update, Ack, Piece, issued_writes}
use Rattle.replica_runs.specs.FileHeads.{Body}
use Rattle.replica_runs.proofs.Tools.{same_place, true_false, by_epoch, some_node, put_true}

-- a primary
pub record GatheringFits (s : State) (holder : Option ℕ) (n : ℕ) (e : Epoch) (counted : List Counted) : Type 0 where
  pub held : holder ≡ Some n
  pub current : s.current ≡ Some e
  pub free : s.chosen e ≡ false
  pub told : (x : Counted) → Has x counted → Has (record { replica = x.replica; epoch = e; head = x.head }) s.reports

pub record InstallingFits (s : State) (holder : Option ℕ) (n : ℕ) (e : Epoch) (ws : List Write) (acked : List ℕ) : Type 0 where
  pub held : holder ≡ Some n
  pub current : s.current ≡ Some e
  pub chosen : s.chosen e ≡ true
  pub idle : s.active e ≡ false
  pub base_is : s.base e ≡ ws
  pub told : (r : ℕ) → Has r acked → HasAcknowledged s.acknowledged (record { epoch = e; count = length ws }) r

pub record ActiveFits (s : State) (holder : Option ℕ) (n : ℕ) (e : Epoch) (ws : List Write) (issued : Option Write) (acked : List ℕ) : Type 0 where
  pub held : holder ≡ Some n
  pub current : s.current ≡ Some e
  pub active : s.active e ≡ true
  pub count : s.committed e ≡ length ws
  pub writes : s.base e ++ s.log e ≡ ws ++ issued_writes issued
  pub stamped : (v : Write) → issued ≡ Some v → v.stamp ≡ record { epoch = e; count = suc (length ws) }
  pub told : (r : ℕ) → Has r acked → HasAcknowledged s.acknowledged (record { epoch = e; count = suc (length ws) }) r

abbrev pub PrimaryFits : State → Option ℕ → ℕ → Primary → Type 0
PrimaryFits s holder n Idle = Unit {0}
PrimaryFits s holder n (Gathering e counted) = GatheringFits s holder n e counted
PrimaryFits s holder n (Installing e ws acked) = InstallingFits s holder n e ws acked
PrimaryFits s holder n (Active e ws issued acked) = ActiveFits s holder n e ws issued acked

-- who leads holds the lease, in the current epoch
pub leads_current : (s : State) (h : Option ℕ) (n : ℕ) (p : Primary) (e : Epoch) → epoch_of p ≡ Some e → PrimaryFits s h n p → s.current ≡ Some e
leads_current s h n Idle e q f = absurd cc
leads_current s h n (Gathering d counted) e q f = f.current ∙ q
leads_current s h n (Installing d ws acked) e q f = f.current ∙ q
leads_current s h n (Active d ws issued acked) e q f = f.current ∙ q

pub leads_held : (s : State) (h : Option ℕ) (n : ℕ) (p : Primary) (e : Epoch) → epoch_of p ≡ Some e → PrimaryFits s h n p → h ≡ Some n
leads_held s h n Idle e q f = absurd cc
leads_held s h n (Gathering d counted) e q f = f.held
leads_held s h n (Installing d ws acked) e q f = f.held
leads_held s h n (Active d ws issued acked) e q f = f.held

-- every other primary is idle, and stays so whatever happens
pub idle_else : (s s2 : State) (h h2 : Option ℕ) (n m : ℕ) (p : Primary) → h ≡ Some n → (m ≡ n → ⊥) → PrimaryFits s h m p → PrimaryFits s2 h2 m p
idle_else s s2 h h2 n m Idle held ne f = tt
idle_else s s2 h h2 n m (Gathering e counted) held ne f = absurd (ne (some_node (sym f.held ∙ held)))
idle_else s s2 h h2 n m (Installing e ws acked) held ne f = absurd (ne (some_node (sym f.held ∙ held)))
idle_else s s2 h h2 n m (Active e ws issued acked) held ne f = absurd (ne (some_node (sym f.held ∙ held)))

-- where nobody holds, all are idle
pub idle_all : (s s2 : State) (h h2 : Option ℕ) (m : ℕ) (p : Primary) → h ≡ None → PrimaryFits s h m p → PrimaryFits s2 h2 m p
idle_all s s2 h h2 m Idle none f = tt
idle_all s s2 h h2 m (Gathering e counted) none f = absurd (cc (f.held, none))
idle_all s s2 h h2 m (Installing e ws acked) none f = absurd (cc (f.held, none))
idle_all s s2 h h2 m (Active e ws issued acked) none f = absurd (cc (f.held, none))

-- what a replica's move leaves
pub record Steady (s s2 : State) : Type 0 where
  pub current : s2.current ≡ s.current
  pub chosen : s2.chosen ≡ s.chosen
  pub active : s2.active ≡ s.active
  pub base : s2.base ≡ s.base
  pub log : s2.log ≡ s.log
  pub committed : s2.committed ≡ s.committed
  pub reports : (x : Reported) → Has x s.reports → Has x s2.reports
  pub acknowledged : (x : Acknowledged) → Has x s.acknowledged → Has x s2.acknowledged

pub primary_steady : (s s2 : State) → Steady s s2 → (h : Option ℕ) (n : ℕ) (p : Primary) → PrimaryFits s h n p → PrimaryFits s2 h n p
primary_steady s s2 k h n Idle f = tt
primary_steady s s2 k h n (Gathering e counted) f = record {
  held = f.held;
  current = k.current ∙ f.current;
  free = ap (λ c. c e) k.chosen ∙ f.free;
  told = λ x has. k.reports _ (f.told x has);
}
primary_steady s s2 k h n (Installing e ws acked) f = record {
  held = f.held;
  current = k.current ∙ f.current;
  chosen = ap (λ c. c e) k.chosen ∙ f.chosen;
  idle = ap (λ c. c e) k.active ∙ f.idle;
  base_is = ap (λ c. c e) k.base ∙ f.base_is;
  told = λ r has. let t = f.told r has in (t.0, k.acknowledged _ t.1, t.2);
}
primary_steady s s2 k h n (Active e ws issued acked) f = record {
  held = f.held;
  current = k.current ∙ f.current;
  active = ap (λ c. c e) k.active ∙ f.active;
  count = ap (λ c. c e) k.committed ∙ f.count;
  writes = ap (λ c. c e ++ s2.log e) k.base ∙ ap (λ c. s.base e ++ c e) k.log ∙ f.writes;
  stamped = f.stamped;
  told = λ r has. let t = f.told r has in (t.0, k.acknowledged _ t.1, t.2);
}

-- a message
pub record InstallFits (s : State) (e : Epoch) (ws : List Write) : Type 0 where
  pub chosen : s.chosen e ≡ true
  pub whole : length (s.base e) ≤ length ws
  pub front : IsFront ws (writes_of s e)

pub record UpdateFits (s : State) (w : Write) : Type 0 where
  pub chosen : s.chosen w.stamp.epoch ≡ true
  pub whole : length (s.base w.stamp.epoch) ≤ w.stamp.count
  pub before : List Write
  pub later : List Write
  pub is : before ++ w ∷ later ≡ writes_of s w.stamp.epoch
  pub place : suc (length before) ≡ w.stamp.count

pub record AckFits (s : State) (r : ℕ) (t : Stamp) : Type 0 where
  pub chosen : s.chosen t.epoch ≡ true
  pub whole : length (s.base t.epoch) ≤ t.count
  pub has : Has (record { replica = r; stamp = t }) s.acknowledged

-- an update: this version took it over, or it was issued in a later epoch
abbrev pub IsKnown : Start → State → Write → Type 0
IsKnown start s u = Has u (start.line ++ start.open_writes) ⊎ (UpdateFits s u × (start.floor < u.stamp.epoch.number))

-- a body: it is that of a known update, or one of a write before this version
pub record IsBodyOfKnown (start : Start) (s : State) (b : Body) : Type 0 where
  pub update : Write
  pub fits : IsKnown start s update
  pub is_object : update.object ≡ b.object
  pub is_version : update.stamp ≡ b.version
  pub is_bytes : update.body ≡ b.bytes

abbrev pub BodyFits : Start → State → Body → Type 0
BodyFits start s b = IsBodyOfKnown start s b ⊎ Has b start.old

abbrev pub Justified : Start → State → Message → Type 0
Justified start s (Gather e) = s.drawn e ≡ true
Justified start s (Status r e h) = Has (record { replica = r; epoch = e; head = h }) s.reports
Justified start s (Install e ws) = InstallFits s e ws
Justified start s (Update w) = UpdateFits s w
Justified start s (Ack r t) = AckFits s r t
Justified start s (Piece b) = BodyFits start s b

-- what only grows
pub record Grows (s s2 : State) : Type 0 where
  pub drawn : (e : Epoch) → s.drawn e ≡ true → s2.drawn e ≡ true
  pub chosen : (e : Epoch) → s.chosen e ≡ true → s2.chosen e ≡ true
  pub base : (e : Epoch) → s.chosen e ≡ true → s2.base e ≡ s.base e
  pub log : (e : Epoch) → IsFront (s.log e) (s2.log e)
  pub reports : (x : Reported) → Has x s.reports → Has x s2.reports
  pub acknowledged : (x : Acknowledged) → Has x s.acknowledged → Has x s2.acknowledged

pub grows_self : (s : State) → Grows s s
grows_self s = record {
  drawn = λ e h. h;
  chosen = λ e h. h;
  base = λ e h. refl;
  log = λ e. ([], append-nil (s.log e));
  reports = λ x h. h;
  acknowledged = λ x h. h;
}

pub grows_on : (s s2 s3 : State) → Grows s s2 → Grows s2 s3 → Grows s s3
grows_on s s2 s3 f g = record {
  drawn = λ e h. g.drawn e (f.drawn e h);
  chosen = λ e h. g.chosen e (f.chosen e h);
  base = λ e h. g.base e (f.chosen e h) ∙ f.base e h;
  log = λ e. ((f.log e).0 ++ (g.log e).0, sym (append_assoc (s.log e) (f.log e).0 (g.log e).0) ∙ ap (λ l. l ++ (g.log e).0) (f.log e).1 ∙ (g.log e).1);
  reports = λ x h. g.reports x (f.reports x h);
  acknowledged = λ x h. g.acknowledged x (f.acknowledged x h);
}

pub grows : (members : List ℕ) (s : State) (m : Move) → Legal every_rule members s m → Grows s (after s m)
grows members s (Draw e) legal = record {
  drawn = λ d h. put_true e s.drawn d h;
  chosen = λ e h. h;
  base = λ e h. refl;
  log = λ e. ([], append-nil (s.log e));
  reports = λ x h. h;
  acknowledged = λ x h. h;
}
grows members s (Report r e) legal = record {
  drawn = λ e h. h;
  chosen = λ e h. h;
  base = λ e h. refl;
  log = λ e. ([], append-nil (s.log e));
  reports = λ x h. inr h;
  acknowledged = λ x h. h;
}
grows members s (Choose e found) legal = record {
  drawn = λ e h. h;
  chosen = λ d h. put_true e s.chosen d h;
  base = λ d h. by_epoch (λ b. (if b then found.writes else s.base d) ≡ s.base d) d e
      (λ p. true_false h (subst (λ x. s.chosen x ≡ false) (sym p) legal.first)) (λ _. refl);
  log = λ e. ([], append-nil (s.log e));
  reports = λ x h. h;
  acknowledged = λ x h. h;
}
grows members s (Acknowledge r t) legal = record {
  drawn = λ e h. h;
  chosen = λ e h. h;
  base = λ e h. refl;
  log = λ e. ([], append-nil (s.log e));
  reports = λ x h. h;
  acknowledged = λ x h. inr h;
}
grows members s (Issue e w) legal = record {
  drawn = λ e h. h;
  chosen = λ e h. h;
  base = λ e h. refl;
  log = λ d. by_epoch (λ b. IsFront (s.log d) (if b then s.log e ++ w ∷ [] else s.log d)) d e
      (λ p. (w ∷ [], ap (λ x. s.log x ++ w ∷ []) p)) (λ _. ([], append-nil (s.log d)));
  reports = λ x h. h;
  acknowledged = λ x h. h;
}
grows members s m legal = record {
  drawn = λ e h. h;
  chosen = λ e h. h;
  base = λ e h. refl;
  log = λ e. ([], append-nil (s.log e));
  reports = λ x h. h;
  acknowledged = λ x h. h;
}

pub writes_grow : (s s2 : State) → Grows s s2 → (e : Epoch) → s.chosen e ≡ true → IsFront (writes_of s e) (writes_of s2 e)
writes_grow s s2 g e h = ((g.log e).0, append_assoc (s.base e) (s.log e) (g.log e).0 ∙ ap (λ l. s.base e ++ l) (g.log e).1 ∙ ap (λ b. b ++ s2.log e) (sym (g.base e h)))

pub update_grows : (s s2 : State) → Grows s s2 → (w : Write) → UpdateFits s w → UpdateFits s2 w
update_grows s s2 g w j = let more = writes_grow s s2 g w.stamp.epoch j.chosen in record {
  chosen = g.chosen w.stamp.epoch j.chosen;
  whole = subst (λ b. length b ≤ w.stamp.count) (sym (g.base w.stamp.epoch j.chosen)) j.whole;
  before = j.before;
  later = j.later ++ more.0;
  is = sym (append_assoc j.before (w ∷ j.later) more.0) ∙ ap (λ l. l ++ more.0) j.is ∙ more.1;
  place = j.place;
}

pub known_grows : (start : Start) (s s2 : State) → Grows s s2 → (w : Write) → IsKnown start s w → IsKnown start s2 w
known_grows start s s2 g w (inl h) = inl h
known_grows start s s2 g w (inr h) = inr (update_grows s s2 g w h.0, h.1)

pub body_grows : (start : Start) (s s2 : State) → Grows s s2 → (b : Body) → BodyFits start s b → BodyFits start s2 b
body_grows start s s2 g b (inr h) = inr h
body_grows start s s2 g b (inl j) = inl (record { update = j.update; fits = known_grows start s s2 g j.update j.fits; is_object = j.is_object; is_version = j.is_version; is_bytes = j.is_bytes })

pub justified_grows : (start : Start) (s s2 : State) → Grows s s2 → (m : Message) → Justified start s m → Justified start s2 m
justified_grows start s s2 g (Gather e) j = g.drawn e j
justified_grows start s s2 g (Status r e h) j = g.reports _ j
justified_grows start s s2 g (Install e ws) j = record {
  chosen = g.chosen e j.chosen;
  whole = subst (λ b. length b ≤ length ws) (sym (g.base e j.chosen)) j.whole;
  front = let more = writes_grow s s2 g e j.chosen in (j.front.0 ++ more.0, sym (append_assoc ws j.front.0 more.0) ∙ ap (λ l. l ++ more.0) j.front.1 ∙ more.1);
}
justified_grows start s s2 g (Update w) j = update_grows s s2 g w j
justified_grows start s s2 g (Piece b) j = body_grows start s s2 g b j
justified_grows start s s2 g (Ack r t) j = record {
  chosen = g.chosen t.epoch j.chosen;
  whole = subst (λ b. length b ≤ t.count) (sym (g.base t.epoch j.chosen)) j.whole;
  has = g.acknowledged _ j.has;
}

-- one stamp is of one update
pub one_update : (s : State) (u v : Write) → UpdateFits s u → UpdateFits s v → u.stamp ≡ v.stamp → u ≡ v
one_update s u v f g same = same_place f.before g.before u v f.later g.later (f.is ∙ ap (λ t. writes_of s t.epoch) same ∙ sym g.is)
    (omega (arith, f.place, g.place, ap (λ (t : Stamp). t.count) same))

-- what is known at the start is apart from what was issued since
pub record Apart (start : Start) : Type 0 where
  pub older : (u : Write) → Has u (start.line ++ start.open_writes) → u.stamp.epoch.number ≤ start.floor
  pub apart : (u v : Write) → Has u (start.line ++ start.open_writes) → Has v (start.line ++ start.open_writes) → u.stamp ≡ v.stamp → u ≡ v
  pub old_older : (b : Body) → Has b start.old → b.version.epoch.number ≤ start.floor
  pub old_right : (b : Body) (u : Write) → Has b start.old → Has u (start.line ++ start.open_writes) → u.stamp ≡ b.version → u.body ≡ b.bytes

pub one_known : (start : Start) (s : State) (u v : Write) → Apart start → IsKnown start s u → IsKnown start s v → u.stamp ≡ v.stamp → u ≡ v
one_known start s u v a (inl h) (inl k) same = a.apart u v h k same
one_known start s u v a (inl h) (inr k) same = absurd (omega (arith, a.older u h, k.1, ap (λ (t : Stamp). t.epoch.number) same))
one_known start s u v a (inr h) (inl k) same = absurd (omega (arith, a.older v k, h.1, ap (λ (t : Stamp). t.epoch.number) same))
one_known start s u v a (inr h) (inr k) same = one_update s u v h.0 k.0 same

-- what is there at a start: bodies of writes before
pub old_pieces : (start : Start) (s : State) (bs : List Body) → ((b : Body) → Has b bs → Has b start.old) → (m : Message) → Has m (map Piece bs) → Justified start s m
old_pieces start s [] all m h = absurd h
old_pieces start s (b ∷ bs) all m (inl p) = subst (Justified start s) (sym p) (inr (all b (inl refl)))
old_pieces start s (b ∷ bs) all m (inr h) = old_pieces start s bs (λ c k. all c (inr k)) m h

pub no_updates : (bs : List Body) (v : Write) → Has (Update v) (map Piece bs) → ⊥
no_updates [] v h = h
no_updates (b ∷ bs) v (inl p) = cc
no_updates (b ∷ bs) v (inr h) = no_updates bs v h
