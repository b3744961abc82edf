-- When a world of heads stands for a world of writes.
use Rattle.std.proofs.Common.{◌≡◌, ℕ, ◌≤◌, Bool, true, false, List, [], ◌∷◌, length, refl, sym, ap, ◌∙◌, subst, subst₂, inl, inr, arith, if◌then◌else◌, ◌==◌, ◌||◌, Option, Some, None}
use Rattle.std.specs.Prelude.{map, count_by, cond, is_some}
use Rattle.std.proofs.lemmas.Bool.Decides.{nat_tests}
use Rattle.std.proofs.lemmas.List.Sums.{sum_by-cons}
use Rattle.xt_base.specs.declared.ids.Epoch.{Epoch}
use Rattle.xt_messages.specs.declared.file.FileHead.{FileHead}
use Rattle.xt_messages.specs.declared.file.Op.{Op}
use Rattle.xt_messages.specs.declared.file.Update.{Update}
use Rattle.xt_protocol.specs.Heads.{new_head, head_after}
use Rattle.replica_safety.specs.Epochs.{Head, AtMost, stamp_of, at_node, name}
use Rattle.replica_safety.specs.Lists.{Has}
use Rattle.replica_safety.specs.Protocol.{Activated, Issued, Committed, last_write}
use Rattle.replica_safety.specs.Rules.{Start}
use Rattle.replica_runs.specs.FileHeads.{Body, folded, head_of}
use Rattle.replica_runs.specs.HeadSteps.{IsChosen, target_of, last_id}
use Rattle.replica_runs.specs.HeadWorld.{Primary, Idle, Gathering, Installing, Active, leads_in, Node, Message, Gather, Status, UpdateSent, Ack, Piece, Entry, TellsActive, TellsIssue, TellsCommit, ReadOk, WriteOk, World, Local, local, put, BodiesAre}
use Rattle.replica_runs.specs.HeadWorld as heads
use Rattle.replica_runs.specs.Made.{size_of, IsMade}
use Rattle.replica_runs.specs.World.{Counted, IsMost, among, counted_from, epoch_of}
use Rattle.replica_runs.specs.World as world
use Rattle.replica_runs.proofs.Good.{IsGood}
use Rattle.replica_runs.proofs.HeldVersions.{same_bodies}
use Rattle.replica_runs.proofs.Tools.{true_false, by_node, by_test}

-- the statuses are those that the other world has counted
pub record GatheringStands (e : Epoch) (statuses : ℕ → Option FileHead) (counted : List Counted) : Type 0 where
  pub same : (m : ℕ) (h : FileHead) → statuses m ≡ Some h → (c : Counted) × Has c counted × (c.replica ≡ m) × (h ≡ head_of e c.head.epoch c.head.writes)
  pub all : (c : Counted) → Has c counted → statuses c.replica ≡ Some (head_of e c.head.epoch c.head.writes)

pub record InstallingStands (e : Epoch) (chosen : FileHead) (acked : ℕ → Bool) (ws : List Update) (acks : List ℕ) : Type 0 where
  pub is_target : target_of e chosen ≡ head_of e e ws
  pub counted : (m : ℕ) → acked m ≡ true → among m acks ≡ true

-- a committed head is that of the writes, whatever was promised since
pub record ActiveStands (committed : FileHead) (acked : ℕ → Bool) (ws : List Update) (acks : List ℕ) : Type 0 where
  pub promised : Epoch
  pub own : Epoch
  pub is_committed : committed ≡ head_of promised own ws
  pub counted : (m : ℕ) → acked m ≡ true → among m acks ≡ true

abbrev pub Stands : Primary → world.Primary → Type 0
Stands Idle q = q ≡ world.Idle
Stands (Gathering e statuses) q = (counted : List Counted) × (q ≡ world.Gathering e counted) × GatheringStands e statuses counted
Stands (Installing e chosen acked) q = (ws : List Update) × (acks : List ℕ) × (q ≡ world.Installing e ws acks) × InstallingStands e chosen acked ws acks
Stands (Active e c issued acked) q = (ws : List Update) × (acks : List ℕ) × (q ≡ world.Active e ws issued acks) × ActiveStands c acked ws acks

-- the head of a node of the other world
abbrev pub head_at : world.Node → FileHead
head_at y = head_of y.promised y.head.epoch y.head.writes

pub record NodeStands (x : Node) (y : world.Node) (held : List Body) : Type 0 where
  pub head : x.kept.head ≡ head_at y
  pub bodies : BodiesAre x.kept x.body held
  pub primary : Stands x.primary y.primary

abbrev pub MessageStands : List world.Message → Message → Type 0
MessageStands ms (Gather e) = Has (world.Gather e) ms
MessageStands ms (Status r e h) = (d : Epoch) × (us : List Update) × Has (world.Status r e (record { epoch = d; writes = us })) ms × (h ≡ head_of e d us)
-- a head counts only under its own epoch
MessageStands ms (heads.Head e h) = (h.promised ≡ e) → (h.stamp.epoch ≡ e) → (us : List Update) × Has (world.Install e us) ms × (h ≡ head_of e e us)
MessageStands ms (UpdateSent u) = Has (world.Update u) ms
MessageStands ms (Ack r t) = Has (world.Ack r t) ms
MessageStands ms (Piece o v bytes) = Has (world.Piece (record { object = o; version = v; bytes = bytes })) ms

-- how an entry reports a mark
abbrev pub entry_of : world.Mark → Entry
entry_of (world.Told n (Activated count w)) = TellsActive n count (name w)
entry_of (world.Told n (Issued count w)) = TellsIssue n count (name w)
entry_of (world.Told n (Committed count w)) = TellsCommit n count (name w)
entry_of (world.ShowsRead n ws object body) = ReadOk n (length ws) (size_of ws) object body
entry_of (world.ShowsWrite n place id) = WriteOk n place id

pub record Stand (w : World) (v : world.World) : Type 0 where
  pub nodes : (r : ℕ) → NodeStands (w.nodes r) (v.nodes r) (v.held r)
  pub holder : w.holder ≡ v.holder
  pub sent : (m : Message) → Has m w.sent → MessageStands v.messages m
  pub entries : w.entries ≡ map entry_of v.marks

-- the world stands for a good one
pub record IsReached (stripe : ℕ) (ops : ℕ × ℕ → Op) (members : List ℕ) (start : Start) (w : World) : Type 0 where
  pub world : world.World
  pub good : IsGood (IsMade stripe ops) members start world
  pub stand : Stand w world

-- ---- messages

pub more_stands : (ms ms2 : List world.Message) → ((x : world.Message) → Has x ms → Has x ms2) → (m : Message) → MessageStands ms m → MessageStands ms2 m
more_stands ms ms2 f (Gather e) s = f _ s
more_stands ms ms2 f (Status r e h) s = (s.0, s.1, f _ s.2, s.3)
more_stands ms ms2 f (heads.Head e h) s = λ p q. let t : (us : List Update) × Has (world.Install e us) ms × (h ≡ head_of e e us) = s p q in (t.0, f _ t.1, t.2)
more_stands ms ms2 f (UpdateSent u) s = f _ s
more_stands ms ms2 f (Ack r t) s = f _ s
more_stands ms ms2 f (Piece o v bytes) s = f _ s

-- one message more on both sides
pub one_more : (x : world.Message) (ms : List world.Message) (new : Message) (old : List Message) → ((m : Message) → Has m old → MessageStands ms m)
    → MessageStands (x ∷ ms) new → (m : Message) → Has m (new ∷ old) → MessageStands (x ∷ ms) m
one_more x ms new old all s m (inl p) = subst (MessageStands (x ∷ ms)) (sym p) s
one_more x ms new old all s m (inr h) = more_stands ms (x ∷ ms) (λ y g. inr g) m (all m h)

-- ---- nodes

-- another state of one node
pub moved : (w : World) (v v2 : world.World) (n : ℕ) (l : Local) (y : world.Node) (h : List Body)
    → ((r : ℕ) → v2.nodes r ≡ at_node n y v.nodes r) → ((r : ℕ) → v2.held r ≡ at_node n h v.held r) → l.holder ≡ v2.holder → NodeStands l.node y h
    → ((m : Message) → Has m l.sent → MessageStands v2.messages m) → l.entries ≡ map entry_of v2.marks → Stand w v → Stand (put w n l) v2
moved w v v2 n l y h nodes held holder there sent entries s = record {
  nodes = λ r. subst₂ (λ (z : world.Node) (hs : List Body). NodeStands (at_node n l.node w.nodes r) z hs) (sym (nodes r)) (sym (held r))
      (by_node (λ b. NodeStands (if b then l.node else w.nodes r) (if b then y else v.nodes r) (if b then h else v.held r)) r n (λ _. there) (λ _. s.nodes r));
  holder = holder;
  sent = sent;
  entries = entries;
}

-- a node whose row or primary changes, its bodies not
pub with_head : (x x2 : Node) (y2 : world.Node) (held : List Body) → x2.kept.head ≡ head_at y2 → x2.kept.held ≡ x.kept.held → x2.body ≡ x.body
    → Stands x2.primary y2.primary → BodiesAre x.kept x.body held → NodeStands x2 y2 held
with_head x x2 y2 held head same body primary are = record {
  head = head;
  bodies = subst (λ b. BodiesAre x2.kept b held) (sym body) (same_bodies x.kept x2.kept x.body held same are);
  primary = primary;
}

-- ---- primaries

pub gathering : (p : Primary) (q : world.Primary) (e : Epoch) (statuses : ℕ → Option FileHead) → p ≡ Gathering e statuses → Stands p q
    → (counted : List Counted) × (q ≡ world.Gathering e counted) × GatheringStands e statuses counted
gathering p q e statuses is s = subst (λ z. Stands z q) is s

pub installing : (p : Primary) (q : world.Primary) (e : Epoch) (chosen : FileHead) (acked : ℕ → Bool) → p ≡ Installing e chosen acked → Stands p q
    → (ws : List Update) × (acks : List ℕ) × (q ≡ world.Installing e ws acks) × InstallingStands e chosen acked ws acks
installing p q e chosen acked is s = subst (λ z. Stands z q) is s

pub active : (p : Primary) (q : world.Primary) (e : Epoch) (c : FileHead) (issued : Option Update) (acked : ℕ → Bool) → p ≡ Active e c issued acked → Stands p q
    → (ws : List Update) × (acks : List ℕ) × (q ≡ world.Active e ws issued acks) × ActiveStands c acked ws acks
active p q e c issued acked is s = subst (λ z. Stands z q) is s

pub leads_too : (p : Primary) (q : world.Primary) (e : Epoch) → leads_in p ≡ Some e → Stands p q → epoch_of q ≡ Some e
leads_too Idle q e is st = absurd cc
leads_too (Gathering d statuses) q e is st = ap epoch_of st.1 ∙ is
leads_too (Installing d chosen acked) q e is st = ap epoch_of st.2 ∙ is
leads_too (Active d c issued acked) q e is st = ap epoch_of st.2 ∙ is

-- one acknowledgement more
pub one_acked : (acked : ℕ → Bool) (acks : List ℕ) (r : ℕ) → ((m : ℕ) → acked m ≡ true → among m acks ≡ true) → (m : ℕ)
    → (if m == r then true else acked m) ≡ true → among m (r ∷ acks) ≡ true
one_acked acked acks r counted m = by_node (λ b. (if b then true else acked m) ≡ true → ((r == m) || among m acks) ≡ true) m r
    (λ p _. by_node (λ b. (b || among m acks) ≡ true) r m (λ _. refl) (λ ne. absurd (ne (sym p))))
    (λ _ k. by_test (λ b. (b || among m acks) ≡ true) (r == m) (λ _. refl) (λ _. counted m k))

-- ---- majorities

-- more pass a test that asks for less
pub more_pass : (p q : ℕ → Bool) → ((m : ℕ) → p m ≡ true → q m ≡ true) → (ms : List ℕ) → count_by p ms ≤ count_by q ms
more_pass p q f [] = omega arith
more_pass p q f (m ∷ ms) = go (p m) refl (q m) refl (more_pass p q f ms)
  where
    go : (a : Bool) → p m ≡ a → (b : Bool) → q m ≡ b → count_by p ms ≤ count_by q ms → count_by p (m ∷ ms) ≤ count_by q (m ∷ ms)
    go true e true d rest = grind (arith, nat_tests, sum_by-cons (λ x. cond (p x) 1 0) m ms, sum_by-cons (λ x. cond (q x) 1 0) m ms)
    go true e false d rest = true_false (f m e) d
    go false e b d rest = grind (arith, nat_tests, sum_by-cons (λ x. cond (p x) 1 0) m ms, sum_by-cons (λ x. cond (q x) 1 0) m ms)

pub most_more : (members : List ℕ) (p q : ℕ → Bool) → ((m : ℕ) → p m ≡ true → q m ≡ true) → IsMost members p → IsMost members q
most_more members p q f most = omega (arith, most, more_pass p q f members)

-- the choice may be the other world's
pub record WorldChoice (members : List ℕ) (e : Epoch) (counted : List Counted) (source : ℕ) (h : FileHead) : Type 0 where
  pub found : Head
  pub most : IsMost members (λ m. counted_from m counted)
  pub one : Has (record { replica = source; head = found }) counted
  pub greatest : (c : Counted) → Has c counted → AtMost (stamp_of c.head) (stamp_of found)
  pub is_target : target_of e h ≡ head_of e e found.writes

has_counted : (c : Counted) (cs : List Counted) → Has c cs → counted_from c.replica cs ≡ true
has_counted c [] h = absurd h
has_counted c (d ∷ cs) (inl p) = subst (λ (x : Counted). ((d.replica == x.replica) || counted_from x.replica cs) ≡ true) (sym p) (one (d.replica) (counted_from d.replica cs))
  where
    one : (a : ℕ) (b : Bool) → ((a == a) || b) ≡ true
    one a b = by_node (λ t. (t || b) ≡ true) a a (λ _. refl) (λ ne. absurd (ne refl))
has_counted c (d ∷ cs) (inr h) = by_test (λ t. (t || counted_from c.replica cs) ≡ true) (d.replica == c.replica) (λ _. refl) (λ _. has_counted c cs h)

pub world_choice : (members : List ℕ) (e : Epoch) (statuses : ℕ → Option FileHead) (counted : List Counted) (source : ℕ) (h : FileHead)
    → GatheringStands e statuses counted → IsChosen members statuses source h → WorldChoice members e counted source h
world_choice members e statuses counted source h stands chosen = at (stands.same source h chosen.one)
  where
    heard : (m : ℕ) → is_some (statuses m) ≡ true → counted_from m counted ≡ true
    heard m s = go (statuses m) refl s
      where
        go : (o : Option FileHead) → statuses m ≡ o → is_some o ≡ true → counted_from m counted ≡ true
        go None q p = absurd cc
        go (Some g) q p = let c = stands.same m g q in subst (λ k. counted_from k counted ≡ true) c.2 (has_counted c.0 counted c.1)

    at : (c : Counted) × Has c counted × (c.replica ≡ source) × (h ≡ head_of e c.head.epoch c.head.writes) → WorldChoice members e counted source h
    at c = record {
      found = c.0.head;
      most = most_more members (λ m. is_some (statuses m)) (λ m. counted_from m counted) heard chosen.most;
      one = subst (λ k. Has (record { replica = k; head = c.0.head }) counted) c.2 c.1;
      greatest = λ d has. subst (λ (g : FileHead). AtMost (stamp_of d.head) g.stamp) c.3 (chosen.greatest d.replica (head_of e d.head.epoch d.head.writes) (stands.all d has));
      is_target = ap (target_of e) c.3;
    }

-- ---- the last write's name

last_name : (head : FileHead) (us : List Update) (u : Update) → last_id (folded head (u ∷ us)) ≡ name (last_write (u ∷ us))
last_name head [] u = refl
last_name head (v ∷ us) u = last_name (head_after head u) us v

pub head_name : (promised e : Epoch) (us : List Update) → last_id (head_of promised e us) ≡ name (last_write us)
head_name promised e [] = refl
head_name promised e (u ∷ us) = last_name new_head us u
