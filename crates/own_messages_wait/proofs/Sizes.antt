-- no head has more than `OBJECTS` versions: those of a primary's rows
use Rattle.std.proofs.Common.{◌≡◌, ℕ, ◌≤◌, inl, inr, Bool, true, false, List, [], ◌∷◌, ◌++◌, map, length, refl, sym, ap, subst, ◌∙◌, Option, Some, None, flat_map}
use Rattle.std.specs.Prelude.{◌&&◌, not, cond, ◌==◌, max, nat_lt, nat_le, fold}
use Rattle.std.specs.List.{cons_option}
use Rattle.xt_base.specs.declared.ids.NodeId.{NodeId}
use Rattle.xt_base.specs.declared.ids.FileId.{FileId}
use Rattle.xt_base.specs.declared.ids.Epoch.{Epoch}
use Rattle.xt_base.specs.declared.ids.Stamp.{Stamp}
use Rattle.xt_messages.specs.declared.file.FileHead.{FileHead}
use Rattle.xt_messages.specs.declared.file.ObjectVersion.{ObjectVersion}
use Rattle.xt_messages.specs.declared.message.Msg.{Msg}
use Rattle.xt_messages.specs.declared.message.Payload.{Payload}
use Rattle.xt_messages.specs.declared.message.Payload.TheVariants as payload
use Rattle.xt_messages.specs.declared.record.FileRow.{FileRow}
use Rattle.xt_messages.specs.declared.record.Record.{Record}
use Rattle.xt_messages.specs.declared.record.Record.TheVariants as kept
use Rattle.xt_base.specs.declared.TheConstants.{OBJECTS, COUNTS}
use Rattle.xt_protocol.specs.Folds.{body_of}
use Rattle.xt_protocol.specs.Stamps.{is_epoch, is_earlier, is_below, is_version, has_version, with_held}
use Rattle.lease_safety.specs.State.{Has}
use Rattle.xt_protocol.specs.declared.states.Place.{Place}
use Rattle.xt_protocol.specs.declared.states.IssuedUpdate.{IssuedUpdate}
use Rattle.xt_protocol.specs.declared.states.Peer.{Peer}
use Rattle.xt_protocol.specs.declared.states.PeerState.{PeerState}
use Rattle.xt_protocol.specs.declared.states.PeerState.TheVariants as peer
use Rattle.xt_protocol.specs.declared.states.Progress.{Progress}
use Rattle.xt_protocol.specs.declared.states.Progress.TheVariants as progress
use Rattle.xt_protocol.specs.declared.states.Tenure.{Tenure}
use Rattle.xt_protocol.specs.Turns.{message}
use Rattle.xt_protocol.specs.ReplicaRows.{kept_after, stage_record}
use Rattle.xt_protocol.specs.Choice.{chosen_of, is_better, difference}
use Rattle.xt_protocol.specs.Primaries.{Ground, Led, carries, fed, fed_next, if_any, is_unknown, known_of_own, known_of_report, last_sent, majority_among, nodes_of, peer_in, report_of, reports_of, statuses_counted, target_of, unknown_peer, with_node, with_peer}
use Rattle.xt_protocol.specs.PrimaryRows.{after_keeping, epoch_above, draw_epoch, feed_peer, feed_peers, installs, fetches, choose_head, chooses, status_counted, with_state, feeds, take_status, body_beyond, hears_object, target_in, body_staged, body_missed, hears_missing, committed, acked_below, hears_ack, makes_current, forgotten, peer_behind, message_epoch, hears_peer, hears_member, hears_epoch, hears_in, unmoved}

-- ---- what is small

abbrev pub IsSmall : FileHead → Type 0
IsSmall head = length head.versions ≤ OBJECTS

-- a message's head is
abbrev pub ContentSmall : Payload → Type 0
ContentSmall (payload.Status file epoch head) = IsSmall head
ContentSmall (payload.Head file epoch head) = IsSmall head
ContentSmall _ = Unit {0}

-- these messages are of this node, and their heads are small
abbrev pub AreSmall : NodeId → List Msg → Type 0
AreSmall n [] = Unit {0}
AreSmall n (m ∷ ms) = ((m.from ≡ n) × ContentSmall m.payload) × AreSmall n ms

abbrev pub StateSmall : PeerState → Type 0
StateSmall (peer.Reported head) = IsSmall head
StateSmall (peer.Heading known head) = IsSmall head
StateSmall _ = Unit {0}

abbrev pub PeersSmall : List Peer → Type 0
PeersSmall [] = Unit {0}
PeersSmall (p ∷ ps) = StateSmall p.state × PeersSmall ps

abbrev pub ProgressSmall : Progress → Type 0
ProgressSmall (progress.Fetching chosen source asked later) = IsSmall chosen
ProgressSmall (progress.Installing chosen acked) = IsSmall chosen
ProgressSmall _ = Unit {0}

abbrev pub TenureSmall : Option Tenure → Type 0
TenureSmall None = Unit {0}
TenureSmall (Some t) = PeersSmall t.peers × ProgressSmall t.progress

-- a record leaves a small head small
abbrev pub KeepsSmall : Option Record → Type 0
KeepsSmall rec = (row : FileRow) → IsSmall row.head → IsSmall (kept_after row rec).head

pub record LedSmall (n : NodeId) (led : Led) : Type 0 where
  pub tenure : TenureSmall led.primary.tenure
  pub outs : AreSmall n led.turned.outs
  pub keeps : KeepsSmall led.turned.rec

either : {n : NodeId} (b : Bool) (x y : Led) → LedSmall n x → LedSmall n y → LedSmall n (cond b x y)
either true x y p q = p
either false x y p q = q

-- ---- lists of messages

pub both_small : (n : NodeId) (xs ys : List Msg) → AreSmall n xs → AreSmall n ys → AreSmall n (xs ++ ys)
both_small n [] ys p q = q
both_small n (x ∷ xs) ys p q = (p.0, both_small n xs ys p.1 q)

pub each_small : (n : NodeId) {X : Type 0} (f : X → Msg) (xs : List X) → ((x : X) → ((f x).from ≡ n) × ContentSmall (f x).payload) → AreSmall n (map f xs)
each_small n f [] each = tt
each_small n f (x ∷ xs) each = (each x, each_small n f xs each)

pub small_of : (n : NodeId) (ms : List Msg) (m : Msg) → AreSmall n ms → Has m ms → (m.from ≡ n) × ContentSmall m.payload
small_of n [] m are h = absurd h
small_of n (x ∷ xs) m are (inl e) = subst (λ (k : Msg). (k.from ≡ n) × ContentSmall k.payload) (sym e) are.0
small_of n (x ∷ xs) m are (inr h) = small_of n xs m are.1 h

last_small : (from to : NodeId) (file : FileId) (epoch : Epoch) (state : PeerState) → StateSmall state → AreSmall from (if_any from to (last_sent file epoch state))
last_small from to file epoch peer.Unknown small = tt
last_small from to file epoch (peer.Reported head) small = tt
last_small from to file epoch (peer.Feeding known object version body) small = ((refl, tt), tt)
last_small from to file epoch (peer.Heading known head) small = ((refl, small), tt)
last_small from to file epoch peer.Current small = tt

pub peers_outs : (place : Place) (content : NodeId → PeerState → Option Payload) (peers : List Peer) → ((node : NodeId) (state : PeerState) → StateSmall state → AreSmall place.node (if_any place.node node (content node state))) → PeersSmall peers
    → AreSmall place.node (flat_map (λ (p : Peer). if_any place.node p.node (content p.node p.state)) peers)
peers_outs place content [] each small = tt
peers_outs place content (p ∷ ps) each small =
    both_small place.node (if_any place.node p.node (content p.node p.state)) (flat_map (λ (q : Peer). if_any place.node q.node (content q.node q.state)) ps) (each p.node p.state small.0) (peers_outs place content ps each small.1)

-- ---- peers

fresh_small : (nodes : List NodeId) → PeersSmall (map unknown_peer nodes)
fresh_small [] = tt
fresh_small (n ∷ ns) = (tt, fresh_small ns)

put_small : (peers : List Peer) (node : NodeId) (state : PeerState) → StateSmall state → PeersSmall peers → PeersSmall (with_peer peers node state)
unfolding with_peer
put_small [] node state small are = tt
put_small (p ∷ ps) node state small are = at (p.node.0 == node.0) (put_small ps node state small are.1)
  where
    at : (b : Bool) → PeersSmall (with_peer ps node state) → PeersSmall (cond b (record { node = p.node; state = state } ∷ ps) (p ∷ with_peer ps node state))
    at true rest = (small, are.1)
    at false rest = (are.0, rest)

found_small : (peers : List Peer) (node : NodeId) (state : PeerState) → peer_in peers node ≡ Some state → PeersSmall peers → StateSmall state
unfolding peer_in
found_small [] node state is are = absurd (cc)
found_small (p ∷ ps) node state is are = at (p.node.0 == node.0) is (λ f. found_small ps node state f are.1)
  where
    at : (b : Bool) → cond b (Some p.state) (peer_in ps node) ≡ Some state → (peer_in ps node ≡ Some state → StateSmall state) → StateSmall state
    at true is rest = (let same : p.state ≡ state = cc in subst StateSmall same are.0)
    at false is rest = rest is

fed_small : (body : ℕ → Stamp → List ℕ) (target : FileHead) (known : List ObjectVersion) → IsSmall target → StateSmall (fed body target known)
unfolding fed
fed_small body target known small = at _
  where
    at : (o : Option ObjectVersion) → StateSmall (fed_next body target known o)
    at (Some v) = tt
    at None = small

target_small : (own : FileHead) (epoch : Epoch) (chosen : FileHead) → IsSmall own → IsSmall chosen → IsSmall (target_of own epoch chosen)
target_small own epoch chosen here there = at (is_epoch own.stamp.epoch epoch)
  where
    at : (b : Bool) → IsSmall (cond b own (record chosen { promised = epoch; stamp = record { epoch = epoch; count = chosen.stamp.count } }))
    at true = here
    at false = there

all_fed : (g : Ground) (target : FileHead) (peers : List Peer) → IsSmall target → PeersSmall peers → PeersSmall (feed_peers g target peers)
all_fed g target [] small are = tt
all_fed g target (p ∷ ps) small are = (one p.state are.0, all_fed g target ps small are.1)
  where
    one : (state : PeerState) → StateSmall state → StateSmall (feed_peer g target p.node state)
    one peer.Unknown is = tt
    one (peer.Reported head) is = at (p.node.0 == g.place.node.0)
      where
        at : (b : Bool) → StateSmall (cond b (peer.Reported head) (fed g.body target (known_of_report head)))
        at true = is
        at false = fed_small g.body target (known_of_report head) small
    one (peer.Feeding known object version body) is = tt
    one (peer.Heading known head) is = is
    one peer.Current is = tt

-- ---- reports

abbrev ReportsSmall : List (NodeId × FileHead) → Type 0
ReportsSmall [] = Unit {0}
ReportsSmall (r ∷ rs) = IsSmall r.1 × ReportsSmall rs

reports_small : (peers : List Peer) → PeersSmall peers → ReportsSmall (reports_of peers)
reports_small [] are = tt
reports_small (p ∷ ps) are = at p.state are.0 (reports_small ps are.1)
  where
    at : (state : PeerState) → StateSmall state → ReportsSmall (reports_of ps) → ReportsSmall (cons_option (report_of p.node state) (reports_of ps))
    at peer.Unknown is rest = rest
    at (peer.Reported head) is rest = (is, rest)
    at (peer.Feeding known object version body) is rest = rest
    at (peer.Heading known head) is rest = rest
    at peer.Current is rest = rest

best_small : (own : NodeId) (first : NodeId × FileHead) (others : List (NodeId × FileHead)) → IsSmall first.1 → ReportsSmall others → IsSmall (fold (λ (b x : NodeId × FileHead). cond (is_better own x b) x b) first others).1
best_small own first [] is are = is
best_small own first (r ∷ rs) is are = best_small own (cond (is_better own r first) r first) rs (at (is_better own r first)) are.1
  where
    at : (b : Bool) → IsSmall (cond b r first).1
    at true = are.0
    at false = is

chosen_small : (own : NodeId) (first : NodeId × FileHead) (others : List (NodeId × FileHead)) → IsSmall first.1 → ReportsSmall others → IsSmall (chosen_of own first others).1
unfolding chosen_of
chosen_small own first others is are = best_small own first others is are

-- ---- rows

still : {n : NodeId} (learnt : ℕ) (t : Tenure) → TenureSmall (Some t) → LedSmall n (unmoved learnt t)
still learnt t small = record { tenure = small; outs = tt; keeps = λ row is. is }

pub drawn_small : (place : Place) (learnt : ℕ) (own : FileHead) (members : List NodeId) → LedSmall place.node (draw_epoch place learnt own members)
unfolding draw_epoch
drawn_small place learnt own members =
    either (nat_lt (epoch_above place learnt own).number COUNTS) _ _
    (record { tenure = (fresh_small members, tt); outs = each_small place.node (λ (to : NodeId). message place.node to (payload.Gather place.file (epoch_above place learnt own))) members (λ to. (refl, tt)); keeps = λ row is. is })
    (record { tenure = tt; outs = tt; keeps = λ row is. is })

module _ (g : Ground) (learnt : ℕ) (own_small : IsSmall g.own) where
  installs_small : (t : Tenure) (chosen : FileHead) → PeersSmall t.peers → IsSmall chosen → LedSmall g.place.node (installs g learnt t chosen)
  installs_small t chosen are small =
      let target = target_small g.own t.epoch chosen own_small small in
      let fed_peers = all_fed g (target_of g.own t.epoch chosen) t.peers target are in
      record {
        tenure = (fed_peers, small);
        outs = ((refl, target), peers_outs g.place (λ (k : NodeId) (state : PeerState). last_sent g.place.file t.epoch state) (feed_peers g (target_of g.own t.epoch chosen) t.peers) (λ node state is. last_small g.place.node node g.place.file t.epoch state is) fed_peers);
        keeps = λ row is. is;
      }

  chooses_small : (t : Tenure) (reports : List (NodeId × FileHead)) → TenureSmall (Some t) → ReportsSmall reports → LedSmall g.place.node (chooses g learnt t reports)
  chooses_small t [] small are = still learnt t small
  chooses_small t (first ∷ others) small are = at (chosen_of g.place.node first others) (chosen_small g.place.node first others are.0 are.1)
    where
      fetches_here : (chosen : FileHead) (source : NodeId) (wanted : List ObjectVersion) → IsSmall chosen → LedSmall g.place.node (fetches g learnt t chosen source wanted)
      fetches_here chosen source [] is = installs_small t chosen small.0 is
      fetches_here chosen source (v ∷ later) is = record { tenure = (small.0, is); outs = ((refl, tt), tt); keeps = λ row i. i }

      at : (best : NodeId × FileHead) → IsSmall best.1 → LedSmall g.place.node (choose_head g learnt t best)
      at best is = either (best.0.0 == g.place.node.0) _ _ (installs_small t best.1 small.0 is) (fetches_here best.1 best.0 (difference (known_of_own g.held) best.1.versions) is)

  counted_small : (t : Tenure) → TenureSmall (Some t) → LedSmall g.place.node (status_counted g learnt t)
  counted_small t small = either (nat_le (majority_among t.peers) (statuses_counted t.peers)) _ _ (chooses_small t (reports_of t.peers) small (reports_small t.peers small.0)) (still learnt t small)

  feeds_small : (t : Tenure) (node : NodeId) (target : FileHead) (known : List ObjectVersion) → TenureSmall (Some t) → IsSmall target → LedSmall g.place.node (feeds g learnt t node target known)
  feeds_small t node target known small is =
      let state = fed_small g.body target known is in
      record { tenure = (put_small t.peers node (fed g.body target known) state small.0, small.1); outs = last_small g.place.node node g.place.file t.epoch (fed g.body target known) state; keeps = λ row i. i }

  put_still : (t : Tenure) (node : NodeId) (state : PeerState) → TenureSmall (Some t) → StateSmall state → TenureSmall (Some (with_state t node state))
  put_still t node state small is = (put_small t.peers node state is small.0, small.1)

  told_small : (t : Tenure) (p : Progress) (from : NodeId) (head : FileHead) → t.progress ≡ p → TenureSmall (Some t) → IsSmall head → LedSmall g.place.node (take_status g learnt t p from head)
  told_small t progress.Gathering from head is small new = counted_small (with_state t from (peer.Reported head)) (put_still t from (peer.Reported head) small new)
  told_small t (progress.Fetching chosen source asked later) from head is small new = still learnt (with_state t from (peer.Reported head)) (put_still t from (peer.Reported head) small new)
  told_small t (progress.Installing chosen acked) from head is small new = feeds_small t from (target_of g.own t.epoch chosen) (known_of_report head) small (target_small g.own t.epoch chosen own_small (subst ProgressSmall is small.1))
  told_small t (progress.Active committed issued) from head is small new = feeds_small t from g.own (known_of_report head) small own_small

  object_small : (t : Tenure) (p : Progress) (from : NodeId) (object : ℕ) (version : Stamp) (bytes : List ℕ) → t.progress ≡ p → TenureSmall (Some t) → LedSmall g.place.node (hears_object g learnt t p from object version bytes)
  object_small t progress.Gathering from object version bytes is small = still learnt t small
  object_small t (progress.Installing chosen acked) from object version bytes is small = still learnt t small
  object_small t (progress.Active committed issued) from object version bytes is small = still learnt t small
  object_small t (progress.Fetching chosen source asked later) from object version bytes is small =
      either (from.0 == source.0 && is_version asked (body_of object version)) _ _ (at later) (still learnt t small)
    where
      rec : Option Record
      rec = stage_record g.place.file g.held object version bytes

      h : Ground
      h = record g { body = body_beyond g.place.file (stage_record g.place.file g.held object version bytes) g.body }

      chosen_is : IsSmall chosen
      chosen_is = subst ProgressSmall is small.1

      staged : KeepsSmall (stage_record g.place.file g.held object version bytes)
      staged row i = one (has_version g.held (body_of object version))
        where
          one : (b : Bool) → IsSmall (kept_after row (cond b None (Some (kept.Stage g.place.file object version bytes)))).head
          one true = i
          one false = i

      target : IsSmall (target_of g.own t.epoch chosen)
      target = target_small g.own t.epoch chosen own_small chosen_is

      at : (later : List ObjectVersion) → LedSmall g.place.node (after_keeping (stage_record g.place.file g.held object version bytes) (fetches (record g { body = body_beyond g.place.file (stage_record g.place.file g.held object version bytes) g.body }) learnt t chosen source later))
      at [] =
          let fed_peers = all_fed (record g { body = body_beyond g.place.file (stage_record g.place.file g.held object version bytes) g.body }) (target_of g.own t.epoch chosen) t.peers target small.0 in
          record {
            tenure = (fed_peers, chosen_is);
            outs = ((refl, target), peers_outs g.place (λ (k : NodeId) (state : PeerState). last_sent g.place.file t.epoch state) (feed_peers (record g { body = body_beyond g.place.file (stage_record g.place.file g.held object version bytes) g.body }) (target_of g.own t.epoch chosen) t.peers) (λ node state is. last_small g.place.node node g.place.file t.epoch state is) fed_peers);
            keeps = staged;
          }
      at (v ∷ vs) = record { tenure = (small.0, chosen_is); outs = ((refl, tt), tt); keeps = staged }

  targeted : (t : Tenure) (o : Option FileHead) → target_in g.own t.epoch t.progress ≡ o → TenureSmall (Some t) → (target : FileHead) → o ≡ Some target → IsSmall target
  targeted t o is small target same = at t.progress small.1 (is ∙ same)
    where
      at : (p : Progress) → ProgressSmall p → target_in g.own t.epoch p ≡ Some target → IsSmall target
      at progress.Gathering s e = absurd (cc)
      at (progress.Fetching chosen source asked later) s e = absurd (cc)
      at (progress.Installing chosen acked) s e = (let it : target_of g.own t.epoch chosen ≡ target = cc in subst IsSmall it (target_small g.own t.epoch chosen own_small s))
      at (progress.Active committed issued) s e = (let it : g.own ≡ target = cc in subst IsSmall it own_small)

  staged_small : (t : Tenure) (o : Option FileHead) (from : NodeId) (state : PeerState) (v : ObjectVersion) → target_in g.own t.epoch t.progress ≡ o → TenureSmall (Some t) → LedSmall g.place.node (body_staged g learnt t o from state v)
  staged_small t (Some target) from (peer.Feeding known object version body) v is small = feeds_small t from target (with_held known v) small (targeted t (Some target) is small target refl)
  staged_small t (Some target) from (peer.Heading known head) v is small = feeds_small t from target (with_held known v) small (targeted t (Some target) is small target refl)
  staged_small t _ from _ v is small = still learnt t small

  missed_small : (t : Tenure) (o : Option FileHead) (from : NodeId) (state : PeerState) (v : ObjectVersion) → target_in g.own t.epoch t.progress ≡ o → TenureSmall (Some t) → LedSmall g.place.node (body_missed g learnt t o from state v)
  missed_small t (Some target) from (peer.Heading known head) v is small = feeds_small t from target _ small (targeted t (Some target) is small target refl)
  missed_small t _ from _ v is small = still learnt t small

  missing_small : (t : Tenure) (p : Progress) (from : NodeId) (state : PeerState) (v : ObjectVersion) → t.progress ≡ p → TenureSmall (Some t) → LedSmall g.place.node (hears_missing g learnt t p from state v)
  missing_small t (progress.Fetching chosen source asked later) from state v is small = either (from.0 == source.0) _ _ (drawn_small g.place learnt g.own (nodes_of t.peers)) (still learnt t small)
  missing_small t progress.Gathering from state v is small = missed_small t None from state v (ap (target_in g.own t.epoch) is) small
  missing_small t (progress.Installing chosen acked) from state v is small = missed_small t (Some (target_of g.own t.epoch chosen)) from state v (ap (target_in g.own t.epoch) is) small
  missing_small t (progress.Active committed issued) from state v is small = missed_small t (Some g.own) from state v (ap (target_in g.own t.epoch) is) small

  below_small : (t : Tenure) (head : FileHead) (from : NodeId) (stamp : Stamp) (newly : Bool) (issued : Option IssuedUpdate) → TenureSmall (Some t) → LedSmall g.place.node (acked_below g learnt t head from stamp newly issued)
  below_small t head from stamp newly None small = still learnt t small
  below_small t head from stamp newly (Some i) small =
      either (not (is_below stamp i.update.stamp)) _ _
      (either (carries g.place t.peers (with_node i.acked from)) _ _ (record { tenure = (small.0, tt); outs = ((refl, tt), tt); keeps = λ row is. is }) (record { tenure = (small.0, tt); outs = tt; keeps = λ row is. is }))
      (either newly _ _ (record { tenure = small; outs = ((refl, tt), tt); keeps = λ row is. is }) (still learnt t small))

  ack_small : (t : Tenure) (p : Progress) (from : NodeId) (newly : Bool) (stamp : Stamp) → t.progress ≡ p → TenureSmall (Some t) → LedSmall g.place.node (hears_ack g learnt t p from newly stamp)
  ack_small t (progress.Installing chosen acked) from newly stamp is small =
      let now = put_small t.peers from peer.Current tt small.0 in
      either newly _ _
      (either (carries g.place (with_state t from peer.Current).peers (with_node acked from)) _ _ (record { tenure = (now, tt); outs = tt; keeps = λ row i. i }) (record { tenure = (now, subst ProgressSmall is small.1); outs = tt; keeps = λ row i. i }))
      (still learnt t small)
  ack_small t (progress.Active head issued) from newly stamp is small = below_small (cond newly (with_state t from peer.Current) t) head from stamp newly issued (at newly)
    where
      at : (b : Bool) → TenureSmall (Some (cond b (with_state t from peer.Current) t))
      at true = put_still t from peer.Current small tt
      at false = small
  ack_small t progress.Gathering from newly stamp is small = still learnt t small
  ack_small t (progress.Fetching chosen source asked later) from newly stamp is small = still learnt t small

  behind_small : (t : Tenure) (from : NodeId) (state : PeerState) → TenureSmall (Some t) → StateSmall state → LedSmall g.place.node (peer_behind g learnt t from state)
  behind_small t from state small is = record { tenure = put_still t from (forgotten state) small (at state is); outs = ((refl, tt), tt); keeps = λ row i. i }
    where
      at : (state : PeerState) → StateSmall state → StateSmall (forgotten state)
      at peer.Unknown is = tt
      at (peer.Reported head) is = is
      at (peer.Feeding known object version body) is = tt
      at (peer.Heading known head) is = tt
      at peer.Current is = tt

  peer_small : (t : Tenure) (from : NodeId) (state : PeerState) (content : Payload) → TenureSmall (Some t) → StateSmall state → ContentSmall content → LedSmall g.place.node (hears_peer g learnt t from state content)
  peer_small t from state (payload.Status file epoch head) small is new = either (is_unknown state) _ _ (told_small t t.progress from head refl small new) (still learnt t small)
  peer_small t from state (payload.Object file epoch object version bytes) small is new = object_small t t.progress from object version bytes refl small
  peer_small t from state (payload.Staged file epoch object version) small is new = staged_small t (target_in g.own t.epoch t.progress) from state (body_of object version) refl small
  peer_small t from state (payload.Missing file epoch object version) small is new = missing_small t t.progress from state (body_of object version) refl small
  peer_small t from state (payload.Ack file stamp) small is new = ack_small t t.progress from (makes_current g.place from state stamp) stamp refl small
  peer_small t from state (payload.Behind file epoch stamp) small is new = behind_small t from state small is
  peer_small t from state (payload.Refused file epoch promised) small is new = either (is_earlier t.epoch promised) _ _ (drawn_small g.place (max learnt promised.number) g.own (nodes_of t.peers)) (still learnt t small)
  peer_small t from state content small is new = still learnt t small

  member_small : (t : Tenure) (from : NodeId) (o : Option PeerState) (content : Payload) → peer_in t.peers from ≡ o → TenureSmall (Some t) → ContentSmall content → LedSmall g.place.node (hears_member g learnt t from o content)
  member_small t from None content is small new = still learnt t small
  member_small t from (Some state) content is small new = peer_small t from state content small (found_small t.peers from state is small.0) new

  epoch_small : (t : Tenure) (from : NodeId) (o : Option Epoch) (content : Payload) → TenureSmall (Some t) → ContentSmall content → LedSmall g.place.node (hears_epoch g learnt t from o content)
  epoch_small t from None content small new = still learnt t small
  epoch_small t from (Some e) content small new = either (is_epoch e t.epoch) _ _ (member_small t from (peer_in t.peers from) content refl small new) (still learnt t small)

  -- Any message to a primary.
  pub hears_small : (o : Option Tenure) (from : NodeId) (content : Payload) → TenureSmall o → ContentSmall content → LedSmall g.place.node (hears_in g learnt o from content)
  hears_small None from content small new = record { tenure = tt; outs = tt; keeps = λ row is. is }
  hears_small (Some t) from content small new = epoch_small t from (message_epoch content) content small new
