-- what a row of the primary leaves of its own node, sends to it, and how much can follow from that
use Rattle.std.proofs.Common.{◌≡◌, ℕ, ◌≤◌, ◌+◌, ◌*◌, Bool, true, false, List, [], ◌∷◌, ◌++◌, map, refl, sym, ap, subst, ◌∙◌, arith, Option, Some, None, is_some}
use Rattle.std.specs.Prelude.{◌&&◌, not, cond, ◌==◌, nat_lt, nat_le}
use Rattle.std.proofs.lemmas.Bool.{eqb-true}
use Rattle.std.proofs.lemmas.Bool.Decides.{nat_tests}
use Rattle.xt_base.specs.MemberList.{has_node, are_distinct}
use Rattle.xt_base.specs.declared.ids.NodeId.{NodeId}
use Rattle.xt_base.specs.declared.ids.FileId.{FileId}
use Rattle.xt_base.specs.declared.ids.Epoch.{Epoch}
use Rattle.xt_base.specs.declared.ids.Stamp.{Stamp}
use Rattle.xt_messages.specs.declared.file.FileHead.{FileHead}
use Rattle.xt_messages.specs.declared.file.ObjectVersion.{ObjectVersion}
use Rattle.xt_messages.specs.declared.message.Payload.{Payload}
use Rattle.xt_messages.specs.declared.message.Payload.TheVariants as payload
use Rattle.xt_messages.specs.declared.message.Msg.{Msg}
use Rattle.xt_messages.specs.declared.record.FileRow.{FileRow}
use Rattle.xt_messages.specs.declared.record.Record.{Record}
use Rattle.xt_messages.specs.declared.record.Record.TheVariants as kept
use Rattle.xt_base.specs.declared.TheConstants.{COUNTS}
use Rattle.xt_protocol.specs.Stamps.{is_epoch, is_earlier, has_version}
use Rattle.lease_runs.proofs.Tests.{same_node}
use Rattle.replica_safety.proofs.Orders.{not_before_self, up_to_trans, not_after}
use Rattle.xt_protocol.specs.declared.states.Place.{Place}
use Rattle.xt_protocol.specs.declared.states.IssuedUpdate.{IssuedUpdate}
use Rattle.xt_protocol.specs.declared.states.Peer.{Peer}
use Rattle.xt_protocol.specs.declared.states.PeerState.{PeerState}
use Rattle.xt_protocol.specs.declared.states.PeerState.TheVariants as peer
use Rattle.xt_protocol.specs.declared.states.Progress.{Progress}
use Rattle.xt_protocol.specs.declared.states.Progress.TheVariants as progress
use Rattle.xt_protocol.specs.declared.states.Tenure.{Tenure}
use Rattle.xt_protocol.specs.Turns.{message, to_each}
use Rattle.xt_protocol.specs.ReplicaRows.{kept_after}
use Rattle.xt_protocol.specs.Choice.{chosen_of, difference}
use Rattle.xt_protocol.specs.Primaries.{Ground, Led, issued_by, issued_in, is_ready, is_ready_in, nodes_of, peer_in, with_peer, fed, known_of_own, known_of_report, last_sent, last_to_each, majority_among, reports_of, statuses_counted, target_of, unknown_peer}
use Rattle.xt_protocol.specs.PrimaryRows.{epoch_above, draw_epoch, goes_on, unmoved, feed_peer, feed_peers, installs, fetches, choose_head, chooses, status_counted, with_state, feeds, target_in, after_keeping}
use Rattle.world_spec.specs.NodeSteps.{to_itself}
use Rattle.own_messages_wait.proofs.Weights.{stand_of, Stand, rank, epoch_left, bodies_left, bodies_to, are_named, unless}
use Rattle.own_messages_wait.proofs.Standing.{IfAbout, HeadStands, IsPast, IsNext, IfTenure, TenureStands, ProgressStands, IsUnfed, Stands, IfMessage}
use Rattle.own_messages_wait.proofs.Tests.{false_true, not_new, above_promised}
use Rattle.own_messages_wait.proofs.Mine.{token, mine-append, mine-one, mine-if, mine-each, mine-peers, of_peer, put_same, put_other, fresh_unfed}
use Rattle.own_messages_wait.proofs.Moves.{Moves, moves_none, promise_moves}
use Rattle.own_messages_wait.proofs.Bodies.{named_itself, fed_sends}

abbrev pub Body : Type 0
Body = ℕ → Stamp → List ℕ

abbrev pub ground : Place → FileRow → Body → Ground
ground place row body = record { place = place; own = row.head; held = row.held; body = body }

-- what is kept after a row
abbrev pub row_then : FileRow → Led → FileRow
row_then row led = kept_after row led.turned.rec

-- the weight of a message to the own node, or of none, asks apart
abbrev pub left : NodeId → Option Payload → FileRow → Option Tenure → ℕ
left n (Some content) row o = epoch_left row o + rank (stand_of n row o) content
left n None row None = 6
left n None row (Some t) = 0

-- whether a row has made the primary ready
abbrev pub is_new : Option Tenure → Led → Bool
is_new before led = is_ready led.primary.tenure && not (is_ready before)

abbrev pub one_if : Bool → ℕ
one_if b = cond b 1 0

abbrev pub three_if : Bool → ℕ
three_if b = cond b 1 3

abbrev pub four_if : Bool → ℕ
four_if b = cond b 2 4

-- After a row that doesn't make the primary ready less is left than this, where the message came from the own node. After one that
-- does, nothing is sent to it, and an update may follow.
pub data Next (n : NodeId) (row : FileRow) (before : Option Tenure) (Own : Type 0) (limit : ℕ) (led : Led) (o : Option Payload) : Type 0 where
  plain : is_new before led ≡ false → (Own → left n o (row_then row led) led.primary.tenure + 1 ≤ limit) → Next n row before Own limit led o
  readied : is_new before led ≡ true → led.turned.rec ≡ None → o ≡ None → (Own → epoch_left (row_then row led) led.primary.tenure + 3 ≤ limit + 2 * one_if (is_some (issued_by before)))
      → Next n row before Own limit led o

-- what is sent to the own node is sent in a tenure
abbrev pub IfLeads : Option Payload → Option Tenure → Type 0
IfLeads None o = Unit {0}
IfLeads (Some content) o = is_some o ≡ true

-- what must hold of a row of the primary
pub record Row (n : NodeId) (row : FileRow) (before : Option Tenure) (Own : Type 0) (limit : ℕ) (led : Led) : Type 0 where
  pub head : HeadStands (row_then row led).head
  pub moves : Moves row.head (row_then row led).head
  pub tenure : IfTenure n (row_then row led).head led.primary.tenure
  pub sent : Option Payload
  pub outs : to_itself n led.turned.outs ≡ token n sent
  pub stands : IfMessage (row_then row led) sent
  pub leads : IfLeads sent led.primary.tenure
  pub about : IfAbout row.file sent
  pub next : Next n row before Own limit led sent

pub either : {n : NodeId} {row : FileRow} {before : Option Tenure} {Own : Type 0} {limit : ℕ} (b : Bool) (x y : Led) → (b ≡ true → Row n row before Own limit x) → (b ≡ false → Row n row before Own limit y) → Row n row before Own limit (cond b x y)
either true x y p q = p refl
either false x y p q = q refl

-- the update that is issued, as it stands
pub next_stands : (n : NodeId) (row : FileRow) (t : Tenure) (file : FileId) (head : FileHead) (issued : IssuedUpdate) → t.progress ≡ progress.Active head (Some issued) → TenureStands n row.head t → Stands row (payload.Update file issued.update)
next_stands n row t file head issued is stands =
    let active : IsPast row.head t.epoch head × IsNext t.epoch head (Some issued) = subst (ProgressStands n row.head t) is stands.progress in
    subst (λ (s : Stamp). (is_earlier row.head.promised s.epoch ≡ false) × (is_earlier s.epoch row.head.promised ≡ false → (is_epoch row.head.stamp.epoch s.epoch ≡ true) × (s.count ≤ row.head.stamp.count + 1)))
    (sym active.1) (stands.promised, λ now. let past = active.0 now in (past.0, more past.1))
  where
    more : {a b : ℕ} → a ≤ b → a + 1 ≤ b + 1
    more low = omega (arith, low)

-- ---- tenures with another state of a peer

-- a tenure in which this head is brought to peers
pub stands_with : (n : NodeId) (own target : FileHead) (t : Tenure) (from : NodeId) (state : PeerState) (p : Progress) → t.progress ≡ p → target_in own t.epoch p ≡ Some target → TenureStands n own t → TenureStands n own (with_state t from state)
stands_with n own target t from state progress.Gathering is to stands = absurd (cc)
stands_with n own target t from state (progress.Fetching chosen source asked later) is to stands = absurd (cc)
stands_with n own target t from state (progress.Installing chosen acked) is to stands =
    record { promised = stands.promised; progress = subst (ProgressStands n own (with_state t from state)) (sym is) (subst (ProgressStands n own t) is stands.progress) }
stands_with n own target t from state (progress.Active committed issued) is to stands =
    record { promised = stands.promised; progress = subst (ProgressStands n own (with_state t from state)) (sym is) (subst (ProgressStands n own t) is stands.progress) }

-- another peer in another state
pub stands_other : (n : NodeId) (own : FileHead) (t : Tenure) (from : NodeId) (state : PeerState) → (from.0 == n.0) ≡ false → TenureStands n own t → TenureStands n own (with_state t from state)
stands_other n own t from state apart stands = record { promised = stands.promised; progress = at t.progress stands.progress }
  where
    same : peer_in (with_peer t.peers from state) n ≡ peer_in t.peers n
    same = put_other t.peers n from state apart

    at : (p : Progress) → ProgressStands n own t p → ProgressStands n own (with_state t from state) p
    at progress.Gathering is = subst IsUnfed (sym same) is
    at (progress.Fetching chosen source asked later) is = (subst IsUnfed (sym same) is.0, is.1)
    at (progress.Installing chosen acked) is = is
    at (progress.Active committed issued) is = is

-- a peer that has reported
pub stands_reported : (n : NodeId) (own : FileHead) (t : Tenure) (from : NodeId) (head : FileHead) (old : PeerState) → peer_in t.peers from ≡ Some old → TenureStands n own t → TenureStands n own (with_state t from (peer.Reported head))
stands_reported n own t from head old found stands = which (from.0 == n.0) refl
  where
    here : (from.0 == n.0) ≡ true → peer_in (with_peer t.peers from (peer.Reported head)) n ≡ Some (peer.Reported head)
    here is = put_same t.peers n from (peer.Reported head) old is (subst (λ (k : NodeId). peer_in t.peers k ≡ Some old) (same_node from n (eqb-true from.0 n.0 is)) found)

    at : (p : Progress) → (from.0 == n.0) ≡ true → ProgressStands n own t p → ProgressStands n own (with_state t from (peer.Reported head)) p
    at progress.Gathering is now = subst IsUnfed (sym (here is)) tt
    at (progress.Fetching chosen source asked later) is now = (subst IsUnfed (sym (here is)) tt, now.1)
    at (progress.Installing chosen acked) is now = now
    at (progress.Active committed issued) is now = now

    which : (b : Bool) → (from.0 == n.0) ≡ b → TenureStands n own (with_state t from (peer.Reported head))
    which true is = record { promised = stands.promised; progress = at t.progress is stands.progress }
    which false apart = stands_other n own t from (peer.Reported head) apart stands

-- ---- rows

-- a tenure goes on, and nothing is sent
pub rests : (n : NodeId) (row : FileRow) (learnt : ℕ) (t u : Tenure) (Own : Type 0) (limit : ℕ) → is_ready_in u.progress ≡ is_ready_in t.progress → HeadStands row.head → TenureStands n row.head u → 1 ≤ limit
    → Row n row (Some t) Own limit (unmoved learnt u)
rests n row learnt t u Own limit same head stands some =
    record {
      head = head;
      moves = moves_none row.head row.head refl;
      tenure = stands;
      sent = None;
      outs = refl;
      stands = tt;
      leads = tt;
      about = tt;
      next = plain (ap (λ (b : Bool). b && not (is_ready_in t.progress)) same ∙ not_new (is_ready_in t.progress)) (λ mine. some);
    }

abbrev pub six_if : Bool → ℕ
six_if b = cond b 6 0

-- no epoch is earlier than itself
fresh_epoch : (e : Epoch) → six_if (is_earlier e e) ≡ 0
fresh_epoch e = ap six_if (not_before_self e)

-- an epoch is drawn
pub draws : (place : Place) (row : FileRow) (its : place.file ≡ row.file) (learnt : ℕ) (members : List NodeId) (before : Option Tenure) (Own : Type 0) (limit : ℕ) → are_distinct members ≡ true → HeadStands row.head → (Own → 7 ≤ limit)
    → Row place.node row before Own limit (draw_epoch place learnt row.head members)
unfolding draw_epoch
draws place row its learnt members before Own limit apart head room = either (nat_lt (epoch_above place learnt row.head).number COUNTS) _ _ (λ is. drawn (has_node members place.node.0) refl) (λ is. none)
  where
    epoch : Epoch
    epoch = epoch_above place learnt row.head

    after : Tenure
    after = record { epoch = epoch_above place learnt row.head; peers = map unknown_peer members; progress = progress.Gathering }

    led : Led
    led = goes_on learnt (record { epoch = epoch_above place learnt row.head; peers = map unknown_peer members; progress = progress.Gathering })
        (record { rec = Some (kept.Promise place.file (epoch_above place learnt row.head)); outs = to_each place.node members (payload.Gather place.file (epoch_above place learnt row.head)); marks = [] })

    drawn : (b : Bool) → has_node members place.node.0 ≡ b
        → Row place.node row before Own limit (goes_on learnt (record { epoch = epoch_above place learnt row.head; peers = map unknown_peer members; progress = progress.Gathering })
        (record { rec = Some (kept.Promise place.file (epoch_above place learnt row.head)); outs = to_each place.node members (payload.Gather place.file (epoch_above place learnt row.head)); marks = [] }))
    drawn b is =
        let e = epoch_above place learnt row.head in
        let zero = fresh_epoch (epoch_above place learnt row.head) in
        record {
          head = up_to_trans row.head.stamp.epoch row.head.promised e head (not_after row.head.promised e (above_promised place learnt row.head));
          moves = promise_moves row.head e (above_promised place learnt row.head);
          tenure = record { promised = not_before_self e; progress = fresh_unfed members place.node };
          sent = cond b (Some (payload.Gather place.file e)) None;
          outs = mine-each place.node members (payload.Gather place.file e) apart ∙ ap (λ (c : Bool). token place.node (cond c (Some (payload.Gather place.file e)) None)) is;
          stands = stands_if b;
          leads = leads_if b;
          about = about_if b;
          next = plain refl (λ mine. bound b (room mine) zero);
        }
      where
        stands_if : (b : Bool) → IfMessage (kept_after row (Some (kept.Promise place.file (epoch_above place learnt row.head)))) (cond b (Some (payload.Gather place.file (epoch_above place learnt row.head))) None)
        stands_if true = (not_before_self (epoch_above place learnt row.head), tt)
        stands_if false = tt

        leads_if : (b : Bool) → IfLeads (cond b (Some (payload.Gather place.file (epoch_above place learnt row.head))) None) (Some (record { epoch = epoch_above place learnt row.head; peers = map unknown_peer members; progress = progress.Gathering }))
        leads_if true = refl
        leads_if false = tt

        about_if : (b : Bool) → IfAbout row.file (cond b (Some (payload.Gather place.file (epoch_above place learnt row.head))) None)
        about_if true = ap (λ (f : FileId). Some f) its
        about_if false = tt

        bound : (b : Bool) → 7 ≤ limit → six_if (is_earlier (epoch_above place learnt row.head) (epoch_above place learnt row.head)) ≡ 0
            → left place.node (cond b (Some (payload.Gather place.file (epoch_above place learnt row.head))) None) (kept_after row (Some (kept.Promise place.file (epoch_above place learnt row.head))))
            (Some (record { epoch = epoch_above place learnt row.head; peers = map unknown_peer members; progress = progress.Gathering })) + 1 ≤ limit
        bound true enough zero = omega (arith, enough, zero)
        bound false enough zero = omega (arith, enough)

    none : Row place.node row before Own limit (record { primary = record { learnt = learnt; tenure = None }; turned = record { rec = None; outs = []; marks = [] } })
    none = record { head = head; moves = moves_none row.head row.head refl; tenure = tt; sent = None; outs = refl; stands = tt; leads = tt; about = tt; next = plain refl (λ mine. room mine) }

-- ---- a head is installed

fed_nodes : (g : Ground) (target : FileHead) (peers : List Peer) → nodes_of (feed_peers g target peers) ≡ nodes_of peers
fed_nodes g target [] = refl
fed_nodes g target (p ∷ ps) = ap (λ (others : List NodeId). p.node ∷ others) (fed_nodes g target ps)

-- the own node is as it was
fed_same : (g : Ground) (target : FileHead) (peers : List Peer) → peer_in (feed_peers g target peers) g.place.node ≡ peer_in peers g.place.node
unfolding peer_in
fed_same g target [] = refl
fed_same g target (p ∷ ps) = at (p.node.0 == g.place.node.0) refl (fed_same g target ps)
  where
    own : (state : PeerState) → (p.node.0 == g.place.node.0) ≡ true → feed_peer g target p.node state ≡ state
    own peer.Unknown is = refl
    own (peer.Reported head) is = ap (λ (b : Bool). cond b (peer.Reported head) (fed g.body target (known_of_report head))) is
    own (peer.Feeding known object version body) is = refl
    own (peer.Heading known head) is = refl
    own peer.Current is = refl

    at : (b : Bool) → (p.node.0 == g.place.node.0) ≡ b → peer_in (feed_peers g target ps) g.place.node ≡ peer_in ps g.place.node
        → cond b (Some (feed_peer g target p.node p.state)) (peer_in (feed_peers g target ps) g.place.node) ≡ cond b (Some p.state) (peer_in ps g.place.node)
    at true is rest = ap (λ (s : PeerState). Some s) (own p.state is)
    at false is rest = rest

unfed_silent : (file : FileId) (epoch : Epoch) (n : NodeId) (o : Option PeerState) → IsUnfed o → of_peer (λ (k : NodeId) (state : PeerState). last_sent file epoch state) n o ≡ None
unfed_silent file epoch n None unfed = refl
unfed_silent file epoch n (Some peer.Unknown) unfed = refl
unfed_silent file epoch n (Some (peer.Reported head)) unfed = refl
unfed_silent file epoch n (Some (peer.Feeding known object version body)) unfed = absurd unfed
unfed_silent file epoch n (Some (peer.Heading known head)) unfed = absurd unfed
unfed_silent file epoch n (Some peer.Current) unfed = refl

pub own_one : (n : NodeId) (content : Payload) → to_itself n (message n n content ∷ []) ≡ token n (Some content)
own_one n content = mine-one n n content ∙ ap (λ (b : Bool). token n (cond b (Some content) None)) (itself n.0)
  where
    itself : (k : ℕ) → (k == k) ≡ true
    itself k = grind (arith, nat_tests)

-- A body that is kept leaves the head.
abbrev pub KeepsHead : FileRow → Option Record → Type 0
KeepsHead row rec = (kept_after row rec).head ≡ row.head

-- what the own node's report makes of the limit
abbrev pub Reports : Place → FileRow → Tenure → ℕ → Type 0
Reports place row t limit = (head : FileHead) × (peer_in t.peers place.node ≡ Some (peer.Reported head)) × (epoch_left row (Some t) + 5 ≤ limit)

-- the head goes to the own node; a body may be kept first, where the message isn't of the own node
pub installing : (place : Place) (row : FileRow) (its : place.file ≡ row.file) (body : Body) (learnt : ℕ) (t : Tenure) (chosen : FileHead) (rec : Option Record) (before : Option Tenure) (Own : Type 0) (limit : ℕ) → KeepsHead row rec
    → are_distinct (nodes_of t.peers) ≡ true → HeadStands row.head → is_earlier row.head.promised t.epoch ≡ false → IsUnfed (peer_in t.peers place.node)
    → (Own → (rec ≡ None) × Reports place row t limit)
    → Row place.node row before Own limit (after_keeping rec (installs (ground place row body) learnt t chosen))
installing place row its body learnt t chosen rec before Own limit keeps apart head promised unfed room =
    let g = ground place row body in
    let n = place.node in
    let target = target_of row.head t.epoch chosen in
    let peers = feed_peers g target t.peers in
    let same = fed_same g target t.peers in
    record {
      head = subst HeadStands (sym keeps) head;
      moves = moves_none row.head (kept_after row rec).head keeps;
      tenure = record { promised = ap (λ (h : FileHead). is_earlier h.promised t.epoch) keeps ∙ promised; progress = λ acked. absurd (false_true acked) };
      sent = Some (payload.Head place.file t.epoch target);
      outs =
          mine-append n (message n n (payload.Head place.file t.epoch target) ∷ []) (last_to_each place t.epoch peers)
          ∙ ap (λ (xs : List Msg). xs ++ to_itself n (last_to_each place t.epoch peers)) (own_one n (payload.Head place.file t.epoch target))
          ∙ ap (λ (xs : List Msg). token n (Some (payload.Head place.file t.epoch target)) ++ xs)
          (mine-peers n (λ (k : NodeId) (state : PeerState). last_sent place.file t.epoch state) peers (ap are_distinct (fed_nodes g target t.peers) ∙ apart)
          ∙ ap (token n) (unfed_silent place.file t.epoch n (peer_in peers n) (subst IsUnfed (sym same) unfed)));
      stands = (ap (λ (h : FileHead). is_earlier h.promised t.epoch) keeps ∙ promised, tt);
      leads = refl;
      about = ap (λ (f : FileId). Some f) its;
      next = plain refl (λ mine. bound (room mine).1 same rec (room mine).0);
    }
  where
    bound : Reports place row t limit
        → peer_in (feed_peers (ground place row body) (target_of row.head t.epoch chosen) t.peers) place.node ≡ peer_in t.peers place.node
        → (rec : Option Record) → rec ≡ None
        → left place.node (Some (payload.Head place.file t.epoch (target_of row.head t.epoch chosen))) (kept_after row rec)
        (Some (record { epoch = t.epoch; peers = feed_peers (ground place row body) (target_of row.head t.epoch chosen) t.peers; progress = progress.Installing chosen [] })) + 1 ≤ limit
    bound r same (Some rec) is = absurd (cc)
    bound r same None is =
        let target = target_of row.head t.epoch chosen in
        let named : unless (are_named (Some target) target.versions) ≡ 0 = ap unless (named_itself target) in
        let none : bodies_left row.held (Some target) (peer_in (feed_peers (ground place row body) target t.peers) place.node) ≡ 0 = ap (bodies_left row.held (Some target)) (same ∙ r.1) in
        let enough = r.2 in
        omega (arith, named, none, enough)

-- a body is asked for of another node, or the head goes to the own one
pub fetching : (place : Place) (row : FileRow) (its : place.file ≡ row.file) (body : Body) (learnt : ℕ) (t : Tenure) (chosen : FileHead) (source : NodeId) (wanted : List ObjectVersion) (rec : Option Record) (before : Option Tenure) (Own : Type 0) (limit : ℕ) → KeepsHead row rec
    → are_distinct (nodes_of t.peers) ≡ true → HeadStands row.head → is_earlier row.head.promised t.epoch ≡ false → IsUnfed (peer_in t.peers place.node) → (source.0 == place.node.0) ≡ false
    → (Own → (rec ≡ None) × Reports place row t limit)
    → Row place.node row before Own limit (after_keeping rec (fetches (ground place row body) learnt t chosen source wanted))
fetching place row its body learnt t chosen source [] rec before Own limit keeps apart head promised unfed other room = installing place row its body learnt t chosen rec before Own limit keeps apart head promised unfed room
fetching place row its body learnt t chosen source (v ∷ later) rec before Own limit keeps apart head promised unfed other room =
    record {
      head = subst HeadStands (sym keeps) head;
      moves = moves_none row.head (kept_after row rec).head keeps;
      tenure = record { promised = ap (λ (h : FileHead). is_earlier h.promised t.epoch) keeps ∙ promised; progress = (unfed, other) };
      sent = None;
      outs = mine-one place.node source (payload.Fetch place.file t.epoch v.object v.version) ∙ ap (λ (b : Bool). token place.node (cond b (Some (payload.Fetch place.file t.epoch v.object v.version)) None)) other;
      stands = tt;
      leads = tt;
      about = tt;
      next = plain refl (λ mine. some (epoch_left row (Some t)) (room mine).1.2);
    }
  where
    some : (k : ℕ) → k + 5 ≤ limit → 1 ≤ limit
    some k enough = omega (arith, enough)

-- nothing is kept first
unkept : (n : NodeId) (row : FileRow) (before : Option Tenure) (Own : Type 0) (limit : ℕ) (g : Ground) (learnt : ℕ) (t : Tenure) (chosen : FileHead) (source : NodeId) (wanted : List ObjectVersion)
    → Row n row before Own limit (after_keeping None (fetches g learnt t chosen source wanted)) → Row n row before Own limit (fetches g learnt t chosen source wanted)
unkept n row before Own limit g learnt t chosen source [] is = is
unkept n row before Own limit g learnt t chosen source (v ∷ later) is = is

module _ (place : Place) (row : FileRow) (its : place.file ≡ row.file) (body : Body) where
  pub choosing : (learnt : ℕ) (t : Tenure) (best : NodeId × FileHead) (before : Option Tenure) (Own : Type 0) (limit : ℕ)
      → are_distinct (nodes_of t.peers) ≡ true → HeadStands row.head → is_earlier row.head.promised t.epoch ≡ false → IsUnfed (peer_in t.peers place.node)
      → (Own → Reports place row t limit)
      → Row place.node row before Own limit (choose_head (ground place row body) learnt t best)
  choosing learnt t best before Own limit apart head promised unfed room =
      either (best.0.0 == place.node.0) _ _ (λ is. installing place row its body learnt t best.1 None before Own limit refl apart head promised unfed (λ mine. (refl, room mine)))
      (λ other. unkept place.node row before Own limit (ground place row body) learnt t best.1 best.0 (difference (known_of_own row.held) best.1.versions)
      (fetching place row its body learnt t best.1 best.0 (difference (known_of_own row.held) best.1.versions) None before Own limit refl apart head promised unfed other (λ mine. (refl, room mine))))

  -- a status is counted: `t` is the tenure after it
  pub counting : (learnt : ℕ) (t : Tenure) (before : Tenure) (Own : Type 0) (limit : ℕ) → t.progress ≡ progress.Gathering → before.progress ≡ progress.Gathering
      → are_distinct (nodes_of t.peers) ≡ true → HeadStands row.head → TenureStands place.node row.head t → 1 ≤ limit
      → (Own → Reports place row t limit)
      → Row place.node row (Some before) Own limit (status_counted (ground place row body) learnt t)
  counting learnt t before Own limit gathers gathered apart head stands some room =
      either (nat_le (majority_among t.peers) (statuses_counted t.peers)) _ _ (λ is. at (reports_of t.peers)) (λ is. still)
    where
      unfed : IsUnfed (peer_in t.peers place.node)
      unfed = subst (ProgressStands place.node row.head t) gathers stands.progress

      still : Row place.node row (Some before) Own limit (unmoved learnt t)
      still = rests place.node row learnt before t Own limit (ap is_ready_in (gathers ∙ sym gathered)) head stands some

      at : (reports : List (NodeId × FileHead)) → Row place.node row (Some before) Own limit (chooses (ground place row body) learnt t reports)
      at [] = rests place.node row learnt before t Own limit (ap is_ready_in (gathers ∙ sym gathered)) head stands some
      at (first ∷ others) = choosing learnt t (chosen_of place.node first others) (Some before) Own limit apart head stands.promised (subst (ProgressStands place.node row.head t) gathers stands.progress) room

  -- a peer is fed
  pub feeding : (learnt : ℕ) (t : Tenure) (p : Progress) (target : FileHead) (from : NodeId) (old : PeerState) (known : List ObjectVersion) (Own : Type 0) (limit : ℕ) → t.progress ≡ p → target_in row.head t.epoch p ≡ Some target
      → peer_in t.peers from ≡ Some old → HeadStands row.head → TenureStands place.node row.head t → 1 ≤ limit
      → (Own → (r : ℕ) → r ≤ 4 + bodies_to row.held known target
      → ((v : ObjectVersion) → has_version target.versions v ≡ true → has_version known v ≡ false → r ≤ 2 + bodies_to row.held known target) → epoch_left row (Some t) + r + 1 ≤ limit)
      → Row place.node row (Some t) Own limit (feeds (ground place row body) learnt t from target known)
  feeding learnt t p target from old known Own limit is to found head stands some room = at (from.0 == place.node.0) refl
    where
      state : PeerState
      state = fed body target known

      after : Tenure
      after = with_state t from (fed body target known)

      targets : target_in row.head t.epoch t.progress ≡ Some target
      targets = ap (target_in row.head t.epoch) is ∙ to

      here : (from.0 == place.node.0) ≡ true → peer_in (with_peer t.peers from (fed body target known)) place.node ≡ Some (fed body target known)
      here own = put_same t.peers place.node from (fed body target known) old own (subst (λ (k : NodeId). peer_in t.peers k ≡ Some old) (same_node from place.node (eqb-true from.0 place.node.0 own)) found)

      now : (from.0 == place.node.0) ≡ true → stand_of place.node row (Some (with_state t from (fed body target known))) ≡ record { held = row.held; target = Some target; state = Some (fed body target known); issued = issued_in t.progress }
      now own = λ i. record { held = row.held; target = (ap (target_in row.head t.epoch) is ∙ to) i; state = here own i; issued = issued_in t.progress }

      at : (b : Bool) → (from.0 == place.node.0) ≡ b → Row place.node row (Some t) Own limit (feeds (ground place row body) learnt t from target known)
      at true own =
          let sends = fed_sends place.file t.epoch row.held body target (issued_in t.progress) known in
          record {
            head = head;
            moves = moves_none row.head row.head refl;
            tenure = stands_with place.node row.head target t from (fed body target known) p is to stands;
            sent = Some sends.content;
            outs = mine-if place.node from (last_sent place.file t.epoch (fed body target known)) ∙ ap (λ (b : Bool). token place.node (cond b (last_sent place.file t.epoch (fed body target known)) None)) own ∙ ap (token place.node) sends.sent;
            stands = (sends.stands row stands.promised, sends.tells row);
            leads = refl;
            about = sends.about ∙ ap (λ (f : FileId). Some f) its;
            next = plain (not_new (is_ready_in t.progress)) (λ mine.
                let same : rank (stand_of place.node row (Some (with_state t from (fed body target known)))) sends.content ≡ rank (record { held = row.held; target = Some target; state = Some (fed body target known); issued = issued_in t.progress }) sends.content
                = ap (λ (a : Stand). rank a sends.content) (now own) in
                let enough = room mine (rank (record { held = row.held; target = Some target; state = Some (fed body target known); issued = issued_in t.progress }) sends.content) sends.rank_is sends.body_rank in
                omega (arith, same, enough));
          }
      at false apart =
          record {
            head = head;
            moves = moves_none row.head row.head refl;
            tenure = stands_other place.node row.head t from (fed body target known) apart stands;
            sent = None;
            outs = mine-if place.node from (last_sent place.file t.epoch (fed body target known)) ∙ ap (λ (b : Bool). token place.node (cond b (last_sent place.file t.epoch (fed body target known)) None)) apart;
            stands = tt;
            leads = tt;
            about = tt;
            next = plain (not_new (is_ready_in t.progress)) (λ mine. some);
          }
