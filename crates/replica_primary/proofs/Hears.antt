-- what a message does, by how it is tested
use Rattle.std.proofs.Common.{◌≡◌, ◌∙◌, ◌∷◌, ◌++◌, ◌+◌, ◌<◌, ◌≤◌, [], ℕ, Bool, true, false, Option, Some, None, List, length, take, get_or, inl, inr, refl, ap, sym, arith}
use Rattle.std.specs.Prelude.{cond, max, not, nat_le, ◌==◌, ◌⊎◌, reverse, slice_get}
use Rattle.std.proofs.lemmas.Grind.{common_steps}
use Rattle.std.proofs.lemmas.List.{take_more}
use Rattle.std.proofs.lemmas.List.Elements.{filter_map-append}
use Rattle.std.proofs.lemmas.Option.{slice_get-get_or, slice_get_cases}
use Rattle.xt_base.specs.declared.ids.NodeId.{NodeId}
use Rattle.xt_base.specs.declared.ids.Stamp.{Stamp}
use Rattle.xt_base.specs.declared.ids.Epoch.{Epoch}
use Rattle.xt_messages.specs.declared.file.ObjectVersion.{ObjectVersion}
use Rattle.xt_messages.specs.declared.file.FileHead.{FileHead}
use Rattle.xt_messages.specs.declared.message.Payload.{Payload}
use Rattle.xt_messages.specs.declared.message.Payload.TheVariants as payload
use Rattle.xt_protocol.specs.declared.turned.Turned.{Turned}
use Rattle.xt_protocol.specs.Stamps.{is_earlier, is_epoch}
use Rattle.xt_messages.specs.declared.record.Record.{Record}
use Rattle.xt_protocol.specs.declared.states.IssuedUpdate.{IssuedUpdate}
use Rattle.xt_protocol.specs.ReplicaRows.{stage_record}
use Rattle.replica_primary.specs.declared.moving.FetchedBody.{FetchedBody}
use Rattle.xt_protocol.specs.declared.states.Peer.{Peer}
use Rattle.xt_protocol.specs.declared.states.PeerState.{PeerState}
use Rattle.xt_protocol.specs.declared.states.PeerState.TheVariants as peer
use Rattle.xt_protocol.specs.declared.states.Progress.{Progress}
use Rattle.xt_protocol.specs.declared.states.Progress.TheVariants as progress
use Rattle.xt_protocol.specs.declared.states.Tenure.{Tenure}
use Rattle.xt_protocol.specs.Choice.{chosen_of, difference}
use Rattle.xt_protocol.specs.Primaries.{Ground, Led, fed, known_of_report, is_reported, is_unknown, known_of_own, last_to_each, majority_among, nodes_of, peer_in, report_of, reports_of, statuses_counted, target_of, with_peer}
use Rattle.xt_protocol.specs.PrimaryRows.{after_keeping, body_beyond, take_body, body_missed, chooses, draw_epoch, fetches, forgotten, goes_on, choose_head, hears_epoch, hears_member, hears_missing, hears_object, hears_peer, hears_status, installs, feed_peer, feed_peers, status_counted, take_status, target_in, unmoved}
use Rattle.xt_protocol.specs.PrimaryRows as rows
use Rattle.xt_protocol.specs.Turns.{message, quiet, sends}
use Rattle.osd_decisions.specs.Reports.{best_report}
use Rattle.replica_primary.specs.declared.moving.Heard.TheVariants as heard
use Rattle.replica_primary.specs.Shown.{shown_progress, shown_tenure}
use Rattle.replica_primary.specs.Moves.{any_report, beyond, feeds_any, is_asked, is_to_feed, kept_of, led_by, outpromised, source_in}

not_is : (b : Bool) → not b ≡ true → b ≡ false
not_is true is = absurd cc
not_is false is = refl

not_is_not : (b : Bool) → not b ≡ false → b ≡ true
not_is_not true is = refl
not_is_not false is = absurd cc

-- another peer that has reported is fed
feed_of : (h : Ground) (target : FileHead) (node : NodeId) (state fed_as : PeerState) → is_to_feed h.place (record { node = node; state = state }) ≡ true
    → ((head : FileHead) → state ≡ peer.Reported head → fed_as ≡ fed h.body target (known_of_report head)) → fed_as ≡ feed_peer h target node state
feed_of h target node (peer.Reported head) fed_as is fed_is =
    fed_is head refl ∙ sym (ap (λ (b : Bool). cond b (peer.Reported head) (fed h.body target (known_of_report head))) (not_is (node.0 == h.place.node.0) is))
feed_of h target node peer.Unknown fed_as is fed_is = absurd cc
feed_of h target node (peer.Feeding known object version body) fed_as is fed_is = absurd cc
feed_of h target node (peer.Heading known head) fed_as is fed_is = absurd cc
feed_of h target node peer.Current fed_as is fed_is = absurd cc

pub feed_to : (h : Ground) (target : FileHead) (p : Peer) (fed_as : PeerState) → is_to_feed h.place p ≡ true
    → ((head : FileHead) → p.state ≡ peer.Reported head → fed_as ≡ fed h.body target (known_of_report head))
    → (let q : Peer = record { node = p.node; state = fed_as } in q) ≡ record { node = p.node; state = feed_peer h target p.node p.state }
feed_to h target p fed_as is fed_is = ap (λ (s : PeerState). let q : Peer = record { node = p.node; state = s } in q) (feed_of h target p.node p.state fed_as is fed_is)

-- any other peer stays as it is
left_of : (h : Ground) (target : FileHead) (node : NodeId) (state : PeerState) → is_to_feed h.place (record { node = node; state = state }) ≡ false → state ≡ feed_peer h target node state
left_of h target node (peer.Reported head) is =
    sym (ap (λ (b : Bool). cond b (peer.Reported head) (fed h.body target (known_of_report head))) (not_is_not (node.0 == h.place.node.0) is))
left_of h target node peer.Unknown is = refl
left_of h target node (peer.Feeding known object version body) is = refl
left_of h target node (peer.Heading known head) is = refl
left_of h target node peer.Current is = refl

pub left_as : (h : Ground) (target : FileHead) (p : Peer) → is_to_feed h.place p ≡ false → p ≡ record { node = p.node; state = feed_peer h target p.node p.state }
left_as h target p is = ap (λ (s : PeerState). let q : Peer = record { node = p.node; state = s } in q) (left_of h target p.node p.state is)

-- a report more, where there is one
reports_push : (peers : List Peer) (p : Peer) → reports_of (peers ++ p ∷ []) ≡ reports_of peers ++ any_report (report_of p.node p.state)
reports_push peers p = filter_map-append (λ q. report_of q.node q.state) peers (p ∷ []) ∙ ap (λ (rs : List (NodeId × FileHead)). reports_of peers ++ rs) (one (report_of p.node p.state) refl)
  where
    one : (r : Option (NodeId × FileHead)) → report_of p.node p.state ≡ r → reports_of (p ∷ []) ≡ any_report r
    one None is = grind (arith, common_steps)
    one (Some x) is = grind (arith, common_steps)

pub reports_more : (peers : List Peer) (i : ℕ) (p : Peer) → i < length peers → p ≡ get_or peers i p
    → reports_of (take (i + 1) peers) ≡ reports_of (take i peers) ++ any_report (report_of p.node p.state)
reports_more peers i p lt is =
    ap reports_of (take_more peers i p lt ∙ ap (λ (q : Peer). take i peers ++ q ∷ []) (sym is)) ∙ reports_push (take i peers) p

-- the report at the place that was chosen is the best one
pub best_at : (own : NodeId) (reports : List (NodeId × FileHead)) (i : ℕ) (d : NodeId × FileHead) → 0 < length reports → slice_get reports i ≡ best_report own reports
    → d ≡ get_or reports i d → Some d ≡ best_report own reports
best_at own [] i d some best is = grind arith
best_at own (r ∷ rs) i d some best is = by (slice_get_cases (r ∷ rs) i).1
  where
    by : ((x : NodeId × FileHead) × (i < length (r ∷ rs)) × (slice_get (r ∷ rs) i ≡ Some x) × (get_or (r ∷ rs) i x ≡ x)) ⊎ ((length (r ∷ rs) ≤ i) × (slice_get (r ∷ rs) i ≡ None))
        → Some d ≡ best_report own (r ∷ rs)
    by (inl (x, lt, at, get)) = ap Some is ∙ sym (slice_get-get_or (r ∷ rs) i d lt) ∙ best
    by (inr (past, none)) = absurd (let clash : None ≡ best_report own (r ∷ rs) = sym none ∙ best in cc)

-- installed, part by part
pub installed : (g : Ground) (learnt : ℕ) (t installing : Tenure) (chosen target : FileHead) (peers : List Peer) (turned : Turned) (acked : List NodeId)
    → installing ≡ record t { progress = progress.Installing chosen acked } → target ≡ target_of g.own t.epoch chosen → peers ≡ feed_peers g target installing.peers
    → turned ≡ sends (message g.place.node g.place.node (payload.Head g.place.file installing.epoch target) ∷ last_to_each g.place installing.epoch peers) → acked ≡ []
    → goes_on learnt (record installing { peers = peers }) turned ≡ installs g learnt t chosen
installed g learnt t installing chosen target peers turned acked it ith iph ith2 iah =
    let head = λ (s : Tenure) (h : FileHead). message g.place.node g.place.node (payload.Head g.place.file s.epoch h) in
    let led = λ (s : Tenure) (h : FileHead). goes_on learnt (record s { peers = feed_peers g h s.peers }) (sends (head s h ∷ last_to_each g.place s.epoch (feed_peers g h s.peers))) in
    ap (λ (u : Turned). goes_on learnt (record installing { peers = peers }) u) ith2
    ∙ ap (λ (ps : List Peer). goes_on learnt (record installing { peers = ps }) (sends (head installing target ∷ last_to_each g.place installing.epoch ps))) iph
    ∙ ap (λ (h : FileHead). led installing h) ith
    ∙ ap (λ (s : Tenure). led s (target_of g.own t.epoch chosen)) it
    ∙ ap (λ (ns : List NodeId). led (record t { progress = progress.Installing chosen ns }) (target_of g.own t.epoch chosen)) iah

-- a row that keeps nothing keeps no record first
pub keeps_none : (g : Ground) (learnt : ℕ) (t : Tenure) (chosen : FileHead) (source : NodeId) (wanted : List ObjectVersion)
    → after_keeping None (fetches g learnt t chosen source wanted) ≡ fetches g learnt t chosen source wanted
keeps_none g learnt t chosen source [] = refl
keeps_none g learnt t chosen source (v ∷ later) = refl

-- the next of the wanted bodies is asked for
pub fetched_next : (g : Ground) (learnt : ℕ) (t fetching : Tenure) (chosen : FileHead) (source : NodeId) (asked : ObjectVersion) (later wanted : List ObjectVersion) (rec : Option Record) (turned : Turned)
    → fetching ≡ record t { progress = progress.Fetching chosen source asked later } → wanted ≡ asked ∷ later
    → turned ≡ record { rec = rec; outs = message g.place.node source (payload.Fetch g.place.file fetching.epoch asked.object asked.version) ∷ []; marks = [] }
    → goes_on learnt fetching turned ≡ after_keeping rec (fetches g learnt t chosen source wanted)
fetched_next g learnt t fetching chosen source asked later wanted rec turned it iw iu =
    let asks = λ (s : Tenure). let u : Turned = record { rec = rec; outs = message g.place.node source (payload.Fetch g.place.file s.epoch asked.object asked.version) ∷ []; marks = [] } in u in
    ap (λ (u : Turned). goes_on learnt fetching u) iu
    ∙ ap (λ (s : Tenure). goes_on learnt s (asks s)) it
    ∙ ap (λ (vs : List ObjectVersion). after_keeping rec (fetches g learnt t chosen source vs)) (sym iw)

-- what is fetched doesn't depend on how far the tenure was
fetched_any : (g : Ground) (learnt : ℕ) (epoch : Epoch) (peers : List Peer) (p q : Progress) (chosen : FileHead) (source : NodeId) (wanted : List ObjectVersion)
    → fetches g learnt (record { epoch = epoch; peers = peers; progress = p }) chosen source wanted ≡ fetches g learnt (record { epoch = epoch; peers = peers; progress = q }) chosen source wanted
fetched_any g learnt epoch peers p q chosen source [] = refl
fetched_any g learnt epoch peers p q chosen source (v ∷ later) = refl

-- the fetch goes on, which was taken out of the tenure
pub fetched_on : (g : Ground) (learnt : ℕ) (t : Tenure) (taken p : Progress) (chosen : FileHead) (source : NodeId) (asked : ObjectVersion) (later : List ObjectVersion)
    (chosen' : FileHead) (source' : NodeId) (asked' : ObjectVersion) (later' : List ObjectVersion)
    → taken ≡ t.progress → taken ≡ progress.Fetching chosen' source' asked' later' → t.progress ≡ progress.Fetching chosen source asked later
    → fetches g learnt (record { epoch = t.epoch; peers = t.peers; progress = p }) chosen' source' (reverse later') ≡ fetches g learnt (shown_tenure t) chosen source (reverse later)
fetched_on g learnt t taken p chosen source asked later chosen' source' asked' later' it is was =
    let same : progress.Fetching chosen' source' asked' later' ≡ progress.Fetching chosen source asked later = sym is ∙ it ∙ was in
    let ic : chosen' ≡ chosen = cc in
    let iso : source' ≡ source = cc in
    let il : later' ≡ later = cc in
    fetched_any g learnt t.epoch t.peers p (shown_progress t.progress) chosen' source' (reverse later')
    ∙ ap (λ (h : FileHead). fetches g learnt (shown_tenure t) h source' (reverse later')) ic
    ∙ ap (λ (n : NodeId). fetches g learnt (shown_tenure t) chosen n (reverse later')) iso
    ∙ ap (λ (vs : List ObjectVersion). fetches g learnt (shown_tenure t) chosen source (reverse vs)) il

-- a body that has come is kept first, where it wasn't held
pub kept_first : (g : Ground) (learnt : ℕ) (t : Tenure) (chosen : FileHead) (source : NodeId) (later : List ObjectVersion) (object : ℕ) (version : Stamp) (bytes : List ℕ) (fetched : Option FetchedBody)
    → kept_of g.place.file fetched ≡ stage_record g.place.file g.held object version bytes
    → after_keeping (kept_of g.place.file fetched) (fetches (beyond g fetched) learnt t chosen source later) ≡ take_body g learnt t chosen source later object version bytes
kept_first g learnt t chosen source later object version bytes fetched is =
    let stands = λ (rec : Option Record). let h : Ground = record g { body = body_beyond g.place.file rec g.body } in h in
    ap (λ (rec : Option Record). after_keeping rec (fetches (stands rec) learnt t chosen source later)) is

-- a peer's state that is put in its place again
keep_at : (p : Peer) (peers : List Peer) (node : NodeId) (state : PeerState) (b : Bool) → (peer_in peers node ≡ Some state → with_peer peers node state ≡ peers)
    → cond b (Some p.state) (peer_in peers node) ≡ Some state
    → cond b (record { node = p.node; state = state } ∷ peers) (p ∷ with_peer peers node state) ≡ p ∷ peers
keep_at p peers node state true rest is = let same : p.state ≡ state = cc in ap (λ (s : PeerState). let q : Peer = record { node = p.node; state = s } in q ∷ peers) (sym same)
keep_at p peers node state false rest is = ap (λ (ps : List Peer). p ∷ ps) (rest is)

pub keep_peer : (peers : List Peer) (node : NodeId) (state : PeerState) → peer_in peers node ≡ Some state → with_peer peers node state ≡ peers
unfolding peer_in with_peer
keep_peer [] node state is = absurd cc
keep_peer (p ∷ peers) node state is = keep_at p peers node state (p.node.0 == node.0) (keep_peer peers node state) is

-- a peer that has reported stays so
pub reported_kept : (peers : List Peer) (node : NodeId) (state : PeerState) → peer_in peers node ≡ Some state → is_reported state ≡ true → peers ≡ with_peer peers node (forgotten state)
reported_kept peers node (peer.Reported head) is reported = sym (keep_peer peers node (peer.Reported head) is)
reported_kept peers node peer.Unknown is reported = absurd cc
reported_kept peers node (peer.Feeding known object version body) is reported = absurd cc
reported_kept peers node (peer.Heading known head) is reported = absurd cc
reported_kept peers node peer.Current is reported = absurd cc

-- of any other one nothing is known any more
pub other_forgotten : (state : PeerState) → is_reported state ≡ false → peer.Unknown ≡ forgotten state
other_forgotten (peer.Reported head) other = absurd cc
other_forgotten peer.Unknown other = refl
other_forgotten (peer.Feeding known object version body) other = refl
other_forgotten (peer.Heading known head) other = refl
other_forgotten peer.Current other = refl

module _ (g : Ground) (learnt : ℕ) (t : Tenure) where
  -- the best report is chosen
  pub chooses_best : (reports : List (NodeId × FileHead)) (best : NodeId × FileHead) → Some best ≡ best_report g.place.node reports
      → choose_head g learnt t best ≡ chooses g learnt t reports
  chooses_best [] best is = absurd cc
  chooses_best (first ∷ others) best is = let same : best ≡ chosen_of g.place.node first others = cc in ap (λ (b : NodeId × FileHead). choose_head g learnt t b) same

  -- a majority has reported
  pub majority_told : nat_le (majority_among t.peers) (statuses_counted t.peers) ≡ true → chooses g learnt t (reports_of t.peers) ≡ status_counted g learnt t
  majority_told is = sym (ap (λ (b : Bool). cond b (chooses g learnt t (reports_of t.peers)) (unmoved learnt t)) is)

  -- the own head is chosen, or another one
  pub own_chosen : (best : NodeId × FileHead) → best.0.0 ≡ g.place.node.0 → installs g learnt t best.1 ≡ choose_head g learnt t best
  own_chosen best same =
      let is : (best.0.0 == g.place.node.0) ≡ true = grind arith in
      sym (ap (λ (b : Bool). cond b (installs g learnt t best.1) (fetches g learnt t best.1 best.0 (difference (known_of_own g.held) best.1.versions))) is)

  pub other_chosen : (best : NodeId × FileHead) → (best.0.0 ≡ g.place.node.0 → ⊥)
      → fetches g learnt t best.1 best.0 (difference (known_of_own g.held) best.1.versions) ≡ choose_head g learnt t best
  other_chosen best differ =
      let is : (best.0.0 == g.place.node.0) ≡ false = grind arith in
      sym (ap (λ (b : Bool). cond b (installs g learnt t best.1) (fetches g learnt t best.1 best.0 (difference (known_of_own g.held) best.1.versions))) is)

  -- the object is the one that was asked for
  pub asked_object : (p : Progress) (from : NodeId) (v : ObjectVersion) (bytes : List ℕ) (led : Led) → is_asked p from v ≡ true
      → ((chosen : FileHead) (source : NodeId) (asked : ObjectVersion) (later : List ObjectVersion) → p ≡ progress.Fetching chosen source asked later
      → led ≡ take_body g learnt t chosen source (reverse later) v.object v.version bytes)
      → led ≡ hears_object g learnt t (shown_progress p) from v.object v.version bytes
  asked_object (progress.Fetching chosen source asked later) from v bytes led is by =
      by chosen source asked later refl ∙ sym (ap (λ (b : Bool). cond b (take_body g learnt t chosen source (reverse later) v.object v.version bytes) (unmoved learnt t)) is)
  asked_object progress.Gathering from v bytes led is by = absurd cc
  asked_object (progress.Installing chosen acked) from v bytes led is by = absurd cc
  asked_object (progress.Active committed issued) from v bytes led is by = absurd cc

  -- any other object does nothing
  pub other_object : (p : Progress) (from : NodeId) (v : ObjectVersion) (bytes : List ℕ) → is_asked p from v ≡ false → unmoved learnt t ≡ hears_object g learnt t (shown_progress p) from v.object v.version bytes
  other_object (progress.Fetching chosen source asked later) from v bytes is =
      sym (ap (λ (b : Bool). cond b (take_body g learnt t chosen source (reverse later) v.object v.version bytes) (unmoved learnt t)) is)
  other_object progress.Gathering from v bytes is = refl
  other_object (progress.Installing chosen acked) from v bytes is = refl
  other_object (progress.Active committed issued) from v bytes is = refl

  -- the first status of a peer
  pub first_status : (from : NodeId) (state : PeerState) (head : FileHead) → is_unknown state ≡ true
      → take_status g learnt t t.progress from head ≡ hears_status g learnt t from state head
  first_status from state head is = sym (ap (λ (b : Bool). cond b (take_status g learnt t t.progress from head) (unmoved learnt t)) is)

  -- a status that comes while the head is installed, or later
  pub installing_told : (p : Progress) (chosen : FileHead) (acked : List NodeId) (from : NodeId) (head : FileHead) → p ≡ progress.Installing chosen acked
      → feeds_any g learnt t (target_in g.own t.epoch p) from (Some (known_of_report head)) ≡ take_status g learnt t p from head
  installing_told p chosen acked from head is =
      ap (λ (q : Progress). feeds_any g learnt t (target_in g.own t.epoch q) from (Some (known_of_report head))) is ∙ ap (λ (q : Progress). take_status g learnt t q from head) (sym is)

  pub active_told : (p : Progress) (committed : FileHead) (issued : Option IssuedUpdate) (from : NodeId) (head : FileHead) → p ≡ progress.Active committed issued
      → feeds_any g learnt t (target_in g.own t.epoch p) from (Some (known_of_report head)) ≡ take_status g learnt t p from head
  active_told p committed issued from head is =
      ap (λ (q : Progress). feeds_any g learnt t (target_in g.own t.epoch q) from (Some (known_of_report head))) is ∙ ap (λ (q : Progress). take_status g learnt t q from head) (sym is)

  -- a body is missed once no body is fetched any more
  pub missed_later : (p : Progress) (from : NodeId) (state : PeerState) (v : ObjectVersion) → source_in p ≡ None
      → body_missed g learnt t (target_in g.own t.epoch p) from state v ≡ hears_missing g learnt t p from state v
  missed_later (progress.Fetching chosen source asked later) from state v none = absurd cc
  missed_later progress.Gathering from state v none = refl
  missed_later (progress.Installing chosen acked) from state v none = refl
  missed_later (progress.Active committed issued) from state v none = refl

  -- a message of the tenure's epoch, from a member
  pub of_tenure : (from : NodeId) (o : Option Epoch) (epoch : Epoch) (state : PeerState) (content : Payload) → o ≡ Some epoch → is_epoch epoch t.epoch ≡ true → peer_in t.peers from ≡ Some state
      → hears_peer g learnt t from state content ≡ hears_epoch g learnt t from o content
  of_tenure from o epoch state content told same is =
      sym (ap (λ (e : Option Epoch). hears_epoch g learnt t from e content) told
      ∙ ap (λ (b : Bool). cond b (hears_member g learnt t from (peer_in t.peers from) content) (unmoved learnt t)) same
      ∙ ap (λ (s : Option PeerState). hears_member g learnt t from s content) is)

  redraw : (from : NodeId) (b : Bool) (above : ℕ)
      → led_by g learnt from t (cond b (heard.Redraws above) (heard.Counts quiet)) ≡ cond b (draw_epoch g.place above g.own (nodes_of t.peers)) (unmoved learnt t)
  redraw from true above = refl
  redraw from false above = refl

  -- outpromised: a new epoch is drawn, or nothing comes of it
  pub outpromised_by : (from : NodeId) (promised : Epoch) → led_by g learnt from t (outpromised learnt t.epoch promised) ≡ rows.outpromised g learnt t promised
  outpromised_by from promised = redraw from (is_earlier t.epoch promised) (max learnt promised.number)
