-- what a primary does, as contracts see it: the bodies that are wanted later in their order
use Rattle.std.proofs.Common.{◌≡◌, ◌∙◌, ◌∷◌, [], ℕ, Bool, true, false, Option, Some, None, List, refl, ap, sym}
use Rattle.std.specs.Prelude.{cond, not, nat_lt, reverse}
use Rattle.std.proofs.lemmas.List.{reverse-append}
use Rattle.xt_base.specs.declared.TheConstants.{COUNTS}
use Rattle.xt_base.specs.declared.ids.Epoch.{Epoch}
use Rattle.xt_base.specs.declared.ids.NodeId.{NodeId}
use Rattle.xt_base.specs.declared.ids.OpId.{OpId}
use Rattle.xt_base.specs.declared.ids.Stamp.{Stamp}
use Rattle.xt_messages.specs.declared.file.ObjectVersion.{ObjectVersion}
use Rattle.xt_messages.specs.declared.file.FileHead.{FileHead}
use Rattle.xt_messages.specs.declared.file.Op.{Op}
use Rattle.xt_messages.specs.declared.file.Update.{Update}
use Rattle.xt_messages.specs.declared.message.Payload.{Payload}
use Rattle.xt_protocol.specs.Stamps.{is_below}
use Rattle.xt_protocol.specs.declared.states.Place.{Place}
use Rattle.xt_protocol.specs.declared.states.Peer.{Peer}
use Rattle.xt_protocol.specs.declared.states.PeerState.{PeerState}
use Rattle.xt_protocol.specs.declared.states.PeerState.TheVariants as peer
use Rattle.xt_protocol.specs.declared.states.IssuedUpdate.{IssuedUpdate}
use Rattle.xt_protocol.specs.declared.states.Progress.{Progress}
use Rattle.xt_protocol.specs.declared.states.Progress.TheVariants as progress
use Rattle.xt_protocol.specs.declared.states.Tenure.{Tenure}
use Rattle.xt_protocol.specs.declared.states.PrimaryState.{PrimaryState}
use Rattle.xt_protocol.specs.Primaries.{Ground, Led, carries, nodes_of, peer_in, with_node}
use Rattle.xt_protocol.specs.PrimaryRows.{acked_below, body_missed, body_staged, epoch_above, draw_epoch, hears_ack, hears_in, target_in, with_state}
use Rattle.xt_protocol.specs.Serving.{reads, wakes, writes}
use Rattle.osd_decisions.specs.Committed.{CommittedUnder}
use Rattle.replica_primary.specs.declared.moving.Heard.{Heard}
use Rattle.replica_primary.specs.declared.moving.Heard.TheVariants as heard
use Rattle.replica_primary.specs.declared.moving.Next.{Next}
use Rattle.replica_primary.specs.declared.moving.Next.TheVariants as step
use Rattle.replica_primary.specs.declared.serving.Written.{Written}
use Rattle.replica_primary.specs.Moves.{IsSplit, feeds_any, led_by, misses_in, next_of, peers_under, source_in, stages_in}
use Rattle.replica_primary.specs.Shown.{shown_progress, shown_state, shown_tenure, shown_under}
use Rattle.replica_primary.specs.Written.{led_under, under_issued}

-- a primary and what it gives
abbrev pub shown_led : Led → Led
shown_led led = record { primary = shown_state led.primary; turned = led.turned }

-- The wanted versions.

-- none is wanted
pub split_none : (wanted : List ObjectVersion) (s : Option (ObjectVersion × List ObjectVersion)) → IsSplit wanted s → s ≡ None → reverse wanted ≡ []
split_none wanted None is none = ap (λ (vs : List ObjectVersion). reverse vs) is
split_none wanted (Some s) is none = absurd cc

-- the next one and the others
pub split_some : (wanted : List ObjectVersion) (s : Option (ObjectVersion × List ObjectVersion)) (asked : ObjectVersion) (later : List ObjectVersion)
    → IsSplit wanted s → s ≡ Some (asked, later) → reverse wanted ≡ asked ∷ reverse later
split_some wanted None asked later is some = absurd cc
split_some wanted (Some s) asked later is some =
    let same : s ≡ (asked, later) = cc in
    ap (λ (vs : List ObjectVersion). reverse vs) is ∙ reverse-append s.1 (s.0 ∷ []) ∙ ap (λ (q : ObjectVersion × List ObjectVersion). q.0 ∷ reverse q.1) same

-- what is left out

pub source_shown : (p : Progress) → source_in (shown_progress p) ≡ source_in p
source_shown progress.Gathering = refl
source_shown (progress.Fetching chosen source asked later) = refl
source_shown (progress.Installing chosen acked) = refl
source_shown (progress.Active committed issued) = refl

pub peers_shown : (tenure : Option Tenure) → peers_under (shown_under tenure) ≡ peers_under tenure
peers_shown None = refl
peers_shown (Some t) = refl

-- Acknowledgements.

abbrev IsPlain : Led → Type 0
IsPlain led = shown_led led ≡ led

either : (b : Bool) (x y : Led) → IsPlain x → IsPlain y → IsPlain (cond b x y)
either true x y l r = l
either false x y l r = r

module _ (g : Ground) (learnt : ℕ) (epoch : Epoch) (from : NodeId) (stamp : Stamp) where
  abbrev at : List Peer → Progress → Tenure
  at peers p = record { epoch = epoch; peers = peers; progress = p }

  below : (peers : List Peer) (newly : Bool) (head : FileHead) (now : Option IssuedUpdate) (issued : Option IssuedUpdate)
      → IsPlain (acked_below g learnt (at peers (progress.Active head now)) head from stamp newly issued)
  below peers newly head now None = refl
  below peers newly head now (Some issued) =
      either (not (is_below stamp issued.update.stamp)) _ _
      (either (carries g.place peers (with_node issued.acked from)) _ _ refl refl)
      (either newly _ _ refl refl)

  pub acked_shown : (peers : List Peer) (p : Progress) (newly : Bool)
      → shown_led (hears_ack g learnt (at peers p) p from newly stamp) ≡ hears_ack g learnt (shown_tenure (at peers p)) (shown_progress p) from newly stamp
  acked_shown peers progress.Gathering newly = refl
  acked_shown peers (progress.Fetching chosen source asked later) newly = refl
  acked_shown peers (progress.Installing chosen acked) true =
      let t = with_state (at peers (progress.Installing chosen acked)) from peer.Current in
      either (carries g.place t.peers (with_node acked from)) _ _ refl refl
  acked_shown peers (progress.Installing chosen acked) false = refl
  acked_shown peers (progress.Active head issued) true = below (with_state (at peers (progress.Active head issued)) from peer.Current).peers true head issued issued
  acked_shown peers (progress.Active head issued) false = below peers false head issued issued

-- A tenure begins.

pub drawn_shown : (place : Place) (learnt : ℕ) (own : FileHead) (nodes : List NodeId) → shown_led (draw_epoch place learnt own nodes) ≡ draw_epoch place learnt own nodes
unfolding draw_epoch
drawn_shown place learnt own nodes = either (nat_lt (epoch_above place learnt own).number COUNTS) _ _ refl refl

-- How a tenure goes on.

module _ (g : Ground) (learnt : ℕ) (from : NodeId) (epoch : Epoch) (peers : List Peer) where
  abbrev so_far : Progress → Tenure
  so_far p = record { epoch = epoch; peers = peers; progress = p }

  fed_shown : (p : Progress) (known : List ObjectVersion)
      → shown_led (feeds_any g learnt (so_far p) (target_in g.own epoch p) from (Some known)) ≡ feeds_any g learnt (shown_tenure (so_far p)) (target_in g.own epoch (shown_progress p)) from (Some known)
  fed_shown progress.Gathering known = refl
  fed_shown (progress.Fetching chosen source asked later) known = refl
  fed_shown (progress.Installing chosen acked) known = refl
  fed_shown (progress.Active head issued) known = refl

  next_shown : (p : Progress) (next : Next) → shown_led (next_of g learnt from (so_far p) next) ≡ next_of g learnt from (shown_tenure (so_far p)) next
  next_shown p (step.Gives turned) = refl
  next_shown p (step.Feeds known) = fed_shown p known
  next_shown p (step.Installs chosen fetched) = refl

  of_staged : (p : Progress) (state : PeerState) (v : ObjectVersion)
      → shown_led (body_staged g learnt (so_far p) (target_in g.own epoch p) from state v) ≡ body_staged g learnt (shown_tenure (so_far p)) (target_in g.own epoch (shown_progress p)) from state v
  of_staged progress.Gathering state v = refl
  of_staged (progress.Fetching chosen source asked later) state v = refl
  of_staged (progress.Installing chosen acked) peer.Unknown v = refl
  of_staged (progress.Installing chosen acked) (peer.Reported head) v = refl
  of_staged (progress.Installing chosen acked) (peer.Feeding known object version body) v = refl
  of_staged (progress.Installing chosen acked) (peer.Heading known head) v = refl
  of_staged (progress.Installing chosen acked) peer.Current v = refl
  of_staged (progress.Active head issued) peer.Unknown v = refl
  of_staged (progress.Active head issued) (peer.Reported h) v = refl
  of_staged (progress.Active head issued) (peer.Feeding known object version body) v = refl
  of_staged (progress.Active head issued) (peer.Heading known h) v = refl
  of_staged (progress.Active head issued) peer.Current v = refl

  staged_shown : (p : Progress) (v : ObjectVersion)
      → shown_led (stages_in g learnt (so_far p) from (peer_in peers from) v) ≡ stages_in g learnt (shown_tenure (so_far p)) from (peer_in peers from) v
  staged_shown p v = by (peer_in peers from)
    where
      by : (state : Option PeerState) → shown_led (stages_in g learnt (so_far p) from state v) ≡ stages_in g learnt (shown_tenure (so_far p)) from state v
      by None = refl
      by (Some state) = of_staged p state v

  of_missed : (p : Progress) (state : PeerState) (v : ObjectVersion)
      → shown_led (body_missed g learnt (so_far p) (target_in g.own epoch p) from state v) ≡ body_missed g learnt (shown_tenure (so_far p)) (target_in g.own epoch (shown_progress p)) from state v
  of_missed progress.Gathering state v = refl
  of_missed (progress.Fetching chosen source asked later) state v = refl
  of_missed (progress.Installing chosen acked) peer.Unknown v = refl
  of_missed (progress.Installing chosen acked) (peer.Reported head) v = refl
  of_missed (progress.Installing chosen acked) (peer.Feeding known object version body) v = refl
  of_missed (progress.Installing chosen acked) (peer.Heading known head) v = refl
  of_missed (progress.Installing chosen acked) peer.Current v = refl
  of_missed (progress.Active head issued) peer.Unknown v = refl
  of_missed (progress.Active head issued) (peer.Reported h) v = refl
  of_missed (progress.Active head issued) (peer.Feeding known object version body) v = refl
  of_missed (progress.Active head issued) (peer.Heading known h) v = refl
  of_missed (progress.Active head issued) peer.Current v = refl

  missed_shown : (p : Progress) (v : ObjectVersion)
      → shown_led (misses_in g learnt (so_far p) from (peer_in peers from) v) ≡ misses_in g learnt (shown_tenure (so_far p)) from (peer_in peers from) v
  missed_shown p v = by (peer_in peers from)
    where
      by : (state : Option PeerState) → shown_led (misses_in g learnt (so_far p) from state v) ≡ misses_in g learnt (shown_tenure (so_far p)) from state v
      by None = refl
      by (Some state) = of_missed p state v

  heard_shown : (p : Progress) (h : Heard) → shown_led (led_by g learnt from (so_far p) h) ≡ led_by g learnt from (shown_tenure (so_far p)) h
  heard_shown p (heard.GoesOn next) = next_shown p next
  heard_shown p (heard.Counts turned) = refl
  heard_shown p (heard.Staged v) = staged_shown p v
  heard_shown p (heard.Missed v) = missed_shown p v
  heard_shown p (heard.Redraws above) = drawn_shown g.place above g.own (nodes_of peers)

-- a message that was heard
pub heard_row : (g : Ground) (learnt : ℕ) (from : NodeId) (before : Option Tenure) (t after : Tenure) (h : Heard) (content : Payload) (led : Led) → led ≡ led_by g learnt from after h
    → led_by g learnt from (shown_tenure after) h ≡ hears_in g learnt (Some (shown_tenure t)) from content → before ≡ Some t → shown_led led ≡ hears_in g learnt (shown_under before) from content
heard_row g learnt from before t after h content led of row is =
    ap shown_led of
    ∙ heard_shown g learnt from after.epoch after.peers after.progress h
    ∙ row
    ∙ ap (λ (tenure : Option Tenure). hears_in g learnt (shown_under tenure) from content) (sym is)

-- What doesn't see the bodies that are wanted later.

committed_at : (epoch : Epoch) (peers : List Peer) (p : Progress) → CommittedUnder (Some (record { epoch = epoch; peers = peers; progress = p })) → CommittedUnder (shown_under (Some (record { epoch = epoch; peers = peers; progress = p })))
committed_at epoch peers progress.Gathering rises = tt
committed_at epoch peers (progress.Fetching chosen source asked later) rises = tt
committed_at epoch peers (progress.Installing chosen acked) rises = tt
committed_at epoch peers (progress.Active head issued) rises = rises

pub committed_shown : (tenure : Option Tenure) → CommittedUnder tenure → CommittedUnder (shown_under tenure)
committed_shown None rises = tt
committed_shown (Some t) rises = committed_at t.epoch t.peers t.progress rises

committed_of : (epoch : Epoch) (peers : List Peer) (p : Progress) → CommittedUnder (shown_under (Some (record { epoch = epoch; peers = peers; progress = p }))) → CommittedUnder (Some (record { epoch = epoch; peers = peers; progress = p }))
committed_of epoch peers progress.Gathering rises = tt
committed_of epoch peers (progress.Fetching chosen source asked later) rises = tt
committed_of epoch peers (progress.Installing chosen acked) rises = tt
committed_of epoch peers (progress.Active head issued) rises = rises

pub committed_as : (tenure : Option Tenure) → CommittedUnder (shown_under tenure) → CommittedUnder tenure
committed_as None rises = tt
committed_as (Some t) rises = committed_of t.epoch t.peers t.progress rises

module _ (learnt : ℕ) where
  abbrev of : Option Tenure → PrimaryState
  of tenure = record { learnt = learnt; tenure = tenure }

  wakes_at : (place : Place) (epoch : Epoch) (peers : List Peer) (p : Progress)
      → wakes place (of (Some (record { epoch = epoch; peers = peers; progress = p }))) ≡ wakes place (of (shown_under (Some (record { epoch = epoch; peers = peers; progress = p }))))
  unfolding wakes
  wakes_at place epoch peers progress.Gathering = refl
  wakes_at place epoch peers (progress.Fetching chosen source asked later) = refl
  wakes_at place epoch peers (progress.Installing chosen acked) = refl
  wakes_at place epoch peers (progress.Active head issued) = refl

  pub wakes_shown : (place : Place) (tenure : Option Tenure) → wakes place (of tenure) ≡ wakes place (of (shown_under tenure))
  wakes_shown place None = refl
  wakes_shown place (Some t) = wakes_at place t.epoch t.peers t.progress

  reads_at : (g : Ground) (op : Op) (epoch : Epoch) (peers : List Peer) (p : Progress)
      → reads g (of (Some (record { epoch = epoch; peers = peers; progress = p }))) op ≡ reads g (of (shown_under (Some (record { epoch = epoch; peers = peers; progress = p })))) op
  unfolding reads
  reads_at g op epoch peers progress.Gathering = refl
  reads_at g op epoch peers (progress.Fetching chosen source asked later) = refl
  reads_at g op epoch peers (progress.Installing chosen acked) = refl
  reads_at g op epoch peers (progress.Active head issued) = refl

  pub reads_shown : (g : Ground) (op : Op) (tenure : Option Tenure) → reads g (of tenure) op ≡ reads g (of (shown_under tenure)) op
  reads_shown g op None = refl
  reads_shown g op (Some t) = reads_at g op t.epoch t.peers t.progress

  module _ (g : Ground) (id : OpId) (number : ℕ) (op : Op) (written : Option Written) where
    writes_at : (epoch : Epoch) (peers : List Peer) (p : Progress)
        → led_under learnt (Some (record { epoch = epoch; peers = peers; progress = p })) written ≡ writes g (of (Some (record { epoch = epoch; peers = peers; progress = p }))) id number op
        → led_under learnt (shown_under (Some (record { epoch = epoch; peers = peers; progress = p }))) written ≡ writes g (of (shown_under (Some (record { epoch = epoch; peers = peers; progress = p })))) id number op
    unfolding writes
    writes_at epoch peers (progress.Active head issued) is = is
    writes_at epoch peers progress.Gathering is = is
    writes_at epoch peers (progress.Installing chosen acked) is = is
    writes_at epoch peers (progress.Fetching chosen source asked later) is = none written is
      where
        none : (w : Option Written) → led_under learnt (Some (record { epoch = epoch; peers = peers; progress = progress.Fetching chosen source asked later })) w ≡ None
            → led_under learnt (Some (record { epoch = epoch; peers = peers; progress = progress.Fetching chosen source asked (reverse later) })) w ≡ None
        none None e = refl
        none (Some w) e = absurd cc

    pub writes_shown : (tenure : Option Tenure) → led_under learnt tenure written ≡ writes g (of tenure) id number op → led_under learnt (shown_under tenure) written ≡ writes g (of (shown_under tenure)) id number op
    writes_shown None is = is
    writes_shown (Some t) is = writes_at t.epoch t.peers t.progress is

issued_at : (epoch : Epoch) (peers : List Peer) (p : Progress) (update : Update)
    → shown_under (under_issued (Some (record { epoch = epoch; peers = peers; progress = p })) (Some update)) ≡ under_issued (shown_under (Some (record { epoch = epoch; peers = peers; progress = p }))) (Some update)
issued_at epoch peers progress.Gathering update = refl
issued_at epoch peers (progress.Fetching chosen source asked later) update = refl
issued_at epoch peers (progress.Installing chosen acked) update = refl
issued_at epoch peers (progress.Active head issued) update = refl

pub issued_shown : (tenure : Option Tenure) (issued : Option Update) → shown_under (under_issued tenure issued) ≡ under_issued (shown_under tenure) issued
issued_shown None issued = refl
issued_shown (Some t) None = refl
issued_shown (Some t) (Some update) = issued_at t.epoch t.peers t.progress update
