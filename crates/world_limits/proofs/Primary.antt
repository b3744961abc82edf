-- a primary that hears messages: what it sends and keeps is within the limits, and its promise is in its place
use Rattle.std.proofs.Common.{◌≡◌, ◌==◌, ◌&&◌, ◌<◌, ◌≤◌, ◌+◌, ◌^◌, max, ℕ, suc, nat_lt, nat_le, List, [], ◌∷◌, length, map, refl, sym, ap, subst, Option, Some, None, Bool, true, false, if◌then◌else◌, arith}
use Rattle.std.specs.Prelude.{not, find}
use Rattle.std.specs.Option.{IfSome}
use Rattle.std.specs.List.{AllByRecursion}
use Rattle.std.proofs.lemmas.Bool.Decides.{nat_tests}
use Rattle.xt_base.specs.declared.TheConstants.{COUNTS}
use Rattle.xt_base.specs.declared.ids.NodeId.{NodeId}
use Rattle.xt_base.specs.declared.ids.FileId.{FileId}
use Rattle.xt_base.specs.declared.ids.Epoch.{Epoch}
use Rattle.xt_base.specs.declared.ids.Stamp.{Stamp}
use Rattle.xt_messages.specs.declared.file.FileHead.{FileHead}
use Rattle.xt_messages.specs.declared.file.ObjectVersion.{ObjectVersion}
use Rattle.xt_messages.specs.declared.file.Update.{Update}
use Rattle.xt_messages.specs.declared.message.Payload.{Payload}
use Rattle.xt_messages.specs.declared.message.Payload.TheVariants as payload
use Rattle.xt_messages.specs.declared.record.Record.{Record}
use Rattle.xt_messages.specs.declared.record.Record.TheVariants as kept
use Rattle.xt_base.specs.FieldLimits.{FitsBytes, IsCount}
use Rattle.xt_messages.specs.Limits.{FitsNode, FitsFile, FitsEpoch, FitsStamp, FitsHead, FitsUpdate, FitsVersion, FitsMessage, FitsPayload, IsObject, is_at_most}
use Rattle.xt_protocol.specs.Folds.{body_of}
use Rattle.xt_protocol.specs.FileIds.{is_file}
use Rattle.xt_protocol.specs.Stamps.{is_epoch, is_earlier, is_below, is_stamp, is_version, has_version, without_version, with_held}
use Rattle.xt_protocol.specs.declared.states.Place.{Place}
use Rattle.xt_protocol.specs.declared.states.IssuedUpdate.{IssuedUpdate}
use Rattle.xt_protocol.specs.declared.states.Peer.{Peer}
use Rattle.xt_protocol.specs.declared.states.PeerState.{PeerState}
use Rattle.xt_protocol.specs.declared.states.PeerState.TheVariants as peer
use Rattle.xt_protocol.specs.declared.states.PrimaryState.{PrimaryState}
use Rattle.xt_protocol.specs.declared.states.Progress.{Progress}
use Rattle.xt_protocol.specs.declared.states.Progress.TheVariants as progress
use Rattle.xt_protocol.specs.declared.states.Tenure.{Tenure}
use Rattle.xt_protocol.specs.Choice.{chosen_of, difference}
use Rattle.xt_protocol.specs.Turns.{to_each}
use Rattle.xt_protocol.specs.ReplicaRows.{stage_record}
use Rattle.xt_protocol.specs.Primaries.{Ground, Led, unknown_peer, peer_in, with_peer, nodes_of, reports_of, majority_among, statuses_counted, with_node, carries, known_of_report, known_of_own, fed_next, fed, last_sent, if_any, last_to_each, target_of, is_unknown}
use Rattle.xt_protocol.specs.PrimaryRows.{unmoved, epoch_above, draw_epoch, feed_peer, feed_peers, installs, fetches, chooses, status_counted, with_state, send_to_peer, feeds, take_status, newer_body, body_put_by, body_beyond, take_body, hears_object, target_in, body_staged, body_missed, hears_missing, makes_current, ack_head, committed, ack_update, acked_below, hears_ack, forgotten, peer_behind, outpromised, message_epoch, hears_peer, hears_member, hears_epoch, hears_in, hears}
use Rattle.replica_runs.specs.Seen.{AckedFit, nodes_in}
use Rattle.replica_runs.proofs.Choices.{chosen_is}
use Rattle.replica_runs.proofs.Counts.{acked_fits}
use Rattle.replica_runs.proofs.Peers.{peer_found, peer_listed, nodes_with}
use Rattle.object_versions.proofs.HeadLimits.{either, when}
use Rattle.client_limits.proofs.Lists.{all_filter}
use Rattle.world_limits.proofs.Lists.{each_in, all_flat, all_weaker, found_is}
use Rattle.world_limits.specs.States.{AreSent, PeerStateIs, PeerIs, AckedIs, IssuedIs, ProgressIs, TenureIs, PrimaryIs, AreBodies}
use Rattle.client_limits.proofs.Messages.{sent}
use Rattle.world_limits.proofs.Updates.{no_bytes}

-- ---- messages

pub each_sent : (from : NodeId) (nodes : List NodeId) (content : Payload) → FitsNode from → AllByRecursion FitsNode nodes → FitsPayload content → AreSent (to_each from nodes content)
each_sent from [] content own all fits = tt
each_sent from (n ∷ ns) content own all fits = (sent from n content own all.0 fits, each_sent from ns content own all.1 fits)

pub any_sent : (from to : NodeId) (o : Option Payload) → FitsNode from → FitsNode to → IfSome o FitsPayload → AreSent (if_any from to o)
any_sent from to None own other fits = tt
any_sent from to (Some content) own other fits = (sent from to content own other fits, tt)

pub last_is : (file : FileId) (epoch : Epoch) (state : PeerState) → FitsFile file → FitsEpoch epoch → PeerStateIs state → IfSome (last_sent file epoch state) FitsPayload
last_is file epoch peer.Unknown which fits is = tt
last_is file epoch (peer.Reported head) which fits is = tt
last_is file epoch (peer.Feeding known object version body) which fits is = (which, fits, is.0, is.1, is.2)
last_is file epoch (peer.Heading known head) which fits is = (which, fits, is)
last_is file epoch peer.Current which fits is = tt

lasts_sent : (place : Place) (epoch : Epoch) (peers : List Peer) → FitsNode place.node → FitsFile place.file → FitsEpoch epoch → AllByRecursion PeerIs peers → AreSent (last_to_each place epoch peers)
lasts_sent place epoch peers own which fits all =
    all_flat FitsMessage (λ (p : Peer). if_any place.node p.node (last_sent place.file epoch p.state)) peers
    (all_weaker PeerIs (λ (p : Peer). AreSent (if_any place.node p.node (last_sent place.file epoch p.state))) peers
    (λ p is. any_sent place.node p.node (last_sent place.file epoch p.state) own is.0 (last_is place.file epoch p.state which fits is.1)) all)

-- ---- peers

pub nodes_are : (peers : List Peer) → AllByRecursion PeerIs peers → AllByRecursion FitsNode (nodes_of peers)
nodes_are [] all = tt
nodes_are (p ∷ ps) all = (all.0.0, nodes_are ps all.1)

pub nodes_count : (peers : List Peer) → length (nodes_of peers) ≡ length (nodes_in peers)
nodes_count [] = refl
nodes_count (p ∷ ps) = ap suc (nodes_count ps)

unknown_are : (members : List NodeId) → AllByRecursion FitsNode members → AllByRecursion PeerIs (map unknown_peer members)
unknown_are [] all = tt
unknown_are (m ∷ ms) all = ((all.0, tt), unknown_are ms all.1)

unknown_count : (members : List NodeId) → length (nodes_in (map unknown_peer members)) ≡ length members
unknown_count [] = refl
unknown_count (m ∷ ms) = ap suc (unknown_count ms)

put_are : (peers : List Peer) (node : NodeId) (state : PeerState) → PeerStateIs state → AllByRecursion PeerIs peers → AllByRecursion PeerIs (with_peer peers node state)
unfolding with_peer
put_are [] node state is all = tt
put_are (p ∷ ps) node state is all =
    either (AllByRecursion PeerIs) (p.node.0 == node.0) (record { node = p.node; state = state } ∷ ps) (p ∷ with_peer ps node state) ((all.0.0, is), all.1) (all.0, put_are ps node state is all.1)

-- the same nodes, in whatever states
still_stands : (peers after : List Peer) (p : Progress) → nodes_in after ≡ nodes_in peers → ProgressIs peers p → ProgressIs after p
still_stands peers after progress.Gathering same is = tt
still_stands peers after (progress.Fetching chosen source asked later) same is = is
still_stands peers after (progress.Installing chosen acked) same is = (is.0, subst (λ ns. AckedFit ns acked) (sym same) is.1)
still_stands peers after (progress.Active head None) same is = is
still_stands peers after (progress.Active head (Some u)) same is = (is.0, (is.1.0, subst (λ ns. AckedFit ns u.acked) (sym same) is.1.1))

pub state_put : (t : Tenure) (node : NodeId) (state : PeerState) → PeerStateIs state → TenureIs t → TenureIs (with_state t node state)
state_put t node state is all = record {
  place = all.place;
  few = subst (λ ns. length ns ≤ 9) (sym (nodes_with t.peers node state)) all.few;
  each = put_are t.peers node state is all.each;
  stands = still_stands t.peers (with_peer t.peers node state) t.progress (nodes_with t.peers node state) all.stands;
}

pub state_is : (peers : List Peer) (node : NodeId) (state : PeerState) → peer_in peers node ≡ Some state → AllByRecursion PeerIs peers → PeerStateIs state
state_is peers node state is all = let found = peer_found peers node state is in subst PeerStateIs found.is_state (each_in PeerIs peers found.one all found.has).1

abbrev ReportIs : NodeId × FileHead → Type 0
ReportIs report = FitsNode report.0 × FitsHead report.1

reports_are : (peers : List Peer) → AllByRecursion PeerIs peers → AllByRecursion ReportIs (reports_of peers)
reports_are [] all = tt
reports_are (p ∷ ps) all = at p.state all.0.1 (reports_are ps all.1)
  where
    at : (s : PeerState) → PeerStateIs s → AllByRecursion ReportIs (reports_of ps) → AllByRecursion ReportIs (reports_of (record p { state = s } ∷ ps))
    at peer.Unknown is rest = rest
    at (peer.Reported head) is rest = ((all.0.0, is), rest)
    at (peer.Feeding known object version body) is rest = rest
    at (peer.Heading known head) is rest = rest
    at peer.Current is rest = rest

-- ---- feeding

target_is : (own : FileHead) (epoch : Epoch) (chosen : FileHead) → FitsHead own → FitsEpoch epoch → FitsHead chosen → FitsHead (target_of own epoch chosen)
target_is own epoch chosen here fits is =
    either FitsHead (is_epoch own.stamp.epoch epoch) own (record chosen { promised = epoch; stamp = record { epoch = epoch; count = chosen.stamp.count } }) here
    (record {
      promise = fits;
      place = record { tenure = fits; writes = is.place.writes };
      operation = is.operation;
      after = is.after;
      objects = is.objects;
      clients = is.clients;
      kept = itself epoch;
    })
  where
    itself : (e : Epoch) → is_at_most e e ≡ true
    itself e = grind (arith, nat_tests)

fed_is : (body : ℕ → Stamp → List ℕ) (target : FileHead) (known : List ObjectVersion) → AreBodies body → FitsHead target → PeerStateIs (fed body target known)
unfolding fed
fed_is body target known bodies is = at (find (λ (v : ObjectVersion). not (has_version known v)) target.versions) (found_is FitsVersion (λ (v : ObjectVersion). not (has_version known v)) target.versions is.objects.each)
  where
    at : (o : Option ObjectVersion) → IfSome o FitsVersion → PeerStateIs (fed_next body target known o)
    at None lacks = is
    at (Some v) lacks = (lacks.which, lacks.write, bodies v.object v.version)

-- ---- what must hold of a row of a primary

-- a primary keeps a promise that isn't below its own, or a body
abbrev pub LedRec : FileId → FileHead → Record → Type 0
LedRec file own (kept.Promise f epoch) = (f ≡ file) × FitsEpoch epoch × (is_at_most own.promised epoch ≡ true)
LedRec file own (kept.Stage f object version bytes) = (f ≡ file) × IsObject object × FitsStamp version × FitsBytes bytes
LedRec file own _ = ⊥

pub record LedIs (file : FileId) (own : FileHead) (led : Led) : Type 0 where
  pub primary : PrimaryIs led.primary
  pub next : IfSome led.turned.rec (LedRec file own)
  pub outs : AreSent led.turned.outs

pub record GroundIs (g : Ground) : Type 0 where
  pub who : FitsNode g.place.node
  pub which : FitsFile g.place.file
  pub stands : FitsHead g.own
  pub bodies : AreBodies g.body

lower_at_most : (a b : Epoch) → a.number < b.number → is_at_most a b ≡ true
lower_at_most a b low = grind (arith, nat_tests)

above_both : (a b : ℕ) → a < 1 + max a b
above_both a b = omega arith

-- an epoch is drawn
pub drawn_is : (place : Place) (learnt : ℕ) (own : FileHead) (members : List NodeId) → FitsNode place.node → FitsFile place.file → IsCount learnt → AllByRecursion FitsNode members → length members ≤ 9
    → LedIs place.file own (draw_epoch place learnt own members)
unfolding draw_epoch
drawn_is place learnt own members who which number all few =
    when (LedIs place.file own) (nat_lt (epoch_above place learnt own).number COUNTS) _ _
    (λ room.
    let fits : FitsEpoch (epoch_above place learnt own) = record { place = below (1 + max own.promised.number learnt) room; primary = who } in
    record {
      primary = record {
        number = number;
        leads = record { place = fits; few = subst (λ n. n ≤ 9) (sym (unknown_count members)) few; each = unknown_are members all; stands = tt };
      };
      next = (refl, fits, lower_at_most own.promised (epoch_above place learnt own) (above_both own.promised.number learnt));
      outs = each_sent place.node members (payload.Gather place.file (epoch_above place learnt own)) who all (which, fits);
    })
    (λ full. record { primary = record { number = number; leads = tt }; next = tt; outs = tt })
  where
    below : (n : ℕ) → nat_lt n COUNTS ≡ true → n < 2 ^ 62
    below n less = grind (arith, nat_tests)

module _ (g : Ground) (learnt : ℕ) (ground : GroundIs g) (number : IsCount learnt) where
  abbrev Leads : Led → Type 0
  Leads led = LedIs g.place.file g.own led

  still : (t : Tenure) → TenureIs t → Leads (unmoved learnt t)
  still t is = record { primary = record { number = number; leads = is }; next = tt; outs = tt }

  -- ---- the chosen head

  fed_peers : (target : FileHead) (peers : List Peer) → FitsHead target → AllByRecursion PeerIs peers → AllByRecursion PeerIs (feed_peers g target peers)
  fed_peers target [] whole all = tt
  fed_peers target (p ∷ ps) whole all = ((all.0.0, at p.state all.0.1), fed_peers target ps whole all.1)
    where
      at : (s : PeerState) → PeerStateIs s → PeerStateIs (feed_peer g target p.node s)
      at peer.Unknown is = is
      at (peer.Reported head) is =
          either PeerStateIs (p.node.0 == g.place.node.0) (peer.Reported head) (fed g.body target (known_of_report head)) is (fed_is g.body target (known_of_report head) ground.bodies whole)
      at (peer.Feeding known object version body) is = is
      at (peer.Heading known head) is = is
      at peer.Current is = is

  fed_nodes : (target : FileHead) (peers : List Peer) → nodes_in (feed_peers g target peers) ≡ nodes_in peers
  fed_nodes target [] = refl
  fed_nodes target (p ∷ ps) = ap (λ ns. p.node.0 ∷ ns) (fed_nodes target ps)

  installs_is : (t : Tenure) (chosen : FileHead) → TenureIs t → FitsHead chosen → Leads (installs g learnt t chosen)
  installs_is t chosen is whole =
      let target = target_of g.own t.epoch chosen in
      let fits = target_is g.own t.epoch chosen ground.stands is.place whole in
      let peers = fed_peers target t.peers fits is.each in
      record {
        primary = record {
          number = number;
          leads = record { place = is.place; few = subst (λ ns. length ns ≤ 9) (sym (fed_nodes target t.peers)) is.few; each = peers; stands = (whole, omega arith) };
        };
        next = tt;
        outs = (
          sent g.place.node g.place.node (payload.Head g.place.file t.epoch target) ground.who ground.who (ground.which, is.place, fits),
          lasts_sent g.place t.epoch (feed_peers g target t.peers) ground.who ground.which is.place peers,
        );
      }

  fetches_is : (t : Tenure) (chosen : FileHead) (source : NodeId) (wanted : List ObjectVersion) → TenureIs t → FitsHead chosen → FitsNode source → AllByRecursion FitsVersion wanted
      → Leads (fetches g learnt t chosen source wanted)
  fetches_is t chosen source [] is whole from all = installs_is t chosen is whole
  fetches_is t chosen source (v ∷ later) is whole from all = record {
    primary = record { number = number; leads = record { place = is.place; few = is.few; each = is.each; stands = (whole, from, all.0, all.1) } };
    next = tt;
    outs = (sent g.place.node source (payload.Fetch g.place.file t.epoch v.object v.version) ground.who from (ground.which, is.place, all.0.which, all.0.write), tt);
  }

  wanted_are : (known wanted : List ObjectVersion) → AllByRecursion FitsVersion wanted → AllByRecursion FitsVersion (difference known wanted)
  unfolding difference
  wanted_are known wanted all = all_filter FitsVersion (λ (v : ObjectVersion). not (has_version known v)) wanted all

  chooses_is : (t : Tenure) (reports : List (NodeId × FileHead)) → TenureIs t → AllByRecursion ReportIs reports → Leads (chooses g learnt t reports)
  chooses_is t [] is all = still t is
  chooses_is t (first ∷ others) is all =
      let best = chosen_of g.place.node first others in
      let fits = each_in ReportIs (first ∷ others) best all (chosen_is g.place.node first others).one in
      either Leads (best.0.0 == g.place.node.0) _ _ (installs_is t best.1 is fits.1)
      (fetches_is t best.1 best.0 (difference (known_of_own g.held) best.1.versions) is fits.1 fits.0 (wanted_are (known_of_own g.held) best.1.versions fits.1.objects.each))

  -- ---- statuses

  counted_is : (t : Tenure) → TenureIs t → Leads (status_counted g learnt t)
  counted_is t is =
      either Leads (nat_le (majority_among t.peers) (statuses_counted t.peers)) _ _ (chooses_is t (reports_of t.peers) is (reports_are t.peers is.each)) (still t is)

  sends_peer : (t : Tenure) (node : NodeId) (state : PeerState) → TenureIs t → FitsNode node → PeerStateIs state → Leads (send_to_peer g learnt t node state)
  sends_peer t node state is to fits = record {
    primary = record { number = number; leads = state_put t node state fits is };
    next = tt;
    outs = any_sent g.place.node node (last_sent g.place.file t.epoch state) ground.who to (last_is g.place.file t.epoch state ground.which is.place fits);
  }

  feeds_is : (t : Tenure) (node : NodeId) (target : FileHead) (known : List ObjectVersion) → TenureIs t → FitsNode node → FitsHead target → Leads (feeds g learnt t node target known)
  feeds_is t node target known is to whole = sends_peer t node (fed g.body target known) is to (fed_is g.body target known ground.bodies whole)

  told_is : (t : Tenure) (p : Progress) (from : NodeId) (head : FileHead) → TenureIs t → ProgressIs t.peers p → FitsNode from → FitsHead head → Leads (take_status g learnt t p from head)
  told_is t progress.Gathering from head is stands to whole = counted_is (with_state t from (peer.Reported head)) (state_put t from (peer.Reported head) whole is)
  told_is t (progress.Fetching chosen source asked later) from head is stands to whole = still (with_state t from (peer.Reported head)) (state_put t from (peer.Reported head) whole is)
  told_is t (progress.Installing chosen acked) from head is stands to whole =
      feeds_is t from (target_of g.own t.epoch chosen) (known_of_report head) is to (target_is g.own t.epoch chosen ground.stands is.place stands.0)
  told_is t (progress.Active head issued) from reported is stands to whole = feeds_is t from g.own (known_of_report reported) is to ground.stands

-- ---- bodies

-- what a body is once a record is kept
newer_is : (before : List ℕ) (put : Option (List ℕ)) → FitsBytes before → IfSome put FitsBytes → FitsBytes (newer_body before put)
newer_is before None old new = old
newer_is before (Some bytes) old new = new

-- what the record of a body puts
put_is : (file : FileId) (held : List ObjectVersion) (object : ℕ) (version : Stamp) (bytes : List ℕ) (o : ℕ) (v : Stamp) → FitsBytes bytes → IfSome (body_put_by file o v (stage_record file held object version bytes)) FitsBytes
put_is file held object version bytes o v few =
    either (λ (r : Option Record). IfSome (body_put_by file o v r) FitsBytes) (has_version held (body_of object version)) None (Some (kept.Stage file object version bytes)) tt
    (either (λ (b : Option (List ℕ)). IfSome b FitsBytes) (is_file file file && (object == o) && is_stamp version v) (Some bytes) None few tt)

module _ (g : Ground) (learnt : ℕ) (ground : GroundIs g) (number : IsCount learnt) where
  abbrev Hears : Led → Type 0
  Hears led = LedIs g.place.file g.own led

  abbrev calm : (t : Tenure) → TenureIs t → Hears (unmoved learnt t)
  calm t is = still g learnt ground number t is

  -- a body is kept, and the next one is asked for
  fetched_is : (t : Tenure) (chosen : FileHead) (source : NodeId) (later : List ObjectVersion) (object : ℕ) (version : Stamp) (bytes : List ℕ) → TenureIs t → FitsHead chosen → FitsNode source → AllByRecursion FitsVersion later
      → IsObject object → FitsStamp version → FitsBytes bytes → Hears (take_body g learnt t chosen source later object version bytes)
  fetched_is t chosen source later object version bytes is whole from all small place few =
      let rec = stage_record g.place.file g.held object version bytes in
      let over : GroundIs (record g { body = body_beyond g.place.file rec g.body }) = record {
        who = ground.who;
        which = ground.which;
        stands = ground.stands;
        bodies = λ o v. newer_is (g.body o v) (body_put_by g.place.file o v rec) (ground.bodies o v) (put_is g.place.file g.held object version bytes o v few);
      } in
      let led = fetches_is (record g { body = body_beyond g.place.file rec g.body }) learnt over number t chosen source later is whole from all in
      record {
        primary = led.primary;
        next = either (λ o. IfSome o (LedRec g.place.file g.own)) (has_version g.held (body_of object version)) None (Some (kept.Stage g.place.file object version bytes)) tt (refl, small, place, few);
        outs = led.outs;
      }

  object_is : (t : Tenure) (p : Progress) (from : NodeId) (object : ℕ) (version : Stamp) (bytes : List ℕ) → TenureIs t → ProgressIs t.peers p → IsObject object → FitsStamp version → FitsBytes bytes
      → Hears (hears_object g learnt t p from object version bytes)
  object_is t progress.Gathering from object version bytes is stands small place few = calm t is
  object_is t (progress.Fetching chosen source asked later) from object version bytes is stands small place few =
      either Hears (from.0 == source.0 && is_version asked (body_of object version)) _ _ (fetched_is t chosen source later object version bytes is stands.0 stands.1 stands.3 small place few) (calm t is)
  object_is t (progress.Installing chosen acked) from object version bytes is stands small place few = calm t is
  object_is t (progress.Active head issued) from object version bytes is stands small place few = calm t is

  -- ---- feeding

  abbrev TargetIs : Option FileHead → Type 0
  TargetIs target = IfSome target FitsHead

  target_in_is : (t : Tenure) (p : Progress) → TenureIs t → ProgressIs t.peers p → TargetIs (target_in g.own t.epoch p)
  target_in_is t progress.Gathering is stands = tt
  target_in_is t (progress.Fetching chosen source asked later) is stands = tt
  target_in_is t (progress.Installing chosen acked) is stands = target_is g.own t.epoch chosen ground.stands is.place stands.0
  target_in_is t (progress.Active head issued) is stands = ground.stands

  staged_is : (t : Tenure) (target : Option FileHead) (from : NodeId) (state : PeerState) (v : ObjectVersion) → TenureIs t → TargetIs target → FitsNode from → Hears (body_staged g learnt t target from state v)
  staged_is t None from state v is whole to = calm t is
  staged_is t (Some target) from peer.Unknown v is whole to = calm t is
  staged_is t (Some target) from (peer.Reported head) v is whole to = calm t is
  staged_is t (Some target) from (peer.Feeding known object version body) v is whole to = feeds_is g learnt ground number t from target (with_held known v) is to whole
  staged_is t (Some target) from (peer.Heading known head) v is whole to = feeds_is g learnt ground number t from target (with_held known v) is to whole
  staged_is t (Some target) from peer.Current v is whole to = calm t is

  missed_is : (t : Tenure) (target : Option FileHead) (from : NodeId) (state : PeerState) (v : ObjectVersion) → TenureIs t → TargetIs target → FitsNode from → Hears (body_missed g learnt t target from state v)
  missed_is t None from state v is whole to = calm t is
  missed_is t (Some target) from peer.Unknown v is whole to = calm t is
  missed_is t (Some target) from (peer.Reported head) v is whole to = calm t is
  missed_is t (Some target) from (peer.Feeding known object version body) v is whole to = calm t is
  missed_is t (Some target) from (peer.Heading known head) v is whole to = feeds_is g learnt ground number t from target (without_version known v) is to whole
  missed_is t (Some target) from peer.Current v is whole to = calm t is

  draws_again : (t : Tenure) (more : ℕ) → TenureIs t → IsCount more → Hears (draw_epoch g.place more g.own (nodes_of t.peers))
  draws_again t more is count =
      drawn_is g.place more g.own (nodes_of t.peers) ground.who ground.which count (nodes_are t.peers is.each) (subst (λ n. n ≤ 9) (sym (nodes_count t.peers)) is.few)

  missing_is : (t : Tenure) (p : Progress) (from : NodeId) (state : PeerState) (v : ObjectVersion) → TenureIs t → ProgressIs t.peers p → FitsNode from → Hears (hears_missing g learnt t p from state v)
  missing_is t progress.Gathering from state v is stands to = missed_is t None from state v is tt to
  missing_is t (progress.Fetching chosen source asked later) from state v is stands to = either Hears (from.0 == source.0) _ _ (draws_again t learnt is number) (calm t is)
  missing_is t (progress.Installing chosen acked) from state v is stands to =
      missed_is t (Some (target_of g.own t.epoch chosen)) from state v is (target_is g.own t.epoch chosen ground.stands is.place stands.0) to
  missing_is t (progress.Active head issued) from state v is stands to = missed_is t (Some g.own) from state v is ground.stands to

  -- ---- acknowledgements

  -- a tenure that has come so far
  come_to : (t : Tenure) (p : Progress) → TenureIs t → ProgressIs t.peers p → TenureIs (record t { progress = p })
  come_to t p is stands = record { place = is.place; few = is.few; each = is.each; stands = stands }

  head_acked_is : (t : Tenure) (chosen : FileHead) (acked : List NodeId) → TenureIs t → FitsHead chosen → AckedIs t.peers acked → Hears (ack_head g learnt t chosen acked)
  head_acked_is t chosen acked is whole count =
      either Hears (carries g.place t.peers acked) _ _
      (record { primary = record { number = number; leads = come_to t (progress.Active g.own None) is (ground.stands, tt) }; next = tt; outs = tt })
      (calm (record t { progress = progress.Installing chosen acked }) (come_to t (progress.Installing chosen acked) is (whole, count)))

  committed_is : (t : Tenure) (update : Update) → TenureIs t → FitsUpdate update → Hears (committed g learnt t update)
  committed_is t update is fits = record {
    primary = record { number = number; leads = come_to t (progress.Active g.own None) is (ground.stands, tt) };
    next = tt;
    outs = (sent g.place.node update.id.client _ ground.who fits.operation.who (fits.operation.operation, ground.which, (fits.place.writes, fits.after, no_bytes)), tt);
  }

  update_acked_is : (t : Tenure) (head : FileHead) (update : Update) (acked : List NodeId) → TenureIs t → FitsHead head → FitsUpdate update → AckedIs t.peers acked → Hears (ack_update g learnt t head update acked)
  update_acked_is t head update acked is whole fits count =
      either Hears (carries g.place t.peers acked) _ _ (committed_is t update is fits)
      (calm (record t { progress = progress.Active head (Some (record { update = update; acked = acked })) })
      (come_to t (progress.Active head (Some (record { update = update; acked = acked }))) is (whole, (fits, count))))

  -- one of the peers has acknowledged too
  acked_more : (t : Tenure) (acked : List NodeId) (from : NodeId) (state : PeerState) → peer_in t.peers from ≡ Some state → AckedIs t.peers acked → AckedIs t.peers (with_node acked from)
  acked_more t acked from state found count = acked_fits (nodes_in t.peers) acked from (peer_listed t.peers from state found) count

  acked_below_is : (t : Tenure) (head : FileHead) (from : NodeId) (stamp : Stamp) (newly : Bool) (issued : Option IssuedUpdate) → TenureIs t → FitsHead head → IssuedIs t.peers issued → FitsNode from
      → ((acked : List NodeId) → AckedIs t.peers acked → AckedIs t.peers (with_node acked from)) → Hears (acked_below g learnt t head from stamp newly issued)
  acked_below_is t head from stamp newly None is whole written to more = calm t is
  acked_below_is t head from stamp newly (Some u) is whole written to more =
      either Hears (not (is_below stamp u.update.stamp)) _ _ (update_acked_is t head u.update (with_node u.acked from) is whole written.0 (more u.acked written.1))
      (either Hears newly _ _
      (record { primary = record { number = number; leads = is }; next = tt; outs = (sent g.place.node from (payload.Update g.place.file u.update) ground.who to (ground.which, written.0), tt) })
      (calm t is))

  -- the same of a tenure with other states of the same peers
  same_acked : (peers after : List Peer) (acked : List NodeId) → nodes_in after ≡ nodes_in peers → AckedIs peers acked → AckedIs after acked
  same_acked peers after acked same count = subst (λ ns. AckedFit ns acked) (sym same) count

  ack_is : (t : Tenure) (p : Progress) (from : NodeId) (state : PeerState) (newly : Bool) (stamp : Stamp) → peer_in t.peers from ≡ Some state → TenureIs t → ProgressIs t.peers p → FitsNode from
      → Hears (hears_ack g learnt t p from newly stamp)
  ack_is t progress.Gathering from state newly stamp found is stands to = calm t is
  ack_is t (progress.Fetching chosen source asked later) from state newly stamp found is stands to = calm t is
  ack_is t (progress.Installing chosen acked) from state newly stamp found is stands to =
      either Hears newly _ _
      (head_acked_is (with_state t from peer.Current) chosen (with_node acked from) (state_put t from peer.Current tt is) stands.0
      (same_acked t.peers (with_peer t.peers from peer.Current) (with_node acked from) (nodes_with t.peers from peer.Current) (acked_more t acked from state found stands.1)))
      (calm t is)
  ack_is t (progress.Active head issued) from state newly stamp found is stands to = at newly
    where
      at : (b : Bool) → Hears (acked_below g learnt (if b then with_state t from peer.Current else t) head from stamp newly issued)
      at true =
          acked_below_is (with_state t from peer.Current) head from stamp newly issued (state_put t from peer.Current tt is) stands.0
          (still_stands t.peers (with_peer t.peers from peer.Current) (progress.Active head issued) (nodes_with t.peers from peer.Current) stands).1 to
          (λ acked count. same_acked t.peers (with_peer t.peers from peer.Current) (with_node acked from) (nodes_with t.peers from peer.Current)
          (acked_more t acked from state found (same_acked (with_peer t.peers from peer.Current) t.peers acked (sym (nodes_with t.peers from peer.Current)) count)))
      at false = acked_below_is t head from stamp newly issued is stands.0 stands.1 to (λ acked count. acked_more t acked from state found count)

  -- ---- the other answers

  forgotten_is : (state : PeerState) → PeerStateIs state → PeerStateIs (forgotten state)
  forgotten_is peer.Unknown is = tt
  forgotten_is (peer.Reported head) is = is
  forgotten_is (peer.Feeding known object version body) is = tt
  forgotten_is (peer.Heading known head) is = tt
  forgotten_is peer.Current is = tt

  behind_is : (t : Tenure) (from : NodeId) (state : PeerState) → TenureIs t → FitsNode from → PeerStateIs state → Hears (peer_behind g learnt t from state)
  behind_is t from state is to fits = record {
    primary = record { number = number; leads = state_put t from (forgotten state) (forgotten_is state fits) is };
    next = tt;
    outs = (sent g.place.node from (payload.Gather g.place.file t.epoch) ground.who to (ground.which, is.place), tt);
  }

  outpromised_is : (t : Tenure) (promised : Epoch) → TenureIs t → FitsEpoch promised → Hears (outpromised g learnt t promised)
  outpromised_is t promised is fits =
      either Hears (is_earlier t.epoch promised) _ _ (draws_again t (max learnt promised.number) is (both learnt promised.number number fits.place)) (calm t is)
    where
      both : (a b : ℕ) → a < 2 ^ 62 → b < 2 ^ 62 → max a b < 2 ^ 62
      both a b x y = omega arith

  -- ---- a message to a primary

  peer_is : (t : Tenure) (from : NodeId) (state : PeerState) (content : Payload) → peer_in t.peers from ≡ Some state → TenureIs t → FitsNode from → FitsPayload content → Hears (hears_peer g learnt t from state content)
  peer_is t from state (payload.Status file epoch head) found is to fits =
      either Hears (is_unknown state) _ _ (told_is g learnt ground number t t.progress from head is is.stands to fits.2) (calm t is)
  peer_is t from state (payload.Object file epoch object version bytes) found is to fits = object_is t t.progress from object version bytes is is.stands fits.2 fits.3 fits.4
  peer_is t from state (payload.Staged file epoch object version) found is to fits =
      staged_is t (target_in g.own t.epoch t.progress) from state (body_of object version) is (target_in_is t t.progress is is.stands) to
  peer_is t from state (payload.Missing file epoch object version) found is to fits = missing_is t t.progress from state (body_of object version) is is.stands to
  peer_is t from state (payload.Ack file stamp) found is to fits = ack_is t t.progress from state (makes_current g.place from state stamp) stamp found is is.stands to
  peer_is t from state (payload.Behind file epoch stamp) found is to fits = behind_is t from state is to (state_is t.peers from state found is.each)
  peer_is t from state (payload.Refused file epoch promised) found is to fits = outpromised_is t promised is fits.2
  peer_is t from state _ found is to fits = calm t is

  member_is : (t : Tenure) (from : NodeId) (o : Option PeerState) (content : Payload) → peer_in t.peers from ≡ o → TenureIs t → FitsNode from → FitsPayload content → Hears (hears_member g learnt t from o content)
  member_is t from None content found is to fits = calm t is
  member_is t from (Some state) content found is to fits = peer_is t from state content found is to fits

  epoch_is : (t : Tenure) (from : NodeId) (o : Option Epoch) (content : Payload) → TenureIs t → FitsNode from → FitsPayload content → Hears (hears_epoch g learnt t from o content)
  epoch_is t from None content is to fits = calm t is
  epoch_is t from (Some epoch) content is to fits = either Hears (is_epoch epoch t.epoch) _ _ (member_is t from (peer_in t.peers from) content refl is to fits) (calm t is)

  pub hears_in_is : (o : Option Tenure) (from : NodeId) (content : Payload) → IfSome o TenureIs → FitsNode from → FitsPayload content → Hears (hears_in g learnt o from content)
  hears_in_is None from content is to fits = record { primary = record { number = number; leads = tt }; next = tt; outs = tt }
  hears_in_is (Some t) from content is to fits = epoch_is t from (message_epoch content) content is to fits

-- a message to a primary
pub hears_is : (g : Ground) (p : PrimaryState) (from : NodeId) (content : Payload) → GroundIs g → PrimaryIs p → FitsNode from → FitsPayload content → LedIs g.place.file g.own (hears g p from content)
unfolding hears
hears_is g p from content ground is to fits = hears_in_is g p.learnt ground is.number p.tenure from content is.leads to fits
