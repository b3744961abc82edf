-- what the rows of a primary mark: acts on its file
use Rattle.std.proofs.Common.{ℕ, refl, List, [], ◌∷◌, ◌++◌, Bool, true, false}
use Rattle.std.specs.Prelude.{Option, Some, None, cond, not, ◌&&◌, ◌==◌, max, nat_lt, nat_le, is_some, fold}
use Rattle.xt_base.specs.declared.ids.NodeId.{NodeId}
use Rattle.xt_base.specs.declared.ids.FileId.{FileId}
use Rattle.xt_base.specs.declared.ids.OpId.{OpId}
use Rattle.xt_base.specs.declared.ids.Epoch.{Epoch}
use Rattle.xt_base.specs.declared.ids.Stamp.{Stamp}
use Rattle.xt_messages.specs.declared.file.ObjectVersion.{ObjectVersion}
use Rattle.xt_messages.specs.declared.file.FileHead.{FileHead}
use Rattle.xt_messages.specs.declared.file.Update.{Update}
use Rattle.xt_messages.specs.declared.file.Op.{Op}
use Rattle.xt_messages.specs.declared.reply.Reply.{Reply}
use Rattle.xt_messages.specs.declared.reply.Reply.TheVariants as reply
use Rattle.xt_messages.specs.declared.message.Payload.{Payload}
use Rattle.xt_messages.specs.declared.message.Payload.TheVariants as payload
use Rattle.xt_protocol.specs.declared.turned.Turned.{Turned}
use Rattle.xt_base.specs.declared.TheConstants.{COUNTS}
use Rattle.xt_protocol.specs.declared.states.Place.{Place}
use Rattle.xt_protocol.specs.declared.states.WaitingAsk.{WaitingAsk}
use Rattle.xt_protocol.specs.declared.states.IssuedUpdate.{IssuedUpdate}
use Rattle.xt_protocol.specs.declared.states.Asks.{Asks}
use Rattle.xt_protocol.specs.declared.states.PeerState.{PeerState}
use Rattle.xt_protocol.specs.declared.states.PeerState.TheVariants as peer
use Rattle.xt_protocol.specs.declared.states.Progress.{Progress}
use Rattle.xt_protocol.specs.declared.states.Progress.TheVariants as progress
use Rattle.xt_protocol.specs.declared.states.PrimaryState.{PrimaryState}
use Rattle.xt_protocol.specs.declared.states.Tenure.{Tenure}
use Rattle.xt_protocol.specs.Turns.{joined}
use Rattle.xt_protocol.specs.Stamps.{is_epoch, is_earlier, is_below, is_version, has_version}
use Rattle.xt_protocol.specs.Writes.{WriteStanding, repeated, older, turned_away, fresh}
use Rattle.xt_protocol.specs.Primaries.{Ground, Led, carries, is_unknown, is_ready, known_of_report, majority_among, nodes_of, peer_in, reports_of, statuses_counted, target_of, with_node}
use Rattle.xt_protocol.specs.PrimaryRows.{draw_epoch, epoch_above, installs, fetches, choose_head, chooses, status_counted, feeds, take_status, with_state, hears_status, take_body, body_beyond, hears_object, body_staged, body_missed, hears_missing, target_in, ack_head, ack_update, acked_below, hears_ack, makes_current, outpromised, hears_peer, hears_member, hears_epoch, hears_in, message_epoch, hears}
use Rattle.xt_protocol.specs.ReplicaRows.{stage_record}
use Rattle.xt_protocol.specs.Folds.{body_of}
use Rattle.xt_protocol.specs.Serving.{issues, issues_unless, write_stands, writes_in, writes_under, writes, next_update_of, reads}
use Rattle.xt_protocol.specs.Asks.{Served, asks_follow, is_read, read_answer, serves, serves_all, serves_waiting, stays, write_done}
use Rattle.xt_messages.specs.declared.event.Mark.{Mark}
use Rattle.xt_messages.specs.declared.record.Record.{Record}
use Rattle.xt_messages.specs.declared.record.Record.TheVariants as kept
use Rattle.xt_protocol.specs.Turns.{the_record}
use Rattle.lease_runs.specs.ActsView.{AreActs, RecordIs}

-- a record of the file, that stores no list
abbrev pub IsData : FileId → Option Record → Type 0
IsData file rec = (content : Payload) → RecordIs file content rec

-- what a row gives: its marks are acts on the file, and its record stores no list
pub record Acts (file : FileId) (t : Turned) : Type 0 where
  pub marks : AreActs file.number t.marks
  pub plain : IsData file t.rec

either : {file : FileId} (b : Bool) (x y : Led) → Acts file x.turned → Acts file y.turned → Acts file (cond b x y).turned
either true x y p q = p
either false x y p q = q

pub stage_data : (file : FileId) (here : List ObjectVersion) (object : ℕ) (version : Stamp) (bytes : List ℕ) → IsData file (stage_record file here object version bytes)
stage_data file here object version bytes c = one_of (has_version here (body_of object version))
  where
    one_of : (b : Bool) → RecordIs file c (cond b None (Some (kept.Stage file object version bytes)))
    one_of true = tt
    one_of false = refl

-- A tenure begins.

pub drawn_acts : (place : Place) (learnt : ℕ) (own : FileHead) (members : List NodeId) → Acts place.file (draw_epoch place learnt own members).turned
unfolding draw_epoch
drawn_acts place learnt own members =
    either (nat_lt (epoch_above place learnt own).number COUNTS) _ _
    (record { marks = tt; plain = λ c. refl })
    (record { marks = tt; plain = λ c. tt })

installs_acts : (g : Ground) (learnt : ℕ) (t : Tenure) (chosen : FileHead) → Acts g.place.file (installs g learnt t chosen).turned
installs_acts g learnt t chosen =
    (record { marks = tt; plain = λ c. tt })

fetches_acts : (g : Ground) (learnt : ℕ) (t : Tenure) (chosen : FileHead) (source : NodeId) (wanted : List ObjectVersion)
    → Acts g.place.file (fetches g learnt t chosen source wanted).turned
fetches_acts g learnt t chosen source [] = installs_acts g learnt t chosen
fetches_acts g learnt t chosen source (v ∷ later) = record { marks = tt; plain = λ c. tt }

chosen_acts : (g : Ground) (learnt : ℕ) (t : Tenure) (best : NodeId × FileHead) → Acts g.place.file (choose_head g learnt t best).turned
chosen_acts g learnt t best =
    either (best.0.0 == g.place.node.0) _ _ (installs_acts g learnt t best.1) (fetches_acts g learnt t best.1 best.0 _)

chooses_acts : (g : Ground) (learnt : ℕ) (t : Tenure) (reports : List (NodeId × FileHead)) → Acts g.place.file (chooses g learnt t reports).turned
chooses_acts g learnt t [] = record { marks = tt; plain = λ c. tt }
chooses_acts g learnt t (first ∷ others) = chosen_acts g learnt t _

-- Statuses.

counted_acts : (g : Ground) (learnt : ℕ) (t : Tenure) → Acts g.place.file (status_counted g learnt t).turned
counted_acts g learnt t =
    either (nat_le (majority_among t.peers) (statuses_counted t.peers)) _ _ (chooses_acts g learnt t (reports_of t.peers)) (record { marks = tt; plain = λ c. tt })

feeds_acts : (g : Ground) (learnt : ℕ) (t : Tenure) (node : NodeId) (target : FileHead) (known : List ObjectVersion)
    → Acts g.place.file (feeds g learnt t node target known).turned
feeds_acts g learnt t node target known = record { marks = tt; plain = λ c. tt }

told_acts : (g : Ground) (learnt : ℕ) (t : Tenure) (p : Progress) (from : NodeId) (head : FileHead) → Acts g.place.file (take_status g learnt t p from head).turned
told_acts g learnt t progress.Gathering from head = counted_acts g learnt (with_state t from (peer.Reported head))
told_acts g learnt t (progress.Fetching chosen source asked later) from head = record { marks = tt; plain = λ c. tt }
told_acts g learnt t (progress.Installing chosen acked) from head = feeds_acts g learnt t from (target_of g.own t.epoch chosen) (known_of_report head)
told_acts g learnt t (progress.Active committed issued) from head = feeds_acts g learnt t from g.own (known_of_report head)

status_acts : (g : Ground) (learnt : ℕ) (t : Tenure) (from : NodeId) (state : PeerState) (head : FileHead) → Acts g.place.file (hears_status g learnt t from state head).turned
status_acts g learnt t from state head = either (is_unknown state) _ _ (told_acts g learnt t t.progress from head) (record { marks = tt; plain = λ c. tt })

-- Fetching and feeding.

fetched_acts : (g : Ground) (learnt : ℕ) (t : Tenure) (chosen : FileHead) (source : NodeId) (later : List ObjectVersion) (object : ℕ) (version : Stamp)
    (bytes : List ℕ) → Acts g.place.file (take_body g learnt t chosen source later object version bytes).turned
fetched_acts g learnt t chosen source later object version bytes =
    let p = fetches_acts (record g { body = body_beyond g.place.file (stage_record g.place.file g.held object version bytes) g.body }) learnt t chosen source later in
    record { marks = p.marks; plain = stage_data g.place.file g.held object version bytes }

object_acts : (g : Ground) (learnt : ℕ) (t : Tenure) (p : Progress) (from : NodeId) (object : ℕ) (version : Stamp) (bytes : List ℕ)
    → Acts g.place.file (hears_object g learnt t p from object version bytes).turned
object_acts g learnt t (progress.Fetching chosen source asked later) from object version bytes =
    either (from.0 == source.0 && is_version asked (body_of object version)) _ _ (fetched_acts g learnt t chosen source later object version bytes)
    (record { marks = tt; plain = λ c. tt })
object_acts g learnt t _ from object version bytes = record { marks = tt; plain = λ c. tt }

staged_acts : (g : Ground) (learnt : ℕ) (t : Tenure) (target : Option FileHead) (from : NodeId) (state : PeerState) (v : ObjectVersion)
    → Acts g.place.file (body_staged g learnt t target from state v).turned
staged_acts g learnt t (Some target) from (peer.Feeding known object version body) v = feeds_acts g learnt t from target _
staged_acts g learnt t (Some target) from (peer.Heading known head) v = feeds_acts g learnt t from target _
staged_acts g learnt t _ from _ v = record { marks = tt; plain = λ c. tt }

missed_acts : (g : Ground) (learnt : ℕ) (t : Tenure) (target : Option FileHead) (from : NodeId) (state : PeerState) (v : ObjectVersion)
    → Acts g.place.file (body_missed g learnt t target from state v).turned
missed_acts g learnt t (Some target) from (peer.Heading known head) v = feeds_acts g learnt t from target _
missed_acts g learnt t _ from _ v = record { marks = tt; plain = λ c. tt }

missing_acts : (g : Ground) (learnt : ℕ) (t : Tenure) (p : Progress) (from : NodeId) (state : PeerState) (v : ObjectVersion)
    → Acts g.place.file (hears_missing g learnt t p from state v).turned
missing_acts g learnt t (progress.Fetching chosen source asked later) from state v =
    either (from.0 == source.0) _ _ (drawn_acts g.place learnt g.own (nodes_of t.peers)) (record { marks = tt; plain = λ c. tt })
missing_acts g learnt t p from state v = missed_acts g learnt t (target_in g.own t.epoch p) from state v

-- Acknowledgements.

head_acked_acts : (g : Ground) (learnt : ℕ) (t : Tenure) (chosen : FileHead) (acked : List NodeId) → Acts g.place.file (ack_head g learnt t chosen acked).turned
head_acked_acts g learnt t chosen acked = either (carries g.place t.peers acked) _ _ (record { marks = (refl, tt); plain = λ c. tt }) (record { marks = tt; plain = λ c. tt })

update_acked_acts : (g : Ground) (learnt : ℕ) (t : Tenure) (head : FileHead) (update : Update) (acked : List NodeId)
    → Acts g.place.file (ack_update g learnt t head update acked).turned
update_acked_acts g learnt t head update acked =
    either (carries g.place t.peers acked) _ _ (record { marks = (refl, (refl, tt)); plain = λ c. tt }) (record { marks = tt; plain = λ c. tt })

acked_below_acts : (g : Ground) (learnt : ℕ) (t : Tenure) (head : FileHead) (from : NodeId) (stamp : Stamp) (newly : Bool) (issued : Option IssuedUpdate)
    → Acts g.place.file (acked_below g learnt t head from stamp newly issued).turned
acked_below_acts g learnt t head from stamp newly None = record { marks = tt; plain = λ c. tt }
acked_below_acts g learnt t head from stamp newly (Some issued) =
    either (not (is_below stamp issued.update.stamp)) _ _ (update_acked_acts g learnt t head issued.update (with_node issued.acked from))
    (either newly _ _ (record { marks = tt; plain = λ c. tt }) (record { marks = tt; plain = λ c. tt }))

ack_acts : (g : Ground) (learnt : ℕ) (t : Tenure) (p : Progress) (from : NodeId) (newly : Bool) (stamp : Stamp) → Acts g.place.file (hears_ack g learnt t p from newly stamp).turned
ack_acts g learnt t (progress.Installing chosen acked) from newly stamp =
    either newly _ _ (head_acked_acts g learnt (with_state t from peer.Current) chosen (with_node acked from)) (record { marks = tt; plain = λ c. tt })
ack_acts g learnt t (progress.Active head issued) from newly stamp = acked_below_acts g learnt _ head from stamp newly issued
ack_acts g learnt t _ from newly stamp = record { marks = tt; plain = λ c. tt }

outpromised_acts : (g : Ground) (learnt : ℕ) (t : Tenure) (promised : Epoch) → Acts g.place.file (outpromised g learnt t promised).turned
outpromised_acts g learnt t promised =
    either (is_earlier t.epoch promised) _ _ (drawn_acts g.place (max learnt promised.number) g.own (nodes_of t.peers)) (record { marks = tt; plain = λ c. tt })

-- A message to a primary.

peer_acts : (g : Ground) (learnt : ℕ) (t : Tenure) (from : NodeId) (state : PeerState) (content : Payload) → Acts g.place.file (hears_peer g learnt t from state content).turned
peer_acts g learnt t from state (payload.Status file epoch head) = status_acts g learnt t from state head
peer_acts g learnt t from state (payload.Object file epoch object version bytes) = object_acts g learnt t t.progress from object version bytes
peer_acts g learnt t from state (payload.Staged file epoch object version) = staged_acts g learnt t (target_in g.own t.epoch t.progress) from state _
peer_acts g learnt t from state (payload.Missing file epoch object version) = missing_acts g learnt t t.progress from state _
peer_acts g learnt t from state (payload.Ack file stamp) = ack_acts g learnt t t.progress from (makes_current g.place from state stamp) stamp
peer_acts g learnt t from state (payload.Behind file epoch stamp) = record { marks = tt; plain = λ c. tt }
peer_acts g learnt t from state (payload.Refused file epoch promised) = outpromised_acts g learnt t promised
peer_acts g learnt t from state _ = record { marks = tt; plain = λ c. tt }

member_acts : (g : Ground) (learnt : ℕ) (t : Tenure) (from : NodeId) (state : Option PeerState) (content : Payload)
    → Acts g.place.file (hears_member g learnt t from state content).turned
member_acts g learnt t from None content = record { marks = tt; plain = λ c. tt }
member_acts g learnt t from (Some state) content = peer_acts g learnt t from state content

epoch_acts : (g : Ground) (learnt : ℕ) (t : Tenure) (from : NodeId) (told : Option Epoch) (content : Payload) → Acts g.place.file (hears_epoch g learnt t from told content).turned
epoch_acts g learnt t from None content = record { marks = tt; plain = λ c. tt }
epoch_acts g learnt t from (Some epoch) content =
    either (is_epoch epoch t.epoch) _ _ (member_acts g learnt t from (peer_in t.peers from) content) (record { marks = tt; plain = λ c. tt })

in_acts : (g : Ground) (learnt : ℕ) (t : Option Tenure) (from : NodeId) (content : Payload) → Acts g.place.file (hears_in g learnt t from content).turned
in_acts g learnt None from content = record { marks = tt; plain = λ c. tt }
in_acts g learnt (Some t) from content = epoch_acts g learnt t from (message_epoch content) content

pub hears_acts : (g : Ground) (p : PrimaryState) (from : NodeId) (content : Payload) → Acts g.place.file (hears g p from content).turned
unfolding hears
hears_acts g p from content = in_acts g p.learnt p.tenure from content

-- Serving.

issues_acts : (g : Ground) (learnt : ℕ) (t : Tenure) (head : FileHead) (u : Option Update) → Acts g.place.file (issues g learnt t head u).turned
issues_acts g learnt t head None = record { marks = tt; plain = λ c. tt }
issues_acts g learnt t head (Some update) =
    (record { marks = (refl, tt); plain = λ c. tt })

abbrev ActsIfAny : FileId → Option Led → Type 0
ActsIfAny file None = Unit {0}
ActsIfAny file (Some led) = Acts file led.turned

unless_acts : (g : Ground) (learnt : ℕ) (t : Tenure) (head : FileHead) (issued : Option IssuedUpdate) (id : OpId) (epoch : ℕ) (asked : Op)
    → ActsIfAny g.place.file (issues_unless g learnt t head issued id epoch asked)
unless_acts g learnt t head (Some issued) id epoch asked = tt
unless_acts g learnt t head None id epoch asked = issues_acts g learnt t head (next_update_of g t head id epoch asked)

stands_acts : (g : Ground) (learnt : ℕ) (t : Tenure) (head : FileHead) (issued : Option IssuedUpdate) (id : OpId) (epoch : ℕ) (asked : Op) (how : WriteStanding)
    → ActsIfAny g.place.file (write_stands g learnt t head issued id epoch asked how)
stands_acts g learnt t head issued id epoch asked (repeated count) = record { marks = (refl, tt); plain = λ c. tt }
stands_acts g learnt t head issued id epoch asked older = record { marks = tt; plain = λ c. tt }
stands_acts g learnt t head issued id epoch asked (turned_away why) = record { marks = tt; plain = λ c. tt }
stands_acts g learnt t head issued id epoch asked fresh = unless_acts g learnt t head issued id epoch asked

writes_in_acts : (g : Ground) (learnt : ℕ) (t : Tenure) (p : Progress) (id : OpId) (epoch : ℕ) (asked : Op) → ActsIfAny g.place.file (writes_in g learnt t p id epoch asked)
writes_in_acts g learnt t (progress.Active head issued) id epoch asked = stands_acts g learnt t head issued id epoch asked _
writes_in_acts g learnt t progress.Gathering id epoch asked = tt
writes_in_acts g learnt t (progress.Fetching chosen source wanted later) id epoch asked = tt
writes_in_acts g learnt t (progress.Installing chosen acked) id epoch asked = tt

writes_under_acts : (g : Ground) (learnt : ℕ) (t : Option Tenure) (id : OpId) (epoch : ℕ) (asked : Op) → ActsIfAny g.place.file (writes_under g learnt t id epoch asked)
writes_under_acts g learnt None id epoch asked = tt
writes_under_acts g learnt (Some t) id epoch asked = writes_in_acts g learnt t t.progress id epoch asked

writes_acts : (g : Ground) (p : PrimaryState) (id : OpId) (epoch : ℕ) (asked : Op) → ActsIfAny g.place.file (writes g p id epoch asked)
unfolding writes
writes_acts g p id epoch asked = writes_under_acts g p.learnt p.tenure id epoch asked

both_marks : (number : ℕ) (xs ys : List Mark) → AreActs number xs → AreActs number ys → AreActs number (xs ++ ys)
both_marks number [] ys p q = q
both_marks number (x ∷ xs) ys p q = (p.0, both_marks number xs ys p.1 q)

pub one_data : (file : FileId) (a b : Option Record) → IsData file a → IsData file b → IsData file (the_record a b)
one_data file None b p q = q
one_data file (Some rec) b p q = p

pub both_acts : (file : FileId) (a b : Turned) → Acts file a → Acts file b → Acts file (joined a b)
both_acts file a b p q = record { marks = both_marks file.number a.marks b.marks p.marks q.marks; plain = one_data file a.rec b.rec p.plain q.plain }

either_served : {file : FileId} (b : Bool) (x y : Served) → Acts file x.turned → Acts file y.turned → Acts file (cond b x y).turned
either_served true x y p q = p
either_served false x y p q = q

read_acts : (g : Ground) (id : OpId) (answer : Option Reply) → Acts g.place.file (read_answer g id answer)
read_acts g id (Some (reply.Ok count size bytes)) = record { marks = (refl, tt); plain = λ c. tt }
read_acts g id _ = record { marks = tt; plain = λ c. tt }

done_acts : (g : Ground) (s : Served) (ask : WaitingAsk) (led : Option Led) (left : Asks) → Acts g.place.file s.turned → ActsIfAny g.place.file led → Acts g.place.file (write_done s ask led left).turned
done_acts g s ask None left p q = p
done_acts g s ask (Some led) left p q = both_acts g.place.file s.turned led.turned p q

pub served_acts : (g : Ground) (s : Served) (ask : WaitingAsk) (left : Asks) → Acts g.place.file s.turned → Acts g.place.file (serves g s ask left).turned
served_acts g s ask left p =
    either_served (is_read ask.op) _ _
    (both_acts g.place.file s.turned (read_answer g ask.id (reads g s.primary ask.op)) p (read_acts g ask.id (reads g s.primary ask.op)))
    (done_acts g s ask (writes g s.primary ask.id ask.epoch ask.op) left p (writes_acts g s.primary ask.id ask.epoch ask.op))

waiting_acts : (g : Ground) (s : Served) (ask : WaitingAsk) → Acts g.place.file s.turned → Acts g.place.file (serves_waiting g s ask).turned
waiting_acts g s ask p = either_served (not (is_read ask.op) && is_some s.asks.issued) _ _ p (served_acts g s ask (stays s.asks ask) p)

fold_acts : (g : Ground) (s : Served) (waiting : List WaitingAsk) → Acts g.place.file s.turned → Acts g.place.file (fold (serves_waiting g) s waiting).turned
fold_acts g s [] p = p
fold_acts g s (ask ∷ asks) p = fold_acts g (serves_waiting g s ask) asks (waiting_acts g s ask p)

all_acts : (g : Ground) (p : PrimaryState) (waiting : List WaitingAsk) → Acts g.place.file (serves_all g p waiting).turned
unfolding serves_all
all_acts g p waiting = fold_acts g _ waiting (record { marks = tt; plain = λ c. tt })

pub follow_acts : (g : Ground) (before : Option Tenure) (asks : Asks) (led : Led) → Acts g.place.file led.turned → Acts g.place.file (asks_follow g before asks led).turned
follow_acts g before asks led p =
    either_served (is_ready led.primary.tenure && not (is_ready before)) _ _
    (both_acts g.place.file led.turned (serves_all g led.primary asks.waiting).turned p (all_acts g led.primary asks.waiting)) p
