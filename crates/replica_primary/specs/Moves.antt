-- what a message makes of a tenure
use Rattle.std.specs.Prelude.{ℕ, Bool, true, false, ◌≡◌, ◌==◌, ◌&&◌, not, if◌then◌else◌, max, Option, Some, None, List, [], ◌∷◌, ◌++◌}
use Rattle.xt_base.specs.declared.ids.FileId.{FileId}
use Rattle.xt_base.specs.declared.ids.Epoch.{Epoch}
use Rattle.xt_base.specs.declared.ids.Stamp.{Stamp}
use Rattle.xt_base.specs.declared.ids.NodeId.{NodeId}
use Rattle.xt_messages.specs.declared.file.ObjectVersion.{ObjectVersion}
use Rattle.xt_messages.specs.declared.file.FileHead.{FileHead}
use Rattle.xt_messages.specs.declared.message.Payload.{Payload}
use Rattle.xt_messages.specs.declared.message.Payload.TheVariants as payload
use Rattle.xt_messages.specs.declared.record.Record.{Record}
use Rattle.xt_messages.specs.declared.record.Record.TheVariants as kept
use Rattle.xt_protocol.specs.SeenBodies.{body_by}
use Rattle.xt_protocol.specs.declared.states.Place.{Place}
use Rattle.xt_protocol.specs.declared.states.Peer.{Peer}
use Rattle.xt_protocol.specs.declared.states.PeerState.{PeerState}
use Rattle.xt_protocol.specs.Stamps.{is_earlier, is_version}
use Rattle.xt_protocol.specs.declared.states.Progress.{Progress}
use Rattle.xt_protocol.specs.declared.states.Progress.TheVariants as progress
use Rattle.xt_protocol.specs.declared.states.Tenure.{Tenure}
use Rattle.xt_protocol.specs.Primaries.{Ground, Led, is_reported, nodes_of, peer_in}
use Rattle.xt_protocol.specs.PrimaryRows.{after_keeping, body_beyond, body_missed, body_staged, draw_epoch, feeds, goes_on, installs, target_in, unmoved}
use Rattle.xt_protocol.specs.Turns.{quiet}
use Rattle.peer_searches.specs.declared.searches.Search.{Search}
use Rattle.peer_searches.specs.Sound.{AreSound}
use Rattle.replica_primary.specs.declared.moving.FetchedBody.{FetchedBody}
use Rattle.replica_primary.specs.declared.moving.Next.{Next}
use Rattle.replica_primary.specs.declared.moving.Next.TheVariants as step
use Rattle.replica_primary.specs.declared.moving.Heard.{Heard}
use Rattle.replica_primary.specs.declared.moving.Heard.TheVariants as heard

-- the peers in a tenure, if there is one
abbrev pub peers_under : Option Tenure → List Peer
peers_under None = []
peers_under (Some t) = t.peers

-- outpromised: a new epoch is drawn above the higher number
abbrev pub outpromised : ℕ → Epoch → Epoch → Heard
outpromised learnt epoch promised = if is_earlier epoch promised then heard.Redraws (max learnt promised.number) else heard.Counts quiet

-- the record of a body that was just fetched, where there is one
abbrev pub kept_of : FileId → Option FetchedBody → Option Record
kept_of file None = None
kept_of file (Some b) = Some (kept.Stage file b.object b.version b.bytes)

-- what a body is: the one that was just fetched, else the one that these records keep
abbrev pub body_seen : List Record → FileId → Option FetchedBody → ℕ → Stamp → List ℕ
body_seen records file fetched object version = body_beyond file (kept_of file fetched) (body_by records file) object version

-- what a primary may look at besides its tenure, if it sees the body that was just fetched
abbrev pub ground_beyond : Place → List Record → Option FetchedBody → FileHead → List ObjectVersion → Ground
ground_beyond place records fetched own held =
    record { place = place; own = own; held = held; body = body_beyond place.file (kept_of place.file fetched) (body_by records place.file) }

-- the same, of any ground
abbrev pub beyond : Ground → Option FetchedBody → Ground
beyond g fetched = record g { body = body_beyond g.place.file (kept_of g.place.file fetched) g.body }

-- the wanted versions, last first, are none; or the others and the next one
abbrev pub IsSplit : List ObjectVersion → Option (ObjectVersion × List ObjectVersion) → Type 0
IsSplit wanted None = wanted ≡ []
IsSplit wanted (Some s) = wanted ≡ s.1 ++ s.0 ∷ []

-- a peer is fed on, where something is known of it, and there is a head to which peers are brought
abbrev pub feeds_any : Ground → ℕ → Tenure → Option FileHead → NodeId → Option (List ObjectVersion) → Led
feeds_any g learnt t (Some target) from (Some known) = feeds g learnt t from target known
feeds_any g learnt t None from _ = unmoved learnt t
feeds_any g learnt t (Some target) from None = unmoved learnt t

-- a staged body, and a missed one, of a peer in this state
abbrev pub stages_in : Ground → ℕ → Tenure → NodeId → Option PeerState → ObjectVersion → Led
stages_in g learnt t from None v = unmoved learnt t
stages_in g learnt t from (Some state) v = body_staged g learnt t (target_in g.own t.epoch t.progress) from state v

abbrev pub misses_in : Ground → ℕ → Tenure → NodeId → Option PeerState → ObjectVersion → Led
misses_in g learnt t from None v = unmoved learnt t
misses_in g learnt t from (Some state) v = body_missed g learnt t (target_in g.own t.epoch t.progress) from state v

-- how a tenure goes on after a message from this node
abbrev pub next_of : Ground → ℕ → NodeId → Tenure → Next → Led
next_of g learnt from t (step.Gives turned) = goes_on learnt t turned
next_of g learnt from t (step.Feeds known) = feeds_any g learnt t (target_in g.own t.epoch t.progress) from (Some known)
next_of g learnt from t (step.Installs chosen fetched) = after_keeping (kept_of g.place.file fetched) (installs (beyond g fetched) learnt t chosen)

-- a primary that has heard a message from this node
abbrev pub led_by : Ground → ℕ → NodeId → Tenure → Heard → Led
led_by g learnt from t (heard.GoesOn n) = next_of g learnt from t n
led_by g learnt from t (heard.Counts turned) = goes_on learnt t turned
led_by g learnt from t (heard.Staged v) = stages_in g learnt t from (peer_in t.peers from) v
led_by g learnt from t (heard.Missed v) = misses_in g learnt t from (peer_in t.peers from) v
led_by g learnt from t (heard.Redraws above) = draw_epoch g.place above g.own (nodes_of t.peers)

-- what a primary takes in place, so that it is as it was after an error
abbrev pub is_light_led : Payload → Bool
is_light_led (payload.Ack file stamp) = true
is_light_led (payload.Staged file epoch object version) = true
is_light_led _ = false

-- What was heard of a message before a body is read for it. Of one that is taken in place either all is done, and the searches for what
-- peers lack are as sound as they were; or nothing is done yet.
abbrev pub IsHeardOf : Payload → Tenure → Tenure → Heard → Type 0
IsHeardOf content old new (heard.Counts turned) = (versions : List ObjectVersion) (searches : List Search) → AreSound versions old.peers searches → AreSound versions new.peers searches
IsHeardOf content old new (heard.Staged v) = new ≡ old
IsHeardOf content old new (heard.GoesOn n) = is_light_led content ≡ false
IsHeardOf content old new (heard.Missed v) = is_light_led content ≡ false
IsHeardOf content old new (heard.Redraws above) = is_light_led content ≡ false

-- whether a message is one that reports what became of a body that was sent, is an acknowledgement, or ends a tenure
abbrev pub is_apart : Payload → Bool
is_apart (payload.Staged file epoch object version) = true
is_apart (payload.Missing file epoch object version) = true
is_apart (payload.Ack file stamp) = true
is_apart (payload.Refused file epoch promised) = true
is_apart _ = false

-- a report, where there is one
abbrev pub any_report : Option (NodeId × FileHead) → List (NodeId × FileHead)
any_report None = []
any_report (Some report) = report ∷ []

-- from whom bodies are fetched, if they are
abbrev pub source_in : Progress → Option NodeId
source_in (progress.Fetching chosen source asked later) = Some source
source_in progress.Gathering = None
source_in (progress.Installing chosen acked) = None
source_in (progress.Active committed issued) = None

-- whether this is the version that was asked for last, from its source
abbrev pub is_asked : Progress → NodeId → ObjectVersion → Bool
is_asked (progress.Fetching chosen source asked later) from version = from.0 == source.0 && is_version asked version
is_asked _ from version = false

-- whether this is another peer than the own node, and has reported
abbrev pub is_to_feed : Place → Peer → Bool
is_to_feed place p = is_reported p.state && not (p.node.0 == place.node.0)
