-- What a step of a file at an OSD shows in the world of heads of that file.
use Rattle.std.specs.Prelude.{◌⊎◌, ◌≡◌, ℕ, List, map, Option, Some, None}
use Rattle.xt_base.specs.declared.ids.NodeId.{NodeId}
use Rattle.xt_messages.specs.declared.file.Kind.TheVariants as kind
use Rattle.xt_messages.specs.declared.file.Location.{Location}
use Rattle.xt_messages.specs.declared.file.Op.{Op}
use Rattle.xt_messages.specs.declared.message.Payload.{Payload}
use Rattle.xt_messages.specs.declared.message.Payload.TheVariants as payload
use Rattle.xt_messages.specs.declared.message.Msg.{Msg}
use Rattle.xt_messages.specs.declared.record.Record.{Record}
use Rattle.xt_protocol.specs.declared.turned.Turned.{Turned}
use Rattle.xt_messages.specs.declared.record.FileRow.{FileRow}
use Rattle.xt_protocol.specs.LeaseRows.{Awake}
use Rattle.osd_invariants.specs.Sound.{IsSound, IsHeld}
use Rattle.xt_protocol.specs.FileStates.{FileState, Site, FileStep, file_from, and_then}
use Rattle.xt_protocol.specs.FileSteps.{step_of_file, wake_of_file}
use Rattle.xt_protocol.specs.Overdue.{expired}
use Rattle.xt_protocol.specs.PrimaryRows.{body_beyond}
use Rattle.xt_protocol.specs.ReplicaRows.{kept_after}
use Rattle.xt_protocol.specs.Turns.{quiet}
use Rattle.xt_protocol.specs.declared.states.Tenure.{Tenure}
use Rattle.replica_safety.specs.Lists.{Has, AreDistinct}
use Rattle.replica_runs.specs.HeadSteps.{Step, MayAll, after_steps}
use Rattle.replica_runs.specs.HeadWorld.{Message, shown, Entry, Local}
use Rattle.replica_runs.specs.AskFits.{AskFits, AsksFit}
use Rattle.replica_runs.specs.Seen.{Seen, local_of, AreIn, AreTold, AreUntold, Shows, Fits, OwnFits}

-- A step leads here: it keeps its record, leaves this tenure, and shows; and what holds goes on to hold.
pub record Reaches (stripe : ℕ) (ops : ℕ × ℕ → Op) (members : List ℕ) (n : ℕ) (a : Seen) (tenure : Option Tenure) (turned : Turned) : Type 0 where
  pub behind : Seen
  pub shows : Shows stripe ops members n a behind turned
  pub kept : behind.kept ≡ kept_after a.kept turned.rec
  pub body : behind.body ≡ body_beyond a.kept.file turned.rec a.body
  pub is_tenure : behind.tenure ≡ tenure
  pub fits : Fits members n behind
  -- a step that keeps something reports nothing
  pub calm : (turned.rec ≡ None) ⊎ AreUntold turned.marks

-- and a step of a file leads to its state
pub record FileReaches (stripe : ℕ) (ops : ℕ × ℕ → Op) (members : List ℕ) (n : ℕ) (a : Seen) (step : FileStep) : Type 0 where
  pub reach : Reaches stripe ops members n a step.state.primary.tenure step.turned
  pub kept : step.state.kept ≡ kept_after a.kept step.turned.rec

-- A file at its node, with what is seen of the rest. A lease that has lapsed by now isn't seen, and so no tenure under it.
abbrev pub seen_of : Site → FileState → Option ℕ → List Message → List Entry → Seen
seen_of site s holder sent entries =
    record { kept = s.kept; body = site.body s.kept.file; tenure = s.primary.tenure; holder = holder; sent = sent; entries = entries }

abbrev pub settled : Site → FileState → FileState
settled site s = (expired site s).state

-- ---- premises of a step

-- the list is this version's, of a replicated file
abbrev pub IsList : ℕ → List ℕ → Location → Type 0
IsList stripe members location =
    (location.stripe ≡ stripe) × (map (λ (m : NodeId). m.0) location.members ≡ members) × (location.kind ≡ kind.Replicated)

abbrev pub ListFits : ℕ → List ℕ → Option Location → Type 0
ListFits stripe members None = Unit {0}
ListFits stripe members (Some location) = IsList stripe members location

-- What holds of a file's state: it is sound, its list is the one of this version, and its asks are within their limits.
pub record IsOrderly (stripe : ℕ) (ops : ℕ × ℕ → Op) (members : List ℕ) (s : FileState) : Type 0 where
  pub sound : IsSound s
  pub list : ListFits stripe members s.kept.location
  pub asks : AsksFit stripe ops s.asks

-- nobody but this node holds
abbrev pub IsFree : ℕ → Option ℕ → Type 0
IsFree n holder = (m : ℕ) → holder ≡ Some m → m ≡ n

-- an ask is of a capability for this version of the list, and within its limits
abbrev pub AskComes : ℕ → (ℕ × ℕ → Op) → List ℕ → NodeId → Payload → Type 0
AskComes stripe ops members from (payload.Ask number capability asked) =
    IsList stripe members capability.location
    × ((deadline : ℕ) → AskFits stripe ops (record { id = record { client = from; number = number }; epoch = capability.epoch; op = asked; deadline = deadline }))
AskComes stripe ops members from _ = Unit {0}

-- Each step of a file is a list of small steps: a message that was sent, and a Wake. A step that leaves the lease held is one while
-- nobody else holds.
pub record ShowsFile (stripe : ℕ) (ops : ℕ × ℕ → Op) (members : List ℕ) (site : Site) (s : FileState) (holder : Option ℕ) (sent : List Message) (entries : List Entry) : Type 0 where
  pub message : (from : NodeId) (content : Payload) → AreIn (shown from.0 content) sent → OwnFits site.node.0 (settled site s).kept.held from content
      → AskComes stripe ops members from content
      → (IsHeld (step_of_file site s from content).state.lease → IsFree site.node.0 holder)
      → FileReaches stripe ops members site.node.0 (seen_of site (settled site s) holder sent entries) (step_of_file site s from content)
  pub wake : FileReaches stripe ops members site.node.0 (seen_of site (settled site s) holder sent entries) (and_then (expired site s) (wake_of_file site))

abbrev pub AlwaysShowsFile : Type 0
AlwaysShowsFile =
    (stripe : ℕ) (ops : ℕ × ℕ → Op) (members : List ℕ) (site : Site) (s : FileState) (holder : Option ℕ) (sent : List Message) (entries : List Entry) → AreDistinct members
    → IsOrderly stripe ops members (settled site s) → Fits members site.node.0 (seen_of site (settled site s) holder sent entries)
    → ShowsFile stripe ops members site s holder sent entries

-- ---- a stop

-- A node that stops after a step, however few of its messages got out: the list of small steps, and then the loss of the lease.
-- Where the step keeps a record it reports nothing, so a stop in its append, with the record kept, is the same.
pub record Stops (stripe : ℕ) (ops : ℕ × ℕ → Op) (members : List ℕ) (n : ℕ) (a : Seen) (turned : Turned) : Type 0 where
  pub holder : Option ℕ
  pub sent : List Message
  pub entries : List Entry
  pub steps : List Step
  pub may : MayAll stripe ops members n (local_of a) steps
  pub leads : after_steps n (local_of a) steps ≡ local_of (record {
    kept = kept_after a.kept turned.rec;
    body = body_beyond a.kept.file turned.rec a.body;
    tenure = None;
    holder = holder;
    sent = sent;
    entries = entries;
  })
  pub gone : holder ≡ Some n → ⊥
  pub outs : (m : Msg) → Has m turned.outs → AreIn (shown n m.payload) sent
  pub grows : (x : Message) → Has x a.sent → Has x sent
  pub told : AreTold stripe ops n turned.marks a.entries entries
  pub untold : (rec : Record) → turned.rec ≡ Some rec → entries ≡ a.entries
  pub fits : Fits members n (record {
    kept = kept_after a.kept turned.rec;
    body = body_beyond a.kept.file turned.rec a.body;
    tenure = None;
    holder = holder;
    sent = sent;
    entries = entries;
  })

-- A node may stop after whatever it reaches; a stop in an append that keeps no record is one after nothing.
abbrev pub AlwaysStops : Type 0
AlwaysStops =
    (stripe : ℕ) (ops : ℕ × ℕ → Op) (members : List ℕ) (n : ℕ) (a : Seen) (tenure : Option Tenure) (turned : Turned)
    → Fits members n a → Reaches stripe ops members n a tenure turned → Stops stripe ops members n a turned × Stops stripe ops members n a quiet

-- A list of small steps of one node leaves who holds else.
abbrev pub LeavesOthers : Type 0
LeavesOthers =
    (stripe : ℕ) (ops : ℕ × ℕ → Op) (members : List ℕ) (n : ℕ) (l : Local) (steps : List Step) → MayAll stripe ops members n l steps
    → (m : ℕ) → (m ≡ n → ⊥) → ((after_steps n l steps).holder ≡ Some m → l.holder ≡ Some m) × (l.holder ≡ Some m → (after_steps n l steps).holder ≡ Some m)

-- ---- asks

-- The asks of a file stay within their limits, step by step.
pub record AsksStay (stripe : ℕ) (ops : ℕ × ℕ → Op) (members : List ℕ) : Type 0 where
  pub start : (awake : Awake) (row : FileRow) → AsksFit stripe ops (file_from awake row).asks
  pub expiry : (site : Site) (s : FileState) → AsksFit stripe ops s.asks → AsksFit stripe ops (settled site s).asks
  pub message : (site : Site) (s : FileState) (from : NodeId) (content : Payload) → AsksFit stripe ops s.asks → AskComes stripe ops members from content
      → AsksFit stripe ops (step_of_file site s from content).state.asks
  pub wake : (site : Site) (s : FileState) → AsksFit stripe ops s.asks → AsksFit stripe ops (and_then (expired site s) (wake_of_file site)).state.asks
