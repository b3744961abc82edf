-- what holds of the world at every moment of a run
use Rattle.std.specs.Prelude.{◌≡◌, ◌<◌, ◌≤◌, ℕ, true, Option, Some, None, List, [], ◌∷◌, ◌++◌, map}
use Rattle.xt_base.specs.TimeSettings.{TimeSettings}
use Rattle.xt_base.specs.declared.ids.NodeId.{NodeId}
use Rattle.xt_base.specs.declared.ids.FileId.{FileId}
use Rattle.xt_base.specs.declared.ids.Boot.{Boot}
use Rattle.xt_messages.specs.declared.file.Location.{Location}
use Rattle.xt_messages.specs.declared.message.Msg.{Msg}
use Rattle.xt_messages.specs.declared.message.Payload.{Payload}
use Rattle.xt_messages.specs.declared.message.Payload.TheVariants as payload
use Rattle.xt_messages.specs.declared.record.Record.{Record}
use Rattle.xt_messages.specs.declared.record.FileRow.{FileRow}
use Rattle.xt_protocol.specs.FileIds.{is_before}
use Rattle.xt_protocol.specs.Folds.{fold_of, row_in}
use Rattle.xt_protocol.specs.LeaseRows.{lease_expired}
use Rattle.lease_safety.specs.State.{Has}
use Rattle.xt_protocol.specs.FileStates.{FileState}
use Rattle.xt_protocol.specs.declared.states.Tenure.{Tenure}
use Rattle.xt_protocol.specs.Overdue.{expired}
use Rattle.xt_protocol.specs.OsdSteps.{OsdState, file_at}
use Rattle.osd_invariants.specs.Sound.{IsHeld, IsStored, IsSound}
use Rattle.lease_runs.specs.OsdView.{site_of}
use Rattle.lease_runs.specs.ActsView.{IsBusy}
use Rattle.world_spec.specs.declared.PlacedFile.{PlacedFile}
use Rattle.world_spec.specs.declared.Role.{Role}
use Rattle.world_spec.specs.declared.Role.TheVariants as role
use Rattle.xt_messages.specs.declared.file.Capability.{Capability}
use Rattle.xt_messages.specs.declared.meta.MetaReq.{MetaReq}
use Rattle.xt_messages.specs.declared.meta.MetaReq.TheVariants as want
use Rattle.xt_messages.specs.declared.meta.MetaAnswer.{MetaAnswer}
use Rattle.xt_messages.specs.declared.meta.MetaAnswer.TheVariants as answer
use Rattle.xt_base.specs.declared.TheConstants.{MRC_NODE}
use Rattle.server_rows.specs.Metadata.{catalogue_of}
use Rattle.server_rows.specs.Directory.{dir_of}
use Rattle.xt_messages.specs.declared.file.Kind.TheVariants as kind
use Rattle.client_rows.specs.declared.requests.Request.{Request}
use Rattle.client_rows.specs.declared.requests.Request.TheVariants as request
use Rattle.client_rows.specs.Rows.{WholeClient}
use Rattle.client_steps.specs.Asked.{ClientIs, AllHeld}
use Rattle.time_line.specs.TimeLine.{RunningBoot, standing, holds, times_of}
use Rattle.world_spec.specs.World.{World, Node, Running, Core, osd, client, mrc, dir, world_key, node_in, file_in, known, up_of}
use Rattle.world_spec.specs.NodeSteps.{outside_of}
use Rattle.world_spec.specs.Lines.{Next, finished, opens, goes_on, ends, declared_file, files_in}
use Rattle.world_runs.specs.View.{node_id, awake_as, messages}

-- ---- files that rise

-- all of these come after this file
abbrev pub AreBehind : FileId → List FileId → Type 0
AreBehind file files = (other : FileId) → Has other files → is_before file other ≡ true

abbrev pub Rises : List FileId → Type 0
Rises [] = Unit {0}
Rises (f ∷ fs) = AreBehind f fs × Rises fs

-- the files of states, and of rows
abbrev pub files_of : List FileState → List FileId
files_of states = map (λ (s : FileState). s.kept.file) states

abbrev pub row_files : List FileRow → List FileId
row_files rows = map (λ (r : FileRow). r.file) rows

-- ---- what is known

-- the file is known, at this place
abbrev pub IsKnown : List PlacedFile → FileId → Location → Type 0
IsKnown files file location = file_in files file.number ≡ Some (record { file = file; location = location })

-- a stored list is that of a known file
abbrev pub Listed : List PlacedFile → FileId → Option Location → Type 0
Listed files file None = Unit {0}
Listed files file (Some location) = IsKnown files file location

-- a capability is of a known file, with its list
abbrev pub IsOfKnown : List PlacedFile → Capability → Type 0
IsOfKnown files capability = IsKnown files capability.file capability.location

-- a request that reports under a capability, and an answer that grants one
abbrev pub WantFits : List PlacedFile → MetaReq → Type 0
WantFits files (want.Report capability mark) = IsOfKnown files capability
WantFits files _ = Unit {0}

abbrev pub AnswerFits : List PlacedFile → MetaAnswer → Type 0
AnswerFits files (answer.Granted capability mark) = IsOfKnown files capability
AnswerFits files _ = Unit {0}

-- the capability in a message, if it has one, is of a known file, with its list
abbrev pub PayloadFits : List PlacedFile → Payload → Type 0
PayloadFits files (payload.Ask number capability asked) = IsOfKnown files capability
PayloadFits files (payload.Meta number user group wanted) = WantFits files wanted
PayloadFits files (payload.MetaReply number told) = AnswerFits files told
PayloadFits files _ = Unit {0}

-- the state of a file: it is sound, its list is that of a known file, and there is one where there is a round or a lease
pub record FileFits (files : List PlacedFile) (s : FileState) : Type 0 where
  pub listed : Listed files s.kept.file s.kept.location
  pub stored : IsBusy s.lease → IsStored s.kept.location
  pub sound : IsSound s

-- the rows that records fold to
pub record RowsFit (files : List PlacedFile) (rows : List FileRow) : Type 0 where
  pub listed : (r : FileRow) → Has r rows → Listed files r.file r.location
  pub rises : Rises (row_files rows)

-- ---- nodes

-- what an OSD has of each file is what its records say
abbrev pub Agrees : List Record → OsdState → Type 0
Agrees kept s = (file : FileId) → (file_at (awake_as s.started) s.files file).kept ≡ row_in (fold_of kept).files file

-- the state of a running OSD: it started as this boot, and its clock is past the one that it used last
pub record OsdFits (times : TimeSettings) (files : List PlacedFile) (node : NodeId) (boot : Boot) (clock : ℕ) (s : OsdState) : Type 0 where
  pub started : s.started ≡ record { node = node; boot = boot; times = times; start = s.started.start }
  pub last : s.last ≤ clock
  pub fits : (f : FileState) → Has f s.files → FileFits files f
  pub rises : Rises (files_of s.files)

-- What a client asks on the content of a file is of a known one, by a request of the file's kind; what it reports is of a known one.
abbrev pub RequestFits : List PlacedFile → ℕ → Request → Type 0
RequestFits files number (request.Replicated capability asked) = IsOfKnown files capability × (capability.location.kind ≡ kind.Replicated)
RequestFits files number (request.Striped capability asked) = IsOfKnown files capability × (capability.location.kind ≡ kind.Striped)
RequestFits files number (request.Meta user group wanted) = WantFits files wanted
RequestFits files number (request.Registry asked) = Unit {0}

-- a capability that a client holds of the file of this number is of that known file
abbrev pub HeldFits : List PlacedFile → ℕ → Capability → Type 0
HeldFits files number capability = (capability.file.number ≡ number) × IsOfKnown files capability

-- a client asks and holds nothing but what is of known files
pub record ClientFits (files : List PlacedFile) (c : WholeClient) : Type 0 where
  pub calls : ClientIs (RequestFits files) c
  pub held : AllHeld (HeldFits files) c.held

-- a running node: an OSD's boot isn't above those of its records; what a server knows is what its records say
abbrev pub CoreFits : TimeSettings → List PlacedFile → NodeId → List Record → Running → Core → Type 0
CoreFits times files node kept r (osd s) = OsdFits times files node r.boot r.clock s × (r.boot.0 ≤ (fold_of kept).boot.0) × Agrees kept s
CoreFits times files node kept r (client c) = ClientFits files c
CoreFits times files node kept r (mrc m) = m.catalogue ≡ catalogue_of world_key kept
CoreFits times files node kept r (dir s) = s ≡ dir_of kept

abbrev pub UpFits : TimeSettings → List PlacedFile → NodeId → List Record → Option Running → Type 0
UpFits times files node kept None = Unit {0}
UpFits times files node kept (Some r) = CoreFits times files node kept r r.core

-- what runs at a node is of its role
abbrev pub role_of : Core → Role
role_of (osd s) = role.Osd
role_of (client c) = role.Client
role_of (mrc m) = role.Mrc
role_of (dir s) = role.Dir

abbrev pub IsOfRole : Role → Option Running → Type 0
IsOfRole its None = Unit {0}
IsOfRole its (Some r) = role_of r.core ≡ its

pub record NodeFits (times : TimeSettings) (files : List PlacedFile) (node : Node) : Type 0 where
  pub role_is : IsOfRole node.role node.up
  pub rows : RowsFit files (fold_of node.kept).files
  pub up : UpFits times files node.id node.kept node.up

-- ---- what is made

-- declared files have numbers below those that the metadata server gives
abbrev pub AreDeclared : List PlacedFile → Type 0
AreDeclared files = (f : PlacedFile) → Has f files → (f.file ≡ declared_file f.file.number) × (f.file.number < 1000000)

-- one list is the front of another
abbrev pub IsFront : List PlacedFile → List PlacedFile → Type 0
IsFront front whole = (later : List PlacedFile) × (whole ≡ front ++ later)

-- The files that were reported are those that the metadata server's records made, in the order of making: all of them while it runs,
-- and a front of them while it has stopped, since its last record may be kept and not reported.
abbrev pub MadeUp : List PlacedFile → List PlacedFile → Option Running → Type 0
MadeUp made records_made None = IsFront made records_made
MadeUp made records_made (Some r) = made ≡ records_made

abbrev pub MadeByRole : List PlacedFile → Node → Role → Type 0
MadeByRole made node role.Mrc = MadeUp made (files_in (catalogue_of world_key node.kept)) node.up
MadeByRole made node _ = made ≡ []

abbrev pub IsMadeBy : List PlacedFile → Option Node → Type 0
IsMadeBy made None = made ≡ []
IsMadeBy made (Some node) = MadeByRole made node node.role

-- the metadata server is node 901, and no other
abbrev pub IsOneServer : List Node → Type 0
IsOneServer nodes = (n : ℕ) (node : Node) → node_in nodes n ≡ Some node → node.role ≡ role.Mrc → n ≡ MRC_NODE.0

-- ---- the trace

-- a node stands in the trace as it runs; only OSDs hold
abbrev pub EndFits : Option ℕ → Core → Type 0
EndFits end (osd s) = Unit {0}
EndFits end (client c) = end ≡ None
EndFits end (mrc m) = end ≡ None
EndFits end (dir s) = end ≡ None

abbrev pub Stands : Option RunningBoot → Option Running → Type 0
Stands None None = Unit {0}
Stands None (Some r) = ⊥
Stands (Some st) None = ⊥
Stands (Some st) (Some r) = (st.clock ≡ r.clock) × EndFits st.end r.core

-- An OSD whose lease for a file is held, once what is overdue has expired, holds the file by the trace.
abbrev pub LeasesHold : World → Type 0
LeasesHold w =
    (n : ℕ) (node : Node) (r : Running) (s : OsdState) (file : FileId) → node_in w.nodes n ≡ Some node → node.up ≡ Some r → r.core ≡ osd s
    → IsHeld (lease_expired (file_at (awake_as s.started) s.files file).lease r.clock) → holds w.entries node.id file.number ≡ true

-- The node leads the file: it is a running OSD, and its primary for the file is in a tenure, once what is overdue has expired.
pub record Leads (w : World) (file : FileId) (n : ℕ) : Type 0 where
  pub node : Node
  pub running : Running
  pub state : OsdState
  pub tenure : Tenure
  pub found : node_in w.nodes n ≡ Some node
  pub up : node.up ≡ Some running
  pub core : running.core ≡ osd state
  pub leads :
      (expired (site_of (outside_of node.kept) (awake_as state.started) running.clock) (file_at (awake_as state.started) state.files file)).state.primary.tenure
      ≡ Some tenure

-- No two nodes lead a file.
abbrev pub OneLeads : World → Type 0
OneLeads w = (file : FileId) (a b : ℕ) → Leads w file a → Leads w file b → a ≡ b

-- ---- worlds

-- What holds of a world, in the midst of a line with the messages of a node to itself that it hasn't handled.
pub record IsInOrder (w : World) (own : List Msg) : Type 0 where
  pub nodes : (n : ℕ) (node : Node) → node_in w.nodes n ≡ Some node → NodeFits w.times (known w) node
  pub stands : (n number : ℕ) → Stands (standing (node_id n) number w.entries) (up_of (node_in w.nodes n))
  pub payloads : (m : Msg) → Has m (own ++ messages w) → PayloadFits (known w) m.payload
  pub declared : AreDeclared w.files
  pub made : IsMadeBy w.made (node_in w.nodes MRC_NODE.0)
  pub one_server : IsOneServer w.nodes
  pub times : times_of w.entries ≡ w.times
  pub leases : LeasesHold w
  pub leads : OneLeads w

-- and at each step of a line
abbrev pub IsNextInOrder : Next → Type 0
IsNextInOrder (finished w) = IsInOrder w []
IsNextInOrder (opens l w) = IsInOrder w []
IsNextInOrder (goes_on d) = IsInOrder d.world d.own
IsNextInOrder (ends cause w) = IsInOrder w []
