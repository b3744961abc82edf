-- what the state of a file and of an OSD keeps to: all that it may send or keep is within the limits
use Rattle.std.specs.Prelude.{ℕ, Bool, ◌≡◌, ◌<◌, ◌≤◌, ◌+◌, ◌^◌, true, Option, Some, List, length, Contains}
use Rattle.std.specs.Option.{IfSome}
use Rattle.std.specs.List.{All, AllByRecursion}
use Rattle.xt_base.specs.FieldLimits.{FitsBytes, IsCount}
use Rattle.xt_messages.specs.Limits.{FitsBoot, FitsBallot, FitsLease, FitsNode, FitsFile, FitsEpoch, FitsStamp, FitsHead, FitsVersion, FitsUpdate, FitsOp, FitsOpId, FitsLocation, FitsMessage, FitsRecord, IsObject, is_at_most}
use Rattle.xt_base.specs.declared.TheConstants.{BODY}
use Rattle.xt_base.specs.declared.ids.NodeId.{NodeId}
use Rattle.xt_base.specs.declared.ids.Boot.{Boot}
use Rattle.xt_base.specs.declared.ids.FileId.{FileId}
use Rattle.xt_base.specs.declared.ids.Stamp.{Stamp}
use Rattle.xt_messages.specs.declared.file.Op.{Op}
use Rattle.xt_messages.specs.declared.file.Op.TheVariants as op
use Rattle.xt_messages.specs.declared.message.Msg.{Msg}
use Rattle.xt_messages.specs.declared.record.FileRow.{FileRow}
use Rattle.xt_messages.specs.declared.record.Record.{Record}
use Rattle.xt_messages.specs.declared.record.Record.TheVariants as kept
use Rattle.xt_protocol.specs.Folds.{file_of, FollowsHead, fold_of, nothing_kept, AreInPlace}
use Rattle.xt_messages.specs.declared.file.Capability.{Capability}
use Rattle.xt_protocol.specs.OsdSteps.{OsdState, Outside}
use Rattle.xt_protocol.specs.SeenBodies.{body_by}
use Rattle.xt_protocol.specs.Register.{Acceptor, Seat, Round}
use Rattle.xt_protocol.specs.LeaseRows.{Proposer, Held, LeaseState, free, asking, writing, held}
use Rattle.xt_protocol.specs.declared.states.Asks.{Asks}
use Rattle.xt_protocol.specs.declared.states.IssuedUpdate.{IssuedUpdate}
use Rattle.xt_protocol.specs.declared.states.Peer.{Peer}
use Rattle.xt_protocol.specs.declared.states.PeerState.{PeerState}
use Rattle.xt_protocol.specs.declared.states.PeerState.TheVariants as peer
use Rattle.xt_protocol.specs.declared.states.PrimaryState.{PrimaryState}
use Rattle.xt_protocol.specs.declared.states.Progress.{Progress}
use Rattle.xt_protocol.specs.declared.states.Progress.TheVariants as progress
use Rattle.xt_protocol.specs.declared.states.Tenure.{Tenure}
use Rattle.xt_protocol.specs.declared.states.WaitingAsk.{WaitingAsk}
use Rattle.xt_protocol.specs.FileStates.{FileState, Site, FileStep}
use Rattle.replica_runs.specs.Seen.{AckedFit, nodes_in}

-- these can be sent
abbrev pub AreSent : List Msg → Type 0
AreSent outs = AllByRecursion FitsMessage outs

-- ---- leases

pub record AcceptorIs (a : Acceptor) : Type 0 where
  pub start : FitsBoot a.boot
  pub promise : IfSome a.promised FitsBallot
  pub taken : IfSome a.accepted FitsLease

pub record ProposerIs (p : Proposer) : Type 0 where
  pub who : FitsNode p.node
  pub start : FitsBoot p.boot
  pub short : p.times.lease < 2 ^ 40
  pub rounds : IsCount p.known

abbrev pub SeatIs : Seat → Type 0
SeatIs seat = FitsNode seat.node × IfSome seat.counted FitsBoot

pub record RoundIs (r : Round) : Type 0 where
  pub number : FitsBallot r.ballot
  pub clock : r.start < 2 ^ 62
  pub short : r.times.lease < 2 ^ 40
  pub members : AllByRecursion SeatIs r.seats

pub record HeldIs (h : Held) : Type 0 where
  pub who : ProposerIs h.proposer
  pub clock : h.end < 2 ^ 64
  pub round : IfSome h.renewal RoundIs

abbrev pub LeaseIs : LeaseState → Type 0
LeaseIs (free p) = ProposerIs p
LeaseIs (asking r) = RoundIs r
LeaseIs (writing r) = RoundIs r
LeaseIs (held h) = HeldIs h

-- a pair to which a Write goes
abbrev pub TargetIs : NodeId × Boot → Type 0
TargetIs target = FitsNode target.0 × FitsBoot target.1

-- ---- primaries

abbrev pub PeerStateIs : PeerState → Type 0
PeerStateIs peer.Unknown = Unit {0}
PeerStateIs (peer.Reported head) = FitsHead head
PeerStateIs (peer.Feeding known object version body) = IsObject object × FitsStamp version × FitsBytes body
PeerStateIs (peer.Heading known head) = FitsHead head
PeerStateIs peer.Current = Unit {0}

abbrev pub PeerIs : Peer → Type 0
PeerIs p = FitsNode p.node × PeerStateIs p.state

-- who has acknowledged is counted once
abbrev pub AckedIs : List Peer → List NodeId → Type 0
AckedIs peers acked = AckedFit (nodes_in peers) acked

abbrev pub IssuedIs : List Peer → Option IssuedUpdate → Type 0
IssuedIs peers issued = IfSome issued (λ u. FitsUpdate u.update × AckedIs peers u.acked)

abbrev pub ProgressIs : List Peer → Progress → Type 0
ProgressIs peers progress.Gathering = Unit {0}
ProgressIs peers (progress.Fetching chosen source asked later) = FitsHead chosen × FitsNode source × FitsVersion asked × AllByRecursion FitsVersion later
ProgressIs peers (progress.Installing chosen acked) = FitsHead chosen × AckedIs peers acked
ProgressIs peers (progress.Active committed issued) = FitsHead committed × IssuedIs peers issued

pub record TenureIs (t : Tenure) : Type 0 where
  pub place : FitsEpoch t.epoch
  pub few : length (nodes_in t.peers) ≤ 9
  pub each : AllByRecursion PeerIs t.peers
  pub stands : ProgressIs t.peers t.progress

pub record PrimaryIs (p : PrimaryState) : Type 0 where
  pub number : IsCount p.learnt
  pub leads : IfSome p.tenure TenureIs

-- ---- asks

-- a write stays inside an object
abbrev pub IsInside : Op → Type 0
IsInside (op.Read object at len) = Unit {0}
IsInside (op.Write object at bytes) = at + length bytes ≤ BODY
IsInside (op.Truncate size) = Unit {0}

pub record AskIs (w : WaitingAsk) : Type 0 where
  pub who : FitsOpId w.id
  pub truncation : IsCount w.epoch
  pub asked : FitsOp w.op
  pub inside : IsInside w.op

pub record AsksAre (asks : Asks) : Type 0 where
  pub wait : AllByRecursion AskIs asks.waiting
  pub written : IfSome asks.issued (λ i. AskIs i.ask)

-- ---- files

pub record RowIs (row : FileRow) : Type 0 where
  pub which : FitsFile row.file
  pub stands : FitsHead row.head
  pub place : IfSome row.location FitsLocation

pub record FileIs (s : FileState) : Type 0 where
  pub row : RowIs s.kept
  pub register : AcceptorIs s.acceptor
  pub leases : LeaseIs s.lease
  pub clock : s.last_end < 2 ^ 64
  pub leads : PrimaryIs s.primary
  pub waits : AsksAre s.asks

-- a record of the file is in its place after those that say this row
abbrev pub PlacedOn : FileRow → Record → Type 0
PlacedOn row (kept.Promise file epoch) = is_at_most row.head.promised epoch ≡ true
PlacedOn row (kept.Update file update) = FollowsHead row.head update
PlacedOn row (kept.OldUpdate file update) = FollowsHead row.head update
PlacedOn row (kept.Head file head) = All (Contains row.held) head.versions
PlacedOn row (kept.OldHead file head) = All (Contains row.held) head.versions
PlacedOn row (kept.Install file location head) = All (Contains row.held) head.versions
PlacedOn row (kept.OldInstall file location head) = All (Contains row.held) head.versions
PlacedOn row _ = Unit {0}

pub record RecordIs (row : FileRow) (rec : Record) : Type 0 where
  pub limits : FitsRecord rec
  pub own : file_of rec ≡ Some row.file
  pub place : PlacedOn row rec

abbrev pub NextIs : FileRow → Option Record → Type 0
NextIs row rec = IfSome rec (RecordIs row)

-- each body is within the limits
abbrev pub AreBodies : (ℕ → Stamp → List ℕ) → Type 0
AreBodies body = (object : ℕ) (version : Stamp) → FitsBytes (body object version)

pub record SiteIs (site : Site) : Type 0 where
  pub who : FitsNode site.node
  pub short : site.times.lease < 2 ^ 40
  pub clock : site.now < 2 ^ 62
  pub bodies : (file : FileId) → AreBodies (site.body file)

-- what must hold of a step of a file
pub record StepIs (row : FileRow) (step : FileStep) : Type 0 where
  pub state : FileIs step.state
  pub next : NextIs row step.turned.rec
  pub outs : AreSent step.turned.outs

-- ---- an OSD

-- what a node keeps, and the rows that it says
pub record KeptIs (records : List Record) : Type 0 where
  pub limits : AllByRecursion FitsRecord records
  pub places : AreInPlace nothing_kept records
  pub rows : AllByRecursion RowIs (fold_of records).files

-- the state of an OSD
pub record OsdIs (s : OsdState) : Type 0 where
  pub who : FitsNode s.started.node
  pub start : FitsBoot s.started.boot
  pub short : s.started.times.lease < 2 ^ 40
  pub clock : s.last < 2 ^ 62
  pub each : AllByRecursion FileIs s.files

-- what is outside an OSD that keeps these records, where these capabilities pass
abbrev pub outside_by : (Capability → Bool) → List Record → Outside
outside_by sealed records = record { sealed = sealed; body = body_by records }
