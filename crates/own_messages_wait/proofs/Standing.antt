-- what holds of a file at an OSD, and of its messages to its own node
use Rattle.std.proofs.Common.{inl, inr, sym, ◌∙◌}
use Rattle.std.specs.Prelude.{◌≡◌, ◌≤◌, ◌⊎◌, true, false, ◌==◌, ◌+◌, Option, Some, None}
use Rattle.xt_base.specs.MemberList.{has_node}
use Rattle.xt_base.specs.declared.ids.NodeId.{NodeId}
use Rattle.xt_base.specs.declared.ids.Epoch.{Epoch}
use Rattle.xt_messages.specs.declared.file.FileHead.{FileHead}
use Rattle.xt_messages.specs.declared.file.ObjectVersion.{ObjectVersion}
use Rattle.xt_messages.specs.declared.message.Payload.{Payload}
use Rattle.xt_messages.specs.declared.message.Payload.TheVariants as payload
use Rattle.xt_messages.specs.declared.record.FileRow.{FileRow}
use Rattle.xt_protocol.specs.Folds.{body_of}
use Rattle.xt_protocol.specs.Stamps.{is_epoch, is_earlier, has_version}
use Rattle.xt_protocol.specs.declared.states.IssuedUpdate.{IssuedUpdate}
use Rattle.xt_protocol.specs.declared.states.PeerState.{PeerState}
use Rattle.xt_protocol.specs.declared.states.PeerState.TheVariants as peer
use Rattle.xt_protocol.specs.declared.states.Progress.{Progress}
use Rattle.xt_protocol.specs.declared.states.Progress.TheVariants as progress
use Rattle.xt_protocol.specs.declared.states.Tenure.{Tenure}
use Rattle.xt_base.specs.declared.ids.FileId.{FileId}
use Rattle.xt_protocol.specs.PrimaryRows.{target_in}
use Rattle.xt_protocol.specs.Primaries.{peer_in}
use Rattle.xt_protocol.specs.OsdSteps.{file_concerned}

-- ---- a file

-- the own head isn't of a later epoch than the promised one
abbrev pub HeadStands : FileHead → Type 0
HeadStands own = is_earlier own.promised own.stamp.epoch ≡ false

-- where no later epoch than this one is promised, the own head is of it
abbrev pub IsOfEpoch : FileHead → Epoch → Type 0
IsOfEpoch own epoch = is_earlier epoch own.promised ≡ false → is_epoch own.stamp.epoch epoch ≡ true

-- and has no fewer writes than this head
abbrev pub IsPast : FileHead → Epoch → FileHead → Type 0
IsPast own epoch committed = is_earlier epoch own.promised ≡ false → (is_epoch own.stamp.epoch epoch ≡ true) × (committed.stamp.count ≤ own.stamp.count)

-- a peer to which nothing was sent for it
abbrev pub IsUnfed : Option PeerState → Type 0
IsUnfed (Some (peer.Feeding known object version body)) = ⊥
IsUnfed (Some (peer.Heading known head)) = ⊥
IsUnfed _ = Unit {0}

-- the issued update is the next one of the epoch
abbrev pub IsNext : Epoch → FileHead → Option IssuedUpdate → Type 0
IsNext epoch committed None = Unit {0}
IsNext epoch committed (Some issued) = issued.update.stamp ≡ record { epoch = epoch; count = committed.stamp.count + 1 }

-- how far a primary has come, at its own node: it isn't fed before a head is chosen, nothing is fetched from it, and where it has
-- acknowledged the head it has it
abbrev pub ProgressStands : NodeId → FileHead → Tenure → Progress → Type 0
ProgressStands n own t progress.Gathering = IsUnfed (peer_in t.peers n)
ProgressStands n own t (progress.Fetching chosen source asked later) = IsUnfed (peer_in t.peers n) × ((source.0 == n.0) ≡ false)
ProgressStands n own t (progress.Installing chosen acked) = has_node acked n.0 ≡ true → IsOfEpoch own t.epoch
ProgressStands n own t (progress.Active committed issued) = IsPast own t.epoch committed × IsNext t.epoch committed issued

-- a tenure is of no later epoch than the promised one
pub record TenureStands (n : NodeId) (own : FileHead) (t : Tenure) : Type 0 where
  pub promised : is_earlier own.promised t.epoch ≡ false
  pub progress : ProgressStands n own t t.progress

abbrev pub IfTenure : NodeId → FileHead → Option Tenure → Type 0
IfTenure n own None = Unit {0}
IfTenure n own (Some t) = TenureStands n own t

-- ---- a message of the primary to its own node, or back

-- What the message says was promised or taken there still holds; an update is the next one at most.
abbrev pub Stands : FileRow → Payload → Type 0
Stands row (payload.Gather file epoch) = is_earlier row.head.promised epoch ≡ false
Stands row (payload.Status file epoch head) = Unit {0}
Stands row (payload.Head file epoch head) = is_earlier row.head.promised epoch ≡ false
Stands row (payload.Stage file epoch object version bytes) = is_earlier row.head.promised epoch ≡ false
Stands row (payload.Staged file epoch object version) = Unit {0}
Stands row (payload.Missing file epoch object version) = Unit {0}
Stands row (payload.Update file update) =
    (is_earlier row.head.promised update.stamp.epoch ≡ false)
    × (is_earlier update.stamp.epoch row.head.promised ≡ false
    → (is_epoch row.head.stamp.epoch update.stamp.epoch ≡ true) × (update.stamp.count ≤ row.head.stamp.count + 1))
Stands row (payload.Ack file stamp) = (is_earlier row.head.promised stamp.epoch ≡ false) × IsOfEpoch row.head stamp.epoch
Stands row (payload.Refused file epoch promised) = is_earlier row.head.promised promised ≡ false
Stands row _ = ⊥

-- What a message says of what the node keeps, when it is sent: a status is of its head; what is missing isn't held, what is
-- staged is.
abbrev pub TellsBody : FileRow → Payload → Type 0
TellsBody row (payload.Status file epoch head) = head ≡ row.head
TellsBody row (payload.Missing file epoch object version) = has_version row.held (body_of object version) ≡ false
TellsBody row (payload.Staged file epoch object version) = has_version row.held (body_of object version) ≡ true
TellsBody row _ = Unit {0}

abbrev pub IfMessage : FileRow → Option Payload → Type 0
IfMessage row None = Unit {0}
IfMessage row (Some content) = Stands row content × TellsBody row content

-- the version is held, if the head names it to which a tenure brings its peers
abbrev pub IsHeldIfNamed : FileRow → Option Tenure → ObjectVersion → Type 0
IsHeldIfNamed row o v = (t : Tenure) (target : FileHead) → o ≡ Some t → target_in row.head t.epoch t.progress ≡ Some target → has_version target.versions v ≡ true → has_version row.held v ≡ true

-- What holds of that until the message is handled. A node may forget what it staged, but not what its tenure's target names.
abbrev pub BodyStays : FileRow → Option Tenure → Payload → Type 0
BodyStays row o (payload.Status file epoch head) = head ≡ row.head
BodyStays row o (payload.Missing file epoch object version) = has_version row.held (body_of object version) ≡ false
BodyStays row o (payload.Staged file epoch object version) = IsHeldIfNamed row o (body_of object version)
BodyStays row o _ = Unit {0}

abbrev pub IfWaits : FileRow → Option Tenure → Option Payload → Type 0
IfWaits row o None = Unit {0}
IfWaits row o (Some content) = Stands row content × BodyStays row o content

-- it waits as it was sent
pub body_told : (row : FileRow) (o : Option Tenure) (content : Payload) → TellsBody row content → BodyStays row o content
body_told row o (payload.Status file epoch head) is = is
body_told row o (payload.Missing file epoch object version) is = is
body_told row o (payload.Staged file epoch object version) is = λ t target led to named. is
body_told row o _ is = tt

pub waits : (row : FileRow) (o : Option Tenure) (sent : Option Payload) → IfMessage row sent → IfWaits row o sent
waits row o None is = tt
waits row o (Some content) is = (is.0, body_told row o content is.1)

-- where the tenure is over, or is the same, it stays as before
pub body_still : (row : FileRow) (o p : Option Tenure) (content : Payload) → (p ≡ o) ⊎ (p ≡ None) → BodyStays row o content → BodyStays row p content
body_still row o p (payload.Status file epoch head) same is = is
body_still row o p (payload.Missing file epoch object version) same is = is
body_still row o p (payload.Staged file epoch object version) (inl same) is = λ t target led to named. is t target (sym same ∙ led) to named
body_still row o p (payload.Staged file epoch object version) (inr over) is = λ t target led to named. absurd (none_some (sym over ∙ led))
  where
    none_some : {t : Tenure} → None ≡ Some t → ⊥
    none_some e = cc e
body_still row o p _ same is = tt

-- and it concerns this file
abbrev pub IfAbout : FileId → Option Payload → Type 0
IfAbout file None = Unit {0}
IfAbout file (Some content) = file_concerned content ≡ Some file
