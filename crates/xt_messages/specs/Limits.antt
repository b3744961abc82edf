-- what a message or a record may hold: the limits of the fields
use Rattle.std.specs.Prelude.{ℕ, ◌<◌, ◌≤◌, ◌^◌, ◌%◌, ◌-◌, ◌≡◌, ◌⊎◌, List, [], ◌∷◌, length, map, IfSome, Bool, true, false, nat_lt, nat_le, ◌==◌, ◌&&◌, ◌||◌, IsTrue}
use Rattle.std.specs.List.{AllByRecursion}
use Rattle.xt_base.specs.FieldLimits.{AreBytes, IsCount, FitsBytes, FitsPath, FitsName, FitsTag}
use Rattle.xt_base.specs.MemberList.{are_members}
use Rattle.xt_base.specs.declared.TheConstants.{BODY, CLIENTS, NO_OBJECT, OBJECTS}
use Rattle.xt_base.specs.declared.ids.NodeId.{NodeId}
use Rattle.xt_base.specs.declared.ids.Boot.{Boot}
use Rattle.xt_base.specs.declared.ids.FileId.{FileId}
use Rattle.xt_base.specs.declared.ids.Ballot.{Ballot}
use Rattle.xt_base.specs.declared.ids.Epoch.{Epoch}
use Rattle.xt_base.specs.declared.ids.Stamp.{Stamp}
use Rattle.xt_base.specs.declared.ids.Lease.{Lease}
use Rattle.xt_base.specs.declared.ids.OpId.{OpId}
use Rattle.xt_base.specs.declared.ids.SizeMark.{SizeMark}
use Rattle.xt_messages.specs.declared.file.Location.{Location}
use Rattle.xt_messages.specs.declared.file.Capability.{Capability}
use Rattle.xt_messages.specs.declared.file.Op.{Op}
use Rattle.xt_messages.specs.declared.file.Op.TheVariants as op
use Rattle.xt_messages.specs.declared.file.Update.{Update}
use Rattle.xt_messages.specs.declared.file.ObjectVersion.{ObjectVersion}
use Rattle.xt_messages.specs.declared.file.Session.{Session}
use Rattle.xt_messages.specs.declared.file.FileHead.{FileHead}
use Rattle.xt_messages.specs.declared.reply.Reply.{Reply}
use Rattle.xt_messages.specs.declared.reply.Reply.TheVariants as reply
use Rattle.xt_messages.specs.declared.meta.MetaReq.{MetaReq}
use Rattle.xt_messages.specs.declared.meta.MetaReq.TheVariants as ask
use Rattle.xt_messages.specs.declared.meta.MetaRefusal.{MetaRefusal}
use Rattle.xt_messages.specs.declared.meta.MetaRefusal.TheVariants as refusal
use Rattle.xt_messages.specs.declared.meta.MetaAnswer.{MetaAnswer}
use Rattle.xt_messages.specs.declared.meta.MetaAnswer.TheVariants as answer
use Rattle.xt_messages.specs.declared.registry.RegistryReq.{RegistryReq}
use Rattle.xt_messages.specs.declared.registry.RegistryReq.TheVariants as wish
use Rattle.xt_messages.specs.declared.registry.RegistryRow.{RegistryRow}
use Rattle.xt_messages.specs.declared.registry.RegistryAnswer.{RegistryAnswer}
use Rattle.xt_messages.specs.declared.registry.RegistryAnswer.TheVariants as told
use Rattle.xt_messages.specs.declared.message.Payload.{Payload}
use Rattle.xt_messages.specs.declared.message.Payload.TheVariants as payload
use Rattle.xt_messages.specs.declared.message.Msg.{Msg}
use Rattle.xt_messages.specs.declared.event.Event.{Event}
use Rattle.xt_messages.specs.declared.event.Event.TheVariants as event
use Rattle.xt_messages.specs.declared.record.Logged.{Logged}
use Rattle.xt_messages.specs.declared.record.Logged.TheVariants as logged
use Rattle.xt_messages.specs.declared.record.Record.{Record}
use Rattle.xt_messages.specs.declared.record.Record.TheVariants as kept

-- ---- nodes, files, leases, epochs

abbrev pub FitsNode : NodeId → Type 0
FitsNode node = node.0 < 2 ^ 32

abbrev pub FitsBoot : Boot → Type 0
FitsBoot boot = IsCount boot.0

pub record FitsFile (file : FileId) : Type 0 where
  pub all : AreBytes file.volume
  pub whole : length file.volume ≡ 16
  pub own : file.number < 2 ^ 64

pub record FitsBallot (ballot : Ballot) : Type 0 where
  pub rounds : IsCount ballot.count
  pub proposer : FitsNode ballot.node
  pub start : FitsBoot ballot.boot

pub record FitsEpoch (epoch : Epoch) : Type 0 where
  pub place : IsCount epoch.number
  pub primary : FitsNode epoch.node

pub record FitsStamp (stamp : Stamp) : Type 0 where
  pub tenure : FitsEpoch stamp.epoch
  pub writes : IsCount stamp.count

pub record FitsLease (lease : Lease) : Type 0 where
  pub holder : FitsNode lease.node
  pub start : FitsBoot lease.boot
  pub clock : lease.end < 2 ^ 64

pub record FitsOpId (id : OpId) : Type 0 where
  pub who : FitsNode id.client
  pub operation : IsCount id.number

pub record FitsMark (mark : SizeMark) : Type 0 where
  pub truncation : IsCount mark.epoch
  pub bytes : mark.size < 2 ^ 64

-- whether the first epoch is the second or before it
abbrev pub is_at_most : Epoch → Epoch → Bool
is_at_most a b = nat_lt a.number b.number || (a.number == b.number && nat_le a.node.0 b.node.0)

-- ---- files

-- 1,024 to 131,072 bytes, in steps of 1,024
pub record FitsStripe (stripe : ℕ) : Type 0 where
  pub least : 1024 ≤ stripe
  pub most : stripe ≤ BODY
  pub step : stripe % 1024 ≡ 0

-- one to nine different nodes
pub record FitsMembers (nodes : List NodeId) : Type 0 where
  pub different : IsTrue (are_members nodes)
  pub each : AllByRecursion FitsNode nodes

-- the version of a file's list
abbrev pub IsVersion : ℕ → Type 0
IsVersion version = version < 2 ^ 31

pub record FitsLocation (location : Location) : Type 0 where
  pub changes : IsVersion location.version
  pub size : FitsStripe location.stripe
  pub nodes : FitsMembers location.members

pub record FitsCapability (capability : Capability) : Type 0 where
  pub subject : FitsFile capability.file
  -- 1 to read, 2 to read and write
  pub low : 1 ≤ capability.mode
  pub high : capability.mode ≤ 2
  pub clock : capability.expiry < 2 ^ 64
  pub truncation : IsCount capability.epoch
  pub place : FitsLocation capability.location
  pub seal : FitsTag capability.tag

-- an object that is meant, by its number
abbrev pub IsObject : ℕ → Type 0
IsObject object = object < 2 ^ 64

-- an object below the last number of 64 bits, which stands for none; or none
abbrev pub IsObjectOrNone : ℕ → Type 0
IsObjectOrNone object = (object < 2 ^ 64 - 1) ⊎ (object ≡ NO_OBJECT)

abbrev pub FitsOp : Op → Type 0
FitsOp (op.Read object at len) = IsObject object × (at < 2 ^ 32) × (1 ≤ len) × (len ≤ BODY)
FitsOp (op.Write object at bytes) = IsObject object × (at < 2 ^ 32) × FitsBytes bytes × (1 ≤ length bytes)
FitsOp (op.Truncate size) = size < 2 ^ 64

-- the body is empty exactly where no object gets it
pub record FitsUpdate (update : Update) : Type 0 where
  pub place : FitsStamp update.stamp
  pub operation : FitsOpId update.id
  pub after : FitsMark update.mark
  pub drops : IsObjectOrNone update.drop_from
  pub gets : IsObjectOrNone update.object
  pub bytes : FitsBytes update.body
  pub empty : (length update.body == 0) ≡ (update.object == NO_OBJECT)

-- each number is above the one before it
abbrev pub rise : List ℕ → Bool
rise [] = true
rise (a ∷ []) = true
rise (a ∷ b ∷ rest) = nat_lt a b && rise (b ∷ rest)

pub record FitsVersion (entry : ObjectVersion) : Type 0 where
  pub which : IsObject entry.object
  pub write : FitsStamp entry.version

pub record FitsSession (session : Session) : Type 0 where
  pub who : FitsNode session.client
  pub operation : IsCount session.number
  pub writes : IsCount session.count

-- at most 16,384 versions, rising by object
pub record FitsVersions (versions : List ObjectVersion) : Type 0 where
  pub few : length versions ≤ OBJECTS
  pub each : AllByRecursion FitsVersion versions
  pub rising : IsTrue (rise (map (λ v. v.object) versions))

-- at most 256 sessions, rising by client
pub record FitsSessions (sessions : List Session) : Type 0 where
  pub few : length sessions ≤ CLIENTS
  pub each : AllByRecursion FitsSession sessions
  pub rising : IsTrue (rise (map (λ s. s.client.0) sessions))

pub record FitsHead (head : FileHead) : Type 0 where
  pub promise : FitsEpoch head.promised
  pub place : FitsStamp head.stamp
  pub operation : FitsOpId head.last
  pub after : FitsMark head.mark
  pub objects : FitsVersions head.versions
  pub clients : FitsSessions head.sessions
  -- the stamp's epoch was promised
  pub kept : IsTrue (is_at_most head.stamp.epoch head.promised)

abbrev pub FitsReply : Reply → Type 0
FitsReply (reply.Ok count mark bytes) = IsCount count × FitsMark mark × FitsBytes bytes
FitsReply (reply.NoLease end) = end < 2 ^ 64
FitsReply (reply.NoMajority have need) = (have < 2 ^ 8) × (need < 2 ^ 8)
FitsReply (reply.Elsewhere node end) = FitsNode node × (end < 2 ^ 64)
FitsReply (reply.Denied rule) = Unit {0}
FitsReply (reply.OldList version) = IsVersion version
FitsReply (reply.OldEpoch epoch) = IsCount epoch
FitsReply (reply.TooFar object) = object < 2 ^ 64
FitsReply reply.ClientsFull = Unit {0}

-- ---- requests and answers of the metadata server

abbrev pub FitsMetaReq : MetaReq → Type 0
FitsMetaReq (ask.Mkdir path mode) = FitsPath path × (mode < 2 ^ 16)
FitsMetaReq (ask.Create path mode kind n stripe) = FitsPath path × (mode < 2 ^ 16) × (1 ≤ n) × (n ≤ 9) × FitsStripe stripe
FitsMetaReq (ask.Rename from to) = FitsPath from × FitsPath to
FitsMetaReq (ask.Unlink path) = FitsPath path
FitsMetaReq (ask.Rmdir path) = FitsPath path
FitsMetaReq (ask.List path after) = FitsPath path × FitsPath after
FitsMetaReq (ask.Stat path) = FitsPath path
FitsMetaReq (ask.Chmod path mode) = FitsPath path × (mode < 2 ^ 16)
FitsMetaReq (ask.Grant path want) = FitsPath path × (1 ≤ want) × (want ≤ 3)
FitsMetaReq (ask.Report capability mark) = FitsCapability capability × FitsMark mark
FitsMetaReq (ask.Change path nodes) = FitsPath path × FitsMembers nodes
FitsMetaReq (ask.Locate path) = FitsPath path

-- the rule of a Forbidden is 1 to search, 2 to write, 3 to read, 4 not the owner
abbrev pub FitsMetaRefusal : MetaRefusal → Type 0
FitsMetaRefusal (refusal.Forbidden rule) = (1 ≤ rule) × (rule ≤ 4)
FitsMetaRefusal (refusal.TooFew have) = have < 2 ^ 8
FitsMetaRefusal refusal.NotFound = Unit {0}
FitsMetaRefusal refusal.Exists = Unit {0}
FitsMetaRefusal refusal.NotDir = Unit {0}
FitsMetaRefusal refusal.IsDir = Unit {0}
FitsMetaRefusal refusal.NotEmpty = Unit {0}
FitsMetaRefusal refusal.IntoSelf = Unit {0}
FitsMetaRefusal refusal.OtherVolume = Unit {0}
FitsMetaRefusal refusal.NameBad = Unit {0}
FitsMetaRefusal (refusal.Denied rule) = Unit {0}
FitsMetaRefusal (refusal.Changing version) = IsVersion version
FitsMetaRefusal refusal.NotReplicated = Unit {0}
FitsMetaRefusal (refusal.UnknownOsd node) = FitsNode node

-- at most 512 names
pub record FitsNames (names : List (List ℕ)) : Type 0 where
  pub few : length names ≤ 512
  pub each : AllByRecursion FitsName names

abbrev pub FitsMetaAnswer : MetaAnswer → Type 0
FitsMetaAnswer answer.Done = Unit {0}
FitsMetaAnswer (answer.Refused refusal) = FitsMetaRefusal refusal
FitsMetaAnswer (answer.Names names) = FitsNames names
FitsMetaAnswer (answer.Row kind owner group mode mark) = (owner < 2 ^ 32) × (group < 2 ^ 32) × (mode < 2 ^ 16) × FitsMark mark
FitsMetaAnswer (answer.Granted capability mark) = FitsCapability capability × FitsMark mark
FitsMetaAnswer (answer.Located location changing) = FitsLocation location

-- ---- requests and answers of the directory service

abbrev pub FitsRegistryReq : RegistryReq → Type 0
FitsRegistryReq (wish.Set node kind address expected) = FitsNode node × (kind < 2 ^ 8) × FitsName address × IsCount expected
FitsRegistryReq (wish.Get node) = FitsNode node
FitsRegistryReq (wish.List kind after) = (kind < 2 ^ 8) × FitsNode after
FitsRegistryReq (wish.Remove node expected) = FitsNode node × IsCount expected

pub record FitsRow (row : RegistryRow) : Type 0 where
  pub which : FitsNode row.node
  pub sort : row.kind < 2 ^ 8
  pub place : FitsName row.address
  pub changes : IsCount row.version

-- at most 256 rows
pub record FitsRows (rows : List RegistryRow) : Type 0 where
  pub few : length rows ≤ 256
  pub each : AllByRecursion FitsRow rows

abbrev pub FitsRegistryAnswer : RegistryAnswer → Type 0
FitsRegistryAnswer (told.Done version) = IsCount version
FitsRegistryAnswer (told.Changed version) = IsCount version
FitsRegistryAnswer told.Absent = Unit {0}
FitsRegistryAnswer (told.Row row) = FitsRow row
FitsRegistryAnswer (told.Rows rows) = FitsRows rows

-- ---- messages

abbrev pub FitsPayload : Payload → Type 0
FitsPayload (payload.Read file ballot) = FitsFile file × FitsBallot ballot
FitsPayload (payload.Promise file ballot boot report) = FitsFile file × FitsBallot ballot × FitsBoot boot × IfSome report FitsLease
FitsPayload (payload.Write file ballot boot lease) = FitsFile file × FitsBallot ballot × FitsBoot boot × FitsLease lease
FitsPayload (payload.Accepted file ballot boot) = FitsFile file × FitsBallot ballot × FitsBoot boot
FitsPayload (payload.Outrun file ballot seen) = FitsFile file × FitsBallot ballot × FitsBallot seen
FitsPayload (payload.Gather file epoch) = FitsFile file × FitsEpoch epoch
FitsPayload (payload.Status file epoch head) = FitsFile file × FitsEpoch epoch × FitsHead head
FitsPayload (payload.Fetch file epoch object version) = FitsFile file × FitsEpoch epoch × IsObject object × FitsStamp version
FitsPayload (payload.Object file epoch object version bytes) = FitsFile file × FitsEpoch epoch × IsObject object × FitsStamp version × FitsBytes bytes
FitsPayload (payload.Stage file epoch object version bytes) = FitsFile file × FitsEpoch epoch × IsObject object × FitsStamp version × FitsBytes bytes
FitsPayload (payload.Staged file epoch object version) = FitsFile file × FitsEpoch epoch × IsObject object × FitsStamp version
FitsPayload (payload.Head file epoch head) = FitsFile file × FitsEpoch epoch × FitsHead head
FitsPayload (payload.Update file update) = FitsFile file × FitsUpdate update
FitsPayload (payload.Ack file stamp) = FitsFile file × FitsStamp stamp
FitsPayload (payload.Refused file epoch promised) = FitsFile file × FitsEpoch epoch × FitsEpoch promised
FitsPayload (payload.Behind file epoch stamp) = FitsFile file × FitsEpoch epoch × FitsStamp stamp
FitsPayload (payload.Missing file epoch object version) = FitsFile file × FitsEpoch epoch × IsObject object × FitsStamp version
FitsPayload (payload.Ask number capability op) = IsCount number × FitsCapability capability × FitsOp op
FitsPayload (payload.Reply number file reply) = IsCount number × FitsFile file × FitsReply reply
FitsPayload (payload.Meta number user group request) = IsCount number × (user < 2 ^ 32) × (group < 2 ^ 32) × FitsMetaReq request
FitsPayload (payload.MetaReply number answer) = IsCount number × FitsMetaAnswer answer
FitsPayload (payload.Registry number request) = IsCount number × FitsRegistryReq request
FitsPayload (payload.RegistryReply number answer) = IsCount number × FitsRegistryAnswer answer
FitsPayload (payload.Stop tag) = FitsTag tag
FitsPayload (payload.Close file version) = FitsFile file × IsVersion version
FitsPayload (payload.Closed file version head) = FitsFile file × IsVersion version × FitsHead head
FitsPayload (payload.Install file location head source) = FitsFile file × FitsLocation location × FitsHead head × FitsNode source
FitsPayload (payload.Installed file version) = FitsFile file × IsVersion version
FitsPayload (payload.Pull file object version) = FitsFile file × IsObject object × FitsStamp version
FitsPayload (payload.Pulled file object version bytes) = FitsFile file × IsObject object × FitsStamp version × FitsBytes bytes
FitsPayload (payload.Wanted file) = FitsFile file

-- whether replicas of one list say it to each other, of their lease and of their file
abbrev pub is_of_list : Payload → Bool
is_of_list (payload.Ask number capability op) = false
is_of_list (payload.Reply number file reply) = false
is_of_list (payload.Meta number user group request) = false
is_of_list (payload.MetaReply number answer) = false
is_of_list (payload.Registry number request) = false
is_of_list (payload.RegistryReply number answer) = false
is_of_list (payload.Stop tag) = false
is_of_list (payload.Close file version) = false
is_of_list (payload.Closed file version head) = false
is_of_list (payload.Install file location head source) = false
is_of_list (payload.Installed file version) = false
is_of_list (payload.Pull file object version) = false
is_of_list (payload.Pulled file object version bytes) = false
is_of_list (payload.Wanted file) = false
is_of_list _ = true

-- a version above the first one
pub record IsLaterList (list : ℕ) (content : Payload) : Type 0 where
  pub later : 2 ≤ list
  pub version : IsVersion list
  pub among : IsTrue (is_of_list content)

-- the first version; or a later one, of what replicas of one list say to each other
abbrev pub FitsList : ℕ → Payload → Type 0
FitsList list content = (list ≡ 1) ⊎ IsLaterList list content

pub record FitsMessage (msg : Msg) : Type 0 where
  pub sender : FitsNode msg.from
  pub receiver : FitsNode msg.to
  pub listed : FitsList msg.list msg.payload
  pub content : FitsPayload msg.payload

-- a message that is delivered is within its limits
abbrev pub FitsEvent : Event → Type 0
FitsEvent (event.Deliver msg) = FitsMessage msg
FitsEvent event.Wake = Unit {0}
FitsEvent (event.Call call) = Unit {0}

-- ---- records

-- an object below the last number of 32 bits, which an old record has for none; or none
abbrev pub IsOldObjectOrNone : ℕ → Type 0
IsOldObjectOrNone object = (object < 2 ^ 32 - 1) ⊎ (object ≡ NO_OBJECT)

-- an object that an old record can name
abbrev pub IsOldObject : ℕ → Type 0
IsOldObject object = object < 2 ^ 32

abbrev pub IsOldVersion : ObjectVersion → Type 0
IsOldVersion entry = IsOldObject entry.object

-- an update that an old record can have
pub record FitsOldUpdate (update : Update) : Type 0 where
  pub fits : FitsUpdate update
  pub drops : IsOldObjectOrNone update.drop_from
  pub gets : IsOldObjectOrNone update.object

-- a head that an old record can have: at most 4,096 versions
pub record FitsOldHead (head : FileHead) : Type 0 where
  pub fits : FitsHead head
  pub few : length head.versions ≤ 4096
  pub small : AllByRecursion IsOldVersion head.versions

abbrev pub FitsLogged : Logged → Type 0
FitsLogged (logged.Meta user group request) = (user < 2 ^ 32) × (group < 2 ^ 32) × FitsMetaReq request
FitsLogged (logged.Registry request) = FitsRegistryReq request

abbrev pub FitsRecord : Record → Type 0
FitsRecord (kept.Boot boot) = FitsBoot boot
FitsRecord (kept.Promise file epoch) = FitsFile file × FitsEpoch epoch
FitsRecord (kept.Update file update) = FitsFile file × FitsUpdate update
FitsRecord (kept.Stage file object version bytes) = FitsFile file × IsObject object × FitsStamp version × FitsBytes bytes
FitsRecord (kept.Head file head) = FitsFile file × FitsHead head
FitsRecord (kept.View file location) = FitsFile file × FitsLocation location
FitsRecord (kept.Meta from number now nodes request) = FitsNode from × IsCount number × IsCount now × IfSome nodes FitsMembers × FitsLogged request
FitsRecord (kept.Close file version) = FitsFile file × IsVersion version
FitsRecord (kept.Install file location head) = FitsFile file × FitsLocation location × FitsHead head
FitsRecord (kept.Choice file location head source) = FitsFile file × FitsLocation location × FitsHead head × FitsNode source
FitsRecord (kept.Listed file version) = FitsFile file × IsVersion version
FitsRecord (kept.Seal file object version digest) = FitsFile file × IsObject object × FitsStamp version × FitsTag digest
FitsRecord (kept.Forget file) = FitsFile file
FitsRecord (kept.OldUpdate file update) = FitsFile file × FitsOldUpdate update
FitsRecord (kept.OldStage file object version bytes) = FitsFile file × IsOldObject object × FitsStamp version × FitsBytes bytes
FitsRecord (kept.OldHead file head) = FitsFile file × FitsOldHead head
FitsRecord (kept.OldInstall file location head) = FitsFile file × FitsLocation location × FitsOldHead head
FitsRecord (kept.OldChoice file location head source) = FitsFile file × FitsLocation location × FitsOldHead head × FitsNode source
