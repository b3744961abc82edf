-- what a line of a schedule and an entry of a trace may hold: the limits of their values
use Rattle.std.specs.Prelude.{ℕ, ◌≡◌, ◌<◌, ◌≤◌, ◌^◌, Bool, true, false, List, [], ◌∷◌, length}
use Rattle.std.specs.List.{AllByRecursion}
use Rattle.xt_base.specs.declared.ids.NodeId.{NodeId}
use Rattle.xt_base.specs.declared.ids.OpId.{OpId}
use Rattle.xt_messages.specs.declared.event.Call.{Call}
use Rattle.xt_messages.specs.declared.event.Call.TheVariants as call
use Rattle.xt_messages.specs.declared.event.MetaOutcome.{MetaOutcome}
use Rattle.xt_messages.specs.declared.event.MetaOutcome.TheVariants as told
use Rattle.xt_messages.specs.declared.event.RegistryOutcome.{RegistryOutcome}
use Rattle.xt_messages.specs.declared.event.RegistryOutcome.TheVariants as listed
use Rattle.xt_messages.specs.declared.event.Outcome.{Outcome}
use Rattle.xt_messages.specs.declared.event.Outcome.TheVariants as outcome
use Rattle.xt_messages.specs.declared.meta.MetaReq.{MetaReq}
use Rattle.xt_messages.specs.declared.meta.MetaReq.TheVariants as ask
use Rattle.xt_messages.specs.declared.reply.Answered.{Answered}
use Rattle.xt_messages.specs.declared.reply.Retry.{Retry}
use Rattle.xt_messages.specs.declared.reply.Retry.TheVariants as retry
use Rattle.xt_messages.specs.declared.status.AskRefusal.{AskRefusal}
use Rattle.xt_messages.specs.declared.status.AskRefusal.TheVariants as refusal
use Rattle.xt_base.specs.FieldLimits.{IsCount, FitsBytes}
use Rattle.xt_messages.specs.Limits.{FitsNode, FitsBoot, FitsOpId, FitsMark, FitsMembers, IsVersion, FitsLocation, IsObject, FitsMetaReq, FitsMetaRefusal, FitsNames, FitsRegistryReq, FitsRow}
use Rattle.xt_base.specs.TimeSettings.{AreTimes}
use Rattle.time_line.specs.declared.line.Line.{Line}
use Rattle.time_line.specs.declared.line.Line.TheVariants as line
use Rattle.time_line.specs.declared.entry.Entry.{Entry}
use Rattle.time_line.specs.declared.entry.Entry.TheVariants as entry

-- a request that a line or an entry may have: a report is a call of its own, so that none of them brings a capability of its own
abbrev pub IsWritten : MetaReq → Type 0
IsWritten (ask.Report capability mark) = ⊥
IsWritten _ = Unit {0}

-- the values of a call
abbrev pub FitsCall : Call → Type 0
FitsCall (call.Read file object at len) = (file < 2 ^ 64) × IsObject object × (at < 2 ^ 32) × (1 ≤ len) × (len ≤ 131072)
FitsCall (call.Write file object at bytes) = (file < 2 ^ 64) × IsObject object × (at < 2 ^ 32) × FitsBytes bytes × (1 ≤ length bytes)
FitsCall (call.Truncate file size epoch) = (file < 2 ^ 64) × (size < 2 ^ 64) × (epoch < 2 ^ 62)
FitsCall (call.Meta user group request) = (user < 2 ^ 32) × (group < 2 ^ 32) × FitsMetaReq request × IsWritten request
FitsCall (call.Report user group file) = (user < 2 ^ 32) × (group < 2 ^ 32) × (file < 2 ^ 64)
FitsCall (call.Registry request) = FitsRegistryReq request

-- the values of a line; a message's number, and how many messages are settled or come before a cut, have none here
abbrev pub FitsLine : Line → Type 0
FitsLine (line.Times lease drift) = AreTimes lease drift
FitsLine (line.Osd node) = FitsNode node
FitsLine line.Mrc = Unit {0}
FitsLine line.Dir = Unit {0}
FitsLine (line.Client node clock) = FitsNode node × (clock < 2 ^ 62)
FitsLine (line.File number location) = (number < 1000000) × FitsLocation location
FitsLine (line.Start node clock) = FitsNode node × (clock < 2 ^ 62)
FitsLine (line.Stop node) = FitsNode node
FitsLine (line.Crash node k fill) = FitsNode node × (1 ≤ k) × (k ≤ 4) × (fill < 256)
FitsLine (line.Cut node count) = FitsNode node
FitsLine (line.Clock node clock) = FitsNode node × (clock < 2 ^ 62)
FitsLine (line.Tick count) = count < 2 ^ 32
FitsLine (line.Wake node) = FitsNode node
FitsLine (line.Call client c) = FitsNode client × FitsCall c
FitsLine (line.Again client) = FitsNode client
FitsLine (line.Aim client file node) = FitsNode client × (file < 2 ^ 64) × FitsNode node
FitsLine (line.Deliver number) = Unit {0}
FitsLine (line.Drop number) = Unit {0}
FitsLine (line.Settle count) = Unit {0}

-- whether the line sets the times
abbrev pub sets_times : Line → Bool
sets_times (line.Times lease drift) = true
sets_times _ = false

-- a line that may follow the first one
abbrev pub FitsLater : Line → Type 0
FitsLater l = FitsLine l × (sets_times l ≡ false)

-- Lines within the limits; the times come first, if at all.
abbrev pub AreLines : List Line → Type 0
AreLines [] = Unit {0}
AreLines (l ∷ later) = FitsLine l × AllByRecursion FitsLater later

-- the values of a refusal
abbrev pub FitsRefusal : AskRefusal → Type 0
FitsRefusal (refusal.Denied rule) = Unit {0}
FitsRefusal (refusal.OldList version) = IsVersion version
FitsRefusal (refusal.OldEpoch epoch) = IsCount epoch
FitsRefusal (refusal.TooFar object) = object < 2 ^ 64
FitsRefusal refusal.ClientsFull = Unit {0}

-- the values of what a member gave to a call that may be made again
abbrev pub FitsRetry : Retry → Type 0
FitsRetry (retry.NoLease end) = end < 2 ^ 64
FitsRetry (retry.NoMajority have need) = (have < 256) × (need < 256)
FitsRetry (retry.Elsewhere node end) = FitsNode node × (end < 2 ^ 64)
FitsRetry retry.Silent = Unit {0}

-- the values of a member's answer
pub record FitsAnswered (answered : Answered) : Type 0 where
  pub who : FitsNode answered.node
  pub gave : FitsRetry answered.outcome

-- the values of an answer of the metadata server
abbrev pub FitsMetaOutcome : MetaOutcome → Type 0
FitsMetaOutcome told.Done = Unit {0}
FitsMetaOutcome (told.Refused why) = FitsMetaRefusal why
FitsMetaOutcome (told.Names names) = FitsNames names
FitsMetaOutcome (told.Row kind owner group mode mark) = (owner < 2 ^ 32) × (group < 2 ^ 32) × (mode < 2 ^ 16) × FitsMark mark
FitsMetaOutcome (told.Granted file mark) = (file < 2 ^ 64) × FitsMark mark
FitsMetaOutcome (told.Located version changing members) = IsVersion version × FitsMembers members

-- at most 256 nodes
pub record FitsListed (nodes : List NodeId) : Type 0 where
  pub few : length nodes ≤ 256
  pub each : AllByRecursion FitsNode nodes

-- the values of an answer of the directory service
abbrev pub FitsRegistryOutcome : RegistryOutcome → Type 0
FitsRegistryOutcome (listed.Done version) = IsCount version
FitsRegistryOutcome (listed.Changed version) = IsCount version
FitsRegistryOutcome listed.Absent = Unit {0}
FitsRegistryOutcome (listed.Row row) = FitsRow row
FitsRegistryOutcome (listed.Rows nodes) = FitsListed nodes

-- the values of the end of a call
abbrev pub FitsOutcome : Outcome → Type 0
FitsOutcome (outcome.Ok count bytes) = IsCount count × FitsBytes bytes
FitsOutcome (outcome.Retry answers) = AllByRecursion FitsAnswered answers
FitsOutcome (outcome.Refused why) = FitsRefusal why
FitsOutcome (outcome.Meta answer) = FitsMetaOutcome answer
FitsOutcome (outcome.Registry answer) = FitsRegistryOutcome answer

-- the values of a write's place in a file's order
abbrev pub FitsPosition : NodeId → ℕ → ℕ → OpId → Type 0
FitsPosition node file count id = FitsNode node × (file < 2 ^ 64) × IsCount count × FitsOpId id

-- the values of an entry; the number of a file that the metadata server made is a count
abbrev pub FitsEntry : Entry → Type 0
FitsEntry (entry.Times lease drift) = AreTimes lease drift
FitsEntry (entry.File number location) = IsCount number × FitsLocation location
FitsEntry (entry.List number version members) = IsCount number × IsVersion version × FitsMembers members
FitsEntry (entry.Clock node clock) = FitsNode node × (clock < 2 ^ 62)
FitsEntry (entry.Tick count) = count < 2 ^ 32
FitsEntry (entry.Up node boot clock) = FitsNode node × FitsBoot boot × (clock < 2 ^ 62)
FitsEntry (entry.Down node clock how) = FitsNode node × (clock < 2 ^ 62)
FitsEntry (entry.Begin client number c) = FitsNode client × IsCount number × FitsCall c
FitsEntry (entry.Held node file end) = FitsNode node × (file < 2 ^ 64) × (end < 2 ^ 64)
FitsEntry (entry.Active node file count id) = FitsPosition node file count id
FitsEntry (entry.Issue node file count id) = FitsPosition node file count id
FitsEntry (entry.Commit node file count id) = FitsPosition node file count id
FitsEntry (entry.Answer node file id count bytes) = FitsPosition node file count id × FitsBytes bytes
FitsEntry (entry.Done client number ended) = FitsNode client × IsCount number × FitsOutcome ended
