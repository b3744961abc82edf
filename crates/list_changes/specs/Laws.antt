-- What holds of a metadata server that changes lists, at each step.
use Rattle.std.specs.Prelude.{ℕ, Bool, ◌≡◌, ◌<◌, ◌≤◌, ◌+◌, ◌^◌, ◌⊎◌, true, false, Option, Some, None, Ok, List, [], ◌∷◌, length}
use Rattle.std.specs.Option.{is_some}
use Rattle.xt_base.specs.MemberList.{has_node}
use Rattle.xt_base.specs.TimeSettings.{TimeSettings}
use Rattle.xt_base.specs.declared.ids.NodeId.{NodeId}
use Rattle.xt_base.specs.declared.ids.FileId.{FileId}
use Rattle.xt_messages.specs.declared.file.Location.{Location}
use Rattle.xt_messages.specs.declared.file.FileHead.{FileHead}
use Rattle.xt_messages.specs.declared.meta.MetaReq.{MetaReq}
use Rattle.xt_messages.specs.declared.meta.MetaReq.TheVariants as ask
use Rattle.xt_messages.specs.declared.message.Payload.{Payload}
use Rattle.xt_messages.specs.declared.message.Payload.TheVariants as payload
use Rattle.xt_messages.specs.declared.message.Msg.{Msg}
use Rattle.xt_messages.specs.declared.event.Event.{Event}
use Rattle.xt_messages.specs.declared.event.Event.TheVariants as event
use Rattle.xt_messages.specs.declared.record.Logged.{Logged}
use Rattle.xt_messages.specs.declared.record.Logged.TheVariants as logged
use Rattle.xt_messages.specs.declared.record.Record.{Record}
use Rattle.xt_messages.specs.declared.record.Record.TheVariants as kept
use Rattle.xt_protocol.specs.FileIds.{is_before}
use Rattle.lease_safety.specs.State.{Has}
use Rattle.xt_messages.specs.declared.meta.MetaAnswer.{MetaAnswer}
use Rattle.xt_messages.specs.declared.meta.MetaAnswer.TheVariants as answer
use Rattle.reply_cache.specs.declared.Kept.{Kept as KeptAnswer}
use Rattle.server_rows.specs.Metadata.{Catalogue}
use Rattle.server_rows.specs.Naming.{Made, IsMadeAs, Holds, Stays}
use Rattle.volume_rows.specs.declared.Asker.{Asker}
use Rattle.volume_rows.specs.Rows.{Volumes}
use Rattle.change_rows.specs.declared.Choice.{Choice}
use Rattle.change_rows.specs.Changes.{ChangeState, majority_of, next_location, has_report, new_change, choice_of, best_in, choice_at, awaits_closing, closed_by, installed_by}
use Rattle.change_rows.specs.Coordinating.{Running, file_of, running_of, version_to_come, chosen, listed}
use Rattle.change_rows.specs.Laws.{IsTimed}
use Rattle.list_changes.specs.Lists.{Beginning, in_force, location_in}
use Rattle.list_changes.specs.Requests.{beginning_on}
use Rattle.list_changes.specs.Steps.{ChangingMrc, ChangingStep}

-- ---- where no change is asked for

-- a request that isn't one to change a list
abbrev pub AsksNoChange : MetaReq → Type 0
AsksNoChange (ask.Change path nodes) = ⊥
AsksNoChange _ = Unit {0}

abbrev pub CarriesNoChange : Payload → Type 0
CarriesNoChange (payload.Meta number user group request) = AsksNoChange request
CarriesNoChange _ = Unit {0}

abbrev pub BringsNoChange : Event → Type 0
BringsNoChange (event.Deliver msg) = CarriesNoChange msg.payload
BringsNoChange _ = Unit {0}

abbrev pub TellsNoChange : Record → Type 0
TellsNoChange (kept.Meta client number now nodes (logged.Meta user group request)) = AsksNoChange request
TellsNoChange _ = Unit {0}

-- ---- what always holds of the files with a change

-- all of these come after this file
abbrev pub AreAfter : FileId → List Running → Type 0
AreAfter file rs = (r : Running) → Has r rs → is_before file (file_of r) ≡ true

-- their files rise: each has one change at most
abbrev pub Rise : List Running → Type 0
Rise [] = Unit {0}
Rise (r ∷ rs) = AreAfter (file_of r) rs × Rise rs

-- a choice is the one of its change: of its file, and at the next version, on the new members
pub record IsChoiceOf (c : ChangeState) (choice : Choice) : Type 0 where
  pub file : choice.file ≡ c.file
  pub location : choice.location ≡ next_location c

abbrev pub IsChosen : ChangeState → Option Choice → Type 0
IsChosen c None = Unit {0}
IsChosen c (Some choice) = IsChoiceOf c choice

-- what is counted is of old members, and of each once
abbrev pub AreMembers : List NodeId → List (NodeId × FileHead) → Type 0
AreMembers members [] = Unit {0}
AreMembers members (report ∷ reports) = (has_node members report.0.0 ≡ true) × AreMembers members reports

abbrev pub OnceEach : List (NodeId × FileHead) → Type 0
OnceEach [] = Unit {0}
OnceEach (report ∷ reports) = (has_report reports report.0.0 ≡ false) × OnceEach reports

pub record IsCounted (c : ChangeState) : Type 0 where
  pub members : AreMembers c.before.members c.reports
  pub once : OnceEach c.reports

-- The change of a file: it goes by these times, each old member is counted once, the clock of the majority is known exactly from the
-- majority on, its choice is its own, and it has ended only if there is a choice.
pub record IsSound (times : TimeSettings) (r : Running) : Type 0 where
  pub settings : r.change.times ≡ times
  pub counted : IsCounted r.change
  pub timed : IsTimed r.change
  pub choice : IsChosen r.change r.choice
  pub ended : r.listed ≡ true → is_some r.choice ≡ true

abbrev pub AreSound : TimeSettings → List Running → Type 0
AreSound times rs = (r : Running) → Has r rs → IsSound times r

pub record IsInOrder (times : TimeSettings) (rs : List Running) : Type 0 where
  pub rise : Rise rs
  pub sound : AreSound times rs

-- ---- where each change after a step comes from

-- the event is a message of this node that says this
abbrev pub Says : Event → NodeId → Payload → Type 0
Says (event.Deliver msg) from content = (msg.from ≡ from) × (msg.payload ≡ content)
Says event.Wake from content = ⊥
Says (event.Call call) from content = ⊥

-- a change that begins is asked for by a request; no other change of its file runs, it begins at the list in force, and its version is one
pub record Begins (volumes : Volumes) (before : List Running) (begun : Beginning) : Type 0 where
  pub who : Asker
  pub nodes : Option (List NodeId)
  pub path : List ℕ
  pub next : List NodeId
  pub asked : beginning_on volumes before who nodes path next ≡ Ok begun
  pub rests : version_to_come before begun.file ≡ None
  pub made : Location
  pub place : begun.old ≡ location_in before begun.file made
  pub left : begun.old.version + 1 < 2 ^ 31

-- Each file's change after a step stood before it, or results from one that did, or begins in the step.
pub data Follows (times : TimeSettings) (volumes : Volumes) (now : ℕ) (happens : Event) (before : List Running) : Running → Type 0 where
  stays : (r : Running) → Has r before → Follows times volumes now happens before r
  begins :
      (begun : Beginning) → Begins volumes before begun
      → Follows times volumes now happens before (record { change = new_change times begun.file begun.old begun.next; choice = None; listed = false })
  counts :
      (r : Running) (from : NodeId) (version : ℕ) (head : FileHead) → Has r before → r.choice ≡ None
      → Says happens from (payload.Closed (file_of r) version head) → awaits_closing r.change from version ≡ true
      → Follows times volumes now happens before (record { change = closed_by r.change now from version head; choice = r.choice; listed = r.listed })
  chooses :
      (r : Running) (choice : Choice) → Has r before → r.choice ≡ None → happens ≡ event.Wake → choice_at r.change now ≡ Some choice
      → choice.head.promised.number < 2 ^ 62 → Follows times volumes now happens before (record { change = r.change; choice = Some choice; listed = r.listed })
  installs :
      (r : Running) (choice : Choice) (from : NodeId) (version : ℕ) (ended : Bool) → Has r before → r.choice ≡ Some choice
      → Says happens from (payload.Installed (file_of r) version)
      → Follows times volumes now happens before (record { change = (installed_by r.change from version).change; choice = r.choice; listed = ended })

abbrev pub AllFollow : TimeSettings → Volumes → ℕ → Event → List Running → List Running → Type 0
AllFollow times volumes now happens before after = (r : Running) → Has r after → Follows times volumes now happens before r

-- ---- what a choice has waited for

-- A choice at a clock: a majority of the old members is counted, and the length of a lease and the drift have passed since the clock at which
-- it was. It is of one of the reports, at the next version.
pub record HasWaited (c : ChangeState) (now : ℕ) (choice : Choice) : Type 0 where
  pub moment : ℕ
  pub since : c.since ≡ Some moment
  pub over : moment + c.times.lease + c.times.drift ≤ now
  pub many : majority_of (length c.before.members) ≤ length c.reports
  pub best : NodeId × FileHead
  pub reported : best_in c.reports ≡ Some best
  pub is : choice ≡ choice_of c best

-- ---- what a step keeps and sends

-- an Install is of a choice, and goes to a member of its list; a Close is of a file without a choice, at the version in force
abbrev pub IsOrdered : List Running → NodeId → Payload → Type 0
IsOrdered rs to (payload.Install file location head source) =
    (r : Running) × Has r rs × (r.choice ≡ Some (let choice : Choice = record { file = file; location = location; head = head; source = source } in choice))
IsOrdered rs to (payload.Close file version) = (r : Running) × Has r rs × (r.choice ≡ None) × (file_of r ≡ file) × (r.change.before.version ≡ version)
IsOrdered rs to _ = Unit {0}

abbrev pub AreOrdered : List Running → List Msg → Type 0
AreOrdered rs [] = Unit {0}
AreOrdered rs (msg ∷ msgs) = IsOrdered rs msg.to msg.payload × AreOrdered rs msgs

-- What a step keeps: nothing; a request; at a Wake one choice, for which its file was ready; or, for an installation, that a choice's list is
-- the file's, which it wasn't.
pub data StepKeeps (now : ℕ) (happens : Event) (before : List Running) : Option Record → Type 0 where
  keeps_nothing : StepKeeps now happens before None
  keeps_request : (client : NodeId) (number at : ℕ) (nodes : Option (List NodeId)) (wanted : Logged) → StepKeeps now happens before (Some (kept.Meta client number at nodes wanted))
  keeps_choice :
      (r : Running) (choice : Choice) → Has r before → r.choice ≡ None → happens ≡ event.Wake → choice_at r.change now ≡ Some choice
      → choice.head.promised.number < 2 ^ 62 → StepKeeps now happens before (Some (chosen choice))
  keeps_list :
      (r : Running) (choice : Choice) (from : NodeId) (version : ℕ) → Has r before → r.choice ≡ Some choice → r.listed ≡ false
      → Says happens from (payload.Installed (file_of r) version) → (installed_by r.change from version).wins ≡ true → StepKeeps now happens before (Some (listed choice))

-- ---- versions

-- the list of a choice is the file's from this record on; it is of the next version
pub record Rises (rec : Option Record) (file : FileId) (old new : Location) : Type 0 where
  pub choice : Choice
  pub kept : rec ≡ Some (listed choice)
  pub own : choice.file ≡ file
  pub place : new ≡ choice.location
  pub next : new.version ≡ old.version + 1

-- The list in force of a file with a change before and after a step: it stays, or the list of a choice takes its place.
abbrev pub Moves : List Running → Option Record → List Running → Type 0
Moves before rec after =
    (file : FileId) (old new : Running) → running_of before file ≡ Some old → running_of after file ≡ Some new
    → (in_force new new.choice ≡ in_force old old.choice) ⊎ Rises rec file (in_force old old.choice) (in_force new new.choice)

-- ---- what is granted

-- a test of a file and its place says yes
abbrev pub Passing : (FileId → Location → Bool) → FileId → Location → Type 0
Passing test file place = test file place ≡ true

-- what is said of the file of a granted capability and of its place
abbrev pub Grants : (FileId → Location → Type 0) → MetaAnswer → Type 0
Grants P (answer.Granted capability mark) = P capability.file capability.location
Grants P _ = Unit {0}

-- of each answer that is kept of a client, and of each that a step sends
abbrev pub AnswersGrant : (FileId → Location → Type 0) → List (ℕ × KeptAnswer MetaAnswer) → Type 0
AnswersGrant P [] = Unit {0}
AnswersGrant P (last ∷ others) = Grants P last.1.answer × AnswersGrant P others

abbrev pub GrantedIn : (FileId → Location → Type 0) → Payload → Type 0
GrantedIn P (payload.MetaReply number told) = Grants P told
GrantedIn P _ = Unit {0}

abbrev pub MessagesGrant : (FileId → Location → Type 0) → List Msg → Type 0
MessagesGrant P [] = Unit {0}
MessagesGrant P (msg ∷ msgs) = GrantedIn P msg.payload × MessagesGrant P msgs

-- what is known of files alone
abbrev pub without_clients : Catalogue → Catalogue
without_clients catalogue = record { volumes = catalogue.volumes; made = catalogue.made; clients = [] }

-- Each file stands in its row as it was made, and of each capability that was granted this is so.
pub record GrantsHold (P : FileId → Location → Type 0) (catalogue : Catalogue) : Type 0 where
  pub files : Holds (without_clients catalogue)
  pub answers : AnswersGrant P catalogue.clients

-- it is so of each file that was made where it was made, and at its list in force
abbrev pub IsOfLists : (FileId → Location → Type 0) → List Running → Made → Type 0
IsOfLists P rs made = (file : FileId) (place : Location) → IsMadeAs made file place → P file place × P file (location_in rs file place)

pub record GrantsStay (P : FileId → Location → Type 0) (s : ChangingMrc) (step : ChangingStep) : Type 0 where
  pub holds : GrantsHold P step.server.mrc.catalogue
  pub sends : MessagesGrant P step.turned.outs
  pub made : Stays s.mrc.catalogue.made step.server.mrc.catalogue.made
