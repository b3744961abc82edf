-- What the metadata server does with the changes that it carries out. The files with a change stand in their order, by volume and then by
-- number. Between Wakes the server counts; at a Wake it asks again and chooses.
use Rattle.std.specs.Prelude.{ℕ, Bool, true, false, ◌&&◌, not, nat_lt, if◌then◌else◌, Option, Some, None, List, [], ◌∷◌, ◌++◌, map, filter}
use Rattle.xt_base.specs.MemberList.{has_node}
use Rattle.xt_base.specs.TimeSettings.{TimeSettings}
use Rattle.xt_base.specs.declared.TheConstants.{COUNTS}
use Rattle.xt_base.specs.declared.ids.NodeId.{NodeId}
use Rattle.xt_base.specs.declared.ids.FileId.{FileId}
use Rattle.xt_messages.specs.declared.file.Location.{Location}
use Rattle.xt_messages.specs.declared.file.FileHead.{FileHead}
use Rattle.xt_messages.specs.declared.message.Payload.TheVariants as payload
use Rattle.xt_messages.specs.declared.message.Msg.{Msg}
use Rattle.xt_messages.specs.declared.event.Mark.{Mark}
use Rattle.xt_messages.specs.declared.event.Mark.TheVariants as mark
use Rattle.xt_messages.specs.declared.record.Record.{Record}
use Rattle.xt_messages.specs.declared.record.Record.TheVariants as kept
use Rattle.xt_protocol.specs.declared.turned.Turned.{Turned}
use Rattle.xt_protocol.specs.Turns.{quiet, sends, message}
use Rattle.xt_protocol.specs.FileIds.{is_file, is_before}
use Rattle.change_rows.specs.declared.Choice.{Choice}
use Rattle.change_rows.specs.Changes.{ChangeState, server, new_change, next_version, next_members, node_of, has_report, closed_by, choice_at, has_installed, installed_by}

-- A file's change at the server: what is counted of it since the server's start, what was chosen for it, and whether its list is the file's.
-- A choice outlives its change: it goes to new members until the next change of the file begins, or until the file is unlinked.
pub record Running : Type 0 where
  pub change : ChangeState
  pub choice : Option Choice
  pub listed : Bool

-- the changes after a step, and what the step gives
pub record Step : Type 0 where
  pub running : List Running
  pub turned : Turned

-- a step that does nothing
abbrev pub unmoved : List Running → Step
unmoved running = record { running = running; turned = quiet }

-- ---- where a file stands among those with a change

abbrev pub file_of : Running → FileId
file_of r = r.change.file

abbrev pub running_of : List Running → FileId → Option Running
running_of [] file = None
running_of (r ∷ rs) file = if is_file (file_of r) file then Some r else running_of rs file

-- the changes with this one in its file's place
abbrev pub with_running : List Running → Running → List Running
with_running [] r = r ∷ []
with_running (first ∷ rest) r =
    if is_file (file_of first) (file_of r) then r ∷ rest
    else if is_before (file_of r) (file_of first) then r ∷ first ∷ rest
    else first ∷ with_running rest r

-- the changes without that of a file
abbrev pub without_file : List Running → FileId → List Running
without_file running file = filter (λ r. not (is_file (file_of r) file)) running

-- ---- messages, records and marks

-- an old member is to close a file at this version
abbrev pub close_to : FileId → ℕ → NodeId → Msg
close_to file version node = message server node (payload.Close file version)

-- a new member is to install what was chosen
abbrev pub install_to : Choice → NodeId → Msg
install_to choice node = message server node (payload.Install choice.file choice.location choice.head choice.source)

-- the record of a choice
abbrev pub chosen : Choice → Record
chosen choice = kept.Choice choice.file choice.location choice.head choice.source

-- the record that the list of a choice is the file's from now on
abbrev pub listed : Choice → Record
listed choice = kept.Listed choice.file choice.location.version

-- a trace shows the file's new list
abbrev pub list_mark : Choice → Mark
list_mark choice = mark.List choice.file choice.location.version choice.location.members

-- ---- what is asked for again

-- the old members that haven't answered since the server's start
abbrev pub to_close : ChangeState → List NodeId
to_close c = filter (λ node. not (has_report c.reports node.0)) c.before.members

-- the new members that haven't
abbrev pub to_install : ChangeState → List NodeId
to_install c = map node_of (filter (λ seat. not (has_installed seat)) c.seats)

-- For a file without a choice, Close goes to each old member that hasn't answered; for one with a choice, Install goes to each new one.
abbrev pub asked_again : ChangeState → Option Choice → List Msg
asked_again c None = map (close_to c.file c.before.version) (to_close c)
asked_again c (Some choice) = map (install_to choice) (to_install c)

abbrev pub reminders : Running → List Msg
reminders r = asked_again r.change r.choice

abbrev pub all_reminders : List Running → List Msg
all_reminders [] = []
all_reminders (r ∷ rs) = reminders r ++ all_reminders rs

-- ---- a Wake

-- what a file is ready to choose at a clock, if it has no choice yet
abbrev pub ripe_at : ℕ → ChangeState → Option Choice → Option Choice
ripe_at now c (Some choice) = None
ripe_at now c None = choice_at c now

abbrev pub ripe : ℕ → Running → Option Choice
ripe now r = ripe_at now r.change r.choice

-- whether the promised number of a choice's head is one: each is below 2^62
abbrev pub has_number : Choice → Bool
has_number choice = nat_lt choice.head.promised.number COUNTS

-- a file's choice is kept, and goes to each of its new members; the files after it are asked again
abbrev pub chooses : Running → List Running → Choice → Step
chooses r later choice =
    record {
      running = record r { choice = Some choice } ∷ later;
      turned =
          record {
            rec = Some (chosen choice);
            outs = map (install_to choice) (next_members r.change) ++ all_reminders later;
            marks = [];
          };
    }

-- a file stays as it is and sends these, before what the files after it give
abbrev pub passes : Running → List Msg → Step → Step
passes r outs later =
    record { running = r ∷ later.running; turned = record later.turned { outs = outs ++ later.turned.outs } }

-- A Wake goes through the files with a change in their order. The first one that is ripe gets its choice; all others are asked again. A file
-- that is ripe and has no number left for its promise is neither given a choice nor asked.
abbrev pub woken_by : Running → List Running → Step → Option Choice → Step
woken_by r rs later None = passes r (reminders r) later
woken_by r rs later (Some choice) = if has_number choice then chooses r rs choice else passes r [] later

abbrev pub woken : ℕ → List Running → Step
woken now [] = unmoved []
woken now (r ∷ rs) = woken_by r rs (woken now rs) (ripe now r)

-- ---- between Wakes

-- Closed counts for a file without a choice.
abbrev pub counts_closing : Running → ℕ → NodeId → ℕ → FileHead → Option Choice → Running
counts_closing r now from version head None = record r { change = closed_by r.change now from version head }
counts_closing r now from version head (Some choice) = r

abbrev pub closing_under : List Running → ℕ → NodeId → ℕ → FileHead → Option Running → Step
closing_under running now from version head None = unmoved running
closing_under running now from version head (Some r) =
    unmoved (with_running running (counts_closing r now from version head r.choice))

abbrev pub closing_comes : List Running → ℕ → NodeId → FileId → ℕ → FileHead → Step
closing_comes running now from file version head =
    closing_under running now from version head (running_of running file)

-- the new list is the file's from now on: this is kept, and shown
abbrev pub lists : List Running → Running → Choice → Step
lists running r choice =
    record {
      running = with_running running (record r { listed = true });
      turned = record { rec = Some (listed choice); outs = []; marks = list_mark choice ∷ [] };
    }

-- Installed counts for a file with a choice. The one that makes a majority of the new list ends the change, if it hasn't ended.
abbrev pub installation_under : List Running → NodeId → ℕ → Running → Option Choice → Step
installation_under running from version r None = unmoved running
installation_under running from version r (Some choice) =
    let made = installed_by r.change from version in
    let after = record r { change = made.change } in
    if made.wins && not r.listed then lists running after choice else unmoved (with_running running after)

abbrev pub installation_of : List Running → NodeId → ℕ → Option Running → Step
installation_of running from version None = unmoved running
installation_of running from version (Some r) = installation_under running from version r r.choice

abbrev pub installation_comes : List Running → NodeId → FileId → ℕ → Step
installation_comes running from file version = installation_of running from version (running_of running file)

-- Wanted by a new member of a file with a choice: Install goes to it.
abbrev pub wanted_from : NodeId → Choice → List Msg
wanted_from from choice = if has_node choice.location.members from.0 then install_to choice from ∷ [] else []

abbrev pub wanted_under : List Running → NodeId → Option Choice → Step
wanted_under running from None = unmoved running
wanted_under running from (Some choice) = record { running = running; turned = sends (wanted_from from choice) }

abbrev pub wanted_of : List Running → NodeId → Option Running → Step
wanted_of running from None = unmoved running
wanted_of running from (Some r) = wanted_under running from r.choice

abbrev pub wanted_comes : List Running → NodeId → FileId → Step
wanted_comes running from file = wanted_of running from (running_of running file)

-- ---- requests and records

-- a change that was asked for begins; one that has ended makes way for it
abbrev pub begins : TimeSettings → List Running → FileId → Location → List NodeId → List Running
begins times running file old next =
    with_running running (record { change = new_change times file old next; choice = None; listed = false })

-- the version to come, while a change of the file runs
abbrev pub version_of : Option Running → Option ℕ
version_of None = None
version_of (Some r) = if r.listed then None else Some (next_version r.change)

abbrev pub version_to_come : List Running → FileId → Option ℕ
version_to_come running file = version_of (running_of running file)

-- what a kept choice says of its file's change, and the record that the choice's list is the file's
abbrev pub with_choice : Choice → Running → Running
with_choice choice r = record r { choice = Some choice }

abbrev pub with_listed : Running → Running
with_listed r = record r { listed = true }

abbrev pub on_running : (Running → Running) → List Running → Option Running → List Running
on_running f running None = running
on_running f running (Some r) = with_running running (f r)

-- the changes after these records, where a start goes through the records
abbrev pub after_choice : List Running → Choice → List Running
after_choice running choice = on_running (with_choice choice) running (running_of running choice.file)

abbrev pub after_listing : List Running → FileId → List Running
after_listing running file = on_running with_listed running (running_of running file)
