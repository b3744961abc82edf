-- A change of a replicated file's list of members: the old members close the file one by one, a head is chosen of what they report, and
-- the new members install it one by one.
use Rattle.std.specs.Prelude.{ℕ, Bool, true, false, ◌&&◌, ◌+◌, ◌/◌, ◌==◌, not, max, nat_le, if◌then◌else◌, Option, Some, None, List, [], ◌∷◌, ◌++◌, length, map, count_by, fold}
use Rattle.std.specs.List.{list_any}
use Rattle.std.specs.Option.{option_map}
use Rattle.xt_base.specs.MemberList.{has_node}
use Rattle.xt_base.specs.TimeSettings.{TimeSettings}
use Rattle.xt_base.specs.declared.ids.NodeId.{NodeId}
use Rattle.xt_base.specs.declared.ids.FileId.{FileId}
use Rattle.xt_messages.specs.declared.file.Location.{Location}
use Rattle.xt_messages.specs.declared.file.FileHead.{FileHead}
use Rattle.xt_protocol.specs.Choice.{chosen_of}
use Rattle.change_rows.specs.declared.Choice.{Choice}

-- the node of the metadata server, which carries changes out
abbrev pub server : NodeId
server = record { 0 = 901 }

-- a member of the new list, and whether it has installed the chosen head
pub record Seat : Type 0 where
  pub node : NodeId
  pub installed : Bool

-- A change as far as it is known in memory: the times that it goes by, the file, where it was kept, what old members have reported, in the
-- order of counting, the clock at which they became a majority, and a seat for each new member, in the order of the new list.
pub record ChangeState : Type 0 where
  pub times : TimeSettings
  pub file : FileId
  pub before : Location
  pub reports : List (NodeId × FileHead)
  pub since : Option ℕ
  pub seats : List Seat

-- the seat of a new member that has answered nothing
abbrev pub empty_seat : NodeId → Seat
empty_seat node = record { node = node; installed = false }

-- a change of which nothing is counted
abbrev pub new_change : TimeSettings → FileId → Location → List NodeId → ChangeState
new_change times file old next =
    record { times = times; file = file; before = old; reports = []; since = None; seats = map empty_seat next }

abbrev pub node_of : Seat → NodeId
node_of seat = seat.node

-- the new members, in their order
abbrev pub next_members : ChangeState → List NodeId
next_members c = map node_of c.seats

-- the version to come
abbrev pub next_version : ChangeState → ℕ
next_version c = c.before.version + 1

-- where the file's content is kept once the change has ended: all but the members and the version stays as it is
abbrev pub next_location : ChangeState → Location
next_location c = record { version = next_version c; kind = c.before.kind; stripe = c.before.stripe; members = next_members c }

-- the least number that is more than half of these members
abbrev pub majority_of : ℕ → ℕ
majority_of members = members / 2 + 1

-- ---- closings

-- whether what a node reports was counted
abbrev pub has_report : List (NodeId × FileHead) → ℕ → Bool
has_report reports node = list_any (λ report. report.0.0 == node) reports

-- Whether a closing is to be counted: it is of the old version, by an old member that isn't counted.
abbrev pub awaits_closing : ChangeState → NodeId → ℕ → Bool
awaits_closing c from version =
    version == c.before.version && has_node c.before.members from.0 && not (has_report c.reports from.0)

-- the clock of the closing that makes the majority
abbrev pub since_when : ChangeState → ℕ → ℕ → Option ℕ
since_when c now counted = if counted == majority_of (length c.before.members) then Some now else c.since

-- a closing is counted
abbrev pub with_report : ChangeState → ℕ → NodeId → FileHead → ChangeState
with_report c now from head =
    record c { reports = c.reports ++ (from, head) ∷ []; since = since_when c now (length c.reports + 1) }

-- Closed: an old member of this version is counted, once.
abbrev pub closed_by : ChangeState → ℕ → NodeId → ℕ → FileHead → ChangeState
closed_by c now from version head = if awaits_closing c from version then with_report c now from head else c

-- ---- the choice

-- A lease's length and the drift have passed since the majority: no node holds the file by the old list any more.
abbrev pub has_waited : TimeSettings → Option ℕ → ℕ → Bool
has_waited times None now = false
has_waited times (Some moment) now = nat_le (moment + times.lease + times.drift) now

-- whether the wait that follows the majority is over, and a majority of the old members is counted
abbrev pub is_ready : ChangeState → ℕ → Bool
is_ready c now = has_waited c.times c.since now && nat_le (majority_of (length c.before.members)) (length c.reports)

-- the greatest number of an epoch that was promised
abbrev pub greater_promise : ℕ → NodeId × FileHead → ℕ
greater_promise most report = max most report.1.promised.number

abbrev pub greatest_promise : List (NodeId × FileHead) → ℕ
greatest_promise reports = fold greater_promise 0 reports

-- a head that is promised to the server's epoch above all that were reported
abbrev pub promised_above : List (NodeId × FileHead) → FileHead → FileHead
promised_above reports head = record head { promised = record { number = 1 + greatest_promise reports; node = server } }

abbrev pub choice_of : ChangeState → NodeId × FileHead → Choice
choice_of c best =
    record { file = c.file; location = next_location c; head = promised_above c.reports best.1; source = best.0 }

-- the best of the reports: the greatest stamp, and among equal ones the least node's
abbrev pub best_in : List (NodeId × FileHead) → Option (NodeId × FileHead)
best_in [] = None
best_in (first ∷ others) = Some (chosen_of server first others)

-- What is chosen at a clock, if the change is ready then.
abbrev pub choice_at : ChangeState → ℕ → Option Choice
choice_at c now = if is_ready c now then option_map (choice_of c) (best_in c.reports) else None

-- ---- installations

-- whether an installation by this node is to be counted here: its own seat, and it isn't counted
abbrev pub awaits : NodeId → Seat → Bool
awaits from seat = seat.node.0 == from.0 && not seat.installed

abbrev pub has_installed : Seat → Bool
has_installed seat = seat.installed

-- the seat once the installation is counted
abbrev pub with_installation : NodeId → Seat → Seat
with_installation from seat = if awaits from seat then record seat { installed = true } else seat

-- Whether an installation is to be counted: it is of the version to come, by a new member that isn't counted.
abbrev pub awaits_installation : ChangeState → NodeId → ℕ → Bool
awaits_installation c from version = version == next_version c && list_any (awaits from) c.seats

-- a change after an installation, and whether this one makes a majority of the new members
pub record Installed : Type 0 where
  pub change : ChangeState
  pub wins : Bool

-- an installation is counted
abbrev pub with_seats : ChangeState → List Seat → Installed
with_seats c seats =
    record { change = record c { seats = seats }; wins = count_by has_installed seats == majority_of (length seats) }

-- Installed: a new member is counted, once.
abbrev pub installed_by : ChangeState → NodeId → ℕ → Installed
installed_by c from version =
    if awaits_installation c from version then with_seats c (map (with_installation from) c.seats)
    else record { change = c; wins = false }
