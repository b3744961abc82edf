-- how an OSD is seen in the lease world of a version of a file's list
use Rattle.std.specs.Prelude.{◌≡◌, ◌≤◌, ◌<◌, ◌⊎◌, ◌&&◌, ◌==◌, ℕ, Bool, true, false, Option, Some, None}
use Rattle.xt_base.specs.declared.ids.NodeId.{NodeId}
use Rattle.xt_base.specs.declared.ids.Boot.{Boot}
use Rattle.xt_messages.specs.declared.file.Location.{Location}
use Rattle.xt_messages.specs.declared.message.Msg.{Msg}
use Rattle.xt_messages.specs.declared.record.FileRow.{FileRow}
use Rattle.lease_safety.specs.State.{Has}
use Rattle.xt_protocol.specs.LeaseRows.{Silent, Awake}
use Rattle.xt_protocol.specs.FileStates.{FileState}
use Rattle.xt_protocol.specs.OsdSteps.{OsdState, file_at}
use Rattle.lease_runs.specs.LeaseWorld.{LeaseSetting, LeaseRow, LeaseNode, LeaseWorld, lease_file}
use Rattle.lease_runs.specs.LeaseView.{is_about}
use Rattle.lease_runs.specs.ActsView.{IsBusy}
use Rattle.osd_invariants.specs.Sound.{IsStored}
use Rattle.list_rows.specs.ListRows.{list_version, is_closed}
use Rattle.listed_leases.specs.ActsView.{ClosedIsFree}
use Rattle.listed_leases.specs.VersionView.{row_at}

-- an OSD that started so, when it is awake
abbrev pub awake_as : Silent → Awake
awake_as s = record { node = s.node; boot = s.boot; times = s.times }

-- what an OSD has of the file of a lease world
abbrev pub file_of : LeaseSetting → OsdState → FileState
file_of g s = file_at (awake_as s.started) s.files g.file

-- A running node with this row, which told this end last; without a row it is seen as gone.
abbrev pub row_seen : LeaseNode → Option ℕ → Boot → ℕ → ℕ → Option LeaseRow → LeaseNode
row_seen gone end boot clock started None = gone
row_seen gone end boot clock started (Some row) =
    record { runs = true; boot = boot.0; clock = clock; started = started; row = row; told = end }

-- A running OSD in the lease world of a version: as it is, where its list is of this version; with a new acceptor and without round and
-- lease, where it is an earlier one; and as gone, where it is a later one.
abbrev pub osd_seen : LeaseSetting → LeaseNode → Option ℕ → Boot → ℕ → OsdState → LeaseNode
osd_seen g gone end boot clock s = row_seen gone end boot clock s.started.start (row_at g.list (file_of g s))

-- a message about the lease of the world's file, of its version
abbrev pub is_of_version : LeaseSetting → Msg → Bool
is_of_version g m = is_about g.file (lease_file m.payload) && (m.list == g.list)

-- The file has left this version: its list is a later one, or it is closed at it.
abbrev pub IsPast : ℕ → FileRow → Type 0
IsPast version row = (version < list_version row.location) ⊎ ((version ≡ list_version row.location) × (is_closed row ≡ true))

-- if the stored list is of the world's version, it has the world's members
abbrev pub HasMembers : LeaseSetting → Option Location → Type 0
HasMembers g location = (list : Location) → location ≡ Some list → list.version ≡ g.list → list.members ≡ g.members

-- The node is a running OSD, seen so in the lease world; it started as this boot, and its clock is past the one that it used last.
pub record RunsIn (g : LeaseSetting) (world : LeaseWorld) (node : NodeId) (gone : LeaseNode) (end : Option ℕ) (boot : Boot) (clock : ℕ) (s : OsdState) : Type 0 where
  pub seen : world.node node.0 ≡ osd_seen g gone end boot clock s
  pub stopped : gone.runs ≡ false
  pub boots : boot.0 ≤ gone.boot
  pub started : s.started ≡ record { node = node; boot = boot; times = g.times; start = s.started.start }
  pub last : s.last ≤ clock

-- each of its files has one state
abbrev pub OneEach : OsdState → Type 0
OneEach s = (f : FileState) → Has f s.files → f ≡ file_at (awake_as s.started) s.files f.kept.file

-- a file has a list where it has a round or a lease, and neither where it is closed
pub record FileFits (f : FileState) : Type 0 where
  pub listed : IsBusy f.lease → IsStored f.kept.location
  pub free : ClosedIsFree f
