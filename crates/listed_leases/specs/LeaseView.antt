-- what the step of a file shows of its lease, where lists change
use Rattle.std.specs.Prelude.{◌≡◌, ℕ, true, false, Option, Some, None, []}
use Rattle.xt_base.specs.declared.ids.NodeId.{NodeId}
use Rattle.xt_base.specs.declared.ids.FileId.{FileId}
use Rattle.xt_messages.specs.declared.file.FileHead.{FileHead}
use Rattle.xt_messages.specs.declared.file.Location.{Location}
use Rattle.xt_messages.specs.declared.message.Payload.{Payload}
use Rattle.xt_messages.specs.declared.record.Record.TheVariants as kept
use Rattle.xt_protocol.specs.Register.{new_acceptor}
use Rattle.xt_protocol.specs.LeaseRows.{free}
use Rattle.xt_protocol.specs.FileStates.{FileState, Site, FileStep, and_then, members_of}
use Rattle.xt_protocol.specs.Overdue.{expired}
use Rattle.osd_invariants.specs.Sound.{IsHeld, IsStored}
use Rattle.lease_runs.specs.LeaseWorld.{LeaseSetting, LeaseRow, RowStep, row_handles, row_asks, row_lets_go}
use Rattle.lease_runs.specs.LeaseView.{ShowsRow, is_ask, settled_row, stays_so}
use Rattle.list_rows.specs.ListRows.{is_closed, list_version, proposer_of, step_of_message, wake_of_listed}
use Rattle.list_laws.specs.Takes.{IsOpenAt}
use Rattle.list_laws.specs.Outcomes.{ClosesAt, InstallsOn}

-- the lease world of a file with this list
abbrev pub lease_setting : Site → FileId → Option Location → LeaseSetting
lease_setting site file location = record { file = file; list = list_version location; members = members_of location; times = site.times }

-- a row with a new acceptor, without round and lease: only the count of rounds goes on
abbrev pub renewed : LeaseRow → LeaseRow
renewed x = record { acceptor = new_acceptor x.acceptor.boot; lease = free (proposer_of x.lease) }

abbrev pub row_renewed : LeaseRow → RowStep
row_renewed x = record { row = renewed x; outs = []; end = None }

-- the version of the list is the same after a step
abbrev pub KeepsVersion : FileState → FileStep → Type 0
KeepsVersion s step = list_version step.state.kept.location ≡ list_version s.kept.location

-- What a message may do to the lease on the list that is stored: it is handled as one about the lease, on the open list; it is an ask for
-- which a round is begun, and the list is stored and open; the lease stays; or the file is closed, and all of it let go.
pub data Follows (site : Site) (s : FileState) (from : NodeId) (list : ℕ) (content : Payload) (step : FileStep) : Type 0 where
  handles : IsOpenAt s list
      → ShowsRow step (row_handles (lease_setting site s.kept.file step.state.kept.location) site.node site.now (settled_row site s) from content)
      → Follows site s from list content step
  asks : is_ask content ≡ true → is_closed s.kept ≡ false → IsStored step.state.kept.location
      → ShowsRow step (row_asks (lease_setting site s.kept.file step.state.kept.location) site.node site.now (settled_row site s) (settled_row site s).lease)
      → Follows site s from list content step
  stays : ShowsRow step (stays_so (settled_row site s)) → Follows site s from list content step
  lets_go : (version : ℕ) → ClosesAt s.kept content version → step.turned.rec ≡ Some (kept.Close s.kept.file version)
      → ShowsRow step (row_lets_go (settled_row site s)) → Follows site s from list content step

-- The list goes on, and its lease follows; or a later list is taken, with a new acceptor.
pub data Shows (site : Site) (s : FileState) (from : NodeId) (list : ℕ) (content : Payload) (step : FileStep) : Type 0 where
  goes_on : KeepsVersion s step → Follows site s from list content step → Shows site s from list content step
  takes_list : (location : Location) (head : FileHead) → InstallsOn s.kept content location head
      → step.turned.rec ≡ Some (kept.Install s.kept.file location head) → step.state.kept.location ≡ Some location
      → ShowsRow step (row_renewed (settled_row site s)) → Shows site s from list content step

-- what a Wake does to a file
abbrev pub listed_wake : Site → FileState → FileStep
listed_wake site s = and_then (expired site s) (wake_of_listed site)

-- What a Wake may do to the lease: a renewal begins, where the lease is held; or the lease stays.
pub data Wakes (site : Site) (s : FileState) (step : FileStep) : Type 0 where
  renewing : IsHeld (settled_row site s).lease
      → ShowsRow step (row_asks (lease_setting site s.kept.file step.state.kept.location) site.node site.now (settled_row site s) (settled_row site s).lease)
      → Wakes site s step
  resting : ShowsRow step (stays_so (settled_row site s)) → Wakes site s step

-- The steps of a file show in its lease.
pub record ShowsLeases : Type 0 where
  pub message : (site : Site) (s : FileState) (from : NodeId) (list : ℕ) (content : Payload) → Shows site s from list content (step_of_message site s from list content)
  pub wake : (site : Site) (s : FileState) → Wakes site s (listed_wake site s)
  pub wake_keeps : (site : Site) (s : FileState) → (listed_wake site s).state.kept ≡ s.kept
