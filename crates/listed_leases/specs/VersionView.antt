-- what the step of a file shows of the lease on each version of its list
use Rattle.std.specs.Prelude.{◌≡◌, ◌≤◌, ◌<◌, ℕ, true, nat_lt, ◌==◌, if◌then◌else◌, Option, Some, None, is_some}
use Rattle.std.specs.List.{AllByRecursion}
use Rattle.xt_base.specs.declared.ids.NodeId.{NodeId}
use Rattle.xt_base.specs.declared.ids.Ballot.{Ballot}
use Rattle.xt_messages.specs.declared.message.Msg.{Msg}
use Rattle.xt_messages.specs.declared.message.Payload.{Payload}
use Rattle.xt_messages.specs.declared.record.FileRow.{FileRow}
use Rattle.xt_protocol.specs.LeaseRows.{Awake}
use Rattle.xt_protocol.specs.FileStates.{FileState, Site, FileStep, file_from}
use Rattle.lease_runs.specs.LeaseWorld.{LeaseRow, LeaseSetting, fresh_row, lease_file, row_learns}
use Rattle.lease_runs.specs.LeaseView.{lease_row_of}
use Rattle.list_rows.specs.ListRows.{list_version, step_of_message}
use Rattle.listed_leases.specs.LeaseView.{Follows, KeepsVersion, Wakes, listed_wake, renewed}

-- A file as the lease world of a version sees it: as it is, where its list is of this version; where that is an earlier one, with a new
-- acceptor and without round and lease; where it is a later one, it isn't seen.
abbrev pub row_at : ℕ → FileState → Option LeaseRow
row_at version s =
    if nat_lt version (list_version s.kept.location) then None
    else if version == list_version s.kept.location then Some (lease_row_of s)
    else Some (renewed (lease_row_of s))

-- a message that isn't about a lease on this version
abbrev pub IsOfOther : ℕ → Msg → Type 0
IsOfOther version m = is_some (lease_file m.payload) ≡ true → m.list ≡ version → ⊥

-- a later version: nothing is sent of it, and at most a count of rounds is learnt
pub record IsLater (s : FileState) (version : ℕ) (step : FileStep) : Type 0 where
  pub ballot : Ballot
  pub before : list_version s.kept.location < version
  pub after : list_version step.state.kept.location ≤ version
  pub was : row_at version s ≡ Some (renewed (lease_row_of s))
  pub row : row_at version step.state ≡ Some (row_learns ballot (renewed (lease_row_of s))).row
  pub outs : AllByRecursion (IsOfOther version) step.turned.outs

-- a version that the node has left, now or earlier: nothing is sent of it
pub record IsLeft (version : ℕ) (step : FileStep) : Type 0 where
  pub after : version < list_version step.state.kept.location
  pub unseen : row_at version step.state ≡ None
  pub outs : AllByRecursion (IsOfOther version) step.turned.outs

-- What a message shows of a version: of the one that is stored before and after it, what follows; of a later one, and of one that is left,
-- next to nothing.
pub data ShowsAt (site : Site) (s : FileState) (from : NodeId) (list : ℕ) (content : Payload) (version : ℕ) (step : FileStep) : Type 0 where
  of_stored : version ≡ list_version s.kept.location → KeepsVersion s step → Follows site s from list content step → ShowsAt site s from list content version step
  of_later : IsLater s version step → ShowsAt site s from list content version step
  of_left : IsLeft version step → ShowsAt site s from list content version step

-- and a Wake
pub data WakesAt (site : Site) (s : FileState) (version : ℕ) (step : FileStep) : Type 0 where
  wakes_stored : version ≡ list_version s.kept.location → KeepsVersion s step → Wakes site s step → WakesAt site s version step
  wakes_later : IsLater s version step → WakesAt site s version step
  wakes_left : IsLeft version step → WakesAt site s version step

-- a boot begins with a fresh row in each version that it sees
pub data StartsAt (g : LeaseSetting) (awake : Awake) (version : ℕ) (seen : Option LeaseRow) : Type 0 where
  fresh : seen ≡ Some (fresh_row g awake.node awake.boot) → StartsAt g awake version seen
  unseen : seen ≡ None → StartsAt g awake version seen

-- The steps of a file show in the leases on all versions of its list.
pub record ShowsVersions : Type 0 where
  pub start : (g : LeaseSetting) (awake : Awake) (row : FileRow) (version : ℕ) → g.times ≡ awake.times → StartsAt g awake version (row_at version (file_from awake row))
  pub message : (site : Site) (s : FileState) (from : NodeId) (list : ℕ) (content : Payload) (version : ℕ)
      → ShowsAt site s from list content version (step_of_message site s from list content)
  pub wake : (site : Site) (s : FileState) (version : ℕ) → WakesAt site s version (listed_wake site s)
