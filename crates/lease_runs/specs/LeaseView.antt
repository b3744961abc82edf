-- what the step of a file shows of the file's lease
use Rattle.std.specs.Prelude.{◌≡◌, ℕ, Bool, true, false, ◌||◌, Option, Some, None, List, [], ◌∷◌, is_some, filter, filter_map}
use Rattle.xt_base.specs.declared.ids.NodeId.{NodeId}
use Rattle.xt_base.specs.declared.ids.FileId.{FileId}
use Rattle.xt_messages.specs.declared.file.Location.{Location}
use Rattle.xt_messages.specs.declared.message.Msg.{Msg}
use Rattle.xt_messages.specs.declared.message.Payload.{Payload}
use Rattle.xt_messages.specs.declared.message.Payload.TheVariants as payload
use Rattle.xt_messages.specs.declared.event.Mark.{Mark}
use Rattle.xt_messages.specs.declared.event.Mark.TheVariants as mark
use Rattle.xt_protocol.specs.FileIds.{is_file}
use Rattle.xt_protocol.specs.LeaseRows.{LeaseState}
use Rattle.xt_protocol.specs.declared.turned.Turned.{Turned}
use Rattle.lease_runs.specs.LeaseWorld.{LeaseSetting, LeaseRow, RowStep, row_handles, row_asks, expired_row, lease_file}
use Rattle.osd_invariants.specs.Sound.{IsHeld, IsStored}
use Rattle.xt_protocol.specs.FileStates.{FileState, Site, FileStep, members_of}
use Rattle.xt_protocol.specs.Overdue.{expired}
use Rattle.xt_protocol.specs.FileSteps.{step_of_file, wake_of_file}

-- the lease of a file, of all that a node has of the file
abbrev pub lease_row_of : FileState → LeaseRow
lease_row_of s = record { acceptor = s.acceptor; lease = s.lease }

-- the lease world of a file with this list
abbrev pub lease_setting : Site → FileId → Option Location → LeaseSetting
lease_setting site file location = record { file = file; list = 1; members = members_of location; times = site.times }

-- the messages that are about leases, and asks: a step whose messages among these are a lease's sends no ask
abbrev pub is_ask : Payload → Bool
is_ask (payload.Ask number capability asked) = true
is_ask _ = false

abbrev pub is_lease_or_ask : Msg → Bool
is_lease_or_ask m = is_some (lease_file m.payload) || is_ask m.payload

abbrev pub leases_and_asks : List Msg → List Msg
leases_and_asks outs = filter is_lease_or_ask outs

-- those about the lease of this file
abbrev pub is_about : FileId → Option FileId → Bool
is_about file None = false
is_about file (Some other) = is_file other file

abbrev pub lease_outs : FileId → List Msg → List Msg
lease_outs file outs = filter (λ m. is_about file (lease_file m.payload)) outs

-- the ends that are marked as held
abbrev pub held_end : Mark → Option ℕ
held_end (mark.Held file end) = Some end
held_end _ = None

abbrev pub held_ends : List Mark → List ℕ
held_ends marks = filter_map held_end marks

abbrev pub listed : Option ℕ → List ℕ
listed None = []
listed (Some end) = end ∷ []

-- nothing of a lease is sent or marked
pub record IsBare (t : Turned) : Type 0 where
  pub outs : leases_and_asks t.outs ≡ []
  pub ends : held_ends t.marks ≡ []

-- A step of a file shows this step of its lease: the row that it leaves, the messages about leases, and the end that is marked.
pub record ShowsRow (step : FileStep) (r : RowStep) : Type 0 where
  pub row : lease_row_of step.state ≡ r.row
  pub outs : leases_and_asks step.turned.outs ≡ r.outs
  pub ends : held_ends step.turned.marks ≡ listed r.end

-- the lease stays
abbrev pub stays_so : LeaseRow → RowStep
stays_so x = record { row = x; outs = []; end = None }

-- What a message may do to the lease: it is handled as one about the lease; it is an ask for which a round is begun, and the
-- file's list is stored; or the lease stays.
pub data Follows (file : FileId) (site : Site) (x : LeaseRow) (l : LeaseState) (from : NodeId) (content : Payload) (step : FileStep) : Type 0 where
  handles : ShowsRow step (row_handles (lease_setting site file step.state.kept.location) site.node site.now x from content) → Follows file site x l from content step
  asks : is_ask content ≡ true → IsStored step.state.kept.location → ShowsRow step (row_asks (lease_setting site file step.state.kept.location) site.node site.now x l) → Follows file site x l from content step
  stays : ShowsRow step (stays_so x) → Follows file site x l from content step

-- and what a Wake may: a renewal begins, where the lease is held; or the lease stays
pub data Wakes (file : FileId) (site : Site) (x : LeaseRow) (l : LeaseState) (step : FileStep) : Type 0 where
  renewing : IsHeld l → ShowsRow step (row_asks (lease_setting site file step.state.kept.location) site.node site.now x l) → Wakes file site x l step
  resting : ShowsRow step (stays_so x) → Wakes file site x l step

-- the lease once what is overdue is done with
abbrev pub settled_row : Site → FileState → LeaseRow
settled_row site s = expired_row site.now (lease_row_of s)

-- The steps of a file show in its lease.
pub record ShowsLeases : Type 0 where
  pub expiry : (site : Site) (s : FileState) → ShowsRow (expired site s) (stays_so (settled_row site s))
  pub message : (site : Site) (s : FileState) (from : NodeId) (content : Payload)
      → Follows s.kept.file site (settled_row site s) (settled_row site s).lease from content (step_of_file site s from content)
  pub wake : (site : Site) (s : FileState) → Wakes s.kept.file site (lease_row_of s) s.lease (wake_of_file site s)
