-- What a trace says at a moment: which boots run, what their clocks read, who holds a file, and the file's writes in order.
--
-- A moment is the list of the entries so far.
use Rattle.std.specs.Prelude.{ℕ, Bool, true, false, ◌&&◌, ◌==◌, nat_lt, ◌+◌, ◌-◌, if◌then◌else◌, Option, Some, None, List, [], ◌∷◌, ◌++◌, ◌≡◌, ◌≤◌, length, slice_get}
use Rattle.std.specs.List.{fold, filter_map}
use Rattle.std.specs.Option.{option_or}
use Rattle.xt_base.specs.TimeSettings.{TimeSettings}
use Rattle.xt_base.specs.declared.ids.NodeId.{NodeId}
use Rattle.xt_base.specs.declared.ids.OpId.{OpId}
use Rattle.xt_base.specs.declared.ids.Boot.{Boot}
use Rattle.xt_messages.specs.declared.file.Op.{Op}
use Rattle.xt_messages.specs.declared.file.Op.TheVariants as op
use Rattle.xt_messages.specs.declared.file.Kind.TheVariants as kind
use Rattle.xt_messages.specs.declared.file.Location.{Location}
use Rattle.xt_messages.specs.declared.event.Call.{Call}
use Rattle.xt_messages.specs.declared.event.Call.TheVariants as call
use Rattle.time_line.specs.Content.{content_of}
use Rattle.time_line.specs.declared.entry.Entry.{Entry}
use Rattle.time_line.specs.declared.entry.Entry.TheVariants as entry

-- Times.

abbrev pub times_told : Entry → Option TimeSettings
times_told (entry.Times lease drift) = Some (record { lease = lease; drift = drift })
times_told _ = None

abbrev pub or_defaults : Option TimeSettings → TimeSettings
or_defaults None = record { lease = 14000; drift = 1000 }
or_defaults (Some times) = times

unfoldable pub first_times : List Entry → Option TimeSettings
first_times [] = None
first_times (e ∷ es) = option_or (times_told e) (first_times es)

abbrev pub times_of : List Entry → TimeSettings
times_of entries = or_defaults (first_times entries)

-- Files and calls.

abbrev pub location_told : ℕ → Entry → Option Location
location_told file (entry.File number location) = if number == file then Some location else None
location_told file _ = None

-- where the file is; of two entries the first counts
unfoldable pub location_in : ℕ → List Entry → Option Location
location_in file [] = None
location_in file (e ∷ es) = option_or (location_told file e) (location_in file es)

abbrev pub is_replicated_at : Option Location → Bool
is_replicated_at None = false
is_replicated_at (Some location) = elim location.kind [ kind.Replicated ↦ true | kind.Striped ↦ false ]

abbrev pub stripe_at : Option Location → ℕ
stripe_at None = 0
stripe_at (Some location) = location.stripe

-- whether the file is replicated, and the size of its objects
abbrev pub is_replicated : ℕ → List Entry → Bool
is_replicated file entries = is_replicated_at (location_in file entries)

abbrev pub stripe_of : ℕ → List Entry → ℕ
stripe_of file entries = stripe_at (location_in file entries)

abbrev pub is_id : OpId → OpId → Bool
is_id a b = (a.client.0 == b.client.0) && (a.number == b.number)

-- the id of a client's call
abbrev pub id_of : NodeId → ℕ → OpId
id_of client number = record { client = client; number = number }

abbrev pub call_begun : OpId → Entry → Option Call
call_begun id (entry.Begin client number c) = if is_id id (id_of client number) then Some c else None
call_begun id _ = None

-- the call of this id; of two that have begun the first counts
unfoldable pub begun : OpId → List Entry → Option Call
begun id [] = None
begun id (e ∷ es) = option_or (call_begun id e) (begun id es)

-- what a call does to the file's content, where it is a call on this file
abbrev pub operation_on : ℕ → Option Call → Option Op
operation_on file (Some (call.Read f object at len)) = if f == file then Some (op.Read object at len) else None
operation_on file (Some (call.Write f object at bytes)) = if f == file then Some (op.Write object at bytes) else None
operation_on file (Some (call.Truncate f size epoch)) = if f == file then Some (op.Truncate size) else None
operation_on file _ = None

-- what the call of this id does to the file's content
abbrev pub operation_begun : ℕ → List Entry → OpId → Option Op
operation_begun file entries id = operation_on file (begun id entries)

-- Running nodes.

-- a running boot, what its clock reads, and the end of the lease that it held last for a file
pub record RunningBoot : Type 0 where
  pub boot : Boot
  pub clock : ℕ
  pub end : Option ℕ

abbrev pub reads : ℕ → Option RunningBoot → Option RunningBoot
reads clock None = None
reads clock (Some s) = Some (record s { clock = clock })

abbrev pub advances : ℕ → Option RunningBoot → Option RunningBoot
advances count None = None
advances count (Some s) = Some (record s { clock = s.clock + count })

abbrev pub held_until : ℕ → Option RunningBoot → Option RunningBoot
held_until end None = None
held_until end (Some s) = Some (record s { end = Some end })

-- how the node stands to the file after an entry
abbrev pub standing_after : NodeId → ℕ → Option RunningBoot → Entry → Option RunningBoot
standing_after node file before (entry.Up n boot clock) =
    if n.0 == node.0 then Some (record { boot = boot; clock = clock; end = None }) else before
standing_after node file before (entry.Down n clock how) = if n.0 == node.0 then None else before
standing_after node file before (entry.Clock n clock) = if n.0 == node.0 then reads clock before else before
standing_after node file before (entry.Tick count) = advances count before
standing_after node file before (entry.Held n f end) = if (n.0 == node.0) && (f == file) then held_until end before else before
standing_after node file before _ = before

-- How a node stands to a file at a moment: none while it doesn't run.
unfoldable pub standing : NodeId → ℕ → List Entry → Option RunningBoot
standing node file moment = fold (standing_after node file) None moment

abbrev pub is_before_end : ℕ → ℕ → Option ℕ → Bool
is_before_end clock drift None = false
is_before_end clock drift (Some end) = nat_lt (clock + drift) end

abbrev pub holds_as : ℕ → Option RunningBoot → Bool
holds_as drift None = false
holds_as drift (Some s) = is_before_end s.clock drift s.end

-- A node holds a file while its clock is more than the drift before the end of the lease that it held last.
abbrev pub holds : List Entry → NodeId → ℕ → Bool
holds moment node file = holds_as (times_of moment).drift (standing node file moment)

-- The order of writes.

-- the write that a node reports at this position: by a commit, or as the last one where it became active
pub record Claim : Type 0 where
  pub count : ℕ
  pub id : OpId

abbrev pub claim_on : ℕ → Entry → Option Claim
claim_on file (entry.Commit node f count id) = if f == file then Some (record { count = count; id = id }) else None
claim_on file (entry.Active node f count id) = if f == file then Some (record { count = count; id = id }) else None
claim_on file _ = None

abbrev pub order_by : List OpId → Option Claim → List OpId
order_by order None = order
order_by order (Some claim) = if claim.count == length order + 1 then order ++ claim.id ∷ [] else order

-- The write order of a file: a claim whose count is one above the length appends its write, and no other entry changes it.
unfoldable pub write_order : ℕ → List Entry → List OpId
write_order file moment = fold (λ order e. order_by order (claim_on file e)) [] moment

-- the file's content after the writes so far, each with the operation of its call
abbrev pub content_at : ℕ → ℕ → List Entry → List ℕ
content_at stripe file moment = content_of stripe (filter_map (operation_begun file moment) (write_order file moment))

-- the write is at this position of the order, counted from 1
abbrev pub HasPosition : ℕ → List Entry → OpId → ℕ → Type 0
HasPosition file entries id position = (1 ≤ position) × (slice_get (write_order file entries) (position - 1) ≡ Some id)
