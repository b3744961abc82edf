-- The list of each file: the one that the file was made with, until a change of it has ended; from then on that of the last change.
use Rattle.std.specs.Prelude.{ℕ, Bool, false, ◌+◌, nat_le, if◌then◌else◌, Option, Some, None, Result, Ok, Err, List, [], ◌∷◌, ◌++◌, filter}
use Rattle.std.specs.Option.{is_some}
use Rattle.xt_base.specs.MemberList.{has_node}
use Rattle.xt_base.specs.declared.ids.NodeId.{NodeId}
use Rattle.xt_base.specs.declared.ids.FileId.{FileId}
use Rattle.xt_messages.specs.declared.file.Kind.{Kind}
use Rattle.xt_messages.specs.declared.file.Kind.TheVariants as kind
use Rattle.xt_messages.specs.declared.file.Location.{Location}
use Rattle.xt_messages.specs.declared.meta.MetaRefusal.{MetaRefusal}
use Rattle.xt_messages.specs.declared.meta.MetaRefusal.TheVariants as refusal
use Rattle.xt_messages.specs.declared.meta.MetaAnswer.{MetaAnswer}
use Rattle.xt_messages.specs.declared.meta.MetaAnswer.TheVariants as answer
use Rattle.xt_messages.specs.declared.event.Mark.{Mark}
use Rattle.volume_rows.specs.declared.Asker.{Asker}
use Rattle.volume_rows.specs.declared.Stored.{Stored}
use Rattle.volume_rows.specs.declared.Granting.{Granting}
use Rattle.volume_rows.specs.Paths.{Path}
use Rattle.volume_rows.specs.Rows.{Volumes, entry_at}
use Rattle.volume_rows.specs.Rights as rights
use Rattle.volume_rows.specs.Grants.{file_id, stored_in}
use Rattle.change_rows.specs.declared.Choice.{Choice}
use Rattle.change_rows.specs.Changes.{next_members}
use Rattle.change_rows.specs.Coordinating.{Running, running_of, version_to_come, list_mark}

-- ---- which list is in force

-- where the file of a change is: by its choice once the change has ended, and until then where it was when the change began
abbrev pub in_force : Running → Option Choice → Location
in_force r None = r.change.before
in_force r (Some choice) = if r.listed then choice.location else r.change.before

-- where a file is that was made there, by its last change if there was one
abbrev pub placed_by : Location → Option Running → Location
placed_by made None = made
placed_by made (Some r) = in_force r r.choice

abbrev pub location_in : List Running → FileId → Location → Location
location_in running file made = placed_by made (running_of running file)

-- what is granted, of the list in force
abbrev pub with_list : List Running → Result Granting MetaRefusal → Result Granting MetaRefusal
with_list running (Err why) = Err why
with_list running (Ok grant) = Ok (record grant { location = location_in running grant.file grant.location })

-- whether a change of a file runs
abbrev pub is_changing : List Running → FileId → Bool
is_changing running file = is_some (version_to_come running file)

-- Locate: a striped file's list never changes; else the list in force, and whether it is being changed.
abbrev pub located_as : Bool → Kind → Location → MetaAnswer
located_as changing kind.Replicated location = answer.Located location changing
located_as changing kind.Striped location = answer.Refused refusal.NotReplicated

abbrev pub located : List Running → Result Granting MetaRefusal → MetaAnswer
located running (Err why) = answer.Refused why
located running (Ok grant) = located_as (is_changing running grant.file) grant.location.kind grant.location

-- what a file's row has of its list: where the file is, the members to come while a change runs, and the last choice
pub record FileList : Type 0 where
  pub location : Location
  pub next : Option (List NodeId)
  pub choice : Option Choice

abbrev pub list_by : Location → Option Running → FileList
list_by made None = record { location = made; next = None; choice = None }
list_by made (Some r) =
    record { location = in_force r r.choice; next = if r.listed then None else Some (next_members r.change); choice = r.choice }

abbrev pub list_of : List Running → FileId → Location → FileList
list_of running file made = list_by made (running_of running file)

-- The lists that are the files' by their last changes, in the order of files: a start shows those of them that no step has shown.
abbrev pub listing_of : Running → Option Choice → List Mark
listing_of r None = []
listing_of r (Some choice) = if r.listed then list_mark choice ∷ [] else []

abbrev pub listings : List Running → List Mark
listings [] = []
listings (r ∷ rs) = listing_of r r.choice ++ listings rs

-- ---- a change that is asked for

-- a change that can begin: of which file, where the file is, and to which members
pub record Beginning : Type 0 where
  pub file : FileId
  pub old : Location
  pub next : List NodeId

-- the file is replicated
abbrev pub replicated_as : Kind → Option MetaRefusal
replicated_as kind.Replicated = None
replicated_as kind.Striped = Some refusal.NotReplicated

abbrev pub replicated : Option Stored → Option MetaRefusal
replicated None = None
replicated (Some stored) = replicated_as stored.location.kind

-- no change of the file runs
abbrev pub at_rest : Option ℕ → Option MetaRefusal
at_rest None = None
at_rest (Some version) = Some (refusal.Changing version)

abbrev pub unchanging : List Running → Path → Option Stored → Option MetaRefusal
unchanging running path None = None
unchanging running path (Some stored) = at_rest (version_to_come running (file_id path stored))

-- each node is among the known ones; the first that isn't is told
abbrev pub all_known : List NodeId → List NodeId → Option MetaRefusal
all_known known [] = None
all_known known (node ∷ nodes) = if has_node known node.0 then all_known known nodes else Some (refusal.UnknownOsd node)

-- Change: not there; a directory; not the owner; a striped file; a change of it runs; one of the nodes is no known OSD.
abbrev pub change_refusal : Volumes → List Running → Asker → List NodeId → List NodeId → Path → Option MetaRefusal
change_refusal volumes running who known next path =
    let entry = entry_at volumes.rows path in
    rights.first_of
    (rights.ancestors who volumes.rows path ∷ rights.there entry ∷ rights.file entry ∷ rights.owned who entry ∷ replicated (stored_in entry)
    ∷ unchanging running path (stored_in entry)
    ∷ all_known known next
    ∷ [])

abbrev pub beginning_of : List Running → Path → List NodeId → Option Stored → Result Beginning MetaRefusal
beginning_of running path next None = Err refusal.NotFound
beginning_of running path next (Some stored) =
    let file = file_id path stored in
    Ok (record { file = file; old = location_in running file stored.location; next = next })

abbrev pub begins_unless : Option MetaRefusal → Result Beginning MetaRefusal → Result Beginning MetaRefusal
begins_unless (Some why) begun = Err why
begins_unless None begun = begun

abbrev pub beginning_at : Volumes → List Running → Asker → List NodeId → List NodeId → Path → Result Beginning MetaRefusal
beginning_at volumes running who known next path =
    begins_unless (change_refusal volumes running who known next path) (beginning_of running path next (stored_in (entry_at volumes.rows path)))

-- a change of the list of the file at the text of a path: a bad one is refused before all else
abbrev pub beginning : Volumes → List Running → Asker → List NodeId → List NodeId → Option Path → Result Beginning MetaRefusal
beginning volumes running who known next None = Err refusal.NameBad
beginning volumes running who known next (Some path) = beginning_at volumes running who known next path

abbrev pub beginning_answer : Result Beginning MetaRefusal → MetaAnswer
beginning_answer (Err why) = answer.Refused why
beginning_answer (Ok begun) = answer.Done

-- the versions of a list are below this number
abbrev pub versions : ℕ
versions = 2147483648

-- whether no version is left for the list of a change that could begin
abbrev pub is_last_version : Result Beginning MetaRefusal → Bool
is_last_version (Err why) = false
is_last_version (Ok begun) = nat_le versions (begun.old.version + 1)

-- the nodes in the record of a change: those of its list that are known, in the order of the list
abbrev pub known_among : List NodeId → List NodeId → List NodeId
known_among osds next = filter (λ node. has_node osds node.0) next
