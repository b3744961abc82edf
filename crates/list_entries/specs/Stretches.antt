-- Which list of a file is in force at a moment of a trace, who may hold the file by it, and the stretches of a trace between two lists.
use Rattle.std.specs.Prelude.{ℕ, Bool, true, false, ◌&&◌, ◌==◌, ◌≡◌, ◌+◌, if◌then◌else◌, Option, Some, None, List, []}
use Rattle.std.specs.List.{fold}
use Rattle.xt_base.specs.MemberList.{has_node}
use Rattle.xt_base.specs.declared.ids.NodeId.{NodeId}
use Rattle.xt_messages.specs.declared.file.Location.{Location}
use Rattle.time_line.specs.declared.entry.Entry.{Entry}
use Rattle.time_line.specs.declared.entry.Entry.TheVariants as entry
use Rattle.time_line.specs.TimeLine.{location_in}
use Rattle.time_line.specs.Clauses.{IsBefore}

-- ---- the list in force

-- the last list that a `list` entry gave the file, if there is such an entry
abbrev pub list_told : ℕ → Option (List NodeId) → Entry → Option (List NodeId)
list_told file before (entry.List number version members) = if number == file then Some members else before
list_told file before _ = before

unfoldable pub last_list : ℕ → List Entry → Option (List NodeId)
last_list file moment = fold (list_told file) None moment

abbrev pub members_at : Option Location → List NodeId
members_at None = []
members_at (Some location) = location.members

abbrev pub list_or : List NodeId → Option (List NodeId) → List NodeId
list_or members None = members
list_or members (Some listed) = listed

-- the members of the file at a moment: of its last list, or where there is none, of the one that its `file` entry has
abbrev pub members_in : ℕ → List Entry → List NodeId
members_in file moment = list_or (members_at (location_in file moment)) (last_list file moment)

-- Who holds a file by an entry is a member of the list in force at that entry.
abbrev pub MembersHold : ℕ → List Entry → Type 0
MembersHold file entries =
    (before : List Entry) (node : NodeId) (end : ℕ)
    → IsBefore before (entry.Held node file end) entries → has_node (members_in file before) node.0 ≡ true

-- ---- stretches

-- A trace is in its first stretch of a file at first, and each `list` entry of the file begins the next one.
abbrev pub stretch_after : ℕ → ℕ → Entry → ℕ
stretch_after file before (entry.List number version members) = if number == file then before + 1 else before
stretch_after file before _ = before

unfoldable pub stretch_in : ℕ → List Entry → ℕ
stretch_in file moment = fold (stretch_after file) 1 moment

-- whether an entry begins the next stretch of the file
abbrev pub is_list_of : ℕ → Entry → Bool
is_list_of file (entry.List number version members) = number == file
is_list_of file _ = false

-- the stretch of a moment, and the end of the lease that the node held last in the stretch of interest since its start
pub record Told : Type 0 where
  pub stretch : ℕ
  pub end : Option ℕ

abbrev pub forgets_end : Bool → Told → Told
forgets_end same before = if same then record { stretch = before.stretch; end = None } else before

abbrev pub tells_end : Bool → ℕ → Told → Told
tells_end same end before = if same then record { stretch = before.stretch; end = Some end } else before

abbrev pub told_after : ℕ → NodeId → ℕ → Told → Entry → Told
told_after k node file before (entry.Up n boot clock) = forgets_end (n.0 == node.0) before
told_after k node file before (entry.Down n clock how) = forgets_end (n.0 == node.0) before
told_after k node file before (entry.Held n f end) = tells_end ((n.0 == node.0) && (f == file) && (before.stretch == k)) end before
told_after k node file before (entry.List number version members) =
    record { stretch = if number == file then before.stretch + 1 else before.stretch; end = before.end }
told_after k node file before _ = before

unfoldable pub told_at : ℕ → NodeId → ℕ → List Entry → Told
told_at k node file moment = fold (told_after k node file) (record { stretch = 1; end = None }) moment

-- The end of the lease of the file that the node held last since its start, of those that it held in this stretch.
abbrev pub told_in : ℕ → NodeId → ℕ → List Entry → Option ℕ
told_in k node file moment = (told_at k node file moment).end
