-- what must hold in a trace of a striped file that one client alone uses
use Rattle.std.specs.Prelude.{ℕ, Bool, true, false, Option, Some, None, List, ◌≡◌, Contains}
use Rattle.std.specs.List.{filter_map}
use Rattle.xt_base.specs.declared.ids.NodeId.{NodeId}
use Rattle.xt_base.specs.declared.ids.OpId.{OpId}
use Rattle.xt_messages.specs.declared.file.Kind.TheVariants as kind
use Rattle.xt_messages.specs.declared.file.Location.{Location}
use Rattle.xt_messages.specs.declared.file.Op.{Op}
use Rattle.xt_messages.specs.declared.event.Call.TheVariants as call
use Rattle.time_line.specs.Content.{content_of, place_of, range_of}
use Rattle.time_line.specs.declared.entry.Entry.{Entry}
use Rattle.time_line.specs.declared.entry.Entry.TheVariants as entry
use Rattle.time_line.specs.TimeLine.{id_of, location_in, operation_on, stripe_of}
use Rattle.time_line.specs.Clauses.{IsBefore, HasBegunOn, EndsWell, ok_entry}

abbrev pub is_striped_at : Option Location → Bool
is_striped_at None = false
is_striped_at (Some location) = elim location.kind [ kind.Replicated ↦ false | kind.Striped ↦ true ]

-- whether the file is striped
abbrev pub is_striped : ℕ → List Entry → Bool
is_striped file entries = is_striped_at (location_in file entries)

-- what an entry begins on a file
abbrev pub begins_on : ℕ → Entry → Option Op
begins_on file (entry.Begin client number c) = operation_on file (Some c)
begins_on file _ = None

-- The operations on a file in the order in which they began. Its content is what they make; the reads among them change nothing.
abbrev pub operations_on : ℕ → List Entry → List Op
operations_on file entries = filter_map (begins_on file) entries

-- One client alone has begun calls on the file, and each of them has ended well.
pub record IsUsedByOne (file : ℕ) (entries : List Entry) : Type 0 where
  pub client : NodeId
  pub alone : (id : OpId) → HasBegunOn file entries id → id.client ≡ client
  pub ended : (id : OpId) → HasBegunOn file entries id → (count : ℕ) × EndsWell entries id count

-- Each read that ended well shows the asked range of what the operations before it made.
abbrev pub ReadsShow : ℕ → List Entry → Type 0
ReadsShow file entries =
    (before : List Entry) (client : NodeId) (number object at len count : ℕ) (bytes : List ℕ)
    → IsBefore before (entry.Begin client number (call.Read file object at len)) entries
    → Contains entries (ok_entry (id_of client number) count bytes)
    → bytes
    ≡ range_of (content_of (stripe_of file entries) (operations_on file before)) (place_of (stripe_of file entries) object at) len

-- A striped file that one client alone uses is as if that client had it to itself.
abbrev pub IsStripedSafeFor : ℕ → List Entry → Type 0
IsStripedSafeFor file entries = is_striped file entries ≡ true → IsUsedByOne file entries → ReadsShow file entries

-- So it is of every file of the trace.
abbrev pub IsStripedSafe : List Entry → Type 0
IsStripedSafe entries = (file : ℕ) → IsStripedSafeFor file entries
