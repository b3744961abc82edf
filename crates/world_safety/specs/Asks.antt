-- which asks can arrive at a file, and what becomes of the others
use Rattle.std.specs.Prelude.{◌≡◌, ◌⊎◌, true, ℕ, Option, Some, None, List, ◌++◌}
use Rattle.xt_base.specs.declared.ids.NodeId.{NodeId}
use Rattle.xt_base.specs.declared.ids.FileId.{FileId}
use Rattle.xt_base.specs.declared.ids.OpId.{OpId}
use Rattle.xt_base.specs.declared.ids.Stamp.{Stamp}
use Rattle.xt_base.specs.declared.ids.Epoch.{Epoch}
use Rattle.xt_messages.specs.declared.file.Op.{Op}
use Rattle.xt_messages.specs.declared.file.Op.TheVariants as op
use Rattle.xt_messages.specs.declared.message.Payload.{Payload}
use Rattle.xt_messages.specs.declared.message.Payload.TheVariants as payload
use Rattle.xt_protocol.specs.AskRows.{leaves_object}
use Rattle.xt_protocol.specs.FileStates.{FileState, Site, FileStep}
use Rattle.xt_protocol.specs.FileSteps.{step_of_file}
use Rattle.xt_protocol.specs.OsdSteps.{file_concerned}
use Rattle.replica_runs.specs.FileView.{IsList, AskComes}
use Rattle.replica_runs.specs.Seen.{name_of}
use Rattle.world_spec.specs.declared.PlacedFile.{PlacedFile}
use Rattle.time_line.specs.declared.entry.Entry.{Entry}
use Rattle.time_line.specs.TimeLine.{operation_begun}
use Rattle.world_spec.specs.World.{file_in}
use Rattle.world_runs.specs.Worlds.{PayloadFits}
use Rattle.world_runs.specs.Asks.{HasBegunSo}

-- the id of this name
abbrev pub id_named : ℕ × ℕ → OpId
id_named n = record { client = record { 0 = n.0 }; number = n.1 }

abbrev pub operation_or_none : Option Op → Op
operation_or_none None = op.Truncate 0
operation_or_none (Some asked) = asked

-- What the calls do that have begun on a file; of a call that hasn't, nothing is read.
abbrev pub operations_of : ℕ → List Entry → ℕ × ℕ → Op
operations_of file entries n = operation_or_none (operation_begun file entries (id_named n))

-- these are the operations of the calls that have begun on the file
abbrev pub AreOperations : (ℕ × ℕ → Op) → ℕ → List Entry → Type 0
AreOperations ops file entries = (id : OpId) (asked : Op) → operation_begun file entries id ≡ Some asked → ops (name_of id) ≡ asked

-- an ask for a range that leaves its object
abbrev pub IsOutside : Payload → Type 0
IsOutside (payload.Ask number capability asked) = leaves_object capability.location.stripe asked ≡ true
IsOutside _ = ⊥

-- Where a file of this number is known, it is this file, replicated on this list.
abbrev pub KnownList : List PlacedFile → FileId → ℕ → List ℕ → Type 0
KnownList files file stripe members = (k : PlacedFile) → file_in files file.number ≡ Some k → (k.file ≡ file) × IsList stripe members k.location

-- A message that concerns the file: an ask on the known list, of a call that has begun so, can arrive at the file, or it asks for
-- what leaves the object; every other message can arrive.
abbrev pub MessagesCome : Type 0
MessagesCome =
    (stripe : ℕ) (ops : ℕ × ℕ → Op) (members : List ℕ) (files : List PlacedFile) (entries : List Entry) (file : FileId) (from : NodeId) (content : Payload)
    → file_concerned content ≡ Some file → PayloadFits files content → HasBegunSo entries from content → AreOperations ops file.number entries
    → KnownList files file stripe members → AskComes stripe ops members from content ⊎ IsOutside content

-- the same state, record and marks
pub record IsSameButSent (a b : FileStep) : Type 0 where
  pub state : a.state ≡ b.state
  pub rec : a.turned.rec ≡ b.turned.rec
  pub marks : a.turned.marks ≡ b.turned.marks

-- An ask for what leaves the object does to the file what a Fetch does, which shows nothing and can happen at any time; only what is
-- sent is different.
abbrev pub OutsideIsIdle : Type 0
OutsideIsIdle =
    (site : Site) (s : FileState) (from : NodeId) (content : Payload) (file : FileId) (epoch : Epoch) (object : ℕ) (version : Stamp) → IsOutside content
    → IsSameButSent (step_of_file site s from content) (step_of_file site s from (payload.Fetch file epoch object version))

-- The operations of the calls in a trace are theirs at each moment of it.
abbrev pub OperationsAre : Type 0
OperationsAre = (file : ℕ) (entries moment after : List Entry) → entries ≡ moment ++ after → AreOperations (operations_of file entries) file moment
