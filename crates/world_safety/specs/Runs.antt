-- Each file of a world is a run of that file among OSDs.
use Rattle.std.specs.Prelude.{◌≡◌, ◌⊎◌, ℕ, true, Option, Some, None, List, [], ◌++◌}
use Rattle.xt_messages.specs.Limits.{FitsLocation}
use Rattle.xt_base.specs.declared.ids.FileId.{FileId}
use Rattle.xt_messages.specs.declared.file.Location.{Location}
use Rattle.xt_messages.specs.declared.file.Op.{Op}
use Rattle.xt_messages.specs.declared.message.Msg.{Msg}
use Rattle.xt_protocol.specs.OsdSteps.{file_concerned}
use Rattle.replica_safety.specs.Lists.{Has}
use Rattle.replica_runs.specs.HeadOrder.{AreOnOneOrder, AreChanges, IssuesComeFirst, order_of}
use Rattle.replica_runs.specs.HeadWorld.{shown}
use Rattle.replica_runs.specs.HeadWorld as heads
use Rattle.file_runs.specs.FileRuns.{FileWorld, first_world, Event, MayAll, after_all}
use Rattle.file_runs.specs.Traces.{Tells}
use Rattle.file_runs.specs.TraceRuns.{IsSafe}
use Rattle.time_line.specs.declared.entry.Entry.{Entry}
use Rattle.time_line.specs.TimeLine.{location_in, is_replicated, stripe_of}
use Rattle.world_spec.specs.declared.PlacedFile.{PlacedFile}
use Rattle.world_spec.specs.World.{World, file_in, known}
use Rattle.world_spec.specs.Lines.{Next, finished, opens, goes_on, ends}
use Rattle.world_runs.specs.View.{messages}
use Rattle.world_safety.specs.Seen.{Sees}
use Rattle.world_safety.specs.May.{LeadersHold}
use Rattle.world_safety.specs.Tellings.{TellsAs}
use Rattle.world_safety.specs.Asks.{operations_of, AreOperations, KnownList}

-- ---- a file's world and the world

-- The message was sent in the file's world, by its sender; or it says nothing of replication.
abbrev pub WasSent : Msg → FileWorld → Type 0
WasSent m v = Has (record { from = m.from.0; content = m.payload }) v.sent ⊎ (shown m.from.0 m.payload ≡ [])

-- A world of the file alone is what a world shows of it, in the midst of a line with the messages of a node to itself that it hasn't
-- handled: it has the nodes; who leads holds; each message about the file was sent; and the trace reports what the tales report.
pub record IsShownBy (stripe : ℕ) (ops : ℕ × ℕ → Op) (file : FileId) (w : World) (own : List Msg) (v : FileWorld) : Type 0 where
  pub sees : Sees file w v
  pub leaders : LeadersHold file w v
  pub sent : (m : Msg) → Has m (own ++ messages w) → file_concerned m.payload ≡ Some file → WasSent m v
  pub told : TellsAs stripe ops file.number w.entries v.tales

-- These events can happen in a world of the file, and lead to what a world shows of it.
pub record LeadsTo (stripe : ℕ) (ops : ℕ × ℕ → Op) (members : List ℕ) (file : FileId) (w : World) (own : List Msg) (v : FileWorld) : Type 0 where
  pub events : List Event
  pub may : MayAll stripe ops members v events
  pub is : IsShownBy stripe ops file w own (after_all v events)

-- ---- runs

-- What a world shows of a file is what a run of the file comes to, that begins with nothing written.
abbrev pub IsRunOfFile : ℕ → (ℕ × ℕ → Op) → List ℕ → FileId → World → List Msg → Type 0
IsRunOfFile stripe ops members file w own = LeadsTo stripe ops members file w own (first_world file)

-- So it is of each file, whatever list and operations agree with what is known of it and with the calls that have begun.
abbrev pub FilesAreRuns : World → List Msg → Type 0
FilesAreRuns w own =
    (file : FileId) (stripe : ℕ) (ops : ℕ × ℕ → Op) (members : List ℕ) → KnownList (known w) file stripe members
    → AreOperations ops file.number w.entries → IsRunOfFile stripe ops members file w own

-- and at each step of a line
abbrev pub NextAreRuns : Next → Type 0
NextAreRuns (finished w) = FilesAreRuns w []
NextAreRuns (opens l w) = FilesAreRuns w []
NextAreRuns (goes_on d) = FilesAreRuns d.world d.own
NextAreRuns (ends cause w) = FilesAreRuns w []

-- ---- traces

abbrev pub place_of : Option PlacedFile → Option Location
place_of None = None
place_of (Some f) = Some f.location

-- The trace reports where each file is, declared or made, within the limits.
pub record ArePlaced (w : World) : Type 0 where
  pub told : (number : ℕ) → location_in number w.entries ≡ place_of (file_in (known w) number)
  pub fit : (number : ℕ) (f : PlacedFile) → file_in (known w) number ≡ Some f → FitsLocation f.location

-- What the trace reports of a file fits one order of writes and truncations, each issued first; so no write is in it twice, and each
-- answer shows the order as it was.
pub record HasOneOrder (stripe : ℕ) (ops : ℕ × ℕ → Op) (file : ℕ) (entries : List Entry) : Type 0 where
  pub told : List heads.Entry
  pub tells : Tells stripe ops file entries [] told
  pub fit : AreOnOneOrder stripe ops [] told
  pub changes : AreChanges ops (order_of [] told)
  pub issued : IssuesComeFirst [] [] told
  pub safe : IsSafe stripe ops file entries

-- So it is of each replicated file, by the operations of the calls that have begun in the trace.
abbrev pub FilesAreSafe : List Entry → Type 0
FilesAreSafe entries =
    (file : ℕ) → is_replicated file entries ≡ true → HasOneOrder (stripe_of file entries) (operations_of file entries) file entries
