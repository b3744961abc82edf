-- what the trace of a world reports of a file, and what the tales of the file's world do
use Rattle.std.specs.Prelude.{◌≡◌, ◌≤◌, false, ◌==◌, ℕ, None, List, [], ◌∷◌, ◌++◌, map}
use Rattle.xt_base.specs.declared.ids.NodeId.{NodeId}
use Rattle.xt_messages.specs.declared.event.Mark.{Mark}
use Rattle.xt_messages.specs.declared.file.Op.{Op}
use Rattle.xt_protocol.specs.FileStates.{FileState, Site}
use Rattle.lease_runs.specs.ActsView.{AreActs}
use Rattle.replica_safety.specs.Lists.{AreDistinct}
use Rattle.replica_safety.specs.Rules.{Start}
use Rattle.replica_runs.specs.Made.{IsMade}
use Rattle.replica_runs.specs.Marks.{Begins}
use Rattle.replica_runs.specs.HeadWorld as heads
use Rattle.file_runs.specs.FileRuns.{Tale, FileWorld, Happening, Event, step_on, BeginsFile, MayAll, after_all}
use Rattle.file_runs.specs.FileRuns as files
use Rattle.file_runs.specs.Traces.{Tells}
use Rattle.file_runs.specs.TraceRuns.{IsSafe}
use Rattle.time_line.specs.declared.entry.Entry.{Entry}
use Rattle.time_line.specs.Clauses.{acts_on}
use Rattle.world_spec.specs.NodeSteps.{entry_of}

-- what the tales of the file's world report, the trace reports
abbrev pub TellsAs : ℕ → (ℕ × ℕ → Op) → ℕ → List Entry → List Tale → Type 0
TellsAs stripe ops file entries tales = (es : List heads.Entry) → files.Tells stripe ops tales es → Tells stripe ops file entries [] es

-- It begins so. An entry that is no act on the file reports nothing of it, nor do acts on another file; and what a step of the file
-- marks, its tale reports.
pub record Telling (stripe : ℕ) (ops : ℕ × ℕ → Op) (file : ℕ) : Type 0 where
  pub begins : TellsAs stripe ops file [] []
  pub entry : (entries : List Entry) (tales : List Tale) (e : Entry) → acts_on file e ≡ None → TellsAs stripe ops file entries tales → TellsAs stripe ops file (entries ++ e ∷ []) tales
  pub elsewhere : (entries : List Entry) (tales : List Tale) (node : NodeId) (other : ℕ) (marks : List Mark) → (other == file) ≡ false → AreActs other marks
      → TellsAs stripe ops file entries tales → TellsAs stripe ops file (entries ++ map (entry_of node) marks) tales
  pub step : (entries : List Entry) (tales : List Tale) (node : NodeId) (site : Site) (s : FileState) (happens : Happening) → s.kept.file.number ≡ file
      → TellsAs stripe ops file entries tales
      → TellsAs stripe ops file (entries ++ map (entry_of node) (step_on site s happens).turned.marks) (record { node = node.0; marks = (step_on site s happens).turned.marks } ∷ tales)

abbrev pub AlwaysTelling : Type 0
AlwaysTelling = (stripe : ℕ) (ops : ℕ × ℕ → Op) (file : ℕ) → Telling stripe ops file

-- A trace that reports what the tales of a run of the file report, where the run begins with nothing written, has one order of the
-- file's writes, no write is in it twice, and each answer on the file shows it as it was.
abbrev pub TellingIsSafe : Type 0
TellingIsSafe =
    (stripe : ℕ) (ops : ℕ × ℕ → Op) (file : ℕ) (members : List ℕ) (start : Start) (v : FileWorld) (events : List Event) (entries : List Entry) → 1 ≤ stripe
    → AreDistinct members → Begins (IsMade stripe ops) members start → start.line ≡ [] → BeginsFile stripe members start v
    → MayAll stripe ops members v events → TellsAs stripe ops file entries (after_all v events).tales → IsSafe stripe ops file entries
