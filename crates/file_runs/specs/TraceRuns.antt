-- The trace of a run of a file among OSDs.
use Rattle.std.specs.Prelude.{◌≡◌, ℕ, ◌≤◌, List, [], ◌∷◌, ◌++◌, map}
use Rattle.xt_base.specs.declared.ids.NodeId.{NodeId}
use Rattle.xt_messages.specs.declared.file.Op.{Op}
use Rattle.time_line.specs.declared.entry.Entry.{Entry}
use Rattle.time_line.specs.Clauses.{IsOneOrder}
use Rattle.time_line.specs.Clauses as clauses
use Rattle.world_spec.specs.NodeSteps.{entry_of}
use Rattle.replica_safety.specs.Lists.{AreDistinct}
use Rattle.replica_safety.specs.Rules.{Start}
use Rattle.replica_runs.specs.Made.{IsMade}
use Rattle.replica_runs.specs.Marks.{Begins}
use Rattle.file_runs.specs.FileRuns.{Tale, FileWorld, Event, BeginsFile, MayAll, after_all}
use Rattle.file_runs.specs.Traces.{AnswersFit}

-- the trace of these tales, of which the newest stands first
abbrev pub trace_of : List Tale → List Entry
trace_of [] = []
trace_of (t ∷ ts) = trace_of ts ++ map (entry_of (let node : NodeId = record { 0 = t.node } in node)) t.marks

-- The trace has one order of writes, no write is in it twice, and each answer shows it as it was.
pub record IsSafe (stripe : ℕ) (ops : ℕ × ℕ → Op) (file : ℕ) (entries : List Entry) : Type 0 where
  pub one_order : IsOneOrder file entries
  pub distinct : clauses.AreDistinct file entries
  pub answers : AnswersFit stripe ops file entries

-- Every run of the file of this number among OSDs, which begins with nothing written, has such a trace.
abbrev pub RunsAreSafe : Type 0
RunsAreSafe =
    (stripe : ℕ) (ops : ℕ × ℕ → Op) (file : ℕ) (members : List ℕ) (start : Start) (w : FileWorld) (events : List Event) → 1 ≤ stripe
    → AreDistinct members → Begins (IsMade stripe ops) members start → start.line ≡ [] → BeginsFile stripe members start w
    → ((r : ℕ) → (w.nodes r).kept.file.number ≡ file) → MayAll stripe ops members w events
    → IsSafe stripe ops file (trace_of (after_all w events).tales)
