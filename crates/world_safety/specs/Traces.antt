-- what is said of every trace
use Rattle.std.specs.Prelude.{◌≡◌, ℕ, None, List, [], ◌∷◌, ◌++◌}
use Rattle.time_line.specs.declared.entry.Entry.{Entry}
use Rattle.time_line.specs.declared.line.Line.{Line}
use Rattle.time_line.specs.Bounds.{AreLines}
use Rattle.world_spec.specs.NodeSteps.{Room}
use Rattle.world_spec.specs.Rules.{refusal}
use Rattle.world_spec.specs.Runs.{run_of, IsRunInto}
use Rattle.time_line.specs.Verdicts.{Clause, Holds}

-- The clause holds of each replicated file: in the trace of every run of any lines within their limits, and in the trace after each
-- finished step of a line more.
pub record AlwaysHolds (clause : Clause) : Type 0 where
  pub whole : (room : Room) (lines : List Line) (file : ℕ) → AreLines lines → Holds clause file (run_of room lines).entries
  pub part : (room : Room) (lines : List Line) (l : Line) (file : ℕ) (entries : List Entry)
      → AreLines (lines ++ l ∷ []) → refusal (run_of room lines) l ≡ None → IsRunInto room lines l entries → Holds clause file entries
