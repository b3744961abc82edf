-- The trace of every run is safe.
use Rattle.std.proofs.Common.{◌≡◌, ℕ, true, List, [], ◌∷◌, ◌++◌, None}
use Rattle.time_line.specs.declared.entry.Entry.{Entry}
use Rattle.time_line.specs.declared.line.Line.{Line}
use Rattle.time_line.specs.Bounds.{AreLines}
use Rattle.world_spec.specs.NodeSteps.{Room}
use Rattle.world_spec.specs.Rules.{refusal}
use Rattle.world_spec.specs.Runs.{run_of, IsRunInto, AreRunsSafe}
use Rattle.time_line.specs.TimeLine.{is_replicated}
use Rattle.time_line.specs.Clauses.{AreApart, HoldersAct, EndsAreAnswered}
use Rattle.time_line.specs.Verdicts.{Clause, apart, acting, one_order, once, shown, fresh, IsSafeFor, IsSafe}
use Rattle.world_runs.proofs.Runs.{runs_apart, parts_apart, runs_act, parts_act}
use Rattle.world_runs.specs.Acts.{ActsHaveBegun}
use Rattle.world_runs.proofs.Fresh.{answered_fresh}
use Rattle.world_runs.proofs.EndRuns.{runs_answered, parts_answered, runs_acts_begun, parts_acts_begun}
use Rattle.world_safety.specs.Runs.{FilesAreSafe}
use Rattle.world_safety.proofs.Runs.{runs_are_safe, parts_are_safe}
use Rattle.world_safety.specs.Traces.{AlwaysHolds}
use Rattle.world_safety.proofs.Orders.{stand_once, answers_show}

-- a trace whose leases, acts and ends are so, and each of whose replicated files has one order
safe_for : (file : ℕ) (entries : List Entry) → AreApart file entries → HoldersAct file entries → ActsHaveBegun file entries → (is_replicated file entries ≡ true → EndsAreAnswered file entries) → FilesAreSafe entries
    → IsSafeFor file entries
safe_for file entries alone act begun answered files apart is = alone
safe_for file entries alone act begun answered files acting is = act
safe_for file entries alone act begun answered files one_order is = (files file is).safe.one_order
safe_for file entries alone act begun answered files once is = stand_once file entries begun (files file is)
safe_for file entries alone act begun answered files shown is = answers_show file entries begun (files file is)
safe_for file entries alone act begun answered files fresh is =
    answered_fresh file entries (answered is) (stand_once file entries begun (files file is)) (answers_show file entries begun (files file is))

pub runs_safe : (room : Room) → AreRunsSafe room
runs_safe room lines are file =
    safe_for file (run_of room lines).entries (runs_apart room lines file are) (runs_act room lines file are) (runs_acts_begun room lines file are)
    (runs_answered room lines file are) (runs_are_safe room lines are)

pub parts_safe : (room : Room) (lines : List Line) (l : Line) (entries : List Entry) → AreLines (lines ++ l ∷ []) → refusal (run_of room lines) l ≡ None → IsRunInto room lines l entries → IsSafe entries
parts_safe room lines l entries are allowed into file =
    safe_for file entries (parts_apart room lines l file entries are allowed into) (parts_act room lines l file entries are allowed into)
    (parts_acts_begun room lines l file entries are allowed into) (parts_answered room lines l file entries are allowed into) (parts_are_safe room lines l entries are allowed into)

-- and so each clause is
pub always : (clause : Clause) → AlwaysHolds clause
always clause = record {
  whole = λ room lines file are. runs_safe room lines are file clause;
  part = λ room lines l file entries are allowed into. parts_safe room lines l entries are allowed into file clause;
}
