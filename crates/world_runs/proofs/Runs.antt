-- every run leaves worlds that fit; so no two nodes hold a file, and only holders act
use Rattle.std.proofs.Common.{◌≡◌, ℕ, List, [], ◌∷◌, ◌++◌, subst, None}
use Rattle.time_line.specs.declared.line.Line.{Line}
use Rattle.time_line.specs.declared.entry.Entry.{Entry}
use Rattle.world_spec.specs.World.{World}
use Rattle.world_spec.specs.Rules.{refusal}
use Rattle.world_spec.specs.NodeSteps.{Room}
use Rattle.world_spec.specs.Lines.{begins, steps, so_far}
use Rattle.time_line.specs.Bounds.{AreLines}
use Rattle.time_line.specs.Clauses.{AreApart, HoldersAct}
use Rattle.world_spec.specs.Runs.{run_of, IsRunInto}
use Rattle.world_runs.specs.Worlds.{IsInOrder, IsNextInOrder}
use Rattle.world_runs.proofs.Order.{in_order, next_in_order}
use Rattle.world_runs.proofs.Fit.{IsFit}
use Rattle.world_runs.proofs.LineSteps.{fits_kept}
use Rattle.world_runs.proofs.Walk.{NextIs, run_kept, steps_into, so_far_kept}

run_fits : (room : Room) (lines : List Line) → AreLines lines → IsFit (run_of room lines) []
run_fits room lines are = run_kept IsFit fits_kept room lines are

steps_fit : (room : Room) (lines : List Line) (l : Line) (k : ℕ) → AreLines (lines ++ l ∷ []) → refusal (run_of room lines) l ≡ None → NextIs IsFit fits_kept (steps k room (begins (run_of room lines) l))
steps_fit room lines l k are allowed = steps_into IsFit fits_kept room lines l k are allowed

into_fits : (room : Room) (lines : List Line) (l : Line) (k : ℕ) → AreLines (lines ++ l ∷ []) → refusal (run_of room lines) l ≡ None → IsFit (so_far (steps k room (begins (run_of room lines) l))) []
into_fits room lines l k are allowed = so_far_kept IsFit fits_kept (steps k room (begins (run_of room lines) l)) (steps_fit room lines l k are allowed)

pub runs_in_order : (room : Room) (lines : List Line) → AreLines lines → IsInOrder (run_of room lines) []
runs_in_order room lines are = in_order (run_of room lines) [] (run_fits room lines are)

pub steps_in_order : (room : Room) (lines : List Line) (l : Line) (k : ℕ) → AreLines (lines ++ l ∷ []) → refusal (run_of room lines) l ≡ None → IsNextInOrder (steps k room (begins (run_of room lines) l))
steps_in_order room lines l k are allowed = next_in_order (steps k room (begins (run_of room lines) l)) (steps_fit room lines l k are allowed)

pub runs_apart : (room : Room) (lines : List Line) (file : ℕ) → AreLines lines → AreApart file (run_of room lines).entries
runs_apart room lines file are = ((run_fits room lines are).safe file).0

pub runs_act : (room : Room) (lines : List Line) (file : ℕ) → AreLines lines → HoldersAct file (run_of room lines).entries
runs_act room lines file are = ((run_fits room lines are).safe file).1

pub parts_apart : (room : Room) (lines : List Line) (l : Line) (file : ℕ) (entries : List Entry) → AreLines (lines ++ l ∷ []) → refusal (run_of room lines) l ≡ None → IsRunInto room lines l entries → AreApart file entries
parts_apart room lines l file entries are allowed into =
    subst (AreApart file) into.2 (subst (λ (part : World). AreApart file part.entries) into.1.2 ((into_fits room lines l into.1.0 are allowed).safe file).0)

pub parts_act : (room : Room) (lines : List Line) (l : Line) (file : ℕ) (entries : List Entry) → AreLines (lines ++ l ∷ []) → refusal (run_of room lines) l ≡ None → IsRunInto room lines l entries → HoldersAct file entries
parts_act room lines l file entries are allowed into =
    subst (HoldersAct file) into.2 (subst (λ (part : World). HoldersAct file part.entries) into.1.2 ((into_fits room lines l into.1.0 are allowed).safe file).1)
