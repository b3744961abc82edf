-- lines of a schedule are within their limits, and what a line makes of a run of such lines is safe
use Rattle.std.proofs.Common.{◌≡◌, ℕ, suc, Bool, true, false, ◌==◌, ◌+◌, ◌≤◌, ◌⊎◌, Result, Ok, Err, None, List, [], ◌∷◌, ◌++◌, length, refl, sym, ap, subst, inl, inr, append-nil, arith}
use Rattle.std.specs.List.{AllByRecursion}
use Rattle.std.proofs.lemmas.Bool.Decides.{nat_tests}
use Rattle.time_line.specs.declared.line.Line.{Line}
use Rattle.time_line.specs.declared.line.Line.TheVariants as line
use Rattle.time_line.specs.declared.entry.Entry.{Entry}
use Rattle.time_line.specs.Bounds.{sets_times, FitsLater, AreLines}
use Rattle.time_line.specs.Verdicts.{IsSafe}
use Rattle.schedule_text.specs.LineText.{IsForm, IsLine}
use Rattle.world_spec.specs.World.{World}
use Rattle.world_spec.specs.Rules.{refusal}
use Rattle.world_spec.specs.NodeSteps.{Room, Cause}
use Rattle.world_spec.specs.Lines.{so_far}
use Rattle.world_spec.specs.Runs.{run_of, IsPartOf}
use Rattle.world_safety.proofs.Whole.{runs_safe, parts_safe}
use Rattle.world_hull.specs.declared.errors.WorldErr.{WorldErr}
use Rattle.world_hull.specs.declared.errors.WorldErr.TheVariants as error
use Rattle.world_core.specs.RunStates.{IsDone, IsLeft, CameTo, IsApplied}
use Rattle.schedule_replay.specs.Replay.{AreOfSchedule}
use Rattle.schedule_replay.specs.Steps.{IsScheduleRun}
use Rattle.schedule_replay.proofs.Growth.{done_part}

-- one line more
of_schedule-more : (before : ℕ) (lines : List Line) (l : Line) → AreOfSchedule before lines → IsLine ((before + length lines) == 0) l → AreOfSchedule before (lines ++ l ∷ [])
of_schedule-more before [] l all new = (subst (λ (n : ℕ). IsLine (n == 0) l) (let e : before + 0 ≡ before = omega arith in e) new, tt)
of_schedule-more before (x ∷ xs) l all new =
    (all.0, of_schedule-more (before + 1) xs l all.1 (subst (λ (n : ℕ). IsLine (n == 0) l) (let e : before + suc (length xs) ≡ before + 1 + length xs = omega arith in e) new))

pub one_more : (lines : List Line) (l : Line) → AreOfSchedule 0 lines → IsLine (length lines == 0) l → AreOfSchedule 0 (lines ++ l ∷ [])
one_more lines l all new =
    of_schedule-more 0 lines l all (subst (λ (n : ℕ). IsLine (n == 0) l) (let e : length lines ≡ 0 + length lines = omega arith in e) new)

-- after the first line none sets the times
sets_none : (first : Bool) (l : Line) → first ≡ false → IsForm first l → sets_times l ≡ false
sets_none true l later form = absurd cc
sets_none false (line.Times lease drift) later form = absurd (let never : false ≡ true = form in cc)
sets_none false _ later form = refl

not_first : (before : ℕ) → 1 ≤ before → (before == 0) ≡ false
not_first before some = grind (arith, nat_tests)

later_fit : (before : ℕ) (lines : List Line) → 1 ≤ before → AreOfSchedule before lines → AllByRecursion FitsLater lines
later_fit before [] some all = tt
later_fit before (l ∷ ls) some all =
    ((all.0.1, sets_none (before == 0) l (not_first before some) all.0.0), later_fit (before + 1) ls (omega arith) all.1)

pub lines_fit : (lines : List Line) → AreOfSchedule 0 lines → AreLines lines
lines_fit [] all = tt
lines_fit (l ∷ ls) all = (all.0.1, later_fit (0 + 1) ls (omega arith) all.1)

-- the trace of a run of such lines is safe
run_safe : (room : Room) (lines : List Line) → AreOfSchedule 0 lines → IsSafe (run_of room lines).entries
run_safe room lines formed = runs_safe room lines (lines_fit lines formed)

pub kept_safe : (room : Room) (w : World) → IsScheduleRun room w → IsSafe w.entries
kept_safe room w run = subst (λ (v : World). IsSafe v.entries) (sym run.same) (run_safe room w.lines run.formed)

-- and so it is after each finished step of a line more
pub part_safe : (room : Room) (w : World) (l : Line) (part : World) → IsScheduleRun room w → IsLine (length w.lines == 0) l → refusal w l ≡ None → IsPartOf room w l part → IsSafe part.entries
part_safe room w l part run formed legal is =
    parts_safe room w.lines l part.entries (lines_fit (w.lines ++ l ∷ []) (one_more w.lines l run.formed formed))
    (subst (λ (v : World). refusal v l ≡ None) run.same legal)
    (part, subst (λ (v : World). IsPartOf room v l part) run.same is, refl)

-- with more entries or without
pub safe_more : (room : Room) (lines : List Line) (w : World) (more : List Entry) → AreOfSchedule 0 lines → w ≡ run_of room lines → (more ≡ []) ⊎ IsSafe (w.entries ++ more) → IsSafe ((run_of room lines).entries ++ more)
safe_more room lines w more formed same (inl none) =
    let entries = (run_of room lines).entries in
    subst (λ (es : List Entry). IsSafe (entries ++ es)) (sym none) (subst IsSafe (sym (append-nil entries)) (run_safe room lines formed))
safe_more room lines w more formed same (inr safe) = subst (λ (v : World). IsSafe (v.entries ++ more)) same safe

-- ---- what a line leaves

came_safe : (room : Room) (w new : World) (l : Line) (cause : Cause) → IsScheduleRun room w → IsLine (length w.lines == 0) l → refusal w l ≡ None → CameTo room w l cause new → IsSafe new.entries
came_safe room w new l cause run formed legal came =
    let part = subst (IsPartOf room w l) (ap so_far came.ended) (done_part room w l) in
    subst IsSafe (sym came.entries) (part_safe room w l came.part run formed legal part)

left_safe : (room : Room) (w new : World) (l : Line) → IsScheduleRun room w → IsLine (length w.lines == 0) l → refusal w l ≡ None → IsLeft room w l new → IsSafe new.entries
left_safe room w new l run formed legal (inl kept) = subst IsSafe (sym kept.0) (kept_safe room w run)
left_safe room w new l run formed legal (inr (lines, inl kept)) = subst IsSafe (sym kept) (kept_safe room w run)
left_safe room w new l run formed legal (inr (lines, inr (part, is, same))) = subst IsSafe (sym same) (part_safe room w l part run formed legal is)

done_safe : (room : Room) (old new : World) (l : Line) → IsScheduleRun room old → IsLine (length old.lines == 0) l → IsDone room old l new → IsSafe new.entries
done_safe room old new l run formed is =
    let part = subst (IsPartOf room old l) (ap so_far is.finished_in) (done_part room old l) in
    subst (λ (s : World). IsSafe s.entries) (sym is.after_it) (part_safe room old l is.whole run formed is.legal part)

pub applied_safe : (room : Room) (old new : World) (l : Line) (r : Result (Unit {0}) WorldErr) → IsScheduleRun room old → IsLine (length old.lines == 0) l → IsApplied room old l new r → IsSafe new.entries
applied_safe room old new l (Ok u) run formed is = done_safe room old new l run formed is
applied_safe room old new l (Err (error.Illegal rule)) run formed is = subst (λ (s : World). IsSafe s.entries) (sym is.1) (kept_safe room old run)
applied_safe room old new l (Err (error.Limit what limit)) run formed is = came_safe room old new l _ run formed is.0 is.1
applied_safe room old new l (Err (error.Full need limit)) run formed is = came_safe room old new l _ run formed is.0 is.1
applied_safe room old new l (Err error.OutOfMemory) run formed is = left_safe room old new l run formed is.0 is.1
