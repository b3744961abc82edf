-- the replay of a list of lines, one after the other
use Rattle.std.proofs.Common.{◌≡◌, ◌≢◌, ◌∙◌, ℕ, ◌+◌, false, None, List, [], ◌∷◌, ◌++◌, ◌<◌, length, get_or, take, drop, take-append-drop, sym, ap, subst, append_assoc}
use Rattle.std.specs.List.{fold}
use Rattle.std.proofs.lemmas.List.{take_more, drop_more}
use Rattle.xt_messages.specs.declared.status.Status.TheVariants as status
use Rattle.time_line.specs.declared.entry.Entry.{Entry}
use Rattle.time_line.specs.declared.line.Line.{Line}
use Rattle.time_line.specs.Bounds.{AreLines}
use Rattle.world_spec.specs.World.{World, start_world}
use Rattle.world_spec.specs.NodeSteps.{Room, Cause}
use Rattle.world_spec.specs.Rules.{refusal}
use Rattle.world_spec.specs.Runs.{after, run_of}
use Rattle.world_hull.specs.declared.errors.WorldErr.{WorldErr}
use Rattle.world_hull.specs.declared.errors.WorldErr.TheVariants as error
use Rattle.world_core.specs.RunStates.{IsDone, CameTo, IsRefused}
use Rattle.schedule_replay.specs.Replay.{IsDoneFrom, AreDoneFrom}
use Rattle.schedule_replay.specs.Steps.{status_for}
use Rattle.schedule_replay.proofs.Whole.{are_done-more, run_of-more, lines_after, world_after}
use Rattle.make_job.specs.Make.{ComesTo, EndsEarly, EndsWith}
use Rattle.make_job.proofs.Lines.{lines_front}

-- the lines at an index, before it and after it
pub parted : (all : List Line) (i : ℕ) (l : Line) → i < length all → l ≡ get_or all i l → all ≡ take i all ++ l ∷ drop (i + 1) all
parted all i l within is =
    sym (take-append-drop i all) ∙ ap (λ (ls : List Line). take i all ++ ls) (drop_more all i l within ∙ ap (λ (k : Line). k ∷ drop (i + 1) all) (sym is))

pub one_more : (all : List Line) (i : ℕ) (l : Line) → i < length all → l ≡ get_or all i l → take (i + 1) all ≡ take i all ++ l ∷ []
one_more all i l within is = take_more all i l within ∙ ap (λ (k : Line). take i all ++ k ∷ []) (sym is)

-- these lines are done, and made the world, which takes another one
pub record IsReplayedTo (room : Room) (lines : List Line) (w : World) : Type 0 where
  pub done : AreDoneFrom room start_world lines
  pub same : w ≡ run_of room lines
  pub lines_so_far : w.lines ≡ lines
  pub going : w.ended ≡ false

pub begun : (room : Room) (w : World) → w ≡ start_world → IsReplayedTo room [] w
unfolding run_of
begun room w start = record {
  done = tt;
  same = start;
  lines_so_far = ap (λ (v : World). v.lines) start;
  going = ap (λ (v : World). v.ended) start;
}

-- one line more is done
pub goes_on : (room : Room) (lines longer : List Line) (l : Line) (old new : World) → longer ≡ lines ++ l ∷ [] → IsReplayedTo room lines old → IsDone room old l new → IsReplayedTo room longer new
goes_on room lines longer l old new same so_far is =
    let is_run : fold (after room) start_world lines ≡ old = unfold run_of in sym so_far.same in
    subst (λ (ls : List Line). IsReplayedTo room ls new) (sym same) (record {
      done = are_done-more room start_world lines l so_far.done
          (subst (λ (w : World). IsDoneFrom room w l) (sym is_run) (is.legal, (is.whole, is.finished_in)));
      same = world_after room old new l is ∙ ap (λ (w : World). after room w l) so_far.same ∙ sym (run_of-more room lines l);
      lines_so_far = lines_after room old new l is ∙ ap (λ (ls : List Line). ls ++ l ∷ []) so_far.lines_so_far;
      going = is.going;
    })

-- the next line is within the limits
pub next_fits : (room : Room) (all lines later : List Line) (l : Line) (w : World) → all ≡ lines ++ l ∷ later → IsReplayedTo room lines w → AreLines all → AreLines (w.lines ++ l ∷ [])
next_fits room all lines later l w split so_far are =
    subst (λ (ls : List Line). AreLines (ls ++ l ∷ [])) (sym so_far.lines_so_far)
    (lines_front (lines ++ l ∷ []) later (subst AreLines (split ∙ sym (append_assoc lines (l ∷ []) later)) are))

-- the next line isn't done
pub stops : (room : Room) (all lines later : List Line) (l : Line) (old new : World) (number : ℕ) (e : WorldErr)
    → all ≡ lines ++ l ∷ later
    → IsReplayedTo room lines old
    → number ≡ length lines + 1
    → IsRefused room old l new e
    → EndsWith room all (status_for number e) × (status_for number e ≢ status.Done)
stops room all lines later l old new number e split so_far counted refused = (of e refused, never e)
  where
    there : ComesTo room all lines l
    there = record { later = later; split = split; done = so_far.done }

    early : {cause : Cause} → refusal old l ≡ None → CameTo room old l cause new → EndsEarly room (run_of room lines) l cause
    early {cause} allowed came = subst (λ (w : World). EndsEarly room w l cause) so_far.same (allowed, (came.part, came.ended))

    of : (e : WorldErr) → IsRefused room old l new e → EndsWith room all (status_for number e)
    of (error.Illegal rule) is = (lines, l, there, ap (λ (w : World). refusal w l) (sym so_far.same) ∙ is.0, counted)
    of (error.Limit what limit) is = ((lines, l, there, early is.0 is.1), is.2)
    of (error.Full need limit) is = (lines, l, there, early is.0 is.1)
    of error.OutOfMemory is = tt

    never : (e : WorldErr) → status_for number e ≢ status.Done
    never (error.Illegal rule) same = cc
    never (error.Limit what limit) same = cc
    never (error.Full need limit) same = cc
    never error.OutOfMemory same = cc

-- what is reported of lines that were all done: those of their run
pub entries_are : (room : Room) (lines given : List Line) (w : World) (entries : List Entry)
    → given ≡ lines
    → w ≡ run_of room given
    → entries ≡ w.entries
    → entries ≡ (run_of room lines).entries
entries_are room lines given w entries same is_run are = are ∙ ap (λ (v : World). v.entries) (is_run ∙ ap (run_of room) same)
