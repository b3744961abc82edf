-- a replay as a whole, line by line
use Rattle.std.proofs.Common.{◌≡◌, ◌∙◌, ℕ, Bool, false, if◌then◌else◌, ◌≤◌, Option, None, List, [], ◌∷◌, ◌++◌, length, refl, sym, ap, subst, inl, inr, append-nil}
use Rattle.std.specs.List.{fold}
use Rattle.std.proofs.lemmas.Grind.{flat_map-append, fold-append}
use Rattle.xt_messages.specs.declared.status.Status.{Status}
use Rattle.xt_messages.specs.declared.status.Status.TheVariants as status
use Rattle.xt_messages.specs.declared.status.Limited.TheVariants as limited
use Rattle.node_links.specs.Streams.{Takes, Puts, IsAtEnd}
use Rattle.time_line.specs.declared.line.Line.{Line}
use Rattle.time_line.specs.declared.entry.Entry.{Entry}
use Rattle.schedule_text.specs.LineText.{line_text, schedule_text}
use Rattle.schedule_text.specs.EntryText.{trace_text}
use Rattle.schedule_text.specs.StatusText.{last_line}
use Rattle.world_spec.specs.World.{World, start_world}
use Rattle.world_spec.specs.NodeSteps.{Room}
use Rattle.world_spec.specs.Rules.{refusal}
use Rattle.world_spec.specs.Lines.{Next, finished, so_far, done}
use Rattle.world_spec.specs.Runs.{with_line, left_by, after_refusal, after, run_of}
use Rattle.world_core.specs.RunStates.{IsDone}
use Rattle.time_line.specs.declared.TheConstants.{LINES}
use Rattle.schedule_lines.specs.NextLine.{ended}
use Rattle.schedule_replay.specs.Replay.{IsDoneFrom, AreDoneFrom, AreRun, EndsAt, IsReplay}
use Rattle.schedule_lines.specs.Putting.{IsFinished}
use Rattle.schedule_replay.specs.Steps.{IsNext, IsEnd}
use Rattle.schedule_lines.proofs.Streamed.{Takes-append, Takes-nothing, Puts-append, Puts-nothing}
use Rattle.schedule_replay.proofs.Growth.{done_grows}
use Rattle.schedule_replay.proofs.Schedules.{one_more, safe_more}
use Rattle.schedule_replay.proofs.Endings.{finished_ends}

-- one line more
pub are_done-more : (room : Room) (w : World) (lines : List Line) (l : Line) → AreDoneFrom room w lines → IsDoneFrom room (fold (after room) w lines) l → AreDoneFrom room w (lines ++ l ∷ [])
are_done-more room w [] l all new = (new, tt)
are_done-more room w (x ∷ xs) l all new = (all.0, are_done-more room (after room w x) xs l all.1 new)

pub run_of-more : (room : Room) (lines : List Line) (l : Line) → run_of room (lines ++ l ∷ []) ≡ after room (run_of room lines) l
unfolding run_of
run_of-more room lines l = fold-append (after room) start_world lines (l ∷ [])

pub schedule_text-more : (lines : List Line) (l : Line) → schedule_text (lines ++ l ∷ []) ≡ schedule_text lines ++ ended (line_text l)
unfolding schedule_text
schedule_text-more lines l = flat_map-append (λ line. ended (line_text line)) lines (l ∷ []) ∙ ap (λ (text : List ℕ). schedule_text lines ++ text) (append-nil (ended (line_text l)))

pub trace_text-more : (old more : List Entry) → trace_text (old ++ more) ≡ trace_text old ++ trace_text more
unfolding trace_text
trace_text-more old more = flat_map-append _ old more

-- what holds of a replay that goes on: the lines so far were done, taken and shown
pub record IsSoFar (room : Room) (source_before source_now sink_before sink_now : Option (List ℕ)) (w : World) : Type 0 where
  pub run : AreRun room w.lines
  pub same : w ≡ run_of room w.lines
  pub source : Takes source_before source_now (schedule_text w.lines)
  pub sink : Puts sink_before sink_now (trace_text w.entries)

pub begun : (room : Room) (source sink : Option (List ℕ)) (w : World) → w ≡ start_world → IsSoFar room source source sink sink w
unfolding run_of trace_text schedule_text
begun room source sink w start =
    subst (IsSoFar room source source sink sink) (sym start)
    (record { run = record { formed = tt; done = tt }; same = refl; source = Takes-nothing source; sink = Puts-nothing sink })

-- the lines after one more
pub lines_after : (room : Room) (old new : World) (l : Line) → IsDone room old l new → new.lines ≡ old.lines ++ l ∷ []
lines_after room old new l is =
    let grows = done_grows room old l in
    ap (λ (w : World). w.lines) is.after_it
    ∙ ap (λ (ls : List Line). ls ++ l ∷ []) (sym (ap (λ (n : Next). (so_far n).lines) is.finished_in) ∙ grows.same)

-- the world after a line that is done
pub after_done : (room : Room) (w whole : World) (l : Line) → w.ended ≡ false → refusal w l ≡ None → done room w l ≡ finished whole → after room w l ≡ with_line whole l
unfolding after
after_done room w whole l going legal is =
    ap (λ (b : Bool). if b then w else after_refusal room w l (refusal w l)) going ∙ ap (after_refusal room w l) legal ∙ ap (left_by l) is

-- no step of it ended the world
pub goes_after : (room : Room) (w whole : World) (l : Line) → done room w l ≡ finished whole → whole.ended ≡ w.ended
goes_after room w whole l is = sym (ap (λ (n : Next). (so_far n).ended) is) ∙ (done_grows room w l).ended

-- the world after one more
pub world_after : (room : Room) (old new : World) (l : Line) → IsDone room old l new → new ≡ after room old l
world_after room old new l is =
    let going : old.ended ≡ false =
    sym (goes_after room old is.whole l is.finished_in) ∙ sym (ap (λ (w : World). w.ended) is.after_it) ∙ is.going in
    is.after_it ∙ sym (after_done room old is.whole l going is.legal is.finished_in)

-- it goes on
pub goes_on : (room : Room) (source_before source_now source_after sink_before sink_now sink_after : Option (List ℕ)) (old new : World)
    → IsSoFar room source_before source_now sink_before sink_now old
    → IsNext room source_now source_after sink_now sink_after old new
    → IsSoFar room source_before source_after sink_before sink_after new
goes_on room source_before source_now source_after sink_before sink_now sink_after old new so_far next =
    let lines = lines_after room old new next.line next.done in
    let is_run : fold (after room) start_world old.lines ≡ old = unfold run_of in sym so_far.same in
    record {
      run = subst (AreRun room) (sym lines) (record {
        formed = one_more old.lines next.line so_far.run.formed next.formed;
        done = are_done-more room start_world old.lines next.line so_far.run.done
            (subst (λ (w : World). IsDoneFrom room w next.line) (sym is_run) (next.done.legal, (next.done.whole, next.done.finished_in)));
      });
      same = world_after room old new next.line next.done ∙ ap (λ (w : World). after room w next.line) so_far.same ∙ sym (run_of-more room old.lines next.line) ∙ ap (run_of room) (sym lines);
      source = subst (λ (ls : List Line). Takes source_before source_after (schedule_text ls)) (sym lines)
          (subst (Takes source_before source_after) (sym (schedule_text-more old.lines next.line)) (Takes-append source_before source_now source_after _ _ so_far.source next.source));
      sink = subst (λ (es : List Entry). Puts sink_before sink_after (trace_text es)) (sym next.added)
          (subst (Puts sink_before sink_after) (sym (trace_text-more old.entries next.more)) (Puts-append sink_before sink_now sink_after _ _ so_far.sink next.sink));
    }

-- it ends
pub ends_so : (room : Room) (source_before source_now source_after sink_before sink_now sink_after : Option (List ℕ)) (w : World) (s : Status)
    → IsSoFar room source_before source_now sink_before sink_now w
    → length w.lines ≤ LINES
    → IsEnd room source_now source_after sink_now sink_after w s
    → IsReplay room source_before source_after sink_before sink_after s
ends_so room source_before source_now source_after sink_before sink_now sink_after w s so_far few end =
    record {
      lines = w.lines;
      few = few;
      run = so_far.run;
      more = end.more;
      taken = end.taken;
      put = end.put;
      source = Takes-append source_before source_now source_after _ _ so_far.source end.source;
      sink = subst (λ (v : World). Puts sink_before sink_after (trace_text v.entries ++ end.put)) so_far.same (Puts-append sink_before sink_now sink_after _ _ so_far.sink end.sink);
      ending = subst (λ (v : World). EndsAt room v end.taken source_after end.more end.put s) so_far.same end.ending;
      safe = safe_more room w.lines w end.more so_far.run.formed so_far.same end.safe;
    }

-- nothing was taken where what is left stayed so
pub nothing_taken : (before after : Option (List ℕ)) → after ≡ before → Takes before after []
nothing_taken before after same = subst (λ (left : Option (List ℕ)). Takes before left []) (sym same) (Takes-nothing before)

-- after the last line that a schedule may have
pub past_end : (room : Room) (source_before source_after sink : Option (List ℕ)) (w : World) → Takes source_before source_after [] → IsAtEnd source_after → IsEnd room source_before source_after sink sink w status.Done
unfolding trace_text last_line
past_end room source_before source_after sink w taken end =
    record { more = []; taken = []; put = []; source = taken; sink = Puts-nothing sink; ending = ((refl, end, refl), refl); safe = inl refl }

pub past_limit : (room : Room) (source_before source_after sink_before sink_after : Option (List ℕ)) (w : World) (byte : ℕ) (given : Status)
    → length w.lines ≡ LINES
    → Takes source_before source_after (byte ∷ [])
    → IsFinished sink_before sink_after (status.Limit limited.Lines LINES) given
    → IsEnd room source_before source_after sink_before sink_after w given
unfolding trace_text last_line
past_limit room source_before source_after sink_before sink_after w byte given full taken told =
    let ends = finished_ends room w (byte ∷ []) source_after [] (status.Limit limited.Lines LINES) given sink_before sink_before sink_after (Puts-nothing sink_before) told tt
    (inl (refl, full, refl, refl, refl))
    in
    record { more = []; taken = byte ∷ []; put = ends.0; source = taken; sink = ends.1; ending = ends.2; safe = inl refl }

pub past_fault : (room : Room) (source_before source_after sink_before sink_after : Option (List ℕ)) (w : World) (count : ℕ) (given : Status)
    → length w.lines ≡ LINES
    → Takes source_before source_after []
    → IsFinished sink_before sink_after (status.SourceFault count) given
    → IsEnd room source_before source_after sink_before sink_after w given
unfolding trace_text
past_fault room source_before source_after sink_before sink_after w count given full taken told =
    let ends = finished_ends room w [] source_after [] (status.SourceFault count) given sink_before sink_before sink_after (Puts-nothing sink_before) told tt
    (inr (full, refl), refl)
    in
    record { more = []; taken = []; put = ends.0; source = taken; sink = ends.1; ending = ends.2; safe = inl refl }
