-- how a replay goes on or ends with its next line
use Rattle.std.proofs.Common.{◌≡◌, ◌∙◌, ℕ, ◌+◌, ◌-◌, ◌<◌, ◌==◌, Option, Some, Result, Ok, Err, List, [], ◌++◌, length, length-append, take, drop, refl, sym, ap, subst, inl, inr, arith}
use Rattle.std.proofs.Math.Seq.{drop-append_seam, take-length}
use Rattle.xt_messages.specs.declared.status.Status.{Status}
use Rattle.node_links.specs.Streams.{Takes, Puts}
use Rattle.time_line.specs.declared.line.Line.{Line}
use Rattle.time_line.specs.declared.entry.Entry.{Entry}
use Rattle.schedule_text.specs.LineText.{line_text, IsLine}
use Rattle.schedule_text.specs.EntryText.{trace_text}
use Rattle.world_hull.specs.declared.errors.WorldErr.{WorldErr}
use Rattle.world_spec.specs.World.{World}
use Rattle.world_spec.specs.NodeSteps.{Room}
use Rattle.world_core.specs.RunStates.{IsDone, IsRefused, IsApplied}
use Rattle.time_line.specs.declared.TheConstants.{LINES}
use Rattle.time_line.specs.Verdicts.{IsSafe}
use Rattle.schedule_lines.specs.NextLine.{ended, StopsReading}
use Rattle.schedule_lines.specs.Putting.{IsPut, IsFinished}
use Rattle.schedule_replay.specs.Steps.{IsNext, IsEnd, Grown, status_for}
use Rattle.schedule_lines.proofs.Streamed.{Puts-nothing}
use Rattle.schedule_replay.proofs.Endings.{Comes, stop_ends, stop_told, finished_ends, put_ends, done_adds, refused_ends, refused_told}

-- the entries after those that were printed
pub shown_is : (old new more : List Entry) → new ≡ old ++ more → take (length new - length old) (drop (length old) new) ≡ more
shown_is old new more grown =
    let rest : drop (length old) new ≡ more = ap (λ (es : List Entry). drop (length old) es) grown ∙ drop-append_seam old more in
    let size : length new - length old ≡ length more = omega (arith, ap length grown, length-append old more) in
    ap (λ (n : ℕ). take n (drop (length old) new)) size ∙ ap (λ (es : List Entry). take (length more) es) rest ∙ take-length more

-- the entries that are shown are those that the line added
pub shown_more : (old_entries new_entries printed entries : List Entry) (grown : Grown old_entries new_entries) → printed ≡ old_entries → entries ≡ new_entries
    → take (length entries - length printed) (drop (length printed) entries) ≡ grown.0
shown_more old_entries new_entries printed entries grown before after =
    shown_is printed entries grown.0 (after ∙ grown.1 ∙ ap (λ (es : List Entry). es ++ grown.0) (sym before))

-- no line was read
pub stopped_end : (room : Room) (source_before source_after sink_before sink_after : Option (List ℕ)) (w : World) (lines : List Line) (s given : Status)
    → length w.lines < LINES
    → lines ≡ w.lines
    → (taken : List ℕ) × Takes source_before source_after taken × StopsReading (length lines) taken source_after s
    → IsFinished sink_before sink_after s given
    → IsEnd room source_before source_after sink_before sink_after w given
unfolding trace_text
stopped_end room source_before source_after sink_before sink_after w lines s given few same (taken, source, stops) finished =
    let stop = subst (λ (ls : List Line). StopsReading (length ls) taken source_after s) same stops in
    let ends = finished_ends room w taken source_after [] s given sink_before sink_before sink_after (Puts-nothing sink_before) finished (stop_told (length w.lines) taken source_after s stop) (stop_ends room w taken source_after s few stop) in
    record { more = []; taken = taken; put = ends.0; source = source; sink = ends.1; ending = ends.2; safe = inl refl }

-- what a line comes to, done or not
come_to : (room : Room) (old new : World) (l : Line) (r : Result (Unit {0}) WorldErr) (more : List Entry) (left : Option (List ℕ))
    → length old.lines < LINES
    → IsLine (length old.lines == 0) l
    → IsApplied room old l new r
    → new.entries ≡ old.entries ++ more
    → Comes room old (ended (line_text l)) left more
come_to room old new l (Ok u) more left few formed applied same = inl (done_adds room old new l more few formed applied same)
come_to room old new l (Err e) more left few formed applied same =
    inr (status_for (length old.lines + 1) e, refused_told (length old.lines + 1) e, refused_ends room old new l e more left few formed applied same)

-- the line, as one after those of the world
formed_behind : (w : World) (lines : List Line) (l : Line) → lines ≡ w.lines → IsLine (length lines == 0) l → IsLine (length w.lines == 0) l
formed_behind w lines l same formed = subst (λ (ls : List Line). IsLine (length ls == 0) l) same formed

-- what a line added couldn't be put
pub unshown_end : (room : Room) (source_before source_after sink_before sink_after : Option (List ℕ)) (old new : World) (l : Line) (lines : List Line) (r : Result (Unit {0}) WorldErr) (grown : Grown old.entries new.entries) (shown : List Entry) (s : Status)
    → length old.lines < LINES
    → lines ≡ old.lines
    → IsLine (length lines == 0) l
    → Takes source_before source_after (ended (line_text l))
    → IsApplied room old l new r
    → IsSafe new.entries
    → shown ≡ grown.0
    → IsPut sink_before sink_after (trace_text shown) (Some s)
    → IsEnd room source_before source_after sink_before sink_after old s
unshown_end room source_before source_after sink_before sink_after old new l lines r grown shown s few counted formed source applied safe same put =
    let tried = subst (λ (es : List Entry). IsPut sink_before sink_after (trace_text es) (Some s)) same put in
    let comes = come_to room old new l r grown.0 source_after few (formed_behind old lines l counted formed) applied grown.1 in
    let ends = put_ends room old (ended (line_text l)) source_after grown.0 s sink_before sink_after tried comes in
    record {
      more = grown.0;
      taken = ended (line_text l);
      put = ends.0;
      source = source;
      sink = ends.1;
      ending = ends.2;
      safe = inr (subst IsSafe grown.1 safe);
    }

-- the line is done and shown
pub line_next : (room : Room) (source_before source_after sink_before sink_after : Option (List ℕ)) (old new : World) (l : Line) (lines : List Line) (grown : Grown old.entries new.entries) (shown : List Entry)
    → lines ≡ old.lines
    → IsLine (length lines == 0) l
    → Takes source_before source_after (ended (line_text l))
    → IsDone room old l new
    → shown ≡ grown.0
    → Puts sink_before sink_after (trace_text shown)
    → IsNext room source_before source_after sink_before sink_after old new
line_next room source_before source_after sink_before sink_after old new l lines grown shown same formed source done is_more put =
    record {
      line = l;
      formed = subst (λ (ls : List Line). IsLine (length ls == 0) l) same formed;
      done = done;
      source = source;
      more = grown.0;
      added = grown.1;
      sink = subst (λ (es : List Entry). Puts sink_before sink_after (trace_text es)) is_more put;
    }

-- the line isn't done, and what its finished steps added is shown
pub refused_end : (room : Room) (source_before source_after sink_before sink_mid sink_after : Option (List ℕ)) (old new : World) (l : Line) (e : WorldErr) (lines : List Line) (grown : Grown old.entries new.entries) (shown : List Entry) (s given : Status)
    → length old.lines < LINES
    → lines ≡ old.lines
    → IsLine (length lines == 0) l
    → Takes source_before source_after (ended (line_text l))
    → IsRefused room old l new e
    → IsSafe new.entries
    → shown ≡ grown.0
    → Puts sink_before sink_mid (trace_text shown)
    → s ≡ status_for (length lines + 1) e
    → IsFinished sink_mid sink_after s given
    → IsEnd room source_before source_after sink_before sink_after old given
refused_end room source_before source_after sink_before sink_mid sink_after old new l e lines grown shown s given few same formed source refused safe is_more put is_status finished =
    let shown_put = subst (λ (es : List Entry). Puts sink_before sink_mid (trace_text es)) is_more put in
    let said : Status = status_for (length old.lines + 1) e in
    let status_is : s ≡ said = is_status ∙ ap (λ (ls : List Line). status_for (length ls + 1) e) same in
    let given_said = subst (λ (t : Status). IsFinished sink_mid sink_after t given) status_is finished in
    let ending = refused_ends room old new l e grown.0 source_after few (formed_behind old lines l same formed) refused grown.1 in
    let ends = finished_ends room old (ended (line_text l)) source_after grown.0 said given sink_before sink_mid sink_after shown_put given_said (refused_told (length old.lines + 1) e) ending in
    record {
      more = grown.0;
      taken = ended (line_text l);
      put = ends.0;
      source = source;
      sink = ends.1;
      ending = ends.2;
      safe = inr (subst IsSafe grown.1 safe);
    }
