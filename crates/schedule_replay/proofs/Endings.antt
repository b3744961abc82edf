-- why a replay ends, from what its steps did
use Rattle.std.proofs.Common.{◌≡◌, ◌∙◌, ℕ, ◌+◌, ◌<◌, ◌==◌, ◌⊎◌, Option, Some, Result, Ok, Err, List, [], ◌∷◌, ◌++◌, length, refl, sym, ap, subst, inl, inr, append_assoc, append-nil}
use Rattle.xt_messages.specs.declared.status.Status.{Status}
use Rattle.xt_messages.specs.declared.status.Status.TheVariants as status
use Rattle.node_links.specs.Streams.{Puts}
use Rattle.time_line.specs.declared.line.Line.{Line}
use Rattle.time_line.specs.declared.entry.Entry.{Entry}
use Rattle.schedule_text.specs.LineText.{line_text, IsLine}
use Rattle.schedule_text.specs.EntryText.{trace_text}
use Rattle.schedule_text.specs.StatusText.{last_line}
use Rattle.world_spec.specs.World.{World}
use Rattle.world_spec.specs.NodeSteps.{Room, Cause}
use Rattle.world_spec.specs.Lines.{Next, so_far}
use Rattle.world_hull.specs.declared.errors.WorldErr.{WorldErr}
use Rattle.world_hull.specs.declared.errors.WorldErr.TheVariants as error
use Rattle.world_core.specs.RunStates.{IsDone, IsRefused, IsLeft, CameTo, IsApplied}
use Rattle.time_line.specs.declared.TheConstants.{LINES}
use Rattle.schedule_lines.specs.Fronts.{IsFrontOf}
use Rattle.schedule_lines.specs.NextLine.{ended, StopsReading}
use Rattle.schedule_replay.specs.Replay.{EndsEarly, AddsPart, AddsAll, EndsWith, IsCutShort, EndsAt}
use Rattle.schedule_lines.specs.Putting.{IsPut, IsFinished}
use Rattle.schedule_replay.specs.Steps.{Grown, status_for}
use Rattle.schedule_lines.proofs.Streamed.{Puts-append}
use Rattle.schedule_replay.proofs.Growth.{part_grows, done_grows}

-- a front after the same bytes
front_behind : (before front bytes : List ℕ) → IsFrontOf front bytes → IsFrontOf (before ++ front) (before ++ bytes)
front_behind before front bytes (rest, same, some) =
    (rest, ap (λ (b : List ℕ). before ++ b) same ∙ sym (append_assoc before front rest), some)

nothing_first : (first second : List ℕ) → first ++ second ≡ [] → first ≡ []
nothing_first [] second none = refl
nothing_first (byte ∷ bytes) second none = cc

-- a front of what comes first
front_of_first : (front first second : List ℕ) → IsFrontOf front first → IsFrontOf front (first ++ second)
front_of_first front first second (rest, same, some) =
    (rest ++ second, ap (λ (b : List ℕ). b ++ second) same ∙ append_assoc front rest second, λ none. some (nothing_first rest second none))

-- nothing was added where a list stayed as it was
nothing_added : (old more : List Entry) → old ≡ old ++ more → more ≡ []
nothing_added [] more same = sym same
nothing_added (x ∷ xs) more same = nothing_added xs more (let e : xs ≡ xs ++ more = cc in e)

-- a status that has a last line
abbrev pub IsTold : Status → Type 0
IsTold status.Done = ⊥
IsTold _ = Unit {0}

-- the reading stopped
pub stop_ends : (room : Room) (w : World) (taken : List ℕ) (left : Option (List ℕ)) (s : Status) → length w.lines < LINES → StopsReading (length w.lines) taken left s → EndsWith room w taken left [] s
stop_ends room w taken left (status.Malformed number) few stops = ((few, stops), refl)
stop_ends room w taken left (status.SourceFault count) few stops = (inl (few, stops), refl)
stop_ends room w taken left (status.Limit what limit) few stops = inr (inl ((few, stops), refl))
stop_ends room w taken left status.OutOfMemory few stops = inl ((few, stops), refl)
stop_ends room w taken left _ few stops = absurd stops

pub stop_told : (before : ℕ) (taken : List ℕ) (left : Option (List ℕ)) (s : Status) → StopsReading before taken left s → IsTold s
stop_told before taken left status.Done stops = absurd stops
stop_told before taken left _ stops = tt

-- all was put
all_put : (room : Room) (w : World) (taken : List ℕ) (left : Option (List ℕ)) (new : List Entry) (s : Status) → EndsWith room w taken left new s → EndsAt room w taken left new (trace_text new ++ last_line s) s
all_put room w taken left new (status.SinkFault count) ends = absurd ends
all_put room w taken left new status.OutOfMemory ends = inr (status.OutOfMemory, ends, inr refl)
all_put room w taken left new _ ends = (ends, refl)

-- there was no memory for some text
text_missing : (put : List ℕ) (new : List Entry) (s : Status) → IsTold s → (put ≡ []) ⊎ (put ≡ trace_text new) → IsCutShort put new s
text_missing put new status.Done told part = absurd told
text_missing put new status.OutOfMemory told part = inl part
text_missing put new _ told part = part

-- the last line was put after the entries, or as much of it as could be
pub finished_ends : (room : Room) (w : World) (taken : List ℕ) (left : Option (List ℕ)) (more : List Entry) (s given : Status) (before mid after : Option (List ℕ))
    → Puts before mid (trace_text more)
    → IsFinished mid after s given
    → IsTold s
    → EndsWith room w taken left more s
    → (put : List ℕ) × Puts before after put × EndsAt room w taken left more put given
finished_ends room w taken left more s given before mid after shown (inl (same, put)) told ends = (
  trace_text more ++ last_line s,
  Puts-append before mid after (trace_text more) (last_line s) shown put,
  subst (EndsAt room w taken left more (trace_text more ++ last_line s)) (sym same) (all_put room w taken left more s ends),
)
finished_ends room w taken left more s given before mid after shown (inr (inl (count, same, (front, put, is_front)))) told ends = (
  trace_text more ++ front,
  Puts-append before mid after (trace_text more) front shown put,
  subst (EndsAt room w taken left more (trace_text more ++ front)) (sym same) (inr (s, ends, front_behind (trace_text more) front (last_line s) is_front)),
)
finished_ends room w taken left more s given before mid after shown (inr (inr (same, put))) told ends = (
  trace_text more ++ [],
  Puts-append before mid after (trace_text more) [] shown put,
  subst (EndsAt room w taken left more (trace_text more ++ [])) (sym same) (inr (s, ends, text_missing (trace_text more ++ []) more s told (inr (append-nil (trace_text more))))),
)

-- what a line comes to whose entries couldn't be put
abbrev pub Comes : Room → World → List ℕ → Option (List ℕ) → List Entry → Type 0
Comes room w taken left more = AddsAll room w taken more ⊎ ((said : Status) × IsTold said × EndsWith room w taken left more said)

-- the entries couldn't be put
pub put_ends : (room : Room) (w : World) (taken : List ℕ) (left : Option (List ℕ)) (more : List Entry) (s : Status) (before after : Option (List ℕ))
    → IsPut before after (trace_text more) (Some s)
    → Comes room w taken left more
    → (put : List ℕ) × Puts before after put × EndsAt room w taken left more put s
put_ends room w taken left more (status.SinkFault count) before after (front, put, is_front) (inl done) =
    (front, put, inl (done, is_front))
put_ends room w taken left more (status.SinkFault count) before after (front, put, is_front) (inr (said, told, ends)) =
    (front, put, inr (said, ends, front_of_first front (trace_text more) (last_line said) is_front))
put_ends room w taken left more status.OutOfMemory before after put (inl done) = ([], put, inl (done, refl))
put_ends room w taken left more status.OutOfMemory before after put (inr (said, told, ends)) =
    ([], put, inr (said, ends, text_missing [] more said told (inl refl)))
put_ends room w taken left more _ before after put comes = absurd put

-- a line that is done adds what all its steps add
pub done_adds : (room : Room) (old new : World) (l : Line) (more : List Entry)
    → length old.lines < LINES
    → IsLine (length old.lines == 0) l
    → IsDone room old l new
    → new.entries ≡ old.entries ++ more
    → AddsAll room old (ended (line_text l)) more
done_adds room old new l more few formed is same =
    (l, ((few, formed, refl), is.legal), (is.whole, is.finished_in, sym (ap (λ (s : World). s.entries) is.after_it) ∙ same))

-- one that came to its end by a cause, what its finished steps add
ends_early : (room : Room) (old new : World) (l : Line) (cause : Cause) (more : List Entry) → CameTo room old l cause new → new.entries ≡ old.entries ++ more → EndsEarly room old l cause more
ends_early room old new l cause more came same = (came.part, came.ended, sym came.entries ∙ same)

-- and one after which memory ran out, those or nothing
left_adds : (room : Room) (old new : World) (l : Line) (more : List Entry) → IsLeft room old l new → new.entries ≡ old.entries ++ more → AddsPart room old l more
left_adds room old new l more (inl kept) same = inl (nothing_added old.entries more (sym kept.0 ∙ same))
left_adds room old new l more (inr (lines, inl kept)) same = inl (nothing_added old.entries more (sym kept ∙ same))
left_adds room old new l more (inr (lines, inr (part, is, kept))) same = inr (part, is, sym kept ∙ same)

-- a line that isn't done ends the replay after what its finished steps add
pub refused_ends : (room : Room) (old new : World) (l : Line) (e : WorldErr) (more : List Entry) (left : Option (List ℕ))
    → length old.lines < LINES
    → IsLine (length old.lines == 0) l
    → IsRefused room old l new e
    → new.entries ≡ old.entries ++ more
    → EndsWith room old (ended (line_text l)) left more (status_for (length old.lines + 1) e)
refused_ends room old new l (error.Illegal rule) more left few formed r same =
    (l, (few, formed, refl), r.0, refl, nothing_added old.entries more (sym (ap (λ (s : World). s.entries) r.1) ∙ same))
refused_ends room old new l (error.Limit what limit) more left few formed r same =
    inr (inr (l, ((few, formed, refl), r.0), ends_early room old new l _ more r.1 same, r.2))
refused_ends room old new l (error.Full need limit) more left few formed r same =
    (l, ((few, formed, refl), r.0), ends_early room old new l _ more r.1 same)
refused_ends room old new l error.OutOfMemory more left few formed r same =
    inr (l, ((few, formed, refl), r.0), left_adds room old new l more r.1 same)

pub refused_told : (number : ℕ) (e : WorldErr) → IsTold (status_for number e)
refused_told number (error.Illegal rule) = tt
refused_told number (error.Limit what limit) = tt
refused_told number (error.Full need limit) = tt
refused_told number error.OutOfMemory = tt

came_grown : (room : Room) (old new : World) (l : Line) (cause : Cause) → CameTo room old l cause new → Grown old.entries new.entries
came_grown room old new l cause came =
    let grows = done_grows room old l in
    (grows.more, came.entries ∙ sym (ap (λ (n : Next). (so_far n).entries) came.ended) ∙ grows.entries)

left_grown : (room : Room) (old new : World) (l : Line) → IsLeft room old l new → Grown old.entries new.entries
left_grown room old new l (inl kept) = ([], kept.0 ∙ sym (append-nil old.entries))
left_grown room old new l (inr (lines, inl kept)) = ([], kept ∙ sym (append-nil old.entries))
left_grown room old new l (inr (lines, inr (part, is, kept))) =
    let grows = part_grows room old l part is in
    (grows.more, kept ∙ grows.entries)

-- entries only grow
pub applied_grown : (room : Room) (old new : World) (l : Line) (r : Result (Unit {0}) WorldErr) → IsApplied room old l new r → Grown old.entries new.entries
applied_grown room old new l (Ok u) is =
    let grows = done_grows room old l in
    (grows.more, ap (λ (s : World). s.entries) is.after_it ∙ sym (ap (λ (n : Next). (so_far n).entries) is.finished_in) ∙ grows.entries)
applied_grown room old new l (Err (error.Illegal rule)) r =
    ([], ap (λ (s : World). s.entries) r.1 ∙ sym (append-nil old.entries))
applied_grown room old new l (Err (error.Limit what limit)) r = came_grown room old new l _ r.1
applied_grown room old new l (Err (error.Full need limit)) r = came_grown room old new l _ r.1
applied_grown room old new l (Err error.OutOfMemory) r = left_grown room old new l r.1
