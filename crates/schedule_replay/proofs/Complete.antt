-- a schedule whose lines are all good is replayed whole
use Rattle.std.proofs.Common.{◌≡◌, ◌≢◌, ◌∙◌, ℕ, suc, ◌+◌, ◌≤◌, ◌==◌, ◌⊎◌, Option, Some, None, false, List, [], ◌∷◌, ◌++◌, length, length-append, refl, sym, ap, subst, inl, inr, append_assoc, append-nil, arith}
use Rattle.std.specs.List.{fold}
use Rattle.xt_messages.specs.declared.status.Limited.{Limited}
use Rattle.xt_messages.specs.declared.status.Limited.TheVariants as limited
use Rattle.xt_messages.specs.declared.status.Rule.{Rule}
use Rattle.xt_messages.specs.declared.status.Status.{Status}
use Rattle.xt_messages.specs.declared.status.Status.TheVariants as status
use Rattle.node_links.specs.Streams.{Takes, Puts}
use Rattle.xt_base.specs.Faults.{Rose}
use Rattle.time_line.specs.declared.line.Line.{Line}
use Rattle.time_line.specs.declared.entry.Entry.{Entry}
use Rattle.schedule_text.specs.LineText.{line_text, schedule_text, IsLine}
use Rattle.schedule_text.specs.EntryText.{trace_text}
use Rattle.schedule_text.specs.StatusText.{last_line}
use Rattle.schedule_text.proofs.LineAgain.{one_line}
use Rattle.schedule_text.proofs.InLine.{same_line}
use Rattle.world_spec.specs.World.{World, start_world}
use Rattle.world_spec.specs.Rules.{refusal}
use Rattle.world_spec.specs.NodeSteps.{Room, Cause, came_to, has_no_room}
use Rattle.world_spec.specs.Lines.{Next, finished, ends, so_far, done}
use Rattle.world_spec.specs.Runs.{after, run_of}
use Rattle.time_line.specs.declared.TheConstants.{LINES, LINE_BYTES}
use Rattle.schedule_lines.specs.RawLine.{line_feed, IsInLine}
use Rattle.schedule_lines.specs.NextLine.{ended, IsNoLine, StopsReading}
use Rattle.schedule_lines.specs.Causes.{HasCause}
use Rattle.schedule_replay.specs.Replay.{AreOfSchedule, IsDoneFrom, AreDoneFrom, AreRun, EndsEarly, EndsWith, EndsAt, IsReplay, IsWhole, Completes}
use Rattle.schedule_lines.proofs.LineBytes.{line_fits}
use Rattle.schedule_replay.proofs.Growth.{done_grows}
use Rattle.schedule_replay.proofs.Whole.{after_done, goes_after}

-- what is in a line at the front of a line is no longer than it
no_longer : (xs first ys second : List ℕ) → IsInLine xs → xs ++ first ≡ ys ++ line_feed ∷ second → length xs ≤ length ys
no_longer [] first ys second p e = omega arith
no_longer (x ∷ xs) first [] second p e = absurd (p.0 (let same : x ≡ line_feed = cc in same))
no_longer (x ∷ xs) first (y ∷ ys) second p e =
    let tails : xs ++ first ≡ ys ++ line_feed ∷ second = cc in
    let rest = no_longer xs first ys second p.1 tails in
    omega arith

no_feed : (xs ys second : List ℕ) → IsInLine xs → xs ≡ ys ++ line_feed ∷ second → ⊥
no_feed xs [] second p e = let all : IsInLine (line_feed ∷ second) = subst IsInLine e p in all.0 refl
no_feed [] (y ∷ ys) second p e = cc
no_feed (x ∷ xs) (y ∷ ys) second p e = no_feed xs ys second p.1 (let tails : xs ≡ ys ++ line_feed ∷ second = cc in tails)

-- a line feed after a text
feed_behind : (text rest : List ℕ) → ended text ++ rest ≡ text ++ line_feed ∷ rest
feed_behind text rest = append_assoc text (line_feed ∷ []) rest

first_line : (l : Line) (ls : List Line) → schedule_text (l ∷ ls) ≡ line_text l ++ line_feed ∷ schedule_text ls
unfolding schedule_text
first_line l ls = feed_behind (line_text l) (schedule_text ls)

no_lines : schedule_text [] ≡ []
unfolding schedule_text
no_lines = refl

-- the lines of a schedule whose text begins with that of others begin with these
pub lines_behind : (before : ℕ) (all lines : List Line) (more : List ℕ) → AreOfSchedule before all → AreOfSchedule before lines → schedule_text all ≡ schedule_text lines ++ more → (rest : List Line) × (all ≡ lines ++ rest) × (schedule_text rest ≡ more)
lines_behind before all [] more p q e = (all, refl, e ∙ ap (λ (text : List ℕ). text ++ more) no_lines)
lines_behind before [] (l ∷ ls) more p q e =
    absurd (omega (arith, ap length no_lines, ap length e, ap length (first_line l ls), length-append (schedule_text (l ∷ ls)) more, length-append (line_text l) (line_feed ∷ schedule_text ls)))
lines_behind before (k ∷ ks) (l ∷ ls) more p q e =
    let text = sym (first_line k ks) ∙ e ∙ ap (λ (front : List ℕ). front ++ more) (first_line l ls) ∙ append_assoc (line_text l) (line_feed ∷ schedule_text ls) more in
    let fits = line_fits (before == 0) k p.0 in
    let other = line_fits (before == 0) l q.0 in
    let same = same_line (line_text k) (line_text l) (schedule_text ks) (schedule_text ls ++ more) fits.in_line other.in_line text in
    let line : k ≡ l = one_line (before == 0) (before == 0) k l p.0 q.0 same.0 in
    let rest = lines_behind (before + 1) ks ls more p.1 q.1 same.1 in
    (rest.0, ap (λ (m : Line). m ∷ ks) line ∙ ap (λ (ms : List Line). l ∷ ms) rest.1, rest.2)

-- what holds of the lines that are left
of_schedule-rest : (before : ℕ) (lines rest : List Line) → AreOfSchedule before (lines ++ rest) → AreOfSchedule (before + length lines) rest
of_schedule-rest before [] rest all = subst (λ (n : ℕ). AreOfSchedule n rest) (let e : before ≡ before + 0 = omega arith in e) all
of_schedule-rest before (l ∷ ls) rest all =
    subst (λ (n : ℕ). AreOfSchedule n rest) (let e : before + 1 + length ls ≡ before + suc (length ls) = omega arith in e) (of_schedule-rest (before + 1) ls rest all.1)

are_done-rest : (room : Room) (w : World) (lines rest : List Line) → AreDoneFrom room w (lines ++ rest) → AreDoneFrom room (fold (after room) w lines) rest
are_done-rest room w [] rest all = all
are_done-rest room w (l ∷ ls) rest all = are_done-rest room (after room w l) ls rest all.1

run_done-rest : (room : Room) (lines rest : List Line) → AreDoneFrom room start_world (lines ++ rest) → AreDoneFrom room (run_of room lines) rest
unfolding run_of
run_done-rest room lines rest all = are_done-rest room start_world lines rest all

-- the world after a line that is done has that line more, and takes another
line_after : (room : Room) (w : World) (l : Line) → w.ended ≡ false → IsDoneFrom room w l → ((after room w l).lines ≡ w.lines ++ l ∷ []) × ((after room w l).ended ≡ false)
line_after room w l going (legal, (whole, is)) =
    let so = after_done room w whole l going legal is in (
      ap (λ (v : World). v.lines) so ∙ ap (λ (n : Next). (so_far n).lines ++ l ∷ []) (sym is) ∙ ap (λ (ls : List Line). ls ++ l ∷ []) (done_grows room w l).same,
      ap (λ (v : World). v.ended) so ∙ goes_after room w whole l is ∙ going,
    )

lines_after : (room : Room) (w : World) (lines : List Line) → w.ended ≡ false → AreDoneFrom room w lines → (fold (after room) w lines).lines ≡ w.lines ++ lines
lines_after room w [] going all = sym (append-nil w.lines)
lines_after room w (l ∷ ls) going all =
    let one = line_after room w l going all.0 in
    lines_after room (after room w l) ls one.1 all.1 ∙ ap (λ (ms : List Line). ms ++ ls) one.0 ∙ append_assoc w.lines (l ∷ []) ls

pub run_lines : (room : Room) (lines : List Line) → AreRun room lines → (run_of room lines).lines ≡ lines
unfolding run_of
run_lines room lines run = lines_after room start_world lines refl run.done

-- The line that is taken is the first of those that are left.
first_taken : (before : ℕ) (rest : List Line) (line : Line) (taken behind : List ℕ) → AreOfSchedule before rest → schedule_text rest ≡ taken ++ behind → IsLine (before == 0) line → taken ≡ ended (line_text line) → (others : List Line) × (rest ≡ line ∷ others)
first_taken before [] line taken behind p e formed text =
    absurd (omega (arith, ap length no_lines, ap length e, ap length text, length-append taken behind, length-append (line_text line) (line_feed ∷ [])))
first_taken before (l ∷ ls) line taken behind p e formed text =
    let bytes = sym (first_line l ls) ∙ e ∙ ap (λ (front : List ℕ). front ++ behind) text ∙ feed_behind (line_text line) behind in
    let fits = line_fits (before == 0) l p.0 in
    let other = line_fits (before == 0) line formed in
    let same = same_line (line_text l) (line_text line) (schedule_text ls) behind fits.in_line other.in_line bytes in
    (ls, ap (λ (m : Line). m ∷ ls) (one_line (before == 0) (before == 0) l line p.0 formed same.0))

taken_done : (room : Room) (w : World) (rest : List Line) (line : Line) (taken behind : List ℕ) → AreOfSchedule (length w.lines) rest → AreDoneFrom room w rest → schedule_text rest ≡ taken ++ behind → IsLine (length w.lines == 0) line → taken ≡ ended (line_text line) → IsDoneFrom room w line
taken_done room w rest line taken behind p done e formed text =
    let first = first_taken (length w.lines) rest line taken behind p e formed text in
    let all : AreDoneFrom room w (line ∷ first.0) = subst (AreDoneFrom room w) first.1 done in
    all.0

-- none is malformed
no_malformed : (before : ℕ) (rest : List Line) (taken behind text : List ℕ) → AreOfSchedule before rest → schedule_text rest ≡ taken ++ behind → IsInLine text
    → ((taken ≡ ended text) × IsNoLine before text) ⊎ ((taken ≡ text) × (text ≢ []) × (behind ≡ []))
    → ⊥
no_malformed before [] taken behind text p e inside (inl (whole, none)) =
    absurd (omega (arith, ap length no_lines, ap length e, ap length whole, length-append taken behind, length-append text (line_feed ∷ [])))
no_malformed before [] taken behind text p e inside (inr (same, some, end)) =
    some (nothing text (omega (arith, ap length no_lines, ap length e, ap length same, length-append taken behind)))
  where
    nothing : (bytes : List ℕ) → length bytes ≡ 0 → bytes ≡ []
    nothing [] none = refl
    nothing (b ∷ bs) none = absurd (omega arith)
no_malformed before (l ∷ ls) taken behind text p e inside (inl (whole, none)) =
    let bytes = sym (feed_behind text behind) ∙ ap (λ (front : List ℕ). front ++ behind) (sym whole) ∙ sym e ∙ first_line l ls in
    let fits = line_fits (before == 0) l p.0 in
    let same = same_line text (line_text l) behind (schedule_text ls) inside fits.in_line bytes in
    none l p.0 same.0
no_malformed before (l ∷ ls) taken behind text p e inside (inr (same, some, end)) =
    no_feed text (line_text l) (schedule_text ls) inside
    (sym same ∙ sym (append-nil taken) ∙ ap (λ (rest : List ℕ). taken ++ rest) (sym end) ∙ sym e ∙ first_line l ls)

-- none is too long
no_long : (before : ℕ) (rest : List Line) (taken behind : List ℕ) → AreOfSchedule before rest → schedule_text rest ≡ taken ++ behind → IsInLine taken → length taken ≡ LINE_BYTES + 1 → ⊥
no_long before [] taken behind p e inside long =
    absurd (omega (arith, ap length no_lines, ap length e, length-append taken behind))
no_long before (l ∷ ls) taken behind p e inside long =
    let fits = line_fits (before == 0) l p.0 in
    let short = fits.short in
    let within = no_longer taken behind (line_text l) (schedule_text ls) inside (sym e ∙ first_line l ls) in
    absurd (omega arith)

unread_long : (before : ℕ) (rest : List Line) (taken behind : List ℕ) (what : Limited) (limit : ℕ) → AreOfSchedule before rest → schedule_text rest ≡ taken ++ behind → StopsReading before taken (Some behind) (status.Limit what limit) → ⊥
unread_long before rest taken behind limited.Line limit p e stops = no_long before rest taken behind p e stops.0 stops.1
unread_long before rest taken behind _ limit p e stops = stops

-- none is one too many
no_more : (count : ℕ) (rest : List Line) (taken behind : List ℕ) → count ≡ LINES → count + length rest ≤ LINES → schedule_text rest ≡ taken ++ behind → length taken ≡ 1 → ⊥
no_more count [] taken behind full few e one = absurd (omega (arith, ap length no_lines, ap length e, length-append taken behind))
no_more count (l ∷ ls) taken behind full few e one = absurd (omega arith)

-- the statuses with which a replay of a good schedule may end
abbrev IsExcused : Status → Type 0
IsExcused status.Done = Unit {0}
IsExcused status.OutOfMemory = Unit {0}
IsExcused (status.SourceFault count) = Unit {0}
IsExcused (status.SinkFault count) = Unit {0}
IsExcused _ = ⊥

-- a line that is done doesn't end early
not_early : (room : Room) (w : World) (line : Line) (cause : Cause) (new : List Entry) → IsDoneFrom room w line → EndsEarly room w line cause new → ⊥
not_early room w line cause new is early =
    let is_whole : done room w line ≡ finished is.1.0 = is.1.1 in
    let is_early : done room w line ≡ ends cause early.0 = early.1 in
    cc

good_limit : (room : Room) (w : World) (rest : List Line) (taken behind : List ℕ) (new : List Entry) (what : Limited) (limit : ℕ)
    → AreOfSchedule (length w.lines) rest → AreDoneFrom room w rest → length w.lines + length rest ≤ LINES → schedule_text rest ≡ taken ++ behind
    → EndsWith room w taken (Some behind) new (status.Limit what limit)
    → ⊥
good_limit room w rest taken behind new what limit p legal few e (inl lines) = no_more (length w.lines) rest taken behind lines.1 few e lines.2
good_limit room w rest taken behind new what limit p legal few e (inr (inl unread)) = unread_long (length w.lines) rest taken behind what limit p e unread.0.1
good_limit room w rest taken behind new what limit p legal few e (inr (inr (line, begun, early, limited))) =
    not_early room w line (came_to what) new (taken_done room w rest line taken behind p legal e begun.0.1 begun.0.2) early

good_end : (room : Room) (w : World) (rest : List Line) (taken behind : List ℕ) (new : List Entry) (s : Status)
    → AreOfSchedule (length w.lines) rest → AreDoneFrom room w rest → length w.lines + length rest ≤ LINES → schedule_text rest ≡ taken ++ behind
    → EndsWith room w taken (Some behind) new s
    → IsExcused s
good_end room w rest taken behind new status.Done p legal few e ending = tt
good_end room w rest taken behind new status.OutOfMemory p legal few e ending = tt
good_end room w rest taken behind new (status.SourceFault count) p legal few e ending = tt
good_end room w rest taken behind new (status.JournalFull need limit) p legal few e (line, begun, early) =
    not_early room w line (has_no_room (record { need = need; limit = limit })) new (taken_done room w rest line taken behind p legal e begun.0.1 begun.0.2) early
good_end room w rest taken behind new (status.Malformed number) p legal few e ending =
    let stops = ending.0.1 in no_malformed (length w.lines) rest taken behind stops.0 p e stops.1 stops.4
good_end room w rest taken behind new (status.Illegal number rule) p legal few e (line, is_taken, broken, counted, none) =
    let whole = taken_done room w rest line taken behind p legal e is_taken.1 is_taken.2 in
    let allowed : refusal w line ≡ None = whole.0 in
    let refused : refusal w line ≡ Some rule = broken in
    cc
good_end room w rest taken behind new (status.Limit what limit) p legal few e ending = good_limit room w rest taken behind new what limit p legal few e ending
good_end room w rest taken behind new _ p legal few e ending = absurd ending

-- nothing is left of a schedule that was taken whole
none_left : (rest : List Line) → schedule_text rest ≡ [] → rest ≡ []
none_left [] e = refl
none_left (l ∷ ls) e = absurd (omega (arith, ap length e, ap length (first_line l ls), length-append (line_text l) (line_feed ∷ schedule_text ls)))

-- the replay ended after the lines that it did, of a good schedule
ended_whole : (room : Room) (lines done rest : List Line) (taken behind : List ℕ) (new : List Entry) (put : List ℕ) (sink_before sink_after : Option (List ℕ)) (sb sa kb ka : ℕ) (s : Status)
    → lines ≡ done ++ rest
    → AreOfSchedule (length (run_of room done).lines) rest → AreDoneFrom room (run_of room done) rest → length (run_of room done).lines + length rest ≤ LINES → schedule_text rest ≡ taken ++ behind
    → Puts sink_before sink_after (trace_text (run_of room done).entries ++ put)
    → HasCause sb sa kb ka s → (Rose sb sa → ⊥) → (Rose kb ka → ⊥)
    → EndsAt room (run_of room done) taken (Some behind) new put s
    → IsWhole room lines sink_before sink_after s
unfolding trace_text last_line
ended_whole room lines done rest taken behind new put before later sb sa kb ka status.Done split p legal few e sink cause no_source no_sink ((untaken, end, none), is_put) =
    let nothing = none_left rest (e ∙ ap (λ (front : List ℕ). front ++ behind) untaken ∙ end) in
    let all : lines ≡ done = split ∙ ap (λ (ls : List Line). done ++ ls) nothing ∙ append-nil done in
    let no_put : put ≡ [] = is_put ∙ ap (λ (es : List Entry). trace_text es ++ last_line status.Done) none in
    let trace = trace_text (run_of room done).entries in
    let shown = subst (Puts before later) (ap (λ (bytes : List ℕ). trace ++ bytes) no_put ∙ append-nil trace) sink in
    subst (λ (ls : List Line). Puts before later (trace_text (run_of room ls).entries)) (sym all) shown
ended_whole room lines done rest taken behind new put before later sb sa kb ka status.OutOfMemory split p legal few e sink cause no_source no_sink at = tt
ended_whole room lines done rest taken behind new put before later sb sa kb ka (status.SourceFault count) split p legal few e sink cause no_source no_sink at = absurd (no_source cause.0)
ended_whole room lines done rest taken behind new put before later sb sa kb ka (status.SinkFault count) split p legal few e sink cause no_source no_sink at = absurd (no_sink cause.0)
ended_whole room lines done rest taken behind new put before later sb sa kb ka s split p legal few e sink cause no_source no_sink at =
    absurd (good_end room (run_of room done) rest taken behind new s p legal few e at.0)

-- A replay of a good schedule, whose source and sink don't fail, is done, unless memory runs out.
pub complete : (room : Room) (source_before source_after sink_before sink_after : Option (List ℕ)) (sb sa kb ka : ℕ) (s : Status)
    → IsReplay room source_before source_after sink_before sink_after s
    → HasCause sb sa kb ka s
    → (Rose sb sa → ⊥)
    → (Rose kb ka → ⊥)
    → Completes room source_before sink_before sink_after s
complete room source_before source_after sink_before sink_after sb sa kb ka s r cause no_source no_sink = λ lines text run few.
    let took = subst (λ (left : Option (List ℕ)). Takes left source_after (schedule_text r.lines ++ r.taken)) text r.source in
    let split = lines_behind 0 lines r.lines (r.taken ++ took.0) run.formed r.run.formed (took.1 ∙ append_assoc (schedule_text r.lines) r.taken took.0) in
    let count : length (run_of room r.lines).lines ≡ length r.lines = ap length (run_lines room r.lines r.run) in
    let counted : 0 + length r.lines ≡ length (run_of room r.lines).lines = omega (arith, count) in
    let formed = subst (λ (n : ℕ). AreOfSchedule n split.0) counted (of_schedule-rest 0 r.lines split.0 (subst (AreOfSchedule 0) split.1 run.formed)) in
    let done : AreDoneFrom room (run_of room r.lines) split.0 = run_done-rest room r.lines split.0 (subst (AreDoneFrom room start_world) split.1 run.done) in
    let within : length (run_of room r.lines).lines + length split.0 ≤ LINES = omega (arith, count, few, ap length split.1, length-append r.lines split.0) in
    ended_whole room lines r.lines split.0 r.taken took.0 r.more r.put sink_before sink_after sb sa kb ka s split.1 formed done within split.2 r.sink cause no_source no_sink
    (subst (λ (left : Option (List ℕ)). EndsAt room (run_of room r.lines) r.taken left r.more r.put s) took.2 r.ending)
