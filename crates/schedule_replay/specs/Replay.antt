-- what a replay takes and puts, and why it ends
use Rattle.std.specs.Prelude.{ℕ, ◌==◌, ◌≡◌, ◌<◌, ◌≤◌, ◌+◌, ◌⊎◌, Option, Some, None, List, [], ◌∷◌, ◌++◌, length}
use Rattle.xt_messages.specs.declared.status.Limited.TheVariants as limited
use Rattle.xt_messages.specs.declared.status.Status.{Status}
use Rattle.xt_messages.specs.declared.status.Status.TheVariants as status
use Rattle.node_links.specs.Streams.{Takes, IsAtEnd, Puts}
use Rattle.time_line.specs.declared.line.Line.{Line}
use Rattle.time_line.specs.declared.entry.Entry.{Entry}
use Rattle.time_line.specs.declared.TheConstants.{LINES}
use Rattle.time_line.specs.Verdicts.{IsSafe}
use Rattle.schedule_text.specs.LineText.{line_text, schedule_text, IsLine}
use Rattle.schedule_text.specs.EntryText.{trace_text}
use Rattle.schedule_text.specs.StatusText.{last_line}
use Rattle.world_spec.specs.World.{World, start_world}
use Rattle.world_spec.specs.Rules.{refusal}
use Rattle.world_spec.specs.NodeSteps.{Room, Cause, came_to, has_no_room}
use Rattle.world_spec.specs.Lines.{finished, ends, done}
use Rattle.world_spec.specs.Runs.{after, run_of, IsPartOf}
use Rattle.world_step.specs.Steps.{limit_of}
use Rattle.schedule_lines.specs.Fronts.{IsFrontOf}
use Rattle.schedule_lines.specs.NextLine.{ended, StopsReading}

-- each line is one of a schedule, after so many others; only the first may set the times
abbrev pub AreOfSchedule : ℕ → List Line → Type 0
AreOfSchedule before [] = Unit {0}
AreOfSchedule before (line ∷ lines) = IsLine (before == 0) line × AreOfSchedule (before + 1) lines

-- the line is done from this world on: it breaks no rule, each record of its steps has room, and it comes to no limit
abbrev pub IsDoneFrom : Room → World → Line → Type 0
IsDoneFrom room w line = (refusal w line ≡ None) × ((whole : World) × (done room w line ≡ finished whole))

-- each line is done, one after the other
abbrev pub AreDoneFrom : Room → World → List Line → Type 0
AreDoneFrom room w [] = Unit {0}
AreDoneFrom room w (line ∷ lines) = IsDoneFrom room w line × AreDoneFrom room (after room w line) lines

-- lines of a schedule, each well formed, legal and within the limits, over journals with this room
pub record AreRun (room : Room) (lines : List Line) : Type 0 where
  pub formed : AreOfSchedule 0 lines
  pub done : AreDoneFrom room start_world lines

-- the line is taken whole, after those that made the world, of which there are fewer than a schedule may have
abbrev pub IsTaken : World → List ℕ → Line → Type 0
IsTaken w taken line =
    (length w.lines < LINES) × IsLine (length w.lines == 0) line × (taken ≡ ended (line_text line))

-- another line can follow, but none is read
abbrev pub IsUnread : World → List ℕ → Option (List ℕ) → Status → Type 0
IsUnread w taken left s = (length w.lines < LINES) × StopsReading (length w.lines) taken left s

-- the line that is taken breaks no rule
abbrev pub IsBegun : World → List ℕ → Line → Type 0
IsBegun w taken line = IsTaken w taken line × (refusal w line ≡ None)

-- the line ended early by this cause, and added the entries of the steps that it had finished
abbrev pub EndsEarly : Room → World → Line → Cause → List Entry → Type 0
EndsEarly room w line cause new = (part : World) × (done room w line ≡ ends cause part) × (part.entries ≡ w.entries ++ new)

-- a line that ended early adds nothing, or the entries of steps that it had finished
abbrev pub AddsPart : Room → World → Line → List Entry → Type 0
AddsPart room w line new = (new ≡ []) ⊎ ((part : World) × IsPartOf room w line part × (part.entries ≡ w.entries ++ new))

-- the line that is taken is done, and adds these entries
abbrev pub AddsAll : Room → World → List ℕ → List Entry → Type 0
AddsAll room w taken new =
    (line : Line) × IsBegun w taken line
    × ((whole : World) × (done room w line ≡ finished whole) × (whole.entries ≡ w.entries ++ new))

-- Why a replay ends with a status after the lines that made this world, by the bytes that it takes from there on and what
-- is left of the source, and by the entries that come before the status.
abbrev pub EndsWith : Room → World → List ℕ → Option (List ℕ) → List Entry → Status → Type 0
-- the source is at its end
EndsWith room w taken left new status.Done = (taken ≡ []) × IsAtEnd left × (new ≡ [])
-- the next line isn't one of a schedule, or the source ended within it
EndsWith room w taken left new (status.Malformed number) = IsUnread w taken left (status.Malformed number) × (new ≡ [])
-- the source failed within the next line, or after as many lines as a schedule may have
EndsWith room w taken left new (status.SourceFault count) =
    (IsUnread w taken left (status.SourceFault count) ⊎ ((length w.lines ≡ LINES) × (taken ≡ []))) × (new ≡ [])
-- the next line breaks this rule, the first that it breaks
EndsWith room w taken left new (status.Illegal number rule) =
    (line : Line) × IsTaken w taken line × (refusal w line ≡ Some rule) × (number ≡ length w.lines + 1) × (new ≡ [])
-- there is a line more than a schedule may have, or the next one is longer than a line may be, or it came to another limit
EndsWith room w taken left new (status.Limit what limit) =
    ((what ≡ limited.Lines) × (length w.lines ≡ LINES) × (length taken ≡ 1) × (limit ≡ LINES) × (new ≡ []))
    ⊎ (IsUnread w taken left (status.Limit what limit) × (new ≡ []))
    ⊎ ((line : Line) × IsBegun w taken line × EndsEarly room w line (came_to what) new × (limit ≡ limit_of what))
-- a record of the next line had no room
EndsWith room w taken left new (status.JournalFull need limit) =
    (line : Line) × IsBegun w taken line × EndsEarly room w line (has_no_room (record { need = need; limit = limit })) new
-- memory ran out as the next line was read or done
EndsWith room w taken left new status.OutOfMemory =
    (IsUnread w taken left status.OutOfMemory × (new ≡ []))
    ⊎ ((line : Line) × IsBegun w taken line × AddsPart room w line new)
-- no other status ends a replay
EndsWith room w taken left new _ = ⊥

-- Memory ran out for the text of the entries, or for that of the last line, or before. A replay that is done has no more text.
abbrev pub IsCutShort : List ℕ → List Entry → Status → Type 0
IsCutShort put new status.Done = ⊥
IsCutShort put new status.OutOfMemory =
    ((put ≡ []) ⊎ (put ≡ trace_text new)) ⊎ (put ≡ trace_text new ++ last_line status.OutOfMemory)
IsCutShort put new said = (put ≡ []) ⊎ (put ≡ trace_text new)

-- Why a replay ends after the lines that made this world, by the entries that the line after them adds, and by the bytes that
-- are put from there on.
abbrev pub EndsAt : Room → World → List ℕ → Option (List ℕ) → List Entry → List ℕ → Status → Type 0
-- the sink failed within the entries of a line that is done, or within what the end was to put
EndsAt room w taken left new put (status.SinkFault count) =
    (AddsAll room w taken new × IsFrontOf put (trace_text new))
    ⊎ ((said : Status) × EndsWith room w taken left new said × IsFrontOf put (trace_text new ++ last_line said))
-- memory ran out for the entries of a line that is done, or in the end
EndsAt room w taken left new put status.OutOfMemory =
    (AddsAll room w taken new × (put ≡ []))
    ⊎ ((said : Status) × EndsWith room w taken left new said × IsCutShort put new said)
-- all was put
EndsAt room w taken left new put s = EndsWith room w taken left new s × (put ≡ trace_text new ++ last_line s)

-- A replay over journals with this room: the lines that it did, the entries of the steps that a line after them finished, what
-- it took and put after the text of these lines, and why it ended. Its trace is safe: each replicated file of it, in every clause.
pub record IsReplay (room : Room) (source_before source_after sink_before sink_after : Option (List ℕ)) (s : Status) : Type 0 where
  pub lines : List Line
  pub few : length lines ≤ LINES
  pub run : AreRun room lines
  pub more : List Entry
  pub taken : List ℕ
  pub put : List ℕ
  pub source : Takes source_before source_after (schedule_text lines ++ taken)
  pub sink : Puts sink_before sink_after (trace_text (run_of room lines).entries ++ put)
  pub ending : EndsAt room (run_of room lines) taken source_after more put s
  pub safe : IsSafe ((run_of room lines).entries ++ more)

-- how a good schedule's replay may end
abbrev pub IsWhole : Room → List Line → Option (List ℕ) → Option (List ℕ) → Status → Type 0
IsWhole room lines sink_before sink_after status.Done = Puts sink_before sink_after (trace_text (run_of room lines).entries)
IsWhole room lines sink_before sink_after status.OutOfMemory = Unit {0}
IsWhole room lines sink_before sink_after _ = ⊥

-- Where the source has a schedule whose lines are all well formed, legal and within the limits, the replay is done and its
-- trace is whole, unless memory runs out.
abbrev pub Completes : Room → Option (List ℕ) → Option (List ℕ) → Option (List ℕ) → Status → Type 0
Completes room source_before sink_before sink_after s =
    (lines : List Line) → source_before ≡ Some (schedule_text lines) → AreRun room lines → length lines ≤ LINES
    → IsWhole room lines sink_before sink_after s
