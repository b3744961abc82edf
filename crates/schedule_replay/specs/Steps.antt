-- one line of a replay, and what is put of it
use Rattle.std.specs.Prelude.{ℕ, ◌==◌, ◌≡◌, ◌⊎◌, Option, Some, None, List, [], ◌++◌, length}
use Rattle.xt_messages.specs.declared.status.Status.{Status}
use Rattle.xt_messages.specs.declared.status.Status.TheVariants as status
use Rattle.node_links.specs.Streams.{Takes, Puts}
use Rattle.time_line.specs.declared.line.Line.{Line}
use Rattle.time_line.specs.declared.entry.Entry.{Entry}
use Rattle.time_line.specs.Verdicts.{IsSafe}
use Rattle.schedule_text.specs.LineText.{line_text, IsLine}
use Rattle.schedule_text.specs.EntryText.{trace_text}
use Rattle.world_spec.specs.World.{World}
use Rattle.world_spec.specs.NodeSteps.{Room}
use Rattle.world_spec.specs.Runs.{run_of}
use Rattle.world_hull.specs.declared.errors.WorldErr.{WorldErr}
use Rattle.world_hull.specs.declared.errors.WorldErr.TheVariants as error
use Rattle.world_core.specs.RunStates.{IsDone}
use Rattle.schedule_lines.specs.NextLine.{ended}
use Rattle.schedule_lines.specs.Causes.{HasCause}
use Rattle.schedule_replay.specs.Replay.{AreOfSchedule, EndsAt}

-- The world is the run of its lines, which are those of a schedule.
pub record IsScheduleRun (room : Room) (w : World) : Type 0 where
  pub same : w ≡ run_of room w.lines
  pub formed : AreOfSchedule 0 w.lines

-- The line is done: it was taken and applied, and what it adds to the trace was put.
pub record IsNext (room : Room) (source_before source_after sink_before sink_after : Option (List ℕ)) (old new : World) : Type 0 where
  pub line : Line
  pub formed : IsLine (length old.lines == 0) line
  pub done : IsDone room old line new
  pub source : Takes source_before source_after (ended (line_text line))
  pub more : List Entry
  pub added : new.entries ≡ old.entries ++ more
  pub sink : Puts sink_before sink_after (trace_text more)

-- The replay ends here.
pub record IsEnd (room : Room) (source_before source_after sink_before sink_after : Option (List ℕ)) (old : World) (s : Status) : Type 0 where
  pub more : List Entry
  pub taken : List ℕ
  pub put : List ℕ
  pub source : Takes source_before source_after taken
  pub sink : Puts sink_before sink_after put
  pub ending : EndsAt room old taken source_after more put s
  -- a trace that has more is safe
  pub safe : (more ≡ []) ⊎ IsSafe (old.entries ++ more)

-- one line of a replay: it goes on, or it ends with a status
abbrev pub IsStep : Room → Option (List ℕ) → Option (List ℕ) → Option (List ℕ) → Option (List ℕ) → World → World → Option Status → Type 0
IsStep room source_before source_after sink_before sink_after old new None = IsNext room source_before source_after sink_before sink_after old new
IsStep room source_before source_after sink_before sink_after old new (Some s) = IsEnd room source_before source_after sink_before sink_after old s

-- no count rose where the replay goes on, and the status where it ends has its cause
abbrev pub CausesStep : ℕ → ℕ → ℕ → ℕ → Option Status → Type 0
CausesStep source_before source_later sink_before sink_later None = (source_later ≡ source_before) × (sink_later ≡ sink_before)
CausesStep source_before source_later sink_before sink_later (Some s) = HasCause source_before source_later sink_before sink_later s

-- more entries stand after the old ones
abbrev pub Grown : List Entry → List Entry → Type 0
Grown old new = (more : List Entry) × (new ≡ old ++ more)

-- the status that an error of a line ends a replay with
abbrev pub status_for : ℕ → WorldErr → Status
status_for number (error.Illegal rule) = status.Illegal number rule
status_for number (error.Limit what limit) = status.Limit what limit
status_for number (error.Full need limit) = status.JournalFull need limit
status_for number error.OutOfMemory = status.OutOfMemory
