-- what a make puts, and why it ends
use Rattle.std.specs.Prelude.{ℕ, ◌≡◌, ◌≢◌, ◌+◌, ◌⊎◌, Option, Some, None, List, [], ◌∷◌, ◌++◌, length}
use Rattle.xt_messages.specs.declared.status.Status.{Status}
use Rattle.xt_messages.specs.declared.status.Status.TheVariants as status
use Rattle.node_links.specs.Streams.{Puts}
use Rattle.time_line.specs.declared.line.Line.{Line}
use Rattle.time_line.specs.Verdicts.{IsSafe}
use Rattle.schedule_text.specs.StatusText.{last_line}
use Rattle.world_spec.specs.World.{World, start_world}
use Rattle.world_spec.specs.Rules.{refusal}
use Rattle.world_spec.specs.NodeSteps.{Room, Cause, came_to, has_no_room}
use Rattle.world_spec.specs.Lines.{ends, done}
use Rattle.world_spec.specs.Runs.{run_of}
use Rattle.world_step.specs.Steps.{limit_of}
use Rattle.schedule_lines.specs.Fronts.{PutsFront}
use Rattle.schedule_lines.specs.Causes.{CausesEnd}
use Rattle.schedule_maker.specs.Generated.{generated}
use Rattle.schedule_replay.specs.Replay.{AreDoneFrom}
use Rattle.make_job.specs.Counting.{counts_of, made_line}

-- ---- the replay of a list of lines

-- The replay of these lines comes to this one after those, which are done.
pub record ComesTo (room : Room) (lines before : List Line) (line : Line) : Type 0 where
  pub later : List Line
  pub split : lines ≡ before ++ line ∷ later
  pub done : AreDoneFrom room start_world before

-- the line breaks no rule, and ends early by this cause
abbrev pub EndsEarly : Room → World → Line → Cause → Type 0
EndsEarly room w line cause = (refusal w line ≡ None) × ((part : World) × (done room w line ≡ ends cause part))

-- one of the lines ends early by this cause, the first that isn't done
abbrev pub StopsBy : Room → List Line → Cause → Type 0
StopsBy room lines cause =
    (before : List Line) × (line : Line) × ComesTo room lines before line × EndsEarly room (run_of room before) line cause

-- Why the replay of these lines ends, and with which status.
abbrev pub EndsWith : Room → List Line → Status → Type 0
-- each is done, and the trace of their run is safe
EndsWith room lines status.Done = AreDoneFrom room start_world lines × IsSafe (run_of room lines).entries
-- the first that isn't done breaks this rule, the first that it breaks
EndsWith room lines (status.Illegal number rule) =
    (before : List Line) × (line : Line) × ComesTo room lines before line
    × (refusal (run_of room before) line ≡ Some rule) × (number ≡ length before + 1)
-- the first that isn't done comes to this limit
EndsWith room lines (status.Limit what limit) = StopsBy room lines (came_to what) × (limit ≡ limit_of what)
-- a record of the first that isn't done has no room
EndsWith room lines (status.JournalFull need limit) = StopsBy room lines (has_no_room (record { need = need; limit = limit }))
-- memory ran out
EndsWith room lines status.OutOfMemory = Unit {0}
-- no other status ends it; no run's trace is broken
EndsWith room lines _ = ⊥

-- ---- what is reported of it

-- what is put where a make ends so: its one line, with the counts of the trace, or the last line of its status
abbrev pub text_of : Room → ℕ → ℕ → Status → List ℕ
text_of room number size status.Done = made_line number size (counts_of (run_of room (generated number size)).entries)
text_of room number size s = last_line s

-- the text was put, or the sink failed after a front of it, or there was no memory for the last line of a status
abbrev pub IsTold : Option (List ℕ) → Option (List ℕ) → List ℕ → Status → Status → Type 0
IsTold before after text said given =
    ((given ≡ said) × Puts before after text)
    ⊎ ((count : ℕ) × (given ≡ status.SinkFault count) × PutsFront before after text)
    ⊎ ((given ≡ status.OutOfMemory) × (said ≢ status.Done) × Puts before after [])

-- A make over journals with this room: what its sink held before it and after it, how often that had failed, and its status.
pub record IsMake (room : Room) (number size : ℕ) (held_before held_after : Option (List ℕ)) (faults_before faults_after : ℕ) (given : Status)
    : Type 0 where
  -- why the replay of the generated schedule ends, and what is reported of it
  pub said : Status
  pub found : EndsWith room (generated number size) said
  pub told : IsTold held_before held_after (text_of room number size said) said given
  -- a fault of the sink is reported, where its count rose; with any other status it didn't
  pub cause : CausesEnd faults_before faults_after given
