-- what a replay does
use Rattle.std.specs.Prelude.{ℕ, List, Option}
use Rattle.xt_base.specs.Faults.{Rose}
use Rattle.xt_messages.specs.declared.status.Status.{Status}
use Rattle.world_disk.specs.Room.{journal_room}
use Rattle.schedule_lines.specs.Causes.{HasCause}
use Rattle.schedule_replay.specs.Replay.{IsReplay, Completes}

-- A replay: what its source had left before it and after it, what its sink held, how often each had failed, and its status.
pub record IsReplayJob (source_before source_after sink_before sink_after : Option (List ℕ)) (source source_then sink sink_then : ℕ) (said : Status)
    : Type 0 where
  -- The trace is the run of the lines that were taken, over journals of a limited length, and it is safe for each replicated
  -- file: one holder, acts of the holder, one order, each write once, answers that show the file, fresh ends.
  pub replay : IsReplay journal_room source_before source_after sink_before sink_after said
  -- A fault ends the job and is reported, where its object's count rose; with any other status no count did.
  pub cause : HasCause source source_then sink sink_then said
  -- A good schedule is done whole, where neither the source nor the sink fails, unless memory runs out.
  pub complete : (Rose source source_then → ⊥) → (Rose sink sink_then → ⊥)
      → Completes journal_room source_before sink_before sink_after said
