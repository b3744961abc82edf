-- an OSD that keeps its records, each before the messages of its step are sent
use Rattle.std.specs.Prelude.{List}
use Rattle.std.specs.List.{AllByRecursion}
use Rattle.xt_messages.specs.Limits.{FitsMessage}
use Rattle.xt_base.specs.declared.ids.FileId.{FileId}
use Rattle.xt_messages.specs.declared.record.Record.{Record}
use Rattle.xt_protocol.specs.OsdSteps.{OsdState, OsdStep, file_at}
use Rattle.osd_invariants.specs.Sound.{IsSound}
use Rattle.world_spec.specs.NodeSteps.{one_more}
use Rattle.world_runs.specs.View.{awake_as}
use Rattle.world_runs.specs.Worlds.{Agrees}
use Rattle.world_limits.specs.Fits.{FitsNext}
use Rattle.world_limits.specs.States.{KeptIs, OsdIs}

-- The OSD runs on these records: it has of each file what they say, each file is sound, and all that it may send or keep is
-- within the limits.
pub record RunsOn (records : List Record) (s : OsdState) : Type 0 where
  pub limits : OsdIs s
  pub agrees : Agrees records s
  pub sound : (file : FileId) → IsSound (file_at (awake_as s.started) s.files file)

-- A step of an OSD that runs on these records: its record is within the limits and in its place, and so are the records with it;
-- the OSD runs on those; and its messages are within the limits.
pub record StepsOn (records : List Record) (step : OsdStep) : Type 0 where
  pub next : FitsNext records step.turned.rec
  pub kept : KeptIs (one_more records step.turned.rec)
  pub runs : RunsOn (one_more records step.turned.rec) step.osd
  pub outs : AllByRecursion FitsMessage step.turned.outs
