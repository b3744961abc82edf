-- an OSD runs on the records that it keeps, from its start on and over every step
use Rattle.std.proofs.Common.{◌<◌, ◌^◌, ℕ, Bool, List, [], ◌∷◌, ◌++◌, map, Option, Some, None}
use Rattle.xt_base.specs.TimeSettings.{AreTimes}
use Rattle.xt_messages.specs.declared.record.FileRow.{FileRow}
use Rattle.xt_messages.specs.declared.record.Record.TheVariants as kept
use Rattle.xt_base.specs.declared.ids.FileId.{FileId}
use Rattle.xt_messages.specs.declared.event.Event.{Event}
use Rattle.xt_messages.specs.declared.record.Record.{Record}
use Rattle.xt_protocol.specs.FileIds.{is_file}
use Rattle.xt_protocol.specs.Folds.{fold_of, new_row}
use Rattle.xt_protocol.specs.LeaseRows.{Silent, Awake}
use Rattle.xt_protocol.specs.FileStates.{file_from}
use Rattle.xt_protocol.specs.OsdSteps.{OsdState, osd_from, step_of_osd, file_at}
use Rattle.osd_invariants.specs.Sound.{IsSound}
use Rattle.osd_invariants.proofs.SoundSteps.{start_so}
use Rattle.world_spec.specs.NodeSteps.{one_more}
use Rattle.world_runs.specs.View.{awake_as}
use Rattle.world_runs.proofs.Files.{start_agrees}
use Rattle.object_versions.proofs.HeadLimits.{either}
use Rattle.xt_messages.specs.Limits.{FitsEvent}
use Rattle.xt_messages.specs.declared.file.Capability.{Capability}
use Rattle.world_limits.specs.States.{KeptIs, outside_by}
use Rattle.world_limits.proofs.Kept.{NextOf, next_is, more_is, start_is}
use Rattle.world_limits.proofs.Keeping.{event_keeps}
use Rattle.world_limits.proofs.Osd.{osd_step_is, started_is}
use Rattle.osd_limits.specs.Keeping.{RunsOn, StepsOn}

-- a step, and what is kept after it
pub steps : (sealed : Capability → Bool) (records : List Record) (s : OsdState) (reading : ℕ) (happens : Event) → KeptIs records → RunsOn records s → reading < 2 ^ 62 → FitsEvent happens
    → StepsOn records (step_of_osd (outside_by sealed records) s reading happens)
steps sealed records s reading happens kept runs clock fits =
    let step = step_of_osd (outside_by sealed records) s reading happens in
    let is = osd_step_is sealed records s reading happens kept runs.limits clock runs.agrees runs.sound fits in
    let keeps = event_keeps sealed records s reading runs.agrees runs.sound happens in
    record {
      next = next_is records step.turned.rec is.next;
      kept = more step.turned.rec is.next;
      runs = record { limits = is.state; agrees = keeps.agrees; sound = keeps.sound };
      outs = is.outs;
    }
  where
    more : (rec : Option Record) → NextOf records rec → KeptIs (one_more records rec)
    more None next = kept
    more (Some rec) next = more_is records rec kept next

-- ---- a start

from_sound : (awake : Awake) (rows : List FileRow) (file : FileId) → IsSound (file_at awake (map (file_from awake) rows) file)
unfolding file_at
from_sound awake [] file = start_so awake (new_row file)
from_sound awake (r ∷ rs) file = either IsSound (is_file r.file file) (file_from awake r) (file_at awake (map (file_from awake) rs) file) (start_so awake r) (from_sound awake rs file)

-- a node starts from what its records say, and keeps its boot
pub started : (records : List Record) (silent : Silent) → KeptIs records → silent.node.0 < 2 ^ 32 → silent.boot.0 < 2 ^ 62 → AreTimes silent.times.lease silent.times.drift → silent.start < 2 ^ 62
    → KeptIs (records ++ kept.Boot silent.boot ∷ []) × RunsOn (records ++ kept.Boot silent.boot ∷ []) (osd_from silent (fold_of records).files)
started records silent is who number times bound =
    let rows = (fold_of records).files in (
      start_is records silent.boot is number,
      record {
        limits = started_is silent rows who number times.small bound is.rows;
        agrees = start_agrees records silent.boot silent;
        sound = from_sound (awake_as silent) rows;
      },
    )
