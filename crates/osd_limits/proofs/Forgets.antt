-- an OSD that has forgotten runs on its rewritten records
use Rattle.std.proofs.Common.{◌≡◌, List, refl, sym, subst}
use Rattle.xt_base.specs.declared.ids.FileId.{FileId}
use Rattle.xt_messages.specs.declared.record.KeepBody.{KeepBody}
use Rattle.xt_messages.specs.declared.record.Record.{Record}
use Rattle.xt_protocol.specs.Forgetting.{keep_of, osd_without, rewritten}
use Rattle.xt_protocol.specs.OsdSteps.{OsdState, file_at}
use Rattle.osd_invariants.specs.Sound.{IsSound}
use Rattle.world_runs.specs.View.{awake_as}
use Rattle.world_runs.proofs.Forgotten.{held_so, at_without, agrees_then}
use Rattle.world_limits.specs.States.{KeptIs}
use Rattle.world_limits.proofs.Rewritten.{rewritten_is, osd_then}
use Rattle.osd_limits.specs.Keeping.{RunsOn}

sound_then : (keep : List KeepBody) (s : OsdState) → ((file : FileId) → IsSound (file_at (awake_as s.started) s.files file))
    → (file : FileId) → IsSound (file_at (awake_as s.started) (osd_without keep s).files file)
unfolding osd_without
sound_then keep s sound file = subst IsSound (sym (at_without (awake_as s.started) keep s.files file)) (held_so keep (file_at (awake_as s.started) s.files file) (sound file))

same_start : (keep : List KeepBody) (s : OsdState) → (osd_without keep s).started ≡ s.started
unfolding osd_without
same_start keep s = refl

pub forgot : (records : List Record) (s : OsdState) → KeptIs records → RunsOn records s
    → KeptIs (rewritten (keep_of s) records) × RunsOn (rewritten (keep_of s) records) (osd_without (keep_of s) s)
forgot records s is runs = (
  rewritten_is records s is runs.agrees,
  record {
    limits = osd_then (keep_of s) s runs.limits;
    agrees = agrees_then (keep_of s) records s runs.agrees;
    sound = λ file. subst (λ x. IsSound (file_at (awake_as x) (osd_without (keep_of s) s).files file)) (sym (same_start (keep_of s) s)) (sound_then (keep_of s) s runs.sound file);
  },
)
