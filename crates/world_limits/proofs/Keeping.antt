-- what a step of an OSD leaves in memory agrees with the records that it keeps then
use Rattle.std.proofs.Common.{◌≡◌, max, ℕ, Bool, true, false, List, map, sym, ap, subst, ◌∙◌, Option, Some, None, refl}
use Rattle.std.specs.Prelude.{cond}
use Rattle.xt_base.specs.declared.ids.FileId.{FileId}
use Rattle.xt_messages.specs.declared.event.Event.{Event}
use Rattle.xt_messages.specs.declared.event.Event.TheVariants as event
use Rattle.xt_messages.specs.declared.file.Capability.{Capability}
use Rattle.xt_messages.specs.declared.message.Msg.{Msg}
use Rattle.xt_messages.specs.declared.record.Record.{Record}
use Rattle.xt_protocol.specs.FileIds.{is_file}
use Rattle.xt_protocol.specs.Folds.{fold_of, row_in}
use Rattle.xt_protocol.specs.LeaseRows.{Silent, Awake, awake_at, is_silent}
use Rattle.xt_protocol.specs.FileStates.{FileState, Site}
use Rattle.xt_protocol.specs.FileSteps.{step_of_file}
use Rattle.xt_protocol.specs.Overdue.{expired}
use Rattle.xt_protocol.specs.OsdSteps.{OsdState, OsdStep, step_of_osd, handled_awake, file_at, file_concerned}
use Rattle.osd_invariants.specs.Sound.{IsSound}
use Rattle.osd_invariants.proofs.Kept.{step_follows}
use Rattle.osd_invariants.proofs.SoundSteps.{expired_so, step_so, wake_so}
use Rattle.lease_runs.specs.OsdView.{site_of, wake_step}
use Rattle.lease_runs.specs.ActsView.{RecordIs}
use Rattle.lease_runs.proofs.OsdLeases.{handled, woke_all, woken_step, wake_shows, at_file, file_at-with_file}
use Rattle.lease_runs.proofs.ActSteps.{step_rec, wake_step_kept, woken_quiet}
use Rattle.world_spec.specs.NodeSteps.{one_more}
use Rattle.world_runs.specs.View.{awake_as}
use Rattle.world_runs.specs.Worlds.{Agrees}
use Rattle.world_runs.proofs.Files.{step_agrees}
use Rattle.world_runs.proofs.Woken.{AtMap, found_at, found_nowhere, at_map}
use Rattle.object_versions.proofs.HeadLimits.{either}
use Rattle.world_limits.specs.States.{outside_by}

-- what a step leaves in memory, against the records with its own
pub record Keeps (records : List Record) (o : OsdStep) : Type 0 where
  pub agrees : Agrees (one_more records o.turned.rec) o.osd
  pub sound : (file : FileId) → IsSound (file_at (awake_as o.osd.started) o.osd.files file)

module _ (sealed : Capability → Bool) (records : List Record) (s : OsdState) (reading : ℕ) (agrees : Agrees records s) (sound : (file : FileId) → IsSound (file_at (awake_as s.started) s.files file)) where
  abbrev now : ℕ
  now = max reading s.last

  abbrev awake : Awake
  awake = awake_as s.started

  abbrev site : Site
  site = site_of (outside_by sealed records) awake now

  -- ---- a message

  message_keeps : (msg : Msg) (concerned : Option FileId) → Keeps records (handled (outside_by sealed records) s now awake msg concerned)
  message_keeps msg None = record { agrees = agrees; sound = sound }
  message_keeps msg (Some file) =
      let before = file_at awake s.files file in
      let step = step_of_file site before msg.from msg.payload in
      record {
        agrees =
            step_agrees records s file msg.payload step.state step.turned.rec agrees
            (subst (λ (f : FileId). RecordIs f msg.payload step.turned.rec) (at_file awake s.files file) (step_rec site before msg.from msg.payload))
            (step_follows site before msg.from msg.payload);
        sound = λ other.
            subst IsSound (sym (file_at-with_file awake s.files step.state other))
            (either IsSound (is_file step.state.kept.file other) step.state (file_at awake s.files other) (step_so site before msg.from msg.payload (sound file)) (sound other));
      }

  -- ---- a Wake

  abbrev woke_of : FileState → FileState
  woke_of f = (wake_step site f).state

  module _ (is_awake : awake_at s.started now ≡ Some awake) where
    abbrev woke : OsdStep
    woke = step_of_osd (outside_by sealed records) s reading event.Wake

    whole : woke ≡ woke_all (outside_by sealed records) s now awake
    whole = woken_step (outside_by sealed records) s reading awake is_awake

    wake_keeps : Keeps records woke
    wake_keeps = record {
      agrees = λ file. (
          ap (λ (t : Silent). (file_at (awake_as t) woke.osd.files file).kept) started
          ∙ kept_there file (at_map woke_of awake s.files file (λ f. ap (λ row. row.file) (wake_step_kept site f)))
          ∙ agrees file
          ∙ ap (λ (rec : Option Record). row_in (fold_of (one_more records rec)).files file) (sym no_record)
          );
      sound = λ file. subst (λ (t : Silent). IsSound (file_at (awake_as t) woke.osd.files file)) (sym started)
          (subst (λ (fs : List FileState). IsSound (file_at awake fs file)) (sym files) (sound_there file (at_map woke_of awake s.files file (λ f. ap (λ row. row.file) (wake_step_kept site f)))));
    }
      where
        started : woke.osd.started ≡ s.started
        started = ap (λ (o : OsdStep). o.osd.started) whole

        files : woke.osd.files ≡ map woke_of s.files
        files = (wake_shows (outside_by sealed records) s reading awake is_awake).files

        no_record : woke.turned.rec ≡ None
        no_record = ap (λ (o : OsdStep). o.turned.rec) whole ∙ (woken_quiet site s.files).1

        kept_there : (file : FileId) → AtMap woke_of awake s.files file → (file_at awake woke.osd.files file).kept ≡ (file_at awake s.files file).kept
        kept_there file (found_at has is) = ap (λ (fs : List FileState). (file_at awake fs file).kept) files ∙ ap (λ (f : FileState). f.kept) is ∙ wake_step_kept site (file_at awake s.files file)
        kept_there file (found_nowhere none is) = ap (λ (fs : List FileState). (file_at awake fs file).kept) files ∙ ap (λ (f : FileState). f.kept) is

        sound_there : (file : FileId) → AtMap woke_of awake s.files file → IsSound (file_at awake (map woke_of s.files) file)
        sound_there file (found_at has is) = let f = file_at awake s.files file in subst IsSound (sym is) (wake_so site (expired site f).state (expired_so site f (sound file)))
        sound_there file (found_nowhere none is) = subst IsSound (sym is) (sound file)

  -- ---- any event

  pub event_keeps : (happens : Event) → Keeps records (step_of_osd (outside_by sealed records) s reading happens)
  unfolding step_of_osd
  event_keeps happens = by_silence (is_silent s.started now) refl
    where
      at_event : (e : Event) → awake_at s.started now ≡ Some awake → Keeps records (handled_awake (outside_by sealed records) s now e (Some awake))
      at_event (event.Deliver msg) is = message_keeps msg (file_concerned msg.payload)
      at_event event.Wake is = subst (λ (a : Option Awake). Keeps records (handled_awake (outside_by sealed records) s now event.Wake a)) is (wake_keeps is)
      at_event (event.Call call) is = record { agrees = agrees; sound = sound }

      by_silence : (silent : Bool) → is_silent s.started now ≡ silent → Keeps records (handled_awake (outside_by sealed records) s now happens (awake_at s.started now))
      by_silence true is = subst (λ (b : Bool). Keeps records (handled_awake (outside_by sealed records) s now happens (cond b None (Some awake)))) (sym is) (record { agrees = agrees; sound = sound })
      by_silence false is = subst (λ (a : Option Awake). Keeps records (handled_awake (outside_by sealed records) s now happens a)) (sym (ap (λ (b : Bool). cond b None (Some awake)) is)) (at_event happens (ap (λ (b : Bool). cond b None (Some awake)) is))
