-- a node that runs on its records gives what may be kept and sent, and runs on
use Rattle.std.proofs.Common.{◌≡◌, ◌<◌, ◌^◌, ℕ, max, Option, Some, None, List, [], refl, ap, sym, subst, ◌∙◌}
use Rattle.std.proofs.lemmas.List.Elements.{All-from_recursion}
use Rattle.xt_messages.specs.Limits.{FitsEvent, FitsMessage, FitsRecord}
use Rattle.xt_messages.specs.declared.event.Event.{Event}
use Rattle.xt_messages.specs.declared.record.KeepBody.{KeepBody}
use Rattle.xt_messages.specs.declared.record.Record.{Record}
use Rattle.xt_protocol.specs.Forgetting.{keep_of, osd_without, rewritten}
use Rattle.xt_protocol.specs.declared.turned.Turned.{Turned}
use Rattle.world_spec.specs.NodeSteps.{one_more}
use Rattle.server_rows.specs.Directory.{DirState, step_of_dir}
use Rattle.server_rows.specs.Metadata.{MrcState, step_of_mrc}
use Rattle.server_limits.specs.Keeping.{DirRunsOn, MrcRunsOn}
use Rattle.server_limits.proofs.Keeping as keeping
use Rattle.mrc_core.specs.Picking.{CanHandle}
use Rattle.mrc_core.proofs.Fitting as fitting
use Rattle.xt_protocol.specs.LeaseRows.{Awake, awake_at}
use Rattle.xt_protocol.specs.OsdSteps.{OsdState, OsdStep, Outside, handled_awake, step_of_osd}
use Rattle.osd_core.specs.Keys.{outside_of, sealed_by}
use Rattle.osd_limits.specs.Keeping.{StepsOn}
use Rattle.osd_limits.proofs.Steps as osd_limits
use Rattle.osd_limits.proofs.Forgets.{forgot}
use Rattle.object_store.specs.Texts.{AreRecords}
use Rattle.world_limits.specs.States.{KeptIs}
use Rattle.node_loop.specs.Events.{Fits}
use Rattle.node_roles.specs.Roles.{osd_role, OsdRunsOn}

module _ (records : List Record) (dir : DirState) (happens : Event) (runs : DirRunsOn records dir) (comes : FitsEvent happens) where
  pub dir_fits : (turned : Turned) → turned ≡ (step_of_dir dir happens).turned → Fits records turned
  dir_fits turned is =
      let step = keeping.dir_steps records dir happens runs comes in
      subst (Fits records) (sym is)
      (record { record_next = step.next; messages = All-from_recursion FitsMessage (step_of_dir dir happens).turned.outs step.outs })

  pub dir_runs : (turned : Turned) (after : DirState) → turned ≡ (step_of_dir dir happens).turned → after ≡ (step_of_dir dir happens).dir
      → DirRunsOn (one_more records turned.rec) after
  dir_runs turned after is state =
      let step = keeping.dir_steps records dir happens runs comes in
      subst (λ (t : Turned). DirRunsOn (one_more records t.rec) after) (sym is)
      (subst (DirRunsOn (one_more records (step_of_dir dir happens).turned.rec)) (sym state) step.runs)

pub can_handle : (happens : Event) → FitsEvent happens → CanHandle happens
can_handle = fitting.can_handle

module _ (key : List ℕ) (records : List Record) (mrc : MrcState) (reading : ℕ) (happens : Event)
    (runs : MrcRunsOn key records mrc) (clock : reading < 2 ^ 62) (comes : FitsEvent happens) where
  pub mrc_fits : (turned : Turned) → turned ≡ (step_of_mrc key mrc reading happens).turned → Fits records turned
  mrc_fits turned is =
      let step = keeping.mrc_steps key records mrc reading happens runs clock comes in
      subst (Fits records) (sym is)
      (record { record_next = step.next; messages = All-from_recursion FitsMessage (step_of_mrc key mrc reading happens).turned.outs step.outs })

  pub mrc_runs : (turned : Turned) (after : MrcState) → turned ≡ (step_of_mrc key mrc reading happens).turned
      → after ≡ (step_of_mrc key mrc reading happens).mrc → MrcRunsOn key (one_more records turned.rec) after
  mrc_runs turned after is state =
      let step = keeping.mrc_steps key records mrc reading happens runs clock comes in
      subst (λ (t : Turned). MrcRunsOn key (one_more records t.rec) after) (sym is)
      (subst (MrcRunsOn key (one_more records (step_of_mrc key mrc reading happens).turned.rec)) (sym state) step.runs)

-- ---- an OSD

-- no step changes how it started
starts_same : (outside : Outside) (osd : OsdState) (reading : ℕ) (happens : Event)
    → (step_of_osd outside osd reading happens).osd.started ≡ osd.started
unfolding step_of_osd
starts_same outside osd reading happens = at (awake_at osd.started (max reading osd.last))
  where
    at : (awake : Option Awake) → (handled_awake outside osd (max reading osd.last) happens awake).osd.started ≡ osd.started
    at None = refl
    at (Some awake) = refl

module _ (key : Option (List ℕ)) (records : List Record) (osd : OsdState) (reading : ℕ) (happens : Event)
    (turned : Turned) (after : OsdState) where
  pub osd_same : (key' : Option (List ℕ)) → step_of_osd (outside_of key records) osd reading happens ≡ record { osd = after; turned = turned }
      → key' ≡ key → osd_role after.started.node key' ≡ osd_role osd.started.node key
  osd_same key' is same =
      ap (λ (k : Option (List ℕ)). osd_role after.started.node k) same
      ∙ sym (ap (λ (s : OsdStep). osd_role s.osd.started.node key) is)
      ∙ ap (λ started. osd_role started.node key) (starts_same (outside_of key records) osd reading happens)

  module _ (runs : OsdRunsOn records osd) (clock : reading < 2 ^ 62) (comes : FitsEvent happens)
      (is : step_of_osd (outside_of key records) osd reading happens ≡ record { osd = after; turned = turned }) where
    steps_on : StepsOn records (record { osd = after; turned = turned })
    steps_on = subst (StepsOn records) is (osd_limits.steps (sealed_by key) records osd reading happens runs.kept runs.runs clock comes)

    pub osd_fits : Fits records turned
    osd_fits = record { record_next = steps_on.next; messages = All-from_recursion FitsMessage turned.outs steps_on.outs }

    pub osd_runs : OsdRunsOn (one_more records turned.rec) after
    osd_runs = record { kept = steps_on.kept; runs = steps_on.runs }

-- ---- an OSD whose records are rewritten

-- how it started is not forgotten
started_without : (keep : List KeepBody) (osd : OsdState) → (osd_without keep osd).started ≡ osd.started
unfolding osd_without
started_without keep osd = refl

pub osd_without_same : (key key' : Option (List ℕ)) (keep : List KeepBody) (osd after : OsdState) → after ≡ osd_without keep osd → key' ≡ key
    → osd_role after.started.node key' ≡ osd_role osd.started.node key
osd_without_same key key' keep osd after is same =
    ap (λ (k : Option (List ℕ)). osd_role after.started.node k) same
    ∙ ap (λ (s : OsdState). osd_role s.started.node key) is
    ∙ ap (λ started. osd_role started.node key) (started_without keep osd)

-- the bodies that it needs, where they are told
needs_are : (osd : OsdState) (keep : List KeepBody) → Some (keep_of osd) ≡ Some keep → keep ≡ keep_of osd
needs_are osd keep is = sym (ap bodies is)
  where
    bodies : Option (List KeepBody) → List KeepBody
    bodies None = []
    bodies (Some some) = some

module _ (records : List Record) (osd : OsdState) (runs : OsdRunsOn records osd) where
  -- its rewritten records may be kept
  pub osd_may : (keep : List KeepBody) → keep ≡ keep_of osd → AreRecords (rewritten keep records)
  osd_may keep is =
      let kept : KeptIs (rewritten (keep_of osd) records) = (forgot records osd runs.kept runs.runs).0 in
      subst (λ (k : List KeepBody). AreRecords (rewritten k records)) (sym is)
      (record { fit = All-from_recursion FitsRecord (rewritten (keep_of osd) records) kept.limits; placed = kept.places })

  -- and it runs on them
  pub osd_runs_without : (keep : List KeepBody) (after : OsdState) → Some (keep_of osd) ≡ Some keep → after ≡ osd_without keep osd
      → OsdRunsOn (rewritten keep records) after
  osd_runs_without keep after is without =
      let forgets = forgot records osd runs.kept runs.runs in
      subst (λ (s : OsdState). OsdRunsOn (rewritten keep records) s) (sym without)
      (subst (λ (k : List KeepBody). OsdRunsOn (rewritten k records) (osd_without k osd)) (sym (needs_are osd keep is))
      (record { kept = forgets.0; runs = forgets.1 }))
