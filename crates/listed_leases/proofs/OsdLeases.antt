-- the steps of an OSD show in the leases of its files, where lists change
use Rattle.std.proofs.Common.{◌≡◌, ◌∙◌, ℕ, refl, ap, sym, subst, List, [], ◌∷◌, ◌++◌}
use Rattle.std.specs.Prelude.{Option, Some, None, flat_map, map, max}
use Rattle.std.proofs.lemmas.List.Elements.{filter-append, filter_map-append}
use Rattle.xt_base.specs.declared.ids.NodeId.{NodeId}
use Rattle.xt_base.specs.declared.ids.FileId.{FileId}
use Rattle.xt_messages.specs.declared.message.Msg.{Msg}
use Rattle.xt_messages.specs.declared.message.Payload.{Payload}
use Rattle.xt_messages.specs.declared.event.Event.TheVariants as event
use Rattle.xt_messages.specs.declared.record.FileRow.{FileRow}
use Rattle.xt_messages.specs.declared.record.Record.{Record}
use Rattle.xt_protocol.proofs.Folds.{row_after-file}
use Rattle.xt_protocol.specs.LeaseRows.{Awake, LeaseState, asking, awake_at, free, held, writing}
use Rattle.xt_protocol.specs.ReplicaRows.{kept_after}
use Rattle.xt_protocol.specs.FileStates.{FileState, Site, FileStep, and_then}
use Rattle.xt_protocol.specs.Overdue.{expired}
use Rattle.xt_protocol.specs.FileSteps.{wake_of_file}
use Rattle.xt_protocol.specs.OsdSteps.{Outside, OsdState, OsdStep, each_file, file_at}
use Rattle.lease_runs.specs.LeaseWorld.{LeaseRow, LeaseSetting, row_asks}
use Rattle.lease_runs.specs.LeaseView.{held_end, held_ends, is_lease_or_ask, leases_and_asks, lease_row_of, listed}
use Rattle.lease_runs.specs.LeaseView as before_lists
use Rattle.lease_runs.specs.OsdView.{file_after, site_of}
use Rattle.lease_runs.proofs.OsdLeases.{at_file, file_at-with_file, put_here, put_there}
use Rattle.lease_runs.proofs.LeaseSteps.{expired_shows, wake_wakes}
use Rattle.list_rows.specs.ListRows.{step_of_message, wake_of_listed}
use Rattle.list_rows.specs.ListSteps.{all_wake, file_named, step_with_lists, taken_awake, takes_message}
use Rattle.list_invariants.proofs.Gives.{follows_record}
use Rattle.listed_leases.specs.LeaseView.{Shows}
use Rattle.listed_leases.specs.VersionView.{ShowsAt}
use Rattle.listed_leases.specs.OsdView.{ShowsMessage, ShowsWake}
use Rattle.listed_leases.proofs.Follows.{step_shows}
use Rattle.listed_leases.proofs.Versions.{message_at}

-- a record leaves the file what it is
record_keeps : (row : FileRow) (rec : Option Record) → (kept_after row rec).file ≡ row.file
record_keeps row None = refl
record_keeps row (Some rec) = row_after-file row rec

pub step_keeps : (site : Site) (s : FileState) (from : NodeId) (list : ℕ) (content : Payload) → (step_of_message site s from list content).state.kept.file ≡ s.kept.file
step_keeps site s from list content =
    ap (λ (row : FileRow). row.file) (follows_record site s from list content) ∙ record_keeps s.kept (step_of_message site s from list content).turned.rec

-- ---- a message

-- what a message leaves
abbrev pub handled : Outside → OsdState → ℕ → Awake → Msg → Option FileId → OsdStep
handled outside osd now awake msg concerned =
    let step = takes_message (site_of outside awake now) awake osd.files msg concerned in
    record { osd = record { started = osd.started; last = now; files = step.files }; turned = step.turned }

pub message_step : (outside : Outside) (osd : OsdState) (reading : ℕ) (msg : Msg) (file : FileId) (awake : Awake)
    → awake_at osd.started (max reading osd.last) ≡ Some awake → file_named msg.payload ≡ Some file
    → step_with_lists outside osd reading (event.Deliver msg) ≡ handled outside osd (max reading osd.last) awake msg (Some file)
unfolding step_with_lists
message_step outside osd reading msg file awake is_awake concerns =
    ap (λ (a : Option Awake). taken_awake outside osd (max reading osd.last) (event.Deliver msg) a) is_awake
    ∙ ap (λ (c : Option FileId). handled outside osd (max reading osd.last) awake msg c) concerns

pub message_shows : (outside : Outside) (osd : OsdState) (reading : ℕ) (msg : Msg) (file : FileId) (awake : Awake)
    → awake_at osd.started (max reading osd.last) ≡ Some awake → file_named msg.payload ≡ Some file → ShowsMessage outside osd reading msg file awake
message_shows outside osd reading msg file awake is_awake concerns =
    let site = site_of outside awake (max reading osd.last) in
    let s = file_at awake osd.files file in
    let step = step_of_message site s msg.from msg.list msg.payload in
    let whole = message_step outside osd reading msg file awake is_awake concerns in
    let is_its = step_keeps site s msg.from msg.list msg.payload ∙ at_file awake osd.files file in
    let there = file_at-with_file awake osd.files step.state file ∙ put_here step.state s file is_its in
    record {
      shows =
          subst (λ (o : OsdStep). Shows site s msg.from msg.list msg.payload (file_after awake o file)) (sym whole)
          (subst (λ (state : FileState). Shows site s msg.from msg.list msg.payload (record { state = state; turned = step.turned })) (sym there)
          (step_shows site s msg.from msg.list msg.payload));
      versions = λ version.
          subst (λ (o : OsdStep). ShowsAt site s msg.from msg.list msg.payload version (file_after awake o file)) (sym whole)
          (subst (λ (state : FileState). ShowsAt site s msg.from msg.list msg.payload version (record { state = state; turned = step.turned })) (sym there)
          (message_at site s msg.from msg.list msg.payload version));
      others = λ other differ.
          ap (λ (o : OsdStep). file_at awake o.osd.files other) whole
          ∙ file_at-with_file awake osd.files step.state other
          ∙ put_there step.state (file_at awake osd.files other) file other is_its differ;
    }

-- ---- a Wake

no_end : (g : LeaseSetting) (node : NodeId) (now : ℕ) (x : LeaseRow) (l : LeaseState) → listed (row_asks g node now x l).end ≡ []
no_end g node now x (free p) = refl
no_end g node now x (asking r) = refl
no_end g node now x (writing r) = refl
no_end g node now x (held h) = refl

wake_ends : (site : Site) (s : FileState) → held_ends (wake_of_listed site s).turned.marks ≡ []
unfolding wake_of_listed
wake_ends site s = at (wake_wakes site s)
  where
    at : before_lists.Wakes s.kept.file site (lease_row_of s) s.lease (wake_of_file site s) → held_ends (wake_of_file site s).turned.marks ≡ []
    at (before_lists.renewing is p) =
        p.ends ∙ no_end (before_lists.lease_setting site s.kept.file (wake_of_file site s).state.kept.location) site.node site.now (lease_row_of s) s.lease
    at (before_lists.resting p) = p.ends

-- two steps of each file, one after the other for all files, are both steps of each
module _ (first second : FileState → FileStep) where
  abbrev both : FileState → FileStep
  both s = and_then (first s) second

  each_states : (step : FileState → FileStep) (files : List FileState) → (each_file step files).files ≡ map (λ s. (step s).state) files
  unfolding each_file
  each_states step [] = refl
  each_states step (s ∷ ss) = ap (λ (others : List FileState). (step s).state ∷ others) (each_states step ss)

  each_outs : (step : FileState → FileStep) (files : List FileState) → leases_and_asks (each_file step files).turned.outs ≡ flat_map (λ s. leases_and_asks (step s).turned.outs) files
  unfolding each_file
  each_outs step [] = refl
  each_outs step (s ∷ ss) =
      filter-append is_lease_or_ask (step s).turned.outs (each_file step ss).turned.outs
      ∙ ap (λ (ms : List Msg). leases_and_asks (step s).turned.outs ++ ms) (each_outs step ss)

  each_ends : (step : FileState → FileStep) (files : List FileState) → ((s : FileState) → held_ends (step s).turned.marks ≡ []) → held_ends (each_file step files).turned.marks ≡ []
  unfolding each_file
  each_ends step [] none = refl
  each_ends step (s ∷ ss) none =
      filter_map-append held_end (step s).turned.marks (each_file step ss).turned.marks
      ∙ ap (λ (ends : List ℕ). ends ++ held_ends (each_file step ss).turned.marks) (none s)
      ∙ each_ends step ss none

  both_states : (files : List FileState) → map (λ s. (second s).state) (map (λ s. (first s).state) files) ≡ map (λ s. (both s).state) files
  both_states [] = refl
  both_states (s ∷ ss) = ap (λ (others : List FileState). (both s).state ∷ others) (both_states ss)

  flat_none : (f : FileState → List Msg) (files : List FileState) → ((s : FileState) → f s ≡ []) → flat_map f files ≡ []
  flat_none f [] none = refl
  flat_none f (s ∷ ss) none = ap (λ (ms : List Msg). ms ++ flat_map f ss) (none s) ∙ flat_none f ss none

  both_outs : ((s : FileState) → leases_and_asks (first s).turned.outs ≡ []) → (files : List FileState)
      → flat_map (λ s. leases_and_asks (second s).turned.outs) (map (λ s. (first s).state) files) ≡ flat_map (λ s. leases_and_asks (both s).turned.outs) files
  both_outs none [] = refl
  both_outs none (s ∷ ss) =
      ap (λ (ms : List Msg). leases_and_asks (second (first s).state).turned.outs ++ ms) (both_outs none ss)
      ∙ ap (λ (ms : List Msg). ms ++ flat_map (λ s. leases_and_asks (both s).turned.outs) ss)
      (sym (filter-append is_lease_or_ask (first s).turned.outs (second (first s).state).turned.outs
      ∙ ap (λ (ms : List Msg). ms ++ leases_and_asks (second (first s).state).turned.outs) (none s)))

abbrev pub woke_all : Outside → OsdState → ℕ → Awake → OsdStep
woke_all outside osd now awake =
    let step = all_wake (site_of outside awake now) osd.files in
    record { osd = record { started = osd.started; last = now; files = step.files }; turned = step.turned }

pub woken_step : (outside : Outside) (osd : OsdState) (reading : ℕ) (awake : Awake) → awake_at osd.started (max reading osd.last) ≡ Some awake
    → step_with_lists outside osd reading event.Wake ≡ woke_all outside osd (max reading osd.last) awake
unfolding step_with_lists
woken_step outside osd reading awake is_awake = ap (λ (a : Option Awake). taken_awake outside osd (max reading osd.last) event.Wake a) is_awake

pub wake_all_shows : (outside : Outside) (osd : OsdState) (reading : ℕ) (awake : Awake) → awake_at osd.started (max reading osd.last) ≡ Some awake
    → ShowsWake outside osd reading awake
wake_all_shows outside osd reading awake is_awake =
    let site = site_of outside awake (max reading osd.last) in
    let whole = woken_step outside osd reading awake is_awake in
    let settled = each_file (expired site) osd.files in
    let woke = each_file (wake_of_listed site) settled.files in
    let files = each_states (expired site) (wake_of_listed site) (expired site) osd.files in
    let quiet_outs = each_outs (expired site) (wake_of_listed site) (expired site) osd.files
    ∙ flat_none (expired site) (wake_of_listed site) (λ s. leases_and_asks (expired site s).turned.outs) osd.files (λ s. (expired_shows site s).outs) in
    record {
      files =
          ap (λ (o : OsdStep). o.osd.files) whole
          ∙ each_states (expired site) (wake_of_listed site) (wake_of_listed site) settled.files
          ∙ ap (λ (fs : List FileState). map (λ s. (wake_of_listed site s).state) fs) files
          ∙ both_states (expired site) (wake_of_listed site) osd.files;
      outs =
          ap (λ (o : OsdStep). leases_and_asks o.turned.outs) whole
          ∙ filter-append is_lease_or_ask settled.turned.outs woke.turned.outs
          ∙ ap (λ (ms : List Msg). ms ++ leases_and_asks woke.turned.outs) quiet_outs
          ∙ each_outs (expired site) (wake_of_listed site) (wake_of_listed site) settled.files
          ∙ ap (λ (fs : List FileState). flat_map (λ s. leases_and_asks (wake_of_listed site s).turned.outs) fs) files
          ∙ both_outs (expired site) (wake_of_listed site) (λ s. (expired_shows site s).outs) osd.files;
      ends =
          ap (λ (o : OsdStep). held_ends o.turned.marks) whole
          ∙ filter_map-append held_end settled.turned.marks woke.turned.marks
          ∙ ap (λ (ends : List ℕ). ends ++ held_ends woke.turned.marks) (each_ends (expired site) (wake_of_listed site) (expired site) osd.files (λ s. (expired_shows site s).ends))
          ∙ each_ends (expired site) (wake_of_listed site) (wake_of_listed site) settled.files (wake_ends site);
    }
