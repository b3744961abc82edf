-- the steps of an OSD show in the leases of its files
use Rattle.std.proofs.Common.{◌≡◌, ℕ, refl, ap, sym, subst, ◌∙◌, List, [], ◌∷◌, ◌++◌, Bool, true, false}
use Rattle.std.specs.Prelude.{Option, Some, None, cond, map, flat_map, max}
use Rattle.std.proofs.lemmas.List.Elements.{filter-append, filter_map-append}
use Rattle.xt_base.specs.declared.ids.NodeId.{NodeId}
use Rattle.xt_base.specs.declared.ids.FileId.{FileId}
use Rattle.xt_messages.specs.declared.message.Msg.{Msg}
use Rattle.xt_messages.specs.declared.message.Payload.{Payload}
use Rattle.xt_messages.specs.declared.event.Event.TheVariants as event
use Rattle.xt_messages.specs.declared.record.Record.{Record}
use Rattle.xt_messages.specs.declared.record.FileRow.{FileRow}
use Rattle.xt_protocol.specs.FileIds.{is_file, is_before}
use Rattle.xt_protocol.specs.LeaseRows.{Awake, awake_at, LeaseState, free, asking, writing, held}
use Rattle.lease_runs.specs.LeaseWorld.{LeaseSetting, LeaseRow, row_asks}
use Rattle.xt_protocol.proofs.Folds.{file-equal, file-itself, file-back, file-along, row_after-file}
use Rattle.xt_protocol.specs.ReplicaRows.{kept_after}
use Rattle.xt_protocol.specs.FileStates.{FileState, Site, FileStep}
use Rattle.xt_protocol.specs.Overdue.{expired}
use Rattle.xt_protocol.specs.FileSteps.{step_of_file, wake_of_file}
use Rattle.xt_protocol.specs.OsdSteps.{Outside, OsdState, OsdStep, step_of_osd, file_at, with_file, each_file, file_concerned, handled_awake, handle_message, woken}
use Rattle.lease_runs.specs.LeaseView.{lease_row_of, lease_setting, listed, is_lease_or_ask, leases_and_asks, held_end, held_ends, Follows, Wakes, renewing, resting, settled_row}
use Rattle.lease_runs.specs.OsdView.{site_of, file_after, ShowsMessage, ShowsWake, wake_step}
use Rattle.lease_runs.proofs.LeaseSteps.{expired_shows, expired_keeps, step_follows, wake_wakes, wake_after}
use Rattle.osd_invariants.proofs.Kept as kept_proofs

-- ---- the files of an OSD

-- two files are looked through in either order, where they are different ones
apart : (r row other : FileState) (file : FileId) (a b : Bool) → is_file r.kept.file file ≡ a → is_file row.kept.file file ≡ b
    → is_file r.kept.file row.kept.file ≡ false → cond a r (cond b row other) ≡ cond b row (cond a r other)
apart r row other file true true first second differ =
    absurd (let same : is_file r.kept.file row.kept.file ≡ true = file-along r.kept.file file row.kept.file first (file-back row.kept.file file second) in cc (same, differ))
apart r row other file true false first second differ = refl
apart r row other file false b first second differ = refl

-- a file that is put over itself hides it
over : (r row other : FileState) (file : FileId) → is_file r.kept.file row.kept.file ≡ true
    → cond (is_file row.kept.file file) row other ≡ cond (is_file row.kept.file file) row (cond (is_file r.kept.file file) r other)
over r row other file same =
    sym (ap (λ f. cond (is_file row.kept.file file) row (cond (is_file f file) r other)) (file-equal r.kept.file row.kept.file same)
    ∙ hides (is_file row.kept.file file))
  where
    hides : (t : Bool) → cond t row (cond t r other) ≡ cond t row other
    hides true = refl
    hides false = refl

-- the state of a file after one was put: that one where it is the file's, else the one before
pub file_at-with_file : (awake : Awake) (files : List FileState) (put : FileState) (file : FileId)
    → file_at awake (with_file files put) file ≡ cond (is_file put.kept.file file) put (file_at awake files file)
unfolding file_at with_file
file_at-with_file awake [] put file = refl
file_at-with_file awake (r ∷ rs) put file = at (file_at-with_file awake rs put file) (is_file r.kept.file put.kept.file) (is_before put.kept.file r.kept.file) refl
  where
    at : file_at awake (with_file rs put) file ≡ cond (is_file put.kept.file file) put (file_at awake rs file) → (same before : Bool)
        → is_file r.kept.file put.kept.file ≡ same
        → file_at awake (cond same (put ∷ rs) (cond before (put ∷ r ∷ rs) (r ∷ with_file rs put))) file
        ≡ cond (is_file put.kept.file file) put (cond (is_file r.kept.file file) r (file_at awake rs file))
    at rest true before same = over r put (file_at awake rs file) file same
    at rest false true differ = refl
    at rest false false differ =
        ap (λ x. cond (is_file r.kept.file file) r x) rest
        ∙ apart r put (file_at awake rs file) file (is_file r.kept.file file) (is_file put.kept.file file) refl refl differ

-- the state of a file is of that file
pub at_file : (awake : Awake) (files : List FileState) (file : FileId) → (file_at awake files file).kept.file ≡ file
unfolding file_at
at_file awake [] file = refl
at_file awake (r ∷ rs) file = one_of (at_file awake rs file) (is_file r.kept.file file) refl
  where
    one_of : (file_at awake rs file).kept.file ≡ file → (b : Bool) → is_file r.kept.file file ≡ b → (cond b r (file_at awake rs file)).kept.file ≡ file
    one_of rest true same = file-equal r.kept.file file same
    one_of rest false differ = rest

-- a record leaves the file what it is
record_keeps : (row : FileRow) (rec : Option Record) → (kept_after row rec).file ≡ row.file
record_keeps row None = refl
record_keeps row (Some rec) = row_after-file row rec

pub step_keeps : (site : Site) (s : FileState) (from : NodeId) (content : Payload) → (step_of_file site s from content).state.kept.file ≡ s.kept.file
step_keeps site s from content =
    ap (λ (row : FileRow). row.file) (kept_proofs.step_follows site s from content) ∙ record_keeps s.kept (step_of_file site s from content).turned.rec

-- ---- a message

-- what a message leaves
abbrev pub handled : Outside → OsdState → ℕ → Awake → Msg → Option FileId → OsdStep
handled outside osd now awake msg concerned =
    let step = handle_message (site_of outside awake now) awake osd.files msg concerned in
    record { osd = record { started = osd.started; last = now; files = step.files }; turned = step.turned }

pub message_step : (outside : Outside) (osd : OsdState) (reading : ℕ) (msg : Msg) (file : FileId) (awake : Awake)
    → awake_at osd.started (max reading osd.last) ≡ Some awake → file_concerned msg.payload ≡ Some file
    → step_of_osd outside osd reading (event.Deliver msg) ≡ handled outside osd (max reading osd.last) awake msg (Some file)
unfolding step_of_osd
message_step outside osd reading msg file awake is_awake concerns =
    ap (λ a. handled_awake outside osd (max reading osd.last) (event.Deliver msg) a) is_awake
    ∙ ap (λ c. handled outside osd (max reading osd.last) awake msg c) concerns

pub put_here : (put other : FileState) (file : FileId) → put.kept.file ≡ file → cond (is_file put.kept.file file) put other ≡ put
put_here put other file same = ap (λ b. cond b put other) (ap (λ f. is_file f file) same ∙ file-itself file)

pub put_there : (put other : FileState) (file k : FileId) → put.kept.file ≡ file → is_file file k ≡ false → cond (is_file put.kept.file k) put other ≡ other
put_there put other file k same differ = ap (λ b. cond b put other) (ap (λ f. is_file f k) same ∙ differ)

pub message_shows : (outside : Outside) (osd : OsdState) (reading : ℕ) (msg : Msg) (file : FileId) (awake : Awake)
    → awake_at osd.started (max reading osd.last) ≡ Some awake → file_concerned msg.payload ≡ Some file → ShowsMessage outside osd reading msg file awake
message_shows outside osd reading msg file awake is_awake concerns =
    let site = site_of outside awake (max reading osd.last) in
    let s = file_at awake osd.files file in
    let step = step_of_file site s msg.from msg.payload in
    let whole = message_step outside osd reading msg file awake is_awake concerns in
    let is_its = step_keeps site s msg.from msg.payload ∙ at_file awake osd.files file in
    let there = file_at-with_file awake osd.files step.state file ∙ put_here step.state s file is_its in
    record {
      shows =
          subst (λ (o : OsdStep). Follows file site (settled_row site s) (settled_row site s).lease msg.from msg.payload (file_after awake o file)) (sym whole)
          (subst (λ (state : FileState). Follows file site (settled_row site s) (settled_row site s).lease msg.from msg.payload (record { state = state; turned = step.turned }))
          (sym there)
          (subst (λ (f : FileId). Follows f site (settled_row site s) (settled_row site s).lease msg.from msg.payload step) (at_file awake osd.files file)
          (step_follows site s msg.from msg.payload)));
      others = λ other differ.
          ap (λ (o : OsdStep). file_at awake o.osd.files other) whole
          ∙ file_at-with_file awake osd.files step.state other
          ∙ put_there step.state (file_at awake osd.files other) file other is_its differ;
    }

-- ---- a Wake

-- asking for a lease reports no end
no_end : (g : LeaseSetting) (node : NodeId) (now : ℕ) (x : LeaseRow) (l : LeaseState) → listed (row_asks g node now x l).end ≡ []
no_end g node now x (free p) = refl
no_end g node now x (asking r) = refl
no_end g node now x (writing r) = refl
no_end g node now x (held h) = refl

abbrev pub woke_all : Outside → OsdState → ℕ → Awake → OsdStep
woke_all outside osd now awake =
    let step = woken (site_of outside awake now) osd.files in
    record { osd = record { started = osd.started; last = now; files = step.files }; turned = step.turned }

pub each_wakes : (site : Site) (s : FileState) → Wakes s.kept.file site (settled_row site s) (settled_row site s).lease (wake_step site s)
each_wakes site s =
    let first = expired site s in
    let q = expired_shows site s in
    wake_after s.kept.file site (settled_row site s) (settled_row site s).lease first (wake_of_file site) (record { outs = q.outs; ends = q.ends })
    (subst (λ file. Wakes file site (settled_row site s) (settled_row site s).lease (wake_of_file site first.state))
    (ap (λ (row : FileRow). row.file) (expired_keeps site s))
    (subst (λ (x : LeaseRow). Wakes first.state.kept.file site x x.lease (wake_of_file site first.state)) q.row (wake_wakes site first.state)))

-- what a step of each file gives
each_states : (step : FileState → FileStep) (files : List FileState) → (each_file step files).files ≡ map (λ s. (step s).state) files
unfolding each_file
each_states step [] = refl
each_states step (s ∷ ss) = ap (λ others. (step s).state ∷ others) (each_states step ss)

each_outs : (step : FileState → FileStep) (files : List FileState)
    → leases_and_asks (each_file step files).turned.outs ≡ flat_map (λ s. leases_and_asks (step s).turned.outs) files
unfolding each_file
each_outs step [] = refl
each_outs step (s ∷ ss) =
    filter-append is_lease_or_ask (step s).turned.outs (each_file step ss).turned.outs
    ∙ ap (λ ms. leases_and_asks (step s).turned.outs ++ ms) (each_outs step ss)

each_ends : (step : FileState → FileStep) (files : List FileState) → ((s : FileState) → held_ends (step s).turned.marks ≡ [])
    → held_ends (each_file step files).turned.marks ≡ []
unfolding each_file
each_ends step [] none = refl
each_ends step (s ∷ ss) none =
    filter_map-append held_end (step s).turned.marks (each_file step ss).turned.marks
    ∙ ap (λ ends. ends ++ held_ends (each_file step ss).turned.marks) (none s)
    ∙ each_ends step ss none

flat_none : (f : FileState → List Msg) (files : List FileState) → ((s : FileState) → f s ≡ []) → flat_map f files ≡ []
flat_none f [] none = refl
flat_none f (s ∷ ss) none = ap (λ ms. ms ++ flat_map f ss) (none s) ∙ flat_none f ss none

twice_mapped : (f g : FileState → FileState) (files : List FileState) → map g (map f files) ≡ map (λ s. g (f s)) files
twice_mapped f g [] = refl
twice_mapped f g (s ∷ ss) = ap (λ others. g (f s) ∷ others) (twice_mapped f g ss)

-- the rows after what is overdue give what both do, as that gives nothing
flat_mapped : (site : Site) (files : List FileState)
    → flat_map (λ s. leases_and_asks (wake_of_file site s).turned.outs) (map (λ s. (expired site s).state) files)
    ≡ flat_map (λ s. leases_and_asks (wake_step site s).turned.outs) files
flat_mapped site [] = refl
flat_mapped site (s ∷ ss) =
    let first = expired site s in
    let second = wake_of_file site first.state in
    ap (λ ms. leases_and_asks second.turned.outs ++ ms) (flat_mapped site ss)
    ∙ ap (λ ms. ms ++ flat_map (λ s. leases_and_asks (wake_step site s).turned.outs) ss)
    (sym (filter-append is_lease_or_ask first.turned.outs second.turned.outs ∙ ap (λ ms. ms ++ leases_and_asks second.turned.outs) (expired_shows site s).outs))

wake_ends : (site : Site) (s : FileState) → held_ends (wake_of_file site s).turned.marks ≡ []
wake_ends site s = of_wakes (wake_wakes site s)
  where
    of_wakes : Wakes s.kept.file site (lease_row_of s) s.lease (wake_of_file site s) → held_ends (wake_of_file site s).turned.marks ≡ []
    of_wakes (renewing is p) = p.ends ∙ no_end (lease_setting site s.kept.file (wake_of_file site s).state.kept.location) site.node site.now (lease_row_of s) s.lease
    of_wakes (resting p) = p.ends

pub woken_step : (outside : Outside) (osd : OsdState) (reading : ℕ) (awake : Awake) → awake_at osd.started (max reading osd.last) ≡ Some awake
    → step_of_osd outside osd reading event.Wake ≡ woke_all outside osd (max reading osd.last) awake
unfolding step_of_osd
woken_step outside osd reading awake is_awake = ap (λ a. handled_awake outside osd (max reading osd.last) event.Wake a) is_awake

pub wake_shows : (outside : Outside) (osd : OsdState) (reading : ℕ) (awake : Awake) → awake_at osd.started (max reading osd.last) ≡ Some awake
    → ShowsWake outside osd reading awake
wake_shows outside osd reading awake is_awake =
    let site = site_of outside awake (max reading osd.last) in
    let whole = woken_step outside osd reading awake is_awake in
    let settled = each_file (expired site) osd.files in
    let woke = each_file (wake_of_file site) settled.files in
    let files = each_states (expired site) osd.files in
    record {
      files =
          ap (λ (o : OsdStep). o.osd.files) whole
          ∙ each_states (wake_of_file site) settled.files
          ∙ ap (λ fs. map (λ s. (wake_of_file site s).state) fs) files
          ∙ twice_mapped (λ s. (expired site s).state) (λ s. (wake_of_file site s).state) osd.files;
      outs =
          ap (λ (o : OsdStep). leases_and_asks o.turned.outs) whole
          ∙ filter-append is_lease_or_ask settled.turned.outs woke.turned.outs
          ∙ ap (λ ms. ms ++ leases_and_asks woke.turned.outs)
          (each_outs (expired site) osd.files ∙ flat_none (λ s. leases_and_asks (expired site s).turned.outs) osd.files (λ s. (expired_shows site s).outs))
          ∙ each_outs (wake_of_file site) settled.files
          ∙ ap (λ fs. flat_map (λ s. leases_and_asks (wake_of_file site s).turned.outs) fs) files
          ∙ flat_mapped site osd.files;
      ends =
          ap (λ (o : OsdStep). held_ends o.turned.marks) whole
          ∙ filter_map-append held_end settled.turned.marks woke.turned.marks
          ∙ ap (λ ends. ends ++ held_ends woke.turned.marks) (each_ends (expired site) osd.files (λ s. (expired_shows site s).ends))
          ∙ each_ends (wake_of_file site) settled.files (wake_ends site);
    }
