-- what an event at an OSD is for one file: the file's step, or nothing
use Rattle.std.proofs.Common.{◌≡◌, inl, inr, List, [], ◌∷◌, map, refl, ap, sym, ◌∙◌, subst, Option, Some, None, Bool, true, false}
use Rattle.std.specs.Prelude.{◌⊎◌, ◌==◌, cond, max}
use Rattle.xt_base.specs.declared.ids.FileId.{FileId}
use Rattle.xt_messages.specs.declared.event.Event as NodeEvent
use Rattle.xt_messages.specs.declared.event.Event.TheVariants as event
use Rattle.xt_messages.specs.declared.event.Call.{Call}
use Rattle.xt_messages.specs.declared.event.Mark.{Mark}
use Rattle.xt_messages.specs.declared.file.Location.{Location}
use Rattle.xt_messages.specs.declared.message.Msg.{Msg}
use Rattle.xt_messages.specs.declared.record.FileRow.{FileRow}
use Rattle.xt_protocol.specs.FileIds.{is_file}
use Rattle.xt_protocol.proofs.Folds.{file-equal, file-itself}
use Rattle.xt_protocol.specs.declared.turned.Turned.{Turned}
use Rattle.xt_protocol.specs.LeaseRows.{Silent, Awake, awake_at, is_silent}
use Rattle.lease_safety.specs.State.{Has}
use Rattle.xt_protocol.specs.FileStates.{FileState, Site, FileStep}
use Rattle.xt_protocol.specs.FileSteps.{step_of_file, wake_of_file}
use Rattle.xt_protocol.specs.OsdSteps.{OsdState, OsdStep, file_at, each_file, woken, asks_dir, file_concerned, handled_awake, step_of_osd}
use Rattle.xt_protocol.specs.Overdue.{expired}
use Rattle.xt_protocol.specs.Turns.{quiet}
use Rattle.osd_invariants.specs.Sound.{IsHeld, IsStored}
use Rattle.lease_runs.specs.LeaseView.{settled_row}
use Rattle.lease_runs.specs.OsdView.{wake_step}
use Rattle.lease_runs.proofs.OsdLeases.{at_file, handled, woken_step, woke_all, wake_shows}
use Rattle.lease_runs.proofs.ActSteps.{step_marks, wake_step_kept, woken_quiet}
use Rattle.world_spec.specs.NodeSteps.{entry_of, outside_of}
use Rattle.world_spec.specs.declared.PlacedFile.{PlacedFile}
use Rattle.world_spec.specs.World.{Node, Running, file_in}
use Rattle.world_runs.specs.View.{awake_as}
use Rattle.world_runs.specs.Worlds.{Listed, FileFits, Rises, files_of}
use Rattle.world_runs.proofs.Files.{at_fits, held_busy, unbusy}
use Rattle.world_runs.proofs.Lists.{has_in, has_left, has_right}
use Rattle.world_runs.proofs.Woken.{AtMap, found_at, found_nowhere, at_map, one_state}
use Rattle.world_safety.specs.Seen.{file_seen, IsNotOf}
use Rattle.world_safety.specs.Events.{IsAwake, site_at, step_at}
use Rattle.world_safety.proofs.Events.{is_whole, other_stays, not_its}
use Rattle.world_safety.proofs.Nodes.{same_number}
use Rattle.world_safety.proofs.Senders.{one_of, message_from, wake_from}
use Rattle.world_safety.proofs.Shown.{SaysNothing, none_says, others_say}

-- ---- steps that come to nothing

-- an OSD is silent, or awake
pub awake_or_not : (node : Node) (r : Running) (s : OsdState) → (awake_at s.started (max r.clock s.last) ≡ None) ⊎ IsAwake r s
awake_or_not node r s = at (is_silent s.started (max r.clock s.last))
  where
    at : (b : Bool) → (cond b None (Some (awake_as s.started)) ≡ None) ⊎ (cond b None (Some (awake_as s.started)) ≡ Some (awake_as s.started))
    at true = inl refl
    at false = inr refl

silent_step : (node : Node) (r : Running) (s : OsdState) (happens : NodeEvent.Event) → awake_at s.started (max r.clock s.last) ≡ None → step_at node r s happens ≡ record { osd = s; turned = quiet }
unfolding step_of_osd
silent_step node r s happens silent = ap (λ (a : Option Awake). handled_awake (outside_of node.kept) s (max r.clock s.last) happens a) silent

abbrev idle_step : Running → OsdState → OsdStep
idle_step r s = record { osd = record { started = s.started; last = max r.clock s.last; files = s.files }; turned = quiet }

unconcerned_step : (node : Node) (r : Running) (s : OsdState) (msg : Msg) → IsAwake r s → file_concerned msg.payload ≡ None → step_at node r s (event.Deliver msg) ≡ idle_step r s
unfolding step_of_osd
unconcerned_step node r s msg awake none =
    ap (λ (a : Option Awake). handled_awake (outside_of node.kept) s (max r.clock s.last) (event.Deliver msg) a) awake
    ∙ ap (λ (o : Option FileId). handled (outside_of node.kept) s (max r.clock s.last) (awake_as s.started) msg o) none

called_step : (node : Node) (r : Running) (s : OsdState) (call : Call) → IsAwake r s → step_at node r s (event.Call call) ≡ idle_step r s
unfolding step_of_osd
called_step node r s call awake = ap (λ (a : Option Awake). handled_awake (outside_of node.kept) s (max r.clock s.last) (event.Call call) a) awake

-- ---- what a step is for a file

-- it leaves the file, keeps nothing of it, sends nothing about it, and marks nothing that says anything of it
pub record Leaves (file : FileId) (node : Node) (s : OsdState) (step : OsdStep) : Type 0 where
  pub state : file_seen file step.osd ≡ file_seen file s
  pub rec : IsNotOf file step.turned.rec
  pub outs : (m : Msg) → Has m step.turned.outs → file_concerned m.payload ≡ Some file → ⊥
  pub marks : SaysNothing file.number (map (entry_of node.id) step.turned.marks)

-- A step leaves the file; or it is the file's, on a message or a Wake.
pub data AtFile (file : FileId) (node : Node) (r : Running) (s : OsdState) : NodeEvent.Event → Type 0 where
  left : (happens : NodeEvent.Event) → Leaves file node s (step_at node r s happens) → AtFile file node r s happens
  messaged : (msg : Msg) → IsAwake r s → file_concerned msg.payload ≡ Some file → AtFile file node r s (event.Deliver msg)
  woken_up : IsAwake r s → Has (file_seen file s) s.files → AtFile file node r s event.Wake

nothing_comes : (file : FileId) (node : Node) (r : Running) (s : OsdState) (happens : NodeEvent.Event) (o : OsdStep) → step_at node r s happens ≡ o → file_seen file o.osd ≡ file_seen file s → o.turned ≡ quiet
    → AtFile file node r s happens
nothing_comes file node r s happens o is same none =
    left happens (subst (Leaves file node s) (sym is) (record {
      state = same;
      rec = subst (λ (t : Turned). IsNotOf file t.rec) (sym none) tt;
      outs = λ m h about. subst (λ (t : Turned). Has m t.outs) none h;
      marks = subst (λ (t : Turned). SaysNothing file.number (map (entry_of node.id) t.marks)) (sym none) (none_says file.number);
    }))

-- ---- a message about another file

-- where a file of this number is known, it is this one
abbrev pub KnownAs : List PlacedFile → FileId → Type 0
KnownAs files file = (k : PlacedFile) → file_in files file.number ≡ Some k → k.file ≡ file

-- its marks say nothing of this file: a file whose lease is held has its list, which is that of a known one
of_other : (files : List PlacedFile) (file : FileId) (site : Site) (f : FileState) → KnownAs files file → is_file f.kept.file file ≡ false → FileFits files f → IsHeld (settled_row site f).lease → (f.kept.file.number == file.number) ≡ false
of_other files file site f known differ fits is = at (f.kept.file.number == file.number) refl
  where
    its : f.kept.file.number ≡ file.number → (o : Option Location) → IsStored o → Listed files f.kept.file o → f.kept.file ≡ file
    its same None stored listed = absurd stored
    its same (Some location) stored listed = known (record { file = f.kept.file; location = location }) (sym (ap (file_in files) same) ∙ listed)

    at : (b : Bool) → (f.kept.file.number == file.number) ≡ b → (f.kept.file.number == file.number) ≡ false
    at false is_not = is_not
    at true same =
        let e = its (same_number f.kept.file.number file.number same) f.kept.location (fits.stored (unbusy f.lease site.now (held_busy (settled_row site f).lease is))) fits.listed in
        absurd (let itself : is_file f.kept.file file ≡ true = ap (λ (k : FileId). is_file k file) e ∙ file-itself file in cc (itself, differ))

some_file : (a b : FileId) → Some a ≡ Some b → a ≡ b
some_file a b is = cc

other_message : (files : List PlacedFile) (file : FileId) (node : Node) (r : Running) (s : OsdState) (msg : Msg) (other : FileId) → KnownAs files file → IsAwake r s → file_concerned msg.payload ≡ Some other
    → is_file other file ≡ false → ((f : FileState) → Has f s.files → FileFits files f) → Leaves file node s (step_at node r s (event.Deliver msg))
other_message files file node r s msg other known awake concerns differ each =
    record {
      state = other_stays other node r s msg awake concerns file differ;
      rec = not_its other node r s msg awake concerns file differ;
      outs = λ m h about.
          let from = one_of site.node f.kept.file step.turned.outs m (message_from site f msg.from msg.payload) (subst (λ (o : OsdStep). Has m o.turned.outs) whole h) in
          let same : other ≡ file = some_file other file (ap (λ (k : FileId). Some k) (sym its) ∙ (sym from.1 ∙ about)) in
          clash (ap (λ (k : FileId). is_file k file) same ∙ file-itself file);
      marks = subst (λ (o : OsdStep). SaysNothing file.number (map (entry_of node.id) o.turned.marks)) (sym whole)
          (others_say file.number node.id f.kept.file (settled_row site f).lease step.turned.marks
          (of_other files file site f known (ap (λ (k : FileId). is_file k file) its ∙ differ) (at_fits files (awake_as s.started) s.files other each)) (step_marks site f msg.from msg.payload));
    }
  where
    site : Site
    site = site_at node r s

    f : FileState
    f = file_seen other s

    step : FileStep
    step = step_of_file site f msg.from msg.payload

    whole : step_at node r s (event.Deliver msg) ≡ handled (outside_of node.kept) s (max r.clock s.last) (awake_as s.started) msg (Some other)
    whole = is_whole other node r s msg awake concerns

    its : f.kept.file ≡ other
    its = at_file (awake_as s.started) s.files other

    clash : is_file other file ≡ true → ⊥
    clash same = cc (same, differ)

-- ---- a Wake

-- a message of a step of each file is of the step of one
each_out : (step : FileState → FileStep) (files : List FileState) (m : Msg) → Has m (each_file step files).turned.outs → (f : FileState) × Has f files × Has m (step f).turned.outs
unfolding each_file
each_out step [] m h = absurd h
each_out step (f ∷ fs) m h =
    elim (has_in m (step f).turned.outs (each_file step fs).turned.outs h) as (λ w. (g : FileState) × Has g (f ∷ fs) × Has m (step g).turned.outs) [
      | inl mine ↦ (f, inl refl, mine)
      | inr later ↦ (let rest = each_out step fs m later in (rest.0, inr rest.1, rest.2))
    ]

each_state : (step : FileState → FileStep) (files : List FileState) (g : FileState) → Has g (each_file step files).files → (f : FileState) × Has f files × (g ≡ (step f).state)
unfolding each_file
each_state step [] g h = absurd h
each_state step (f ∷ fs) g (inl e) = (f, inl refl, e)
each_state step (f ∷ fs) g (inr h) = (let rest = each_state step fs g h in (rest.0, inr rest.1, rest.2))

-- one of a Wake asks the DIR, or is of the Wake of one file
woken_out : (site : Site) (files : List FileState) (m : Msg) → Has m (woken site files).turned.outs → (m ≡ asks_dir site.node) ⊎ ((f : FileState) × Has f files × Has m (wake_step site f).turned.outs)
woken_out site files m (inl e) = inl e
woken_out site files m (inr h) =
    let settled = each_file (expired site) files in
    let woke = each_file (wake_of_file site) settled.files in
    elim (has_in m settled.turned.outs woke.turned.outs h) as (λ w. (m ≡ asks_dir site.node) ⊎ ((f : FileState) × Has f files × Has m (wake_step site f).turned.outs)) [
      | inl early ↦ (let one = each_out (expired site) files m early in
          inr (one.0, one.1, has_left m (expired site one.0).turned.outs (wake_of_file site (expired site one.0).state).turned.outs one.2))
      | inr late ↦ (let one = each_out (wake_of_file site) settled.files m late in
          let from = each_state (expired site) files one.0 one.1 in
          inr (
            from.0,
            from.1,
            has_right m (expired site from.0).turned.outs (wake_of_file site (expired site from.0).state).turned.outs
                (subst (λ (g : FileState). Has m (wake_of_file site g).turned.outs) from.2 one.2),
          ))
    ]

-- a message of a Wake about a file is of the Wake of the file, which was met
pub woken_about : (file : FileId) (node : Node) (r : Running) (s : OsdState) (m : Msg) → IsAwake r s → Rises (files_of s.files) → Has m (step_at node r s event.Wake).turned.outs → file_concerned m.payload ≡ Some file
    → Has (file_seen file s) s.files × Has m (wake_step (site_at node r s) (file_seen file s)).turned.outs
woken_about file node r s m awake rises h about =
    at (woken_out site s.files m (subst (λ (o : OsdStep). Has m o.turned.outs) (woken_step (outside_of node.kept) s r.clock (awake_as s.started) awake) h))
  where
    site : Site
    site = site_at node r s

    at : (m ≡ asks_dir site.node) ⊎ ((f : FileState) × Has f s.files × Has m (wake_step site f).turned.outs) → Has (file_seen file s) s.files × Has m (wake_step site (file_seen file s)).turned.outs
    at (inl dir) = absurd (let none : None ≡ Some file = ap (λ (k : Msg). file_concerned k.payload) (sym dir) ∙ about in cc (none))
    at (inr one) =
        let from = one_of site.node one.0.kept.file (wake_step site one.0).turned.outs m (wake_from site one.0) one.2 in
        let same = some_file one.0.kept.file file (sym from.1 ∙ about) in
        let is = one_state (awake_as s.started) s.files file one.0 rises one.1 (ap (λ (k : FileId). is_file k file) same ∙ file-itself file) in
        (subst (λ (f : FileState). Has f s.files) is one.1, subst (λ (f : FileState). Has m (wake_step site f).turned.outs) is one.2)

wake_at : (file : FileId) (node : Node) (r : Running) (s : OsdState) → IsAwake r s → Rises (files_of s.files) → AtFile file node r s event.Wake
wake_at file node r s awake rises = at (at_map (λ (x : FileState). (wake_step site x).state) (awake_as s.started) s.files file (λ x. ap (λ (row : FileRow). row.file) (wake_step_kept site x)))
  where
    site : Site
    site = site_at node r s

    whole : OsdStep
    whole = step_at node r s event.Wake

    is_woken : whole ≡ woke_all (outside_of node.kept) s (max r.clock s.last) (awake_as s.started)
    is_woken = woken_step (outside_of node.kept) s r.clock (awake_as s.started) awake

    itself : is_file (file_seen file s).kept.file file ≡ true
    itself = ap (λ (k : FileId). is_file k file) (at_file (awake_as s.started) s.files file) ∙ file-itself file

    at : AtMap (λ (x : FileState). (wake_step site x).state) (awake_as s.started) s.files file → AtFile file node r s event.Wake
    at (found_at has is) = woken_up awake has
    at (found_nowhere nowhere is) = left event.Wake (record {
      state =
          ap (λ (t : Silent). file_at (awake_as t) whole.osd.files file) (ap (λ (o : OsdStep). o.osd.started) is_woken)
          ∙ (ap (λ (fs : List FileState). file_at (awake_as s.started) fs file) (wake_shows (outside_of node.kept) s r.clock (awake_as s.started) awake).files ∙ is);
      rec = subst (IsNotOf file) (sym (ap (λ (o : OsdStep). o.turned.rec) is_woken ∙ (woken_quiet site s.files).1)) tt;
      outs = λ m h about.
          let met = (woken_about file node r s m awake rises h about).0 in
          let differs = nowhere (file_seen file s) met in
          cc (differs, itself);
      marks = subst (λ (ms : List Mark). SaysNothing file.number (map (entry_of node.id) ms)) (sym (ap (λ (o : OsdStep). o.turned.marks) is_woken ∙ (woken_quiet site s.files).0)) (none_says file.number);
    })

-- ---- any event

pub at_file_of : (files : List PlacedFile) (file : FileId) (node : Node) (r : Running) (s : OsdState) (happens : NodeEvent.Event) → KnownAs files file → ((f : FileState) → Has f s.files → FileFits files f) → Rises (files_of s.files)
    → AtFile file node r s happens
at_file_of files file node r s happens known each rises = by_silence (awake_or_not node r s)
  where
    by_file : (msg : Msg) (other : FileId) → IsAwake r s → file_concerned msg.payload ≡ Some other → (b : Bool) → is_file other file ≡ b → AtFile file node r s (event.Deliver msg)
    by_file msg other awake concerns true same = messaged msg awake (concerns ∙ ap (λ (k : FileId). Some k) (file-equal other file same))
    by_file msg other awake concerns false differ = left (event.Deliver msg) (other_message files file node r s msg other known awake concerns differ each)

    by_message : (msg : Msg) (o : Option FileId) → IsAwake r s → file_concerned msg.payload ≡ o → AtFile file node r s (event.Deliver msg)
    by_message msg None awake concerns = nothing_comes file node r s (event.Deliver msg) (idle_step r s) (unconcerned_step node r s msg awake concerns) refl refl
    by_message msg (Some other) awake concerns = by_file msg other awake concerns (is_file other file) refl

    by_event : (e : NodeEvent.Event) → IsAwake r s → AtFile file node r s e
    by_event (event.Deliver msg) awake = by_message msg (file_concerned msg.payload) awake refl
    by_event event.Wake awake = wake_at file node r s awake rises
    by_event (event.Call call) awake = nothing_comes file node r s (event.Call call) (idle_step r s) (called_step node r s call awake) refl refl

    by_silence : (awake_at s.started (max r.clock s.last) ≡ None) ⊎ IsAwake r s → AtFile file node r s happens
    by_silence (inl silent) = nothing_comes file node r s happens (record { osd = s; turned = quiet }) (silent_step node r s happens silent) refl refl
    by_silence (inr awake) = by_event happens awake
