-- what an event at a running OSD is in the lease world of each file
use Rattle.std.proofs.Common.{◌≡◌, ℕ, ◌+◌, ◌≤◌, inl, inr, List, [], ◌∷◌, ◌++◌, map, refl, arith, ap, sym, ◌∙◌, subst, Option, Some, None, Bool, true, false}
use Rattle.std.specs.Prelude.{◌||◌, cond, max, is_some}
use Rattle.std.proofs.lemmas.List.{append-nil}
use Rattle.std.proofs.lemmas.Bool.Decides.{nat_tests}
use Rattle.xt_base.specs.TimeSettings.{TimeSettings}
use Rattle.xt_base.specs.declared.ids.NodeId.{NodeId}
use Rattle.xt_base.specs.declared.ids.FileId.{FileId}
use Rattle.xt_messages.specs.declared.file.Location.{Location}
use Rattle.xt_messages.specs.declared.message.Msg.{Msg}
use Rattle.xt_messages.specs.declared.message.Payload.{Payload}
use Rattle.xt_messages.specs.declared.message.Payload.TheVariants as payload
use Rattle.xt_messages.specs.declared.record.Record.{Record}
use Rattle.xt_messages.specs.declared.record.FileRow.{FileRow}
use Rattle.xt_messages.specs.declared.event.Event.{Event}
use Rattle.xt_messages.specs.declared.event.Event.TheVariants as event
use Rattle.xt_messages.specs.declared.event.Mark.{Mark}
use Rattle.xt_protocol.specs.FileIds.{is_file}
use Rattle.xt_protocol.specs.Folds.{fold_of, row_in}
use Rattle.xt_protocol.proofs.Folds.{file-equal, file-itself}
use Rattle.xt_protocol.specs.LeaseRows.{Silent, Awake, awake_at, is_silent, LeaseState, lease_expired}
use Rattle.lease_safety.specs.State.{Has}
use Rattle.lease_safety.proofs.Lists.{put-same}
use Rattle.lease_runs.specs.LeaseWorld.{LeaseSetting, LeaseRow, RowStep, row_handles, row_asks, row_expires, expired_row, LeaseNode, LeaseWorld, node_handling, node_asking, node_stepped, row_stepped, told_now, lease_expires, node_asks, message_comes, IsAwake, IsReached, moves, HasTurn, IsHolding, lease_file}
use Rattle.lease_runs.proofs.Outs.{handles_of, asks_of}
use Rattle.lease_runs.proofs.Seen as seen_steps
use Rattle.lease_runs.proofs.Worlds.{turn_holds}
use Rattle.xt_protocol.specs.Turns.{quiet}
use Rattle.xt_protocol.specs.FileStates.{FileState, Site, FileStep}
use Rattle.xt_protocol.specs.FileSteps.{step_of_file}
use Rattle.xt_protocol.specs.OsdSteps.{OsdState, OsdStep, Outside, step_of_osd, handled_awake, file_at, with_file, file_concerned}
use Rattle.osd_invariants.specs.Sound.{IsHeld, IsStored}
use Rattle.lease_runs.specs.LeaseView.{lease_row_of, lease_setting, is_about, is_ask, is_lease_or_ask, leases_and_asks, held_ends, settled_row, ShowsRow, stays_so, Follows, handles, asks, stays, Wakes, renewing, resting}
use Rattle.lease_runs.specs.OsdView.{site_of, wake_step, ShowsWake}
use Rattle.lease_runs.specs.ActsView.{RecordIs, IsBusy, MarksAre, no_marks, won, acting}
use Rattle.lease_runs.proofs.LeaseSteps as lease_steps
use Rattle.lease_runs.proofs.OsdLeases as osd_leases
use Rattle.lease_runs.proofs.ActSteps as act_steps
use Rattle.world_spec.specs.declared.PlacedFile.{PlacedFile}
use Rattle.time_line.specs.TimeLine.{RunningBoot, standing, holds, times_of}
use Rattle.world_spec.specs.declared.Role.TheVariants as role
use Rattle.world_spec.specs.World.{World, Node, Running, osd, node_in, file_in, known}
use Rattle.world_spec.specs.NodeSteps.{entry_of, one_more, outside_of}
use Rattle.world_runs.specs.View.{file_setting, told, awake_as, core_seen, node_seen, messages, is_of, lease_view}
use Rattle.world_runs.proofs.Lists.{filter_has, has_map}
use Rattle.world_runs.proofs.Frame.{AreMembers, Good, seen_osd}
use Rattle.world_runs.proofs.Files.{step_agrees, unbusy, held_busy, busy_known, RecordFits, at_fits, step_fits, wake_fits, step_record, same_boot}
use Rattle.world_runs.proofs.Rising.{with_file_has, with_file_rises}
use Rattle.world_runs.proofs.Woken.{AtMap, found_at, found_nowhere, at_map, one_state, mapped_files, flat_has}
use Rattle.world_runs.proofs.Standings.{AreInert}
use Rattle.world_runs.proofs.Marks.{none_told, MarksFit, inert, wins, acts, told_as, told_of_other, expired_turn, holds_true}
use Rattle.osd_invariants.proofs.Kept as kept_steps
use Rattle.world_runs.specs.Worlds.{Agrees, Rises, files_of, IsKnown, Listed, PayloadFits, FileFits, OsdFits}

-- ---- messages of a step

-- a message about a file's lease is one of the step of the lease
about_lease : (file : FileId) (m : Msg) → is_of file m ≡ true → is_lease_or_ask m ≡ true
about_lease file m is = at (lease_file m.payload) is
  where
    at : (o : Option FileId) → is_about file o ≡ true → (is_some o || is_ask m.payload) ≡ true
    at None is = absurd (cc)
    at (Some f) is = refl

about_same : (file f : FileId) (m : Msg) → is_of file m ≡ true → lease_file m.payload ≡ Some f → f ≡ file
about_same file f m is of_file = file-equal f file (sym (ap (is_about file) of_file) ∙ is)

pub outs_shown : (step : FileStep) (st : RowStep) (file : FileId) (m : Msg) → ShowsRow step st → Has m step.turned.outs → is_of file m ≡ true → Has m st.outs
outs_shown step st file m shows h is = subst (Has m) shows.outs (filter_has is_lease_or_ask m step.turned.outs h (about_lease file m is))

-- a message about a lease concerns its file
lease_concerns : (p : Payload) (f : FileId) → lease_file p ≡ Some f → file_concerned p ≡ Some f
lease_concerns (payload.Read file ballot) f is = is
lease_concerns (payload.Promise file ballot boot report) f is = is
lease_concerns (payload.Write file ballot boot l) f is = is
lease_concerns (payload.Accepted file ballot boot) f is = is
lease_concerns (payload.Outrun file ballot seen) f is = is
lease_concerns _ f is = absurd (cc)

-- a message that isn't about a lease leaves its row
unhandled : (g : LeaseSetting) (n : NodeId) (now : ℕ) (x : LeaseRow) (from : NodeId) (p : Payload) → lease_file p ≡ None → row_handles g n now x from p ≡ record { row = x; outs = []; end = None }
unhandled g n now x from (payload.Read file ballot) none = absurd (cc)
unhandled g n now x from (payload.Promise file ballot boot report) none = absurd (cc)
unhandled g n now x from (payload.Write file ballot boot l) none = absurd (cc)
unhandled g n now x from (payload.Accepted file ballot boot) none = absurd (cc)
unhandled g n now x from (payload.Outrun file ballot seen) none = absurd (cc)
unhandled g n now x from _ none = refl

-- what a message does to a file's lease is about that file
follows_of : (file : FileId) (site : Site) (x : LeaseRow) (l : LeaseState) (from : NodeId) (content : Payload) (step : FileStep) → Follows file site x l from content step
    → (st : RowStep) × ShowsRow step st × ((m : Msg) → Has m st.outs → lease_file m.payload ≡ Some file)
follows_of file site x l from content step (handles p) =
    let g = lease_setting site file step.state.kept.location in (row_handles g site.node site.now x from content, p, handles_of g site.node site.now x from content)
follows_of file site x l from content step (asks is stored p) =
    let g = lease_setting site file step.state.kept.location in (row_asks g site.node site.now x l, p, asks_of g site.node site.now x l)
follows_of file site x l from content step (stays p) = (stays_so x, p, λ m h. absurd h)

wakes_of : (file : FileId) (site : Site) (x : LeaseRow) (l : LeaseState) (step : FileStep) → Wakes file site x l step
    → (st : RowStep) × ShowsRow step st × ((m : Msg) → Has m st.outs → lease_file m.payload ≡ Some file)
wakes_of file site x l step (renewing is p) =
    let g = lease_setting site file step.state.kept.location in (row_asks g site.node site.now x l, p, asks_of g site.node site.now x l)
wakes_of file site x l step (resting p) = (stays_so x, p, λ m h. absurd h)

-- ---- an event

-- what must hold of an OSD's step in general: its state, its record and its marks
pub record StepFits (w : World) (node : Node) (r : Running) (s : OsdState) (o : OsdStep) : Type 0 where
  pub started : o.osd.started ≡ s.started
  pub fits : OsdFits w.times (known w) node.id r.boot r.clock o.osd
  pub rec : (rec : Record) → o.turned.rec ≡ Some rec → RecordFits (known w) rec × ((fold_of (node.kept ++ rec ∷ [])).boot ≡ (fold_of node.kept).boot)
  pub marks : MarksFit node.id w.entries o.turned.marks
  pub kept : Agrees (one_more node.kept o.turned.rec) o.osd

-- and what it is in the lease world of a file
pub record Shows (g : LeaseSetting) (w : World) (was : List Msg) (node : Node) (s : OsdState) (o : OsdStep) : Type 0 where
  pub step : RowStep
  pub reached : IsReached g (row_stepped (lease_view g w was) node.id step)
  pub row : lease_row_of (file_at (awake_as s.started) o.osd.files g.file) ≡ step.row
  pub outs : (m : Msg) → Has m o.turned.outs → is_of g.file m ≡ true → Has m step.outs
  pub told : told g.file.number node.id.0 (w.entries ++ map (entry_of node.id) o.turned.marks) ≡ told_now step.end (told g.file.number node.id.0 w.entries)

-- how the node stands in the trace
pub record Stood (w : World) (node : Node) (r : Running) (number : ℕ) : Type 0 where
  pub at : RunningBoot
  pub stands : standing node.id number w.entries ≡ Some at
  pub clock : at.clock ≡ r.clock

-- what is said of a message that comes to a node
abbrev pub Comes : World → List Msg → NodeId → Event → Type 0
Comes w was node (event.Deliver msg) = (msg.to ≡ node) × Has msg (was ++ messages w) × PayloadFits (known w) msg.payload
Comes w was node event.Wake = Unit {0}
Comes w was node (event.Call call) = Unit {0}

-- what must hold of an event at an OSD
pub record EventAt (w : World) (was : List Msg) (node : Node) (r : Running) (s : OsdState) (o : OsdStep) : Type 0 where
  pub shows : (file : FileId) (members : List NodeId) → AreMembers (known w) file members → Shows (file_setting w.times file members) w was node s o
  pub all_fits : StepFits w node r s o

no_rec : {rec : Record} {P : Type 0} → None ≡ Some rec → P
no_rec is = absurd (cc)

module _ (w : World) (was : List Msg) (node : Node) (r : Running) (s : OsdState) (found : node_in w.nodes node.id.0 ≡ Some node) (is_up : node.up ≡ Some r) (is_osd : r.core ≡ osd s) (its_role : node.role ≡ role.Osd)
    (fits : OsdFits w.times (known w) node.id r.boot r.clock s) (agrees : Agrees node.kept s) (good : Good w was) (stood : (number : ℕ) → Stood w node r number) (times : times_of w.entries ≡ w.times) where
  abbrev now : ℕ
  now = max r.clock s.last

  abbrev awake : Awake
  awake = awake_as s.started

  abbrev outside : Outside
  outside = outside_of node.kept

  abbrev site : Site
  site = site_of outside awake now

  now_is : now ≡ r.clock
  now_is = (let below = fits.last in grind (arith, below))

  node_is : s.started.node ≡ node.id
  node_is = ap (λ (t : Silent). t.node) fits.started

  abbrev seen : FileId → List NodeId → LeaseNode
  seen file members = core_seen (file_setting w.times file members) node.id.0 (told file.number node.id.0 w.entries) node.kept r (osd s)

  seen_is : (file : FileId) (members : List NodeId) → (lease_view (file_setting w.times file members) w was).node node.id.0 ≡ seen file members
  seen_is file members =
      let g = file_setting w.times file members in
      let end = told file.number node.id.0 w.entries in
      ap (node_seen g node.id.0 end) found ∙ (seen_osd g node.id.0 end node r its_role is_up ∙ ap (core_seen g node.id.0 end node.kept r) is_osd)

  -- a step that leaves the lease as it is
  untouched : (file : FileId) (members : List NodeId) → AreMembers (known w) file members → (o : OsdStep)
      → lease_row_of (file_at awake o.osd.files file) ≡ lease_row_of (file_at awake s.files file)
      → ((m : Msg) → Has m o.turned.outs → is_of file m ≡ true → ⊥)
      → told file.number node.id.0 (w.entries ++ map (entry_of node.id) o.turned.marks) ≡ told file.number node.id.0 w.entries
      → Shows (file_setting w.times file members) w was node s o
  untouched file members are o row outs quiet_told =
      let g = file_setting w.times file members in
      let view = lease_view g w was in
      record {
        step = seen_steps.no_step (view.node node.id.0);
        reached = seen_steps.no_step_reached g view node.id (good file members are);
        row = row ∙ sym (ap (λ (x : LeaseNode). x.row) (seen_is file members));
        outs = λ m h is. absurd (outs m h is);
        told = quiet_told;
      }

  -- what is overdue expires
  expiring : (file : FileId) (members : List NodeId) → AreMembers (known w) file members
      → (let x = seen file members in IsReached (file_setting w.times file members) (row_stepped (lease_view (file_setting w.times file members) w was) node.id (row_expires x.clock x.row)))
  expiring file members are =
      let g = file_setting w.times file members in
      let view = lease_view g w was in
      subst (λ (x : LeaseNode). IsReached g (row_stepped view node.id (row_expires x.clock x.row))) (seen_is file members)
      (moves view (lease_expires node.id) (good file members are) (ap (λ (x : LeaseNode). x.runs) (seen_is file members)))

  -- a round, or a renewal, is begun
  asking_reached : (file : FileId) (members : List NodeId) → AreMembers (known w) file members
      → IsReached (file_setting w.times file members) (row_stepped (lease_view (file_setting w.times file members) w was) node.id (node_asking (file_setting w.times file members) node.id (seen file members)))
  asking_reached file members are =
      let g = file_setting w.times file members in
      let view = lease_view g w was in
      subst (λ (x : LeaseNode). IsReached g (row_stepped view node.id (node_asking g node.id x))) (seen_is file members)
      (moves view (node_asks node.id) (good file members are) (ap (λ (x : LeaseNode). x.runs) (seen_is file members)))

  -- the members of the stored list
  asking_is : (file : FileId) (members : List NodeId) → AreMembers (known w) file members → (location : Option Location) → IsStored location → Listed (known w) file location
      → (let x = expired_row now (lease_row_of (file_at awake s.files file)) in
      row_asks (lease_setting site file location) site.node now x x.lease ≡ node_asking (file_setting w.times file members) node.id (seen file members))
  asking_is file members are None stored is_listed = absurd stored
  asking_is file members are (Some location) stored is_listed =
      let row = lease_row_of (file_at awake s.files file) in
      ap (λ (ms : List NodeId). let x = expired_row now row in row_asks (file_setting w.times file ms) s.started.node now x x.lease) (are (record { file = file; location = location }) is_listed).1
      ∙ ap (λ (n : NodeId). let x = expired_row now row in row_asks (file_setting w.times file members) n now x x.lease) node_is
      ∙ ap (λ (t : ℕ). let x = expired_row t row in row_asks (file_setting w.times file members) node.id t x x.lease) now_is

  -- a file with a round or a lease is known
  known_busy : (file : FileId) → IsBusy (file_at awake s.files file).lease → (location : Location) × IsKnown (known w) file location
  known_busy file busy =
      subst (λ (f : FileId). (location : Location) × IsKnown (known w) f location) (osd_leases.at_file awake s.files file)
      (busy_known (known w) (file_at awake s.files file) (at_fits (known w) awake s.files file fits.fits) busy)

  -- and so its members are those of its list
  known_members : (file : FileId) (location : Location) → IsKnown (known w) file location → AreMembers (known w) file location.members
  known_members file location is k found =
      let both : Some (let f : PlacedFile = record { file = file; location = location } in f) ≡ Some k = sym is ∙ found in
      let same_place : (let f : PlacedFile = record { file = file; location = location } in f) ≡ k = cc in
      (sym (ap (λ (f : PlacedFile). f.file) same_place), sym (ap (λ (f : PlacedFile). f.location.members) same_place))

  -- a lease that is held once what is overdue has expired is held by the trace
  pub lease_holds : (file : FileId) → IsHeld (lease_expired (file_at awake s.files file).lease r.clock) → holds w.entries node.id file.number ≡ true
  lease_holds file is = holds_true g w.entries node.id y (stood file.number).at (ap (λ (t : TimeSettings). t.drift) times) (stood file.number).stands (stood file.number).clock refl (subst (IsHolding g) there_is holding)
    where
      its : (location : Location) × IsKnown (known w) file location
      its = known_busy file (unbusy (file_at awake s.files file).lease r.clock (held_busy (lease_expired (file_at awake s.files file).lease r.clock) is))

      members : List NodeId
      members = its.0.members

      g : LeaseSetting
      g = file_setting w.times file members

      x : LeaseNode
      x = seen file members

      view : LeaseWorld
      view = lease_view g w was

      st : RowStep
      st = row_expires x.clock x.row

      y : LeaseNode
      y = node_stepped x st

      over : LeaseWorld
      over = row_stepped view node.id st

      there_is : over.node node.id.0 ≡ y
      there_is = put-same view.node node.id.0 node.id.0 (node_stepped (view.node node.id.0) st) refl ∙ ap (λ (z : LeaseNode). node_stepped z st) (seen_is file members)

      turn : HasTurn y y.row.lease
      turn = expired_turn y (file_at awake s.files file).lease r.clock refl refl is

      holding : IsHolding g (over.node node.id.0)
      holding = turn_holds g over node.id.0 (expiring file members (known_members file its.0 its.1)) (subst (λ (z : LeaseNode). HasTurn z z.row.lease) (sym there_is) turn)

  -- ---- silence

  pub silent : (file : FileId) (members : List NodeId) → AreMembers (known w) file members → Shows (file_setting w.times file members) w was node s (record { osd = s; turned = quiet })
  silent file members are =
      untouched file members are (record { osd = s; turned = quiet }) refl (λ m h is. h) (ap (told file.number node.id.0) (append-nil w.entries))

  pub silent_fits : StepFits w node r s (record { osd = s; turned = quiet })
  silent_fits = record { started = refl; fits = fits; rec = λ rec is. no_rec is; marks = inert tt; kept = agrees }

  -- the clock alone
  pub later_fits : OsdFits w.times (known w) node.id r.boot r.clock (record { started = s.started; last = now; files = s.files })
  later_fits = record { started = fits.started; last = (let is = now_is in omega (arith, is)); fits = fits.fits; rises = fits.rises }

  pub unconcerned : (file : FileId) (members : List NodeId) → AreMembers (known w) file members → Shows (file_setting w.times file members) w was node s (record { osd = record { started = s.started; last = now; files = s.files }; turned = quiet })
  unconcerned file members are =
      untouched file members are (record { osd = record { started = s.started; last = now; files = s.files }; turned = quiet }) refl (λ m h is. h) (ap (told file.number node.id.0) (append-nil w.entries))

  pub unconcerned_fits : StepFits w node r s (record { osd = record { started = s.started; last = now; files = s.files }; turned = quiet })
  unconcerned_fits = record { started = refl; fits = later_fits; rec = λ rec is. no_rec is; marks = inert tt; kept = agrees }

  -- ---- a Wake

  module _ (is_awake : awake_at s.started now ≡ Some awake) where
    abbrev woke : OsdStep
    woke = step_of_osd outside s r.clock event.Wake

    abbrev woke_of : FileState → FileStep
    woke_of f = wake_step site f

    shown_woken : ShowsWake outside s r.clock awake
    shown_woken = osd_leases.wake_shows outside s r.clock awake is_awake

    woke_file : (f : FileState) → (woke_of f).state.kept.file ≡ f.kept.file
    woke_file f = ap (λ (row : FileRow). row.file) (act_steps.wake_step_kept site f)

    whole_wake : woke ≡ osd_leases.woke_all outside s now awake
    whole_wake = osd_leases.woken_step outside s r.clock awake is_awake

    no_woke_marks : woke.turned.marks ≡ []
    no_woke_marks = ap (λ (o : OsdStep). o.turned.marks) whole_wake ∙ (act_steps.woken_quiet site s.files).0

    no_woke_rec : woke.turned.rec ≡ None
    no_woke_rec = ap (λ (o : OsdStep). o.turned.rec) whole_wake ∙ (act_steps.woken_quiet site s.files).1

    woke_of_file : (f : FileState) → Wakes f.kept.file site (settled_row site f) (settled_row site f).lease (woke_of f)
    woke_of_file f = osd_leases.each_wakes site f

    -- what is sent about leases comes of a file's step
    woke_sends : (m : Msg) → Has m woke.turned.outs → is_lease_or_ask m ≡ true → (f : FileState) × Has f s.files × Has m (leases_and_asks (woke_of f).turned.outs) × (lease_file m.payload ≡ Some f.kept.file)
    woke_sends m h is =
        let found = flat_has (λ (f : FileState). leases_and_asks (woke_of f).turned.outs) s.files m (subst (Has m) shown_woken.outs (filter_has is_lease_or_ask m woke.turned.outs h is)) in
        let f = found.0 in
        let shown = wakes_of f.kept.file site (settled_row site f) (settled_row site f).lease (woke_of f) (woke_of_file f) in
        (f, found.1, found.2, shown.2 m (subst (Has m) shown.1.outs found.2))

    woke_told : (k : ℕ) → told k node.id.0 (w.entries ++ map (entry_of node.id) woke.turned.marks) ≡ told k node.id.0 w.entries
    woke_told k = ap (λ (ms : List Mark). told k node.id.0 (w.entries ++ map (entry_of node.id) ms)) no_woke_marks ∙ ap (told k node.id.0) (append-nil w.entries)

    pub wake_shows : (file : FileId) (members : List NodeId) → AreMembers (known w) file members → Shows (file_setting w.times file members) w was node s woke
    wake_shows file members are = by_place (at_map (λ (f : FileState). (woke_of f).state) awake s.files file woke_file)
      where
        g : LeaseSetting
        g = file_setting w.times file members

        f : FileState
        f = file_at awake s.files file

        x : LeaseNode
        x = seen file members

        f_fits : FileFits (known w) f
        f_fits = at_fits (known w) awake s.files file fits.fits

        is_its : f.kept.file ≡ file
        is_its = osd_leases.at_file awake s.files file

        shown : (st : RowStep) → IsReached g (row_stepped (lease_view g w was) node.id st) → file_at awake (map (λ (f : FileState). (woke_of f).state) s.files) file ≡ (woke_of f).state → ShowsRow (woke_of f) st → Shows g w was node s woke
        shown st reached is p =
            record {
              step = st;
              reached = reached;
              row = ap (λ (fs : List FileState). lease_row_of (file_at awake fs file)) shown_woken.files ∙ ap lease_row_of is ∙ p.row;
              outs = λ m h about.
                  let sent = woke_sends m h (about_lease file m about) in
                  let same_file = about_same file sent.0.kept.file m about sent.3 in
                  let same_state = one_state awake s.files file sent.0 fits.rises sent.1 (ap (λ (a : FileId). is_file a file) same_file ∙ file-itself file) in
                  subst (Has m) p.outs (subst (λ (f : FileState). Has m (leases_and_asks (woke_of f).turned.outs)) same_state sent.2);
              told = woke_told file.number ∙ sym (none_told st.end (told file.number node.id.0 w.entries) (sym p.ends ∙ ap held_ends (act_steps.wake_step_marks site f)));
            }

        in_place : Wakes f.kept.file site (settled_row site f) (settled_row site f).lease (woke_of f) → file_at awake (map (λ (f : FileState). (woke_of f).state) s.files) file ≡ (woke_of f).state → Shows g w was node s woke
        in_place (renewing held_is p) is =
            let stored = f_fits.stored (unbusy f.lease now (held_busy (settled_row site f).lease held_is)) in
            let location_is = ap (λ (row : FileRow). row.location) (act_steps.wake_step_kept site f) in
            let its = subst (λ (a : FileId). ShowsRow (woke_of f) (row_asks (lease_setting site a (woke_of f).state.kept.location) site.node now (settled_row site f) (settled_row site f).lease)) is_its p in
            let stored_is = subst (λ (l : Option Location). ShowsRow (woke_of f) (row_asks (lease_setting site file l) site.node now (settled_row site f) (settled_row site f).lease)) location_is its in
            shown (node_asking g node.id x) (asking_reached file members are) is
            (subst (ShowsRow (woke_of f)) (asking_is file members are f.kept.location stored (subst (λ (a : FileId). Listed (known w) a f.kept.location) is_its f_fits.listed)) stored_is)
        in_place (resting p) is = shown (row_expires x.clock x.row) (expiring file members are) is (subst (λ (t : ℕ). ShowsRow (woke_of f) (stays_so (expired_row t (lease_row_of f)))) now_is p)

        by_place : AtMap (λ (f : FileState). (woke_of f).state) awake s.files file → Shows g w was node s woke
        by_place (found_at has is) = in_place (woke_of_file f) is
        by_place (found_nowhere none is) =
            untouched file members are woke (ap (λ (fs : List FileState). lease_row_of (file_at awake fs file)) shown_woken.files ∙ ap lease_row_of is)
            (λ m h about.
            let sent = woke_sends m h (about_lease file m about) in
            let same_file = about_same file sent.0.kept.file m about sent.3 in
            (let here : is_file sent.0.kept.file file ≡ true = ap (λ (a : FileId). is_file a file) same_file ∙ file-itself file in let nowhere = none sent.0 sent.1 in cc (here, nowhere)))
            (woke_told file.number)

    woke_agrees : Agrees (one_more node.kept woke.turned.rec) woke.osd
    woke_agrees file =
        ap (λ (t : Silent). (file_at (awake_as t) woke.osd.files file).kept) (ap (λ (o : OsdStep). o.osd.started) whole_wake)
        ∙ (ap (λ (fs : List FileState). (file_at awake fs file).kept) shown_woken.files
        ∙ (by_place (at_map (λ (f : FileState). (woke_of f).state) awake s.files file woke_file)
        ∙ (agrees file ∙ ap (λ (rec : Option Record). row_in (fold_of (one_more node.kept rec)).files file) (sym no_woke_rec))))
      where
        by_place : AtMap (λ (f : FileState). (woke_of f).state) awake s.files file → (file_at awake (map (λ (f : FileState). (woke_of f).state) s.files) file).kept ≡ (file_at awake s.files file).kept
        by_place (found_at has is) = ap (λ (f : FileState). f.kept) is ∙ act_steps.wake_step_kept site (file_at awake s.files file)
        by_place (found_nowhere none is) = ap (λ (f : FileState). f.kept) is

    pub wake_fits_all : StepFits w node r s woke
    wake_fits_all =
        record {
          started = ap (λ (o : OsdStep). o.osd.started) whole_wake;
          fits =
              record {
                started = ap (λ (o : OsdStep). o.osd.started) whole_wake ∙ fits.started ∙ ap (λ (t : Silent). let u : Silent = record { node = node.id; boot = r.boot; times = w.times; start = t.start } in u) (sym (ap (λ (o : OsdStep). o.osd.started) whole_wake));
                last = subst (λ (n : ℕ). n ≤ r.clock) (sym (ap (λ (o : OsdStep). o.osd.last) whole_wake)) later_fits.last;
                fits = λ f h.
                    let from = has_map (λ (f : FileState). (woke_of f).state) s.files f (subst (Has f) shown_woken.files h) in
                    subst (FileFits (known w)) (sym from.2) (wake_fits (known w) site from.0 (fits.fits from.0 from.1));
                rises = subst (λ (fs : List FileState). Rises (files_of fs)) (sym shown_woken.files) (subst Rises (sym (mapped_files (λ (f : FileState). (woke_of f).state) s.files woke_file)) fits.rises);
              };
          rec = λ rec is. no_rec (sym no_woke_rec ∙ is);
          marks = inert (subst AreInert (sym no_woke_marks) tt);
          kept = woke_agrees;
        }

  -- ---- a message

  module _ (msg : Msg) (mine : msg.to ≡ node.id) (came : Has msg (was ++ messages w)) (wakes : s.started.start + (w.times.lease + w.times.drift) ≤ r.clock) (asked : PayloadFits (known w) msg.payload) where
    abbrev at_file : FileId → FileState
    at_file file = file_at awake s.files file

    abbrev file_step : FileId → FileStep
    file_step file = step_of_file site (at_file file) msg.from msg.payload

    abbrev stepped : FileId → OsdStep
    stepped file = osd_leases.handled outside s now awake msg (Some file)

    of_file : (file : FileId) → (at_file file).kept.file ≡ file
    of_file file = osd_leases.at_file awake s.files file

    -- the state of the file after it
    there : (file : FileId) → file_at awake (with_file s.files (file_step file).state) file ≡ (file_step file).state
    there file =
        osd_leases.file_at-with_file awake s.files (file_step file).state file
        ∙ osd_leases.put_here (file_step file).state (at_file file) file (osd_leases.step_keeps site (at_file file) msg.from msg.payload ∙ of_file file)

    elsewhere : (file other : FileId) → is_file file other ≡ false → file_at awake (with_file s.files (file_step file).state) other ≡ file_at awake s.files other
    elsewhere file other differ =
        osd_leases.file_at-with_file awake s.files (file_step file).state other
        ∙ osd_leases.put_there (file_step file).state (file_at awake s.files other) file other (osd_leases.step_keeps site (at_file file) msg.from msg.payload ∙ of_file file) differ

    follows : (file : FileId) → Follows file site (settled_row site (at_file file)) (settled_row site (at_file file)).lease msg.from msg.payload (file_step file)
    follows file =
        subst (λ (f : FileId). Follows f site (settled_row site (at_file file)) (settled_row site (at_file file)).lease msg.from msg.payload (file_step file)) (of_file file)
        (lease_steps.step_follows site (at_file file) msg.from msg.payload)

    marks_are : (file : FileId) → MarksAre file (settled_row site (at_file file)).lease (file_step file).turned.marks
    marks_are file =
        subst (λ (f : FileId). MarksAre f (settled_row site (at_file file)).lease (file_step file).turned.marks) (of_file file) (act_steps.step_marks site (at_file file) msg.from msg.payload)

    file_fits : (file : FileId) → FileFits (known w) (at_file file)
    file_fits file = at_fits (known w) awake s.files file fits.fits

    -- the file concerned: its own lease world
    handled_here : (file : FileId) (members : List NodeId) → AreMembers (known w) file members → file_concerned msg.payload ≡ Some file → Shows (file_setting w.times file members) w was node s (stepped file)
    handled_here file members are concerns = by_case (follows file)
      where
        g : LeaseSetting
        g = file_setting w.times file members

        view : LeaseWorld
        view = lease_view g w was

        x : LeaseNode
        x = seen file members

        step : FileStep
        step = file_step file

        row_of : (st : RowStep) → ShowsRow step st → lease_row_of (file_at awake (with_file s.files step.state) file) ≡ st.row
        row_of st p = ap lease_row_of (there file) ∙ p.row

        told_of : (st : RowStep) → ShowsRow step st → told file.number node.id.0 (w.entries ++ map (entry_of node.id) step.turned.marks) ≡ told_now st.end (told file.number node.id.0 w.entries)
        told_of st p = told_as file.number node.id w.entries (stood file.number).at file (settled_row site (at_file file)).lease step.turned.marks st.end refl (stood file.number).stands (marks_are file) p.ends

        shown : (st : RowStep) → IsReached g (row_stepped view node.id st) → ShowsRow step st → Shows g w was node s (stepped file)
        shown st reached p =
            record { step = st; reached = reached; row = row_of st p; outs = λ m h is. outs_shown step st file m p h is; told = told_of st p }

        -- handled as a message about the lease
        handling_is : (location : Option Location) → row_handles (lease_setting site file location) site.node now (settled_row site (at_file file)) msg.from msg.payload ≡ node_handling g x msg
        handling_is location =
            let row = lease_row_of (at_file file) in
            ap (λ (n : NodeId). row_handles g n now (expired_row now row) msg.from msg.payload) (node_is ∙ sym mine)
            ∙ ap (λ (t : ℕ). row_handles g msg.to t (expired_row t row) msg.from msg.payload) now_is

        seen_there : view.node msg.to.0 ≡ x
        seen_there = ap (λ (n : NodeId). view.node n.0) mine ∙ seen_is file members

        by_handling : is_of file msg ≡ true → IsReached g (row_stepped view node.id (node_handling g x msg))
        by_handling is =
            subst (λ (n : NodeId). IsReached g (row_stepped view n (node_handling g x msg))) mine
            (subst (λ (y : LeaseNode). IsReached g (row_stepped view msg.to (node_handling g y msg))) seen_there
            (moves view (message_comes msg) (good file members are)
            (filter_has (is_of file) msg (was ++ messages w) came is, subst (IsAwake g) (sym seen_there) (record { runs = refl; awake = wakes }))))

        -- it is about this file's lease, or about none
        by_lease : (o : Option FileId) → lease_file msg.payload ≡ o → ShowsRow step (node_handling g x msg) → Shows g w was node s (stepped file)
        by_lease (Some f) is p =
            let same_file : Some f ≡ Some file = sym (lease_concerns msg.payload f is) ∙ concerns in
            shown (node_handling g x msg) (by_handling (ap (is_about file) (is ∙ same_file) ∙ file-itself file)) p
        by_lease None is p = shown (row_expires x.clock x.row) (expiring file members are) (subst (ShowsRow step) (unhandled g msg.to x.clock (expired_row x.clock x.row) msg.from msg.payload is) p)

        kept_listed : Listed (known w) file step.state.kept.location
        kept_listed =
            subst (λ (f : FileId). Listed (known w) f step.state.kept.location) (osd_leases.step_keeps site (at_file file) msg.from msg.payload ∙ of_file file)
            (step_fits (known w) site (at_file file) msg.from msg.payload asked (concerns ∙ ap (λ f. Some f) (sym (of_file file))) (file_fits file)).listed

        by_case : Follows file site (settled_row site (at_file file)) (settled_row site (at_file file)).lease msg.from msg.payload step → Shows g w was node s (stepped file)
        by_case (handles p) = by_lease (lease_file msg.payload) refl (subst (ShowsRow step) (handling_is step.state.kept.location) p)
        by_case (asks is is_stored p) =
            shown (node_asking g node.id x) (asking_reached file members are)
            (subst (ShowsRow step) (asking_is file members are step.state.kept.location is_stored kept_listed) p)
        by_case (stays p) = shown (row_expires x.clock x.row) (expiring file members are) (subst (λ (t : ℕ). ShowsRow step (stays_so (expired_row t (lease_row_of (at_file file))))) now_is p)

    -- another file: its lease stays
    handled_there : (other : FileId) (members : List NodeId) → AreMembers (known w) other members → (file : FileId) → is_file file other ≡ false → Shows (file_setting w.times other members) w was node s (stepped file)
    handled_there other members are file differ =
        untouched other members are (stepped file) (ap lease_row_of (elsewhere file other differ))
        (λ m h is.
        let shown = follows_of file site (settled_row site (at_file file)) (settled_row site (at_file file)).lease msg.from msg.payload (file_step file) (follows file) in
        let is_its = shown.2 m (outs_shown (file_step file) shown.0 other m shown.1 h is) in
        not_other file other differ (about_same other file m is is_its))
        (told_of_other other.number node.id.0 node.id w.entries file (settled_row site (at_file file)).lease (file_step file).turned.marks
        (λ busy same_number. not_other file other differ (same_known busy same_number)) (marks_are file))
      where
        not_other : (a b : FileId) → is_file a b ≡ false → a ≡ b → ⊥
        not_other a b differ same_file = (let here : is_file a b ≡ true = ap (λ (f : FileId). is_file f b) same_file ∙ file-itself b in cc (here, differ))

        -- a file with a round or a lease is known, and it alone has its number
        same_known : IsBusy (settled_row site (at_file file)).lease → file.number ≡ other.number → file ≡ other
        same_known busy same_number =
            let its = known_busy file (unbusy (at_file file).lease now busy) in
            (are (record { file = file; location = its.0 }) (ap (file_in (known w)) (sym same_number) ∙ its.1)).0

    pub message_shows : (other : FileId) (members : List NodeId) → AreMembers (known w) other members → (file : FileId) → file_concerned msg.payload ≡ Some file → Shows (file_setting w.times other members) w was node s (stepped file)
    message_shows other members are file concerns = at (is_file file other) refl
      where
        at : (b : Bool) → is_file file other ≡ b → Shows (file_setting w.times other members) w was node s (stepped file)
        at true is =
            let same_file = file-equal file other is in
            subst (λ (f : FileId). file_concerned msg.payload ≡ Some f → Shows (file_setting w.times other members) w was node s (stepped f)) (sym same_file)
            (handled_here other members are) concerns
        at false differ = handled_there other members are file differ

    -- the marks of the step
    acting_holds : (file : FileId) → IsHeld (settled_row site (at_file file)).lease → holds w.entries node.id file.number ≡ true
    acting_holds file is = lease_holds file (subst (λ (t : ℕ). IsHeld (lease_expired (at_file file).lease t)) now_is is)

    pub message_fits : (file : FileId) → file_concerned msg.payload ≡ Some file → StepFits w node r s (stepped file)
    message_fits file concerns =
        let step = file_step file in
        let shown = follows_of file site (settled_row site (at_file file)) (settled_row site (at_file file)).lease msg.from msg.payload step (follows file) in
        let concerned = concerns ∙ ap (λ f. Some f) (sym (of_file file)) in
        record {
          started = refl;
          fits =
              record {
                started = fits.started;
                last = later_fits.last;
                fits = λ f h. elim (with_file_has s.files step.state f h) [
                  | inl e ↦ subst (FileFits (known w)) (sym e) (step_fits (known w) site (at_file file) msg.from msg.payload asked concerned (file_fits file))
                  | inr old ↦ fits.fits f old
                ];
                rises = with_file_rises s.files step.state fits.rises;
              };
          rec = λ rec is. (
            step_record (known w) site (at_file file) msg.from msg.payload rec asked (λ ask. concerned) is,
            same_boot (at_file file).kept.file msg.payload rec node.kept (subst (RecordIs (at_file file).kept.file msg.payload) is (act_steps.step_rec site (at_file file) msg.from msg.payload)),
          );
          marks = by_marks (marks_are file);
          kept =
              step_agrees node.kept s file msg.payload step.state step.turned.rec agrees
              (subst (λ (f : FileId). RecordIs f msg.payload step.turned.rec) (of_file file) (act_steps.step_rec site (at_file file) msg.from msg.payload))
              (kept_steps.step_follows site (at_file file) msg.from msg.payload);
        }
      where
        by_marks : MarksAre file (settled_row site (at_file file)).lease (file_step file).turned.marks → MarksFit node.id w.entries (file_step file).turned.marks
        by_marks (no_marks none) = inert (subst AreInert (sym none) tt)
        by_marks (won end busy is) = wins file.number end is
        by_marks (acting is are_acts) = acts file.number are_acts (acting_holds file is)

  -- ---- any event

  abbrev later : OsdStep
  later = record { osd = record { started = s.started; last = now; files = s.files }; turned = quiet }

  at_later : EventAt w was node r s later
  at_later = record { shows = unconcerned; all_fits = unconcerned_fits }

  awake_after : is_silent s.started now ≡ false → s.started.start + (w.times.lease + w.times.drift) ≤ r.clock
  awake_after is = (let lease_is = ap (λ (t : Silent). t.times.lease) fits.started in let drift_is = ap (λ (t : Silent). t.times.drift) fits.started in let clock_is = now_is in grind (arith, nat_tests))

  by_message : (msg : Msg) (o : Option FileId) → file_concerned msg.payload ≡ o → Comes w was node.id (event.Deliver msg) → is_silent s.started now ≡ false
      → EventAt w was node r s (osd_leases.handled outside s now awake msg o)
  by_message msg None concerns comes loud = at_later
  by_message msg (Some file) concerns comes loud =
      record {
        shows = λ other ms are_ms. message_shows msg comes.0 comes.1 (awake_after loud) comes.2 other ms are_ms file concerns;
        all_fits = message_fits msg comes.0 comes.1 (awake_after loud) comes.2 file concerns;
      }

  whole : (happens : Event) (a : Option Awake) → awake_at s.started now ≡ a → step_of_osd outside s r.clock happens ≡ handled_awake outside s now happens a
  unfolding step_of_osd
  whole happens a is = ap (λ (a : Option Awake). handled_awake outside s now happens a) is

  -- An event at a running OSD.
  pub event_at : (happens : Event) → Comes w was node.id happens → EventAt w was node r s (step_of_osd outside s r.clock happens)
  event_at happens comes = by_silence (is_silent s.started now) refl
    where
      awake_is : (b : Bool) → is_silent s.started now ≡ b → awake_at s.started now ≡ cond b None (Some awake)
      awake_is b is = ap (λ (b : Bool). cond b None (Some awake)) is

      by_event : (e : Event) → Comes w was node.id e → is_silent s.started now ≡ false → awake_at s.started now ≡ Some awake → EventAt w was node r s (step_of_osd outside s r.clock e)
      by_event (event.Deliver msg) comes loud is = subst (EventAt w was node r s) (sym (whole (event.Deliver msg) (Some awake) is)) (by_message msg (file_concerned msg.payload) refl comes loud)
      by_event event.Wake comes loud is = record { shows = wake_shows is; all_fits = wake_fits_all is }
      by_event (event.Call call) comes loud is = subst (EventAt w was node r s) (sym (whole (event.Call call) (Some awake) is)) at_later

      by_silence : (b : Bool) → is_silent s.started now ≡ b → EventAt w was node r s (step_of_osd outside s r.clock happens)
      by_silence true is = subst (EventAt w was node r s) (sym (whole happens None (awake_is true is))) (record { shows = silent; all_fits = silent_fits })
      by_silence false is = by_event happens comes is (awake_is false is)
