-- what the nodes of a file do where a node of the world steps, stops or starts
use Rattle.std.proofs.Common.{◌≡◌, ◌≢◌, ℕ, inl, inr, List, [], ◌∷◌, ◌++◌, map, refl, ap, sym, ◌∙◌, subst, Option, Some, None, Bool, true, false}
use Rattle.std.specs.Prelude.{cond, max, ◌⊎◌}
use Rattle.xt_base.specs.TimeSettings.{TimeSettings}
use Rattle.xt_base.specs.declared.ids.Boot.{Boot}
use Rattle.xt_base.specs.declared.ids.FileId.{FileId}
use Rattle.xt_messages.specs.declared.event.Event.{Event}
use Rattle.xt_messages.specs.declared.event.Event.TheVariants as event
use Rattle.xt_messages.specs.declared.message.Msg.{Msg}
use Rattle.xt_messages.specs.declared.message.Payload.{Payload}
use Rattle.xt_messages.specs.declared.record.Record.{Record}
use Rattle.xt_messages.specs.declared.record.Record.TheVariants as kept
use Rattle.xt_messages.specs.declared.record.FileRow.{FileRow}
use Rattle.xt_protocol.specs.FileIds.{is_file}
use Rattle.xt_protocol.specs.Folds.{fold_of, row_in}
use Rattle.xt_protocol.proofs.Folds.{file-itself}
use Rattle.lease_safety.specs.State.{Has}
use Rattle.xt_protocol.specs.LeaseRows.{Silent, Awake, awake_at}
use Rattle.xt_protocol.specs.declared.turned.Turned.{Turned}
use Rattle.time_line.specs.declared.entry.Halt.{Halt}
use Rattle.replica_safety.specs.Epochs.{at_node}
use Rattle.xt_protocol.specs.FileStates.{FileState, Site, FileStep, file_from}
use Rattle.xt_protocol.specs.FileSteps.{step_of_file}
use Rattle.xt_protocol.specs.OsdSteps.{OsdState, OsdStep, file_at, file_concerned, handled_awake, step_of_osd}
use Rattle.lease_runs.specs.ActsView.{RecordIs}
use Rattle.lease_runs.specs.OsdView.{wake_step}
use Rattle.lease_runs.proofs.OsdLeases.{file_at-with_file, at_file, step_keeps, message_step, put_here, put_there, woken_step, wake_shows, handled, woke_all}
use Rattle.lease_runs.proofs.ActSteps.{step_rec, wake_step_rec, wake_step_kept, woken_quiet}
use Rattle.file_runs.specs.FileRuns.{FileNode, FileWorld, Happening, wake, goes_on, stops_kept, stops_lost, acts, starts, after, acted, keeping}
use Rattle.world_spec.specs.declared.Role.{Role}
use Rattle.world_spec.specs.declared.Role.TheVariants as role
use Rattle.world_spec.specs.World.{World, Node, Running, osd, node_in, loads, puts}
use Rattle.world_spec.specs.NodeSteps.{outside_of, after_turn, halted, one_more, one_put}
use Rattle.world_spec.specs.Lines.{starts_as, next_boot, core_starting, runs}
use Rattle.world_runs.specs.View.{awake_as}
use Rattle.world_runs.proofs.Woken.{AtMap, found_at, found_nowhere, at_map}
use Rattle.world_safety.specs.Seen.{file_seen, core_state, up_state, kept_seen, node_seen, nodes_seen, Sees, IsOf, IsElsewhere, IsNotOf}
use Rattle.world_safety.specs.Events.{RunsAs, IsAwake, site_at, step_at, stepped, ShowsMessage, ShowsOthers}
use Rattle.world_safety.proofs.Records.{keeps_other}
use Rattle.world_safety.proofs.Nodes.{put, put_seen, at_node-same, here, own, other, lost}

-- ---- whose record it is

of_file : (file : FileId) (content : Payload) (rec : Option Record) → RecordIs file content rec → IsOf file rec
of_file file content None is = tt
of_file file content (Some (kept.Promise f epoch)) is = ap (λ k. Some k) is
of_file file content (Some (kept.Update f update)) is = ap (λ k. Some k) is
of_file file content (Some (kept.Stage f object version bytes)) is = ap (λ k. Some k) is
of_file file content (Some (kept.Head f head)) is = ap (λ k. Some k) is
of_file file content (Some (kept.View f location)) is = ap (λ k. Some k) is.0
of_file file content (Some _) is = absurd is

not_of : (file k : FileId) (rec : Option Record) → IsOf file rec → is_file file k ≡ false → IsNotOf k rec
not_of file k None is differ = tt
not_of file k (Some rec) is differ = subst (IsElsewhere k) (sym is) differ

none_of : (file : FileId) (rec : Option Record) → rec ≡ None → IsNotOf file rec
none_of file rec is = subst (IsNotOf file) (sym is) tt

none_is_of : (file : FileId) (rec : Option Record) → rec ≡ None → IsOf file rec
none_is_of file rec is = subst (IsOf file) (sym is) tt

-- ---- one node

module _ (file : FileId) (w : World) (node : Node) (r : Running) (s : OsdState) (v : FileWorld) (its : RunsAs w node r s) (sees : Sees file w v) where
  state_is : up_state file node.up ≡ Some (file_seen file s)
  state_is = ap (up_state file) its.up ∙ ap (core_state file) its.core

  -- it takes the file's step
  took : (next : OsdState) (turned : Turned) (step : FileStep) → file_seen file next ≡ step.state → turned.rec ≡ step.turned.rec → IsOf file step.turned.rec
      → Sees file (after_turn w node (record r { core = osd next }) turned) (acted v node.id.0 step goes_on)
  took next turned step is rec of =
      let n = node.id.0 in
      let up : Option Running = Some (record r { core = osd next }) in
      subst (λ (k : Option Record). at_node n (keeping (v.nodes n) (Some step.state) step.turned.rec) v.nodes ≡ nodes_seen file (put w (record node { kept = one_more node.kept k; past = one_put node.past k; up = up })))
      (sym rec) (own file w node its.found v sees up (Some step.state) step.turned.rec (ap (λ (x : FileState). Some x) is) of)

  -- it stops, and its record is kept
  kept_it : (q : Running) (how : Halt) (rec : Record) (step : FileStep) → step.turned.rec ≡ Some rec → IsOf file step.turned.rec
      → Sees file (halted w (record node { kept = node.kept ++ rec ∷ []; past = node.past ++ puts rec ∷ [] }) q how) (acted v node.id.0 step stops_kept)
  kept_it q how rec step is of =
      let n = node.id.0 in
      subst (λ (k : Option Record). at_node n (keeping (v.nodes n) None step.turned.rec) v.nodes ≡ nodes_seen file (put w (record node { kept = one_more node.kept k; past = one_put node.past k; up = None })))
      is (own file w node its.found v sees None None step.turned.rec refl of)

  -- it leaves the file
  pub rested : (next : OsdState) (turned : Turned) → file_seen file next ≡ file_seen file s → IsNotOf file turned.rec
      → Sees file (after_turn w node (record r { core = osd next }) turned) v
  rested next turned is away = other file w node its.found v sees (Some (record r { core = osd next })) turned.rec (ap (λ (x : FileState). Some x) is ∙ sym state_is) away

-- ---- messages

module _ (file : FileId) (node : Node) (r : Running) (s : OsdState) (msg : Msg) (awake : IsAwake r s) (concerns : file_concerned msg.payload ≡ Some file) where
  abbrev before : FileState
  before = file_seen file s

  abbrev step : FileStep
  step = step_of_file (site_at node r s) before msg.from msg.payload

  abbrev whole : OsdStep
  whole = step_at node r s (event.Deliver msg)

  pub is_whole : whole ≡ handled (outside_of node.kept) s (max r.clock s.last) (awake_as s.started) msg (Some file)
  is_whole = message_step (outside_of node.kept) s r.clock msg file (awake_as s.started) awake concerns

  its_file : step.state.kept.file ≡ file
  its_file = step_keeps (site_at node r s) before msg.from msg.payload ∙ at_file (awake_as s.started) s.files file

  same_start : whole.osd.started ≡ s.started
  same_start = ap (λ (o : OsdStep). o.osd.started) is_whole

  leaves : (k : FileId) → file_seen k whole.osd ≡ cond (is_file step.state.kept.file k) step.state (file_seen k s)
  leaves k = ap (λ (o : OsdStep). file_seen k o.osd) is_whole ∙ file_at-with_file (awake_as s.started) s.files step.state k

  pub same_rec : whole.turned.rec ≡ step.turned.rec
  same_rec = ap (λ (o : OsdStep). o.turned.rec) is_whole

  rec_of : IsOf file step.turned.rec
  rec_of = of_file file msg.payload step.turned.rec (subst (λ (f : FileId). RecordIs f msg.payload step.turned.rec) (at_file (awake_as s.started) s.files file) (step_rec (site_at node r s) before msg.from msg.payload))

  message_taken : (w : World) (v : FileWorld) → RunsAs w node r s → Sees file w v → ShowsMessage file w node r s msg v
  message_taken w v its sees =
      let is_state = leaves file ∙ put_here step.state before file its_file in
      record {
        takes = λ outs. took file w node r s v its sees whole.osd (record whole.turned { outs = outs }) step is_state same_rec rec_of;
        keeps = λ rec how is. kept_it file w node r s v its sees (record r { core = osd whole.osd }) how rec step (sym same_rec ∙ is) rec_of;
      }

  -- of another file
  pub other_stays : (k : FileId) → is_file file k ≡ false → file_seen k whole.osd ≡ file_seen k s
  other_stays k differ = leaves k ∙ put_there step.state (file_seen k s) file k its_file differ

  pub not_its : (k : FileId) → is_file file k ≡ false → IsNotOf k whole.turned.rec
  not_its k differ = subst (IsNotOf k) (sym same_rec) (not_of file k step.turned.rec rec_of differ)

  others_rest : (k : FileId) (w : World) (v : FileWorld) → is_file file k ≡ false → RunsAs w node r s → Sees k w v → ShowsOthers k w node r s msg v
  others_rest k w v differ its sees =
      record {
        rests = λ outs. rested k w node r s v its sees whole.osd (record whole.turned { outs = outs }) (other_stays k differ) (not_its k differ);
        stops = λ rec how x site happens is. lost k w node its.found v sees (Some rec) (subst (IsNotOf k) is (not_its k differ));
      }

pub messages_show : (file : FileId) (w : World) (node : Node) (r : Running) (s : OsdState) (msg : Msg) (v : FileWorld) → RunsAs w node r s → IsAwake r s
    → file_concerned msg.payload ≡ Some file → Sees file w v → ShowsMessage file w node r s msg v
messages_show file w node r s msg v its awake concerns sees = message_taken file node r s msg awake concerns w v its sees

-- what the OSD has of the file after the message
pub message_leaves : (file : FileId) (node : Node) (r : Running) (s : OsdState) (msg : Msg) (awake : IsAwake r s) (concerns : file_concerned msg.payload ≡ Some file)
    → file_seen file (step_at node r s (event.Deliver msg)).osd ≡ (step_of_file (site_at node r s) (file_seen file s) msg.from msg.payload).state
message_leaves file node r s msg awake concerns =
    leaves file node r s msg awake concerns file
    ∙ put_here (step_of_file (site_at node r s) (file_seen file s) msg.from msg.payload).state (file_seen file s) file (its_file file node r s msg awake concerns)

pub others_show : (file k : FileId) (w : World) (node : Node) (r : Running) (s : OsdState) (msg : Msg) (v : FileWorld) → RunsAs w node r s → IsAwake r s
    → file_concerned msg.payload ≡ Some file → is_file file k ≡ false → Sees k w v → ShowsOthers k w node r s msg v
others_show file k w node r s msg v its awake concerns differ sees = others_rest file node r s msg awake concerns k w v differ its sees

-- ---- silence

pub silent_rest : (file : FileId) (w : World) (node : Node) (r : Running) (s : OsdState) (happens : Event) (outs : List Msg) (v : FileWorld) → RunsAs w node r s
    → awake_at s.started (max r.clock s.last) ≡ None → Sees file w v → Sees file (stepped w node r s happens outs) v
unfolding step_of_osd
silent_rest file w node r s happens outs v its silent sees =
    let step = step_at node r s happens in
    let is = ap (λ (a : Option Awake). handled_awake (outside_of node.kept) s (max r.clock s.last) happens a) silent in
    rested file w node r s v its sees step.osd (record step.turned { outs = outs }) (ap (λ (o : OsdStep). file_seen file o.osd) is) (none_of file step.turned.rec (ap (λ (o : OsdStep). o.turned.rec) is))

-- ---- stops

pub stops_show : (file : FileId) (w : World) (node : Node) (r : Running) (how : Halt) (x : FileState) (site : Site) (happens : Happening) (v : FileWorld)
    → node_in w.nodes node.id.0 ≡ Some node → Sees file w v → Sees file (halted w node r how) (after v (acts node.id.0 x site happens stops_lost))
stops_show file w node r how x site happens v found sees = lost file w node found v sees None tt

-- ---- a Wake

pub wakes_show : (file : FileId) (w : World) (node : Node) (r : Running) (s : OsdState) (outs : List Msg) (v : FileWorld) → RunsAs w node r s → IsAwake r s → Sees file w v
    → Sees file (stepped w node r s event.Wake outs) (after v (acts node.id.0 (file_seen file s) (site_at node r s) wake goes_on))
    ⊎ Sees file (stepped w node r s event.Wake outs) v
wakes_show file w node r s outs v its awake sees = at (at_map (λ (x : FileState). (wake_step site x).state) (awake_as s.started) s.files file (λ x. ap (λ (row : FileRow). row.file) (wake_step_kept site x)))
  where
    site : Site
    site = site_at node r s

    whole : OsdStep
    whole = step_at node r s event.Wake

    is_whole : whole ≡ woke_all (outside_of node.kept) s (max r.clock s.last) (awake_as s.started)
    is_whole = woken_step (outside_of node.kept) s r.clock (awake_as s.started) awake

    none : whole.turned.rec ≡ None
    none = ap (λ (o : OsdStep). o.turned.rec) is_whole ∙ (woken_quiet site s.files).1

    same_start : whole.osd.started ≡ s.started
    same_start = ap (λ (o : OsdStep). o.osd.started) is_whole

    files_are : file_seen file whole.osd ≡ file_at (awake_as s.started) (map (λ (x : FileState). (wake_step site x).state) s.files) file
    files_are =
        ap (λ (t : Silent). file_at (awake_as t) whole.osd.files file) same_start
        ∙ ap (λ (fs : List FileState). file_at (awake_as s.started) fs file) (wake_shows (outside_of node.kept) s r.clock (awake_as s.started) awake).files

    at : AtMap (λ (x : FileState). (wake_step site x).state) (awake_as s.started) s.files file
        → Sees file (stepped w node r s event.Wake outs) (after v (acts node.id.0 (file_seen file s) (site_at node r s) wake goes_on)) ⊎ Sees file (stepped w node r s event.Wake outs) v
    at (found_at has is) =
        inl (took file w node r s v its sees whole.osd (record whole.turned { outs = outs }) (wake_step site (file_seen file s)) (files_are ∙ is)
        (none ∙ sym (wake_step_rec site (file_seen file s))) (none_is_of file (wake_step site (file_seen file s)).turned.rec (wake_step_rec site (file_seen file s))))
    at (found_nowhere nowhere is) =
        inr (rested file w node r s v its sees whole.osd (record whole.turned { outs = outs }) (files_are ∙ is) (none_of file whole.turned.rec none))

-- a Wake of an OSD that has met the file
pub wake_leaves : (file : FileId) (node : Node) (r : Running) (s : OsdState) → IsAwake r s → Has (file_seen file s) s.files
    → file_seen file (step_at node r s event.Wake).osd ≡ (wake_step (site_at node r s) (file_seen file s)).state
wake_leaves file node r s awake met =
    ap (λ (t : Silent). file_at (awake_as t) whole.osd.files file) (ap (λ (o : OsdStep). o.osd.started) (woken_step (outside_of node.kept) s r.clock (awake_as s.started) awake))
    ∙ (ap (λ (fs : List FileState). file_at (awake_as s.started) fs file) (wake_shows (outside_of node.kept) s r.clock (awake_as s.started) awake).files
    ∙ at (at_map (λ (x : FileState). (wake_step site x).state) (awake_as s.started) s.files file (λ x. ap (λ (row : FileRow). row.file) (wake_step_kept site x))))
  where
    site : Site
    site = site_at node r s

    whole : OsdStep
    whole = step_at node r s event.Wake

    its_own : is_file (file_seen file s).kept.file file ≡ true
    its_own = ap (λ (f : FileId). is_file f file) (at_file (awake_as s.started) s.files file) ∙ file-itself file

    at : AtMap (λ (x : FileState). (wake_step site x).state) (awake_as s.started) s.files file → file_at (awake_as s.started) (map (λ (x : FileState). (wake_step site x).state) s.files) file ≡ (wake_step site (file_seen file s)).state
    at (found_at has is) = is
    at (found_nowhere nowhere is) = absurd (let differs = nowhere (file_seen file s) met in cc (differs, its_own))

pub wake_taken : (file : FileId) (w : World) (node : Node) (r : Running) (s : OsdState) (outs : List Msg) (v : FileWorld) → RunsAs w node r s → IsAwake r s → Has (file_seen file s) s.files → Sees file w v
    → Sees file (stepped w node r s event.Wake outs) (after v (acts node.id.0 (file_seen file s) (site_at node r s) wake goes_on))
wake_taken file w node r s outs v its awake met sees =
    let site = site_at node r s in
    let whole = step_at node r s event.Wake in
    let none = ap (λ (o : OsdStep). o.turned.rec) (woken_step (outside_of node.kept) s r.clock (awake_as s.started) awake) ∙ (woken_quiet site s.files).1 in
    took file w node r s v its sees whole.osd (record whole.turned { outs = outs }) (wake_step site (file_seen file s)) (wake_leaves file node r s awake met)
    (none ∙ sym (wake_step_rec site (file_seen file s))) (none_is_of file (wake_step site (file_seen file s)).turned.rec (wake_step_rec site (file_seen file s)))

-- ---- starts

pub started_at : (awake : Awake) (rows : List FileRow) (file : FileId) → file_at awake (map (file_from awake) rows) file ≡ file_from awake (row_in rows file)
unfolding file_at row_in
started_at awake [] file = refl
started_at awake (x ∷ xs) file = at (is_file x.file file) (started_at awake xs file)
  where
    at : (b : Bool) → file_at awake (map (file_from awake) xs) file ≡ file_from awake (row_in xs file)
        → cond b (file_from awake x) (file_at awake (map (file_from awake) xs) file) ≡ file_from awake (cond b x (row_in xs file))
    at true rest = refl
    at false rest = rest

-- the node that has started
abbrev pub begun_as : World → Node → Boot → ℕ → Node
begun_as w node boot clock =
    record node { kept = node.kept ++ kept.Boot boot ∷ []; past = node.past ++ loads ∷ puts (kept.Boot boot) ∷ []; up = Some (runs boot clock (core_starting w.times node boot clock node.role)) }

pub starts_show : (file : FileId) (w : World) (node : Node) (clock : ℕ) (v : FileWorld) → node_in w.nodes node.id.0 ≡ Some node → node.up ≡ None → node.role ≡ role.Osd → Sees file w v
    → Sees file (starts_as w node (next_boot node.kept) clock) (after v (starts node.id.0 (record { node = node.id; boot = next_boot node.kept; times = w.times })))
starts_show file w node clock v found down is_osd sees =
    let n = node.id.0 in
    let boot = next_boot node.kept in
    let awake : Awake = record { node = node.id; boot = boot; times = w.times } in
    let there = here file w node found v sees in
    let row = row_in (fold_of node.kept).files file in
    let begun : Option FileState = Some (file_from awake row) in
    ap (λ (x : FileNode). at_node n (record x { state = Some (file_from awake x.kept) }) v.nodes) there
    ∙ (ap (λ (nodes : ℕ → FileNode). at_node n (kept_seen file node.kept begun) nodes) sees
    ∙ (ap (λ (x : FileNode). at_node n x (nodes_seen file w)) (sym (keeps_other file node.kept begun (Some (kept.Boot boot)) tt))
    ∙ (ap (λ (x : FileState). at_node n (kept_seen file (one_more node.kept (Some (kept.Boot boot))) (Some x)) (nodes_seen file w)) (sym (started_at awake (fold_of node.kept).files file))
    ∙ (ap (λ (its : Role). at_node n (kept_seen file (one_more node.kept (Some (kept.Boot boot))) (core_state file (core_starting w.times node boot clock its))) (nodes_seen file w)) (sym is_osd)
    ∙ sym (put_seen file w (begun_as w node boot clock) node found)))))

-- what starts at a node that isn't an OSD has no files
no_state : (file : FileId) (times : TimeSettings) (node : Node) (boot : Boot) (clock : ℕ) (its : Role) → its ≢ role.Osd → core_state file (core_starting times node boot clock its) ≡ None
no_state file times node boot clock role.Osd ne = absurd (ne refl)
no_state file times node boot clock role.Client ne = refl
no_state file times node boot clock role.Mrc ne = refl
no_state file times node boot clock role.Dir ne = refl

pub servers_rest : (file : FileId) (w : World) (node : Node) (clock : ℕ) (v : FileWorld) → node_in w.nodes node.id.0 ≡ Some node → node.up ≡ None → node.role ≢ role.Osd → Sees file w v
    → Sees file (starts_as w node (next_boot node.kept) clock) v
servers_rest file w node clock v found down no_osd sees =
    let n = node.id.0 in
    let boot = next_boot node.kept in
    let none = no_state file w.times node boot clock node.role no_osd in
    sees
    ∙ (sym (at_node-same (nodes_seen file w) n)
    ∙ (ap (λ (x : FileNode). at_node n x (nodes_seen file w))
    (ap (node_seen file) found ∙ (ap (λ (u : Option Running). kept_seen file node.kept (up_state file u)) down
    ∙ (sym (keeps_other file node.kept None (Some (kept.Boot boot)) tt) ∙ ap (kept_seen file (one_more node.kept (Some (kept.Boot boot)))) (sym none))))
    ∙ sym (put_seen file w (begun_as w node boot clock) node found)))
