-- that nobody else leads where a step leaves the lease held
use Rattle.std.proofs.Common.{◌≡◌, ℕ, inl, inr, List, [], refl, ap, sym, subst, Option, Some, None, Bool, true, false}
use Rattle.std.specs.Prelude.{◌⊎◌, cond}
use Rattle.std.proofs.lemmas.List.{append-nil}
use Rattle.xt_base.specs.declared.ids.NodeId.{NodeId}
use Rattle.xt_base.specs.declared.ids.FileId.{FileId}
use Rattle.xt_base.specs.declared.ids.Boot.{Boot}
use Rattle.xt_messages.specs.declared.message.Msg.{Msg}
use Rattle.xt_messages.specs.declared.message.Payload.{Payload}
use Rattle.xt_messages.specs.declared.message.Payload.TheVariants as payload
use Rattle.xt_protocol.specs.Register.{Round, lease_of, same_ballot, on_acceptance}
use Rattle.xt_protocol.specs.LeaseRows.{LeaseState, free, asking, writing, held, lease_expired, on_answer, LeaseStep, written_won, written_still, step_of_written, writing_accepted, round_won, lease_won, won_too_late, is_inside, Asked, asked_still, asked_write, asked_found, step_of_asking, round_over, asking_promised, nothing}
use Rattle.lease_runs.specs.LeaseWorld.{LeaseSetting, LeaseRow, row_handles, row_asks}
use Rattle.lease_runs.proofs.Tests.{same_node}
use Rattle.osd_invariants.specs.Sound.{IsHeld, LedUnder}
use Rattle.osd_invariants.proofs.SoundSteps
use Rattle.lease_runs.specs.LeaseView.{lease_setting, settled_row, Follows, handles, asks, stays, Wakes, renewing, resting}
use Rattle.lease_runs.specs.OsdView.{site_of, wake_step}
use Rattle.lease_runs.proofs.LeaseSteps.{step_follows, expired_shows}
use Rattle.lease_runs.proofs.OsdLeases.{each_wakes}
use Rattle.xt_protocol.specs.FileStates.{FileState, Site, FileStep}
use Rattle.xt_protocol.specs.FileSteps.{step_of_file}
use Rattle.xt_protocol.specs.OsdSteps.{OsdState, file_at}
use Rattle.xt_protocol.specs.Overdue.{expired}
use Rattle.xt_protocol.specs.declared.states.Tenure.{Tenure}
use Rattle.file_runs.specs.FileRuns.{Happening, message, wake, step_on}
use Rattle.time_line.specs.Clauses.{AreApart}
use Rattle.time_line.specs.TimeLine.{holds}
use Rattle.world_spec.specs.World.{World, Node, Running, known}
use Rattle.world_spec.specs.NodeSteps.{outside_of}
use Rattle.world_runs.specs.View.{node_id, awake_as}
use Rattle.world_runs.specs.Worlds.{IsInOrder, Leads, CoreFits, UpFits}
use Rattle.world_runs.proofs.Files.{at_fits}
use Rattle.world_runs.proofs.Tables.{node_in-id}
use Rattle.world_safety.specs.Seen.{file_seen}
use Rattle.world_safety.specs.Events.{RunsAs}

-- ---- wins

-- it was held, or it isn't over yet
abbrev InTime : ℕ → LeaseState → LeaseState → Type 0
InTime now before after = IsHeld after → IsHeld before ⊎ IsHeld (lease_expired after now)

asked_in_time : (now : ℕ) (before : LeaseState) (b : Bool) (s : LeaseStep) (r : Round) → (IsHeld s.state → ⊥) → IsHeld (cond b s (record { state = asking r; news = nothing })).state → ⊥
asked_in_time now before true s r none is = none is
asked_in_time now before false s r none is = is

asked_none : (a : Asked) (r : Round) → IsHeld (step_of_asking r.ballot (lease_of r) a).state → ⊥
asked_none (asked_still q) r is = is
asked_none (asked_write q targets) r is = is
asked_none (asked_found p found) r is = is

won_in_time : (r : Round) (now : ℕ) (before : LeaseState) → InTime now before (step_of_written (round_won r now)).state
won_in_time r now before = at (is_inside (lease_of r).end r.times now) refl
  where
    at : (b : Bool) → is_inside (lease_of r).end r.times now ≡ b → InTime now before (step_of_written (cond b (written_won (lease_won r)) (won_too_late r))).state
    at true is held_now = inr (subst (λ (b : Bool). IsHeld (cond b (held (lease_won r)) (free (round_over r)))) (sym is) tt)
    at false is held_now = absurd held_now

accepted_in_time : (r : Round) (now : ℕ) (from : NodeId) (boot : Boot) (before : LeaseState) → InTime now before (step_of_written (writing_accepted r now from boot)).state
accepted_in_time r now from boot before = at (on_acceptance r from boot).wins
  where
    at : (b : Bool) → InTime now before (step_of_written (cond b (round_won (on_acceptance r from boot).round now) (written_still (on_acceptance r from boot).round))).state
    at true is = won_in_time (on_acceptance r from boot).round now before is
    at false is = absurd is

either_in_time : (now : ℕ) (before : LeaseState) (b : Bool) (one other : LeaseStep) → InTime now before one.state → InTime now before other.state → InTime now before (cond b one other).state
either_in_time now before true one other p q = p
either_in_time now before false one other p q = q

answer_in_time : (l : LeaseState) (now : ℕ) (from : NodeId) (content : Payload) → InTime now l (on_answer l now from content).state
answer_in_time (free p) now from content is = absurd is
answer_in_time (held h) now from content is = inl tt
answer_in_time (asking r) now from (payload.Promise file ballot boot report) is = absurd (asked_in_time now (asking r) (same_ballot ballot r.ballot) _ r (asked_none (asking_promised r now from boot report) r) is)
answer_in_time (asking r) now from (payload.Outrun file ballot seen) is = absurd (asked_in_time now (asking r) (same_ballot ballot r.ballot) _ r (λ h. h) is)
answer_in_time (asking r) now from _ is = absurd is
answer_in_time (writing r) now from (payload.Promise file ballot boot report) is = either_in_time now (writing r) (same_ballot ballot r.ballot) _ _ (λ is. absurd is) (λ is. absurd is) is
answer_in_time (writing r) now from (payload.Accepted file ballot boot) is = either_in_time now (writing r) (same_ballot ballot r.ballot) _ _ (accepted_in_time r now from boot (writing r)) (λ is. absurd is) is
answer_in_time (writing r) now from (payload.Outrun file ballot seen) is = either_in_time now (writing r) (same_ballot ballot r.ballot) _ _ (λ is. absurd is) (λ is. absurd is) is
answer_in_time (writing r) now from _ is = absurd is

handled_in_time : (g : LeaseSetting) (n : NodeId) (now : ℕ) (x : LeaseRow) (from : NodeId) (content : Payload) → InTime now x.lease (row_handles g n now x from content).row.lease
handled_in_time g n now x from (payload.Read file ballot) is = inl is
handled_in_time g n now x from (payload.Write file ballot boot lease) is = inl is
handled_in_time g n now x from (payload.Promise file ballot boot report) is = answer_in_time x.lease now from (payload.Promise file ballot boot report) is
handled_in_time g n now x from (payload.Accepted file ballot boot) is = answer_in_time x.lease now from (payload.Accepted file ballot boot) is
handled_in_time g n now x from (payload.Outrun file ballot seen) is = answer_in_time x.lease now from (payload.Outrun file ballot seen) is
handled_in_time g n now x from _ is = inl is

asks_in_time : (g : LeaseSetting) (n : NodeId) (now : ℕ) (x : LeaseRow) (l : LeaseState) → x.lease ≡ l → InTime now x.lease (row_asks g n now x l).row.lease
asks_in_time g n now x (free p) same is = absurd is
asks_in_time g n now x (asking r) same is = inl is
asks_in_time g n now x (writing r) same is = inl is
asks_in_time g n now x (held h) same is = inl (subst IsHeld (sym same) tt)

pub wins_in_time : (site : Site) (s : FileState) (happens : Happening) → IsHeld (step_on site s happens).state.lease
    → IsHeld (settled_row site s).lease ⊎ IsHeld (lease_expired (step_on site s happens).state.lease site.now)
wins_in_time site s (message from content) = at (step_follows site s from content)
  where
    x : LeaseRow
    x = settled_row site s

    after : FileStep
    after = step_of_file site s from content

    at : Follows s.kept.file site x x.lease from content after → InTime site.now x.lease after.state.lease
    at (handles p) = subst (λ (q : LeaseRow). InTime site.now x.lease q.lease) (sym p.row) (handled_in_time (lease_setting site s.kept.file after.state.kept.location) site.node site.now x from content)
    at (asks is stored p) = subst (λ (q : LeaseRow). InTime site.now x.lease q.lease) (sym p.row) (asks_in_time (lease_setting site s.kept.file after.state.kept.location) site.node site.now x x.lease refl)
    at (stays p) = subst (λ (q : LeaseRow). InTime site.now x.lease q.lease) (sym p.row) (λ is. inl is)
wins_in_time site s wake = at (each_wakes site s)
  where
    x : LeaseRow
    x = settled_row site s

    at : Wakes s.kept.file site x x.lease (wake_step site s) → InTime site.now x.lease (wake_step site s).state.lease
    at (renewing held_so p) = λ is. inl held_so
    at (resting p) = subst (λ (q : LeaseRow). InTime site.now x.lease q.lease) (sym p.row) (λ is. inl is)

-- a Wake leaves no lease held but one that it found so
pub wake_found : (site : Site) (s : FileState) → IsHeld (wake_step site s).state.lease → IsHeld (settled_row site s).lease
wake_found site s is = at (each_wakes site s)
  where
    at : Wakes s.kept.file site (settled_row site s) (settled_row site s).lease (wake_step site s) → IsHeld (settled_row site s).lease
    at (renewing held_so p) = held_so
    at (resting p) = subst (λ (q : LeaseRow). IsHeld q.lease) p.row is

-- ---- who leads

pub led_held : (l : LeaseState) (o : Option Tenure) (t : Tenure) → o ≡ Some t → LedUnder l o → IsHeld l
led_held l None t is led = absurd (cc)
led_held l (Some x) t is led = led

-- who leads a file has its lease, and it isn't over
pub leader_held : (w : World) (own : List Msg) (file : FileId) (n : ℕ) → IsInOrder w own → (lead : Leads w file n) → IsHeld (lease_expired (file_seen file lead.state).lease lead.running.clock)
leader_held w own file n order lead =
    let node = lead.node in
    let s = lead.state in
    let r = lead.running in
    let site = site_of (outside_of node.kept) (awake_as s.started) r.clock in
    let f = file_at (awake_as s.started) s.files file in
    let core = subst (CoreFits w.times (known w) node.id node.kept r) lead.core (subst (UpFits w.times (known w) node.id node.kept) lead.up (order.nodes n node lead.found).up) in
    let sound = SoundSteps.expired_so site f (at_fits (known w) (awake_as s.started) s.files file core.0.fits).sound in
    let held_now = led_held (expired site f).state.lease (expired site f).state.primary.tenure lead.tenure lead.leads sound.led in
    subst (λ (x : LeaseRow). IsHeld x.lease) (expired_shows site f).row held_now

-- and holds it by the trace
leader_holds : (w : World) (own : List Msg) (file : FileId) (n : ℕ) → IsInOrder w own → Leads w file n → holds w.entries (node_id n) file.number ≡ true
leader_holds w own file n order lead =
    subst (λ (id : NodeId). holds w.entries id file.number ≡ true) (same_node lead.node.id (node_id n) (node_in-id w.nodes n lead.node lead.found))
    (order.leases n lead.node lead.running lead.state file lead.found lead.up lead.core (leader_held w own file n order lead))

pub winners_are_alone : (file : FileId) (w : World) (own : List Msg) (node : Node) (r : Running) (s : OsdState) → IsInOrder w own → AreApart file.number w.entries → RunsAs w node r s
    → IsHeld (lease_expired (file_seen file s).lease r.clock) → (m : ℕ) → Leads w file m → m ≡ node.id.0
winners_are_alone file w own node r s order apart its held_so m lead =
    let mine = order.leases node.id.0 node r s file its.found its.up its.core held_so in
    let theirs = leader_holds w own file m order lead in
    ap (λ (id : NodeId). id.0) (apart w.entries (node_id m) node.id ([], sym (append-nil w.entries)) theirs mine)
