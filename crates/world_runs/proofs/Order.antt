-- the worlds of a run are in order
use Rattle.std.proofs.Common.{◌≡◌, ℕ, List, [], ap, sym, ◌∙◌, subst, Option, Some, None, true}
use Rattle.xt_messages.specs.declared.message.Msg.{Msg}
use Rattle.world_spec.specs.World.{World, node_in, known}
use Rattle.world_spec.specs.Lines.{Next, finished, opens, goes_on, ends}
use Rattle.world_runs.specs.Worlds.{CoreFits, UpFits, role_of, LeasesHold, Leads, OneLeads, IsInOrder, IsNextInOrder}
use Rattle.world_runs.proofs.Tables.{node_in-id}
use Rattle.world_runs.proofs.OsdEvents as osd_events
use Rattle.world_runs.proofs.Fit.{IsShaped, IsFit, apart_now}
use Rattle.world_runs.proofs.NodeEvents.{stood_by, core_at, its_role}
use Rattle.world_runs.proofs.LineSteps.{fits_kept}
use Rattle.world_runs.proofs.Walk.{NextIs}
use Rattle.xt_base.specs.declared.ids.NodeId.{NodeId}
use Rattle.xt_base.specs.declared.ids.FileId.{FileId}
use Rattle.xt_protocol.specs.LeaseRows.{LeaseState}
use Rattle.lease_runs.specs.LeaseWorld.{LeaseRow}
use Rattle.lease_runs.proofs.Tests.{same_node}
use Rattle.xt_protocol.specs.declared.states.Tenure.{Tenure}
use Rattle.xt_protocol.specs.Overdue.{expired}
use Rattle.osd_invariants.specs.Sound.{IsHeld, LedUnder}
use Rattle.osd_invariants.proofs.SoundSteps
use Rattle.xt_protocol.specs.OsdSteps.{file_at}
use Rattle.lease_runs.specs.OsdView.{site_of}
use Rattle.lease_runs.proofs.LeaseSteps.{expired_shows}
use Rattle.world_spec.specs.NodeSteps.{outside_of}
use Rattle.time_line.specs.TimeLine.{holds}
use Rattle.world_runs.specs.View.{node_id, awake_as}
use Rattle.world_runs.proofs.Files.{at_fits}

leases_hold : (w : World) (own : List Msg) → IsShaped w own → LeasesHold w
leases_hold w own shape n node r s file is is_up is_osd held =
    let found = ap (node_in w.nodes) (node_in-id w.nodes n node is) ∙ is in
    let core = subst (CoreFits w.times (known w) node.id node.kept r) is_osd (core_at w own node r shape found is_up) in
    osd_events.lease_holds w own node r s found is_up is_osd (sym (its_role w own node r shape found is_up) ∙ ap role_of is_osd) core.0 core.2 shape.good
    (λ number. let st = stood_by w own node r shape found is_up number in record { at = st.0; stands = st.1; clock = st.2 })
    shape.times file held

-- a tenure is under a lease that is held
led_held : (l : LeaseState) (o : Option Tenure) (t : Tenure) → o ≡ Some t → LedUnder l o → IsHeld l
led_held l None t is led = absurd (cc)
led_held l (Some x) t is led = led

-- who leads a file holds it by the trace
leader_holds : (w : World) (own : List Msg) (file : FileId) (n : ℕ) → IsShaped w own → Leads w file n → holds w.entries (node_id n) file.number ≡ true
leader_holds w own file n shape lead =
    let node = lead.node in
    let s = lead.state in
    let r = lead.running in
    let site = site_of (outside_of node.kept) (awake_as s.started) r.clock in
    let f = file_at (awake_as s.started) s.files file in
    let core = subst (CoreFits w.times (known w) node.id node.kept r) lead.core (subst (UpFits w.times (known w) node.id node.kept) lead.up (shape.nodes n node lead.found).up) in
    let sound = SoundSteps.expired_so site f (at_fits (known w) (awake_as s.started) s.files file core.0.fits).sound in
    let held_now = led_held (expired site f).state.lease (expired site f).state.primary.tenure lead.tenure lead.leads sound.led in
    let held_then = subst (λ (x : LeaseRow). IsHeld x.lease) (expired_shows site f).row held_now in
    subst (λ (id : NodeId). holds w.entries id file.number ≡ true) (same_node node.id (node_id n) (node_in-id w.nodes n node lead.found))
    (leases_hold w own shape n node r s file lead.found lead.up lead.core held_then)

one_leads : (w : World) (own : List Msg) → IsShaped w own → OneLeads w
one_leads w own shape file a b first second =
    ap (λ (id : NodeId). id.0) (apart_now w own shape file.number (node_id a) (node_id b) (leader_holds w own file a shape first) (leader_holds w own file b shape second))

pub in_order : (w : World) (own : List Msg) → IsFit w own → IsInOrder w own
in_order w own fit =
    record {
      nodes = fit.shape.nodes;
      stands = fit.shape.stands;
      payloads = fit.shape.payloads;
      declared = fit.shape.declared;
      made = fit.shape.made;
      one_server = fit.shape.one_server;
      times = fit.shape.times;
      leases = leases_hold w own fit.shape;
      leads = one_leads w own fit.shape;
    }

pub next_in_order : (next : Next) → NextIs IsFit fits_kept next → IsNextInOrder next
next_in_order (finished w) fit = in_order w [] fit
next_in_order (opens l w) fit = in_order w [] fit.0
next_in_order (goes_on d) fit = in_order d.world d.own fit
next_in_order (ends cause w) fit = in_order w [] fit
