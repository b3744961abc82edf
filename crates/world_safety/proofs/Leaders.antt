-- that a step of a node is an event that can happen in the file's world, and that who leads still holds after it
use Rattle.std.proofs.Common.{◌≡◌, ◌≢◌, ℕ, inl, inr, List, refl, ap, sym, ◌∙◌, subst, Option, Some, None, Bool, true, false}
use Rattle.std.specs.Prelude.{◌⊎◌, ◌==◌, cond}
use Rattle.xt_base.specs.declared.ids.FileId.{FileId}
use Rattle.xt_messages.specs.declared.file.Op.{Op}
use Rattle.xt_messages.specs.declared.message.Msg.{Msg}
use Rattle.osd_invariants.specs.Sound.{IsHeld}
use Rattle.lease_runs.specs.OsdView.{site_of}
use Rattle.xt_protocol.specs.FileStates.{FileState, Site, FileStep}
use Rattle.xt_protocol.specs.OsdSteps.{OsdState}
use Rattle.xt_protocol.specs.declared.states.Tenure.{Tenure}
use Rattle.replica_runs.specs.FileView.{IsFree, settled}
use Rattle.replica_runs.proofs.Files.{expired_tenure}
use Rattle.replica_runs.specs.Steps.{without}
use Rattle.file_runs.specs.FileRuns.{FileWorld, Happening, Ending, goes_on, stops_lost, acts, step_on, acted, holder_after, Comes, OwnComes, MayEnd, May}
use Rattle.world_spec.specs.World.{World, Node, Running, osd, node_in, with_node}
use Rattle.world_spec.specs.NodeSteps.{outside_of}
use Rattle.world_runs.specs.View.{awake_as}
use Rattle.world_runs.specs.Worlds.{IsInOrder, Leads}
use Rattle.world_runs.proofs.Tables.{node_in-other}
use Rattle.world_safety.specs.Seen.{file_seen, Sees}
use Rattle.world_safety.specs.Events.{RunsAs, site_at}
use Rattle.world_safety.specs.May.{LeadersHold}
use Rattle.world_safety.proofs.Nodes.{same_number, other_number}
use Rattle.world_safety.proofs.May.{steps_stand}

pub steps_may : (stripe : ℕ) (ops : ℕ × ℕ → Op) (members : List ℕ) (file : FileId) (w : World) (own : List Msg) (node : Node) (r : Running) (s : OsdState) (v : FileWorld)
    (happens : Happening) (how : Ending) → IsInOrder w own → RunsAs w node r s → Sees file w v → LeadersHold file w v → Comes stripe ops members v happens → OwnComes node.id.0 (file_seen file s) happens
    → (IsHeld (step_on (site_at node r s) (file_seen file s) happens).state.lease → IsFree node.id.0 v.holder)
    → MayEnd (step_on (site_at node r s) (file_seen file s) happens) how
    → May stripe ops members v (acts node.id.0 (file_seen file s) (site_at node r s) happens how)
steps_may stripe ops members file w own node r s v happens how order its sees leaders comes mine alone ends =
    let stand = steps_stand file w own node r s v order its sees in
    record { runs = stand.runs; here = stand.here; bodies = stand.bodies; comes = comes; own = mine; holds = λ t is. leaders node.id.0 (stand.leads t is); alone = alone; ends = ends }

pub same_node : (a b : Node) → Some a ≡ Some b → a ≡ b
same_node a b is = cc

pub same_running : (a b : Running) → Some a ≡ Some b → a ≡ b
same_running a b is = cc

pub same_state : (a b : OsdState) → osd a ≡ osd b → a ≡ b
same_state a b is = cc

-- of the other nodes those lead that did
pub led_before : (file : FileId) (w after : World) (node : Node) (m : ℕ) → after.nodes ≡ with_node w.nodes node → m ≢ node.id.0 → Leads after file m → Leads w file m
led_before file w after node m is ne lead =
    record {
      node = lead.node;
      running = lead.running;
      state = lead.state;
      tenure = lead.tenure;
      found = sym (node_in-other w.nodes node m ne) ∙ (ap (λ (ns : List Node). node_in ns m) (sym is) ∙ lead.found);
      up = lead.up;
      core = lead.core;
      leads = lead.leads;
    }

pub led_after : (file : FileId) (w after : World) (node : Node) (m : ℕ) → after.nodes ≡ with_node w.nodes node → m ≢ node.id.0 → Leads w file m → Leads after file m
led_after file w after node m is ne lead =
    record {
      node = lead.node;
      running = lead.running;
      state = lead.state;
      tenure = lead.tenure;
      found = ap (λ (ns : List Node). node_in ns m) is ∙ (node_in-other w.nodes node m ne ∙ lead.found);
      up = lead.up;
      core = lead.core;
      leads = lead.leads;
    }

-- a node that leads is in a tenure
leads_so : (file : FileId) (after : World) (node : Node) (r : Running) (s : OsdState) → RunsAs after node r s → Leads after file node.id.0 → (t : Tenure) × ((file_seen file s).primary.tenure ≡ Some t)
leads_so file after node r s its lead = (lead.tenure, at (expired_tenure site (file_seen file lead.state)))
  where
    site : Site
    site = site_of (outside_of lead.node.kept) (awake_as lead.state.started) lead.running.clock

    is_node : lead.node ≡ node
    is_node = same_node lead.node node (sym lead.found ∙ its.found)

    is_running : lead.running ≡ r
    is_running = same_running lead.running r (sym lead.up ∙ (ap (λ (n : Node). n.up) is_node ∙ its.up))

    is_state : lead.state ≡ s
    is_state = same_state lead.state s (sym lead.core ∙ (ap (λ (q : Running). q.core) is_running ∙ its.core))

    at : ((settled site (file_seen file lead.state)).primary.tenure ≡ (file_seen file lead.state).primary.tenure) ⊎ ((settled site (file_seen file lead.state)).primary.tenure ≡ None)
        → (file_seen file s).primary.tenure ≡ Some lead.tenure
    at (inl same) = ap (λ (x : OsdState). (file_seen file x).primary.tenure) (sym is_state) ∙ (sym same ∙ lead.leads)
    at (inr none) = absurd (let e : None ≡ Some lead.tenure = sym none ∙ lead.leads in cc)

without_other : (n m : ℕ) (holder : Option ℕ) → holder ≡ Some m → (m == n) ≡ false → without n holder ≡ Some m
without_other n m holder is differs = ap (without n) is ∙ ap (λ (b : Bool). cond b None (Some m)) differs

pub leaders_go_on : (file : FileId) (w after : World) (node : Node) (r : Running) (s : OsdState) (v : FileWorld) (step : FileStep) → after.nodes ≡ with_node w.nodes node
    → RunsAs after node r s → file_seen file s ≡ step.state
    → ((t : Tenure) → step.state.primary.tenure ≡ Some t → (m : ℕ) → Leads after file m → m ≡ node.id.0)
    → LeadersHold file w v → LeadersHold file after (acted v node.id.0 step goes_on)
leaders_go_on file w after node r s v step nodes its is_state alone leaders m lead = at (m == node.id.0) refl
  where
    n : ℕ
    n = node.id.0

    other : (o : Option Tenure) → step.state.primary.tenure ≡ o → (m == n) ≡ false → holder_after n o v.holder ≡ Some m
    other None is differs = without_other n m v.holder (leaders m (led_before file w after node m nodes (other_number m n differs) lead)) differs
    other (Some t) is differs = absurd (let e : m ≡ n = alone t is m lead in let ne = other_number m n differs in ne e)

    at : (b : Bool) → (m == n) ≡ b → holder_after n step.state.primary.tenure v.holder ≡ Some m
    at true is =
        let e = same_number m n is in
        let so = leads_so file after node r s its (subst (Leads after file) e lead) in
        ap (λ (o : Option Tenure). holder_after n o v.holder) (ap (λ (x : FileState). x.primary.tenure) (sym is_state) ∙ so.1) ∙ ap (λ (k : ℕ). Some k) (sym e)
    at false differs = other step.state.primary.tenure refl differs

pub leaders_stop : (file : FileId) (w after : World) (node : Node) (v : FileWorld) (step : FileStep) → after.nodes ≡ with_node w.nodes node
    → node_in after.nodes node.id.0 ≡ Some node → node.up ≡ None → LeadersHold file w v → LeadersHold file after (acted v node.id.0 step stops_lost)
leaders_stop file w after node v step nodes found down leaders m lead = at (m == node.id.0) refl
  where
    at : (b : Bool) → (m == node.id.0) ≡ b → without node.id.0 v.holder ≡ Some m
    at true is =
        absurd (let e = same_number m node.id.0 is in
        let is_node = same_node lead.node node (sym lead.found ∙ (ap (node_in after.nodes) e ∙ found)) in
        let none : None ≡ Some lead.running = sym down ∙ (ap (λ (k : Node). k.up) (sym is_node) ∙ lead.up) in cc (none))
    at false differs = without_other node.id.0 m v.holder (leaders m (led_before file w after node m nodes (other_number m node.id.0 differs) lead)) differs
