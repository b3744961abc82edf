-- who leads after what changes nothing of a file led before
use Rattle.std.proofs.Common.{◌≡◌, ◌≤◌, ℕ, ◌+◌, inl, inr, List, [], ◌∷◌, ◌++◌, map, refl, arith, ap, sym, ◌∙◌, subst, Option, Some, None, Bool, true, false}
use Rattle.std.specs.Prelude.{cond, nat_lt}
use Rattle.std.specs.Option.{option_map}
use Rattle.std.proofs.lemmas.Bool.Decides.{nat_tests}
use Rattle.xt_base.specs.declared.ids.FileId.{FileId}
use Rattle.xt_base.specs.declared.ids.Boot.{Boot}
use Rattle.xt_messages.specs.declared.message.Msg.{Msg}
use Rattle.xt_protocol.specs.Folds.{fold_of}
use Rattle.xt_protocol.specs.LeaseRows.{LeaseState, free, asking, writing, held, lease_expired, has_turn, has_run_out, round_over, renewal_left}
use Rattle.osd_invariants.specs.Sound.{IsHeld}
use Rattle.lease_runs.specs.OsdView.{site_of}
use Rattle.xt_protocol.specs.FileStates.{FileState, Site}
use Rattle.xt_protocol.specs.OsdSteps.{OsdState}
use Rattle.xt_protocol.specs.Overdue.{expired, lease_became, deadlines_under}
use Rattle.xt_protocol.specs.declared.states.Tenure.{Tenure}
use Rattle.replica_runs.specs.FileView.{settled}
use Rattle.world_spec.specs.World.{World, Node, Running, Core, osd, client, mrc, dir, node_in, with_node}
use Rattle.world_spec.specs.Lines.{osd_starting, ticked}
use Rattle.world_spec.specs.NodeSteps.{outside_of}
use Rattle.world_runs.specs.View.{awake_as}
use Rattle.world_runs.specs.Worlds.{IsInOrder, Leads}
use Rattle.world_runs.proofs.Tables.{same, node_in-before, node_in-ticked}
use Rattle.world_safety.specs.Seen.{file_seen}
use Rattle.world_safety.specs.Events.{RunsAs}
use Rattle.world_safety.proofs.Events.{started_at}
use Rattle.world_safety.proofs.Leaders.{same_node, same_running, same_state, led_before}
use Rattle.world_safety.proofs.Winners.{leader_held}

-- ---- one file

earlier : (a b d e : ℕ) → a ≤ b → nat_lt (b + d) e ≡ true → nat_lt (a + d) e ≡ true
earlier a b d e below is = grind (arith, nat_tests)

-- a lease that isn't over at a clock wasn't at an earlier one
still_held : (l : LeaseState) (early late : ℕ) → early ≤ late → IsHeld (lease_expired l late) → IsHeld (lease_expired l early)
still_held (free p) early late before is = absurd is
still_held (asking r) early late before is = absurd (at (has_run_out r late) is)
  where
    at : (b : Bool) → IsHeld (cond b (free (round_over r)) (asking r)) → ⊥
    at true is = is
    at false is = is
still_held (writing r) early late before is = absurd (at (has_run_out r late) is)
  where
    at : (b : Bool) → IsHeld (cond b (free (round_over r)) (writing r)) → ⊥
    at true is = is
    at false is = is
still_held (held h) early late before is = at (has_turn h late) refl is
  where
    then_held : has_turn h early ≡ true → IsHeld (lease_expired (held h) early)
    then_held turn = subst (λ (b : Bool). IsHeld (cond b (held (record h { renewal = renewal_left h.renewal early })) (free h.proposer))) (sym turn) tt

    at : (b : Bool) → has_turn h late ≡ b → IsHeld (cond b (held (record h { renewal = renewal_left h.renewal late })) (free h.proposer)) → IsHeld (lease_expired (held h) early)
    at true turn is = then_held (earlier early late h.proposer.times.drift h.end before turn)
    at false over is = absurd is

-- a tenure stays where the lease does
pub tenure_stays : (site : Site) (s : FileState) → IsHeld (lease_expired s.lease site.now) → (settled site s).primary.tenure ≡ s.primary.tenure
unfolding expired
tenure_stays site s is = became s.lease (lease_expired s.lease site.now) is
  where
    s1 : FileState
    s1 = record s { lease = lease_expired s.lease site.now }

    under : (o : Option Tenure) → (deadlines_under site s1 o).state.primary.tenure ≡ s.primary.tenure
    under None = refl
    under (Some t) = refl

    became : (before after : LeaseState) → IsHeld after → (lease_became site s1 before after).state.primary.tenure ≡ s.primary.tenure
    became before (free p) is = absurd is
    became before (asking r) is = absurd is
    became before (writing r) is = absurd is
    became (free p) (held k) is = under s.primary.tenure
    became (held h) (held k) is = under s.primary.tenure
    became (asking q) (held k) is = under s.primary.tenure
    became (writing q) (held k) is = under s.primary.tenure

-- who leads is in a tenure
pub in_tenure : (w : World) (own : List Msg) (file : FileId) (n : ℕ) → IsInOrder w own → (lead : Leads w file n) → (file_seen file lead.state).primary.tenure ≡ Some lead.tenure
in_tenure w own file n order lead =
    sym (tenure_stays (site_of (outside_of lead.node.kept) (awake_as lead.state.started) lead.running.clock) (file_seen file lead.state) (leader_held w own file n order lead)) ∙ lead.leads

-- ---- one node

-- a node that has of the file what one that leads has, at a clock no later, leads
led_then : (file : FileId) (w after : World) (own_after : List Msg) (n : ℕ) → IsInOrder after own_after → (lead : Leads after file n) → (node : Node) (r : Running) (s : OsdState)
    → node_in w.nodes n ≡ Some node → node.up ≡ Some r → r.core ≡ osd s → file_seen file s ≡ file_seen file lead.state → r.clock ≤ lead.running.clock → Leads w file n
led_then file w after own_after n order lead node r s found is_up is_osd has clock =
    let then = leader_held after own_after file n order lead in
    let now = still_held (file_seen file s).lease r.clock lead.running.clock clock (subst (λ (x : FileState). IsHeld (lease_expired x.lease lead.running.clock)) (sym has) then) in
    record {
      node = node;
      running = r;
      state = s;
      tenure = lead.tenure;
      found = found;
      up = is_up;
      core = is_osd;
      leads =
          tenure_stays (site_of (outside_of node.kept) (awake_as s.started) r.clock) (file_seen file s) now
          ∙ (ap (λ (x : FileState). x.primary.tenure) has ∙ in_tenure after own_after file n order lead);
    }

-- a node that leads runs as it does
pub leads_as : (file : FileId) (w : World) (n : ℕ) (lead : Leads w file n) (node : Node) (r : Running) → node_in w.nodes n ≡ Some node → node.up ≡ Some r → lead.running ≡ r
leads_as file w n lead node r found is_up =
    let is_node = same_node lead.node node (sym lead.found ∙ found) in
    same_running lead.running r (sym lead.up ∙ (ap (λ (x : Node). x.up) is_node ∙ is_up))

pub leads_in : (file : FileId) (w : World) (n : ℕ) (lead : Leads w file n) (node : Node) (r : Running) (s : OsdState) → node_in w.nodes n ≡ Some node → node.up ≡ Some r → r.core ≡ osd s → lead.state ≡ s
leads_in file w n lead node r s found is_up is_osd =
    same_state lead.state s (sym lead.core ∙ (ap (λ (q : Running). q.core) (leads_as file w n lead node r found is_up) ∙ is_osd))

-- who doesn't run, or is no OSD, doesn't lead
pub down_leads_not : (file : FileId) (w : World) (n : ℕ) (node : Node) → node_in w.nodes n ≡ Some node → node.up ≡ None → Leads w file n → ⊥
down_leads_not file w n node found down lead =
    let is_node = same_node lead.node node (sym lead.found ∙ found) in
    let none : None ≡ Some lead.running = sym down ∙ (ap (λ (x : Node). x.up) (sym is_node) ∙ lead.up) in
    cc (none)

-- a client, or a server that is no OSD
abbrev pub IsOther : Core → Type 0
IsOther (osd s) = ⊥
IsOther (client c) = Unit {0}
IsOther (mrc m) = Unit {0}
IsOther (dir s) = Unit {0}

pub other_leads_not : (file : FileId) (w : World) (n : ℕ) (node : Node) (r : Running) → node_in w.nodes n ≡ Some node → node.up ≡ Some r → IsOther r.core → Leads w file n → ⊥
other_leads_not file w n node r found is_up other lead =
    subst IsOther (ap (λ (q : Running). q.core) (sym (leads_as file w n lead node r found is_up)) ∙ lead.core) other

-- ---- one node is another now

-- if it doesn't lead, who leads led before
pub led_else : (file : FileId) (w after : World) (there : Node) → after.nodes ≡ with_node w.nodes there → (Leads after file there.id.0 → ⊥) → (m : ℕ) → Leads after file m → Leads w file m
led_else file w after there nodes never m lead =
    elim (same m there.id.0) [
      | inl e ↦ absurd (never (subst (Leads after file) e lead))
      | inr ne ↦ led_before file w after there m nodes ne lead
    ]

-- and so if its OSD had of the file what it has, at a clock no later
pub led_back : (file : FileId) (w after : World) (own_after : List Msg) (there node : Node) (r r_after : Running) (s s_after : OsdState) → IsInOrder after own_after → after.nodes ≡ with_node w.nodes there
    → node_in w.nodes there.id.0 ≡ Some node → node.up ≡ Some r → r.core ≡ osd s → RunsAs after there r_after s_after → file_seen file s ≡ file_seen file s_after → r.clock ≤ r_after.clock
    → (m : ℕ) → Leads after file m → Leads w file m
led_back file w after own_after there node r r_after s s_after order nodes found is_up is_osd its has clock m lead =
    elim (same m there.id.0) [
      | inl e ↦ subst (Leads w file) (sym e) (here (subst (Leads after file) e lead))
      | inr ne ↦ led_before file w after there m nodes ne lead
    ]
  where
    here : Leads after file there.id.0 → Leads w file there.id.0
    here lead =
        let is_running = leads_as file after there.id.0 lead there r_after its.found its.up in
        let is_state = leads_in file after there.id.0 lead there r_after s_after its.found its.up its.core in
        led_then file w after own_after there.id.0 order lead node r s found is_up is_osd (has ∙ ap (λ (x : OsdState). file_seen file x) (sym is_state))
        (subst (λ (q : Running). r.clock ≤ q.clock) (sym is_running) clock)

-- an OSD that has just started doesn't lead
pub started_leads_not : (file : FileId) (after : World) (own_after : List Msg) (there node : Node) (r : Running) (boot : Boot) (clock : ℕ) → IsInOrder after own_after
    → RunsAs after there r (osd_starting after.times node boot clock) → Leads after file there.id.0 → ⊥
started_leads_not file after own_after there node r boot clock order its lead =
    let s = osd_starting after.times node boot clock in
    let is_state = leads_in file after there.id.0 lead there r s its.found its.up its.core in
    let fresh = started_at (awake_as s.started) (fold_of node.kept).files file in
    let none : None ≡ Some lead.tenure =
    sym (ap (λ (x : OsdState). (file_seen file x).primary.tenure) is_state ∙ ap (λ (x : FileState). x.primary.tenure) fresh) ∙ in_tenure after own_after file there.id.0 order lead in
    cc (none)

-- ---- the other things

-- the nodes are the same
pub led_same : (file : FileId) (w after : World) → after.nodes ≡ w.nodes → (m : ℕ) → Leads after file m → Leads w file m
led_same file w after nodes m lead =
    record {
      node = lead.node;
      running = lead.running;
      state = lead.state;
      tenure = lead.tenure;
      found = ap (λ (ns : List Node). node_in ns m) (sym nodes) ∙ lead.found;
      up = lead.up;
      core = lead.core;
      leads = lead.leads;
    }

-- a node is declared that doesn't lead
pub led_added : (file : FileId) (w after : World) (node : Node) → after.nodes ≡ w.nodes ++ node ∷ [] → node_in w.nodes node.id.0 ≡ None → (Leads after file node.id.0 → ⊥) → (m : ℕ) → Leads after file m → Leads w file m
led_added file w after node nodes new never m lead =
    elim (same m node.id.0) [
      | inl e ↦ absurd (never (subst (Leads after file) e lead))
      | inr ne ↦ record {
        node = lead.node;
        running = lead.running;
        state = lead.state;
        tenure = lead.tenure;
        found = sym (node_in-before w.nodes node m ne) ∙ (ap (λ (ns : List Node). node_in ns m) (sym nodes) ∙ lead.found);
        up = lead.up;
        core = lead.core;
        leads = lead.leads;
      }
    ]

-- all clocks advance
pub led_ticked : (file : FileId) (w after : World) (own_after : List Msg) (count : ℕ) → IsInOrder after own_after → after.nodes ≡ map (ticked count) w.nodes → (m : ℕ) → Leads after file m → Leads w file m
led_ticked file w after own_after count order nodes m lead = at (node_in w.nodes m) refl (sym (node_in-ticked w.nodes count m) ∙ (ap (λ (ns : List Node). node_in ns m) (sym nodes) ∙ lead.found))
  where
    by_up : (node : Node) (up : Option Running) → node_in w.nodes m ≡ Some node → node.up ≡ up → ticked count node ≡ lead.node → Leads w file m
    by_up node None found is_up is =
        absurd (let none : None ≡ Some lead.running = sym (ap (λ (u : Option Running). (ticked count (record node { up = u })).up) is_up) ∙ (ap (λ (x : Node). x.up) is ∙ lead.up) in cc (none))
    by_up node (Some r) found is_up is =
        let later : Running = record r { clock = r.clock + count } in
        let is_running : Some (record r { clock = r.clock + count }) ≡ Some lead.running
        = sym (ap (λ (u : Option Running). (ticked count (record node { up = u })).up) is_up) ∙ (ap (λ (x : Node). x.up) is ∙ lead.up) in
        let same_later = same_running later lead.running is_running in
        led_then file w after own_after m order lead node r lead.state found is_up (ap (λ (q : Running). q.core) same_later ∙ lead.core) refl
        (subst (λ (q : Running). r.clock ≤ q.clock) same_later (omega arith))

    at : (o : Option Node) → node_in w.nodes m ≡ o → option_map (ticked count) o ≡ Some lead.node → Leads w file m
    at None found is = absurd (cc)
    at (Some node) found is = by_up node node.up found refl (same_node (ticked count node) lead.node is)
