-- a step of a line: its node's messages to itself weigh less, or come of an event from outside
use Rattle.std.proofs.Common.{◌≡◌, ◌≢◌, ℕ, ◌≤◌, ◌+◌, inl, inr, Bool, true, false, List, [], ◌∷◌, ◌++◌, refl, sym, ap, ap₂, subst, ◌∙◌, arith, Option, Some, None, append-nil}
use Rattle.std.specs.Prelude.{cond, ◌==◌, max, length}
use Rattle.std.proofs.lemmas.Bool.{eqb-true}
use Rattle.std.proofs.lemmas.Bool.Decides.{nat_tests}
use Rattle.xt_base.specs.declared.ids.NodeId.{NodeId}
use Rattle.xt_messages.specs.declared.event.Event.{Event}
use Rattle.xt_messages.specs.declared.event.Event.TheVariants as event
use Rattle.xt_messages.specs.declared.message.Msg.{Msg}
use Rattle.xt_protocol.specs.declared.turned.Turned.{Turned}
use Rattle.xt_protocol.specs.LeaseRows.{is_silent}
use Rattle.time_line.specs.declared.entry.Halt.TheVariants as halt
use Rattle.lease_safety.specs.State.{Has}
use Rattle.lease_runs.proofs.Tests.{same_node}
use Rattle.xt_messages.specs.declared.record.Record.{Record}
use Rattle.xt_protocol.specs.OsdSteps.{OsdState, OsdStep, file_concerned, step_of_osd}
use Rattle.world_spec.specs.declared.TheConstants.{MESSAGES, MESSAGE_BYTES}
use Rattle.client_rows.specs.Rows.{stepped}
use Rattle.server_rows.specs.Metadata.{step_of_mrc}
use Rattle.server_rows.specs.Directory.{step_of_dir}
use Rattle.servers_end.specs.Servers.{EndsAtDir, EndsAtMrc}
use Rattle.world_spec.specs.World.{World, Node, Deed, Running, Core, osd, client, mrc, dir, world_key, node_in, with_node, known, puts}
use Rattle.world_spec.specs.NodeSteps.{to_itself, after_turn, outside_of, halted}
use Rattle.world_runs.specs.View.{awake_as}
use Rattle.lease_runs.specs.OsdView.{site_of}
use Rattle.world_runs.proofs.Frame.{next_node}
use Rattle.world_runs.proofs.Lists.{has_in, has_filter}
use Rattle.world_runs.proofs.Tables.{same, node_in-new, node_in-other, node_in-id}
use Rattle.std.proofs.Common.{length}
use Rattle.std.specs.Prelude.{Result, Ok, Err, nat_lt}
use Rattle.xt_protocol.specs.OsdSteps.{Outside, handle_event, handled_awake}
use Rattle.lease_runs.specs.OsdView.{site_of}
use Rattle.client_rows.specs.Steps.{Step}
use Rattle.xt_base.specs.declared.ids.FileId.{FileId}
use Rattle.xt_protocol.specs.FileStates.{FileState}
use Rattle.world_spec.specs.NodeSteps.{Room, Cause, Overflow, came_to, has_no_room, Doing, appends, within_limits, forgets_if, forgets_in, forgets_at, rewrites_after, rewritten_at, overflow_of, end_of_step, event_at, event_comes, core_step, osd_steps, client_steps, mrc_steps, dir_steps, loses_own, cut_in_sending, frame_bytes}
use Rattle.xt_messages.specs.declared.status.Limited.TheVariants as limited
use Rattle.world_runs.proofs.Frame.{however}
use Rattle.own_messages_wait.proofs.Chains.{Chain, Falls}
use Rattle.own_messages_wait.proofs.Osds.{FileHolds, OwnFits}
use Rattle.world_runs.proofs.Rising.{with_file_rises}
use Rattle.lease_runs.proofs.OsdLeases.{at_file, step_keeps}
use Rattle.xt_protocol.specs.FileSteps.{step_of_file}
use Rattle.xt_protocol.specs.OsdSteps.{FilesStep, file_at, handle_message}
use Rattle.own_messages_wait.proofs.Forgets.{alone_then, chain_then}
use Rattle.own_messages_wait.proofs.OneFile.{AloneFalls, IsAlone, alone_falls}
use Rattle.xt_messages.specs.declared.record.KeepBody.{KeepBody}
use Rattle.xt_protocol.specs.Forgetting.{keep_of, osd_without}
use Rattle.own_messages_wait.proofs.ChainSteps.{handled_about, handled_falls}
use Rattle.own_messages_wait.proofs.Clients.{EndsAtClient}
use Rattle.own_messages_wait.proofs.Keeping.{Stood, fits, files_stand, node_is, holds_of, lists}

-- ---- what is left to handle

pub record OsdChain (w : World) (own : List Msg) (k : ℕ) : Type 0 where
  pub node : Node
  pub running : Running
  pub state : OsdState
  pub found : node_in w.nodes node.id.0 ≡ Some node
  pub up : node.up ≡ Some running
  pub core : running.core ≡ osd state
  pub awake : is_silent state.started (max running.clock state.last) ≡ false
  pub to : (m : Msg) → Has m own → m.to ≡ node.id
  pub chain : Chain (awake_as state.started) state.started.node state.files own k

-- no message comes of this one at a node that isn't an OSD, whatever the node has become
abbrev pub EndsAt : NodeId → Core → Msg → Type 0
EndsAt id (osd s) m = ⊥
EndsAt id (client c) m = EndsAtClient id m
EndsAt id (mrc s) m = EndsAtMrc world_key m
EndsAt id (dir s) m = EndsAtDir m

pub record OtherChain (w : World) (own : List Msg) (k : ℕ) : Type 0 where
  pub node : Node
  pub running : Running
  pub found : node_in w.nodes node.id.0 ≡ Some node
  pub up : node.up ≡ Some running
  pub to : (m : Msg) → Has m own → m.to ≡ node.id
  pub ends : (m : Msg) → Has m own → EndsAt node.id running.core m
  pub low : length own ≤ k

-- The messages of a node to itself that aren't handled weigh this much at most; those of an OSD that are all about one file do so by
-- themselves, whatever its other files weigh.
pub data InChain (w : World) (own : List Msg) (k : ℕ) : Type 0 where
  no_own : own ≡ [] → InChain w own k
  of_an_osd : OsdChain w own k → InChain w own k
  of_one_file : (whole : ℕ) (c : OsdChain w own whole) (file : FileId) → IsAlone (awake_as c.state.started) c.state.started.node c.state.files own file whole k → InChain w own k
  of_another : OtherChain w own k → InChain w own k

-- a step of a line leaves so much less of it
pub record Ran (d : Doing) (e k : ℕ) (after : Doing) : Type 0 where
  pub left : after.left ≡ d.left
  pub j : ℕ
  pub less : j + e ≤ k
  pub chain : InChain after.world after.own j

abbrev pub HasRan : Doing → ℕ → ℕ → Result Doing Cause → Type 0
HasRan d e k (Ok after) = Ran d e k after
HasRan d e k (Err cause) = Unit {0}

-- ---- an OSD forgets

awake_then : (s : OsdState) (r : Running) → is_silent s.started (max r.clock s.last) ≡ false → is_silent (osd_without (keep_of s) s).started (max r.clock (osd_without (keep_of s) s).last) ≡ false
unfolding osd_without
awake_then s r is = is

-- ---- a step of a node

none_ran : (d : Doing) (e k : ℕ) (w : World) → e ≤ k → Ran d e k (loses_own d w)
none_ran d e k w low = record { left = refl; j = 0; less = (omega (arith, low)); chain = no_own refl }

step_ran : (d : Doing) (e k j : ℕ) (node : Node) (r : Running) (next : Core) (turned : Turned) → j + e ≤ k → InChain (after_turn d.world node (record r { core = next }) turned) (d.own ++ to_itself node.id turned.outs) j
    → Ran d e k (appends d node (record r { core = next }) r.crash turned.rec turned)
step_ran d e k j node r next turned low chain =
    however (λ (after : Doing). Ran d e k after) d node (record r { core = next }) turned
    (record { left = refl; j = j; less = low; chain = chain })
    (λ count. none_ran d e k (cut_in_sending d.world node (record r { core = next }) count turned) few)
    (none_ran d e k (halted d.world node (record r { core = next }) halt.Lost) few)
    (λ rec is. none_ran d e k (halted d.world (record node { kept = node.kept ++ rec ∷ []; past = node.past ++ puts rec ∷ [] }) (record r { core = next }) halt.Kept) few)
  where
    few : e ≤ k
    few = omega (arith, low)

limits_ran : (d : Doing) (e k : ℕ) (after : Doing) → Ran d e k after → HasRan d e k (within_limits after)
limits_ran d e k after ran = at (nat_lt MESSAGES (length after.world.sent)) (nat_lt MESSAGE_BYTES (frame_bytes after.world.sent))
  where
    at : (many large : Bool) → HasRan d e k (cond many (Err (came_to limited.Messages)) (cond large (Err (came_to limited.Bytes)) (Ok after)))
    at true large = tt
    at false true = tt
    at false false = ran

-- an OSD forgets, after a step that leaves so much
module _ (w : World) (own : List Msg) (node : Node) (r : Running) (s : OsdState) (found : node_in w.nodes node.id.0 ≡ Some node) (is_up : node.up ≡ Some r) (is_osd : r.core ≡ osd s) where
  abbrev then : World
  then = record w { nodes = with_node w.nodes (rewritten_at node r s) }

  same_node_up : (x : Node) (q : Running) → x.id.0 ≡ node.id.0 → node_in w.nodes x.id.0 ≡ Some x → x.up ≡ Some q → (x ≡ node) × (q ≡ r)
  same_node_up x q e there up =
      let is_node : Some x ≡ Some node = sym there ∙ ap (node_in w.nodes) e ∙ found in
      let is_running : Some q ≡ Some r = sym up ∙ ap (λ (o : Option Node). elim o [ None ↦ None | Some y ↦ y.up ]) is_node ∙ is_up in
      (cc is_node, cc is_running)

  same_osd : (x q : OsdState) → osd x ≡ osd q → x ≡ q
  same_osd x q e = cc e

  -- what waits at that OSD
  abbrev its_chain : (k : ℕ) (c : OsdChain w own k) → c.node ≡ node → c.running ≡ r → c.state ≡ s → OsdChain (record w { nodes = with_node w.nodes (rewritten_at node r s) }) own k
  its_chain k c is_node is_running is_state = record {
    node = rewritten_at node r s;
    running = record r { core = osd (osd_without (keep_of s) s) };
    state = osd_without (keep_of s) s;
    found = node_in-new w.nodes (rewritten_at node r s) node found;
    up = refl;
    core = refl;
    awake = awake_then s r (ap₂ (λ (q : Running) (x : OsdState). is_silent x.started (max q.clock x.last)) (sym is_running) (sym is_state) ∙ c.awake);
    to = λ m h. c.to m h ∙ ap (λ (n : Node). n.id) is_node;
    chain = chain_then s own k (subst (λ (x : OsdState). Chain (awake_as x.started) x.started.node x.files own k) is_state c.chain);
  }

  -- what waits at another
  abbrev other_chain : (k : ℕ) (c : OsdChain w own k) → c.node.id.0 ≢ node.id.0 → OsdChain (record w { nodes = with_node w.nodes (rewritten_at node r s) }) own k
  other_chain k c ne = record {
    node = c.node;
    running = c.running;
    state = c.state;
    found = node_in-other w.nodes (rewritten_at node r s) c.node.id.0 ne ∙ c.found;
    up = c.up;
    core = c.core;
    awake = c.awake;
    to = c.to;
    chain = c.chain;
  }

  pub forgotten_chain : (k : ℕ) → InChain w own k → InChain (record w { nodes = with_node w.nodes (rewritten_at node r s) }) own k
  forgotten_chain k (no_own none) = no_own none
  forgotten_chain k (of_an_osd c) = elim (same c.node.id.0 node.id.0) [
    | inl e ↦
        (let its = same_node_up c.node c.running e c.found c.up in
        let is_state = same_osd c.state s (sym c.core ∙ ap (λ (q : Running). q.core) its.1 ∙ is_osd) in
        of_an_osd (its_chain k c its.0 its.1 is_state))
    | inr ne ↦ of_an_osd (other_chain k c ne)
  ]
  forgotten_chain k (of_one_file whole c file alone) = elim (same c.node.id.0 node.id.0) [
    | inl e ↦
        (let its = same_node_up c.node c.running e c.found c.up in
        let is_state = same_osd c.state s (sym c.core ∙ ap (λ (q : Running). q.core) its.1 ∙ is_osd) in
        of_one_file whole (its_chain whole c its.0 its.1 is_state) file (alone_then s own file whole k (subst (λ (x : OsdState). IsAlone (awake_as x.started) x.started.node x.files own file whole k) is_state alone)))
    | inr ne ↦ of_one_file whole (other_chain whole c ne) file alone
  ]
  forgotten_chain k (of_another c) = elim (same c.node.id.0 node.id.0) [
    | inl e ↦
        (let its = same_node_up c.node c.running e c.found c.up in
        let is_core : c.running.core ≡ osd s = ap (λ (q : Running). q.core) its.1 ∙ is_osd in
        no_own (none_left own (λ m h. subst (λ (x : Core). EndsAt c.node.id x m) is_core (c.ends m h))))
    | inr ne ↦ of_another (record {
      node = c.node;
      running = c.running;
      found = node_in-other w.nodes (rewritten_at node r s) c.node.id.0 ne ∙ c.found;
      up = c.up;
      to = c.to;
      ends = c.ends;
      low = c.low;
    })
  ]
    where
      none_left : (ms : List Msg) → ((m : Msg) → Has m ms → ⊥) → ms ≡ []
      none_left [] never = refl
      none_left (m ∷ ms) never = absurd (never m (inl refl))

-- where a hull rewrites the records, what is left stays
forgets_ran : (room : Room) (d : Doing) (e k : ℕ) (id : NodeId) (rec : Option Record) (result : Result Doing Cause) → HasRan d e k result → HasRan d e k (forgets_if room id rec result)
forgets_ran room d e k id rec (Err cause) ran = tt
forgets_ran room d e k id rec (Ok after) ran = in_world (node_in after.world.nodes id.0) refl
  where
    decides : List Deed → List KeepBody → Bool
    decides = rewrites_after room after id rec

    by_core : (node : Node) (r : Running) (core : Core) → node_in after.world.nodes node.id.0 ≡ Some node → node.up ≡ Some r → r.core ≡ core → Ran d e k (record after { world = forgets_at decides after.world node r core })
    by_core node r (client c) found is_up is_core = ran
    by_core node r (mrc c) found is_up is_core = ran
    by_core node r (dir c) found is_up is_core = ran
    by_core node r (osd s) found is_up is_core = at (decides node.past (keep_of s))
      where
        at : (b : Bool) → Ran d e k (record after { world = cond b (record after.world { nodes = with_node after.world.nodes (rewritten_at node r s) }) after.world })
        at true = record { left = ran.left; j = ran.j; less = ran.less; chain = forgotten_chain after.world after.own node r s found is_up is_core ran.j ran.chain }
        at false = ran

    by_up : (node : Node) (up : Option Running) → node_in after.world.nodes node.id.0 ≡ Some node → node.up ≡ up
        → Ran d e k (record after { world = elim up [ None ↦ after.world | Some running ↦ forgets_at decides after.world node running running.core ] })
    by_up node None found is_up = ran
    by_up node (Some r) found is_up = by_core node r r.core found is_up refl

    in_world : (o : Option Node) → node_in after.world.nodes id.0 ≡ o → Ran d e k (record after { world = forgets_in decides after.world o })
    in_world None is = ran
    in_world (Some node) is = by_up node node.up (ap (node_in after.world.nodes) (node_in-id after.world.nodes id.0 node is) ∙ is) refl

pub end_ran : (room : Room) (d : Doing) (e k j : ℕ) (node : Node) (r : Running) (step : Step Core) → j + e ≤ k → InChain (after_turn d.world node (record r { core = step.state }) step.turned) (d.own ++ to_itself node.id step.turned.outs) j → HasRan d e k (end_of_step room d node r step)
end_ran room d e k j node r step low chain = at (overflow_of room node.past step.turned.rec)
  where
    at : (o : Option Overflow) → HasRan d e k (elim o [
      | Some overflow ↦ Err (has_no_room overflow)
      | None ↦ forgets_if room node.id step.turned.rec (within_limits (appends d node (record r { core = step.state }) r.crash step.turned.rec step.turned))
    ])
    at (Some overflow) = tt
    at None = forgets_ran room d e k node.id step.turned.rec (within_limits (appends d node (record r { core = step.state }) r.crash step.turned.rec step.turned)) (limits_ran d e k (appends d node (record r { core = step.state }) r.crash step.turned.rec step.turned) (step_ran d e k j node r step.state step.turned low chain))

-- where an event comes to a running node
pub comes_at : (room : Room) (d : Doing) (id : NodeId) (happens : Event) (node : Node) (r : Running) → node_in d.world.nodes id.0 ≡ Some node → node.up ≡ Some r → event_comes room d id happens ≡ end_of_step room d node r (core_step d.world.times node r.core r.clock happens)
unfolding event_comes
comes_at room d id happens node r found up =
    ap (event_at room d happens) found
    ∙ ap (λ (u : Option Running). elim u [
      | None ↦ Ok d
      | Some running ↦ end_of_step room d node running (core_step d.world.times node running.core running.clock happens)
    ]) up

-- ---- a step of an OSD

-- an OSD after a step of its files
abbrev pub osd_left : OsdState → ℕ → FilesStep → OsdStep
osd_left s now step = record { osd = record { started = s.started; last = now; files = step.files }; turned = step.turned }

-- what an OSD that is awake does
abbrev pub awake_step : Outside → OsdState → ℕ → Event → OsdStep
awake_step outside s reading happens =
    osd_left s (max reading s.last) (handle_event (site_of outside (awake_as s.started) (max reading s.last)) (awake_as s.started) s.files happens)

pub awake_is : (outside : Outside) (s : OsdState) (reading : ℕ) (happens : Event) → is_silent s.started (max reading s.last) ≡ false → step_of_osd outside s reading happens ≡ awake_step outside s reading happens
unfolding step_of_osd
awake_is outside s reading happens is = ap (λ (b : Bool). handled_awake outside s (max reading s.last) happens (cond b None (Some (awake_as s.started)))) is

pub silent_is : (outside : Outside) (s : OsdState) (reading : ℕ) (happens : Event) → is_silent s.started (max reading s.last) ≡ true → (step_of_osd outside s reading happens).turned.outs ≡ []
unfolding step_of_osd
silent_is outside s reading happens is = ap (λ (b : Bool). (handled_awake outside s (max reading s.last) happens (cond b None (Some (awake_as s.started)))).turned.outs) is

pub still_awake : (a b : ℕ) → max a (max a b) ≡ max a b
still_awake a b = grind (arith, nat_tests)

-- the chain of the node as it has become
abbrev pub osd_chain_by : (d : Doing) (node : Node) (r : Running) (s : OsdState) (step : FilesStep) (j : ℕ) → node_in d.world.nodes node.id.0 ≡ Some node → s.started.node ≡ node.id → is_silent s.started (max r.clock s.last) ≡ false → ((m : Msg) → Has m d.own → m.to ≡ node.id)
    → Chain (awake_as s.started) s.started.node step.files (d.own ++ to_itself s.started.node step.turned.outs) j
    → OsdChain (after_turn d.world node (record r { core = osd (osd_left s (max r.clock s.last) step).osd }) step.turned) (d.own ++ to_itself node.id step.turned.outs) j
osd_chain_by d node r s step j found mine awake to chain =
    record {
      node = next_node node r (osd (osd_left s (max r.clock s.last) step).osd) step.turned;
      running = record r { core = osd (osd_left s (max r.clock s.last) step).osd };
      state = (osd_left s (max r.clock s.last) step).osd;
      found = node_in-new d.world.nodes (next_node node r (osd (osd_left s (max r.clock s.last) step).osd) step.turned) node found;
      up = refl;
      core = refl;
      awake = ap (is_silent s.started) (still_awake r.clock s.last) ∙ awake;
      to = λ m h. elim (has_in m d.own (to_itself node.id step.turned.outs) h) [
        | inl old ↦ to m old
        | inr new ↦ same_node m.to node.id (eqb-true m.to.0 node.id.0 (has_filter (λ (k : Msg). k.to.0 == node.id.0) m step.turned.outs new).1)
      ];
      chain = subst (λ (id : NodeId). Chain (awake_as s.started) s.started.node step.files (d.own ++ to_itself id step.turned.outs) j) mine chain;
    }

abbrev pub osd_chain : (d : Doing) (node : Node) (r : Running) (s : OsdState) (happens : Event) (j : ℕ) → node_in d.world.nodes node.id.0 ≡ Some node → s.started.node ≡ node.id → is_silent s.started (max r.clock s.last) ≡ false → ((m : Msg) → Has m d.own → m.to ≡ node.id)
    → (let step = awake_step (outside_of node.kept) s r.clock happens in Chain (awake_as s.started) s.started.node step.osd.files (d.own ++ to_itself s.started.node step.turned.outs) j
    → OsdChain (after_turn d.world node (record r { core = osd step.osd }) step.turned) (d.own ++ to_itself node.id step.turned.outs) j)
osd_chain d node r s happens j found mine awake to chain =
    osd_chain_by d node r s (handle_event (site_of (outside_of node.kept) (awake_as s.started) (max r.clock s.last)) (awake_as s.started) s.files happens) j found mine awake to chain

-- ---- the next message of a node to itself

-- what waits after an OSD's step on its first one
module _ (w : World) (node : Node) (r : Running) (s : OsdState) (found : node_in w.nodes node.id.0 ≡ Some node) (up : node.up ≡ Some r) (core : r.core ≡ osd s) (m : Msg) (rest : List Msg) (here : m.to ≡ node.id)
    (awake : is_silent s.started (max r.clock s.last) ≡ false) (to : (x : Msg) → Has x rest → x.to ≡ node.id) (stood : Stood w (m ∷ rest)) where
  abbrev OwnStep : OsdStep
  OwnStep = awake_step (outside_of node.kept) s r.clock (event.Deliver m)

  abbrev Then : World
  Then = after_turn w node (record r { core = osd (awake_step (outside_of node.kept) s r.clock (event.Deliver m)).osd }) (awake_step (outside_of node.kept) s r.clock (event.Deliver m)).turned

  abbrev Waits : List Msg
  Waits = rest ++ to_itself node.id (awake_step (outside_of node.kept) s r.clock (event.Deliver m)).turned.outs

  is_mine : s.started.node ≡ node.id
  is_mine = node_is w (m ∷ rest) node r found up stood s core

  from_is : m.from.0 ≡ s.started.node.0
  from_is = ap (λ (n : NodeId). n.0) ((stood.mine.own_at m (inl refl)).same ∙ here ∙ sym is_mine)

  own_fits : OwnFits (awake_as s.started) s.files m.payload
  own_fits = (stood.mine.own_at m (inl refl)).stands node r s (ap (λ (n : NodeId). node_in w.nodes n.0) here ∙ found) up core

  abbrev there : Option FileId → FilesStep
  there o = handle_message (site_of (outside_of node.kept) (awake_as s.started) (max r.clock s.last)) (awake_as s.started) s.files m o

  all_hold : (f : FileState) → Has f s.files → FileHolds f
  all_hold f h = holds_of (known w) (lists w (m ∷ rest) stood) f ((fits w (m ∷ rest) node r found up stood s core).0.fits f h)

  its_falls : (k : ℕ) → Chain (awake_as s.started) s.started.node s.files (m ∷ rest) k
      → (let step = awake_step (outside_of node.kept) s r.clock (event.Deliver m) in Falls (awake_as s.started) s.started.node step.osd.files (rest ++ to_itself s.started.node step.turned.outs) k)
  its_falls k chain =
      handled_falls (outside_of node.kept) s (max r.clock s.last) all_hold (files_stand w (m ∷ rest) node r found up stood s core) (fits w (m ∷ rest) node r found up stood s core).0.rises m rest k chain (file_concerned m.payload) refl from_is own_fits

  pub own_chain : (k : ℕ) → Chain (awake_as s.started) s.started.node s.files (m ∷ rest) k
      → (let step = awake_step (outside_of node.kept) s r.clock (event.Deliver m) in (j : ℕ) × (j + 1 ≤ k) × InChain (after_turn w node (record r { core = osd step.osd }) step.turned) (rest ++ to_itself node.id step.turned.outs) j)
  own_chain k chain =
      let falls = its_falls k chain in
      (falls.j, falls.less, of_an_osd (osd_chain (record { world = w; own = rest; left = 0 }) node r s (event.Deliver m) falls.j found is_mine awake to falls.chain))

  -- where they are all about one file
  pub own_alone : (whole k : ℕ) (file : FileId) → Chain (awake_as s.started) s.started.node s.files (m ∷ rest) whole → IsAlone (awake_as s.started) s.started.node s.files (m ∷ rest) file whole k
      → (let step = awake_step (outside_of node.kept) s r.clock (event.Deliver m) in (j : ℕ) × (j + 1 ≤ k) × InChain (after_turn w node (record r { core = osd step.osd }) step.turned) (rest ++ to_itself node.id step.turned.outs) j)
  own_alone whole k file chain alone =
      let falls = its_falls whole chain in
      let left = alone_left (file_concerned m.payload) refl falls in (
        left.j,
        left.less,
        of_one_file falls.j (osd_chain (record { world = w; own = rest; left = 0 }) node r s (event.Deliver m) falls.j found is_mine awake to falls.chain) file
            (subst (λ (id : NodeId). IsAlone (awake_as s.started) s.started.node OwnStep.osd.files (rest ++ to_itself id OwnStep.turned.outs) file falls.j left.j) is_mine left.alone),
      )
    where
      about : file_concerned m.payload ≡ Some file
      about = alone.about m (inl refl)

      alone_left : (o : Option FileId) → file_concerned m.payload ≡ o → (falls : Falls (awake_as s.started) s.started.node (there o).files (rest ++ to_itself s.started.node (there o).turned.outs) whole)
          → AloneFalls (awake_as s.started) s.started.node (there o).files (rest ++ to_itself s.started.node (there o).turned.outs) file falls.j k
      alone_left None is falls = absurd (no_file (sym is ∙ about))
        where
          no_file : None ≡ Some file → ⊥
          no_file e = cc e
      alone_left (Some g) is falls = alone_at g (some_file (sym is ∙ about)) falls
        where
          some_file : {a b : FileId} → Some a ≡ Some b → b ≡ a
          some_file e = cc e

          alone_at : (g : FileId) → file ≡ g → (falls : Falls (awake_as s.started) s.started.node (there (Some g)).files (rest ++ to_itself s.started.node (there (Some g)).turned.outs) whole)
              → AloneFalls (awake_as s.started) s.started.node (there (Some g)).files (rest ++ to_itself s.started.node (there (Some g)).turned.outs) file falls.j k
          alone_at g e falls =
              let now_is : file_concerned m.payload ≡ Some g = about ∙ ap (λ (x : FileId). Some x) e in
              let next = step_of_file (site_of (outside_of node.kept) (awake_as s.started) (max r.clock s.last)) (file_at (awake_as s.started) s.files g) m.from m.payload in
              let its = fits w (m ∷ rest) node r found up stood s core in
              let same_file = step_keeps (site_of (outside_of node.kept) (awake_as s.started) (max r.clock s.last)) (file_at (awake_as s.started) s.files g) m.from m.payload ∙ at_file (awake_as s.started) s.files g in
              subst (λ (x : FileId). AloneFalls (awake_as s.started) s.started.node (there (Some g)).files (rest ++ to_itself s.started.node (there (Some g)).turned.outs) x falls.j k) (sym e)
              (alone_falls (awake_as s.started) s.started.node s.files (m ∷ rest) (rest ++ to_itself s.started.node (there (Some g)).turned.outs) g next.state whole k its.0.rises (with_file_rises s.files next.state its.0.rises) same_file
              (subst (λ (x : FileId). IsAlone (awake_as s.started) s.started.node s.files (m ∷ rest) x whole k) e alone)
              (λ x h. elim (has_in x rest (to_itself s.started.node next.turned.outs) h) [
                | inl old ↦ alone.about x (inr old) ∙ ap (λ (y : FileId). Some y) e
                | inr new ↦ handled_about (outside_of node.kept) s (max r.clock s.last) all_hold (files_stand w (m ∷ rest) node r found up stood s core) its.0.rises m rest whole chain g now_is from_is own_fits x new
              ]) falls)

-- what waits at another node after its step on the first one, of which no message comes
other_then : (w : World) (node : Node) (r : Running) (next : Core) (turned : Turned) (rest : List Msg) → node_in w.nodes node.id.0 ≡ Some node → turned.outs ≡ [] → ((x : Msg) → Has x rest → x.to ≡ node.id)
    → ((x : Msg) → Has x rest → EndsAt node.id next x) → InChain (after_turn w node (record r { core = next }) turned) (rest ++ to_itself node.id turned.outs) (length rest)
other_then w node r next turned rest found none to ends =
    subst (λ (ms : List Msg). InChain (after_turn w node (record r { core = next }) turned) ms (length rest)) (sym (ap (λ (outs : List Msg). rest ++ to_itself node.id outs) none ∙ append-nil rest))
    (of_another (record {
      node = next_node node r next turned;
      running = record r { core = next };
      found = node_in-new w.nodes (next_node node r next turned) node found;
      up = refl;
      to = to;
      ends = ends;
      low = same_le (length rest);
    }))
  where
    same_le : (a : ℕ) → a ≤ a
    same_le a = omega arith

-- the step of an OSD on its first one
osd_ran : (room : Room) (d : Doing) (m : Msg) (rest : List Msg) (k : ℕ) (node : Node) (r : Running) (s : OsdState) → node_in d.world.nodes node.id.0 ≡ Some node → node.up ≡ Some r → r.core ≡ osd s → m.to ≡ node.id
    → is_silent s.started (max r.clock s.last) ≡ false → (j : ℕ) → j + 1 ≤ k
    → (let step = awake_step (outside_of node.kept) s r.clock (event.Deliver m) in InChain (after_turn d.world node (record r { core = osd step.osd }) step.turned) (rest ++ to_itself node.id step.turned.outs) j)
    → HasRan (record d { own = rest }) 1 k (event_comes room (record d { own = rest }) m.to (event.Deliver m))
osd_ran room d m rest k node r s found up core here awake j less chain =
    subst (HasRan (record d { own = rest }) 1 k)
    (sym (comes_at room (record d { own = rest }) m.to (event.Deliver m) node r (ap (λ (n : NodeId). node_in d.world.nodes n.0) here ∙ found) up
    ∙ ap (λ (core : Core). end_of_step room (record d { own = rest }) node r (core_step d.world.times node core r.clock (event.Deliver m))) core
    ∙ ap (λ (step : OsdStep). end_of_step room (record d { own = rest }) node r (osd_steps step)) (awake_is (outside_of node.kept) s r.clock (event.Deliver m) awake)))
    (end_ran room (record d { own = rest }) 1 k j node r (osd_steps (awake_step (outside_of node.kept) s r.clock (event.Deliver m))) less chain)

pub own_ran : (room : Room) (d : Doing) (m : Msg) (rest : List Msg) (k : ℕ) → Stood d.world (m ∷ rest) → InChain d.world (m ∷ rest) k → HasRan (record d { own = rest }) 1 k (event_comes room (record d { own = rest }) m.to (event.Deliver m))
own_ran room d m rest k stood (no_own none) = absurd (cc none)
own_ran room d m rest k stood (of_an_osd c) =
    let here : m.to ≡ c.node.id = c.to m (inl refl) in
    let next = own_chain d.world c.node c.running c.state c.found c.up c.core m rest here c.awake (λ x h. c.to x (inr h)) stood k c.chain in
    osd_ran room d m rest k c.node c.running c.state c.found c.up c.core here c.awake next.0 next.1 next.2
own_ran room d m rest k stood (of_one_file whole c file alone) =
    let here : m.to ≡ c.node.id = c.to m (inl refl) in
    let next = own_alone d.world c.node c.running c.state c.found c.up c.core m rest here c.awake (λ x h. c.to x (inr h)) stood whole k file c.chain alone in
    osd_ran room d m rest k c.node c.running c.state c.found c.up c.core here c.awake next.0 next.1 next.2
own_ran room d m rest k stood (of_another c) =
    let here : m.to ≡ c.node.id = c.to m (inl refl) in
    subst (HasRan (record d { own = rest }) 1 k)
    (sym (comes_at room (record d { own = rest }) m.to (event.Deliver m) c.node c.running (ap (λ (n : NodeId). node_in d.world.nodes n.0) here ∙ c.found) c.up))
    (at c.running.core refl)
  where
    at : (core : Core) → c.running.core ≡ core → HasRan (record d { own = rest }) 1 k (end_of_step room (record d { own = rest }) c.node c.running (core_step d.world.times c.node core c.running.clock (event.Deliver m)))
    at core is = by core (λ x h. subst (λ (y : Core). EndsAt c.node.id y x) is (c.ends x h))
      where
        less : length rest + 1 ≤ k
        less = let low = c.low in omega (arith, low)

        by : (core : Core) → ((x : Msg) → Has x (m ∷ rest) → EndsAt c.node.id core x) → HasRan (record d { own = rest }) 1 k (end_of_step room (record d { own = rest }) c.node c.running (core_step d.world.times c.node core c.running.clock (event.Deliver m)))
        by (osd s) ends = absurd (ends m (inl refl))
        by (client s) ends =
            let step = stepped c.node.id d.world.times s c.running.clock (event.Deliver m) in
            end_ran room (record d { own = rest }) 1 k (length rest) c.node c.running (client_steps step) less
            (other_then d.world c.node c.running (client step.state) step.turned rest c.found (ends m (inl refl) d.world.times s c.running.clock) (λ x h. c.to x (inr h)) (λ x h. ends x (inr h)))
        by (mrc s) ends =
            let step = step_of_mrc world_key s c.running.clock (event.Deliver m) in
            end_ran room (record d { own = rest }) 1 k (length rest) c.node c.running (mrc_steps step) less
            (other_then d.world c.node c.running (mrc step.mrc) step.turned rest c.found (ends m (inl refl) s c.running.clock) (λ x h. c.to x (inr h)) (λ x h. ends x (inr h)))
        by (dir s) ends =
            let step = step_of_dir s (event.Deliver m) in
            end_ran room (record d { own = rest }) 1 k (length rest) c.node c.running (dir_steps step) less
            (other_then d.world c.node c.running (dir step.dir) step.turned rest c.found (ends m (inl refl) s) (λ x h. c.to x (inr h)) (λ x h. ends x (inr h)))
