-- In every run a line is over after its steps.
use Rattle.std.proofs.Common.{◌≡◌, ℕ, ◌≤◌, ◌+◌, inl, inr, Bool, true, false, List, [], ◌∷◌, ◌++◌, map, refl, sym, ap, ap₂, subst, ◌∙◌, arith, Option, Some, None, if◌then◌else◌}
use Rattle.std.specs.Prelude.{cond, ◌==◌, max, length}
use Rattle.std.proofs.lemmas.Bool.{eqb-true}
use Rattle.xt_base.specs.declared.ids.NodeId.{NodeId}
use Rattle.xt_messages.specs.declared.event.Event.{Event}
use Rattle.xt_messages.specs.declared.event.Event.TheVariants as event
use Rattle.xt_messages.specs.declared.message.Msg.{Msg}
use Rattle.xt_messages.specs.declared.record.Record.TheVariants as kept
use Rattle.xt_protocol.specs.LeaseRows.{is_silent}
use Rattle.lease_safety.specs.State.{Has}
use Rattle.lease_runs.proofs.Tests.{same_node}
use Rattle.xt_protocol.specs.OsdSteps.{OsdState, OsdStep, step_of_osd}
use Rattle.world_spec.specs.declared.TheConstants.{NODES}
use Rattle.world_spec.specs.declared.Sent.{Sent}
use Rattle.client_rows.specs.Rows.{WholeClient, stepped, called_again}
use Rattle.client_rows.specs.Steps.{Step}
use Rattle.client_steps.specs.Asked.{Sends, sends_none, sends_one}
use Rattle.server_rows.specs.Metadata.{MrcState, step_of_mrc}
use Rattle.server_rows.specs.Directory.{DirState, step_of_dir}
use Rattle.servers_end.specs.Servers.{EndsAtDir, EndsAtMrc, dir_node, mrc_node}
use Rattle.servers_end.proofs.Servers.{dir_ends, mrc_ends}
use Rattle.world_limits.proofs.Lists.{each_of}
use Rattle.world_spec.specs.World.{World, Node, Running, Core, osd, client, mrc, dir, world_key, node_in, loads}
use Rattle.xt_protocol.specs.declared.turned.Turned.{Turned}
use Rattle.world_spec.specs.NodeSteps.{to_itself, after_turn, outside_of}
use Rattle.client_rows.specs.Called.{called_file}
use Rattle.world_spec.specs.Lines.{next_boot, no_longer_pending, ready_for}
use Rattle.world_runs.proofs.Frame.{next_node}
use Rattle.world_runs.proofs.Lists.{has_filter}
use Rattle.world_runs.proofs.Tables.{node_in-new, node_in-id}
use Rattle.world_runs.proofs.Walk.{Reaches, call_step}
use Rattle.own_messages_wait.proofs.Outside.{bound_of, outside_chain}
use Rattle.own_messages_wait.proofs.Clients.{AnyRequest, ClientGives, event_gives, call_gives, again_gives, sends_end}
use Rattle.std.proofs.Common.{◌*◌}
use Rattle.std.specs.Prelude.{Result, Ok, Err, nat_lt, slice_get, slice_set, ◌-◌, zero, suc}
use Rattle.xt_messages.specs.declared.event.Call.{Call}
use Rattle.world_spec.specs.Lines.{OWN, delivers}
use Rattle.world_spec.specs.NodeSteps.{Room, Cause, Overflow, came_to, has_no_room, Doing, end_of_step, event_at, event_comes, core_step, osd_steps, client_steps, mrc_steps, dir_steps}
use Rattle.xt_messages.specs.declared.status.Limited.TheVariants as limited
use Rattle.own_messages_wait.proofs.Keeping.{Stood, stands_here, stood_kept}
use Rattle.time_line.specs.declared.line.Line.{Line}
use Rattle.time_line.specs.declared.line.Line.TheVariants as line
use Rattle.world_spec.specs.Rules.{refusal}
use Rattle.world_spec.specs.Lines.{Next, finished, opens, goes_on, ends, opening, begins, went, settles, works_on, next_step, steps, first_step, enough, events_of, done, least_pending, starts, starts_as, declares, calls, core_calls, calls_again, core_calls_again, does, tells}
use Rattle.world_spec.specs.Runs.{IsOver, IsEnough, run_of}
use Rattle.time_line.specs.Bounds.{AreLines, FitsLine}
use Rattle.world_runs.proofs.Walk.{NextIs, steps_kept, steps_into}
use Rattle.own_messages_wait.proofs.Running.{EndsAt, InChain, no_own, of_another, Ran, HasRan, end_ran, awake_step, awake_is, silent_is, own_ran}
use Rattle.xt_base.specs.declared.TheConstants.{COUNTS}
use Rattle.time_line.specs.declared.entry.Entry.{Entry}

-- ---- an event from outside

-- what a node that isn't an OSD sends itself: one message at most, of which none comes
record Answers (id : NodeId) (next : Core) (turned : Turned) : Type 0 where
  few : length (to_itself id turned.outs) ≤ 1
  ends : (m : Msg) → Has m (to_itself id turned.outs) → EndsAt id next m

answers_chain : (d : Doing) (node : Node) (r : Running) (next : Core) (turned : Turned) → d.own ≡ [] → node_in d.world.nodes node.id.0 ≡ Some node → Answers node.id next turned
    → InChain (after_turn d.world node (record r { core = next }) turned) (d.own ++ to_itself node.id turned.outs) 1
answers_chain d node r next turned idle found answers =
    subst (λ (own : List Msg). InChain (after_turn d.world node (record r { core = next }) turned) (own ++ to_itself node.id turned.outs) 1) (sym idle)
    (of_another (record {
      node = next_node node r next turned;
      running = record r { core = next };
      found = node_in-new d.world.nodes (next_node node r next turned) node found;
      up = refl;
      to = λ m h. same_node m.to node.id (eqb-true m.to.0 node.id.0 (has_filter (λ (k : Msg). k.to.0 == node.id.0) m turned.outs h).1);
      ends = answers.ends;
      low = answers.few;
    }))

client_answers : (id : NodeId) (step : Step WholeClient) → ClientGives id step → Answers id (client step.state) step.turned
client_answers id step gives = record {
  few = few step.turned.outs gives.sends;
  ends = λ m h. sends_end id step.turned.outs gives.sends m (has_filter (λ (k : Msg). k.to.0 == id.0) m step.turned.outs h).0;
}
  where
    one : (m : Msg) → length (to_itself id (m ∷ [])) ≤ 1
    one m = by (m.to.0 == id.0)
      where
        by : (b : Bool) → length (cond b (m ∷ []) []) ≤ 1
        by true = omega arith
        by false = omega arith

    few : (outs : List Msg) → Sends AnyRequest id outs → length (to_itself id outs) ≤ 1
    few _ sends_none = omega arith
    few _ (sends_one to number asked is) = one _

mrc_answers : (id : NodeId) (m : MrcState) (reading : ℕ) (happens : Event) → id ≡ mrc_node → (let step = step_of_mrc world_key m reading happens in Answers id (mrc step.mrc) step.turned)
mrc_answers id m reading happens here =
    let step = step_of_mrc world_key m reading happens in
    let few = mrc_ends world_key m reading happens in
    subst (λ (n : NodeId). Answers n (mrc step.mrc) step.turned) (sym here) (record { few = few.0; ends = λ x h. each_of (EndsAtMrc world_key) (to_itself mrc_node step.turned.outs) x few.1 h })

dir_answers : (id : NodeId) (s : DirState) (happens : Event) → id ≡ dir_node → (let step = step_of_dir s happens in Answers id (dir step.dir) step.turned)
dir_answers id s happens here =
    let step = step_of_dir s happens in
    let few = dir_ends s happens in
    subst (λ (n : NodeId). Answers n (dir step.dir) step.turned) (sym here) (record { few = few.0; ends = λ x h. each_of EndsAtDir (to_itself dir_node step.turned.outs) x few.1 h })

-- an event may bring one
one_low : (w : World) (happens : Event) → 1 ≤ bound_of w happens
one_low w event.Wake = omega arith
one_low w (event.Deliver m) = omega arith
one_low w (event.Call call) = omega arith

comes_is : (room : Room) (d : Doing) (id : NodeId) (happens : Event) (found : Option Node) → node_in d.world.nodes id.0 ≡ found → event_comes room d id happens ≡ event_at room d happens found
unfolding event_comes
comes_is room d id happens found is = ap (event_at room d happens) is

module _ (room : Room) where
  -- an event comes that is no message of the node to itself
  event_ran : (d : Doing) (id : NodeId) (happens : Event) → d.own ≡ [] → Stood d.world [] → Reaches d.world [] id happens → HasRan d 0 (bound_of d.world happens) (event_comes room d id happens)
  event_ran d id happens idle stood reaches = at (node_in d.world.nodes id.0) refl
    where
      nothing : Ran d 0 (bound_of d.world happens) d
      nothing = record { left = refl; j = 0; less = omega arith; chain = no_own idle }

      -- at an OSD
      by_osd : (node : Node) (r : Running) (s : OsdState) (found : node_in d.world.nodes node.id.0 ≡ Some node) (up : node.up ≡ Some r) (core : r.core ≡ osd s) → Reaches d.world [] node.id happens → (b : Bool) → is_silent s.started (max r.clock s.last) ≡ b
          → HasRan d 0 (bound_of d.world happens) (end_of_step room d node r (osd_steps (step_of_osd (outside_of node.kept) s r.clock happens)))
      by_osd node r s found up core comes true silent =
          end_ran room d 0 (bound_of d.world happens) 0 node r (osd_steps (step_of_osd (outside_of node.kept) s r.clock happens)) (omega arith)
          (no_own (ap₂ (λ (own outs : List Msg). own ++ to_itself node.id outs) idle (silent_is (outside_of node.kept) s r.clock happens silent)))
      by_osd node r s found up core comes false awake =
          let same = awake_is (outside_of node.kept) s r.clock happens awake in
          let step = awake_step (outside_of node.kept) s r.clock happens in
          let whole = subst (λ (own : List Msg). InChain (after_turn d.world node (record r { core = osd step.osd }) step.turned) (own ++ to_itself node.id step.turned.outs) (bound_of d.world happens)) (sym idle)
          (outside_chain d.world node r s found up core stood awake happens comes) in
          subst (λ (step : OsdStep). HasRan d 0 (bound_of d.world happens) (end_of_step room d node r (osd_steps step))) (sym same)
          (end_ran room d 0 (bound_of d.world happens) (bound_of d.world happens) node r (osd_steps (awake_step (outside_of node.kept) s r.clock happens)) (omega arith) whole)

      -- at another node
      by_other : (node : Node) (r : Running) (step : Step Core) → node_in d.world.nodes node.id.0 ≡ Some node → Answers node.id step.state step.turned
          → HasRan d 0 (bound_of d.world happens) (end_of_step room d node r step)
      by_other node r step found answers =
          end_ran room d 0 (bound_of d.world happens) 1 node r step (let least = one_low d.world happens in omega (arith, least)) (answers_chain d node r step.state step.turned idle found answers)

      by_core : (node : Node) (r : Running) (core : Core) (found : node_in d.world.nodes node.id.0 ≡ Some node) (up : node.up ≡ Some r) → r.core ≡ core → Reaches d.world [] node.id happens
          → HasRan d 0 (bound_of d.world happens) (end_of_step room d node r (core_step d.world.times node core r.clock happens))
      by_core node r (osd s) found up core comes = by_osd node r s found up core comes (is_silent s.started (max r.clock s.last)) refl
      by_core node r (client c) found up core comes =
          let step = stepped node.id d.world.times c r.clock happens in
          by_other node r (client_steps step) found (client_answers node.id step (event_gives node.id d.world.times c r.clock happens))
      by_core node r (mrc m) found up core comes =
          by_other node r (mrc_steps (step_of_mrc world_key m r.clock happens)) found (mrc_answers node.id m r.clock happens (stands_here d.world [] node r found up stood (mrc m) core))
      by_core node r (dir s) found up core comes =
          by_other node r (dir_steps (step_of_dir s happens)) found (dir_answers node.id s happens (stands_here d.world [] node r found up stood (dir s) core))

      by_up : (node : Node) (u : Option Running) → node_in d.world.nodes node.id.0 ≡ Some node → node.id ≡ id → node.up ≡ u
          → HasRan d 0 (bound_of d.world happens) (elim u [
            | None ↦ Ok d
            | Some running ↦ end_of_step room d node running (core_step d.world.times node running.core running.clock happens)
          ])
      by_up node None found mine up = nothing
      by_up node (Some r) found mine up = by_core node r r.core found up refl (subst (λ (n : NodeId). Reaches d.world [] n happens) (sym mine) reaches)

      event_at_ran : (found : Option Node) → node_in d.world.nodes id.0 ≡ found → HasRan d 0 (bound_of d.world happens) (event_at room d happens found)
      event_at_ran None is = nothing
      event_at_ran (Some node) is = by_up node node.up (ap (node_in d.world.nodes) (node_in-id d.world.nodes id.0 node is) ∙ is) (same_node node.id id (node_in-id d.world.nodes id.0 node is)) refl

      at : (found : Option Node) → node_in d.world.nodes id.0 ≡ found → HasRan d 0 (bound_of d.world happens) (event_comes room d id happens)
      at found is = subst (HasRan d 0 (bound_of d.world happens)) (sym (comes_is room d id happens found is)) (event_at_ran found is)

  -- ---- deliveries

  kept_there : (xs : List Sent) (k : ℕ) (s : Sent) → slice_get xs k ≡ Some s → Has s.message (map (λ (s : Sent). s.message) (slice_set xs k (record s { pending = false })))
  kept_there [] k s is = absurd (cc)
  kept_there (x ∷ xs) zero s is = inl refl
  kept_there (x ∷ xs) (suc k) s is = inr (kept_there xs k s is)

  delivers_ran : (d : Doing) (number : ℕ) → d.own ≡ [] → Stood d.world [] → HasRan d 0 OWN (delivers room d number)
  delivers_ran d number idle stood = at (slice_get d.world.sent (number - 1)) refl
    where
      here : Stood (record d.world { sent = no_longer_pending d.world.sent number }) []
      here = stood_kept.less_pending d.world [] number stood

      back : (result : Result Doing Cause) → HasRan (record d { world = record d.world { sent = no_longer_pending d.world.sent number } }) 0 OWN result → HasRan d 0 OWN result
      back (Ok a) ran = record { left = ran.left; j = ran.j; less = ran.less; chain = ran.chain }
      back (Err cause) ran = tt

      at : (o : Option Sent) → slice_get d.world.sent (number - 1) ≡ o
          → HasRan d 0 OWN (elim o [
            | None ↦ Ok (record d { world = record d.world { sent = no_longer_pending d.world.sent number } })
            | Some s ↦ event_comes room (record d { world = record d.world { sent = no_longer_pending d.world.sent number } }) s.message.to (event.Deliver s.message)
          ])
      at None is = record { left = refl; j = 0; less = omega arith; chain = no_own idle }
      at (Some s) is =
          back (event_comes room (record d { world = record d.world { sent = no_longer_pending d.world.sent number } }) s.message.to (event.Deliver s.message))
          (event_ran (record d { world = record d.world { sent = no_longer_pending d.world.sent number } }) s.message.to (event.Deliver s.message) idle here
          (refl, subst (λ (o : Option Sent). Has s.message (map (λ (s : Sent). s.message) (elim o [ None ↦ d.world.sent | Some s ↦ slice_set d.world.sent (number - 1) (record s { pending = false }) ]))) (sym is) (kept_there d.world.sent (number - 1) s is), inl refl))

  -- ---- to the end

  abbrev pub Fits : Next → Type 0
  Fits next = NextIs Stood stood_kept next

  next_fits : (next : Next) → Fits next → Fits (next_step room next)
  unfolding steps next_step
  next_fits (finished w) fit = fit
  next_fits (ends cause w) fit = fit
  next_fits (opens l w) fit = steps_kept Stood stood_kept 1 room (opens l w) fit
  next_fits (goes_on d) fit = steps_kept Stood stood_kept 1 room (goes_on d) fit

  works_fit : (d : Doing) (own : List Msg) → d.own ≡ own → Fits (goes_on d) → Fits (works_on room d own)
  unfolding next_step
  works_fit d own is fit = subst (λ (own : List Msg). Fits (works_on room d own)) is (next_fits (goes_on d) fit)

  first_fits : (l : Line) (w : World) → Fits (opens l w) → Fits (went w (first_step room (record { world = w; own = []; left = 0 }) l))
  unfolding next_step
  first_fits l w fit = next_fits (opens l w) fit

  stays_finished : (k : ℕ) (w : World) → IsOver (steps k room (finished w))
  unfolding steps
  stays_finished zero w = tt
  stays_finished (suc k) w = tt

  stays_ended : (k : ℕ) (cause : Cause) (w : World) → IsOver (steps k room (ends cause w))
  unfolding steps
  stays_ended zero cause w = tt
  stays_ended (suc k) cause w = tt

  -- how many steps are left at most, where an event brings no more than `most` messages of a node to itself
  module _ (most : ℕ) (is_most : OWN ≤ most) where
    abbrev pub Within : ℕ → Doing → ℕ → Type 0
    Within k d c = 1 + c + d.left * (1 + most) ≤ k

    abbrev pub Rest : ℕ → Type 0
    Rest k = (d : Doing) (c : ℕ) → Fits (goes_on d) → InChain d.world d.own c → Within k d c → IsOver (steps k room (goes_on d))

    after_ran : (k : ℕ) (w : World) (d : Doing) (e c : ℕ) (result : Result Doing Cause) → Rest k → Fits (went w result) → HasRan d e c result → (c - e) + d.left * (1 + most) + 1 ≤ k → e ≤ c → IsOver (steps k room (went w result))
    after_ran k w d e c (Err cause) rest fit ran low some = stays_ended k cause w
    after_ran k w d e c (Ok a) rest fit ran low some =
        let left = ap (λ (l : ℕ). l * (1 + most)) ran.left in
        let less = ran.less in
        rest a ran.j fit ran.chain (omega (arith, left, less, low, some))

    settles_over : (k : ℕ) (d : Doing) (left : ℕ) → Rest k → d.own ≡ [] → Stood d.world [] → Fits (settles room d left) → 1 + left * (1 + most) ≤ suc k → IsOver (steps k room (settles room d left))
    settles_over k d zero rest idle stood fit low = stays_finished k d.world
    settles_over k d (suc left) rest idle stood fit low = at (least_pending 1 d.world.sent) fit
      where
        at : (o : Option ℕ) → Fits (elim o [
          | None ↦ finished d.world
          | Some number ↦ went d.world (delivers room (record d { left = left }) number)
        ]) → IsOver (steps k room (elim o [
          | None ↦ finished d.world
          | Some number ↦ went d.world (delivers room (record d { left = left }) number)
        ]))
        at None fit = stays_finished k d.world
        at (Some number) fit =
            after_ran k d.world (record d { left = left }) 0 OWN (delivers room (record d { left = left }) number) rest fit (delivers_ran (record d { left = left }) number idle stood)
            (fewer left most OWN k is_most low) (omega arith)
          where
            fewer : (left x y k : ℕ) → y ≤ x → 1 + suc left * (1 + x) ≤ suc k → (y - 0) + left * (1 + x) + 1 ≤ k
            fewer left x y k some low = grind (arith, some, low)

    works_over : (k : ℕ) (d : Doing) (own : List Msg) (c : ℕ) → Rest k → d.own ≡ own → Stood d.world own → Fits (works_on room d own) → InChain d.world own c → Within (suc k) d c → IsOver (steps k room (works_on room d own))
    works_over k d [] c rest idle stood fit chain low = settles_over k d d.left rest idle stood fit (omega (arith, low))
    works_over k d (m ∷ own) c rest is stood fit chain low = at (event_comes room (record d { own = own }) m.to (event.Deliver m)) fit (own_ran room d m own c stood chain)
      where
        at : (result : Result Doing Cause) → Fits (went d.world result) → HasRan (record d { own = own }) 1 c result → IsOver (steps k room (went d.world result))
        at (Err cause) fit ran = stays_ended k cause d.world
        at (Ok a) fit ran =
            let left = ap (λ (l : ℕ). l * (1 + most)) ran.left in
            let less = ran.less in
            rest a ran.j fit ran.chain (omega (arith, left, less, low))

    over : (k : ℕ) → Rest k
    unfolding steps next_step
    over zero d c fit chain low = absurd (omega (arith, low))
    over (suc k) d c fit chain low = works_over k d d.own c (over k) refl fit (works_fit d d.own refl fit) chain low

  -- ---- the first step

  -- what an event of a line brings at most
  abbrev most_of : World → ℕ
  most_of w = OWN * (1 + length w.files + length w.made)

  -- what the first step leaves, with no deliveries after it
  pub record Opened (x : ℕ) (after : Doing) : Type 0 where
    pub none_left : after.left ≡ 0
    pub c : ℕ
    pub low : c ≤ 1 + x
    pub chain : InChain after.world after.own c

  abbrev pub HasOpened : ℕ → Result Doing Cause → Type 0
  HasOpened x (Ok after) = Opened x after
  HasOpened x (Err cause) = Unit {0}

  calm : (x : ℕ) (w : World) → Opened x (record { world = w; own = []; left = 0 })
  calm x w = record { none_left = refl; c = 0; low = omega arith; chain = no_own refl }

  opened : (x c : ℕ) (d : Doing) (result : Result Doing Cause) → d.left ≡ 0 → c ≤ 1 + x → HasRan d 0 c result → HasOpened x result
  opened x c d (Err cause) none low ran = tt
  opened x c d (Ok a) none low ran = record { none_left = ran.left ∙ none; c = ran.j; low = (let less = ran.less in omega (arith, less, low)); chain = ran.chain }

  abbrev pub new_line : World → Doing
  new_line w = record { world = w; own = []; left = 0 }

  -- a client's step that begins a line
  client_opened : (w : World) (node : Node) (r : Running) (step : Step WholeClient) → node_in w.nodes node.id.0 ≡ Some node → ClientGives node.id step
      → HasOpened (most_of w) (end_of_step room (new_line w) node r (client_steps step))
  client_opened w node r step found gives =
      opened (most_of w) 1 (new_line w) (end_of_step room (new_line w) node r (client_steps step)) refl (omega arith)
      (end_ran room (new_line w) 0 1 1 node r (client_steps step) (omega arith) (answers_chain (new_line w) node r (client step.state) step.turned refl found (client_answers node.id step gives)))

  calls_opened : (w : World) (id : NodeId) (k : Call) → HasOpened (most_of w) (calls room (new_line w) (node_in w.nodes id.0) k)
  calls_opened w id k = at (node_in w.nodes id.0) refl
    where
      by_core : (node : Node) (r : Running) (core : Core) → node_in w.nodes node.id.0 ≡ Some node → HasOpened (most_of w) (core_calls room (new_line w) node r core k)
      by_core node r (osd s) found = calm (most_of w) w
      by_core node r (mrc m) found = calm (most_of w) w
      by_core node r (dir s) found = calm (most_of w) w
      by_core node r (client c) found = client_opened w node r (call_step w node r c k) found (call_gives node.id w.times (ready_for w.files c k (called_file k)) r.clock k)

      by_up : (node : Node) → node_in w.nodes node.id.0 ≡ Some node → (up : Option Running)
          → HasOpened (most_of w) (elim up [ None ↦ Ok (new_line w) | Some running ↦ core_calls room (new_line w) node running running.core k ])
      by_up node found None = calm (most_of w) w
      by_up node found (Some r) = by_core node r r.core found

      at : (found : Option Node) → node_in w.nodes id.0 ≡ found → HasOpened (most_of w) (calls room (new_line w) found k)
      at None is = calm (most_of w) w
      at (Some node) is = by_up node (ap (node_in w.nodes) (node_in-id w.nodes id.0 node is) ∙ is) node.up

  again_opened : (w : World) (id : NodeId) → HasOpened (most_of w) (calls_again room (new_line w) (node_in w.nodes id.0))
  again_opened w id = at (node_in w.nodes id.0) refl
    where
      by_core : (node : Node) (r : Running) (core : Core) → node_in w.nodes node.id.0 ≡ Some node → HasOpened (most_of w) (core_calls_again room (new_line w) node r core)
      by_core node r (osd s) found = calm (most_of w) w
      by_core node r (mrc m) found = calm (most_of w) w
      by_core node r (dir s) found = calm (most_of w) w
      by_core node r (client c) found = client_opened w node r (called_again node.id w.times c r.clock) found (again_gives node.id w.times c r.clock)

      by_up : (node : Node) → node_in w.nodes node.id.0 ≡ Some node → (up : Option Running)
          → HasOpened (most_of w) (elim up [ None ↦ Ok (new_line w) | Some running ↦ core_calls_again room (new_line w) node running running.core ])
      by_up node found None = calm (most_of w) w
      by_up node found (Some r) = by_core node r r.core found

      at : (found : Option Node) → node_in w.nodes id.0 ≡ found → HasOpened (most_of w) (calls_again room (new_line w) found)
      at None is = calm (most_of w) w
      at (Some node) is = by_up node (ap (node_in w.nodes) (node_in-id w.nodes id.0 node is) ∙ is) node.up

  starts_opened : (w : World) (id : NodeId) (clock : ℕ) → HasOpened (most_of w) (starts room (new_line w) clock (node_in w.nodes id.0))
  starts_opened w id clock = at (node_in w.nodes id.0)
    where
      by_room : (node : Node) (o : Option Overflow) → HasOpened (most_of w) (elim o [ Some overflow ↦ Err (has_no_room overflow) | None ↦ does (new_line w) (starts_as w node (next_boot node.kept) clock) ])
      by_room node (Some overflow) = tt
      by_room node None = calm (most_of w) (starts_as w node (next_boot node.kept) clock)

      by_boot : (node : Node) (b : Bool)
          → HasOpened (most_of w) (cond b (elim (room.overflow (node.past ++ loads ∷ []) (kept.Boot (next_boot node.kept))) [ Some overflow ↦ Err (has_no_room overflow) | None ↦ does (new_line w) (starts_as w node (next_boot node.kept) clock) ]) (Err (came_to limited.Boots)))
      by_boot node true = by_room node (room.overflow (node.past ++ loads ∷ []) (kept.Boot (next_boot node.kept)))
      by_boot node false = tt

      at : (found : Option Node) → HasOpened (most_of w) (starts room (new_line w) clock found)
      at None = calm (most_of w) w
      at (Some node) = by_boot node (nat_lt (next_boot node.kept).0 COUNTS)

  declares_opened : (w : World) (node : Node) (es : List Entry) → HasOpened (most_of w) (declares (new_line w) node es)
  declares_opened w node es = at (nat_lt (length w.nodes) NODES)
    where
      at : (b : Bool) → HasOpened (most_of w) (cond b (does (new_line w) (tells (record w { nodes = w.nodes ++ node ∷ [] }) es)) (Err (came_to limited.Nodes)))
      at true = calm (most_of w) (tells (record w { nodes = w.nodes ++ node ∷ [] }) es)
      at false = tt

  first_opened : (w : World) (l : Line) → FitsLine l → Stood w [] → HasOpened (most_of w) (first_step room (new_line w) l)
  unfolding first_step
  first_opened w (line.Times lease drift) within stood = calm (most_of w) _
  first_opened w (line.Osd node) within stood = declares_opened w _ _
  first_opened w line.Mrc within stood = declares_opened w _ _
  first_opened w line.Dir within stood = declares_opened w _ _
  first_opened w (line.Client node clock) within stood = declares_opened w _ _
  first_opened w (line.File number location) within stood = calm (most_of w) _
  first_opened w (line.Start node clock) within stood = starts_opened w node clock
  first_opened w (line.Stop node) within stood = calm (most_of w) _
  first_opened w (line.Crash node k fill) within stood = calm (most_of w) _
  first_opened w (line.Cut node count) within stood = calm (most_of w) _
  first_opened w (line.Clock node clock) within stood = calm (most_of w) _
  first_opened w (line.Tick count) within stood = calm (most_of w) _
  first_opened w (line.Wake node) within stood = opened (most_of w) (1 + OWN * (length w.files + length w.made)) (new_line w) (event_comes room (new_line w) node event.Wake) refl (omega arith) (event_ran (new_line w) node event.Wake refl stood refl)
  first_opened w (line.Call id c) within stood = calls_opened w id c
  first_opened w (line.Again id) within stood = again_opened w id
  first_opened w (line.Aim id file node) within stood = calm (most_of w) _
  first_opened w (line.Deliver number) within stood = opened (most_of w) OWN (new_line w) (delivers room (new_line w) number) refl (omega arith) (delivers_ran (new_line w) number refl stood)
  first_opened w (line.Drop number) within stood = calm (most_of w) _
  first_opened w (line.Settle count) within stood = calm (most_of w) _

  opens_over : (k : ℕ) (l : Line) (w : World) → Fits (opens l w) → 3 + most_of w ≤ suc k → IsOver (steps (suc k) room (opens l w))
  unfolding steps next_step
  opens_over k l w fit low = at (first_step room (new_line w) l) (first_fits l w fit) (first_opened w l fit.2.0 fit.0)
    where
      at : (result : Result Doing Cause) → Fits (went w result) → HasOpened (most_of w) result → IsOver (steps k room (went w result))
      at (Err cause) fit is = stays_ended k cause w
      at (Ok a) fit is =
          let less = is.low in
          let none = ap (λ (l : ℕ). l * (1 + most_of w)) is.none_left in
          over (most_of w) (omega arith) k a is.c fit is.chain (omega (arith, low, less, none))

  -- ---- lines

  one_opens : (w : World) (l : Line) → events_of l ≡ 1 → Fits (opens l w) → IsOver (steps (enough w l) room (opens l w))
  one_opens w l one fit = subst (λ (k : ℕ). IsOver (steps k room (opens l w))) (sym same) (opens_over (2 + most_of w) l w fit (omega arith))
    where
      same : enough w l ≡ suc (2 + most_of w)
      same = (let single = ap (λ (n : ℕ). n * (1 + most_of w)) one in omega (arith, single))

  opening_over : (w : World) (l : Line) → Fits (opening w l) → IsOver (steps (enough w l) room (opening w l))
  opening_over w (line.Settle count) fit = over (most_of w) (omega arith) (enough w (line.Settle count)) (record { world = w; own = []; left = count }) 0 fit (no_own refl) (omega arith)
  opening_over w (line.Times lease drift) fit = one_opens w (line.Times lease drift) refl fit
  opening_over w (line.Osd node) fit = one_opens w (line.Osd node) refl fit
  opening_over w line.Mrc fit = one_opens w line.Mrc refl fit
  opening_over w line.Dir fit = one_opens w line.Dir refl fit
  opening_over w (line.Client node clock) fit = one_opens w (line.Client node clock) refl fit
  opening_over w (line.File number location) fit = one_opens w (line.File number location) refl fit
  opening_over w (line.Start node clock) fit = one_opens w (line.Start node clock) refl fit
  opening_over w (line.Stop node) fit = one_opens w (line.Stop node) refl fit
  opening_over w (line.Crash node k fill) fit = one_opens w (line.Crash node k fill) refl fit
  opening_over w (line.Cut node count) fit = one_opens w (line.Cut node count) refl fit
  opening_over w (line.Clock node clock) fit = one_opens w (line.Clock node clock) refl fit
  opening_over w (line.Tick count) fit = one_opens w (line.Tick count) refl fit
  opening_over w (line.Wake node) fit = one_opens w (line.Wake node) refl fit
  opening_over w (line.Call id c) fit = one_opens w (line.Call id c) refl fit
  opening_over w (line.Again id) fit = one_opens w (line.Again id) refl fit
  opening_over w (line.Aim id file node) fit = one_opens w (line.Aim id file node) refl fit
  opening_over w (line.Deliver number) fit = one_opens w (line.Deliver number) refl fit
  opening_over w (line.Drop number) fit = one_opens w (line.Drop number) refl fit

  -- a world that has ended takes no line
  line_over : (w : World) (l : Line) → Fits (begins w l) → IsOver (steps (enough w l) room (begins w l))
  line_over w l fit = at w.ended fit
    where
      at : (ended : Bool) → Fits (if ended then finished w else opening w l) → IsOver (steps (enough w l) room (if ended then finished w else opening w l))
      at true fit = stays_finished (enough w l) w
      at false fit = opening_over w l fit

  begins_fit : (lines : List Line) (l : Line) → AreLines (lines ++ l ∷ []) → refusal (run_of room lines) l ≡ None → Fits (begins (run_of room lines) l)
  unfolding steps
  begins_fit lines l are allowed = steps_into Stood stood_kept room lines l 0 are allowed

  -- Every line of every run is over after its steps.
  pub all_over : IsEnough room
  unfolding done
  all_over lines l are allowed = line_over (run_of room lines) l (begins_fit lines l are allowed)
