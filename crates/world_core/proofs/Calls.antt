-- a client's call, and its last call once more
use Rattle.std.proofs.Common.{◌≡◌, ℕ, Option, Some, None, Result, Ok, refl, ap, sym, ◌∙◌, subst}
use Rattle.std.specs.Option.{IfSome}
use Rattle.xt_base.specs.declared.ids.NodeId.{NodeId}
use Rattle.xt_messages.specs.declared.event.Call.{Call}
use Rattle.xt_protocol.specs.declared.turned.Turned.{Turned}
use Rattle.client_rows.specs.Called.{called_file}
use Rattle.client_rows.specs.Steps.{Step}
use Rattle.client_rows.specs.Rows.{WholeClient, called}
use Rattle.world_spec.specs.declared.PlacedFile.{PlacedFile}
use Rattle.world_spec.specs.World.{World, Node, Running, Core, osd, client, mrc, dir, node_in, up_of}
use Rattle.world_spec.specs.Rules.{no_called_file, unless_usable, usable, held_in}
use Rattle.world_spec.specs.NodeSteps.{Room, Cause, Doing, one_more, client_steps, end_of_step}
use Rattle.world_spec.specs.Lines.{about_to_use, calls, core_calls, calls_again, core_calls_again}
use Rattle.world_hull.specs.declared.errors.WorldErr.{WorldErr}
use Rattle.world_host.specs.Hosts.{HostView}
use Rattle.world_host.specs.Calls.{declared_of, IsUsable}
use Rattle.world_host.specs.Turns.{call_step, again_step}
use Rattle.world_host.proofs.Usable.{ready_is, unless_held, usable_by}
use Rattle.world_limits.specs.Fits.{FitsRunning, FitsTurned, MayForget, FitsStep, FitsCalling, FitsCallingAgain}
use Rattle.world_nodes.specs.Nodes.{NodesView, IsAt, IsPlace, host_at, NodeClientTook}
use Rattle.world_step.specs.Endings.{FitsGiven}
use Rattle.world_step.specs.Steps.{Working, IsStepped}
use Rattle.world_step.proofs.Endings.{at_again, one_node}
use Rattle.world_core.proofs.FirstSteps.{found_at}
use Rattle.world_core.proofs.Events.{took_ends}

-- a step that the client of a node takes, from its state
abbrev pub ClientStep : Type 0
ClientStep = HostView → Running → WholeClient → Step Core

-- its call, where what it uses is declared so
abbrev pub calling : Call → Option PlacedFile → ClientStep
calling c declared = λ host running state. call_step host running.clock state c declared

-- its last call once more
abbrev pub calling_again : ClientStep
calling_again = λ host running state. again_step host running.clock state

-- ---- what the world does with such a step

abbrev pub core_takes : Room → ClientStep → Doing → Node → Running → Core → Result Doing Cause
core_takes room step d node running (client state) = end_of_step room d node running (step (host_at d.world.times node) running state)
core_takes room step d node running (osd state) = Ok d
core_takes room step d node running (mrc state) = Ok d
core_takes room step d node running (dir state) = Ok d

abbrev pub client_takes : Room → ClientStep → Doing → Option Node → Result Doing Cause
client_takes room step d None = Ok d
client_takes room step d (Some node) = elim node.up [ None ↦ Ok d | Some running ↦ core_takes room step d node running running.core ]

calls_are : (room : Room) (d : Doing) (o : Option Node) (c : Call) (declared : Option PlacedFile) → declared ≡ declared_of d.world.files (called_file c)
    → client_takes room (calling c declared) d o ≡ calls room d o c
calls_are room d None c declared is = refl
calls_are room d (Some node) c declared is = up node.up
  where
    at : (running : Running) (core : Core) → core_takes room (calling c declared) d node running core ≡ core_calls room d node running core c
    at running (osd state) = refl
    at running (mrc state) = refl
    at running (dir state) = refl
    at running (client state) =
        ap (λ (s : WholeClient). end_of_step room d node running (client_steps (called node.id d.world.times s running.clock c)))
        (ap (about_to_use state c) is ∙ sym (ready_is d.world.files state c))

    up : (o : Option Running) → elim o as (λ x. Result Doing Cause) [ None ↦ Ok d | Some running ↦ core_takes room (calling c declared) d node running running.core ]
        ≡ elim o as (λ x. Result Doing Cause) [ None ↦ Ok d | Some running ↦ core_calls room d node running running.core c ]
    up None = refl
    up (Some running) = at running running.core

calls_again_are : (room : Room) (d : Doing) (o : Option Node) → client_takes room calling_again d o ≡ calls_again room d o
calls_again_are room d None = refl
calls_again_are room d (Some node) = up node.up
  where
    at : (running : Running) (core : Core) → core_takes room calling_again d node running core ≡ core_calls_again room d node running core
    at running (osd state) = refl
    at running (mrc state) = refl
    at running (dir state) = refl
    at running (client state) = refl

    up : (o : Option Running) → elim o as (λ x. Result Doing Cause) [ None ↦ Ok d | Some running ↦ core_takes room calling_again d node running running.core ]
        ≡ elim o as (λ x. Result Doing Cause) [ None ↦ Ok d | Some running ↦ core_calls_again room d node running running.core ]
    up None = refl
    up (Some running) = at running running.core

-- what the step of the client of this id gives can be kept and sent
abbrev pub FitsClient : World → NodeId → ClientStep → Type 0
FitsClient w id step =
    (node : Node) (running : Running) → node_in w.nodes id.0 ≡ Some node → node.up ≡ Some running
    → FitsRunning running × ((c : WholeClient) → running.core ≡ client c → FitsStep node.kept (step (host_at w.times node) running c))

calling_fits : (w : World) (id : NodeId) (c : Call) (declared : Option PlacedFile) → declared ≡ declared_of w.files (called_file c) → FitsCalling w id c → FitsClient w id (calling c declared)
calling_fits w id c declared is fits node running there up =
    let both = fits node running there up in (
      both.0,
      λ state core.
          record {
            turned =
                subst (λ (s : WholeClient). FitsTurned node.kept (client_steps (called node.id w.times s running.clock c)).turned)
                (ready_is w.files state c ∙ ap (about_to_use state c) (sym is)) (both.1 state core);
            forgetting = tt;
          },
    )

calling_again_fits : (w : World) (id : NodeId) → FitsCallingAgain w id → FitsClient w id calling_again
calling_again_fits w id fits node running there up =
    let both = fits node running there up in (both.0, λ state core. record { turned = both.1 state core; forgetting = tt })

module _ (was : Working) (id : NodeId) (place : ℕ) (step : ClientStep) (after : NodesView) (turned : Turned) (found : IsPlace was.doing.world.nodes id (Some place))
    (made : NodeClientTook step (record { times = was.doing.world.times; nodes = was.doing.world.nodes }) found.0 after (Some turned)) where
  its_step : Step Core
  its_step = step (host_at was.doing.world.times found.0) made.0 made.1

  -- the step, which then ends
  steps_so : (T : Type 0) (room : Room) (between new : Working) (r : Result T WorldErr)
      → between ≡ record was { doing = record was.doing { world = record was.doing.world { times = after.times; nodes = after.nodes } } }
      → ((n : Node) (q : Running) → IsAt between.doing.world.nodes place n → n.up ≡ Some q → IsStepped {T = T} between (end_of_step room between.doing n q (record { state = q.core; turned = turned })) new r)
      → IsStepped {T = T} was (client_takes room step was.doing (node_in was.doing.world.nodes id.0)) new r
  unfolding its_step
  steps_so T room between new r so ends =
      subst (λ (k : Result Doing Cause). IsStepped {T = T} was k new r)
      (sym
      (ap (client_takes room step was.doing) (found_at was.doing.world.nodes id place found.0 found.1 found.2)
      ∙ ap (λ (u : Option Running). elim u as (λ x. Result Doing Cause) [ None ↦ Ok was.doing | Some r ↦ core_takes room step was.doing found.0 r r.core ]) made.3.0
      ∙ ap (core_takes room step was.doing found.0 made.0) made.2))
      (took_ends T room was between new place found.0 made.0 its_step after turned r found.1 made.3 so ends)

  -- what it gives can be kept and sent
  fits_so : FitsClient was.doing.world id step → (node : Node) → IsAt after.nodes place node → FitsGiven node turned × IfSome node.up FitsRunning
  unfolding its_step
  fits_so fits node at =
      let there : Node = record found.0 { up = Some (record made.0 { core = its_step.state }) } in
      let stands : IsAt after.nodes place there = subst (λ (v : NodesView). IsAt v.nodes place there) (sym made.3.2) (at_again was.doing.world.nodes place found.0 there found.1 refl) in
      let both = fits found.0 made.0 (found_at was.doing.world.nodes id place found.0 found.1 found.2) made.3.0 in
      let gives = both.1 made.1 made.2 in
      subst (λ (n : Node). FitsGiven n turned × IfSome n.up FitsRunning) (one_node after.nodes place there node stands at) (
        subst (λ (t : Turned). FitsTurned found.0.kept t × MayForget (one_more found.0.kept t.rec) its_step.state) (sym made.3.1) (gives.turned, gives.forgetting),
        record { clock = both.0.clock; plan = both.0.plan },
      )

-- ---- a call

module _ (was self : Working) (id : NodeId) (place : ℕ) (c : Call) (declared : Option PlacedFile) (after : NodesView) (turned : Turned) (is : was ≡ self)
    (found : IsPlace was.doing.world.nodes id (Some place)) (is_declared : declared ≡ declared_of was.doing.world.files (called_file c))
    (made : NodeClientTook (calling c declared) (record { times = was.doing.world.times; nodes = was.doing.world.nodes }) found.0 after (Some turned)) where
  pub call_steps : (T : Type 0) (room : Room) (between new : Working) (r : Result T WorldErr)
      → between ≡ record was { doing = record was.doing { world = record was.doing.world { times = after.times; nodes = after.nodes } } }
      → ((n : Node) (q : Running) → IsAt between.doing.world.nodes place n → n.up ≡ Some q → IsStepped {T = T} between (end_of_step room between.doing n q (record { state = q.core; turned = turned })) new r)
      → IsStepped {T = T} self (calls room self.doing (node_in self.doing.world.nodes id.0) c) new r
  call_steps T room between new r so ends =
      subst (λ (x : Working). IsStepped {T = T} x (calls room x.doing (node_in x.doing.world.nodes id.0) c) new r) is
      (subst (λ (k : Result Doing Cause). IsStepped {T = T} was k new r) (calls_are room was.doing (node_in was.doing.world.nodes id.0) c declared is_declared)
      (steps_so was id place (calling c declared) after turned found made T room between new r so ends))

  pub call_fits : FitsCalling self.doing.world id c → (node : Node) → IsAt after.nodes place node → FitsGiven node turned × IfSome node.up FitsRunning
  call_fits fits =
      fits_so was id place (calling c declared) after turned found made
      (calling_fits was.doing.world id c declared is_declared (subst (λ (x : Working). FitsCalling x.doing.world id c) (sym is) fits))

-- ---- a call once more

module _ (was self : Working) (id : NodeId) (place : ℕ) (after : NodesView) (turned : Turned) (is : was ≡ self) (found : IsPlace was.doing.world.nodes id (Some place))
    (made : NodeClientTook calling_again (record { times = was.doing.world.times; nodes = was.doing.world.nodes }) found.0 after (Some turned)) where
  pub again_steps : (T : Type 0) (room : Room) (between new : Working) (r : Result T WorldErr)
      → between ≡ record was { doing = record was.doing { world = record was.doing.world { times = after.times; nodes = after.nodes } } }
      → ((n : Node) (q : Running) → IsAt between.doing.world.nodes place n → n.up ≡ Some q → IsStepped {T = T} between (end_of_step room between.doing n q (record { state = q.core; turned = turned })) new r)
      → IsStepped {T = T} self (calls_again room self.doing (node_in self.doing.world.nodes id.0)) new r
  again_steps T room between new r so ends =
      subst (λ (x : Working). IsStepped {T = T} x (calls_again room x.doing (node_in x.doing.world.nodes id.0)) new r) is
      (subst (λ (k : Result Doing Cause). IsStepped {T = T} was k new r) (calls_again_are room was.doing (node_in was.doing.world.nodes id.0))
      (steps_so was id place calling_again after turned found made T room between new r so ends))

  pub again_fits : FitsCallingAgain self.doing.world id → (node : Node) → IsAt after.nodes place node → FitsGiven node turned × IfSome node.up FitsRunning
  again_fits fits = fits_so was id place calling_again after turned found made (calling_again_fits was.doing.world id (subst (λ (x : Working). FitsCallingAgain x.doing.world id) (sym is) fits))

-- ---- what a call uses is declared or held, by the rule that its line doesn't break

no_called_is : (w : World) (id : NodeId) (node : Node) (o : Option ℕ) → node_in w.nodes id.0 ≡ Some node → no_called_file w id o ≡ unless_held w.files (held_in node.up) o
no_called_is w id node None there = refl
no_called_is w id node (Some number) there =
    ap (λ (n : Option Node). unless_usable (usable w.files (held_in (up_of n)) number) number) there

module _ (was self : Working) (id : NodeId) (place : ℕ) (is : was ≡ self) (found : IsPlace was.doing.world.nodes id (Some place)) (node : Node) (at : IsAt was.doing.world.nodes place node) where
  its_node : node_in was.doing.world.nodes id.0 ≡ Some node
  its_node = found_at was.doing.world.nodes id place node at (ap (λ (n : Node). n.id) (one_node was.doing.world.nodes place node found.0 at found.1) ∙ found.2)

  pub is_usable : (c : Call) (declared : Option PlacedFile) → declared ≡ declared_of was.doing.world.files (called_file c) → no_called_file self.doing.world id (called_file c) ≡ None
      → IfSome node.up (λ (running : Running). IsUsable declared c running.core)
  is_usable c declared is_declared none =
      subst (λ (d : Option PlacedFile). IfSome node.up (λ (running : Running). IsUsable d c running.core)) (sym is_declared)
      (usable_by was.doing.world.files node.up c
      (sym (no_called_is was.doing.world id node (called_file c) its_node) ∙ ap (λ (x : Working). no_called_file x.doing.world id (called_file c)) is ∙ none))
