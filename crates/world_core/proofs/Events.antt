-- the steps that events and calls make
use Rattle.std.proofs.Common.{◌≡◌, ℕ, ◌<◌, ◌^◌, Option, Some, None, Result, Ok, Err, List, refl, ap, sym, ◌∙◌, subst}
use Rattle.std.specs.Option.{IfSome}
use Rattle.xt_base.specs.declared.ids.NodeId.{NodeId}
use Rattle.xt_messages.specs.declared.message.Msg.{Msg}
use Rattle.xt_messages.specs.declared.event.Event.{Event}
use Rattle.xt_messages.specs.declared.event.Event.TheVariants as event
use Rattle.world_spec.specs.declared.Sent.{Sent}
use Rattle.world_spec.specs.Lines.{no_longer_pending, delivers}
use Rattle.world_tables.specs.Limits.{IsSentAs}
use Rattle.world_limits.specs.Fits.{FitsRunning, FitsTurned, MayForget, FitsStep, FitsComing, FitsDelivery}
use Rattle.xt_protocol.specs.declared.turned.Turned.{Turned}
use Rattle.client_rows.specs.Steps.{Step}
use Rattle.world_spec.specs.World.{Node, Running, Core, node_in, with_node}
use Rattle.world_spec.specs.NodeSteps.{Room, Cause, Doing, one_more, core_step, end_of_step, event_at, event_comes}
use Rattle.world_hull.specs.declared.errors.WorldErr.{WorldErr}
use Rattle.world_nodes.specs.Nodes.{NodesView, IsAt, IsPlace, NodeTook, NodeHandles}
use Rattle.world_step.specs.Steps.{Working, Tells, IsStepped, cause_of}
use Rattle.world_step.specs.Endings.{FitsGiven}
use Rattle.world_step.proofs.Endings.{end_again, at_again, one_node}
use Rattle.world_core.proofs.FirstSteps.{found_at}

-- ---- an event

pub event_nowhere : (room : Room) (d : Doing) (id : NodeId) (happens : Event) → node_in d.world.nodes id.0 ≡ None → event_comes room d id happens ≡ Ok d
unfolding event_comes
event_nowhere room d id happens none = ap (event_at room d happens) none

event_here : (room : Room) (d : Doing) (id : NodeId) (happens : Event) (place : ℕ) (node : Node) → IsAt d.world.nodes place node → node.id ≡ id
    → event_comes room d id happens
    ≡ (elim node.up [
      | None ↦ Ok d
      | Some running ↦ end_of_step room d node running (core_step d.world.times node running.core running.clock happens)
    ])
unfolding event_comes
event_here room d id happens place node at its = ap (event_at room d happens) (found_at d.world.nodes id place node at its)

pub event_down : (room : Room) (d : Doing) (id : NodeId) (happens : Event) (place : ℕ) (node : Node) → IsAt d.world.nodes place node → node.id ≡ id → node.up ≡ None → event_comes room d id happens ≡ Ok d
event_down room d id happens place node at its down =
    event_here room d id happens place node at its
    ∙ ap (λ (up : Option Running). elim up [ None ↦ Ok d | Some running ↦ end_of_step room d node running (core_step d.world.times node running.core running.clock happens) ]) down

-- a node took a step, which then ends
pub took_ends : (T : Type 0) (room : Room) (was between new : Working) (place : ℕ) (node : Node) (running : Running) (step : Step Core) (after : NodesView) (turned : Turned) (r : Result T WorldErr)
    → IsAt was.doing.world.nodes place node → NodeTook (record { times = was.doing.world.times; nodes = was.doing.world.nodes }) node running step after turned
    → between ≡ record was { doing = record was.doing { world = record was.doing.world { times = after.times; nodes = after.nodes } } }
    → ((n : Node) (q : Running) → IsAt between.doing.world.nodes place n → n.up ≡ Some q → IsStepped {T = T} between (end_of_step room between.doing n q (record { state = q.core; turned = turned })) new r)
    → IsStepped {T = T} was (end_of_step room was.doing node running step) new r
took_ends T room was between new place node running step after turned r at took is ends = goes r (ends there after_it stands refl)
  where
    after_it : Running
    after_it = record running { core = step.state }

    there : Node
    there = record node { up = Some after_it }

    moved : Working
    moved = record was { doing = record was.doing { world = record was.doing.world { nodes = with_node was.doing.world.nodes there } } }

    is_moved : between ≡ moved
    is_moved = is ∙ ap (λ (v : NodesView). record was { doing = record was.doing { world = record was.doing.world { times = v.times; nodes = v.nodes } } }) took.2

    stands : IsAt between.doing.world.nodes place there
    stands = subst (λ (x : Working). IsAt x.doing.world.nodes place there) (sym is_moved) (at_again was.doing.world.nodes place node there at refl)

    same : end_of_step room between.doing there after_it (record { state = after_it.core; turned = turned }) ≡ end_of_step room was.doing node running step
    same =
        ap (λ (x : Working). end_of_step room x.doing there after_it (record { state = after_it.core; turned = turned })) is_moved
        ∙ ap (λ (t : Turned). end_of_step room moved.doing there after_it (record { state = after_it.core; turned = t })) took.1
        ∙ end_again room was.doing node running step

    goes : (r : Result T WorldErr) → IsStepped {T = T} between (end_of_step room between.doing there after_it (record { state = after_it.core; turned = turned })) new r → IsStepped {T = T} was (end_of_step room was.doing node running step) new r
    goes (Ok value) so = (
      sym same ∙ so.0,
      record {
        rest = so.1.rest ∙ ap (λ (x : Working). record x { doing = new.doing }) is_moved;
        lines = so.1.lines ∙ ap (λ (x : Working). x.doing.world.lines) is_moved;
        ended = so.1.ended ∙ ap (λ (x : Working). x.doing.world.ended) is_moved;
      },
    )
    goes (Err e) so = (
      subst (λ (k : Result Doing Cause). Tells (cause_of k) e) same so.0,
      record {
        entries = so.1.entries ∙ ap (λ (x : Working). x.doing.world.entries) is_moved;
        lines = so.1.lines ∙ ap (λ (x : Working). x.doing.world.lines) is_moved;
        begun = so.1.begun ∙ ap (λ (x : Working). x.begun) is_moved;
        ended = so.1.ended ∙ ap (λ (x : Working). x.doing.world.ended) is_moved;
      },
    )

-- the event's step
pub event_steps : (T : Type 0) (room : Room) (was self between new : Working) (id : NodeId) (happens : Event) (place : ℕ) (node : Node) (after : NodesView) (turned : Turned) (r : Result T WorldErr)
    → was ≡ self → IsAt was.doing.world.nodes place node → node.id ≡ id → NodeHandles happens (record { times = was.doing.world.times; nodes = was.doing.world.nodes }) node after (Some turned)
    → between ≡ record was { doing = record was.doing { world = record was.doing.world { times = after.times; nodes = after.nodes } } }
    → ((n : Node) (q : Running) → IsAt between.doing.world.nodes place n → n.up ≡ Some q → IsStepped {T = T} between (end_of_step room between.doing n q (record { state = q.core; turned = turned })) new r)
    → IsStepped {T = T} self (event_comes room self.doing id happens) new r
event_steps T room was self between new id happens place node after turned r is at its handles so ends =
    subst (λ (x : Working). IsStepped {T = T} x (event_comes room x.doing id happens) new r) is
    (subst (λ (k : Result Doing Cause). IsStepped {T = T} was k new r)
    (sym
    (event_here room was.doing id happens place node at its
    ∙ ap (λ (up : Option Running). elim up [ None ↦ Ok was.doing | Some running ↦ end_of_step room was.doing node running (core_step was.doing.world.times node running.core running.clock happens) ]) handles.1.0))
    (took_ends T room was between new place node handles.0 (core_step was.doing.world.times node handles.0.core handles.0.clock happens) after turned r at handles.1 so ends))

-- ---- what is asked of an event

module _ (was self : Working) (id : NodeId) (happens : Event) (place : ℕ) (is : was ≡ self) (fits : FitsComing self.doing.world id happens) (found : IsPlace was.doing.world.nodes id (Some place)) where
  fits_here : FitsComing was.doing.world id happens
  fits_here = subst (λ (x : Working). FitsComing x.doing.world id happens) (sym is) fits

  its_step : (node : Node) (running : Running) → IsAt was.doing.world.nodes place node → node.up ≡ Some running
      → FitsRunning running × FitsStep node.kept (core_step was.doing.world.times node running.core running.clock happens)
  its_step node running at up =
      fits_here.step node running
      (found_at was.doing.world.nodes id place node at (ap (λ (n : Node). n.id) (one_node was.doing.world.nodes place node found.0 at found.1) ∙ found.2)) up

  pub running_fits : (node : Node) → IsAt was.doing.world.nodes place node → IfSome node.up (λ (r : Running). r.clock < 2 ^ 62)
  running_fits node at = ways node.up refl
    where
      ways : (up : Option Running) → node.up ≡ up → IfSome up (λ (r : Running). r.clock < 2 ^ 62)
      ways None e = tt
      ways (Some r) e = (its_step node r at e).0.clock

  pub end_fits : (after : NodesView) (turned : Turned) → NodeHandles happens (record { times = was.doing.world.times; nodes = was.doing.world.nodes }) found.0 after (Some turned)
      → (node : Node) → IsAt after.nodes place node → FitsGiven node turned × IfSome node.up FitsRunning
  end_fits after turned handles node at =
      let running : Running = handles.0 in
      let step : Step Core = core_step was.doing.world.times found.0 running.core running.clock happens in
      let there : Node = record found.0 { up = Some (record running { core = step.state }) } in
      let stands : IsAt after.nodes place there = subst (λ (v : NodesView). IsAt v.nodes place there) (sym handles.1.2) (at_again was.doing.world.nodes place found.0 there found.1 refl) in
      let both = its_step found.0 running found.1 handles.1.0 in
      subst (λ (n : Node). FitsGiven n turned × IfSome n.up FitsRunning) (one_node after.nodes place there node stands at) (
        subst (λ (t : Turned). FitsTurned found.0.kept t × MayForget (one_more found.0.kept t.rec) step.state) (sym handles.1.1) (both.1.turned, both.1.forgetting),
        record { clock = both.0.clock; plan = both.0.plan },
      )

-- ---- deliveries

pub delivery_fits : (was self : Working) (number : ℕ) (message copy : Msg) (sent : List Sent) → was ≡ self → FitsDelivery self.doing.world number → IsSentAs was.doing.world.sent number message → copy ≡ message
    → FitsComing (record was.doing.world { sent = sent }) copy.to (event.Deliver copy)
delivery_fits was self number message copy sent is fits sent_as same =
    let h = subst (λ (x : Working). FitsDelivery x.doing.world number) (sym is) fits (record { message = message; pending = sent_as.0 }) sent_as.1 in
    subst (λ (m : Msg). FitsComing (record was.doing.world { sent = sent }) m.to (event.Deliver m)) (sym same) (record { message = h.message; step = h.step })

pub delivered_so : (T : Type 0) (room : Room) (was self new : Working) (number : ℕ) (message copy : Msg) (sent : List Sent) (r : Result T WorldErr) → was ≡ self → IsSentAs was.doing.world.sent number message → copy ≡ message
    → sent ≡ no_longer_pending was.doing.world.sent number
    → (let settled : Working = record was { doing = record was.doing { world = record was.doing.world { sent = sent } } } in IsStepped {T = T} settled (event_comes room settled.doing copy.to (event.Deliver copy)) new r)
    → IsStepped {T = T} self (delivers room self.doing number) new r
delivered_so T room was self new number message copy sent r is sent_as same is_sent so =
    subst (λ (x : Working). IsStepped {T = T} x (delivers room x.doing number) new r) is (ways r so)
  where
    settled : Working
    settled = record was { doing = record was.doing { world = record was.doing.world { sent = sent } } }

    later : Doing
    later = record was.doing { world = record was.doing.world { sent = no_longer_pending was.doing.world.sent number } }

    its : delivers room was.doing number ≡ event_comes room settled.doing copy.to (event.Deliver copy)
    its =
        ap (λ (o : Option Sent). elim o [ None ↦ Ok later | Some s ↦ event_comes room later s.message.to (event.Deliver s.message) ]) sent_as.1
        ∙ ap (λ (ss : List Sent). event_comes room (record was.doing { world = record was.doing.world { sent = ss } }) message.to (event.Deliver message)) (sym is_sent)
        ∙ ap (λ (m : Msg). event_comes room settled.doing m.to (event.Deliver m)) (sym same)

    ways : (r : Result T WorldErr) → IsStepped {T = T} settled (event_comes room settled.doing copy.to (event.Deliver copy)) new r → IsStepped {T = T} was (delivers room was.doing number) new r
    ways (Ok value) p = (its ∙ p.0, record { rest = p.1.rest; lines = p.1.lines; ended = p.1.ended })
    ways (Err e) p = (subst (λ (k : Result Doing Cause). Tells (cause_of k) e) (sym its) p.0, record { entries = p.1.entries; lines = p.1.lines; begun = p.1.begun; ended = p.1.ended })
