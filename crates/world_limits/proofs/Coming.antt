-- what a world that fits says of the step that comes next
use Rattle.std.proofs.Common.{◌≡◌, ℕ, zero, suc, ◌-◌, inl, inr, Option, Some, None, List, [], ◌∷◌, ◌++◌, map, refl, ap, sym, ◌∙◌, subst}
use Rattle.std.specs.Prelude.{slice_get, ◌⊎◌}
use Rattle.std.specs.Option.{IfSome}
use Rattle.std.specs.List.{AllByRecursion}
use Rattle.xt_messages.specs.Limits.{FitsMessage, FitsEvent}
use Rattle.xt_base.specs.declared.ids.NodeId.{NodeId}
use Rattle.xt_messages.specs.declared.message.Msg.{Msg}
use Rattle.xt_messages.specs.declared.event.Call.{Call}
use Rattle.xt_messages.specs.declared.event.Event.{Event}
use Rattle.xt_messages.specs.declared.event.Event.TheVariants as event
use Rattle.lease_safety.specs.State.{Has}
use Rattle.lease_runs.proofs.Tests.{same_node}
use Rattle.world_spec.specs.declared.Sent.{Sent}
use Rattle.world_spec.specs.World.{World, Node, Running, node_in}
use Rattle.time_line.specs.Bounds.{FitsCall}
use Rattle.world_runs.specs.View.{messages}
use Rattle.world_runs.proofs.Tables.{node_in-id}
use Rattle.world_limits.specs.Fits.{FitsKept, FitsRunning, FitsComing, FitsCalling, FitsCallingAgain, FitsDelivery, FitsWorld, Comes}

each : {A : Type 0} (P : A → Type 0) (xs : List A) (x : A) → AllByRecursion P xs → Has x xs → P x
each P [] x all has = absurd (has)
each P (y ∷ ys) x all (inl is) = subst P (sym is) all.0
each P (y ∷ ys) x all (inr later) = each P ys x all.1 later

either_list : (own others : List Msg) (m : Msg) → Has m (own ++ others) → Has m own ⊎ Has m others
either_list [] others m has = inr has
either_list (x ∷ xs) others m (inl is) = inl (inl is)
either_list (x ∷ xs) others m (inr later) = elim (either_list xs others m later) [ inl h ↦ inl (inr h) | inr h ↦ inr h ]

of_sent : (sent : List Sent) → AllByRecursion (λ (s : Sent). FitsMessage s.message) sent → AllByRecursion FitsMessage (map (λ (s : Sent). s.message) sent)
of_sent [] all = tt
of_sent (s ∷ ss) all = (all.0, of_sent ss all.1)

behind : (own : List Msg) (m : Msg) (others : List Msg) → Has m others → Has m (own ++ others)
behind [] m others has = has
behind (x ∷ xs) m others has = inr (behind xs m others has)

got : (sent : List Sent) (k : ℕ) (s : Sent) → slice_get sent k ≡ Some s → Has s.message (map (λ (s : Sent). s.message) sent)
got [] k s is = absurd (cc)
got (x ∷ xs) zero s is = (let same : x ≡ s = cc in inl (ap (λ (y : Sent). y.message) (sym same)))
got (x ∷ xs) (suc k) s is = inr (got xs k s is)

-- the node of this id, found by its own
found_by : (w : World) (id : NodeId) (node : Node) → node_in w.nodes id.0 ≡ Some node → node_in w.nodes node.id.0 ≡ Some node
found_by w id node is = ap (node_in w.nodes) (node_in-id w.nodes id.0 node is) ∙ is

its_id : (w : World) (id : NodeId) (node : Node) → node_in w.nodes id.0 ≡ Some node → id ≡ node.id
its_id w id node is = sym (same_node node.id id (node_in-id w.nodes id.0 node is))

-- how a node runs
pub runs_fit : (w : World) (own : List Msg) (id : NodeId) (node : Node) (running : Running) → FitsWorld w own → node_in w.nodes id.0 ≡ Some node → node.up ≡ Some running → FitsRunning running
runs_fit w own id node running fits is up = at node.up up (fits.nodes node (found_by w id node is)).running
  where
    at : (o : Option Running) → o ≡ Some running → IfSome o FitsRunning → FitsRunning running
    at None e h = absurd (cc)
    at (Some r) e h = (let same : r ≡ running = cc in subst FitsRunning same h)

-- an event
pub coming : (w : World) (own : List Msg) (id : NodeId) (happens : Event) → FitsWorld w own → Comes w own id happens → FitsComing w id happens
coming w own id happens fits comes = record {
  message = content happens comes;
  step = λ node running is up. (
    runs_fit w own id node running fits is up,
    fits.handled node running happens (found_by w id node is) up (subst (λ (n : NodeId). Comes w own n happens) (its_id w id node is) comes),
  );
}
  where
    content : (happens : Event) → Comes w own id happens → FitsEvent happens
    content (event.Deliver msg) is = elim (either_list own (messages w) msg is.1) [
      | inl h ↦ each FitsMessage own msg fits.queued h
      | inr h ↦ each FitsMessage (messages w) msg (of_sent w.sent fits.sent) h
    ]
    content event.Wake is = tt
    content (event.Call c) is = tt

-- the message of a number
pub delivered : (w : World) (own : List Msg) (number : ℕ) → FitsWorld w own → FitsDelivery w number
delivered w own number fits = λ s is. coming w own s.message.to (event.Deliver s.message) fits (refl, behind own s.message (messages w) (got w.sent (number - 1) s is))

-- a client's call
pub calling : (w : World) (own : List Msg) (id : NodeId) (k : Call) → FitsWorld w own → FitsCall k → FitsCalling w id k
calling w own id k fits bound =
    λ node running is up. (runs_fit w own id node running fits is up, λ c is_core. fits.called node running c k (found_by w id node is) up is_core bound)

-- its last call, made again
pub calling_again : (w : World) (own : List Msg) (id : NodeId) → FitsWorld w own → FitsCallingAgain w id
calling_again w own id fits =
    λ node running is up. (runs_fit w own id node running fits is up, λ c is_core. fits.called_again node running c (found_by w id node is) up is_core)

-- with no message of a node to itself
pub none_queued : (w : World) (own : List Msg) → FitsWorld w own → FitsWorld w []
none_queued w own fits = record {
  nodes = fits.nodes;
  sent = fits.sent;
  queued = tt;
  handled = λ node running happens found up comes. fits.handled node running happens found up (more happens node.id comes);
  called = fits.called;
  called_again = fits.called_again;
}
  where
    more : (happens : Event) (id : NodeId) → Comes w [] id happens → Comes w own id happens
    more (event.Deliver msg) id is = (is.0, behind own msg (messages w) is.1)
    more event.Wake id is = tt
    more (event.Call c) id is = is

-- the first message of a node to itself
pub first_queued : (w : World) (own rest : List Msg) (m : Msg) → FitsWorld w own → own ≡ m ∷ rest → FitsComing w m.to (event.Deliver m)
first_queued w own rest m fits is = coming w own m.to (event.Deliver m) fits (refl, subst (λ (ms : List Msg). Has m (ms ++ messages w)) (sym is) (inl refl))

-- what a node keeps
pub kept_fits : (w : World) (own : List Msg) (id : NodeId) (node : Node) → FitsWorld w own → node_in w.nodes id.0 ≡ Some node → FitsKept node.kept
kept_fits w own id node fits is = (fits.nodes node (found_by w id node is)).records
