-- what the steps of cores leave
use Rattle.std.proofs.Common.{◌≡◌, Option, Some, None, sym, subst}
use Rattle.xt_base.specs.TimeSettings.{TimeSettings}
use Rattle.xt_base.specs.declared.ids.NodeId.{NodeId}
use Rattle.xt_protocol.specs.declared.turned.Turned.{Turned}
use Rattle.client_rows.specs.Steps.{Step}
use Rattle.client_rows.specs.Rows.{WholeClient}
use Rattle.world_spec.specs.World.{Core}
use Rattle.world_spec.specs.declared.Role.{Role}
use Rattle.world_host.specs.declared.running.Running.{Running}
use Rattle.world_host.specs.Hosts.{HostView}
use Rattle.world_host.specs.Cores.{IsUpOf}
use Rattle.world_host.specs.Turns.{IsCoreStep, IsClientStep}

module _ {C : Type 0} (state : C → Core) (is_of : NodeId → TimeSettings → C → Type 0) where
  -- the core of a node is its own after a step, and after a call
  pub step_keeps : (step : HostView → Step Core) (old new : C) (turned : Turned) (id : NodeId) (role : Role) (times : TimeSettings) → IsCoreStep state is_of step old new turned → is_of id times old → is_of id times new
  step_keeps step old new turned id role times took own = (took (record { id = id; role = role; times = times; up = None }) own).1

  pub call_keeps : (step : HostView → WholeClient → Step Core) (old new : C) (turned : Option Turned) (id : NodeId) (role : Role) (times : TimeSettings)
      → IsClientStep state is_of step old new turned → is_of id times old → is_of id times new
  call_keeps step old new None id role times took own = subst (is_of id times) (sym took.1) own
  call_keeps step old new (Some turned) id role times took own = (took.2 (record { id = id; role = role; times = times; up = None }) own).1

-- the core of a running node is the node's
pub own_of : {C : Type 0} (is_of : NodeId → TimeSettings → C → Type 0) (id : NodeId) (times : TimeSettings) (up : Option (Running C)) (r : Running C) → Some r ≡ up → IsUpOf is_of id times up → is_of id times r.core
own_of {C} is_of id times up r is own = subst (λ (o : Option (Running C)). IsUpOf is_of id times o) (sym is) own
