use Rattle.std.proofs.Common.{ap, sym, subst}
use Rattle.world_host.specs.Hosts.{HostView}
use Rattle.world_host.specs.Turns.{IsCoreStep, again_step}
use Rattle.world_cores.specs.declared.roles.Core.{Core}
use Rattle.world_cores.specs.declared.roles.Core.TheVariants as core
use Rattle.world_cores.specs.Cores.{core_of, IsOf}
use Rattle.world_cores.proofs.roles.CoreNodeCore.again.Goals as goal

pub returns-in_ok-again-in-Client : goal.returns-in_ok-again-in-Client
returns-in_ok-again-in-Client c = (
  c.in-Client.client.state,
  ap core_of c.in-Client.is,
  subst
      (λ (k : Core). IsCoreStep core_of IsOf (λ (host : HostView). again_step host c.args.clock c.in-Client.client.state) k (core.Client c.in-Client.alloc c.again.new.client) c.in_ok-again-in-Client.field-0)
      (sym c.in-Client.is) c.in_ok-again-in-Client.ensures,
)
