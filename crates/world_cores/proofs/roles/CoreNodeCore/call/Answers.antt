use Rattle.std.proofs.Common.{ap, sym, subst}
use Rattle.world_host.specs.Hosts.{HostView}
use Rattle.world_host.specs.Turns.{IsCoreStep, call_step}
use Rattle.world_cores.specs.declared.roles.Core.{Core}
use Rattle.world_cores.specs.declared.roles.Core.TheVariants as core
use Rattle.world_cores.specs.Cores.{core_of, IsOf}
use Rattle.world_cores.proofs.roles.CoreNodeCore.call.Goals as goal

pub returns-in_ok-call-in-Client : goal.returns-in_ok-call-in-Client
returns-in_ok-call-in-Client c = (
  c.in-Client.client.state,
  ap core_of c.in-Client.is,
  subst
      (λ (k : Core). IsCoreStep core_of IsOf (λ (host : HostView). call_step host c.args.clock c.in-Client.client.state c.args.call.now c.args.declared) k (core.Client c.in-Client.alloc c.call.new.client) c.in_ok-call-in-Client.field-0)
      (sym c.in-Client.is) c.in_ok-call-in-Client.ensures,
)
