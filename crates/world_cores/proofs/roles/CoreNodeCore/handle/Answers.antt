use Rattle.std.proofs.Common.{List, sym, subst}
use Rattle.xt_messages.specs.declared.record.Record.{Record}
use Rattle.world_spec.specs.NodeSteps.{core_step}
use Rattle.world_host.specs.Hosts.{HostView, node_with}
use Rattle.world_host.specs.Turns.{IsCoreStep}
use Rattle.world_cores.specs.declared.roles.Core.{Core}
use Rattle.world_cores.specs.declared.roles.Core.TheVariants as core
use Rattle.world_cores.specs.Cores.{core_of, IsOf}
use Rattle.world_cores.proofs.Steps.{osd_took}
use Rattle.world_cores.proofs.roles.CoreNodeCore.handle.Goals as goal

pub returns-in-Ok-clause-step : goal.returns-in-Ok-clause-step
returns-in-Ok-clause-step g c = λ (kept : List Record) agrees.
    subst
    (λ (k : Core). IsCoreStep core_of IsOf (λ (host : HostView). core_step host.times (node_with kept host) (core_of k) c.args.clock c.args.ev.now) k (core.Osd c.step.new.self) c.in-Ok.turned)
    (sym c.in-Osd.is)
    (osd_took kept c.in-Osd.osd c.step.new.self c.args.clock c.args.ev.now c.in-Ok.turned (c.in-Ok.ensures.step kept agrees) c.in-Ok.ensures.key)
