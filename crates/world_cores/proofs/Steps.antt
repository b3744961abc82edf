-- the steps of an OSD with the key of the world
use Rattle.std.proofs.Common.{◌≡◌, ℕ, List, Option, ap, sym, ◌∙◌}
use Rattle.xt_messages.specs.declared.event.Event.{Event}
use Rattle.xt_messages.specs.declared.record.Record.{Record}
use Rattle.xt_protocol.specs.declared.turned.Turned.{Turned}
use Rattle.xt_protocol.specs.OsdSteps.{step_of_osd}
use Rattle.osd_core.specs.Views.{OsdView}
use Rattle.osd_core.specs.Keys.{outside_of}
use Rattle.world_spec.specs.NodeSteps.{core_step, osd_steps}
use Rattle.world_host.specs.Hosts.{HostView, node_with}
use Rattle.world_host.specs.Turns.{IsCoreStep}
use Rattle.world_cores.specs.declared.roles.Core.TheVariants as core
use Rattle.world_cores.specs.Cores.{core_of, IsOf}

-- an OSD's step
pub osd_took : (kept : List Record) (old new : OsdView) (clock : ℕ) (happens : Event) (turned : Turned)
    → step_of_osd (outside_of old.key kept) old.state clock happens ≡ record { osd = new.state; turned = turned } → new.key ≡ old.key
    → IsCoreStep core_of IsOf (λ (host : HostView). core_step host.times (node_with kept host) (core_of (core.Osd old)) clock happens) (core.Osd old) (core.Osd new) turned
osd_took kept old new clock happens turned is same = λ host own. (
  ap osd_steps (ap (λ (key : Option (List ℕ)). step_of_osd (outside_of key kept) old.state clock happens) (sym own) ∙ is),
  same ∙ own,
)
