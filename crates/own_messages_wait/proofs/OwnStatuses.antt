-- A status that waits first at an OSD, from itself, is of the head that it has.
use Rattle.std.proofs.Common.{◌≡◌, ap, sym, ◌∙◌, subst, Some}
use Rattle.xt_base.specs.declared.ids.NodeId.{NodeId}
use Rattle.xt_messages.specs.declared.message.Payload.TheVariants as payload
use Rattle.world_spec.specs.Lines.{Next}
use Rattle.world_spec.specs.NodeSteps.{Room}
use Rattle.world_spec.specs.World.{node_in}
use Rattle.lease_runs.proofs.Tests.{same_node}
use Rattle.world_runs.proofs.Tables.{node_in-id}
use Rattle.world_runs.proofs.Walk.{NextIs, steps_into}
use Rattle.own_messages_wait.specs.OwnStatuses.{OwnStatusesStand}
use Rattle.own_messages_wait.proofs.Keeping.{node_is}
use Rattle.own_messages_wait.proofs.Waiting.{IsWaiting, Waiting, first_tells, of_osd_here, waiting_kept}

pub stands : (room : Room) → OwnStatusesStand room
stands room d m s file epoch head x is own =
    let waiting : Waiting d.world d.own =
    subst (λ (next : Next). NextIs Waiting waiting_kept next) x.at (steps_into Waiting waiting_kept room x.lines x.l x.count x.within x.allowed) in
    let id : x.node.id.0 ≡ m.to.0 = node_in-id d.world.nodes m.to.0 x.node x.found in
    let here : m.to ≡ x.node.id = same_node m.to x.node.id (sym id) in
    let found : node_in d.world.nodes x.node.id.0 ≡ Some x.node = ap (node_in d.world.nodes) id ∙ x.found in
    let mine : m.from ≡ s.started.node = own ∙ here ∙ sym (node_is d.world d.own x.node x.running found x.up waiting.stood s x.core) in
    first_tells d.world x.node x.running s found x.up x.core m x.rest
    (of_osd_here d.world x.node x.running s found x.up x.core m x.rest here (subst (IsWaiting d.world) x.first waiting.waits))
    (payload.Status file epoch head) is (ap (λ (n : NodeId). n.0) mine)
