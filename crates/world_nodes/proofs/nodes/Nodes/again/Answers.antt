use Rattle.client_rows.specs.Rows.{WholeClient}
use Rattle.client_rows.specs.Steps.{Step}
use Rattle.world_spec.specs.World.{Running, Core}
use Rattle.world_host.specs.Turns.{ClientTook, again_step}
use Rattle.world_host.specs.Hosts.{HostView, stored_in}
use Rattle.world_nodes.proofs.Hosts.{same_stored}
use Rattle.world_nodes.proofs.Changes.{again, stands, node_called, called_same, same_but_up, if_or_err, map_if}
use Rattle.world_nodes.proofs.nodes.Nodes.again.Goals as goal

pub again-requires-clause-clock : goal.again-requires-clause-clock
again-requires-clause-clock g c =
    c.requires.running _ (stands (stored_in g.H.Hull.kept g.H.Hull.past c.self.inside.hull) c.self.inside.times c.self.inside.hosts.items c.args.place c.index_mut.result.now c.index_mut.result.now c.args.self.now c.self.invariant c.self.view_is c.requires.inside c.index_mut.ensures.value)

pub again-requires-clause-free : goal.again-requires-clause-free
again-requires-clause-free g c =
    c.requires.free _ (stands (stored_in g.H.Hull.kept g.H.Hull.past c.self.inside.hull) c.self.inside.times c.self.inside.hosts.items c.args.place c.index_mut.result.now c.index_mut.result.now c.args.self.now c.self.invariant c.self.view_is c.requires.inside c.index_mut.ensures.value)

pub again-requires-clause-may : goal.again-requires-clause-may
again-requires-clause-may g c =
    c.requires.may _ (stands (stored_in g.H.Hull.kept g.H.Hull.past c.self.inside.hull) c.self.inside.times c.self.inside.hosts.items c.args.place c.index_mut.result.now c.index_mut.result.now c.args.self.now c.self.invariant c.self.view_is c.requires.inside c.index_mut.ensures.value)

pub invariant_of-self : goal.invariant_of-self
invariant_of-self g c =
    let step : HostView → Running → WholeClient → Step Core = λ host running state. again_step host running.clock state in
    again (stored_in g.H.Hull.kept g.H.Hull.past c.self.inside.hull) c.self.inside.times c.self.inside.hosts.items c.args.place c.index_mut.result.now c.again.new.self c.args.self.now c.self.invariant c.self.view_is c.requires.inside c.index_mut.ensures.value
    (stored_in g.H.Hull.kept g.H.Hull.past c.self.inside.hull) (same_stored (stored_in g.H.Hull.kept g.H.Hull.past c.self.inside.hull) c.index_mut.result.now.id.0)
    (if_or_err _ c.again.result (called_same step c.index_mut.result.now c.again.new.self)
    (same_but_up c.index_mut.result.now c.again.new.self _) c.again.ensures.called c.again.ensures.err)

pub returns : goal.returns
returns g c =
    let step : HostView → Running → WholeClient → Step Core = λ host running state. again_step host running.clock state in
    map_if (ClientTook step c.index_mut.result.now c.again.new.self) _ c.again.result
    (λ turned is.
    node_called (stored_in g.H.Hull.kept g.H.Hull.past c.self.inside.hull) c.self.inside.times c.self.inside.hosts.items c.args.place c.index_mut.result.now c.again.new.self c.args.self.now c.self.invariant c.self.view_is c.requires.inside c.index_mut.ensures.value
    step turned is)
    c.again.ensures.called
