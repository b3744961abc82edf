use Rattle.client_rows.specs.Rows.{WholeClient}
use Rattle.client_rows.specs.Steps.{Step}
use Rattle.world_spec.specs.World.{Running, Core}
use Rattle.world_host.specs.Turns.{ClientTook, call_step}
use Rattle.world_host.specs.Hosts.{HostView, stored_in}
use Rattle.world_nodes.proofs.Hosts.{same_stored}
use Rattle.world_nodes.proofs.Changes.{again, stands, node_called, called_same, same_but_up, if_or_err, map_if}
use Rattle.world_nodes.proofs.nodes.Nodes.call.Goals as goal

pub call-requires-clause-clock : goal.call-requires-clause-clock
call-requires-clause-clock g c =
    c.requires.running _ (stands (stored_in g.H.Hull.kept g.H.Hull.past c.self.inside.hull) c.self.inside.times c.self.inside.hosts.items c.args.place c.index_mut.result.now c.index_mut.result.now c.args.self.now c.self.invariant c.self.view_is c.requires.inside c.index_mut.ensures.value)

pub call-requires-clause-free : goal.call-requires-clause-free
call-requires-clause-free g c =
    c.requires.free _ (stands (stored_in g.H.Hull.kept g.H.Hull.past c.self.inside.hull) c.self.inside.times c.self.inside.hosts.items c.args.place c.index_mut.result.now c.index_mut.result.now c.args.self.now c.self.invariant c.self.view_is c.requires.inside c.index_mut.ensures.value)

pub call-requires-clause-held : goal.call-requires-clause-held
call-requires-clause-held g c =
    c.requires.held _ (stands (stored_in g.H.Hull.kept g.H.Hull.past c.self.inside.hull) c.self.inside.times c.self.inside.hosts.items c.args.place c.index_mut.result.now c.index_mut.result.now c.args.self.now c.self.invariant c.self.view_is c.requires.inside c.index_mut.ensures.value)

pub invariant_of-self : goal.invariant_of-self
invariant_of-self g c =
    let step : HostView → Running → WholeClient → Step Core = λ host running state. call_step host running.clock state c.args.call.now c.args.declared in
    again (stored_in g.H.Hull.kept g.H.Hull.past c.self.inside.hull) c.self.inside.times c.self.inside.hosts.items c.args.place c.index_mut.result.now c.call.new.self c.args.self.now c.self.invariant c.self.view_is c.requires.inside c.index_mut.ensures.value
    (stored_in g.H.Hull.kept g.H.Hull.past c.self.inside.hull) (same_stored (stored_in g.H.Hull.kept g.H.Hull.past c.self.inside.hull) c.index_mut.result.now.id.0)
    (if_or_err _ c.call.result (called_same step c.index_mut.result.now c.call.new.self)
    (same_but_up c.index_mut.result.now c.call.new.self _) c.call.ensures.called c.call.ensures.err)

pub returns : goal.returns
returns g c =
    let step : HostView → Running → WholeClient → Step Core = λ host running state. call_step host running.clock state c.args.call.now c.args.declared in
    map_if (ClientTook step c.index_mut.result.now c.call.new.self) _ c.call.result
    (λ turned is.
    node_called (stored_in g.H.Hull.kept g.H.Hull.past c.self.inside.hull) c.self.inside.times c.self.inside.hosts.items c.args.place c.index_mut.result.now c.call.new.self c.args.self.now c.self.invariant c.self.view_is c.requires.inside c.index_mut.ensures.value
    step turned is)
    c.call.ensures.called
