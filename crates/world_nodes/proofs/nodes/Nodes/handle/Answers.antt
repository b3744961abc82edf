use Rattle.world_host.specs.Turns.{Handles}
use Rattle.world_host.specs.Hosts.{stored_in}
use Rattle.world_nodes.proofs.Hosts.{same_stored}
use Rattle.world_nodes.proofs.Changes.{again, stands, node_handled, handled_same, same_but_up, if_or_err, map_if}
use Rattle.world_nodes.proofs.nodes.Nodes.handle.Goals as goal

pub handle-requires-clause-running : goal.handle-requires-clause-running
handle-requires-clause-running g c =
    c.requires.running _ (stands (stored_in g.H.Hull.kept g.H.Hull.past c.self.inside.hull) c.self.inside.times c.self.inside.hosts.items c.args.place c.index_mut.result.now c.index_mut.result.now c.args.self.now c.self.invariant c.self.view_is c.requires.inside c.index_mut.ensures.value)

pub invariant_of-self : goal.invariant_of-self
invariant_of-self g c =
    again (stored_in g.H.Hull.kept g.H.Hull.past c.self.inside.hull) c.self.inside.times c.self.inside.hosts.items c.args.place c.index_mut.result.now c.handle.new.host c.args.self.now c.self.invariant c.self.view_is c.requires.inside c.index_mut.ensures.value
    (stored_in g.H.Hull.kept g.H.Hull.past c.self.inside.hull) (same_stored (stored_in g.H.Hull.kept g.H.Hull.past c.self.inside.hull) c.index_mut.result.now.id.0)
    (if_or_err _ c.handle.result (handled_same _ c.args.ev.now c.index_mut.result.now c.handle.new.host)
    (same_but_up c.index_mut.result.now c.handle.new.host _) c.handle.ensures.handled c.handle.ensures.err)

pub returns : goal.returns
returns g c =
    map_if (Handles (g.H.Hull.kept c.self.inside.hull c.index_mut.result.now.id.0) c.args.ev.now c.index_mut.result.now c.handle.new.host) _ c.handle.result
    (λ turned is.
    node_handled (stored_in g.H.Hull.kept g.H.Hull.past c.self.inside.hull) c.self.inside.times c.self.inside.hosts.items c.args.place c.index_mut.result.now c.handle.new.host c.args.self.now c.self.invariant c.self.view_is c.requires.inside c.index_mut.ensures.value c.args.ev.now turned is)
    c.handle.ensures.handled
