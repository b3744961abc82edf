use Rattle.world_host.specs.Hosts.{stored_in}
use Rattle.world_nodes.proofs.Hosts.{same_stored}
use Rattle.world_nodes.proofs.Changes.{again, node_started, same_but_up, either_way, map_ok}
use Rattle.world_nodes.proofs.nodes.Nodes.start.Goals as goal

pub invariant_of-self : goal.invariant_of-self
invariant_of-self g c =
    again (stored_in g.H.Hull.kept g.H.Hull.past c.self.inside.hull) c.self.inside.times c.self.inside.hosts.items c.args.place c.index_mut.result.now c.start.new.self c.args.self.now c.self.invariant c.self.view_is c.requires.inside c.index_mut.ensures.value
    (stored_in g.H.Hull.kept g.H.Hull.past c.self.inside.hull) (same_stored (stored_in g.H.Hull.kept g.H.Hull.past c.self.inside.hull) c.index_mut.result.now.id.0)
    (either_way c.start.result (same_but_up c.index_mut.result.now c.start.new.self _) (same_but_up c.index_mut.result.now c.start.new.self c.index_mut.result.now.up) c.start.ensures.ok c.start.ensures.err)

pub returns : goal.returns
returns g c =
    map_ok c.start.result (λ is. node_started (stored_in g.H.Hull.kept g.H.Hull.past c.self.inside.hull) c.self.inside.times c.self.inside.hosts.items c.args.place c.index_mut.result.now c.start.new.self c.args.self.now c.self.invariant c.self.view_is c.requires.inside c.index_mut.ensures.value c.args.loaded.records.items c.args.boot c.args.clock is) c.start.ensures.ok
