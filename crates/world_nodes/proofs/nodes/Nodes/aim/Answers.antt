use Rattle.std.proofs.Common.{ap}
use Rattle.std.specs.Option.{option_map}
use Rattle.world_host.specs.Hosts.{node_of, stored_in}
use Rattle.world_spec.specs.World.{Node}
use Rattle.world_host.specs.Calls.{targets}
use Rattle.world_nodes.proofs.Hosts.{same_stored}
use Rattle.world_nodes.proofs.Changes.{again, changes, same_but_up, either_way, map_ok}
use Rattle.world_nodes.proofs.nodes.Nodes.aim.Goals as goal

pub invariant_of-self : goal.invariant_of-self
invariant_of-self g c =
    again (stored_in g.H.Hull.kept g.H.Hull.past c.self.inside.hull) c.self.inside.times c.self.inside.hosts.items c.args.place c.index_mut.result.now c.aim.new.self c.args.self.now c.self.invariant c.self.view_is c.requires c.index_mut.ensures.value
    (stored_in g.H.Hull.kept g.H.Hull.past c.self.inside.hull) (same_stored (stored_in g.H.Hull.kept g.H.Hull.past c.self.inside.hull) c.index_mut.result.now.id.0)
    (either_way c.aim.result (same_but_up c.index_mut.result.now c.aim.new.self _) (same_but_up c.index_mut.result.now c.aim.new.self _) c.aim.ensures.ok c.aim.ensures.err)

pub returns : goal.returns
returns g c =
    map_ok c.aim.result
    (λ is.
    changes (stored_in g.H.Hull.kept g.H.Hull.past c.self.inside.hull) c.self.inside.times c.self.inside.hosts.items c.args.place c.index_mut.result.now c.aim.new.self c.args.self.now c.self.invariant c.self.view_is c.requires c.index_mut.ensures.value
    (stored_in g.H.Hull.kept g.H.Hull.past c.self.inside.hull) (λ (node : Node). record node { up = option_map (targets c.args.declared c.args.number c.args.node) node.up }) (same_stored (stored_in g.H.Hull.kept g.H.Hull.past c.self.inside.hull) c.index_mut.result.now.id.0)
    (same_but_up c.index_mut.result.now c.aim.new.self _ is).0 (ap (node_of ((stored_in g.H.Hull.kept g.H.Hull.past c.self.inside.hull) c.index_mut.result.now.id.0)) is))
    c.aim.ensures.ok
