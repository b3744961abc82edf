use Rattle.std.proofs.Common.{ap}
use Rattle.std.specs.Option.{option_map}
use Rattle.world_spec.specs.Lines.{cuts}
use Rattle.world_host.specs.Hosts.{node_of, stored_in}
use Rattle.world_spec.specs.World.{Node}
use Rattle.world_nodes.proofs.Hosts.{same_stored}
use Rattle.world_nodes.proofs.Changes.{again, changes, same_but_up}
use Rattle.world_nodes.proofs.nodes.Nodes.plan_cut.Goals as goal

pub invariant_of-self : goal.invariant_of-self
invariant_of-self g c =
    again (stored_in g.H.Hull.kept g.H.Hull.past c.self.inside.hull) c.self.inside.times c.self.inside.hosts.items c.args.place c.index_mut.result.now c.plan_cut.new.self c.args.self.now c.self.invariant c.self.view_is c.requires c.index_mut.ensures.value
    (stored_in g.H.Hull.kept g.H.Hull.past c.self.inside.hull) (same_stored (stored_in g.H.Hull.kept g.H.Hull.past c.self.inside.hull) c.index_mut.result.now.id.0) (same_but_up c.index_mut.result.now c.plan_cut.new.self _ c.plan_cut.ensures)

pub returns : goal.returns
returns g c =
    changes (stored_in g.H.Hull.kept g.H.Hull.past c.self.inside.hull) c.self.inside.times c.self.inside.hosts.items c.args.place c.index_mut.result.now c.plan_cut.new.self c.args.self.now c.self.invariant c.self.view_is c.requires c.index_mut.ensures.value
    (stored_in g.H.Hull.kept g.H.Hull.past c.self.inside.hull) (λ (node : Node). record node { up = option_map (cuts c.args.count) node.up }) (same_stored (stored_in g.H.Hull.kept g.H.Hull.past c.self.inside.hull) c.index_mut.result.now.id.0) (same_but_up c.index_mut.result.now c.plan_cut.new.self _ c.plan_cut.ensures).0
    (ap (node_of ((stored_in g.H.Hull.kept g.H.Hull.past c.self.inside.hull) c.index_mut.result.now.id.0)) c.plan_cut.ensures)
