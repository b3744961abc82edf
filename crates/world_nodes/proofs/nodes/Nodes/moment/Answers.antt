use Rattle.world_host.specs.Hosts.{node_of, stored_in}
use Rattle.world_nodes.proofs.Changes.{stands}
use Rattle.world_nodes.proofs.nodes.Nodes.moment.Goals as goal

pub returns-clause-there : goal.returns-clause-there
returns-clause-there g c = (
  node_of ((stored_in g.H.Hull.kept g.H.Hull.past c.self.inside.hull) c.index.result.now.id.0) c.index.result.now,
  stands (stored_in g.H.Hull.kept g.H.Hull.past c.self.inside.hull) c.self.inside.times c.self.inside.hosts.items c.args.place c.index.result.now c.index.result.now c.args.self.now c.self.invariant c.self.view_is c.requires c.index.ensures,
)
