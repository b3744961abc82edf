use Rattle.std.proofs.Common.{List, subst}
use Rattle.world_host.specs.Hosts.{HostView, stored_in}
use Rattle.world_nodes.specs.Nodes.{NodesView, IsPlace, IsHostPlace}
use Rattle.world_nodes.proofs.Hosts.{is_place}
use Rattle.world_nodes.proofs.nodes.Nodes.find.Goals as goal

pub returns : goal.returns
returns g c =
    subst (λ (v : NodesView). IsPlace v.nodes c.args.id c.place_of.result) c.self.view_is
    (is_place (stored_in g.H.Hull.kept g.H.Hull.past c.self.inside.hull) c.self.inside.hosts.items c.args.id c.place_of.result c.self.invariant.distinct
    (subst (λ (hs : List HostView). IsHostPlace hs c.args.id c.place_of.result) c.as_slice.ensures.value c.place_of.ensures))
