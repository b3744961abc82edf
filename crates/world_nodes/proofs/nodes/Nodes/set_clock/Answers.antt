use Rattle.std.proofs.Common.{List, sym, subst, refl}
use Rattle.std.specs.Option.{option_map}
use Rattle.world_spec.specs.Lines.{reads_clock}
use Rattle.world_spec.specs.World.{Node}
use Rattle.world_host.specs.Hosts.{HostView, stored_in}
use Rattle.world_clocks.specs.Hosts.{nodes_of, clock_set}
use Rattle.world_nodes.specs.Nodes.{AreHosts, Changes}
use Rattle.world_nodes.proofs.Hosts.{same_stored}
use Rattle.world_nodes.proofs.Changes.{again, changes, same_but_up}
use Rattle.world_nodes.proofs.nodes.Nodes.set_clock.Goals as goal

pub invariant_of-self : goal.invariant_of-self
invariant_of-self g c =
    let kept = stored_in g.H.Hull.kept g.H.Hull.past c.self.inside.hull in
    let old = c.set_clock.ensures.0 in
    subst (AreHosts kept c.self.inside.times) (sym c.set_clock.ensures.2)
    (again kept c.self.inside.times c.self.inside.hosts.items c.args.place old (clock_set c.args.clock old) c.args.self.now c.self.invariant c.self.view_is c.requires c.set_clock.ensures.1
    kept (same_stored kept old.id.0) (same_but_up old (clock_set c.args.clock old) _ refl))

pub returns : goal.returns
returns g c =
    let kept = stored_in g.H.Hull.kept g.H.Hull.past c.self.inside.hull in
    let old = c.set_clock.ensures.0 in
    let change = λ (node : Node). record node { up = option_map (reads_clock c.args.clock) node.up } in
    subst (λ (hosts : List HostView). Changes c.args.self.now c.args.place change (record { times = c.self.inside.times; nodes = nodes_of kept hosts })) (sym c.set_clock.ensures.2)
    (changes kept c.self.inside.times c.self.inside.hosts.items c.args.place old (clock_set c.args.clock old) c.args.self.now c.self.invariant c.self.view_is c.requires c.set_clock.ensures.1
    kept change (same_stored kept old.id.0) refl refl)
