use Rattle.std.proofs.Common.{ap, sym, ◌∙◌}
use Rattle.world_spec.specs.Lines.{never_started}
use Rattle.world_spec.specs.World.{node_in}
use Rattle.world_host.specs.Hosts.{HostView, node_of, stored_in, nothing_stored}
use Rattle.world_nodes.proofs.Changes.{declared_last}
use Rattle.world_nodes.proofs.nodes.Nodes.declare.Goals as goal

pub invariant_of-self-2 : goal.invariant_of-self-2
invariant_of-self-2 g c =
    (declared_last (stored_in g.H.Hull.kept g.H.Hull.past c.self.inside.hull) c.self.inside.times c.self.inside.hosts.items c.push.new.self.items c.resting.result
    (never_started c.args.id c.args.role) c.args.self.now c.self.invariant c.self.view_is
    (ap (λ (h : HostView). node_in c.args.self.now.nodes h.id.0) c.resting.ensures ∙ c.requires) (ap (λ (h : HostView). h.times) c.resting.ensures) (sym (ap (node_of nothing_stored) c.resting.ensures)) c.in_ok-push.ensures.items).0

pub returns : goal.returns
returns g c =
    (declared_last (stored_in g.H.Hull.kept g.H.Hull.past c.self.inside.hull) c.self.inside.times c.self.inside.hosts.items c.push.new.self.items c.resting.result
    (never_started c.args.id c.args.role) c.args.self.now c.self.invariant c.self.view_is
    (ap (λ (h : HostView). node_in c.args.self.now.nodes h.id.0) c.resting.ensures ∙ c.requires) (ap (λ (h : HostView). h.times) c.resting.ensures) (sym (ap (node_of nothing_stored) c.resting.ensures)) c.in_ok-push.ensures.items).1
