use Rattle.std.proofs.Common.{[], ap, sym, ◌∙◌}
use Rattle.std.proofs.Common.{Some}
use Rattle.world_spec.specs.World.{client}
use Rattle.world_spec.specs.Lines.{runs, first_boot, whole_client}
use Rattle.world_spec.specs.declared.Role.TheVariants as role
use Rattle.world_spec.specs.World.{node_in}
use Rattle.world_host.specs.Hosts.{HostView, node_of, stored_in, nothing_stored}
use Rattle.world_nodes.proofs.Changes.{declared_last}
use Rattle.world_nodes.proofs.nodes.Nodes.declare_client.Goals as goal

pub invariant_of-self-2 : goal.invariant_of-self-2
invariant_of-self-2 g c =
    (declared_last (stored_in g.H.Hull.kept g.H.Hull.past c.self.inside.hull) c.self.inside.times c.self.inside.hosts.items c.push.new.self.items c.client.result
    (record { id = c.args.id; role = role.Client; kept = []; past = []; up = Some (runs first_boot c.args.clock (client (whole_client c.args.clock))) }) c.args.self.now c.self.invariant c.self.view_is
    (ap (λ (h : HostView). node_in c.args.self.now.nodes h.id.0) c.client.ensures ∙ c.requires.own) (ap (λ (h : HostView). h.times) c.client.ensures) (sym (ap (node_of nothing_stored) c.client.ensures)) c.in_ok-push.ensures.items).0

pub returns : goal.returns
returns g c =
    (declared_last (stored_in g.H.Hull.kept g.H.Hull.past c.self.inside.hull) c.self.inside.times c.self.inside.hosts.items c.push.new.self.items c.client.result
    (record { id = c.args.id; role = role.Client; kept = []; past = []; up = Some (runs first_boot c.args.clock (client (whole_client c.args.clock))) }) c.args.self.now c.self.invariant c.self.view_is
    (ap (λ (h : HostView). node_in c.args.self.now.nodes h.id.0) c.client.ensures ∙ c.requires.own) (ap (λ (h : HostView). h.times) c.client.ensures) (sym (ap (node_of nothing_stored) c.client.ensures)) c.in_ok-push.ensures.items).1
