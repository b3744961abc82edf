use Rattle.std.proofs.Common.{Bool, not, Option, ap, sym, ◌∙◌}
use Rattle.xt_messages.specs.declared.status.Rule.TheVariants as rule
use Rattle.world_spec.specs.World.{Node, is_server}
use Rattle.world_spec.specs.Rules.{if_so}
use Rattle.world_host.specs.Hosts.{stored_in}
use Rattle.world_nodes.proofs.Changes.{said_of}
use Rattle.world_nodes.proofs.nodes.Nodes.no_server.Goals as goal

pub returns-in-Some : goal.returns-in-Some
returns-in-Some g c =
    ap (λ (b : Bool). if_so (not b) (rule.NoSuchNode c.args.id)) (sym c.if-is_server.true ∙ c.is_server.ensures)
    ∙ said_of (stored_in g.H.Hull.kept g.H.Hull.past c.self.inside.hull) c.self.inside.times c.self.inside.hosts.items c.in-Some.place c.index.result.now c.index.result.now c.args.self.now c.self.invariant c.self.view_is c.in-Some.ensures.1.inside c.index.ensures
    c.args.id (λ (o : Option Node). if_so (not (is_server o)) (rule.NoSuchNode c.args.id)) c.in-Some.ensures

pub returns-in_default : goal.returns-in_default
returns-in_default g c =
    ap (λ (b : Bool). if_so (not b) (rule.NoSuchNode c.args.id)) (sym c.if-is_server.false ∙ c.is_server.ensures)
    ∙ said_of (stored_in g.H.Hull.kept g.H.Hull.past c.self.inside.hull) c.self.inside.times c.self.inside.hosts.items c.in-Some.place c.index.result.now c.index.result.now c.args.self.now c.self.invariant c.self.view_is c.in-Some.ensures.1.inside c.index.ensures
    c.args.id (λ (o : Option Node). if_so (not (is_server o)) (rule.NoSuchNode c.args.id)) c.in-Some.ensures
