use Rattle.std.proofs.Common.{◌≡◌, ◌∙◌, Option, Bor, ap, sym, subst}
use Rattle.std.specs.Option.{option_map}
use Rattle.xt_messages.specs.declared.record.Record.{Record}
use Rattle.world_spec.specs.World.{with_node}
use Rattle.world_nodes.specs.Nodes.{after_put}
use Rattle.world_nodes.proofs.Changes.{same_there}
use Rattle.world_nodes.proofs.nodes.Nodes.keep.Goals as goal

pub returns-in-None-clause-done : goal.returns-in-None-clause-done
returns-in-None-clause-done g c = λ node at.
    subst (λ (rec : Option Record). c.args.self.now ≡ record c.args.self.now { nodes = with_node c.args.self.now.nodes (after_put rec node) })
    (sym (ap (option_map (λ (value : Bor Record). value.now)) c.in-None.is) ∙ c.get.ensures) (same_there c.args.self.now c.args.place node at)
