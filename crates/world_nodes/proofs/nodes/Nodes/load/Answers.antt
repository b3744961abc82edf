use Rattle.std.proofs.Common.{ap, ◌∙◌}
use Rattle.xt_protocol.specs.Folds.{fold_of, logged_of}
use Rattle.world_spec.specs.World.{Node}
use Rattle.world_host.specs.Hosts.{stored_in}
use Rattle.world_nodes.specs.Nodes.{after_load}
use Rattle.world_nodes.proofs.Changes.{none_other, load_others, load_own, again_stored, stored_changes, its_stored}
use Rattle.world_nodes.proofs.nodes.Nodes.load.Goals as goal

pub invariant_of-self : goal.invariant_of-self
invariant_of-self g c =
    again_stored (stored_in g.H.Hull.kept g.H.Hull.past c.self.inside.hull) (stored_in g.H.Hull.kept g.H.Hull.past c.revive.new.self) c.self.inside.times c.self.inside.hosts.items c.args.place c.index.result.now c.args.self.now c.self.invariant c.self.view_is c.requires c.index.ensures c.id-node.result c.id-node.ensures
    (none_other (g.H.Hull.kept c.self.inside.hull, g.H.Hull.past c.self.inside.hull) (g.H.Hull.kept c.revive.new.self, g.H.Hull.past c.revive.new.self) c.id-node.result c.in_default.ensures.records)

pub invariant_of-self-in_err-folded : goal.invariant_of-self-in_err-folded
invariant_of-self-in_err-folded g c =
    again_stored (stored_in g.H.Hull.kept g.H.Hull.past c.self.inside.hull) (stored_in g.H.Hull.kept g.H.Hull.past c.revive.new.self) c.self.inside.times c.self.inside.hosts.items c.args.place c.index.result.now c.args.self.now c.self.invariant c.self.view_is c.requires c.index.ensures c.id-node.result c.id-node.ensures
    (load_others (g.H.Hull.kept c.self.inside.hull, g.H.Hull.past c.self.inside.hull) (g.H.Hull.kept c.revive.new.self, g.H.Hull.past c.revive.new.self) c.id-node.result c.in-Ok.records.items c.in-Ok.ensures.found)

pub invariant_of-self-2 : goal.invariant_of-self-2
invariant_of-self-2 g c =
    again_stored (stored_in g.H.Hull.kept g.H.Hull.past c.self.inside.hull) (stored_in g.H.Hull.kept g.H.Hull.past c.revive.new.self) c.self.inside.times c.self.inside.hosts.items c.args.place c.index.result.now c.args.self.now c.self.invariant c.self.view_is c.requires c.index.ensures c.id-node.result c.id-node.ensures
    (load_others (g.H.Hull.kept c.self.inside.hull, g.H.Hull.past c.self.inside.hull) (g.H.Hull.kept c.revive.new.self, g.H.Hull.past c.revive.new.self) c.id-node.result c.in-Ok.records.items c.in-Ok.ensures.found)

pub returns-clause-found : goal.returns-clause-found
returns-clause-found g c = λ node at.
    let its = its_stored (stored_in g.H.Hull.kept g.H.Hull.past c.self.inside.hull) (stored_in g.H.Hull.kept g.H.Hull.past c.revive.new.self) c.self.inside.times c.self.inside.hosts.items c.args.place c.index.result.now c.args.self.now c.self.invariant c.self.view_is c.requires c.index.ensures c.id-node.result c.id-node.ensures node at in
    record {
      rows = c.in-Ok.ensures.found.says ∙ ap (λ (n : Node). fold_of n.kept) its;
      requests = c.in-Ok.ensures.found.logged ∙ ap (λ (n : Node). logged_of n.kept) its;
    }

pub returns-clause-loaded : goal.returns-clause-loaded
returns-clause-loaded g c =
    stored_changes (stored_in g.H.Hull.kept g.H.Hull.past c.self.inside.hull) (stored_in g.H.Hull.kept g.H.Hull.past c.revive.new.self) c.self.inside.times c.self.inside.hosts.items c.args.place c.index.result.now c.args.self.now c.self.invariant c.self.view_is c.requires c.index.ensures c.id-node.result c.id-node.ensures
    after_load (load_others (g.H.Hull.kept c.self.inside.hull, g.H.Hull.past c.self.inside.hull) (g.H.Hull.kept c.revive.new.self, g.H.Hull.past c.revive.new.self) c.id-node.result c.in-Ok.records.items c.in-Ok.ensures.found)
    (load_own (g.H.Hull.kept c.self.inside.hull, g.H.Hull.past c.self.inside.hull) (g.H.Hull.kept c.revive.new.self, g.H.Hull.past c.revive.new.self) c.id-node.result c.in-Ok.records.items c.in-Ok.ensures.found c.index.result.now)
