use Rattle.std.proofs.Common.{List, Ok, ap, sym, subst}
use Rattle.xt_base.specs.declared.ids.NodeId.{NodeId}
use Rattle.xt_protocol.specs.Folds.{fold_of, IsInPlace}
use Rattle.world_spec.specs.World.{Node, Deed}
use Rattle.world_hull.specs.Answers.{IsFullExactly}
use Rattle.world_hull.specs.Appends.{Logs, IsAppended}
use Rattle.world_hull.specs.declared.hull.Kept.{Kept}
use Rattle.world_host.specs.Hosts.{stored_in}
use Rattle.world_nodes.specs.Nodes.{after_append}
use Rattle.world_nodes.proofs.Changes.{stands, map_if, append_others, append_own, again_stored, stored_changes, its_stored}
use Rattle.world_nodes.proofs.nodes.Nodes.append.Goals as goal

pub append-requires-clause-fits : goal.append-requires-clause-fits
append-requires-clause-fits g c =
    (c.requires.fits _ (stands (stored_in g.H.Hull.kept g.H.Hull.past c.self.inside.hull) c.self.inside.times c.self.inside.hosts.items c.args.place c.index.result.now c.index.result.now c.args.self.now c.self.invariant c.self.view_is c.requires.inside c.index.ensures)).0

pub append-requires-clause-place : goal.append-requires-clause-place
append-requires-clause-place g c =
    subst (λ (i : NodeId). IsInPlace (fold_of (g.H.Hull.kept c.self.inside.hull i.0)) c.args.rec.now) (sym c.id-node.ensures)
    (c.requires.fits _ (stands (stored_in g.H.Hull.kept g.H.Hull.past c.self.inside.hull) c.self.inside.times c.self.inside.hosts.items c.args.place c.index.result.now c.index.result.now c.args.self.now c.self.invariant c.self.view_is c.requires.inside c.index.ensures)).1

pub invariant_of-self : goal.invariant_of-self
invariant_of-self g c =
    again_stored (stored_in g.H.Hull.kept g.H.Hull.past c.self.inside.hull) (stored_in g.H.Hull.kept g.H.Hull.past c.append.new.self) c.self.inside.times c.self.inside.hosts.items c.args.place c.index.result.now c.args.self.now c.self.invariant c.self.view_is c.requires.inside c.index.ensures c.id-node.result c.id-node.ensures
    (append_others (g.H.Hull.kept c.self.inside.hull, g.H.Hull.past c.self.inside.hull) (g.H.Hull.kept c.append.new.self, g.H.Hull.past c.append.new.self) c.id-node.result c.args.rec.now c.args.stop c.append.result c.append.ensures.records c.append.ensures.others)

pub returns-clause-done : goal.returns-clause-done
returns-clause-done g c =
    let old : Logs = (g.H.Hull.kept c.self.inside.hull, g.H.Hull.past c.self.inside.hull) in
    let new : Logs = (g.H.Hull.kept c.append.new.self, g.H.Hull.past c.append.new.self) in
    map_if (λ (end : Kept). IsAppended old new c.id-node.result c.args.rec.now c.args.stop end) _ c.append.result
    (λ end is. (
      is.0,
      stored_changes (stored_in g.H.Hull.kept g.H.Hull.past c.self.inside.hull) (stored_in g.H.Hull.kept g.H.Hull.past c.append.new.self) c.self.inside.times c.self.inside.hosts.items c.args.place c.index.result.now c.args.self.now c.self.invariant c.self.view_is c.requires.inside c.index.ensures c.id-node.result c.id-node.ensures
          (after_append c.args.rec.now end) (append_others old new c.id-node.result c.args.rec.now c.args.stop (Ok end) is tt)
          (append_own old new c.id-node.result c.args.rec.now end is.1 is.2 c.index.result.now),
    )) c.append.ensures.records

pub returns-clause-room : goal.returns-clause-room
returns-clause-room g c = λ node at.
    subst (λ (ds : List Deed). IsFullExactly (g.H.Hull.room.overflow ds c.args.rec.now) c.append.result)
    (ap (λ (n : Node). n.past) (its_stored (stored_in g.H.Hull.kept g.H.Hull.past c.self.inside.hull) (stored_in g.H.Hull.kept g.H.Hull.past c.append.new.self) c.self.inside.times c.self.inside.hosts.items c.args.place c.index.result.now c.args.self.now c.self.invariant c.self.view_is c.requires.inside c.index.ensures c.id-node.result c.id-node.ensures node at)) c.append.ensures.room
