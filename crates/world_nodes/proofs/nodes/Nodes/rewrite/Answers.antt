use Rattle.std.proofs.Common.{Bool, Ok, Err, ap, sym, ◌∙◌, subst}
use Rattle.xt_base.specs.declared.ids.NodeId.{NodeId}
use Rattle.world_hull.specs.Appends.{Logs}
use Rattle.world_hull.specs.Rewritings.{MayBecome, IsCompacted}
use Rattle.std.specs.Option.{option_map}
use Rattle.world_host.specs.Hosts.{HostView, stored_in}
use Rattle.world_host.specs.Forgetting.{running_without}
use Rattle.world_nodes.proofs.Hosts.{AreOthers}
use Rattle.world_nodes.proofs.Changes.{stands, again, again_stored, same_old, same_but_up, compact_others, compact_own, compact_past, compact_not}
use Rattle.world_nodes.proofs.Forgetting.{forgot_told, kept_told, may_become}
use Rattle.world_nodes.proofs.nodes.Nodes.rewrite.Goals as goal

pub compact-requires : goal.compact-requires
compact-requires g c =
    subst (λ (i : NodeId). MayBecome c.args.keep.now (g.H.Hull.kept c.self.inside.hull i.0)) (sym c.id-node.ensures)
    (may_become c.args.keep.now (g.H.Hull.kept c.self.inside.hull c.index.result.now.id.0) (c.requires.fits _ (stands (stored_in g.H.Hull.kept g.H.Hull.past c.self.inside.hull) c.self.inside.times c.self.inside.hosts.items c.args.place c.index.result.now c.index.result.now c.args.self.now c.self.invariant c.self.view_is c.requires.inside c.index.ensures)).1)

pub invariant_of-self : goal.invariant_of-self
invariant_of-self g c =
    again_stored (stored_in g.H.Hull.kept g.H.Hull.past c.self.inside.hull) (stored_in g.H.Hull.kept g.H.Hull.past c.compact.new.self) c.self.inside.times c.self.inside.hosts.items c.args.place c.index.result.now c.args.self.now c.self.invariant c.self.view_is c.requires.inside c.index.ensures c.id-node.result c.id-node.ensures
    (compact_others g.H.Hull.room (g.H.Hull.kept c.self.inside.hull, g.H.Hull.past c.self.inside.hull) (g.H.Hull.kept c.compact.new.self, g.H.Hull.past c.compact.new.self) c.id-node.result c.args.keep.now (Err c.in_err-compact.field-0.0) tt c.in_err-compact.ensures.others)

pub forget-requires : goal.forget-requires
forget-requires g c =
    (c.requires.fits _ (stands (stored_in g.H.Hull.kept g.H.Hull.past c.self.inside.hull) c.self.inside.times c.self.inside.hosts.items c.args.place c.index_mut.result.now c.index_mut.result.now c.args.self.now c.self.invariant c.self.view_is c.requires.inside c.index_mut.ensures.value)).0

pub invariant_of-self-then-branch : goal.invariant_of-self-then-branch
invariant_of-self-then-branch g c =
    let old : Logs = (g.H.Hull.kept c.self.inside.hull, g.H.Hull.past c.self.inside.hull) in
    let new : Logs = (g.H.Hull.kept c.compact.new.self, g.H.Hull.past c.compact.new.self) in
    let same = same_old (stored_in g.H.Hull.kept g.H.Hull.past c.self.inside.hull) c.self.inside.times c.self.inside.hosts.items c.args.place c.index_mut.result.now c.index_mut.result.now c.args.self.now c.self.invariant c.self.view_is c.requires.inside c.index_mut.ensures.value c.index.result.now c.index.ensures in
    let others = compact_others g.H.Hull.room old new c.id-node.result c.args.keep.now (Ok c.in_ok-compact.field-0) c.in_ok-compact.ensures.records tt in
    again (stored_in g.H.Hull.kept g.H.Hull.past c.self.inside.hull) c.self.inside.times c.self.inside.hosts.items c.args.place c.index_mut.result.now c.forget.new.self c.args.self.now c.self.invariant c.self.view_is c.requires.inside c.index_mut.ensures.value
    (stored_in g.H.Hull.kept g.H.Hull.past c.compact.new.self)
    (subst (λ (i : NodeId). AreOthers (stored_in g.H.Hull.kept g.H.Hull.past c.self.inside.hull) (stored_in g.H.Hull.kept g.H.Hull.past c.compact.new.self) i.0) (c.id-node.ensures ∙ ap (λ (h : HostView). h.id) same) others)
    (same_but_up c.index_mut.result.now c.forget.new.self (option_map (running_without c.args.keep.now) c.index_mut.result.now.up) c.forget.ensures)

pub returns-then-branch-clause-done : goal.returns-then-branch-clause-done
returns-then-branch-clause-done g c =
    let old : Logs = (g.H.Hull.kept c.self.inside.hull, g.H.Hull.past c.self.inside.hull) in
    let new : Logs = (g.H.Hull.kept c.compact.new.self, g.H.Hull.past c.compact.new.self) in
    let same = same_old (stored_in g.H.Hull.kept g.H.Hull.past c.self.inside.hull) c.self.inside.times c.self.inside.hosts.items c.args.place c.index_mut.result.now c.index_mut.result.now c.args.self.now c.self.invariant c.self.view_is c.requires.inside c.index_mut.ensures.value c.index.result.now c.index.ensures in
    let is = subst (λ (b : Bool). IsCompacted g.H.Hull.room old new c.id-node.result c.args.keep.now b) c.if-branch.true c.in_ok-compact.ensures.records in
    forgot_told (stored_in g.H.Hull.kept g.H.Hull.past c.self.inside.hull) (stored_in g.H.Hull.kept g.H.Hull.past c.compact.new.self) c.self.inside.times c.self.inside.hosts.items c.args.place c.index_mut.result.now c.forget.new.self c.args.self.now c.self.invariant c.self.view_is c.requires.inside c.index_mut.ensures.value
    c.id-node.result (c.id-node.ensures ∙ ap (λ (h : HostView). h.id) same) g.H.Hull.room c.args.keep.now
    (compact_others g.H.Hull.room old new c.id-node.result c.args.keep.now (Ok c.in_ok-compact.field-0) c.in_ok-compact.ensures.records tt)
    c.forget.ensures
    (c.requires.fits _ (stands (stored_in g.H.Hull.kept g.H.Hull.past c.self.inside.hull) c.self.inside.times c.self.inside.hosts.items c.args.place c.index_mut.result.now c.index_mut.result.now c.args.self.now c.self.invariant c.self.view_is c.requires.inside c.index_mut.ensures.value)).0
    (sym is.due) (compact_own g.H.Hull.room old new c.id-node.result c.args.keep.now is) (compact_past g.H.Hull.room old new c.id-node.result c.args.keep.now is)

pub invariant_of-self-else-branch : goal.invariant_of-self-else-branch
invariant_of-self-else-branch g c =
    again_stored (stored_in g.H.Hull.kept g.H.Hull.past c.self.inside.hull) (stored_in g.H.Hull.kept g.H.Hull.past c.compact.new.self) c.self.inside.times c.self.inside.hosts.items c.args.place c.index.result.now c.args.self.now c.self.invariant c.self.view_is c.requires.inside c.index.ensures c.id-node.result c.id-node.ensures
    (compact_others g.H.Hull.room (g.H.Hull.kept c.self.inside.hull, g.H.Hull.past c.self.inside.hull) (g.H.Hull.kept c.compact.new.self, g.H.Hull.past c.compact.new.self) c.id-node.result c.args.keep.now (Ok c.in_ok-compact.field-0) c.in_ok-compact.ensures.records tt)

pub returns-else-branch-clause-done : goal.returns-else-branch-clause-done
returns-else-branch-clause-done g c =
    let old : Logs = (g.H.Hull.kept c.self.inside.hull, g.H.Hull.past c.self.inside.hull) in
    let new : Logs = (g.H.Hull.kept c.compact.new.self, g.H.Hull.past c.compact.new.self) in
    let is = subst (λ (b : Bool). IsCompacted g.H.Hull.room old new c.id-node.result c.args.keep.now b) c.if-branch.false c.in_ok-compact.ensures.records in
    kept_told (stored_in g.H.Hull.kept g.H.Hull.past c.self.inside.hull) (stored_in g.H.Hull.kept g.H.Hull.past c.compact.new.self) c.self.inside.times c.self.inside.hosts.items c.args.place c.index.result.now c.index.result.now c.args.self.now c.self.invariant c.self.view_is c.requires.inside c.index.ensures
    c.id-node.result c.id-node.ensures g.H.Hull.room c.args.keep.now (compact_not g.H.Hull.room old new c.id-node.result c.args.keep.now is)
    (c.requires.fits _ (stands (stored_in g.H.Hull.kept g.H.Hull.past c.self.inside.hull) c.self.inside.times c.self.inside.hosts.items c.args.place c.index.result.now c.index.result.now c.args.self.now c.self.invariant c.self.view_is c.requires.inside c.index.ensures)).0
    (sym is.due)
