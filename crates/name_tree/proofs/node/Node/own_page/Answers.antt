use Rattle.std.proofs.Common.{◌∙◌, sym}
use Rattle.name_tree.proofs.Pages.{start, at_end, at_full}
use Rattle.name_tree.proofs.node.Node.own_page.Goals as goal

pub loop-name-init : goal.loop-name-init
loop-name-init c =
    start c.args.after.now c.in_ok-after.after c.new-page.result c.self.inside.entry c.self.inside.kids.entries c.into_iter-name-iterator.result c.args.self.now c.self.view_is c.self.invariant.trees c.in_ok-after.ensures.ok c.new-page.ensures (c.into_iter-name-iterator.ensures.into_iter_gives ∙ c.range-name-items.ensures.between tt)

pub returns-then-len-eq-PAGE : goal.returns-then-len-eq-PAGE
returns-then-len-eq-PAGE c = at_full c.loop-name.page c.loop-name.name-iterator _ c.loop-name.invariant (sym c.len.ensures ∙ c.if-len-eq-PAGE.true)

pub returns : goal.returns
returns c = at_end c.loop-name.page c.loop-name.name-iterator _ c.loop-name.invariant c.in-None.ensures.steps.0
