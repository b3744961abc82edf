use Rattle.std.proofs.Common.{arith, ap, List}
use Rattle.volume_rows.specs.Rows.{Row}
use Rattle.name_tree.specs.Trees.{rows_in}
use Rattle.name_tree.proofs.Apart.{rows_more}
use Rattle.name_tree.proofs.node.Node.take_apart.Goals as goal

pub loop-next-init : goal.loop-next-init
loop-next-init c = tt

pub loop-next-smaller : goal.loop-next-smaller
loop-next-smaller c =
    let all = ap (λ (trees : List (List Row)). rows_in trees) c.in-Some.ensures.items in
    let more = rows_more c.pop.new.self.items c.in-Some.next in
    omega (arith, all, more, c.put_off.ensures)

pub loop-next-preserved : goal.loop-next-preserved
loop-next-preserved c = tt
