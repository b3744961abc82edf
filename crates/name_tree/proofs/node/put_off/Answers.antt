use Rattle.std.proofs.Common.{String, Global, List, length, ap, arith}
use Rattle.std.specs.Result.{is_ok}
use Rattle.volume_rows.specs.Rows.{Row}
use Rattle.name_tree.specs.Trees.{inside}
use Rattle.name_tree.proofs.Apart.{inside_more, pushed_most}
use Rattle.name_tree.proofs.node.put_off.Goals as goal

pub loop-kid-preserved : goal.loop-kid-preserved
loop-kid-preserved c =
    let pushed = pushed_most (is_ok c.push.result) c.loop-kid.pending.items c.push.new.self.items c.in-Some.kid c.push.ensures.items in
    let rest = ap (λ (kids : List (String Global × List Row)). length (inside kids)) c.in-Some.ensures.steps in
    let more = inside_more (c.in-Some.field-0-0, c.in-Some.kid) c.next.new.self in
    omega (arith, pushed, rest, more, c.loop-kid.invariant)
