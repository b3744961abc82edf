use Rattle.std.proofs.Common.{[]}
use Rattle.volume_rows.specs.Rows.{names_in}
use Rattle.name_tree.proofs.Pages.{SoFar, above}
use Rattle.name_tree.proofs.node.Node.own_page.Given as goal

abbrev pub invariant-loop-name : goal.invariant-loop-name
invariant-loop-name l = SoFar l.page l.name-iterator (above l.fn.after (names_in l.self []))
