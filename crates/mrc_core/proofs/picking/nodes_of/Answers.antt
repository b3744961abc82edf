use Rattle.std.proofs.Common.{List, sym, subst, take, IsTrue}
use Rattle.xt_base.specs.declared.ids.NodeId.{NodeId}
use Rattle.xt_base.specs.MemberList.{are_distinct}
use Rattle.mrc_core.proofs.Different.{nodes_differ}
use Rattle.mrc_core.proofs.picking.nodes_of.Goals as goal

pub returns-clause-different : goal.returns-clause-different
returns-clause-different c = subst (λ (nodes : List NodeId). IsTrue (are_distinct nodes)) (sym c.loop-row.invariant) (nodes_differ (take c.loop-row.row-index c.args.rows.now))
