use Rattle.std.proofs.Common.{sym, subst, List}
use Rattle.xt_base.specs.declared.ids.OpId.{OpId}
use Rattle.trace_judge.specs.Rows.{IsSetOf}
use Rattle.trace_judge.proofs.Put.{set_push}
use Rattle.trace_judge.proofs.order.Order.append.Goals as goal

pub returns-clause-set : goal.returns-clause-set
returns-clause-set c = λ is.
    subst (λ (ids : List OpId). IsSetOf c.put.new.self.set ids) (sym c.in_ok-push.ensures.items)
    (set_push c.args.self.now.set.set c.put.new.self.set c.args.self.now.ids.items c.args.claim.id c.in_ok-put.ensures is)
