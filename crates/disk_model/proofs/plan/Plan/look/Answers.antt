use Rattle.std.proofs.Common.{arith}
use Rattle.disk_model.proofs.Planned.{goes_by_plan}
use Rattle.disk_model.proofs.plan.Plan.look.Goals as goal

pub returns-clause-plan : goal.returns-clause-plan
returns-clause-plan c =
    let e = c.answer.ensures in
    goes_by_plan c.args.self.now c.answer.new.self _ _ _ _ _ e.answer e.failing e.stop e.calls e.changes (λ n. omega arith) (λ n. omega arith)
