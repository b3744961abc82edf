use Rattle.std.proofs.Common.{arith}
use Rattle.xt_journal.proofs.Outcomes.{on_ok}
use Rattle.xt_journal.proofs.Ready.{not_fresh}
use Rattle.xt_journal.proofs.load.make_ready.Goals as goal

pub returns-in-Ok-false-clause-plan : goal.returns-in-Ok-false-clause-plan
returns-in-Ok-false-clause-plan g c told =
    let D = g.D.Disk in
    on_ok c.write_synced.result (c.write_synced.ensures.plan told)
    (λ goes. (2, omega arith, λ fresh. absurd (not_fresh (D.kept c.args.disk.now).read c.in-Ok-false.field-0 (c.in-Ok-false.ensures.value told) c.in-Ok-false.field-0-test fresh), goes))
