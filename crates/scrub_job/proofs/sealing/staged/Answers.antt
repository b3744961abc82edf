use Rattle.scrub_job.proofs.Sealed.{cannot_stage, none_staged, one_staged}
use Rattle.scrub_job.proofs.sealing.staged.Goals as goal

pub returns-in-Err-clause-cannot : goal.returns-in-Err-clause-cannot
returns-in-Err-clause-cannot g c =
    cannot_stage (Unit {0}) c.args.store.now c.args.seals.now c.loop-seal.seal-index c.seal-item.result c.loop-seal.waiting c.stage.new.self c.loop-seal-test.true c.seal-item.is
    c.loop-seal.invariant c.in-Err.error c.in-Err.ensures
