use Rattle.scrub_job.proofs.Whole.{scrubs_some}
use Rattle.scrub_job.proofs.scrubbing.scrub_store.Goals as goal

pub returns-in-Ok : goal.returns-in-Ok
returns-in-Ok g c =
    scrubs_some c.args.limit c.args.disk c.scrub_loaded.result.1 (g.K.Sink.held c.args.out.now) (g.K.Sink.held c.scrub_loaded.new.out)
    (g.K.Sink.fault_count c.args.out.now) (g.K.Sink.fault_count c.scrub_loaded.new.out) c.scrub_loaded.result.0 c.in-Ok.store c.in-Ok.ensures.loads c.scrub_loaded.ensures
