use Rattle.sweep_job.proofs.Found.{loads}
use Rattle.sweep_job.proofs.sweeping.sweep_osd.Goals as goal

pub returns-in-Ok-clause-does : goal.returns-in-Ok-clause-does
returns-in-Ok-clause-does g c =
    loads c.args.disk c.args.limit c.in-Ok.store c.in-Ok.ensures.loads c.args.times.now c.args.files.now c.args.now c.sweep_loaded.result.1
    (g.K.Sink.held c.args.out.now) (g.K.Sink.held c.sweep_loaded.new.out) c.sweep_loaded.result.0 c.sweep_loaded.ensures.does
