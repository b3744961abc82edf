use Rattle.check_job.proofs.Found.{all_told}
use Rattle.check_job.proofs.checking.tell_of.Goals as goal

pub returns-clause-reports : goal.returns-clause-reports
returns-clause-reports g c =
    all_told {g = g.D.Disk} c.args.store.now c.args.limit c.records.result.now c.area-area.result c.in-Ok.compacted c.records.ensures c.area-area.ensures c.in-Ok.ensures
    (g.K.Sink.held c.args.out.now) (g.K.Sink.held c.tell.new.out) c.tell.result c.tell.ensures.reports
