use Rattle.std.proofs.Common.{◌∙◌}
use Rattle.check_job.specs.Reports.{report_lines}
use Rattle.check_job.proofs.Found.{put_whole}
use Rattle.check_job.proofs.checking.tell.Goals as goal

pub returns-in-Ok-put_all-clause-reports : goal.returns-in-Ok-put_all-clause-reports
returns-in-Ok-put_all-clause-reports g c =
    let records = c.args.records.now in
    put_whole (report_lines records c.args.long c.args.limit c.args.compacted) c.as_bytes.result.now records c.args.long c.args.limit
    (g.K.Sink.held c.args.out.now) (g.K.Sink.held c.put_all.new.out) c.status_at.result (c.as_bytes.ensures.value ∙ c.in-Ok.ensures) (c.status_at.ensures records)
    c.in-Ok-put_all.ensures.whole
