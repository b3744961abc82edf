use Rattle.client_jobs.proofs.Sessions.{lists_end}
use Rattle.client_jobs.proofs.lines.run_lists.Goals as goal

pub returns : goal.returns
returns g c source =
    lists_end c.args.base.now c.lists_alone-job.result c.args.session.now c.work_quietly.new.session c.next.result c.client_of.result _ _ _ _ _
    c.lists_alone-job.ensures c.next.ensures c.client_of.ensures.value (c.work_quietly.ensures source)
