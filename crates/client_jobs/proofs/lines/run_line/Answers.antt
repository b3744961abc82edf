use Rattle.client_jobs.proofs.Sessions.{read_once, line_runs}
use Rattle.client_jobs.proofs.lines.run_line.Goals as goal

pub returns : goal.returns
returns g c source =
    line_runs c.args.job.now c.args.session.now c.work-status.new.session c.in-Ok.reading (g.C.Clock.readings c.now.new.self)
    c.set_terms.new.self c.set_terms-2.new.self c.client_of.result _ _ _ _ _ _ _ _ _ _ _ _
    (read_once _ _ _ c.in-Ok.ensures.reads c.in-Ok.ensures.untold) c.in-Ok.ensures.faults
    (record {
      first = c.max-first.result;
      least = c.first_number.result;
      asked = c.next.result;
      is = c.max-first.ensures;
      low = c.first_number.ensures.value;
      above = c.next.ensures;
      kept = c.terms-kept.result;
      are = c.terms-kept.ensures.value;
      given = c.terms_for.result;
      for = c.terms_for.ensures.value;
      works = c.set_terms.ensures;
      new = c.client_of.ensures.value;
    })
    (record {
      kept = c.terms-kept.result;
      are = c.terms-kept.ensures.value;
      given = c.terms-left.result;
      were = c.terms-left.ensures.value;
      taken = c.terms_after.result;
      after = c.terms_after.ensures.value;
      works = c.set_terms-2.ensures;
    })
    (c.work-status.ensures.worked source)
