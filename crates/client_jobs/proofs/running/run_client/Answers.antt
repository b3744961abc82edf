use Rattle.std.proofs.Common.{inl, inr, refl}
use Rattle.client_jobs.specs.Lines.{bytes_put}
use Rattle.client_jobs.specs.Running.{command_of, put_in}
use Rattle.client_jobs.proofs.Working.{job_works, content_made}
use Rattle.client_jobs.proofs.running.run_client.Goals as goal

pub returns-in-Err : goal.returns-in-Err
returns-in-Err g c =
    inl (record {
      quiet = c.in-Err.ensures.link;
      whole = refl;
      why = c.in-Err.status;
      early = c.in-Err.ensures.early;
      reads = c.in-Err.ensures.early_reads;
      cause = c.in-Err.ensures.cause (g.S.Source.fault_count c.args.src.now);
      closes = c.close.ensures;
    })

pub returns : goal.returns
returns g c =
    inr (record {
      unread = g.C.Clock.readings c.begin.new.clock;
      session = c.in-Ok.session;
      starts = c.in-Ok.ensures.begins;
      bytes = bytes_put (put_in c.args.job.now.order);
      taken = (c.work.ensures.worked (g.S.Source.fault_count c.args.src.now)).0;
      content =
          content_made (put_in c.args.job.now.order) (g.S.Source.left c.args.src.now) (c.work.ensures.worked (g.S.Source.fault_count c.args.src.now)).0
          (c.reads_source.ensures.none c.if-reads_source.false);
      leaves = c.work.new.session;
      works =
          job_works (command_of c.args.job.now) _ _ _ _ _ _ _ _ _ _ _ _ _ _ _ _ _ _ _ _ _ _ _ c.in-Ok.ensures.link.0
          c.in-Ok.ensures.link.1 c.in-Ok.ensures.link.2 c.in-Ok.ensures.sound.0 c.in-Ok.ensures.sound.1 (c.work.ensures.worked (g.S.Source.fault_count c.args.src.now)).1;
    })
