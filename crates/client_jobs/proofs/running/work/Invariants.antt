use Rattle.std.proofs.Common.{◌≡◌}
use Rattle.client_plans.specs.Plans.{begins}
use Rattle.client_jobs.specs.Content.{pattern_from}
use Rattle.client_jobs.specs.Lines.{bytes_put}
use Rattle.client_jobs.specs.Running.{CanAsk, IsUnderWay, command_of, put_in}
use Rattle.client_jobs.proofs.running.work.Given as goal

-- so many operations were carried out, and no count rose
abbrev pub invariant-loop : goal.invariant-loop
invariant-loop g l =
    record {
      asks : CanAsk l.session.client;
      turns : l.session.driver.listener.turns ≡ l.fn.session.driver.listener.turns;
      link : g.L.Link.fault_count l.link ≡ g.L.Link.fault_count l.fn.link;
      clock : g.C.Clock.fault_count l.clock ≡ g.C.Clock.fault_count l.fn.clock;
      sink : g.K.Sink.fault_count l.out ≡ g.K.Sink.fault_count l.fn.out;
      bytes : pattern_from 0 l.pieces.size ≡ bytes_put (put_in l.job.order);
      way :
          IsUnderWay (command_of l.job) (bytes_put (put_in l.job.order))
          (record {
            to_come = g.L.Link.given l.fn.link;
            sent = g.L.Link.sent l.fn.link;
            losses = g.L.Link.loss_count l.fn.link;
            to_read = g.C.Clock.readings l.fn.clock;
          })
          (record { session = l.fn.session; stage = begins l.job.order })
          (g.K.Sink.held l.fn.out) l.counter
          (record {
            to_come = g.L.Link.given l.link;
            sent = g.L.Link.sent l.link;
            losses = g.L.Link.loss_count l.link;
            to_read = g.C.Clock.readings l.clock;
          })
          (record { session = l.session; stage = l.stage }) l.pieces.taken (g.K.Sink.held l.out);
    }
