use Rattle.std.proofs.Common.{◌≡◌}
use Rattle.client_plans.specs.Plans.{begins}
use Rattle.client_jobs.specs.Running.{CanAsk, command_of}
use Rattle.client_jobs.proofs.Feeding.{IsOnItsWay}
use Rattle.client_jobs.proofs.running.work_from.Given as goal

-- so many operations were carried out, whatever is left of the source, and no count rose
abbrev pub invariant-loop : goal.invariant-loop
invariant-loop g l =
    record {
      asks : CanAsk l.session.client;
      link : g.L.Link.fault_count l.link ≡ g.L.Link.fault_count l.fn.link;
      clock : g.C.Clock.fault_count l.clock ≡ g.C.Clock.fault_count l.fn.clock;
      sink : g.K.Sink.fault_count l.out ≡ g.K.Sink.fault_count l.fn.out;
      source : g.S.Source.fault_count l.src ≡ g.S.Source.fault_count l.fn.src;
      way :
          IsOnItsWay (command_of l.job) (g.S.Source.left l.fn.src) (g.S.Source.left l.src) l.pieces
          (record {
            to_come = g.L.Link.given l.fn.link;
            sent = g.L.Link.sent l.fn.link;
            losses = g.L.Link.loss_count l.fn.link;
            to_read = g.C.Clock.readings l.fn.clock;
          })
          (record { session = l.fn.session; stage = begins l.job.order })
          (g.K.Sink.held l.fn.out) l.counter
          (record {
            to_come = g.L.Link.given l.link;
            sent = g.L.Link.sent l.link;
            losses = g.L.Link.loss_count l.link;
            to_read = g.C.Clock.readings l.clock;
          })
          (record { session = l.session; stage = l.stage }) (g.K.Sink.held l.out);
    }
