use Rattle.std.proofs.Common.{ℕ, Option, List}
use Rattle.cluster_job.specs.Registering.{Registers, registered_of}
use Rattle.cluster_job.proofs.registering.register_all.Given as goal

abbrev pub invariant-loop-before : goal.invariant-loop-before
invariant-loop-before g l =
    (left : Option (List ℕ)) (source : ℕ)
    → Registers l.job
    (record {
      session = l.fn.session;
      around = record {
        to_come = g.L.Link.given l.fn.link;
        sent = g.L.Link.sent l.fn.link;
        losses = g.L.Link.loss_count l.fn.link;
        to_read = g.C.Clock.readings l.fn.clock;
      };
      left = left;
      held = g.K.Sink.held l.fn.out;
      counts = record { link = g.L.Link.fault_count l.fn.link; clock = g.C.Clock.fault_count l.fn.clock; source = source };
      sink = g.K.Sink.fault_count l.fn.out;
    })
    (registered_of l.before)
    (record {
      session = l.session;
      around = record {
        to_come = g.L.Link.given l.link;
        sent = g.L.Link.sent l.link;
        losses = g.L.Link.loss_count l.link;
        to_read = g.C.Clock.readings l.clock;
      };
      left = left;
      held = g.K.Sink.held l.out;
      counts = record { link = g.L.Link.fault_count l.link; clock = g.C.Clock.fault_count l.clock; source = source };
      sink = g.K.Sink.fault_count l.out;
    })
