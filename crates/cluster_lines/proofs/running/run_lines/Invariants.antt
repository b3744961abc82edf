use Rattle.cluster_lines.specs.Lines.{Lines}
use Rattle.cluster_lines.proofs.running.run_lines.Given as goal

-- so many lines were done
abbrev pub invariant-loop-line : goal.invariant-loop-line
invariant-loop-line g l =
    Lines l.cluster
    (record {
      session = l.fn.session;
      around = record {
        to_come = g.L.Link.given l.fn.link;
        sent = g.L.Link.sent l.fn.link;
        losses = g.L.Link.loss_count l.fn.link;
        to_read = g.C.Clock.readings l.fn.clock;
      };
      left = g.S.Source.left l.fn.src;
      held = g.K.Sink.held l.fn.out;
      counts = record {
        link = g.L.Link.fault_count l.fn.link;
        clock = g.C.Clock.fault_count l.fn.clock;
        source = g.S.Source.fault_count l.fn.src;
      };
      sink = g.K.Sink.fault_count l.fn.out;
    })
    l._line
    (record {
      session = l.session;
      around = record {
        to_come = g.L.Link.given l.link;
        sent = g.L.Link.sent l.link;
        losses = g.L.Link.loss_count l.link;
        to_read = g.C.Clock.readings l.clock;
      };
      left = g.S.Source.left l.src;
      held = g.K.Sink.held l.out;
      counts = record {
        link = g.L.Link.fault_count l.link;
        clock = g.C.Clock.fault_count l.clock;
        source = g.S.Source.fault_count l.src;
      };
      sink = g.K.Sink.fault_count l.out;
    })
