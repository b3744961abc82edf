use Rattle.std.proofs.Common.{◌≡◌, ℕ, List, []}
use Rattle.client_jobs.specs.Running.{CanAsk, Runs, command_of}
use Rattle.client_jobs.proofs.running.work_quietly.Given as goal

-- so many operations were carried out, and no count rose
abbrev pub invariant-loop : goal.invariant-loop
invariant-loop g l =
    record {
      asks : CanAsk l.session.client;
      link : g.L.Link.fault_count l.link ≡ g.L.Link.fault_count l.fn.link;
      clock : g.C.Clock.fault_count l.clock ≡ g.C.Clock.fault_count l.fn.clock;
      way :
          (text : List ℕ)
          × Runs (command_of l.job) []
          (record {
            to_come = g.L.Link.given l.fn.link;
            sent = g.L.Link.sent l.fn.link;
            losses = g.L.Link.loss_count l.fn.link;
            to_read = g.C.Clock.readings l.fn.clock;
          })
          (record { session = l.fn.session; stage = l.fn.first }) l.counter
          (record {
            to_come = g.L.Link.given l.link;
            sent = g.L.Link.sent l.link;
            losses = g.L.Link.loss_count l.link;
            to_read = g.C.Clock.readings l.clock;
          })
          (record { session = l.session; stage = l.stage }) 0 text;
    }
