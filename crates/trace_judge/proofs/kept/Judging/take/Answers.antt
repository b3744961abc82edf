use Rattle.trace_judge.proofs.Followed.{followed}
use Rattle.trace_judge.proofs.kept.Judging.take.Goals as goal

pub returns-clause-follows : goal.returns-clause-follows
returns-clause-follows c = λ k f.
    let writes = c.in_ok-one_order.ensures in
    let leases = c.in_ok-apart.ensures in
    let says = c.and-self.ensures in
    followed k c.args.self.now _ c.args.e.now c.claim_on.result c.answer_on-answer.result c.ok_told-end.result
    (record { apart = c.in_ok-apart.apart; acting = c.lets-acting.result; one_order = c.in_ok-one_order.one_order; once = c.in_ok-one_order.once; shown = c.shows_any-shown.result; fresh = c.is_fresh-fresh.result })
    f
    (record {
      claim_is = c.claim_on.ensures;
      answer_is = c.answer_on-answer.ensures;
      end_is = c.ok_told-end.ensures;
      acting_is = c.lets-acting.ensures;
      fresh_is = c.is_fresh-fresh.ensures;
      shown_is = c.shows_any-shown.ensures;
      ids = writes.ids;
      set = writes.set;
      order_is = writes.order;
      once_is = writes.once;
      content = writes.content;
      answers = c.in_ok-note_answer.ensures;
      ended = c.in_ok-note_end.ensures;
      calls = c.in_ok-take.ensures;
      ticks = leases.ticks;
      rows = leases.rows;
      apart_is = leases.fits;
      holder = leases.holder;
      says_apart = says.apart;
      says_acting = says.acting;
      says_order = says.one_order;
      says_once = says.once;
      says_shown = says.shown;
      says_fresh = says.fresh;
    })
