use Rattle.trace_judge.proofs.Clocks.{advanced_stands}
use Rattle.std.specs.BTreeMap.{get}
use Rattle.std.specs.Ordering.{nat_cmp}
use Rattle.trace_judge.proofs.kept.Judging.advance.Goals as goal

pub returns-clause-follows : goal.returns-clause-follows
returns-clause-follows c = λ k f. record {
  stands = λ n. advanced_stands c.args.self.now.leases.readings.ticks c.args.ticks (get nat_cmp c.args.self.now.leases.readings.rows n.0) (k.stands n) c.requires (f.stands n);
  holder = f.holder;
  order = f.order;
  set = f.set;
  content = f.content;
  calls = f.calls;
  answered = f.answered;
  ended = f.ended;
  says_apart = f.says_apart;
  says_acting = f.says_acting;
  says_order = f.says_order;
  says_once = f.says_once;
  says_shown = f.says_shown;
  says_fresh = f.says_fresh;
}
