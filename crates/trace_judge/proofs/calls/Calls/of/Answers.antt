use Rattle.std.proofs.Common.{◌-◌, length, take, drop, ap}
use Rattle.std.specs.Option.{option_or}
use Rattle.time_line.specs.TimeLine.{begun}
use Rattle.trace_judge.specs.Rows.{call_in}
use Rattle.trace_judge.proofs.Gathered.{first_and_others, none}
use Rattle.trace_judge.proofs.Gathered.{calls_more, calls_end}
use Rattle.trace_judge.proofs.calls.Calls.of.Goals as goal

pub loop-rest-init : goal.loop-rest-init
loop-rest-init c = λ id. ap (λ o. option_or o (begun id c.args.entries.now)) (c.new-calls.ensures id)

pub loop-rest-preserved : goal.loop-rest-preserved
loop-rest-preserved c = λ id.
    let rest = c.loop-rest.rest.now in
    calls_more id (call_in c.loop-rest.calls.rows id) (call_in c.take.new.self.rows id) (begun id c.args.entries.now) rest (take (length rest - 1) (drop 1 rest)) c.e-item.result
    (first_and_others rest c.e-item.result c.in-len1-up.len_at_least c.e-item.is) (c.in_ok-take.ensures id) (c.loop-rest.invariant id)

pub returns : goal.returns
returns c = λ id.
    calls_end id (call_in c.loop-rest.calls.rows id) (begun id c.args.entries.now) c.loop-rest.rest.now (none c.loop-rest.rest.now c.in_default.len_below) (c.loop-rest.invariant id)
