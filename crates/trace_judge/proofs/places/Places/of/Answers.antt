use Rattle.std.proofs.Common.{◌-◌, length, take, drop, arith}
use Rattle.trace_judge.specs.Deals.{is_of, places_from, places_in}
use Rattle.trace_judge.specs.Rows.{call_in}
use Rattle.trace_judge.proofs.Gathered.{first_and_others, none}
use Rattle.trace_judge.proofs.Along.{places_more, places_end}
use Rattle.trace_judge.proofs.places.Places.of.Goals as goal

pub loop-rest-preserved : goal.loop-rest-preserved
loop-rest-preserved c =
    let rest = c.loop-rest.rest.now in
    record {
      noted = λ file.
          places_more (is_of (λ id. call_in c.args.calls.now.rows id) file) (places_in c.loop-rest.places.rows file) (places_in c.take.new.self.rows file)
          (places_from (is_of (λ id. call_in c.args.calls.now.rows id) file) 0 c.args.entries.now) c.loop-rest.place rest (take (length rest - 1) (drop 1 rest)) c.e-item.result
          (first_and_others rest c.e-item.result c.in-len1-up.len_at_least c.e-item.is) (c.in_ok-take.ensures file) (c.loop-rest.invariant.noted file);
      counted = omega (arith, c.loop-rest.invariant.counted);
    }

pub returns : goal.returns
returns c = λ file.
    places_end (is_of (λ id. call_in c.args.calls.now.rows id) file) (places_in c.loop-rest.places.rows file) (places_from (is_of (λ id. call_in c.args.calls.now.rows id) file) 0 c.args.entries.now)
    c.loop-rest.place c.loop-rest.rest.now (none c.loop-rest.rest.now c.in_default.len_below) (c.loop-rest.invariant.noted file)
