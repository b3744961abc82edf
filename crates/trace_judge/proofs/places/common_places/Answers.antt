use Rattle.std.proofs.Common.{◌-◌, length, take, drop, arith}
use Rattle.judging.specs.Dealt.{is_common}
use Rattle.trace_judge.specs.Deals.{places_from}
use Rattle.trace_judge.proofs.Gathered.{first_and_others, none}
use Rattle.trace_judge.proofs.Along.{places_more, places_end}
use Rattle.trace_judge.proofs.places.common_places.Goals as goal

pub loop-rest-preserved : goal.loop-rest-preserved
loop-rest-preserved c =
    let rest = c.loop-rest.rest.now in
    record {
      noted =
          places_more is_common c.loop-rest.places.items c.note_common.new.places.items (places_from is_common 0 c.args.entries.now) c.loop-rest.place rest (take (length rest - 1) (drop 1 rest)) c.e-item.result
          (first_and_others rest c.e-item.result c.in-len1-up.len_at_least c.e-item.is) c.in_ok-note_common.ensures c.loop-rest.invariant.noted;
      counted = omega (arith, c.loop-rest.invariant.counted);
    }

pub returns : goal.returns
returns c =
    places_end is_common c.loop-rest.places.items (places_from is_common 0 c.args.entries.now) c.loop-rest.place c.loop-rest.rest.now (none c.loop-rest.rest.now c.in_default.len_below) c.loop-rest.invariant.noted
