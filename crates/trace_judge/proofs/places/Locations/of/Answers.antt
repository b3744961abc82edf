use Rattle.std.proofs.Common.{◌-◌, length, take, drop}
use Rattle.time_line.specs.TimeLine.{location_in}
use Rattle.trace_judge.specs.Deals.{location_at}
use Rattle.trace_judge.proofs.Gathered.{first_and_others, none}
use Rattle.trace_judge.proofs.Gathered.{locations_more, locations_end}
use Rattle.trace_judge.proofs.places.Locations.of.Goals as goal

pub loop-rest-preserved : goal.loop-rest-preserved
loop-rest-preserved c = λ file.
    let rest = c.loop-rest.rest.now in
    locations_more file (location_at c.loop-rest.locations.rows file) (location_at c.take.new.self.rows file) (location_in file c.args.entries.now) rest (take (length rest - 1) (drop 1 rest)) c.e-item.result
    (first_and_others rest c.e-item.result c.in-len1-up.len_at_least c.e-item.is) (c.in_ok-take.ensures file) (c.loop-rest.invariant file)

pub returns : goal.returns
returns c = λ file.
    locations_end file (location_at c.loop-rest.locations.rows file) (location_in file c.args.entries.now) c.loop-rest.rest.now (none c.loop-rest.rest.now c.in_default.len_below) (c.loop-rest.invariant file)
