-- a round of the code as the definitions see it
use Rattle.std.specs.Prelude.{◌<◌, ◌^◌}
use Rattle.xt_protocol.specs.Register.{Round}
use Rattle.flease.specs.declared.round.Round.TheInside.{Inside}

abbrev pub seen : Inside → Round
seen r = record { ballot = r.ballot; start = r.start; times = r.times; seats = r.seats; written = r.written }

abbrev pub inside : Round → Inside
inside r = record { ballot = r.ballot; start = r.start; times = r.times; seats = r.seats; written = r.written }

-- its start is a clock's reading
abbrev pub StartsInTime : Inside → Type 0
StartsInTime r = r.start < 2 ^ 62
