-- how the seats of a new list lie in an array of nine
use Rattle.std.specs.Prelude.{List, ◌++◌, length, take, replicate, ◌≤◌, ◌-◌, ◌≡◌}
use Rattle.change_rows.specs.Changes.{Seat, empty_seat}
use Rattle.view_change.specs.declared.seats.Seats.TheInside.{Inside}

-- what lies in the places that hold nothing
abbrev pub blank : Seat
blank = empty_seat (record { 0 = 0 })

-- the seats that the first places hold
abbrev pub seen : Inside → List Seat
seen s = take s.count s.places

-- the seats in the first places, and blanks after them
abbrev pub filled : List Seat → Inside
filled seats = record { places = seats ++ replicate (9 - length seats) blank; count = length seats }

-- at most nine, with blanks after
abbrev pub IsFilled : Inside → Type 0
IsFilled s = (s.count ≤ 9) × (filled (seen s) ≡ s)
