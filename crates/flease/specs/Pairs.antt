-- how the targets of a Write lie in an array of nine
use Rattle.std.specs.Prelude.{List, ◌++◌, length, take, replicate, ◌≤◌, ◌-◌, ◌≡◌}
use Rattle.xt_base.specs.declared.ids.NodeId.{NodeId}
use Rattle.xt_base.specs.declared.ids.Boot.{Boot}
use Rattle.flease.specs.declared.targets.Targets.TheInside.{Inside}

-- what lies in the places that hold nothing
abbrev pub blank : NodeId × Boot
blank = (record { 0 = 0 }, record { 0 = 0 })

-- the pairs that the first places hold
abbrev pub seen : Inside → List (NodeId × Boot)
seen t = take t.count t.places

-- the pairs in the first places, and blanks after them
abbrev pub filled : List (NodeId × Boot) → Inside
filled pairs = record { places = pairs ++ replicate (9 - length pairs) blank; count = length pairs }

-- at most nine, with blanks after
abbrev pub IsFilled : Inside → Type 0
IsFilled t = (t.count ≤ 9) × (filled (seen t) ≡ t)
