use Rattle.std.proofs.Common.{take}
use Rattle.scrub.proofs.Reports.{HasReadOn}
use Rattle.scrub.proofs.reading.read_items.Given as goal

-- the items so far were read, and no read failed
abbrev pub invariant-loop-i : goal.invariant-loop-i
invariant-loop-i g l = HasReadOn g.B.Bodies.agrees g.B.Bodies.fault_count l.initial.bodies l.bodies (take l.i l.items) l.read.items
