use Rattle.std.proofs.Common.{◌≡◌, ◌-◌, ◌++◌}
use Rattle.schedule_maker.specs.Generated.{turns_from, generated}
use Rattle.schedule_maker.proofs.lines.generate.Given as goal

-- the lines so far, and those of the turns that are left, are those of all
abbrev pub invariant-loop-turn : goal.invariant-loop-turn
invariant-loop-turn l = l.lines.items ++ turns_from (l.size - l.turn) l.turn l.draws.state ≡ generated l.number l.size
