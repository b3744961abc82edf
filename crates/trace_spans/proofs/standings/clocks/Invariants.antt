use Rattle.std.proofs.Common.{◌≡◌, take}
use Rattle.time_line.specs.TimeLine.{standing}
use Rattle.trace_spans.specs.Listed.{IsListOf}
use Rattle.trace_spans.specs.Holding.{kept, clock_at}
use Rattle.trace_spans.proofs.standings.clocks.Given as goal

-- the node stands so, and the clocks so far are given
abbrev pub invariant-loop-entry : goal.invariant-loop-entry
invariant-loop-entry l =
    (l.now ≡ kept (standing l.node 0 (take l.entry-index l.entries)))
    × IsListOf l.entry-index (clock_at l.node l.entries) l.clocks.items
