use Rattle.std.proofs.Common.{◌≡◌, take}
use Rattle.time_line.specs.TimeLine.{standing}
use Rattle.trace_spans.specs.Listed.{IsListOf}
use Rattle.trace_spans.specs.Holding.{kept, holds_at}
use Rattle.trace_spans.proofs.standings.holding.Given as goal

-- the node stands so, and the flags so far say where it holds the file
abbrev pub invariant-loop-entry : goal.invariant-loop-entry
invariant-loop-entry l =
    (l.now ≡ kept (standing l.node l.file (take l.entry-index l.entries)))
    × IsListOf l.entry-index (holds_at l.drift l.node l.file l.entries) l.flags.items
