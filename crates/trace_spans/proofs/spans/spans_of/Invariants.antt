use Rattle.trace_spans.proofs.Coverings.{Covering}
use Rattle.trace_spans.proofs.spans.spans_of.Given as goal

-- the spans so far have the places at which the flag was up, up to where it was down last
abbrev pub invariant-loop-at : goal.invariant-loop-at
invariant-loop-at l = Covering l.flags l.from l.at l.spans.items
