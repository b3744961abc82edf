use Rattle.trace_drawing.specs.Drawn.{AreNumbered}
use Rattle.trace_drawing.proofs.marks.draw_entries.Given as goal

-- the entries so far have their numbers
abbrev pub invariant-loop-at : goal.invariant-loop-at
invariant-loop-at l = AreNumbered l.scene.heights.items l.scene.edges.items l.scene.bottom l.at l.sheet.shapes.items
