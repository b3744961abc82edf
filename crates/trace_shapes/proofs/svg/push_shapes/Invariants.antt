use Rattle.std.proofs.Common.{◌≡◌, ◌++◌, take}
use Rattle.trace_shapes.specs.Pictures.{shapes_text}
use Rattle.trace_shapes.proofs.svg.push_shapes.Given as goal

-- the shapes so far are spelled
abbrev pub invariant-loop-shape : goal.invariant-loop-shape
invariant-loop-shape l = l.out.items ≡ l.fn.out.items ++ shapes_text (take l.shape-index l.shapes)
