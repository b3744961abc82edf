use Rattle.std.proofs.Common.{◌≡◌, ◌++◌, take}
use Rattle.trace_shapes.specs.Elements.{escaped}
use Rattle.trace_shapes.proofs.svg.push_escaped.Given as goal

-- the bytes so far are spelled
abbrev pub invariant-loop-byte : goal.invariant-loop-byte
invariant-loop-byte l = l.out.items ≡ l.fn.out.items ++ escaped (take l.byte-index l.bytes)
