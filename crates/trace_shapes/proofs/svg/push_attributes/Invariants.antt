use Rattle.std.proofs.Common.{◌≡◌, ◌++◌, map, take}
use Rattle.std.specs.List.{flat_map}
use Rattle.trace_shapes.specs.Elements.{attribute_text, named}
use Rattle.trace_shapes.proofs.svg.push_attributes.Given as goal

-- the attributes so far are spelled
abbrev pub invariant-loop-attribute : goal.invariant-loop-attribute
invariant-loop-attribute l = l.out.items ≡ l.fn.out.items ++ flat_map attribute_text (map named (take l.attribute-index l.attributes))
