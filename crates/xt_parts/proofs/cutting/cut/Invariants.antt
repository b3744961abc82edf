use Rattle.std.proofs.Common.{◌≡◌, map}
use Rattle.std.specs.List.{range_with_len}
use Rattle.xt_parts.specs.Part.{part_of}
use Rattle.xt_parts.proofs.cutting.cut.Given as goal

-- the parts below the index are made
abbrev pub invariant-loop-index : goal.invariant-loop-index
invariant-loop-index l = l.parts.items ≡ map (part_of l.id l.message) (range_with_len 0 l.index)
