use Rattle.std.proofs.Common.{◌≡◌, ◌++◌, length, IsUtf8}
use Rattle.volume_rows.specs.Paths.{parts_of}
use Rattle.volume_rows.proofs.Parsing.{texts}
use Rattle.volume_rows.proofs.paths.parts_of.Given as goal

abbrev pub invariant-loop-part : goal.invariant-loop-part
invariant-loop-part l = (texts l.parts.items ++ parts_of l.rest ≡ parts_of l.fn.text) × IsUtf8 l.rest

-- the rest gets shorter
abbrev pub decreases-loop-part : goal.decreases-loop-part
decreases-loop-part l = length l.rest
