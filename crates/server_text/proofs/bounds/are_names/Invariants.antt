use Rattle.std.proofs.Common.{length}
use Rattle.std.specs.Prelude.{◌↔◌}
use Rattle.std.specs.List.{AllByRecursion}
use Rattle.xt_base.specs.FieldLimits.{FitsName}
use Rattle.server_text.specs.Spellable.{IsAsciiWord}
use Rattle.server_text.proofs.bounds.are_names.Given as goal

-- the rest decides
abbrev pub invariant-loop-rest : goal.invariant-loop-rest
invariant-loop-rest l =
    (AllByRecursion IsAsciiWord l.rest × AllByRecursion FitsName l.rest) ↔ (AllByRecursion IsAsciiWord l.fn.names × AllByRecursion FitsName l.fn.names)

abbrev pub decreases-loop-rest : goal.decreases-loop-rest
decreases-loop-rest l = length l.rest
