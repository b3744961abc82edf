use Rattle.std.proofs.Common.{◌≡◌, ◌++◌, map, take}
use Rattle.std.specs.Prelude.{filter}
use Rattle.xt_protocol.specs.Folds.{is_logged, widened}
use Rattle.store_compact.specs.Adding.{plain}
use Rattle.store_compact.proofs.rewriting.put_logged.Given as goal

-- the requests among the records so far are put
abbrev pub invariant-loop-rec : goal.invariant-loop-rec
invariant-loop-rec l = l.made.items ≡ l.initial.made.items ++ map plain (map widened (filter is_logged (take l.rec-index l.records)))
