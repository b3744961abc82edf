use Rattle.std.proofs.Common.{◌≡◌, take}
use Rattle.xt_protocol.specs.Folds.{fold_of}
use Rattle.replica_records.proofs.folding.fold.Given as goal

abbrev pub invariant-loop-rec : goal.invariant-loop-rec
invariant-loop-rec l = l.folding ≡ fold_of (take l.rec-index l.records)
