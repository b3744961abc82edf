use Rattle.std.proofs.Common.{◌≡◌, take}
use Rattle.store_loading.specs.Boots.{stored_boot}
use Rattle.store_loading.proofs.loading.stored_boot.Given as goal

abbrev pub invariant-loop-rec : goal.invariant-loop-rec
invariant-loop-rec l = l.boot ≡ stored_boot (take l.rec-index l.records)
