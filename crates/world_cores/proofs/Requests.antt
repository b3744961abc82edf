-- the records of requests that a metadata server takes when it starts
use Rattle.std.proofs.Common.{List, [], ◌∷◌}
use Rattle.std.specs.Prelude.{All}
use Rattle.std.specs.List.{AllByRecursion}
use Rattle.std.proofs.lemmas.List.Elements.{All-from_recursion}
use Rattle.xt_messages.specs.declared.record.Record.{Record}
use Rattle.xt_messages.specs.declared.record.Record.TheVariants as kept
use Rattle.xt_protocol.specs.Folds.{logged_of}
use Rattle.mrc_core.specs.Picking.{CanTake}
use Rattle.mrc_core.proofs.Fitting.{can_take}
use Rattle.world_host.specs.Cores.{AreRequests}

each_taken : (records : List Record) → AreRequests records → AllByRecursion CanTake records
unfolding logged_of
each_taken [] fits = tt
each_taken (kept.Meta from number now nodes request ∷ records) fits = (can_take (kept.Meta from number now nodes request) fits.0, each_taken records fits.1)
each_taken (kept.Choice file location head source ∷ records) fits = (tt, each_taken records fits.1)
each_taken (kept.OldChoice file location head source ∷ records) fits = (tt, each_taken records fits.1)
each_taken (kept.Listed file version ∷ records) fits = (tt, each_taken records fits.1)
each_taken (_ ∷ records) fits = (tt, each_taken records fits)

-- where the requests among records are within their limits, each record can be taken
pub all_taken : (records : List Record) → AreRequests records → All CanTake records
all_taken records fits = All-from_recursion CanTake records (each_taken records fits)
