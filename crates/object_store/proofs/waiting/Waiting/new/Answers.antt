use Rattle.object_store.proofs.Waited.{none_there, none_waiting}
use Rattle.object_store.proofs.waiting.Waiting.new.Goals as goal

pub invariant_of-result : goal.invariant_of-result
invariant_of-result c =
    let are = none_waiting c.new.result.items c.new-2.result c.new.ensures.items c.new-2.ensures.bare c.new-2.ensures.places in
    record { written = are.written; laid = are.laid; fit = are.fit }

pub returns-clause-recs : goal.returns-clause-recs
returns-clause-recs c = none_there c.new.result.items c.new-2.result c.new.ensures.items c.new-2.ensures.bare c.new-2.ensures.places
