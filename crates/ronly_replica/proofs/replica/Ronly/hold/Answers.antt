use Rattle.std.proofs.Common.{refl, sym, ◌∙◌}
use Rattle.ronly_replica.proofs.Causes.{memory_cause, take_cause}
use Rattle.ronly_replica.proofs.Holdings.{already, taken, held_left, unfetched, no_memory}
use Rattle.ronly_replica.proofs.Left.{untouched}
use Rattle.ronly_replica.proofs.replica.Ronly.hold.Goals as goal

pub returns-then-is_held-clause-holds : goal.returns-then-is_held-clause-holds
returns-then-is_held-clause-holds g c = already g.O.Origin.fetches c.args.self c.args.origin.now c.args.object (sym c.is_held.ensures ∙ c.if-is_held.true)

pub returns-then-is_held-clause-leaves : goal.returns-then-is_held-clause-leaves
returns-then-is_held-clause-leaves g c = untouched c.args.self _ _ refl refl refl

pub returns-in-Ok-clause-holds : goal.returns-in-Ok-clause-holds
returns-in-Ok-clause-holds g c =
    taken g.O.Origin.fetches c.args.self c.args.origin.now c.fetch.new.self c.args.object c.in-Ok.fetched c.take.result
    (sym c.is_held.ensures ∙ c.if-is_held.false) c.in-Ok.ensures.does c.take.ensures.takes

pub returns-in-Ok-clause-leaves : goal.returns-in-Ok-clause-leaves
returns-in-Ok-clause-leaves g c =
    held_left g.O.Origin.fetches c.args.self c.args.origin.now c.fetch.new.self c.args.object c.in-Ok.fetched c.take.result
    (sym c.is_held.ensures ∙ c.if-is_held.false) c.in-Ok.ensures.does c.take.ensures.leaves

pub returns-then-is_memory-clause-holds : goal.returns-then-is_memory-clause-holds
returns-then-is_memory-clause-holds g c =
    no_memory g.O.Origin.fetches c.args.self c.args.origin.now c.fetch.new.self c.args.object c.in-Err.fault
    (sym c.is_held.ensures ∙ c.if-is_held.false) c.in-Err.ensures.does

pub returns-then-is_memory-clause-leaves : goal.returns-then-is_memory-clause-leaves
returns-then-is_memory-clause-leaves g c = untouched c.args.self _ _ refl refl tt

pub returns-else-is_memory-clause-holds : goal.returns-else-is_memory-clause-holds
returns-else-is_memory-clause-holds g c =
    unfetched g.O.Origin.fetches c.args.self c.args.origin.now c.fetch.new.self c.args.object c.in-Err.fault
    (sym c.is_held.ensures ∙ c.if-is_held.false) c.in-Err.ensures.does (sym c.is_memory.ensures ∙ c.if-is_memory.false)

pub returns-else-is_memory-clause-leaves : goal.returns-else-is_memory-clause-leaves
returns-else-is_memory-clause-leaves g c = untouched c.args.self _ _ refl refl tt

pub returns-in-Ok-clause-cause : goal.returns-in-Ok-clause-cause
returns-in-Ok-clause-cause g c = take_cause c.args.self c.args.object _ _ _ _ c.in-Ok.fetched c.take.result c.take.ensures.takes c.in-Ok.ensures.cause.0 c.in-Ok.ensures.cause.1

pub returns-then-is_memory-clause-cause : goal.returns-then-is_memory-clause-cause
returns-then-is_memory-clause-cause g c = memory_cause _ _ _ _ c.in-Err.fault (sym c.is_memory.ensures ∙ c.if-is_memory.true) c.in-Err.ensures.cause
