use Rattle.std.proofs.Common.{◌≡◌, ◌-◌, ◌∙◌, Err, refl, sym, subst, arith}
use Rattle.std.specs.List.{range_with_len}
use Rattle.ronly_replica.specs.Access.{pin_of, records_of}
use Rattle.ronly_replica.specs.Holding.{Holds, begun}
use Rattle.ronly_replica.proofs.Causes.{cause_along}
use Rattle.ronly_replica.proofs.Holdings.{none_yet, goes_on, stops_there, at_first, left_more, left_then, left_at_last}
use Rattle.ronly_replica.proofs.replica.Ronly.hold_all.Goals as goal

pub loop-object-init : goal.loop-object-init
loop-object-init g c =
    let self = c.args.self in (
      refl,
      subst (λ l. Holds g.O.Origin.fetches g.D.Disk.is_told (pin_of self) (records_of self) c.args.origin.now l (records_of self) c.args.origin.now) (sym (none_yet c.args.first)) begun,
      c.requires,
      omega arith,
      at_first g.O.Origin.fetches self c.args.origin.now c.args.first c.args.end,
      refl,
      refl,
      refl,
    )

pub loop-object-preserved : goal.loop-object-preserved
loop-object-preserved g c =
    let self = c.args.self in
    let on = goes_on g.O.Origin.fetches (pin_of self) (records_of self) c.args.origin.now c.args.first c.loop-object.object c.loop-object.replica c.in-Ok.next
    c.loop-object.origin c.hold.new.origin (omega arith) c.loop-object.invariant.0 c.loop-object.invariant.1 c.in-Ok.ensures.holds in (
      on.0,
      on.1,
      c.in-Ok.ensures.ready,
      omega arith,
      left_then g.O.Origin.fetches self c.args.origin.now c.args.first c.args.end c.in-Ok.next
          (left_more g.O.Origin.fetches self c.args.origin.now c.args.first c.args.end c.loop-object.object c.loop-object.replica c.loop-object.origin _ (omega arith) (omega arith)
          c.loop-object.invariant.0 c.loop-object.invariant.1 c.loop-object.invariant.4 c.in-Ok.ensures.leaves),
      c.in-Ok.ensures.references ∙ c.loop-object.invariant.5,
      c.in-Ok.ensures.cause.0 ∙ c.loop-object.invariant.6,
      c.in-Ok.ensures.cause.1 ∙ c.loop-object.invariant.7,
    )

pub returns-in-Err-clause-holds : goal.returns-in-Err-clause-holds
returns-in-Err-clause-holds g c =
    let self = c.args.self in
    stops_there g.O.Origin.fetches (pin_of self) (records_of self) c.args.origin.now c.args.first c.loop-object.object c.args.end c.loop-object.replica
    c.loop-object.origin c.hold.new.origin c.in-Err.error (omega arith) (omega arith) c.loop-object.invariant.0 c.loop-object.invariant.1 c.in-Err.ensures.holds

pub returns-in-Err-clause-leaves : goal.returns-in-Err-clause-leaves
returns-in-Err-clause-leaves g c =
    left_more g.O.Origin.fetches c.args.self c.args.origin.now c.args.first c.args.end c.loop-object.object c.loop-object.replica c.loop-object.origin _ (omega arith) (omega arith)
    c.loop-object.invariant.0 c.loop-object.invariant.1 c.loop-object.invariant.4 c.in-Err.ensures.leaves

pub returns-in-Err-clause-cause : goal.returns-in-Err-clause-cause
returns-in-Err-clause-cause g c =
    cause_along {g = g.D.Disk} (g.O.Origin.link_faults c.args.origin.now) (g.O.Origin.link_faults c.loop-object.origin) (g.O.Origin.link_faults c.hold.new.origin)
    (g.O.Origin.clock_faults c.args.origin.now) (g.O.Origin.clock_faults c.loop-object.origin) (g.O.Origin.clock_faults c.hold.new.origin) (Err c.in-Err.error)
    c.loop-object.invariant.6 c.loop-object.invariant.7 c.in-Err.ensures.cause

pub returns-clause-holds : goal.returns-clause-holds
returns-clause-holds g c =
    let self = c.args.self in
    let most = c.loop-object.invariant.3 in
    let count : c.loop-object.object - c.args.first ≡ c.args.end - c.args.first = omega (arith, most) in (
      c.loop-object.invariant.0,
      subst (λ n. Holds g.O.Origin.fetches g.D.Disk.is_told (pin_of self) (records_of self) c.args.origin.now (range_with_len c.args.first n) (records_of c.loop-object.replica) c.loop-object.origin)
          count c.loop-object.invariant.1,
    )

pub returns-clause-leaves : goal.returns-clause-leaves
returns-clause-leaves g c = left_at_last g.O.Origin.fetches c.args.self c.args.origin.now c.args.first c.args.end c.loop-object.replica c.loop-object.invariant.4

pub returns-clause-cause : goal.returns-clause-cause
returns-clause-cause g c = (c.loop-object.invariant.6, c.loop-object.invariant.7)
