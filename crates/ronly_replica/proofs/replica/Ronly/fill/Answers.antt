use Rattle.std.proofs.Common.{subst, arith}
use Rattle.ronly_replica.specs.Access.{pin_of, records_of}
use Rattle.ronly_replica.specs.Disks.{Leaves}
use Rattle.ronly_replica.specs.Holding.{HoldEnds, LeavesHeld}
use Rattle.ronly_replica.proofs.Reading.{all_objects, filled}
use Rattle.ronly_replica.proofs.replica.Ronly.fill.Goals as goal

pub returns-clause-holds : goal.returns-clause-holds
returns-clause-holds g c =
    let self = c.args.self in
    subst (λ l. HoldEnds g.O.Origin.fetches self c.args.origin.now c.hold_all.new.origin l c.hold_all.result)
    (all_objects (pin_of self) c.objects_below-end.result (omega (arith, c.args.self.fits.size.least)) c.objects_below-end.ensures) c.hold_all.ensures.holds

pub returns-clause-frozen : goal.returns-clause-frozen
returns-clause-frozen g c =
    filled g.O.Origin.content g.O.Origin.stripe g.O.Origin.fetches g.O.Origin.tells g.O.Origin.stays c.args.self c.args.origin.now c.hold_all.new.origin _ c.hold_all.result
    c.hold_all.ensures.holds

pub returns-clause-leaves : goal.returns-clause-leaves
returns-clause-leaves g c =
    let self = c.args.self in
    subst (λ l. Leaves self (LeavesHeld g.O.Origin.fetches g.D.Disk.is_told (pin_of self) (records_of self) c.args.origin.now l) c.hold_all.result)
    (all_objects (pin_of self) c.objects_below-end.result (omega (arith, c.args.self.fits.size.least)) c.objects_below-end.ensures) c.hold_all.ensures.leaves
