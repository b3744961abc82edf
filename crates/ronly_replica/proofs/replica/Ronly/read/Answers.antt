use Rattle.std.proofs.Common.{◌≡◌, ◌≤◌, ◌<◌, ◌-◌, ◌/◌, ◌∙◌, refl, ap, subst, arith}
use Rattle.std.specs.Prelude.{Ok, Err}
use Rattle.ronly_replica.specs.Access.{pin_of, records_of}
use Rattle.ronly_replica.specs.Disks.{Leaves}
use Rattle.ronly_replica.specs.Holding.{HoldEnds, LeavesHeld, StopsAt}
use Rattle.ronly_replica.specs.Pins.{end_of, objects_below, objects_of}
use Rattle.ronly_replica.proofs.Causes.{shown_cause}
use Rattle.ronly_replica.proofs.Left.{untouched}
use Rattle.ronly_replica.proofs.Reading.{nothing_shown, some_objects, shown_frozen, read_shown, read_stopped, read_left}
use Rattle.ronly_replica.proofs.replica.Ronly.read.Goals as goal

pub returns-then-at-end-clause-reads : goal.returns-then-at-end-clause-reads
returns-then-at-end-clause-reads g c =
    let end : c.min-end.result ≡ end_of c.args.self.pin c.args.at c.args.len = c.min-end.ensures in
    nothing_shown g.O.Origin.fetches c.args.self c.args.origin.now c.args.at c.args.len c.new.result (subst (λ e. e ≤ c.args.at) end c.if-at-end.true) c.new.ensures

pub returns-then-at-end-clause-leaves : goal.returns-then-at-end-clause-leaves
returns-then-at-end-clause-leaves g c = untouched c.args.self _ _ refl refl refl

pub returns-in-Ok-clause-reads : goal.returns-in-Ok-clause-reads
returns-in-Ok-clause-reads g c =
    let self = c.args.self in
    let end : c.min-end.result ≡ end_of self.pin c.args.at c.args.len = c.min-end.ensures in
    let lt : c.args.at < c.min-end.result = omega arith in
    let same = some_objects (pin_of self) c.args.at c.args.len _ _ (subst (λ e. c.args.at < e) end lt)
    (ap (λ s. c.args.at / s) c.from.ensures) (c.objects_below.ensures ∙ ap (objects_below self.pin.location.stripe) end) in
    read_shown g.O.Origin.fetches self c.args.origin.now c.hold_all.new.origin c.args.at c.args.len c.in-Ok.replica _ c.shown.result (ap (λ e. e - c.args.at) end)
    (subst (λ l. HoldEnds g.O.Origin.fetches self c.args.origin.now c.hold_all.new.origin l (Ok c.in-Ok.replica)) same c.in-Ok.ensures.holds) c.shown.ensures

pub returns-in-Ok-clause-frozen : goal.returns-in-Ok-clause-frozen
returns-in-Ok-clause-frozen g c =
    let self = c.args.self in
    let least = self.fits.size.least in
    let end : c.min-end.result ≡ end_of self.pin c.args.at c.args.len = c.min-end.ensures in
    let lt : c.args.at < c.min-end.result = omega arith in
    shown_frozen g.O.Origin.content g.O.Origin.stripe g.O.Origin.fetches g.O.Origin.tells g.O.Origin.stays self c.in-Ok.replica c.args.origin.now c.hold_all.new.origin
    c.args.at c.args.len _ _ _ c.shown.result (omega arith) (subst (λ e. c.args.at < e) end lt)
    (ap (λ s. c.args.at / s) c.from.ensures) (c.objects_below.ensures ∙ ap (objects_below self.pin.location.stripe) end) (ap (λ e. e - c.args.at) end) c.in-Ok.ensures.holds c.shown.ensures

pub returns-in-Ok-clause-leaves : goal.returns-in-Ok-clause-leaves
returns-in-Ok-clause-leaves g c =
    let self = c.args.self in
    let end : c.min-end.result ≡ end_of self.pin c.args.at c.args.len = c.min-end.ensures in
    let lt : c.args.at < c.min-end.result = omega arith in
    let same = some_objects (pin_of self) c.args.at c.args.len _ _ (subst (λ e. c.args.at < e) end lt)
    (ap (λ s. c.args.at / s) c.from.ensures) (c.objects_below.ensures ∙ ap (objects_below self.pin.location.stripe) end) in
    read_left self c.in-Ok.replica c.args.at _ (LeavesHeld g.O.Origin.fetches g.D.Disk.is_told (pin_of self) (records_of self) c.args.origin.now (objects_of (pin_of self) c.args.at c.args.len))
    c.shown.result
    (subst (λ l. Leaves self (LeavesHeld g.O.Origin.fetches g.D.Disk.is_told (pin_of self) (records_of self) c.args.origin.now l) (Ok c.in-Ok.replica)) same c.in-Ok.ensures.leaves)
    c.shown.ensures

pub returns-in-Err-clause-reads : goal.returns-in-Err-clause-reads
returns-in-Err-clause-reads g c =
    let self = c.args.self in
    let end : c.min-end.result ≡ end_of self.pin c.args.at c.args.len = c.min-end.ensures in
    let lt : c.args.at < c.min-end.result = omega arith in
    let same = some_objects (pin_of self) c.args.at c.args.len _ _ (subst (λ e. c.args.at < e) end lt)
    (ap (λ s. c.args.at / s) c.from.ensures) (c.objects_below.ensures ∙ ap (objects_below self.pin.location.stripe) end) in
    read_stopped g.O.Origin.fetches self c.args.origin.now c.hold_all.new.origin c.args.at c.args.len c.in-Err.error
    (subst (λ l. StopsAt g.O.Origin.fetches (pin_of self) (records_of self) c.args.origin.now c.hold_all.new.origin l c.in-Err.error) same c.in-Err.ensures.holds)

pub returns-in-Err-clause-leaves : goal.returns-in-Err-clause-leaves
returns-in-Err-clause-leaves g c =
    let self = c.args.self in
    let end : c.min-end.result ≡ end_of self.pin c.args.at c.args.len = c.min-end.ensures in
    let lt : c.args.at < c.min-end.result = omega arith in
    let same = some_objects (pin_of self) c.args.at c.args.len _ _ (subst (λ e. c.args.at < e) end lt)
    (ap (λ s. c.args.at / s) c.from.ensures) (c.objects_below.ensures ∙ ap (objects_below self.pin.location.stripe) end) in
    subst (λ l. Leaves self (LeavesHeld g.O.Origin.fetches g.D.Disk.is_told (pin_of self) (records_of self) c.args.origin.now l) (Err c.in-Err.error)) same c.in-Err.ensures.leaves

pub returns-in-Ok-clause-cause : goal.returns-in-Ok-clause-cause
returns-in-Ok-clause-cause g c = shown_cause c.in-Ok.replica c.args.at _ _ _ _ _ c.shown.result c.shown.ensures c.in-Ok.ensures.cause.0 c.in-Ok.ensures.cause.1
