use Rattle.std.proofs.Common.{sym, ◌∙◌}
use Rattle.osd_core.proofs.Stepping.{found_took, found_same, new_took, new_same}
use Rattle.osd_core.proofs.slots.take.Goals as goal

pub take-requires-clause-sound : goal.take-requires-clause-sound
take-requires-clause-sound g c = (c.requires.met.each c.in-Some.file c.in-Some-get_mut.slot.now (sym c.in-Some-get_mut.ensures.value)).sound

pub returns-in-Some-get_mut-clause-step : goal.returns-in-Some-get_mut-clause-step
returns-in-Some-get_mut-clause-step g c =
    let q = c.take.new.self in
    found_took c.args.awake c.in-Some.file c.args.met.now c.make_busy.new.busy c.requires.met c.in_ok-make_busy.ensures.busy (g.B.Bodies.agrees c.take.new.bodies) c.args.now c.args.sealed c.args.msg.now
    (c.get_mut.follows.lender q) (sym c.file_concerned.ensures ∙ c.in-Some.is) c.in-Some-get_mut.slot.now q c.take.result (sym c.in-Some-get_mut.ensures.value) (c.get_mut.follows.holds q)
    c.take.ensures.sound c.take.ensures.row

pub returns-in-Some-get_mut-clause-same : goal.returns-in-Some-get_mut-clause-same
returns-in-Some-get_mut-clause-same g c =
    let q = c.take.new.self in
    found_same c.args.awake c.in-Some.file c.args.met.now c.make_busy.new.busy c.requires.met c.in_ok-make_busy.ensures.busy c.in-Some-get_mut.slot.now q (c.get_mut.follows.lender q) c.take.result
    (sym c.in-Some-get_mut.ensures.value) (c.get_mut.follows.holds q) c.take.ensures.sound c.take.ensures.same

pub returns-in-None-clause-step : goal.returns-in-None-clause-step
returns-in-None-clause-step g c =
    new_took c.args.awake c.in-Some.file c.args.met.now c.make_busy.new.busy c.requires.met c.in_ok-make_busy.ensures.busy (g.B.Bodies.agrees c.take_new.new.bodies) c.args.now c.args.sealed
    c.args.msg.now c.take_new.new.slots (sym c.file_concerned.ensures ∙ c.in-Some.is) c.get_mut.follows.lender-at-none c.take_new.result c.get_mut.follows.holds-at-none (sym c.in-None.ensures.value)
    c.take_new.ensures.step

pub returns-in-None-clause-same : goal.returns-in-None-clause-same
returns-in-None-clause-same g c =
    new_same c.args.awake c.in-Some.file c.args.met.now c.make_busy.new.busy c.requires.met c.in_ok-make_busy.ensures.busy c.get_mut.follows.lender-at-none c.take_new.new.slots c.take_new.result
    c.get_mut.follows.holds-at-none c.take_new.ensures.same
