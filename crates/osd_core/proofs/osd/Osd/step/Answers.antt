use Rattle.std.proofs.Common.{◌≡◌, ◌∙◌, ap, subst, sym, arith, List}
use Rattle.xt_protocol.specs.FileStates.{FileState}
use Rattle.xt_protocol.specs.OsdSteps.{OsdStep, step_of_osd}
use Rattle.osd_core.specs.Keys.{outside_of}
use Rattle.osd_core.specs.Slots.{awake_of, states_of}
use Rattle.osd_core.specs.Views.{OsdView}
use Rattle.osd_core.proofs.Steps.{at_err}
use Rattle.osd_core.proofs.Stepping.{silent_step, awake_step, met_here, met_there, same_here}
use Rattle.osd_core.proofs.osd.Osd.step.Goals as goal

pub returns-in_default-clause-step : goal.returns-in_default-clause-step
returns-in_default-clause-step g c =
    λ records agree.
    let o = c.self.inside in
    subst (λ (v : OsdView). step_of_osd (outside_of v.key records) v.state c.args.now c.args.ev.now ≡ (let step : OsdStep = record { osd = v.state; turned = c.quiet.result } in step)) c.self.view_is
    (silent_step (outside_of o.key records) o.silent o.last (states_of (awake_of o.silent) o.met.slots.entries) c.args.now c.max-now.result c.args.ev.now c.quiet.result c.max-now.ensures
    (sym c.awake.ensures.value ∙ c.in_default.is) c.quiet.ensures)

pub handle-requires-clause-met : goal.handle-requires-clause-met
handle-requires-clause-met g c =
    let o = c.self.inside in
    met_there o.silent c.max-now.result c.in-Some.awake (sym c.awake.ensures.value ∙ c.in-Some.is) o.met c.self.invariant.files

pub invariant_of-self : goal.invariant_of-self
invariant_of-self g c =
    let o = c.self.inside in
    let stays = same_here o.silent c.max-now.result c.in-Some.awake (sym c.awake.ensures.value ∙ c.in-Some.is) o.met c.handle.new.met c.in_err-turned.ensures.same in
    record { fits = c.self.invariant.fits; own = c.self.invariant.own; clock = c.self.invariant.clock; files = stays.met }

pub returns-in_err-turned-clause-same : goal.returns-in_err-turned-clause-same
returns-in_err-turned-clause-same g c =
    let o = c.self.inside in
    let stays = same_here o.silent c.max-now.result c.in-Some.awake (sym c.awake.ensures.value ∙ c.in-Some.is) o.met c.handle.new.met c.in_err-turned.ensures.same in
    let made : List FileState → OsdView = λ files. record { key = o.key; state = record { started = o.silent; last = o.last; files = files } } in
    at_err (made (states_of (awake_of o.silent) c.handle.new.met.slots.entries) ≡ c.args.self.now) c.from_residual.result (ap made stays.files ∙ c.self.view_is)

pub invariant_of-self-2 : goal.invariant_of-self-2
invariant_of-self-2 g c =
    let o = c.self.inside in
    let one = g.B.Bodies.some c.handle.new.bodies in
    record {
      fits = c.self.invariant.fits;
      own = c.self.invariant.own;
      clock = omega (arith, c.max-now.ensures, c.requires.clock, c.self.invariant.clock);
      files = met_here o.silent c.max-now.result c.in-Some.awake (sym c.awake.ensures.value ∙ c.in-Some.is) c.handle.new.met (c.in_ok-turned.ensures.step one.0 one.1).met;
    }

pub returns-clause-step : goal.returns-clause-step
returns-clause-step g c =
    λ records agree.
    let o = c.self.inside in
    let new = c.handle.new.met in
    let turned = c.in_ok-turned.turned in
    let after : OsdStep = record { osd = record { started = o.silent; last = c.max-now.result; files = states_of (awake_of o.silent) new.slots.entries }; turned = turned } in
    subst (λ (v : OsdView). step_of_osd (outside_of v.key records) v.state c.args.now c.args.ev.now ≡ after) c.self.view_is
    (awake_step o.silent c.max-now.result c.in-Some.awake (sym c.awake.ensures.value ∙ c.in-Some.is) (outside_of o.key records) o.last c.args.now c.args.ev.now o.met new turned
    c.max-now.ensures (c.in_ok-turned.ensures.step records agree))
