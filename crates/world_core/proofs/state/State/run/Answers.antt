use Rattle.std.proofs.Common.{◌≡◌, ◌<◌, ℕ, Bool, Ok, refl, subst, ◌∙◌, arith}
use Rattle.std.proofs.lemmas.Result.{err_from_is_err_and}
use Rattle.world_spec.specs.Lines.{goes_on, enough}
use Rattle.world_core.specs.RunStates.{HasTurned}
use Rattle.world_core.proofs.Turns.{went_further}
use Rattle.world_core.proofs.Whole.{first_fits, first_ends, some_enough, event_fits, event_ends, event_done, last_turns, event_more, event_none}
use Rattle.world_core.proofs.state.State.run.Goals as goal

pub loop-event-init : goal.loop-event-init
loop-event-init g c = record { came = event_none g.H.Hull.room c.open.new.self.doing c.turns_of_event-count.result; went_on = record { rest = refl; lines = refl; ended = refl } }

pub turns-requires : goal.turns-requires
turns-requires g c = event_fits g.H.Hull.room c.args.self.now c.open.new.self c.loop-event.self c.args.line.now c.loop-event.event c.turns_of_event-count.result c.requires.begun c.in_ok-open.ensures c.turns_of_event-count.ensures c.loop-event.invariant.came c.loop-event.invariant.went_on c.requires.fits

pub turns-requires-2 : goal.turns-requires-2
turns-requires-2 g c = event_fits g.H.Hull.room c.args.self.now c.open.new.self c.loop-event.self c.args.line.now c.loop-event.event c.turns_of_event-count.result c.requires.begun c.in_ok-open.ensures c.turns_of_event-count.ensures c.loop-event.invariant.came c.loop-event.invariant.went_on c.requires.fits

pub open-requires-clause-fits : goal.open-requires-clause-fits
open-requires-clause-fits g c = first_fits g.H.Hull.room c.args.self.now.doing.world c.args.line.now c.requires.fits

pub returns-in_err-open : goal.returns-in_err-open
returns-in_err-open g c =
    let p = err_from_is_err_and c.from_residual.result c.from_residual.ensures.1 in
    rw (p.1, p.2)
    (first_ends g.H.Hull.room c.args.self.now c.open.new.self c.args.line.now (enough c.args.self.now.doing.world c.args.line.now) c.in_err-open.field-0.0 c.requires.begun
    (some_enough c.args.self.now.doing.world c.args.line.now) c.in_err-open.ensures)

pub returns-in_err-turns : goal.returns-in_err-turns
returns-in_err-turns g c =
    let p = err_from_is_err_and c.from_residual-in_err-turns.result c.from_residual-in_err-turns.ensures.1 in
    rw (p.1, p.2) (event_ends g.H.Hull.room c.args.self.now c.open.new.self c.loop-event.self c.args.line.now c.loop-event.event c.turns_of_event-count.result c.requires.begun c.in_ok-open.ensures c.turns_of_event-count.ensures c.loop-event.invariant.came c.loop-event.invariant.went_on c.turns.new.self c.in_err-turns.field-0.0 (subst (λ (n : ℕ). c.loop-event.event < n) c.events_of-event-end.ensures c.loop-event-test.true) c.in_err-turns.ensures)

pub returns-then-branch : goal.returns-then-branch
returns-then-branch g c = event_done g.H.Hull.room c.args.self.now c.open.new.self c.loop-event.self c.args.line.now c.loop-event.event c.turns_of_event-count.result c.requires.begun c.in_ok-open.ensures c.turns_of_event-count.ensures c.loop-event.invariant.came c.loop-event.invariant.went_on c.turns.new.self (subst (λ (n : ℕ). c.loop-event.event < n) c.events_of-event-end.ensures c.loop-event-test.true) (subst (λ (b : Bool). HasTurned g.H.Hull.room c.loop-event.self c.turns_of_event-count.result (goes_on c.loop-event.self.doing) c.turns.new.self (Ok b)) c.if-branch.true c.in_ok-turns.ensures)

pub loop-event-preserved : goal.loop-event-preserved
loop-event-preserved g c =
    let so = (subst (λ (b : Bool). HasTurned g.H.Hull.room c.loop-event.self c.turns_of_event-count.result (goes_on c.loop-event.self.doing) c.turns.new.self (Ok b)) c.if-branch.false c.in_ok-turns.ensures) in record {
      came = event_more g.H.Hull.room c.open.new.self c.loop-event.self c.turns.new.self c.loop-event.event c.turns_of_event-count.result c.loop-event.invariant.came so;
      went_on = went_further c.open.new.self c.loop-event.self c.turns.new.self c.loop-event.invariant.went_on so.1;
    }

pub returns : goal.returns
returns g c =
    last_turns g.H.Hull.room c.args.self.now c.open.new.self c.loop-event.self c.args.line.now c.loop-event.event c.turns_of_event-count.result c.requires.begun c.in_ok-open.ensures c.turns_of_event-count.ensures c.loop-event.invariant.came c.loop-event.invariant.went_on c.turns-2.new.self c.turns-2.result
    (let all : c.loop-event.event ≡ c.events_of-event-end.result = (let least = c.loop-event-test.false in let most = c.loop-event.auto.event-end in omega arith) in all ∙ c.events_of-event-end.ensures)
    (subst (λ (n : ℕ). HasTurned g.H.Hull.room c.loop-event.self n (goes_on c.loop-event.self.doing) c.turns-2.new.self c.turns-2.result) c.closing_of.ensures c.turns-2.ensures)
