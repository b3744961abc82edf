use Rattle.std.proofs.Common.{◌+◌, Bool, Ok, refl, subst, arith}
use Rattle.std.proofs.lemmas.Result.{err_from_is_err_and}
use Rattle.world_spec.specs.Lines.{finished, goes_on, next_step}
use Rattle.world_core.specs.RunStates.{IsTurned}
use Rattle.world_core.proofs.Turns.{none_yet, done_longer, one_more, went_further, has_ended}
use Rattle.world_core.proofs.state.State.turns.Goals as goal

pub loop-made-init : goal.loop-made-init
loop-made-init g c = record { came = none_yet g.H.Hull.room _; went_on = record { rest = refl; lines = refl; ended = refl } }

pub returns-in_err-turn : goal.returns-in_err-turn
returns-in_err-turn g c =
    let p = err_from_is_err_and c.from_residual.result c.from_residual.ensures.1 in
    rw (p.1, p.2)
    (has_ended g.H.Hull.room c.args.self.now c.loop-made.self c.turn.new.self (goes_on c.args.self.now.doing) c.loop-made.made c.args.count c.in_err-turn.field-0.0 c.loop-made-test.true
    c.loop-made.invariant.came c.loop-made.invariant.went_on c.in_err-turn.ensures)

pub returns-then-branch : goal.returns-then-branch
returns-then-branch g c =
    let so = (subst (λ (b : Bool). IsTurned c.loop-made.self (next_step g.H.Hull.room (goes_on c.loop-made.self.doing)) c.turn.new.self (Ok b)) c.if-branch.true c.in_ok-turn.ensures) in (
      done_longer (c.loop-made.made + 1) c.args.count g.H.Hull.room (goes_on c.args.self.now.doing) c.turn.new.self.doing.world
          (one_more c.loop-made.made g.H.Hull.room (goes_on c.args.self.now.doing) (finished c.turn.new.self.doing.world) c.loop-made.self.doing c.loop-made.invariant.came so.0)
          (let lt = c.loop-made-test.true in omega arith),
      went_further c.args.self.now c.loop-made.self c.turn.new.self c.loop-made.invariant.went_on so.1,
    )

pub loop-made-preserved : goal.loop-made-preserved
loop-made-preserved g c =
    let so = (subst (λ (b : Bool). IsTurned c.loop-made.self (next_step g.H.Hull.room (goes_on c.loop-made.self.doing)) c.turn.new.self (Ok b)) c.if-branch.false c.in_ok-turn.ensures) in record {
      came = one_more c.loop-made.made g.H.Hull.room (goes_on c.args.self.now.doing) (goes_on c.turn.new.self.doing) c.loop-made.self.doing c.loop-made.invariant.came so.0;
      went_on = went_further c.args.self.now c.loop-made.self c.turn.new.self c.loop-made.invariant.went_on so.1;
    }
