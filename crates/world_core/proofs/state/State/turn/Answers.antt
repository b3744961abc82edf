use Rattle.std.proofs.Common.{take, drop, ap, sym, ◌∙◌, subst, List}
use Rattle.std.proofs.lemmas.Result.{err_from_is_err_and}
use Rattle.xt_messages.specs.declared.message.Msg.{Msg}
use Rattle.world_limits.specs.Fits.{FitsWorld}
use Rattle.world_limits.proofs.Coming.{none_queued, first_queued}
use Rattle.world_step.specs.Steps.{Working}
use Rattle.world_core.proofs.Turns.{turn_settles, turn_err, turn_ok}
use Rattle.world_core.proofs.state.State.turn.Goals as goal

pub settle-requires-clause-fits : goal.settle-requires-clause-fits
settle-requires-clause-fits g c =
    none_queued _ c.self.inside.stepper.own (subst (λ (x : Working). FitsWorld x.doing.world x.doing.own) (sym c.self.view_is) c.requires)

pub returns-in_default : goal.returns-in_default
returns-in_default g c =
    turn_settles g.H.Hull.room _ c.args.self.now _ c.settle.new.self c.settle.result c.self.view_is
    c.in_default.ensures.0
    (ap (λ (own : List Msg). record {
      doing = record {
        world = record {
          times = c.self.inside.stepper.nodes.times;
          nodes = c.self.inside.stepper.nodes.nodes;
          files = c.self.inside.files;
          made = c.self.inside.stepper.made.items;
          sent = c.self.inside.stepper.sent;
          entries = c.self.inside.stepper.entries.items;
          lines = take c.self.inside.shown c.self.inside.lines.items;
          ended = c.self.inside.ended;
        };
        own = own;
        left = c.self.inside.left;
      };
      begun = drop c.self.inside.shown c.self.inside.lines.items;
    }) (c.in_default.ensures.1 ∙ sym c.in_default.ensures.0))
    c.settle.ensures

pub hand-requires : goal.hand-requires
hand-requires g c =
    first_queued _ c.self.inside.stepper.own c.take.new.self c.in-Some.message (subst (λ (x : Working). FitsWorld x.doing.world x.doing.own) (sym c.self.view_is) c.requires) c.in-Some.ensures

pub returns-in_err-hand : goal.returns-in_err-hand
returns-in_err-hand g c =
    let p = err_from_is_err_and c.from_residual.result c.from_residual.ensures.1 in
    rw (p.1, p.2) (turn_err (Unit {0}) g.H.Hull.room _ c.args.self.now c.hand.new.self c.in-Some.message c.take.new.self c.in_err-hand.field-0.0 c.self.view_is c.in-Some.ensures c.in_err-hand.ensures)

pub returns : goal.returns
returns g c = turn_ok (Unit {0}) g.H.Hull.room _ c.args.self.now c.hand.new.self c.in-Some.message c.take.new.self tt c.self.view_is c.in-Some.ensures c.in_ok-hand.ensures
