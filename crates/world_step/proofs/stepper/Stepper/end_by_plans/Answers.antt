use Rattle.std.proofs.Common.{Option, Bor, refl, ap, sym, ◌∙◌, subst}
use Rattle.std.specs.Option.{option_map}
use Rattle.xt_messages.specs.declared.record.Record.{Record}
use Rattle.world_step.specs.declared.ending.Ending.TheVariants as ending
use Rattle.world_step.specs.Steps.{IsStepped, working}
use Rattle.world_step.specs.Endings.{ended, given_by}
use Rattle.world_step.proofs.Ways.{step_ends, way, no_moment}
use Rattle.world_step.proofs.stepper.Stepper.end_by_plans.Goals as goal

pub returns-in_default : goal.returns-in_default
returns-in_default g c = λ around node running at up.
    absurd (no_moment node running c.moment.result up c.in_default.is (c.moment.ensures.moment node at))

pub returns-in-Whole : goal.returns-in-Whole
returns-in-Whole g c = λ around node running at up.
    step_ends (Unit {0}) g.H.Hull.room (working around c.args.self.now) (working around c.args.self.now) (working around c.end_whole.new.self) c.args.place node running (given_by c.args.rec.now c.args.outs.now c.args.marks.now) c.in-Some.moment c.moment.result (ending.Whole) c.end_whole.result refl at up c.in-Some.is
    c.moment.ensures.moment
    (sym c.in-Whole.is ∙ c.ending_of.ensures)
    (λ there clock crash. c.end_whole.ensures around node running there up)

pub returns-in-InSending : goal.returns-in-InSending
returns-in-InSending g c = λ around node running at up.
    step_ends (Unit {0}) g.H.Hull.room (working around c.args.self.now) (working around c.args.self.now) (working around c.cut_sending.new.self) c.args.place node running (given_by c.args.rec.now c.args.outs.now c.args.marks.now) c.in-Some.moment c.moment.result (ending.InSending c.in-InSending.count) c.cut_sending.result refl at up c.in-Some.is
    c.moment.ensures.moment
    (sym c.in-InSending.is ∙ c.ending_of.ensures)
    (λ there clock crash. c.cut_sending.ensures around node running there up clock)

pub returns-in-Some-get : goal.returns-in-Some-get
returns-in-Some-get g c = λ around node running at up.
    step_ends (Unit {0}) g.H.Hull.room (working around c.args.self.now) (working around c.args.self.now) (working around c.stop_in_append.new.self) c.args.place node running (given_by c.args.rec.now c.args.outs.now c.args.marks.now) c.in-Some.moment c.moment.result (ending.InAppend c.in-InAppend.stop) c.stop_in_append.result refl at up c.in-Some.is
    c.moment.ensures.moment
    (sym c.in-InAppend.is ∙ c.ending_of.ensures)
    (λ there clock crash. subst
    (λ (r : Option Record). IsStepped {T = Unit {0}} (working around c.args.self.now) (ended g.H.Hull.room node r (way g.H.Hull.room (working around c.args.self.now).doing node running (given_by c.args.rec.now c.args.outs.now c.args.marks.now) (ending.InAppend c.in-InAppend.stop) r c.args.outs.now)) (working around c.stop_in_append.new.self) c.stop_in_append.result)
    (sym (ap (option_map (λ (value : Bor Record). value.now)) c.in-Some-get.is) ∙ c.get.ensures) (c.stop_in_append.ensures around node running there up clock))
