use Rattle.std.proofs.Common.{◌≡◌, ◌++◌, ◌∷◌, [], Bool, true, false, Result, Ok, Err, ap, sym, ◌∙◌, subst}
use Rattle.std.specs.Result.{is_err}
use Rattle.std.proofs.lemmas.Result.{err_from_is_err_and}
use Rattle.time_line.specs.Bounds.{AreLines}
use Rattle.world_spec.specs.World.{World}
use Rattle.world_spec.specs.Lines.{opening}
use Rattle.world_spec.specs.Runs.{run_of}
use Rattle.world_hull.specs.declared.errors.WorldErr.{WorldErr}
use Rattle.world_step.specs.Steps.{Working}
use Rattle.world_core.specs.RunStates.{HasRun, AllFit, MayStand}
use Rattle.world_core.proofs.Runs.{may_stand, all_fit, is_over, refused_is, done_so, finished_run}
use Rattle.world_core.proofs.world.World.apply.Goals as goal

pub run-end-requires-clause-values : goal.run-end-requires-clause-values
run-end-requires-clause-values g c =
    subst (λ (x : Working). MayStand x.doing.world c.args.line.now) (sym c.in_ok-begin.ensures.begun)
    (may_stand g.H.Hull.room c.self.inside.state.doing.world c.args.line.now (c.self.invariant (ap (λ (x : World). x.ended) c.self.view_is ∙ c.requires.going)).0 (subst (λ (x : World). AreLines (x.lines ++ c.args.line.now ∷ [])) (sym c.self.view_is) c.requires.values))

pub run-end-requires-clause-fits : goal.run-end-requires-clause-fits
run-end-requires-clause-fits g c =
    let going = ap (λ (x : World). x.ended) c.self.view_is ∙ c.requires.going in
    subst (λ (x : Working). AllFit g.H.Hull.room (opening x.doing.world c.args.line.now)) (sym c.in_ok-begin.ensures.begun)
    (all_fit g.H.Hull.room c.self.inside.state.doing.world c.args.line.now going (c.self.invariant going).0 (sym c.refusal.ensures ∙ c.in_default.is) (subst (λ (x : World). AreLines (x.lines ++ c.args.line.now ∷ [])) (sym c.self.view_is) c.requires.values)
    (c.steps_fit.ensures g.H.Hull.room))

pub returns-in_err-end : goal.returns-in_err-end
returns-in_err-end g c =
    let p = err_from_is_err_and c.from_residual-in_err-end.result c.from_residual-in_err-end.ensures.1 in
    rw (p.1, p.2)
    (refused_is g.H.Hull.room c.self.inside.state.doing.world c.args.line.now c.run-end.new.self c.show.new.self c.is_err.result c.show.ensures (sym c.refusal.ensures ∙ c.in_default.is) (ap (λ (x : World). x.ended) c.self.view_is ∙ c.requires.going) c.args.self.now c.in_err-end.field-0.0 (sym c.self.view_is)
    (c.is_err.ensures.value ∙ ap is_err c.in_err-end.was)
    (subst (λ (x : Working). HasRun g.H.Hull.room x c.args.line.now c.run-end.new.self (Err c.in_err-end.field-0.0)) c.in_ok-begin.ensures.begun (subst (λ (r : Result Bool WorldErr). HasRun g.H.Hull.room c.begin.new.self c.args.line.now c.run-end.new.self r) (c.in_err-end.was) c.run-end.ensures)))

pub unreachable-requires : goal.unreachable-requires
unreachable-requires g c =
    let going = ap (λ (x : World). x.ended) c.self.view_is ∙ c.requires.going in
    is_over g.H.Hull.room c.self.inside.state.doing.world c.args.line.now c.run-end.new.self.doing going (c.self.invariant going).0 (sym c.refusal.ensures ∙ c.in_default.is) (subst (λ (x : World). AreLines (x.lines ++ c.args.line.now ∷ [])) (sym c.self.view_is) c.requires.values)
    (c.lines_are_over.ensures.over g.H.Hull.room)
    (subst (λ (x : Working). HasRun g.H.Hull.room x c.args.line.now c.run-end.new.self (Ok false)) c.in_ok-begin.ensures.begun (subst (λ (r : Result Bool WorldErr). HasRun g.H.Hull.room c.begin.new.self c.args.line.now c.run-end.new.self r) (c.in_ok-end.was ∙ ap (λ (b : Bool). Ok b) c.if-not-branch.true) c.run-end.ensures)).0

pub invariant_of-self-2 : goal.invariant_of-self-2
invariant_of-self-2 g c = λ _.
    let going = ap (λ (x : World). x.ended) c.self.view_is ∙ c.requires.going in
    finished_run g.H.Hull.room c.self.inside.state.doing.world c.args.line.now c.run-end.new.self c.show.new.self c.is_err.result c.show.ensures (sym c.refusal.ensures ∙ c.in_default.is) going
    (c.is_err.ensures.value ∙ ap is_err c.in_ok-end.was) (c.self.invariant going).0 (subst (λ (x : World). AreLines (x.lines ++ c.args.line.now ∷ [])) (sym c.self.view_is) c.requires.values)
    (subst (λ (x : Working). HasRun g.H.Hull.room x c.args.line.now c.run-end.new.self (Ok true)) c.in_ok-begin.ensures.begun (subst (λ (r : Result Bool WorldErr). HasRun g.H.Hull.room c.begin.new.self c.args.line.now c.run-end.new.self r) (c.in_ok-end.was ∙ ap (λ (b : Bool). Ok b) c.if-not-branch.false) c.run-end.ensures))

pub returns : goal.returns
returns g c =
    let going = ap (λ (x : World). x.ended) c.self.view_is ∙ c.requires.going in
    done_so g.H.Hull.room c.self.inside.state.doing.world c.args.line.now c.run-end.new.self c.show.new.self c.is_err.result c.show.ensures (sym c.refusal.ensures ∙ c.in_default.is) going c.args.self.now (sym c.self.view_is)
    (c.is_err.ensures.value ∙ ap is_err c.in_ok-end.was)
    (subst (λ (x : Working). HasRun g.H.Hull.room x c.args.line.now c.run-end.new.self (Ok true)) c.in_ok-begin.ensures.begun (subst (λ (r : Result Bool WorldErr). HasRun g.H.Hull.room c.begin.new.self c.args.line.now c.run-end.new.self r) (c.in_ok-end.was ∙ ap (λ (b : Bool). Ok b) c.if-not-branch.false) c.run-end.ensures))
