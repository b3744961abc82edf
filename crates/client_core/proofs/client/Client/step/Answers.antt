use Rattle.std.proofs.lemmas.Result.{IfOk-weaker}
use Rattle.std.proofs.Common.{IsTrue}
use Rattle.client_rows.specs.Rows.{goes_on_with, stepped, result_in}
use Rattle.client_core.specs.Views.{Does}
use Rattle.client_core.specs.Answered.{is_answered, is_done}
use Rattle.client_core.proofs.Done.{stepped_is}
use Rattle.client_core.proofs.Answered.{answered_by}
use Rattle.client_core.proofs.client.Client.step.Goals as goal

pub returns-clause-step : goal.returns-clause-step
returns-clause-step c =
    let old = c.args.self.now in
    let new = c.go_on.new.self in
    let happens = c.args.ev.now in
    IfOk-weaker c.go_on.result
    (λ turned. Does (goes_on_with old.node old.times old.state c.args.now happens old.state.made) old new turned)
    (λ turned. Does (stepped old.node old.times old.state c.args.now happens) old new turned)
    (λ turned. stepped_is old new c.args.now happens turned) c.go_on.ensures.step

pub returns-clause-answered : goal.returns-clause-answered
returns-clause-answered c =
    let old = c.args.self.now in
    let new = c.go_on.new.self in
    let happens = c.args.ev.now in
    IfOk-weaker c.go_on.result
    (λ turned. Does (goes_on_with old.node old.times old.state c.args.now happens old.state.made) old new turned)
    (λ turned. IsTrue (is_answered old.state happens) → IsTrue (is_done (result_in new.state.made)))
    (λ turned. answered_by old new c.args.now happens turned) c.go_on.ensures.step
