use Rattle.std.proofs.Common.{◌∙◌, ◌≤◌, ◌<◌, ℕ, ap, sym, subst, Some, None}
use Rattle.std.proofs.lemmas.Result.{IfOk-weaker}
use Rattle.xt_base.specs.declared.TheConstants.{COUNTS}
use Rattle.client_rows.specs.Requests.{request_of}
use Rattle.client_rows.specs.Rows.{asked_for, called}
use Rattle.client_core.specs.Views.{ClientView, Does}
use Rattle.client_core.proofs.Done.{call_passes, call_asks}
use Rattle.client_core.proofs.client.Client.begin.Goals as goal

pub returns-then-next-ge-COUNTS-clause-step : goal.returns-then-next-ge-COUNTS-clause-step
returns-then-next-ge-COUNTS-clause-step c =
    let Spent : ℕ → Type 0 = λ n. COUNTS ≤ n in
    call_passes c.args.self.now c.pass.new.self c.args.now c.args.call.now c.pass.result
    (subst Spent (c.next.ensures ∙ ap (λ (v : ClientView). v.state.replicas.next) c.self.view_is) c.if-next-ge-COUNTS.true) c.pass.ensures

pub returns-in-None-clause-step : goal.returns-in-None-clause-step
returns-in-None-clause-step c =
    let Left : ℕ → Type 0 = λ n. n < COUNTS in
    call_asks c.args.self.now c.pass-in-None.new.self c.args.now c.args.call.now c.pass-in-None.result None
    (subst Left (c.next.ensures ∙ ap (λ (v : ClientView). v.state.replicas.next) c.self.view_is) c.if-next-ge-COUNTS.false)
    (sym c.in-None.is ∙ c.in_ok-request_of.ensures ∙ ap (λ (v : ClientView). request_of v.state.held c.args.call.now) c.self.view_is)
    c.pass-in-None.ensures

pub returns-in-Some-clause-step : goal.returns-in-Some-clause-step
returns-in-Some-clause-step c =
    let Left : ℕ → Type 0 = λ n. n < COUNTS in
    let old = c.args.self.now in
    let new = c.begin_request.new.self in
    let request = c.in-Some.request in
    IfOk-weaker c.begin_request.result
    (λ turned. Does (asked_for old.node old.times old.state c.args.now c.args.call.now (Some request)) old new turned)
    (λ turned. Does (called old.node old.times old.state c.args.now c.args.call.now) old new turned)
    (λ turned. call_asks old new c.args.now c.args.call.now turned (Some request)
    (subst Left (c.next.ensures ∙ ap (λ (v : ClientView). v.state.replicas.next) c.self.view_is) c.if-next-ge-COUNTS.false)
    (sym c.in-Some.is ∙ c.in_ok-request_of.ensures ∙ ap (λ (v : ClientView). request_of v.state.held c.args.call.now) c.self.view_is))
    c.begin_request.ensures.step
