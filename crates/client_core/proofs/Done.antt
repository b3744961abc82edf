-- what a client did, by the rows that say it
use Rattle.std.proofs.Common.{◌≡◌, ℕ, ◌<◌, ◌≤◌, subst, arith, Bool, true, false, cond, Option}
use Rattle.std.specs.Prelude.{nat_lt}
use Rattle.std.proofs.lemmas.Grind.{common_steps}
use Rattle.xt_base.specs.declared.TheConstants.{COUNTS}
use Rattle.xt_messages.specs.declared.event.Call.{Call}
use Rattle.xt_messages.specs.declared.event.Event.{Event}
use Rattle.xt_protocol.specs.declared.turned.Turned.{Turned}
use Rattle.client_rows.specs.declared.requests.Request.{Request}
use Rattle.client_rows.specs.Requests.{request_of}
use Rattle.client_rows.specs.Rows.{passes, asked_for, called, goes_on_with, stepped}
use Rattle.client_core.specs.Views.{ClientView, Does}

-- a call without a number left, and one with
pub call_passes : (old new : ClientView) (reading : ℕ) (c : Call) (turned : Turned) → COUNTS ≤ old.state.replicas.next
    → Does (passes old.state reading) old new turned → Does (called old.node old.times old.state reading c) old new turned
unfolding called
call_passes old new reading c turned spent =
    let away : false ≡ nat_lt old.state.replicas.next COUNTS = grind (arith, common_steps) in
    let Did : Bool → Type 0 =
    λ b. Does (cond b (asked_for old.node old.times old.state reading c (request_of old.state.held c)) (passes old.state reading)) old new turned
    in
    subst Did away

pub call_asks : (old new : ClientView) (reading : ℕ) (c : Call) (turned : Turned) (asked : Option Request)
    → old.state.replicas.next < COUNTS → asked ≡ request_of old.state.held c
    → Does (asked_for old.node old.times old.state reading c asked) old new turned
    → Does (called old.node old.times old.state reading c) old new turned
unfolding called
call_asks old new reading c turned asked left is_asked did =
    let here : true ≡ nat_lt old.state.replicas.next COUNTS = grind (arith, common_steps) in
    let Asks : Option Request → Type 0 = λ a. Does (asked_for old.node old.times old.state reading c a) old new turned in
    let Did : Bool → Type 0 =
    λ b. Does (cond b (asked_for old.node old.times old.state reading c (request_of old.state.held c)) (passes old.state reading)) old new turned
    in
    subst Did here (subst Asks is_asked did)

-- the step of a client
pub stepped_is : (old new : ClientView) (reading : ℕ) (happens : Event) (turned : Turned)
    → Does (goes_on_with old.node old.times old.state reading happens old.state.made) old new turned
    → Does (stepped old.node old.times old.state reading happens) old new turned
unfolding stepped
stepped_is old new reading happens turned did = did
