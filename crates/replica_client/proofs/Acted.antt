-- what a client did, by the rows that say it
use Rattle.std.proofs.Common.{◌≡◌, ◌∙◌, ℕ, ◌<◌, ◌≤◌, sym, subst, ap, arith, Bool, true, false, cond, Option, Some, None, List, max}
use Rattle.std.specs.Prelude.{Result, IfOk, nat_lt, filter, not}
use Rattle.std.proofs.lemmas.Result.{IfOk-weaker}
use Rattle.std.proofs.lemmas.Grind.{common_steps}
use Rattle.xt_base.specs.declared.TheConstants.{COUNTS}
use Rattle.xt_base.specs.declared.ids.NodeId.{NodeId}
use Rattle.xt_messages.specs.declared.file.Capability.{Capability}
use Rattle.xt_messages.specs.declared.file.Op.{Op}
use Rattle.xt_messages.specs.declared.event.Call.{Call}
use Rattle.xt_messages.specs.declared.event.Event.{Event}
use Rattle.xt_messages.specs.declared.event.Outcome.TheVariants as outcome
use Rattle.xt_messages.specs.declared.reply.Reply.{Reply}
use Rattle.xt_messages.specs.declared.reply.Retry.{Retry}
use Rattle.xt_protocol.specs.declared.turned.Turned.{Turned}
use Rattle.client_rows.specs.declared.Tried.{Tried}
use Rattle.client_rows.specs.declared.RunningCall.{RunningCall}
use Rattle.client_rows.specs.declared.ClientState.{ClientState}
use Rattle.client_rows.specs.Steps.{Step, stays}
use Rattle.client_rows.specs.Clients.{ClientSite, call_of_client, step_of_client, begins_call, event_comes, answered, asks, ends_call, turned_away, with_outcome, next_of, named, answers_in, was_tried}
use Rattle.client_rows.specs.Again.{asks_first, again_of_client}
use Rattle.replica_client.specs.Views.{ClientView, site_at, at_clock, Acts, where_running, CallActs}
use Rattle.client_rows.specs.Ends.{ended_by}

-- a row of client and clock
abbrev pub Row : Type 0
Row = ClientSite → ClientState → Step ClientState

-- a row of a running call
abbrev pub CallRow : Type 0
CallRow = ClientSite → ClientState → RunningCall → Step ClientState

-- the row's step is the new state and what was given
pub step_is : (row : Row) (now : ℕ) (old new : ClientView) (turned : Turned) → Acts row now old new turned
    → row (site_at old now) (at_clock old now) ≡ record { state = new.state; turned = turned }
step_is row now old new turned acts =
    let step : Step ClientState = row (site_at old now) (at_clock old now) in
    let made : ClientState → Turned → Step ClientState = λ state given. record { state = state; turned = given } in
    ap (λ (state : ClientState). made state step.turned) (sym (ap (λ (view : ClientView). view.state) acts.0)) ∙ ap (made new.state) (sym acts.1)

-- a call without a number left, and one with
pub call_stays : (reading now : ℕ) (capability : Capability) (c : Call) (asked : Op) (old new : ClientView) (turned : Turned)
    → now ≡ max reading old.state.last → COUNTS ≤ old.state.next → Acts (λ site client. stays ClientState client) now old new turned
    → call_of_client old.node old.times old.state reading capability c asked ≡ record { state = new.state; turned = turned }
unfolding call_of_client
call_stays reading now capability c asked old new turned clock spent acts =
    let away : nat_lt old.state.next COUNTS ≡ false = grind (arith, common_steps) in
    let begins : Step ClientState =
    begins_call (site_at old (max reading old.state.last)) (at_clock old (max reading old.state.last)) capability c asked in
    ap (λ (b : Bool). cond b begins (stays ClientState (at_clock old (max reading old.state.last)))) away
    ∙ ap (λ (n : ℕ). stays ClientState (at_clock old n)) (sym clock)
    ∙ step_is (λ site client. stays ClientState client) now old new turned acts

pub call_begins : (reading now : ℕ) (capability : Capability) (c : Call) (asked : Op) (old new : ClientView) (turned : Turned)
    → now ≡ max reading old.state.last → old.state.next < COUNTS
    → Acts (λ site client. begins_call site client capability c asked) now old new turned
    → call_of_client old.node old.times old.state reading capability c asked ≡ record { state = new.state; turned = turned }
unfolding call_of_client
call_begins reading now capability c asked old new turned clock left acts =
    let here : nat_lt old.state.next COUNTS ≡ true = grind (arith, common_steps) in
    let begins : ℕ → Step ClientState = λ n. begins_call (site_at old n) (at_clock old n) capability c asked in
    ap (λ (b : Bool). cond b (begins (max reading old.state.last)) (stays ClientState (at_clock old (max reading old.state.last)))) here
    ∙ ap begins (sym clock)
    ∙ step_is (λ site client. begins_call site client capability c asked) now old new turned acts

-- an event
pub event_is : (reading now : ℕ) (happens : Event) (old new : ClientView) (turned : Turned)
    → now ≡ max reading old.state.last → Acts (λ site client. event_comes site client happens) now old new turned
    → step_of_client old.node old.times old.state reading happens ≡ record { state = new.state; turned = turned }
unfolding step_of_client
event_is reading now happens old new turned clock acts =
    let row : Row = λ site client. event_comes site client happens in
    ap (λ (n : ℕ). row (site_at old n) (at_clock old n)) (sym clock) ∙ step_is row now old new turned acts

-- a call that is made again
pub again_is : (reading now number : ℕ) (capability : Capability) (asked : Op) (old new : ClientView) (turned : Turned)
    → now ≡ max reading old.state.last → Acts (λ site client. asks_first site client number capability asked) now old new turned
    → again_of_client old.node old.times old.state reading number capability asked ≡ record { state = new.state; turned = turned }
unfolding again_of_client
again_is reading now number capability asked old new turned clock acts =
    let row : Row = λ site client. asks_first site client number capability asked in
    ap (λ (n : ℕ). row (site_at old n) (at_clock old n)) (sym clock) ∙ step_is row now old new turned acts

-- the marks of what was done say how a call ended
pub ended_is : (row : Row) (now : ℕ) (old new : ClientView) (turned : Turned) → Acts row now old new turned
    → new.ended ≡ ended_by old.ended turned.marks
ended_is row now old new turned acts =
    ap (λ (view : ClientView). view.ended) acts.0 ∙ ap (λ (given : Turned). ended_by old.ended given.marks) (sym acts.1)

-- what was done by one row of the running call was done by another that agrees with it there
pub acts_as : (row other : CallRow) (now : ℕ) (old new : ClientView) (turned : Turned) (call : RunningCall)
    → old.state.running ≡ Some call → ((site : ClientSite) (client : ClientState) → row site client call ≡ other site client call)
    → CallActs row now old new turned → CallActs other now old new turned
acts_as row other now old new turned call runs agree acts =
    let site : ClientSite = site_at old now in
    let client : ClientState = at_clock old now in
    let by : CallRow → Option RunningCall → Step ClientState = λ r o. where_running (r site client) client o in
    let same : by row old.state.running ≡ by other old.state.running =
    ap (by row) runs ∙ agree site client ∙ sym (ap (by other) runs) in (
      acts.0 ∙ ap (λ (step : Step ClientState). let v : ClientView = record old { state = step.state; ended = ended_by old.ended step.turned.marks } in v) same,
      acts.1 ∙ ap (λ (step : Step ClientState). step.turned) same,
    )

-- what a call that was turned away does, by the member to ask next
abbrev pub after_turn : ClientSite → ClientState → RunningCall → List Tried → Option NodeId → Step ClientState
after_turn site client call tried (Some target) = asks site client (record call { tried = tried }) target
after_turn site client call tried None = ends_call client call (outcome.Retry (answers_in tried call.capability.location.members))

turn_is : (site : ClientSite) (client : ClientState) (call : RunningCall) (how : Retry) (tried : List Tried) (next : Option NodeId)
    → tried ≡ with_outcome call.tried call.target how
    → next ≡ next_of (named how) (filter (λ m. not (was_tried tried m)) call.capability.location.members)
    → after_turn site client call tried next ≡ turned_away site client call how
turn_is site client call how tried next noted chosen =
    let after : List Tried → Option NodeId → Step ClientState = after_turn site client call in
    ap (after tried) chosen
    ∙ ap (λ (ts : List Tried). after ts (next_of (named how) (filter (λ m. not (was_tried ts m)) call.capability.location.members))) noted

-- who did that was turned away
pub turn_done : {E : Type 0} (r : Result Turned E) (now : ℕ) (old new : ClientView) (call : RunningCall) (how : Retry)
    (tried : List Tried) (next : Option NodeId)
    → old.state.running ≡ Some call → tried ≡ with_outcome call.tried call.target how
    → next ≡ next_of (named how) (filter (λ m. not (was_tried tried m)) call.capability.location.members)
    → IfOk r (λ turned. CallActs (λ site client call. after_turn site client call tried next) now old new turned)
    → IfOk r (λ turned. CallActs (λ site client call. turned_away site client call how) now old new turned)
turn_done r now old new call how tried next runs noted chosen =
    let row : CallRow = λ site client call. after_turn site client call tried next in
    let other : CallRow = λ site client call. turned_away site client call how in
    IfOk-weaker r (λ turned. CallActs row now old new turned) (λ turned. CallActs other now old new turned)
    (λ turned. acts_as row other now old new turned call runs (λ site client. turn_is site client call how tried next noted chosen))

-- a reply that is this one was taken as it is
pub reply_taken : {E : Type 0} (r : Result Turned E) (now : ℕ) (old new : ClientView) (from : NodeId) (reply same : Reply)
    → reply ≡ same
    → IfOk r (λ turned. CallActs (λ site client call. answered site client call from same) now old new turned)
    → IfOk r (λ turned. CallActs (λ site client call. answered site client call from reply) now old new turned)
reply_taken r now old new from reply same is =
    let Taken : Reply → Type 0 = λ told. IfOk r (λ turned. CallActs (λ site client call. answered site client call from told) now old new turned) in
    subst Taken (sym is)
