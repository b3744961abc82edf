-- the steps of a client: on an event, called, and called again
use Rattle.std.proofs.Common.{◌≡◌, ℕ, ◌+◌, ◌<◌, ◌^◌, ◌∙◌, true, false, refl, sym, Option, Some, None, [], ◌∷◌}
use Rattle.std.specs.Prelude.{max, nat_lt}
use Rattle.xt_base.specs.TimeSettings.{TimeSettings}
use Rattle.xt_base.specs.declared.TheConstants.{COUNTS}
use Rattle.xt_base.specs.declared.ids.NodeId.{NodeId}
use Rattle.xt_base.specs.declared.ids.SizeMark.{SizeMark}
use Rattle.xt_messages.specs.declared.file.Capability.{Capability}
use Rattle.xt_messages.specs.declared.file.Op.{Op}
use Rattle.xt_messages.specs.declared.event.Call.{Call}
use Rattle.xt_messages.specs.declared.event.Event.{Event}
use Rattle.xt_messages.specs.declared.event.Mark.TheVariants as mark
use Rattle.xt_messages.specs.declared.event.Outcome.{Outcome}
use Rattle.xt_protocol.specs.Turns.{message}
use Rattle.client_rows.specs.declared.ClientState.{ClientState}
use Rattle.client_rows.specs.declared.progress.Learnt.{Learnt}
use Rattle.client_rows.specs.declared.progress.Learnt.TheVariants as learnt
use Rattle.client_rows.specs.declared.progress.Next.{Next}
use Rattle.client_rows.specs.declared.progress.Next.TheVariants as next
use Rattle.client_rows.specs.declared.requests.Request.{Request}
use Rattle.client_rows.specs.declared.requests.Request.TheVariants as request
use Rattle.client_rows.specs.declared.requests.CallResult.{CallResult}
use Rattle.client_rows.specs.declared.requests.Stage.{Stage}
use Rattle.client_rows.specs.declared.requests.Stage.TheVariants as stage
use Rattle.client_rows.specs.declared.requests.MadeCall.{MadeCall}
use Rattle.client_rows.specs.Steps.{Step, stays}
use Rattle.client_rows.specs.Clients as clients
use Rattle.client_rows.specs.Clients.{ClientSite, call_of_client, step_of_client}
use Rattle.client_rows.specs.Again.{again_of_client}
use Rattle.client_rows.specs.Ends.{ended_by}
use Rattle.client_rows.specs.Requests.{request_of, payload_of, first_asked, outcome_of}
use Rattle.client_rows.specs.Waiting as waiting
use Rattle.client_rows.specs.Rows as rows
use Rattle.client_rows.specs.Rows.{WholeClient, stepped, called, called_again, passes}
use Rattle.client_steps.specs.Asked.{RunningIs, MadeIs, ClientIs, Sends, sends_none, sends_one, Tells, tells_none, tells_end, EventStepIs, CallStepIs, call_passes, call_begins, AgainStepIs}
use Rattle.client_steps.proofs.Cases.{either, when, is_left}
use Rattle.client_steps.proofs.Replicas.{step_is}
use Rattle.client_steps.proofs.Waits.{GoesSo, event_goes}

module _ (Is : ℕ → Request → Type 0) (node : NodeId) (times : TimeSettings) where
  -- ---- on an event

  passes_is : (c : WholeClient) (reading : ℕ) (happens : Event) → ClientIs Is c → EventStepIs Is node happens c.replicas.next (passes c reading)
  passes_is c reading happens is =
      record { client = record { running = is.running; made = is.made }; number = refl; sends = sends_none; tells = tells_none; rec = refl }

  -- what is learnt changes neither what runs nor the next number
  learnt_running : (c : ClientState) (l : Learnt) → RunningIs Is c.running → RunningIs Is (rows.knows_learnt c l).running
  learnt_running c (learnt.Epoch file epoch) is = is
  learnt_running c _ is = is

  learnt_next : (c : ClientState) (l : Learnt) → (rows.knows_learnt c l).next ≡ c.next
  learnt_next c (learnt.Epoch file epoch) = refl
  learnt_next c _ = refl

  sends_so : (made : MadeCall) (n : Next) → Is made.number made.request → Sends Is node (rows.sent node made n)
  sends_so made (next.Ask target) is = sends_one target made.number made.request is
  sends_so made _ is = sends_none

  tells_so : (happens : Event) (made : MadeCall) (n : Next) → Is made.number made.request → GoesSo happens made.number made.request n → Tells Is happens (rows.marks_of made n)
  tells_so happens made (next.End how) is so = tells_end made.number made.request (outcome_of how) is so
  tells_so happens made _ is so = tells_none

  waits_is : (c : WholeClient) (reading : ℕ) (happens : Event) (made : MadeCall) (target : NodeId) (deadline : ℕ) → ClientIs Is c → Is made.number made.request
      → EventStepIs Is node happens c.replicas.next (rows.waits (rows.site_of node times c reading) (rows.at_clock c (rows.clock_of c reading)) made target deadline happens)
  waits_is c reading happens made target deadline is asked =
      let now = rows.clock_of c reading in
      let later = record c.replicas { last = now } in
      let comes = waiting.event_comes now c.held made target deadline happens in
      record {
        client = record { running = learnt_running later comes.learnt is.running; made = asked };
        number = learnt_next later comes.learnt;
        sends = sends_so made comes.next asked;
        tells = tells_so happens made comes.next asked (event_goes happens made.number now c.held made target deadline happens);
        rec = refl;
      }

  -- the end of the call on a replicated file changes neither what runs nor what was asked
  ended_made : (made : MadeCall) (o : Option CallResult) → Is made.number made.request → MadeIs Is (Some (rows.ended_so made o))
  ended_made made None is = is
  ended_made made (Some how) is = is

  behind_is : (c : WholeClient) (made : Option MadeCall) (size : SizeMark) (how : Option Outcome) → ClientIs Is c → MadeIs Is made → ClientIs Is (rows.behind c made size how)
  behind_is c None size how is asked = is
  behind_is c (Some made) size None is asked = is
  behind_is c (Some made) size (Some how) is asked =
      record { running = is.running; made = ended_made made (rows.result_behind c.held _ size how) asked }

  behind_next : (c : WholeClient) (made : Option MadeCall) (size : SizeMark) (how : Option Outcome) → (rows.behind c made size how).replicas.next ≡ c.replicas.next
  behind_next c None size how = refl
  behind_next c (Some made) size None = refl
  behind_next c (Some made) size (Some how) = refl

  replicas_is : (c : WholeClient) (reading : ℕ) (happens : Event) → ClientIs Is c → EventStepIs Is node happens c.replicas.next (rows.replicas_step node times c reading happens)
  replicas_is c reading happens is =
      let step = step_of_client node times c.replicas reading happens in
      let row = step_is Is node times c.replicas reading happens is.running in
      let moved = record c { replicas = step.state } in
      let size = rows.mark_told happens in
      let how = ended_by None step.turned.marks in
      record {
        client = behind_is moved c.made size how (record { running = row.running; made = is.made }) is.made;
        number = behind_next moved c.made size how ∙ row.number;
        sends = row.sends;
        tells = row.tells;
        rec = row.rec;
      }

  goes_on_is : (c : WholeClient) (reading : ℕ) (happens : Event) (made : MadeCall) (s : Stage) → ClientIs Is c → Is made.number made.request
      → EventStepIs Is node happens c.replicas.next (rows.goes_on node times c reading happens made s)
  goes_on_is c reading happens made stage.OnReplicas is asked = replicas_is c reading happens is
  goes_on_is c reading happens made (stage.Waiting target deadline) is asked = waits_is c reading happens made target deadline is asked
  goes_on_is c reading happens made (stage.Ended how) is asked = passes_is c reading happens is

  goes_with_is : (c : WholeClient) (reading : ℕ) (happens : Event) (o : Option MadeCall) → ClientIs Is c → MadeIs Is o
      → EventStepIs Is node happens c.replicas.next (rows.goes_on_with node times c reading happens o)
  goes_with_is c reading happens None is asked = passes_is c reading happens is
  goes_with_is c reading happens (Some made) is asked = goes_on_is c reading happens made made.stage is asked

-- a step on an event
pub stepped_is : (Is : ℕ → Request → Type 0) (node : NodeId) (times : TimeSettings) (c : WholeClient) (reading : ℕ) (happens : Event) → ClientIs Is c
    → EventStepIs Is node happens c.replicas.next (stepped node times c reading happens)
unfolding stepped
stepped_is Is node times c reading happens is = goes_with_is Is node times c reading happens c.made is is.made

-- ---- called

-- what the start of a call gives
record Starts (Is : ℕ → Request → Type 0) (node : NodeId) (c : ClientState) (k : Call) (asked : Request) (step : Step ClientState) : Type 0 where
  running : RunningIs Is step.state.running
  number : step.state.next ≡ c.next + 1
  to : NodeId
  outs : step.turned.outs ≡ message node to (payload_of c.next asked) ∷ []
  marks : step.turned.marks ≡ mark.Begin c.next k ∷ []
  rec : step.turned.rec ≡ None

module _ (Is : ℕ → Request → Type 0) (node : NodeId) (times : TimeSettings) where
  replicated_starts : (c : ClientState) (reading : ℕ) (k : Call) (capability : Capability) (asked : Op) → nat_lt c.next COUNTS ≡ true
      → Is c.next (request.Replicated capability asked) → Starts Is node c k (request.Replicated capability asked) (call_of_client node times c reading capability k asked)
  unfolding call_of_client
  replicated_starts c reading k capability asked room is =
      let now = max reading c.last in
      let later = record c { last = now } in
      when (λ step. Starts Is node c k (request.Replicated capability asked) step) (nat_lt c.next COUNTS)
      (clients.begins_call (record { node = node; times = times; now = now }) later capability k asked) (stays ClientState later)
      (λ _. record { running = is; number = refl; to = _; outs = refl; marks = refl; rec = refl })
      (λ full. absurd (let clash : true ≡ false = sym room ∙ full in cc))

  starts_is : (c : ClientState) (reading : ℕ) (k : Call) (asked : Request) → nat_lt c.next COUNTS ≡ true → RunningIs Is c.running → Is c.next asked
      → Starts Is node c k asked (rows.starts node times c reading k asked)
  starts_is c reading k (request.Replicated capability asked) room was is = replicated_starts c reading k capability asked room is
  starts_is c reading k (request.Striped capability asked) room was is = record { running = was; number = refl; to = first_asked (request.Striped capability asked); outs = refl; marks = refl; rec = refl }
  starts_is c reading k (request.Meta user group asked) room was is = record { running = was; number = refl; to = first_asked (request.Meta user group asked); outs = refl; marks = refl; rec = refl }
  starts_is c reading k (request.Registry asked) room was is = record { running = was; number = refl; to = first_asked (request.Registry asked); outs = refl; marks = refl; rec = refl }

  asked_is : (c : WholeClient) (reading : ℕ) (k : Call) (o : Option Request) → ClientIs Is c → nat_lt c.replicas.next COUNTS ≡ true
      → ((asked : Request) → o ≡ Some asked → Is c.replicas.next asked) → CallStepIs Is node c reading k (rows.asked_for node times c reading k o)
  asked_is c reading k None is room known = call_passes refl
  asked_is c reading k (Some asked) is room known =
      let wanted = known asked refl in
      let start = starts_is c.replicas reading k asked room is.running wanted in
      call_begins asked
      (record {
        asked_so = wanted;
        client = record { running = start.running; made = wanted };
        number = start.number;
        to = start.to;
        outs = start.outs;
        marks = start.marks;
        rec = start.rec;
        held = refl;
      })

-- a client is called
pub called_is : (Is : ℕ → Request → Type 0) (node : NodeId) (times : TimeSettings) (c : WholeClient) (reading : ℕ) (k : Call) → ClientIs Is c
    → ((asked : Request) → request_of c.held k ≡ Some asked → c.replicas.next < 2 ^ 62 → Is c.replicas.next asked)
    → CallStepIs Is node c reading k (called node times c reading k)
unfolding called
called_is Is node times c reading k is known =
    when (λ step. CallStepIs Is node c reading k step) (nat_lt c.replicas.next COUNTS) (rows.asked_for node times c reading k (request_of c.held k)) (passes c reading)
    (λ room. asked_is Is node times c reading k (request_of c.held k) is room (λ asked found. known asked found (is_left c.replicas.next room)))
    (λ full. call_passes refl)

-- what it holds stays
pub called_held : (node : NodeId) (times : TimeSettings) (c : WholeClient) (reading : ℕ) (k : Call) → (called node times c reading k).state.held ≡ c.held
unfolding called
called_held node times c reading k =
    either (λ step. step.state.held ≡ c.held) (nat_lt c.replicas.next COUNTS) (rows.asked_for node times c reading k (request_of c.held k)) (passes c reading)
    (at (request_of c.held k)) refl
  where
    at : (o : Option Request) → (rows.asked_for node times c reading k o).state.held ≡ c.held
    at None = refl
    at (Some asked) = refl

-- ---- called again

-- what the start of the last call gives, once more
record Repeats (Is : ℕ → Request → Type 0) (node : NodeId) (c : ClientState) (step : Step ClientState) : Type 0 where
  running : RunningIs Is step.state.running
  number : step.state.next ≡ c.next
  sends : Sends Is node step.turned.outs
  marks : step.turned.marks ≡ []
  rec : step.turned.rec ≡ None

module _ (Is : ℕ → Request → Type 0) (node : NodeId) (times : TimeSettings) where
  replicated_again : (c : ClientState) (reading number : ℕ) (capability : Capability) (asked : Op) → Is number (request.Replicated capability asked)
      → Repeats Is node c (again_of_client node times c reading number capability asked)
  unfolding again_of_client
  replicated_again c reading number capability asked is =
      record { running = is; number = refl; sends = sends_one _ number (request.Replicated capability asked) is; marks = refl; rec = refl }

  repeats_is : (c : ClientState) (reading number : ℕ) (asked : Request) → RunningIs Is c.running → Is number asked
      → Repeats Is node c (rows.starts_again node times c reading number asked)
  repeats_is c reading number (request.Replicated capability asked) was is = replicated_again c reading number capability asked is
  repeats_is c reading number (request.Striped capability asked) was is =
      record { running = was; number = refl; sends = sends_one _ number (request.Striped capability asked) is; marks = refl; rec = refl }
  repeats_is c reading number (request.Meta user group asked) was is =
      record { running = was; number = refl; sends = sends_one _ number (request.Meta user group asked) is; marks = refl; rec = refl }
  repeats_is c reading number (request.Registry asked) was is =
      record { running = was; number = refl; sends = sends_one _ number (request.Registry asked) is; marks = refl; rec = refl }

  repeated_is : (c : WholeClient) (reading : ℕ) (o : Option MadeCall) → ClientIs Is c → MadeIs Is o → AgainStepIs Is node c (rows.repeated node times c reading o)
  repeated_is c reading None is asked =
      record { client = record { running = is.running; made = is.made }; number = refl; sends = sends_none; marks = refl; rec = refl; held = refl }
  repeated_is c reading (Some made) is asked =
      let again = repeats_is c.replicas reading made.number made.request is.running asked in
      record {
        client = record { running = again.running; made = asked };
        number = again.number;
        sends = again.sends;
        marks = again.marks;
        rec = again.rec;
        held = refl;
      }

-- the last call is made again
pub called_again_is : (Is : ℕ → Request → Type 0) (node : NodeId) (times : TimeSettings) (c : WholeClient) (reading : ℕ) → ClientIs Is c
    → AgainStepIs Is node c (called_again node times c reading)
unfolding called_again
called_again_is Is node times c reading is = repeated_is Is node times c reading c.made is is.made
