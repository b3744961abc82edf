-- a client sends one request at most, and keeps no record; a request that comes to it does nothing
use Rattle.std.proofs.Common.{◌≡◌, ℕ, inl, inr, List, [], refl, sym, ap, subst, ◌∙◌, Option, Some, None}
use Rattle.std.specs.Prelude.{max}
use Rattle.xt_base.specs.TimeSettings.{TimeSettings}
use Rattle.xt_base.specs.declared.ids.NodeId.{NodeId}
use Rattle.xt_base.specs.declared.ids.SizeMark.{SizeMark}
use Rattle.xt_messages.specs.declared.message.Msg.{Msg}
use Rattle.xt_messages.specs.declared.message.Payload.{Payload}
use Rattle.xt_messages.specs.declared.event.Call.{Call}
use Rattle.xt_messages.specs.declared.event.Event.{Event}
use Rattle.xt_messages.specs.declared.event.Event.TheVariants as event
use Rattle.client_rows.specs.declared.ClientState.{ClientState}
use Rattle.client_rows.specs.declared.RunningCall.{RunningCall}
use Rattle.client_rows.specs.declared.requests.MadeCall.{MadeCall}
use Rattle.client_rows.specs.declared.requests.Request.{Request}
use Rattle.client_rows.specs.declared.requests.Request.TheVariants as request
use Rattle.client_rows.specs.declared.requests.Stage.{Stage}
use Rattle.client_rows.specs.declared.requests.Stage.TheVariants as stage
use Rattle.client_rows.specs.Clients as clients
use Rattle.client_rows.specs.Clients.{step_of_client}
use Rattle.client_rows.specs.Ends.{ended_by}
use Rattle.client_rows.specs.Holding.{Held}
use Rattle.client_rows.specs.Requests.{payload_of}
use Rattle.client_rows.specs.Rows as rows
use Rattle.client_rows.specs.Rows.{WholeClient, passes, at_clock, clock_of, stepped, called, called_again}
use Rattle.client_rows.specs.Steps.{Step, stays}
use Rattle.client_rows.specs.Waiting as waiting
use Rattle.client_steps.specs.Asked.{ClientIs, RunningIs, MadeIs, Sends, sends_none, sends_one, CallStepIs, call_passes, call_begins}
use Rattle.client_steps.proofs.Steps.{stepped_is, called_is, called_again_is}
use Rattle.lease_safety.specs.State.{Has}

-- ---- what is asked

-- whatever a client asks
abbrev pub AnyRequest : ℕ → Request → Type 0
AnyRequest number asked = Unit {0}

any_client : (c : WholeClient) → ClientIs AnyRequest c
any_client c = record { running = running c.replicas.running; made = made c.made }
  where
    running : (o : Option RunningCall) → RunningIs AnyRequest o
    running None = tt
    running (Some call) = tt

    made : (o : Option MadeCall) → MadeIs AnyRequest o
    made None = tt
    made (Some m) = tt

-- what a client sends and keeps
pub record ClientGives (node : NodeId) (step : Step WholeClient) : Type 0 where
  pub sends : Sends AnyRequest node step.turned.outs
  pub rec : step.turned.rec ≡ None

pub event_gives : (node : NodeId) (times : TimeSettings) (c : WholeClient) (reading : ℕ) (happens : Event) → ClientGives node (stepped node times c reading happens)
event_gives node times c reading happens =
    let is = stepped_is AnyRequest node times c reading happens (any_client c) in
    record { sends = is.sends; rec = is.rec }

pub call_gives : (node : NodeId) (times : TimeSettings) (c : WholeClient) (reading : ℕ) (k : Call) → ClientGives node (called node times c reading k)
call_gives node times c reading k = by (called_is AnyRequest node times c reading k (any_client c) (λ asked wants room. tt))
  where
    by : CallStepIs AnyRequest node c reading k (called node times c reading k) → ClientGives node (called node times c reading k)
    by (call_passes is) = subst (ClientGives node) (sym is) (record { sends = sends_none; rec = refl })
    by (call_begins asked b) = record { sends = subst (Sends AnyRequest node) (sym b.outs) (sends_one b.to c.replicas.next asked tt); rec = b.rec }

pub again_gives : (node : NodeId) (times : TimeSettings) (c : WholeClient) (reading : ℕ) → ClientGives node (called_again node times c reading)
again_gives node times c reading =
    let is = called_again_is AnyRequest node times c reading (any_client c) in
    record { sends = is.sends; rec = is.rec }

-- ---- a request that comes to a client

behind_rests : (c : WholeClient) (made : Option MadeCall) (size : SizeMark) → rows.behind c made size None ≡ c
behind_rests c (Some made) size = refl
behind_rests c None size = refl

-- a message that is no reply
pub record IsNoReply (content : Payload) : Type 0 where
  pub row : (site : clients.ClientSite) (c : ClientState) (from : NodeId) → clients.message_comes site c from content ≡ stays ClientState c
  pub waits : (held : Held) (made : MadeCall) (target from : NodeId) → waiting.message_comes held made target from content ≡ waiting.waits_on

request_no_reply : (number : ℕ) (asked : Request) → IsNoReply (payload_of number asked)
request_no_reply number (request.Replicated capability asked) = record { row = λ site c from. refl; waits = λ held made target from. refl }
request_no_reply number (request.Striped capability asked) = record { row = λ site c from. refl; waits = λ held made target from. refl }
request_no_reply number (request.Meta user group asked) = record { row = λ site c from. refl; waits = λ held made target from. refl }
request_no_reply number (request.Registry asked) = record { row = λ site c from. refl; waits = λ held made target from. refl }

module _ (node : NodeId) (times : TimeSettings) (c : WholeClient) (reading : ℕ) (msg : Msg) (no_reply : IsNoReply msg.payload) where
  row_rests : step_of_client node times c.replicas reading (event.Deliver msg) ≡ stays ClientState (record c.replicas { last = max reading c.replicas.last })
  unfolding step_of_client
  row_rests = no_reply.row (record { node = node; times = times; now = max reading c.replicas.last }) (record c.replicas { last = max reading c.replicas.last }) msg.from

  -- the step of the call on a replicated file, by that row
  abbrev by_row : Step ClientState → Step WholeClient
  by_row step =
      record {
        state = rows.behind (record c { replicas = step.state }) c.made (rows.mark_told (event.Deliver msg)) (ended_by None step.turned.marks);
        turned = step.turned;
      }

  replicas_rest : rows.replicas_step node times c reading (event.Deliver msg) ≡ passes c reading
  replicas_rest = ap by_row row_rests ∙ ap (λ (d : WholeClient). stays WholeClient d) (behind_rests (at_clock c (clock_of c reading)) c.made (rows.mark_told (event.Deliver msg)))

  waits_rest : (made : MadeCall) (target : NodeId) (deadline : ℕ) → c.made ≡ Some made
      → rows.waits (rows.site_of node times c reading) (at_clock c (clock_of c reading)) made target deadline (event.Deliver msg) ≡ passes c reading
  waits_rest made target deadline made_is =
      ap (rows.proceeds (rows.site_of node times c reading) (at_clock c (clock_of c reading)) made) (no_reply.waits c.held made target msg.from)
      ∙ sym (ap (λ (o : Option MadeCall). stays WholeClient (record { replicas = record c.replicas { last = clock_of c reading }; held = c.held; made = o })) made_is)

  goes_on_rests : (made : MadeCall) (s : Stage) → c.made ≡ Some made → rows.goes_on node times c reading (event.Deliver msg) made s ≡ passes c reading
  goes_on_rests made stage.OnReplicas made_is = replicas_rest
  goes_on_rests made (stage.Waiting target deadline) made_is = waits_rest made target deadline made_is
  goes_on_rests made (stage.Ended how) made_is = refl

  goes_with_rests : (o : Option MadeCall) → c.made ≡ o → rows.goes_on_with node times c reading (event.Deliver msg) o ≡ passes c reading
  goes_with_rests None made_is = refl
  goes_with_rests (Some made) made_is = goes_on_rests made made.stage made_is

  no_reply_rests : stepped node times c reading (event.Deliver msg) ≡ passes c reading
  unfolding stepped
  no_reply_rests = goes_with_rests c.made refl

-- no message comes of this one, whatever the client has become
abbrev pub EndsAtClient : NodeId → Msg → Type 0
EndsAtClient node m = (times : TimeSettings) (c : WholeClient) (reading : ℕ) → (stepped node times c reading (event.Deliver m)).turned.outs ≡ []

no_reply_ends : (node : NodeId) (m : Msg) → IsNoReply m.payload → EndsAtClient node m
no_reply_ends node m no_reply times c reading = ap (λ (step : Step WholeClient). step.turned.outs) (no_reply_rests node times c reading m no_reply)

-- so no message comes of what a client sends itself
pub sends_end : (node : NodeId) (outs : List Msg) → Sends AnyRequest node outs → (m : Msg) → Has m outs → EndsAtClient node m
sends_end node _ sends_none m h = absurd h
sends_end node _ (sends_one to number asked is) m (inl e) = no_reply_ends node m (subst (λ (k : Msg). IsNoReply k.payload) (sym e) (request_no_reply number asked))
sends_end node _ (sends_one to number asked is) m (inr h) = absurd h
