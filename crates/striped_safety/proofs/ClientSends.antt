-- what a client sends in any step: requests alone
use Rattle.std.proofs.Common.{◌≡◌, ℕ, inl, inr, refl, sym, subst, Option, Some, None, List, [], ◌∷◌}
use Rattle.xt_base.specs.TimeSettings.{TimeSettings}
use Rattle.xt_base.specs.declared.ids.NodeId.{NodeId}
use Rattle.xt_base.specs.declared.ids.FileId.{FileId}
use Rattle.xt_messages.specs.declared.reply.Reply.{Reply}
use Rattle.xt_messages.specs.declared.message.Msg.{Msg}
use Rattle.xt_messages.specs.declared.message.Payload.{Payload}
use Rattle.xt_messages.specs.declared.message.Payload.TheVariants as payload
use Rattle.xt_messages.specs.declared.event.Call.{Call}
use Rattle.xt_messages.specs.declared.event.Event.{Event}
use Rattle.xt_protocol.specs.Turns.{message}
use Rattle.lease_safety.specs.State.{Has}
use Rattle.client_rows.specs.declared.RunningCall.{RunningCall}
use Rattle.client_rows.specs.declared.requests.MadeCall.{MadeCall}
use Rattle.client_rows.specs.declared.requests.Request.{Request}
use Rattle.client_rows.specs.declared.requests.Request.TheVariants as request
use Rattle.client_rows.specs.Requests.{payload_of}
use Rattle.client_rows.specs.Steps.{Step}
use Rattle.client_rows.specs.Rows.{WholeClient, stepped, called, called_again}
use Rattle.client_steps.specs.Asked.{RunningIs, MadeIs, ClientIs, Sends, sends_none, sends_one, CallStepIs, call_passes, call_begins}
use Rattle.client_steps.proofs.Steps.{stepped_is, called_is, called_again_is}

-- an ask, or a request to a server
abbrev pub IsRequest : Payload → Type 0
IsRequest (payload.Ask number capability asked) = Unit {0}
IsRequest (payload.Meta number user group wanted) = Unit {0}
IsRequest (payload.Registry number asked) = Unit {0}
IsRequest _ = ⊥

-- it is no reply
pub no_reply : (content : Payload) (k : ℕ) (file : FileId) (answer : Reply) → IsRequest content → content ≡ payload.Reply k file answer → ⊥
no_reply content k file answer is same = subst IsRequest same is

-- ---- steps

abbrev Any : ℕ → Request → Type 0
Any number asked = Unit {0}

any_client : (c : WholeClient) → ClientIs Any c
any_client c = record { running = running c.replicas.running; made = made c.made }
  where
    running : (o : Option RunningCall) → RunningIs Any o
    running None = tt
    running (Some call) = tt

    made : (o : Option MadeCall) → MadeIs Any o
    made None = tt
    made (Some m) = tt

-- what a step gives: no record, and requests alone
pub record AsksAlone (step : Step WholeClient) : Type 0 where
  pub rec : step.turned.rec ≡ None
  pub asks : (k : Msg) → Has k step.turned.outs → IsRequest k.payload

asked_is : (number : ℕ) (asked : Request) → IsRequest (payload_of number asked)
asked_is number (request.Replicated capability asked) = tt
asked_is number (request.Striped capability asked) = tt
asked_is number (request.Meta user group asked) = tt
asked_is number (request.Registry asked) = tt

one_ask : (node to : NodeId) (number : ℕ) (asked : Request) (k : Msg) → Has k (message node to (payload_of number asked) ∷ []) → IsRequest k.payload
one_ask node to number asked k (inl e) = subst (λ (x : Msg). IsRequest x.payload) (sym e) (asked_is number asked)
one_ask node to number asked k (inr h) = absurd h

all_asks : (node : NodeId) (outs : List Msg) → Sends Any node outs → (k : Msg) → Has k outs → IsRequest k.payload
all_asks node _ sends_none k h = absurd h
all_asks node _ (sends_one to number asked is) k h = one_ask node to number asked k h

module _ (node : NodeId) (times : TimeSettings) (c : WholeClient) (reading : ℕ) where
  pub event_asks : (happens : Event) → AsksAlone (stepped node times c reading happens)
  event_asks happens =
      let is = stepped_is Any node times c reading happens (any_client c) in
      record { rec = is.rec; asks = all_asks node (stepped node times c reading happens).turned.outs is.sends }

  pub call_asks : (k : Call) → AsksAlone (called node times c reading k)
  call_asks k = at (called node times c reading k) (called_is Any node times c reading k (any_client c) (λ asked wants room. tt))
    where
      at : (step : Step WholeClient) → CallStepIs Any node c reading k step → AsksAlone step
      at step (call_passes same) = subst AsksAlone (sym same) (record { rec = refl; asks = λ x h. absurd h })
      at step (call_begins asked does) = record { rec = does.rec; asks = λ x h. one_ask node does.to c.replicas.next asked x (subst (Has x) does.outs h) }

  pub again_asks : AsksAlone (called_again node times c reading)
  again_asks =
      let is = called_again_is Any node times c reading (any_client c) in
      record { rec = is.rec; asks = all_asks node (called_again node times c reading).turned.outs is.sends }
