-- What holds of a client's calls, of what it sends and of what it reports, for any property of what is asked under a number.
use Rattle.std.specs.Prelude.{ℕ, ◌≡◌, ◌+◌, Option, Some, None, List, [], ◌∷◌}
use Rattle.std.specs.List.{AllByRecursion}
use Rattle.xt_base.specs.declared.ids.NodeId.{NodeId}
use Rattle.xt_base.specs.declared.ids.FileId.{FileId}
use Rattle.xt_base.specs.declared.ids.SizeMark.{SizeMark}
use Rattle.xt_messages.specs.declared.file.Capability.{Capability}
use Rattle.xt_messages.specs.declared.reply.Reply.TheVariants as reply
use Rattle.xt_messages.specs.declared.meta.MetaAnswer.{MetaAnswer}
use Rattle.xt_messages.specs.declared.meta.MetaAnswer.TheVariants as answer
use Rattle.xt_messages.specs.declared.message.Msg.{Msg}
use Rattle.xt_messages.specs.declared.message.Payload.{Payload}
use Rattle.xt_messages.specs.declared.message.Payload.TheVariants as payload
use Rattle.xt_messages.specs.declared.event.Call.{Call}
use Rattle.xt_messages.specs.declared.event.Event.{Event}
use Rattle.xt_messages.specs.declared.event.Event.TheVariants as event
use Rattle.xt_messages.specs.declared.event.Mark.{Mark}
use Rattle.xt_messages.specs.declared.event.Mark.TheVariants as mark
use Rattle.xt_messages.specs.declared.event.Outcome.{Outcome}
use Rattle.xt_messages.specs.declared.event.Outcome.TheVariants as outcome
use Rattle.xt_protocol.specs.Turns.{message}
use Rattle.client_rows.specs.declared.RunningCall.{RunningCall}
use Rattle.client_rows.specs.declared.requests.Request.{Request}
use Rattle.client_rows.specs.declared.requests.Request.TheVariants as request
use Rattle.client_rows.specs.declared.requests.MadeCall.{MadeCall}
use Rattle.client_rows.specs.Holding.{Held}
use Rattle.client_rows.specs.Requests.{payload_of}
use Rattle.client_rows.specs.Steps.{Step}
use Rattle.client_rows.specs.Rows.{WholeClient, passes}

-- a request on the content of a file
abbrev pub IsOnFile : Request → Type 0
IsOnFile (request.Replicated capability asked) = Unit {0}
IsOnFile (request.Striped capability asked) = Unit {0}
IsOnFile (request.Meta user group asked) = ⊥
IsOnFile (request.Registry asked) = ⊥

-- each capability that is held is such a one
abbrev pub AllHeld : (ℕ → Capability → Type 0) → Held → Type 0
AllHeld IsHeld held = AllByRecursion (λ e. IsHeld e.0 e.1.capability) held

-- a capability that an event grants is such a one
module _ (IsHeld : ℕ → Capability → Type 0) where
  abbrev pub AnswerGrants : MetaAnswer → Type 0
  AnswerGrants (answer.Granted capability size) = IsHeld capability.file.number capability
  AnswerGrants _ = Unit {0}

  abbrev pub PayloadGrants : Payload → Type 0
  PayloadGrants (payload.MetaReply number told) = AnswerGrants told
  PayloadGrants _ = Unit {0}

  abbrev pub GrantIs : Event → Type 0
  GrantIs (event.Deliver msg) = PayloadGrants msg.payload
  GrantIs event.Wake = Unit {0}
  GrantIs (event.Call c) = Unit {0}

-- an Ok comes that answers the call of this number with this count and these bytes
abbrev pub HearsOk : Event → ℕ → ℕ → List ℕ → Type 0
HearsOk (event.Deliver msg) number count bytes =
    (file : FileId) × (size : SizeMark) × (msg.payload ≡ payload.Reply number file (reply.Ok count size bytes))
HearsOk event.Wake number count bytes = ⊥
HearsOk (event.Call c) number count bytes = ⊥

-- a call on a replicated file ends well only where an Ok comes that says so; no request to a server ends so
abbrev pub EndsSo : Event → ℕ → Request → Outcome → Type 0
EndsSo happens number (request.Replicated capability asked) (outcome.Ok count bytes) = HearsOk happens number count bytes
EndsSo happens number (request.Meta user group asked) (outcome.Ok count bytes) = ⊥
EndsSo happens number (request.Registry asked) (outcome.Ok count bytes) = ⊥
EndsSo happens number _ _ = Unit {0}

module _ (Is : ℕ → Request → Type 0) where
  -- what runs among the calls on replicated files is asked under its number
  abbrev pub RunningIs : Option RunningCall → Type 0
  RunningIs None = Unit {0}
  RunningIs (Some call) = Is call.number (request.Replicated call.capability call.op)

  -- and so is the call that was made last
  abbrev pub MadeIs : Option MadeCall → Type 0
  MadeIs None = Unit {0}
  MadeIs (Some made) = Is made.number made.request

  pub record ClientIs (c : WholeClient) : Type 0 where
    pub running : RunningIs c.replicas.running
    pub made : MadeIs c.made

  -- a client sends nothing, or one message that asks so
  pub data Sends (node : NodeId) : List Msg → Type 0 where
    sends_none : Sends node []
    sends_one : (to : NodeId) (number : ℕ) (asked : Request) → Is number asked → Sends node (message node to (payload_of number asked) ∷ [])

  -- it reports nothing on an event, or that a call has ended
  pub data Tells (happens : Event) : List Mark → Type 0 where
    tells_none : Tells happens []
    tells_end : (number : ℕ) (asked : Request) (how : Outcome) → Is number asked → EndsSo happens number asked how → Tells happens (mark.Done number how ∷ [])

  -- a step on an event
  pub record EventStepIs (node : NodeId) (happens : Event) (next : ℕ) (step : Step WholeClient) : Type 0 where
    pub client : ClientIs step.state
    pub number : step.state.replicas.next ≡ next
    pub sends : Sends node step.turned.outs
    pub tells : Tells happens step.turned.marks
    pub rec : step.turned.rec ≡ None

  -- a call that begins: it takes the next number, is marked, and asks its first node
  pub record BeginsCall (node : NodeId) (c : WholeClient) (k : Call) (asked : Request) (step : Step WholeClient) : Type 0 where
    pub asked_so : Is c.replicas.next asked
    pub client : ClientIs step.state
    pub number : step.state.replicas.next ≡ c.replicas.next + 1
    pub to : NodeId
    pub outs : step.turned.outs ≡ message node to (payload_of c.replicas.next asked) ∷ []
    pub marks : step.turned.marks ≡ mark.Begin c.replicas.next k ∷ []
    pub rec : step.turned.rec ≡ None
    pub held : step.state.held ≡ c.held

  -- a client is called: without a number left, or without what the call uses, nothing comes of it
  pub data CallStepIs (node : NodeId) (c : WholeClient) (reading : ℕ) (k : Call) (step : Step WholeClient) : Type 0 where
    call_passes : step ≡ passes c reading → CallStepIs node c reading k step
    call_begins : (asked : Request) → BeginsCall node c k asked step → CallStepIs node c reading k step

  -- the last call is made again: no mark reports it
  pub record AgainStepIs (node : NodeId) (c : WholeClient) (step : Step WholeClient) : Type 0 where
    pub client : ClientIs step.state
    pub number : step.state.replicas.next ≡ c.replicas.next
    pub sends : Sends node step.turned.outs
    pub marks : step.turned.marks ≡ []
    pub rec : step.turned.rec ≡ None
    pub held : step.state.held ≡ c.held
