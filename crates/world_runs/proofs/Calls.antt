-- What a client asks has begun, and its calls end well only as they were answered.
use Rattle.std.proofs.Common.{◌≡◌, ℕ, ◌⊎◌, inl, inr, List, [], ◌∷◌, refl, sym, subst, Some}
use Rattle.xt_messages.specs.Limits.{FitsOp}
use Rattle.xt_base.specs.declared.ids.NodeId.{NodeId}
use Rattle.xt_base.specs.declared.ids.OpId.{OpId}
use Rattle.xt_messages.specs.declared.file.Capability.{Capability}
use Rattle.xt_messages.specs.declared.file.Kind.TheVariants as kind
use Rattle.xt_messages.specs.declared.file.Location.{Location}
use Rattle.xt_messages.specs.declared.file.Op.{Op}
use Rattle.xt_messages.specs.declared.reply.Reply.{Reply}
use Rattle.xt_messages.specs.declared.reply.Reply.TheVariants as reply
use Rattle.xt_messages.specs.declared.message.Msg.{Msg}
use Rattle.xt_messages.specs.declared.message.Payload.{Payload}
use Rattle.xt_messages.specs.declared.message.Payload.TheVariants as payload
use Rattle.xt_messages.specs.declared.event.Event.{Event}
use Rattle.xt_messages.specs.declared.event.Event.TheVariants as event
use Rattle.xt_messages.specs.declared.event.Mark.{Mark}
use Rattle.xt_messages.specs.declared.event.Mark.TheVariants as mark
use Rattle.xt_messages.specs.declared.event.Outcome.{Outcome}
use Rattle.xt_messages.specs.declared.event.Outcome.TheVariants as outcome
use Rattle.lease_safety.specs.State.{Has}
use Rattle.time_line.specs.declared.entry.Entry.{Entry}
use Rattle.client_rows.specs.declared.requests.Request.{Request}
use Rattle.client_rows.specs.declared.requests.Request.TheVariants as request
use Rattle.client_rows.specs.Requests.{payload_of}
use Rattle.client_steps.specs.Asked.{EndsSo, HearsOk, AnswerGrants, PayloadGrants, GrantIs, Sends, sends_none, sends_one, Tells, tells_none, tells_end}
use Rattle.time_line.specs.TimeLine.{id_of, location_in, operation_begun}
use Rattle.time_line.specs.Clauses.{HasBegunOn}
use Rattle.world_runs.proofs.Entries.{HasAnswer}

-- these entries have an answer of the call, on some file
abbrev pub IsAnswered : List Entry → OpId → ℕ → List ℕ → Type 0
IsAnswered es id count bytes = (file : ℕ) × HasAnswer file es id count bytes

-- the call has begun on a file that the trace reports as a striped one
pub record IsOnStriped (es : List Entry) (id : OpId) : Type 0 where
  pub file : ℕ
  pub has_begun : HasBegunOn file es id
  pub location : Location
  pub placed : location_in file es ≡ Some location
  pub striped : location.kind ≡ kind.Striped

-- a reply: an Ok was answered so, or is of a call on a striped file
abbrev pub ReplyIs : List Entry → NodeId → ℕ → Reply → Type 0
ReplyIs es to number (reply.Ok count size bytes) = IsAnswered es (id_of to number) count bytes ⊎ IsOnStriped es (id_of to number)
ReplyIs es to number _ = Unit {0}

-- a call has begun on the file of a capability with its operation, which is within its limits, and the trace reports that file
abbrev pub AskIs : List Entry → OpId → Capability → Op → Type 0
AskIs es id capability asked =
    (operation_begun capability.file.number es id ≡ Some asked) × FitsOp asked × (location_in capability.file.number es ≡ Some capability.location)

-- a capability that a client holds of the file of this number is of that file, and the trace reports that file
abbrev pub HeldIs : List Entry → ℕ → Capability → Type 0
HeldIs es number capability = (capability.file.number ≡ number) × (location_in number es ≡ Some capability.location)

-- a message that was sent: an ask is of such a call, an Ok was answered so, and what is granted is of a file that the trace reports
abbrev pub ContentIs : List Entry → NodeId → NodeId → Payload → Type 0
ContentIs es from to (payload.Ask number capability asked) = AskIs es (id_of from number) capability asked
ContentIs es from to (payload.Reply number file answer) = ReplyIs es to number answer
ContentIs es from to (payload.MetaReply number told) = AnswerGrants (HeldIs es) told
ContentIs es from to _ = Unit {0}

-- What a client asks of a file's content under a number is of a call of its own that has begun, by a request of the file's kind.
abbrev pub RequestIs : List Entry → NodeId → ℕ → Request → Type 0
RequestIs es node number (request.Replicated capability asked) = AskIs es (id_of node number) capability asked × (capability.location.kind ≡ kind.Replicated)
RequestIs es node number (request.Striped capability asked) = AskIs es (id_of node number) capability asked × (capability.location.kind ≡ kind.Striped)
RequestIs es node number (request.Meta user group asked) = Unit {0}
RequestIs es node number (request.Registry asked) = Unit {0}

-- an outcome: a call ends well only as it was answered, unless it is on a striped file
abbrev pub OutcomeIs : List Entry → OpId → Outcome → Type 0
OutcomeIs es id (outcome.Ok count bytes) = IsAnswered es id count bytes ⊎ IsOnStriped es id
OutcomeIs es id _ = Unit {0}

-- what a client marks: nothing, or that its call ended
pub data Ending (es : List Entry) (node : NodeId) (marks : List Mark) : Type 0 where
  silent : marks ≡ [] → Ending es node marks
  ended : (number : ℕ) (how : Outcome) → marks ≡ mark.Done number how ∷ [] → OutcomeIs es (id_of node number) how → Ending es node marks

-- an event that comes to a client: what a message says was answered or granted
abbrev pub EventIs : List Entry → NodeId → Event → Type 0
EventIs es node (event.Deliver msg) = ContentIs es msg.from node msg.payload
EventIs es node event.Wake = Unit {0}
EventIs es node (event.Call call) = Unit {0}

module _ (es : List Entry) (node : NodeId) where
  -- what is sent
  asked_is : (to : NodeId) (number : ℕ) (asked : Request) → RequestIs es node number asked → ContentIs es node to (payload_of number asked)
  asked_is to number (request.Replicated capability asked) is = is.0
  asked_is to number (request.Striped capability asked) is = is.0
  asked_is to number (request.Meta user group asked) is = tt
  asked_is to number (request.Registry asked) is = tt

  pub sent_is : (outs : List Msg) → Sends (RequestIs es node) node outs → (m : Msg) → Has m outs → ContentIs es m.from m.to m.payload
  sent_is _ sends_none m h = absurd h
  sent_is _ (sends_one to number asked is) m (inl e) = subst (λ (k : Msg). ContentIs es k.from k.to k.payload) (sym e) (asked_is to number asked is)
  sent_is _ (sends_one to number asked is) m (inr h) = absurd h

  -- how a call ends
  striped_is : (number : ℕ) (capability : Capability) (asked : Op) → RequestIs es node number (request.Striped capability asked) → IsOnStriped es (id_of node number)
  striped_is number capability asked is =
      record { file = capability.file.number; has_begun = (asked, is.0.0); location = capability.location; placed = is.0.2; striped = is.1 }

  heard_is : (happens : Event) (number count : ℕ) (bytes : List ℕ) → EventIs es node happens → HearsOk happens number count bytes → IsAnswered es (id_of node number) count bytes ⊎ IsOnStriped es (id_of node number)
  heard_is (event.Deliver msg) number count bytes is heard = subst (ContentIs es msg.from node) heard.2 is
  heard_is event.Wake number count bytes is heard = absurd heard
  heard_is (event.Call call) number count bytes is heard = absurd heard

  outcome_is : (happens : Event) (number : ℕ) (asked : Request) (how : Outcome) → EventIs es node happens → RequestIs es node number asked → EndsSo happens number asked how → OutcomeIs es (id_of node number) how
  outcome_is happens number (request.Replicated capability asked) (outcome.Ok count bytes) came is so = heard_is happens number count bytes came so
  outcome_is happens number (request.Striped capability asked) (outcome.Ok count bytes) came is so = inr (striped_is number capability asked is)
  outcome_is happens number (request.Meta user group asked) (outcome.Ok count bytes) came is so = absurd so
  outcome_is happens number (request.Registry asked) (outcome.Ok count bytes) came is so = absurd so
  outcome_is happens number asked (outcome.Retry answers) came is so = tt
  outcome_is happens number asked (outcome.Refused why) came is so = tt
  outcome_is happens number asked (outcome.Meta answer) came is so = tt
  outcome_is happens number asked (outcome.Registry answer) came is so = tt

  pub ending_is : (happens : Event) (marks : List Mark) → EventIs es node happens → Tells (RequestIs es node) happens marks → Ending es node marks
  ending_is happens _ came tells_none = silent refl
  ending_is happens _ came (tells_end number asked how is so) = ended number how refl (outcome_is happens number asked how came is so)

  -- what is granted is of a file that the trace reports
  content_grants : (from : NodeId) (content : Payload) → ContentIs es from node content → PayloadGrants (HeldIs es) content
  content_grants from (payload.MetaReply number told) is = is
  content_grants from _ is = tt

  pub grant_is : (happens : Event) → EventIs es node happens → GrantIs (HeldIs es) happens
  grant_is (event.Deliver msg) came = content_grants msg.from msg.payload came
  grant_is event.Wake came = tt
  grant_is (event.Call call) came = tt
