-- the calls on replicated files, row by row: what runs is asked under its number, and ends well only as it is answered
use Rattle.std.proofs.Common.{◌≡◌, ℕ, if◌then◌else◌, Bool, true, false, refl, subst, Option, Some, None, [], ◌∷◌}
use Rattle.std.specs.Prelude.{◌==◌, ◌&&◌, nat_le, max, not, filter}
use Rattle.xt_base.specs.TimeSettings.{TimeSettings}
use Rattle.xt_base.specs.declared.ids.NodeId.{NodeId}
use Rattle.xt_base.specs.declared.ids.FileId.{FileId}
use Rattle.xt_messages.specs.declared.reply.Reply.{Reply}
use Rattle.xt_messages.specs.declared.reply.Reply.TheVariants as reply
use Rattle.xt_messages.specs.declared.reply.Retry.{Retry}
use Rattle.xt_messages.specs.declared.reply.Retry.TheVariants as retry
use Rattle.xt_messages.specs.declared.message.Msg.{Msg}
use Rattle.xt_messages.specs.declared.message.Payload.{Payload}
use Rattle.xt_messages.specs.declared.message.Payload.TheVariants as payload
use Rattle.xt_messages.specs.declared.event.Event.{Event}
use Rattle.xt_messages.specs.declared.event.Event.TheVariants as event
use Rattle.xt_messages.specs.declared.event.Outcome.{Outcome}
use Rattle.xt_messages.specs.declared.event.Outcome.TheVariants as outcome
use Rattle.xt_messages.specs.declared.status.AskRefusal.TheVariants as refusal
use Rattle.xt_protocol.specs.Turns.{message}
use Rattle.client_rows.specs.declared.RunningCall.{RunningCall}
use Rattle.client_rows.specs.declared.ClientState.{ClientState}
use Rattle.client_rows.specs.declared.requests.Request.{Request}
use Rattle.client_rows.specs.declared.requests.Request.TheVariants as request
use Rattle.client_rows.specs.Steps.{Step, stays}
use Rattle.client_rows.specs.Clients.{ClientSite, step_of_client}
use Rattle.client_rows.specs.Clients as clients
use Rattle.client_steps.specs.Asked.{HearsOk, EndsSo, RunningIs, Sends, sends_none, sends_one, Tells, tells_none, tells_end}
use Rattle.client_steps.proofs.Cases.{either, same_number}

-- a reply that comes: an Ok of this number is heard
abbrev pub HeardIs : Event → ℕ → Reply → Type 0
HeardIs happens number (reply.Ok count size bytes) = HearsOk happens number count bytes
HeardIs happens number _ = Unit {0}

-- a message that comes: an Ok in it is heard
abbrev Told : Event → Payload → Type 0
Told happens (payload.Reply number file content) = HeardIs happens number content
Told happens _ = Unit {0}

-- what must hold of a step of the calls on replicated files
pub record RowIs (Is : ℕ → Request → Type 0) (node : NodeId) (happens : Event) (next : ℕ) (step : Step ClientState) : Type 0 where
  pub running : RunningIs Is step.state.running
  pub number : step.state.next ≡ next
  pub sends : Sends Is node step.turned.outs
  pub tells : Tells Is happens step.turned.marks
  pub rec : step.turned.rec ≡ None

module _ (Is : ℕ → Request → Type 0) (node : NodeId) (happens : Event) (next : ℕ) where
  abbrev Row : Step ClientState → Type 0
  Row step = RowIs Is node happens next step

  -- what runs is asked under its number, and the client's next number is this one
  record Good (c : ClientState) : Type 0 where
    running : RunningIs Is c.running
    number : c.next ≡ next

  rests : (c : ClientState) → Good c → Row (stays ClientState c)
  rests c good = record { running = good.running; number = good.number; sends = sends_none; tells = tells_none; rec = refl }

  ends : (c : ClientState) (call : RunningCall) (how : Outcome) → c.next ≡ next → RunningIs Is (Some call) → EndsSo happens call.number (request.Replicated call.capability call.op) how
      → Row (clients.ends_call c call how)
  ends c call how same is so =
      record { running = tt; number = same; sends = sends_none; tells = tells_end call.number (request.Replicated call.capability call.op) how is so; rec = refl }

  module _ (site : ClientSite) (here : site.node ≡ node) where
    asking : (c : ClientState) (call : RunningCall) (target : NodeId) → c.next ≡ next → RunningIs Is (Some call) → Row (clients.asks site c call target)
    asking c call target same is =
        record {
          running = is;
          number = same;
          sends =
              subst (λ (n : NodeId). Sends Is n (message site.node target (payload.Ask call.number call.capability call.op) ∷ [])) here
              (sends_one target call.number (request.Replicated call.capability call.op) is);
          tells = tells_none;
          rec = refl;
        }

    away : (c : ClientState) (call : RunningCall) (how : Retry) → Good c → RunningIs Is (Some call) → Row (clients.turned_away site c call how)
    away c call how good is =
        at (clients.next_of (clients.named how) (filter (λ m. not (clients.was_tried (clients.with_outcome call.tried call.target how) m)) call.capability.location.members))
      where
        at : (o : Option NodeId) → Row (elim o [
          | Some target ↦ clients.asks site c (record call { tried = clients.with_outcome call.tried call.target how }) target
          | None ↦ clients.ends_call c call (outcome.Retry (clients.answers_in (clients.with_outcome call.tried call.target how) call.capability.location.members))
        ])
        at (Some target) = asking c (record call { tried = clients.with_outcome call.tried call.target how }) target good.number is
        at None = ends c call (outcome.Retry (clients.answers_in (clients.with_outcome call.tried call.target how) call.capability.location.members)) good.number is tt

    away_by : (c : ClientState) (call : RunningCall) (from : NodeId) (how : Retry) → Good c → RunningIs Is (Some call) → Row (clients.turned_away_by site c call from how)
    away_by c call from how good is = either Row (from.0 == call.target.0) _ _ (away c call how good is) (rests c good)

    answered : (c : ClientState) (call : RunningCall) (from : NodeId) (content : Reply) → Good c → RunningIs Is (Some call) → HeardIs happens call.number content
        → Row (clients.answered site c call from content)
    answered c call from (reply.Ok count size bytes) good is heard =
        ends (clients.knows c call.capability.file (clients.aimed from)) call (outcome.Ok count bytes) good.number is heard
    answered c call from (reply.NoLease end) good is heard = away_by c call from (retry.NoLease end) good is
    answered c call from (reply.NoMajority have need) good is heard = away_by c call from (retry.NoMajority have need) good is
    answered c call from (reply.Elsewhere other end) good is heard = away_by c call from (retry.Elsewhere other end) good is
    answered c call from (reply.Denied why) good is heard = ends c call (outcome.Refused (refusal.Denied why)) good.number is tt
    answered c call from (reply.OldList version) good is heard = ends c call (outcome.Refused (refusal.OldList version)) good.number is tt
    answered c call from (reply.OldEpoch epoch) good is heard =
        ends (clients.knows c call.capability.file (clients.raised epoch)) call (outcome.Refused (refusal.OldEpoch epoch)) good.number is tt
    answered c call from (reply.TooFar object) good is heard = ends c call (outcome.Refused (refusal.TooFar object)) good.number is tt
    answered c call from reply.ClientsFull good is heard = ends c call (outcome.Refused refusal.ClientsFull) good.number is tt

    replies : (c : ClientState) (running : Option RunningCall) (from : NodeId) (number : ℕ) (content : Reply) → Good c → RunningIs Is running → HeardIs happens number content
        → Row (clients.reply_comes site c running from number content)
    replies c None from number content good is heard = rests c good
    replies c (Some call) from number content good is heard = at (number == call.number && clients.was_tried call.tried from) refl
      where
        at : (b : Bool) → (number == call.number && clients.was_tried call.tried from) ≡ b → Row (if b then clients.answered site c call from content else stays ClientState c)
        at true test =
            answered c call from content good is
            (subst (λ (n : ℕ). HeardIs happens n content) (same_number number call.number (clients.was_tried call.tried from) test) heard)
        at false test = rests c good

    hears : (c : ClientState) (from : NodeId) (content : Payload) → Good c → Told happens content → Row (clients.message_comes site c from content)
    hears c from (payload.Reply number file content) good told = replies c c.running from number content good good.running told
    hears c from _ good told = rests c good

    wakes : (c : ClientState) (o : Option RunningCall) → Good c → RunningIs Is o → Row (clients.wakes site c o)
    wakes c None good is = rests c good
    wakes c (Some call) good is = either Row (nat_le call.deadline site.now) _ _ (away c call retry.Silent good is) (rests c good)

-- what a message brings is heard
heard_in : (msg : Msg) (number : ℕ) (file : FileId) (content : Reply) → msg.payload ≡ payload.Reply number file content → HeardIs (event.Deliver msg) number content
heard_in msg number file (reply.Ok count size bytes) is = (file, size, is)
heard_in msg number file _ is = tt

told_in : (msg : Msg) (content : Payload) → msg.payload ≡ content → Told (event.Deliver msg) content
told_in msg (payload.Reply number file content) is = heard_in msg number file content is
told_in msg _ is = tt

pub step_is : (Is : ℕ → Request → Type 0) (node : NodeId) (times : TimeSettings) (c : ClientState) (reading : ℕ) (happens : Event) → RunningIs Is c.running
    → RowIs Is node happens c.next (step_of_client node times c reading happens)
unfolding step_of_client
step_is Is node times c reading happens is = at happens
  where
    site : ClientSite
    site = record { node = node; times = times; now = max reading c.last }

    later : ClientState
    later = record c { last = max reading c.last }

    at : (e : Event) → RowIs Is node e c.next (clients.event_comes (record { node = node; times = times; now = max reading c.last }) (record c { last = max reading c.last }) e)
    at (event.Deliver msg) = hears Is node (event.Deliver msg) c.next site refl later msg.from msg.payload (record { running = is; number = refl }) (told_in msg msg.payload refl)
    at event.Wake = wakes Is node event.Wake c.next site refl later c.running (record { running = is; number = refl }) is
    at (event.Call call) = rests Is node (event.Call call) c.next later (record { running = is; number = refl })
