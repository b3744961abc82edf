-- an ask that comes to a client does nothing
use Rattle.std.proofs.Common.{◌≡◌, ℕ, refl, ap, sym, ◌∙◌, Option, Some, None}
use Rattle.std.specs.Prelude.{max}
use Rattle.xt_base.specs.TimeSettings.{TimeSettings}
use Rattle.xt_base.specs.declared.ids.NodeId.{NodeId}
use Rattle.xt_base.specs.declared.ids.SizeMark.{SizeMark}
use Rattle.xt_messages.specs.declared.file.Capability.{Capability}
use Rattle.xt_messages.specs.declared.file.Op.{Op}
use Rattle.xt_messages.specs.declared.message.Msg.{Msg}
use Rattle.xt_messages.specs.declared.message.Payload.{Payload}
use Rattle.xt_messages.specs.declared.message.Payload.TheVariants as payload
use Rattle.xt_messages.specs.declared.event.Event.TheVariants as event
use Rattle.client_rows.specs.declared.ClientState.{ClientState}
use Rattle.client_rows.specs.declared.requests.MadeCall.{MadeCall}
use Rattle.client_rows.specs.declared.requests.Stage.{Stage}
use Rattle.client_rows.specs.declared.requests.Stage.TheVariants as stage
use Rattle.client_rows.specs.Steps.{Step, stays}
use Rattle.client_rows.specs.Clients as clients
use Rattle.client_rows.specs.Clients.{step_of_client}
use Rattle.client_rows.specs.Ends.{ended_by}
use Rattle.client_rows.specs.Waiting as waiting
use Rattle.client_rows.specs.Rows as rows
use Rattle.client_rows.specs.Rows.{WholeClient, stepped, passes, at_clock, clock_of}

-- among the calls on replicated files
row_rests : (node : NodeId) (times : TimeSettings) (c : ClientState) (reading : ℕ) (msg : Msg) (number : ℕ) (capability : Capability) (asked : Op)
    → msg.payload ≡ payload.Ask number capability asked
    → step_of_client node times c reading (event.Deliver msg) ≡ stays ClientState (record c { last = max reading c.last })
unfolding step_of_client
row_rests node times c reading msg number capability asked is =
    ap (λ (content : Payload). clients.message_comes (record { node = node; times = times; now = max reading c.last }) (record c { last = max reading c.last }) msg.from content) is

behind_rests : (c : WholeClient) (made : Option MadeCall) (size : SizeMark) → rows.behind c made size None ≡ c
behind_rests c (Some made) size = refl
behind_rests c None size = refl

module _ (node : NodeId) (times : TimeSettings) (c : WholeClient) (reading : ℕ) (msg : Msg) where
  -- the step of the call on a replicated file, by that row
  abbrev by_row : Step ClientState → Step WholeClient
  by_row step =
      record {
        state = rows.behind (record c { replicas = step.state }) c.made (rows.mark_told (event.Deliver msg)) (ended_by None step.turned.marks);
        turned = step.turned;
      }

  replicas_rest : (number : ℕ) (capability : Capability) (asked : Op) → msg.payload ≡ payload.Ask number capability asked
      → rows.replicas_step node times c reading (event.Deliver msg) ≡ passes c reading
  replicas_rest number capability asked is =
      ap by_row (row_rests node times c.replicas reading msg number capability asked is)
      ∙ ap (λ (d : WholeClient). stays WholeClient d) (behind_rests (at_clock c (clock_of c reading)) c.made (rows.mark_told (event.Deliver msg)))

  waits_rest : (number : ℕ) (capability : Capability) (asked : Op) (made : MadeCall) (target : NodeId) (deadline : ℕ) → c.made ≡ Some made
      → msg.payload ≡ payload.Ask number capability asked
      → rows.waits (rows.site_of node times c reading) (at_clock c (clock_of c reading)) made target deadline (event.Deliver msg) ≡ passes c reading
  waits_rest number capability asked made target deadline made_is is =
      let now = clock_of c reading in
      ap (λ (content : Payload). rows.proceeds (rows.site_of node times c reading) (at_clock c now) made (waiting.message_comes c.held made target msg.from content)) is
      ∙ sym (ap (λ (o : Option MadeCall). stays WholeClient (record { replicas = record c.replicas { last = now }; held = c.held; made = o })) made_is)

  goes_on_rests : (number : ℕ) (capability : Capability) (asked : Op) (made : MadeCall) (s : Stage) → c.made ≡ Some made
      → msg.payload ≡ payload.Ask number capability asked → rows.goes_on node times c reading (event.Deliver msg) made s ≡ passes c reading
  goes_on_rests number capability asked made stage.OnReplicas made_is is = replicas_rest number capability asked is
  goes_on_rests number capability asked made (stage.Waiting target deadline) made_is is = waits_rest number capability asked made target deadline made_is is
  goes_on_rests number capability asked made (stage.Ended how) made_is is = refl

  goes_with_rests : (number : ℕ) (capability : Capability) (asked : Op) (o : Option MadeCall) → c.made ≡ o → msg.payload ≡ payload.Ask number capability asked
      → rows.goes_on_with node times c reading (event.Deliver msg) o ≡ passes c reading
  goes_with_rests number capability asked None made_is is = refl
  goes_with_rests number capability asked (Some made) made_is is = goes_on_rests number capability asked made made.stage made_is is

-- an ask does nothing
pub ask_rests : (node : NodeId) (times : TimeSettings) (c : WholeClient) (reading : ℕ) (msg : Msg) (number : ℕ) (capability : Capability) (asked : Op)
    → msg.payload ≡ payload.Ask number capability asked → stepped node times c reading (event.Deliver msg) ≡ passes c reading
unfolding stepped
ask_rests node times c reading msg number capability asked is = goes_with_rests node times c reading msg number capability asked c.made refl is
