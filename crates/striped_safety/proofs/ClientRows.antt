-- what a client does while a call on a striped file waits for a node: it hears the Ok of that node, or it rests
use Rattle.std.proofs.Common.{◌≡◌, ◌∙◌, ◌⊎◌, inl, inr, ℕ, Bool, true, false, cond, List, refl, sym, ap, subst}
use Rattle.std.specs.Prelude.{◌==◌, ◌&&◌, nat_le}
use Rattle.std.proofs.lemmas.Bool.{eqb-true}
use Rattle.xt_base.specs.declared.ids.NodeId.{NodeId}
use Rattle.xt_base.specs.declared.ids.FileId.{FileId}
use Rattle.xt_base.specs.declared.ids.SizeMark.{SizeMark}
use Rattle.xt_messages.specs.declared.file.Capability.{Capability}
use Rattle.xt_messages.specs.declared.file.Op.{Op}
use Rattle.xt_messages.specs.declared.reply.Reply.{Reply}
use Rattle.xt_messages.specs.declared.reply.Reply.TheVariants as reply
use Rattle.xt_messages.specs.declared.reply.Retry.{Retry}
use Rattle.xt_messages.specs.declared.reply.Retry.TheVariants as retry
use Rattle.xt_messages.specs.declared.status.AskRefusal.{AskRefusal}
use Rattle.xt_messages.specs.declared.status.AskRefusal.TheVariants as refusal
use Rattle.xt_messages.specs.declared.meta.MetaAnswer.{MetaAnswer}
use Rattle.xt_messages.specs.declared.registry.RegistryAnswer.{RegistryAnswer}
use Rattle.xt_messages.specs.declared.message.Payload.{Payload}
use Rattle.xt_messages.specs.declared.message.Payload.TheVariants as payload
use Rattle.xt_messages.specs.declared.message.Msg.{Msg}
use Rattle.xt_messages.specs.declared.event.Event.{Event}
use Rattle.xt_messages.specs.declared.event.Event.TheVariants as event
use Rattle.client_rows.specs.declared.progress.Progress.{Progress}
use Rattle.client_rows.specs.declared.progress.Learnt.{Learnt}
use Rattle.client_rows.specs.declared.progress.Learnt.TheVariants as learnt
use Rattle.client_rows.specs.declared.progress.Next.{Next}
use Rattle.client_rows.specs.declared.progress.Next.TheVariants as next
use Rattle.client_rows.specs.declared.requests.CallResult.TheVariants as result
use Rattle.client_rows.specs.declared.requests.Request.{Request}
use Rattle.client_rows.specs.declared.requests.Request.TheVariants as request
use Rattle.client_rows.specs.declared.requests.MadeCall.{MadeCall}
use Rattle.client_rows.specs.Holding.{Held}
use Rattle.client_rows.specs.Requests.{was_asked}
use Rattle.client_rows.specs.Waiting.{waits_on, gives_up, striped_away, striped_refused, served, reply_comes, reply_to, reply_heard, meta_comes, meta_heard, registry_comes, registry_heard, message_comes, event_comes}
use Rattle.striped_safety.proofs.Follows.{EndsNotOk}

-- it hears the Ok of the node that it asked
pub record Hears (held : Held) (made : MadeCall) (capability : Capability) (asked : Op) (target : NodeId) (happens : Event) (comes : Progress) : Type 0 where
  pub msg : Msg
  pub file : FileId
  pub count : ℕ
  pub size : SizeMark
  pub bytes : List ℕ
  pub is : happens ≡ event.Deliver msg
  pub content : msg.payload ≡ payload.Reply made.number file (reply.Ok count size bytes)
  pub from : msg.from.0 ≡ target.0
  pub gives : comes ≡ served held capability asked target count size bytes

-- the call waits on, or ends otherwise
abbrev pub NoMore : Next → Type 0
NoMore next.Wait = Unit {0}
NoMore (next.Ask target) = ⊥
NoMore (next.End how) = EndsNotOk how

abbrev pub NoMark : Learnt → Type 0
NoMark (learnt.Mark file size) = ⊥
NoMark (learnt.Capability capability size) = ⊥
NoMark _ = Unit {0}

-- or nothing of the file is joined
pub record GoesNoFurther (comes : Progress) : Type 0 where
  pub goes : NoMore comes.next
  pub learns : NoMark comes.learnt

rests_on : GoesNoFurther waits_on
rests_on = record { goes = tt; learns = tt }

module _ (held : Held) (made : MadeCall) (capability : Capability) (asked : Op) (target : NodeId) (deadline now : ℕ) where
  abbrev Comes : Event → Progress → Type 0
  Comes happens comes = Hears held made capability asked target happens comes ⊎ GoesNoFurther comes

  away : (happens : Event) (from : NodeId) (how : Retry) → Comes happens (striped_away target from how)
  away happens from how = go (from.0 == target.0) where
    go : (b : Bool) → Comes happens (cond b (gives_up target how) waits_on)
    go true = inr (record { goes = tt; learns = tt })
    go false = inr rests_on

  refused : (happens : Event) (learns : Learnt) (from : NodeId) (why : AskRefusal) → NoMark learns → Comes happens (striped_refused learns capability asked target from why)
  refused happens learns from why none = go (was_asked capability.location.members asked target from) where
    go : (b : Bool) → Comes happens (cond b (record { learnt = learns; next = next.End (result.Refused why) }) waits_on)
    go true = inr (record { goes = tt; learns = none })
    go false = inr rests_on

  -- a reply to this call
  replied : (msg : Msg) (file : FileId) (content : Reply) → msg.payload ≡ payload.Reply made.number file content → Comes (event.Deliver msg) (reply_comes held capability asked target msg.from content)
  replied msg file (reply.Ok count size bytes) is = go (msg.from.0 == target.0) refl where
    go : (b : Bool) → (msg.from.0 == target.0) ≡ b → Comes (event.Deliver msg) (cond b (served held capability asked target count size bytes) waits_on)
    go true at = inl (record { msg = msg; file = file; count = count; size = size; bytes = bytes; is = refl; content = is; from = eqb-true msg.from.0 target.0 at; gives = refl })
    go false at = inr rests_on
  replied msg file (reply.NoLease end) is = away (event.Deliver msg) msg.from (retry.NoLease end)
  replied msg file (reply.NoMajority have need) is = away (event.Deliver msg) msg.from (retry.NoMajority have need)
  replied msg file (reply.Elsewhere node end) is = away (event.Deliver msg) msg.from (retry.Elsewhere node end)
  replied msg file (reply.Denied why) is = refused (event.Deliver msg) learnt.Nothing msg.from (refusal.Denied why) tt
  replied msg file (reply.OldList version) is = refused (event.Deliver msg) learnt.Nothing msg.from (refusal.OldList version) tt
  replied msg file (reply.OldEpoch epoch) is = refused (event.Deliver msg) (learnt.Epoch capability.file epoch) msg.from (refusal.OldEpoch epoch) tt
  replied msg file (reply.TooFar object) is = refused (event.Deliver msg) learnt.Nothing msg.from (refusal.TooFar object) tt
  replied msg file reply.ClientsFull is = refused (event.Deliver msg) learnt.Nothing msg.from refusal.ClientsFull tt

  module _ (striped : made.request ≡ request.Striped capability asked) where
    reply_row : (msg : Msg) (number : ℕ) (file : FileId) (content : Reply) → msg.payload ≡ payload.Reply number file content → Comes (event.Deliver msg) (reply_heard held made target msg.from number content)
    reply_row msg number file content is = go (number == made.number) refl where
      go : (b : Bool) → (number == made.number) ≡ b → Comes (event.Deliver msg) (cond b (reply_to held made.request target msg.from content) waits_on)
      go true at =
          subst (λ (r : Request). Comes (event.Deliver msg) (reply_to held r target msg.from content)) (sym striped)
          (replied msg file content (is ∙ ap (λ (n : ℕ). payload.Reply n file content) (eqb-true number made.number at)))
      go false at = inr rests_on

    meta_row : (happens : Event) (from : NodeId) (number : ℕ) (told : MetaAnswer) → Comes happens (meta_heard made target from number told)
    meta_row happens from number told = go (number == made.number && from.0 == target.0) where
      go : (b : Bool) → Comes happens (cond b (meta_comes made.request told) waits_on)
      go true = subst (λ (r : Request). Comes happens (meta_comes r told)) (sym striped) (inr rests_on)
      go false = inr rests_on

    registry_row : (happens : Event) (from : NodeId) (number : ℕ) (told : RegistryAnswer) → Comes happens (registry_heard made target from number told)
    registry_row happens from number told = go (number == made.number && from.0 == target.0) where
      go : (b : Bool) → Comes happens (cond b (registry_comes made.request told) waits_on)
      go true = subst (λ (r : Request). Comes happens (registry_comes r told)) (sym striped) (inr rests_on)
      go false = inr rests_on

    message_row : (msg : Msg) (content : Payload) → msg.payload ≡ content → Comes (event.Deliver msg) (message_comes held made target msg.from content)
    message_row msg (payload.Reply number file content) is = reply_row msg number file content is
    message_row msg (payload.MetaReply number told) is = meta_row (event.Deliver msg) msg.from number told
    message_row msg (payload.RegistryReply number told) is = registry_row (event.Deliver msg) msg.from number told
    message_row msg _ is = inr rests_on

    pub event_row : (happens : Event) → Comes happens (event_comes now held made target deadline happens)
    event_row (event.Deliver msg) = message_row msg msg.payload refl
    event_row event.Wake = go (nat_le deadline now) where
      go : (b : Bool) → Comes event.Wake (cond b (gives_up target retry.Silent) waits_on)
      go true = inr (record { goes = tt; learns = tt })
      go false = inr rests_on
    event_row (event.Call c) = inr rests_on
