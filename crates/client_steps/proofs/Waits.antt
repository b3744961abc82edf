-- while a call waits for a node: a call on a replicated file doesn't end well, and only a request to the metadata server is granted something
use Rattle.std.proofs.Common.{◌≡◌, ℕ, refl, subst}
use Rattle.std.specs.Prelude.{◌==◌, ◌&&◌, nat_le}
use Rattle.xt_base.specs.declared.ids.NodeId.{NodeId}
use Rattle.xt_messages.specs.declared.file.Capability.{Capability}
use Rattle.xt_messages.specs.declared.file.Op.{Op}
use Rattle.xt_messages.specs.declared.reply.Reply.{Reply}
use Rattle.xt_messages.specs.declared.reply.Reply.TheVariants as reply
use Rattle.xt_messages.specs.declared.reply.Retry.{Retry}
use Rattle.xt_messages.specs.declared.reply.Retry.TheVariants as retry
use Rattle.xt_messages.specs.declared.status.AskRefusal.{AskRefusal}
use Rattle.xt_messages.specs.declared.status.AskRefusal.TheVariants as refusal
use Rattle.xt_messages.specs.declared.meta.MetaReq.{MetaReq}
use Rattle.xt_messages.specs.declared.meta.MetaAnswer.{MetaAnswer}
use Rattle.xt_messages.specs.declared.meta.MetaAnswer.TheVariants as answer
use Rattle.xt_messages.specs.declared.registry.RegistryAnswer.{RegistryAnswer}
use Rattle.xt_messages.specs.declared.message.Payload.{Payload}
use Rattle.xt_messages.specs.declared.message.Payload.TheVariants as payload
use Rattle.xt_messages.specs.declared.event.Event.{Event}
use Rattle.xt_messages.specs.declared.event.Event.TheVariants as event
use Rattle.client_rows.specs.declared.progress.Learnt.{Learnt}
use Rattle.client_rows.specs.declared.progress.Learnt.TheVariants as learnt
use Rattle.client_rows.specs.declared.progress.Next.{Next}
use Rattle.client_rows.specs.declared.progress.Next.TheVariants as next
use Rattle.client_rows.specs.declared.progress.Progress.{Progress}
use Rattle.client_rows.specs.declared.requests.Request.{Request}
use Rattle.client_rows.specs.declared.requests.Request.TheVariants as request
use Rattle.client_rows.specs.declared.requests.CallResult.TheVariants as result
use Rattle.client_rows.specs.declared.requests.MadeCall.{MadeCall}
use Rattle.client_rows.specs.Holding.{Held}
use Rattle.client_rows.specs.Requests.{outcome_of, was_asked}
use Rattle.client_rows.specs.Waiting as waiting
use Rattle.client_steps.specs.Asked.{IsOnFile, EndsSo, AnswerGrants, PayloadGrants, GrantIs}
use Rattle.client_steps.proofs.Cases.{either}

-- ---- how a call goes on

-- where it ends, it ends so
abbrev pub GoesSo : Event → ℕ → Request → Next → Type 0
GoesSo happens number asked (next.End how) = EndsSo happens number asked (outcome_of how)
GoesSo happens number asked _ = Unit {0}

module _ (happens : Event) (number : ℕ) where
  -- a request that isn't on a replicated file may end in any way
  striped_goes : (capability : Capability) (asked : Op) (n : Next) → GoesSo happens number (request.Striped capability asked) n
  striped_goes capability asked (next.End how) = tt
  striped_goes capability asked _ = tt

  reply_goes : (held : Held) (asked : Request) (target from : NodeId) (content : Reply) → GoesSo happens number asked (waiting.reply_to held asked target from content).next
  reply_goes held (request.Replicated capability asked) target from content = tt
  reply_goes held (request.Striped capability asked) target from content = striped_goes capability asked _
  reply_goes held (request.Meta user group asked) target from content = tt
  reply_goes held (request.Registry asked) target from content = tt

  told_goes : (asked : Request) (told : MetaAnswer) → GoesSo happens number asked (waiting.meta_comes asked told).next
  told_goes (request.Replicated capability asked) told = tt
  told_goes (request.Striped capability asked) told = tt
  told_goes (request.Meta user group asked) told = tt
  told_goes (request.Registry asked) told = tt

  listed_goes : (asked : Request) (told : RegistryAnswer) → GoesSo happens number asked (waiting.registry_comes asked told).next
  listed_goes (request.Replicated capability asked) told = tt
  listed_goes (request.Striped capability asked) told = tt
  listed_goes (request.Meta user group asked) told = tt
  listed_goes (request.Registry asked) told = tt

  silent_goes : (asked : Request) (target : NodeId) (how : Retry) → GoesSo happens number asked (waiting.gives_up target how).next
  silent_goes (request.Replicated capability asked) target how = tt
  silent_goes (request.Striped capability asked) target how = tt
  silent_goes (request.Meta user group asked) target how = tt
  silent_goes (request.Registry asked) target how = tt

  message_goes : (held : Held) (made : MadeCall) (target from : NodeId) (content : Payload)
      → GoesSo happens number made.request (waiting.message_comes held made target from content).next
  message_goes held made target from (payload.Reply n file content) =
      either (λ (p : Progress). GoesSo happens number made.request p.next) (n == made.number) (waiting.reply_to held made.request target from content) waiting.waits_on
      (reply_goes held made.request target from content) tt
  message_goes held made target from (payload.MetaReply n told) =
      either (λ (p : Progress). GoesSo happens number made.request p.next) (n == made.number && from.0 == target.0) (waiting.meta_comes made.request told) waiting.waits_on
      (told_goes made.request told) tt
  message_goes held made target from (payload.RegistryReply n told) =
      either (λ (p : Progress). GoesSo happens number made.request p.next) (n == made.number && from.0 == target.0) (waiting.registry_comes made.request told) waiting.waits_on
      (listed_goes made.request told) tt
  message_goes held made target from _ = tt

  pub event_goes : (now : ℕ) (held : Held) (made : MadeCall) (target : NodeId) (deadline : ℕ) (comes : Event)
      → GoesSo happens number made.request (waiting.event_comes now held made target deadline comes).next
  event_goes now held made target deadline (event.Deliver msg) = message_goes held made target msg.from msg.payload
  event_goes now held made target deadline event.Wake =
      either (λ (p : Progress). GoesSo happens number made.request p.next) (nat_le deadline now) (waiting.gives_up target retry.Silent) waiting.waits_on
      (silent_goes made.request target retry.Silent) tt
  event_goes now held made target deadline (event.Call k) = tt

-- ---- what is learnt

module _ (IsHeld : ℕ → Capability → Type 0) where
  -- a capability that is learnt is such a one
  abbrev pub LearntIs : Learnt → Type 0
  LearntIs (learnt.Capability capability size) = IsHeld capability.file.number capability
  LearntIs _ = Unit {0}

  -- only a request to the metadata server is granted something
  abbrev pub MayGrant : Event → Request → Type 0
  MayGrant happens (request.Meta user group asked) = GrantIs IsHeld happens
  MayGrant happens _ = Unit {0}

  abbrev Learns : Progress → Type 0
  Learns p = LearntIs p.learnt

  away_learns : (target from : NodeId) (how : Retry) → Learns (waiting.striped_away target from how)
  away_learns target from how = either Learns (from.0 == target.0) (waiting.gives_up target how) waiting.waits_on tt tt

  refused_learns : (l : Learnt) (capability : Capability) (asked : Op) (target from : NodeId) (why : AskRefusal) → LearntIs l
      → Learns (waiting.striped_refused l capability asked target from why)
  refused_learns l capability asked target from why is =
      either Learns (was_asked capability.location.members asked target from) (record { learnt = l; next = next.End (result.Refused why) }) waiting.waits_on is tt

  reply_learns : (held : Held) (capability : Capability) (asked : Op) (target from : NodeId) (content : Reply) → Learns (waiting.reply_comes held capability asked target from content)
  reply_learns held capability asked target from (reply.Ok count size bytes) =
      either Learns (from.0 == target.0) (waiting.served held capability asked target count size bytes) waiting.waits_on tt tt
  reply_learns held capability asked target from (reply.NoLease end) = away_learns target from (retry.NoLease end)
  reply_learns held capability asked target from (reply.NoMajority have need) = away_learns target from (retry.NoMajority have need)
  reply_learns held capability asked target from (reply.Elsewhere node end) = away_learns target from (retry.Elsewhere node end)
  reply_learns held capability asked target from (reply.Denied why) = refused_learns learnt.Nothing capability asked target from (refusal.Denied why) tt
  reply_learns held capability asked target from (reply.OldList version) = refused_learns learnt.Nothing capability asked target from (refusal.OldList version) tt
  reply_learns held capability asked target from (reply.OldEpoch epoch) =
      refused_learns (learnt.Epoch capability.file epoch) capability asked target from (refusal.OldEpoch epoch) tt
  reply_learns held capability asked target from (reply.TooFar object) = refused_learns learnt.Nothing capability asked target from (refusal.TooFar object) tt
  reply_learns held capability asked target from reply.ClientsFull = refused_learns learnt.Nothing capability asked target from refusal.ClientsFull tt

  reply_to_learns : (held : Held) (asked : Request) (target from : NodeId) (content : Reply) → Learns (waiting.reply_to held asked target from content)
  reply_to_learns held (request.Striped capability asked) target from content = reply_learns held capability asked target from content
  reply_to_learns held (request.Replicated capability asked) target from content = tt
  reply_to_learns held (request.Meta user group asked) target from content = tt
  reply_to_learns held (request.Registry asked) target from content = tt

  granted_learns : (told : MetaAnswer) → AnswerGrants IsHeld told → LearntIs (waiting.granted told)
  granted_learns (answer.Granted capability size) is = is
  granted_learns _ is = tt

  -- what a metadata server answers to another request isn't heard
  told_learns : (asked : Request) (told : MetaAnswer) → ((user group : ℕ) (wanted : MetaReq) → asked ≡ request.Meta user group wanted → AnswerGrants IsHeld told)
      → Learns (waiting.meta_comes asked told)
  told_learns (request.Replicated capability asked) told grants = tt
  told_learns (request.Striped capability asked) told grants = tt
  told_learns (request.Meta user group asked) told grants = granted_learns told (grants user group asked refl)
  told_learns (request.Registry asked) told grants = tt

  listed_learns : (asked : Request) (told : RegistryAnswer) → Learns (waiting.registry_comes asked told)
  listed_learns (request.Replicated capability asked) told = tt
  listed_learns (request.Striped capability asked) told = tt
  listed_learns (request.Meta user group asked) told = tt
  listed_learns (request.Registry asked) told = tt

  message_learns : (held : Held) (made : MadeCall) (target from : NodeId) (content : Payload)
      → ((user group : ℕ) (wanted : MetaReq) → made.request ≡ request.Meta user group wanted → PayloadGrants IsHeld content)
      → Learns (waiting.message_comes held made target from content)
  message_learns held made target from (payload.Reply n file content) grants =
      either Learns (n == made.number) (waiting.reply_to held made.request target from content) waiting.waits_on (reply_to_learns held made.request target from content) tt
  message_learns held made target from (payload.MetaReply n told) grants =
      either Learns (n == made.number && from.0 == target.0) (waiting.meta_comes made.request told) waiting.waits_on (told_learns made.request told grants) tt
  message_learns held made target from (payload.RegistryReply n told) grants =
      either Learns (n == made.number && from.0 == target.0) (waiting.registry_comes made.request told) waiting.waits_on (listed_learns made.request told) tt
  message_learns held made target from _ grants = tt

  pub event_learns : (now : ℕ) (held : Held) (made : MadeCall) (target : NodeId) (deadline : ℕ) (comes : Event) → MayGrant comes made.request
      → LearntIs (waiting.event_comes now held made target deadline comes).learnt
  event_learns now held made target deadline (event.Deliver msg) may =
      message_learns held made target msg.from msg.payload (λ user group wanted is. subst (MayGrant (event.Deliver msg)) is may)
  event_learns now held made target deadline event.Wake may = either Learns (nat_le deadline now) (waiting.gives_up target retry.Silent) waiting.waits_on tt tt
  event_learns now held made target deadline (event.Call k) may = tt

  -- a request on the content of a file is granted nothing, and else only what the event grants
  pub files_grant_nothing : (happens : Event) (asked : Request) → IsOnFile asked → MayGrant happens asked
  files_grant_nothing happens (request.Replicated capability asked) is = tt
  files_grant_nothing happens (request.Striped capability asked) is = tt
  files_grant_nothing happens (request.Meta user group asked) is = absurd is
  files_grant_nothing happens (request.Registry asked) is = absurd is

  pub event_grants : (happens : Event) (asked : Request) → GrantIs IsHeld happens → MayGrant happens asked
  event_grants happens (request.Replicated capability asked) is = tt
  event_grants happens (request.Striped capability asked) is = tt
  event_grants happens (request.Meta user group asked) is = is
  event_grants happens (request.Registry asked) is = tt
