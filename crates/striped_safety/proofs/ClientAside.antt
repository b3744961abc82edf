-- a client's step whose call isn't on a file: what is held of the file stays
use Rattle.std.proofs.Common.{◌≡◌, ◌≢◌, inl, inr, ℕ, Bool, true, false, cond, refl, sym, subst, Option, Some, None}
use Rattle.std.specs.Prelude.{◌⊎◌, ◌==◌, ◌&&◌, ◌+◌, nat_le}
use Rattle.xt_base.specs.TimeSettings.{TimeSettings}
use Rattle.xt_base.specs.declared.ids.NodeId.{NodeId}
use Rattle.xt_base.specs.declared.ids.FileId.{FileId}
use Rattle.xt_base.specs.declared.ids.SizeMark.{SizeMark}
use Rattle.xt_messages.specs.declared.file.Capability.{Capability}
use Rattle.xt_messages.specs.declared.file.Op.{Op}
use Rattle.xt_messages.specs.declared.reply.Reply.{Reply}
use Rattle.xt_messages.specs.declared.reply.Retry.TheVariants as retry
use Rattle.xt_messages.specs.declared.registry.RegistryAnswer.{RegistryAnswer}
use Rattle.xt_messages.specs.declared.meta.MetaAnswer.{MetaAnswer}
use Rattle.xt_messages.specs.declared.meta.MetaAnswer.TheVariants as answer
use Rattle.xt_messages.specs.declared.message.Payload.{Payload}
use Rattle.xt_messages.specs.declared.message.Payload.TheVariants as payload
use Rattle.xt_messages.specs.declared.event.Event.{Event}
use Rattle.xt_messages.specs.declared.event.Event.TheVariants as event
use Rattle.xt_messages.specs.declared.event.Outcome.{Outcome}
use Rattle.xt_messages.specs.declared.event.Outcome.TheVariants as outcome
use Rattle.client_rows.specs.declared.progress.Progress.{Progress}
use Rattle.client_rows.specs.declared.progress.Learnt.{Learnt}
use Rattle.client_rows.specs.declared.progress.Learnt.TheVariants as learnt
use Rattle.client_rows.specs.declared.progress.Next.{Next}
use Rattle.client_rows.specs.declared.progress.Next.TheVariants as next
use Rattle.client_rows.specs.declared.requests.CallResult.{CallResult}
use Rattle.client_rows.specs.declared.requests.MadeCall.{MadeCall}
use Rattle.client_rows.specs.declared.requests.Request.{Request}
use Rattle.client_rows.specs.declared.requests.Request.TheVariants as request
use Rattle.client_rows.specs.declared.requests.Stage.{Stage}
use Rattle.client_rows.specs.declared.requests.Stage.TheVariants as stage
use Rattle.client_rows.specs.Clients.{step_of_client}
use Rattle.client_rows.specs.Ends.{ended_by}
use Rattle.client_rows.specs.declared.holding.HeldFile.{HeldFile}
use Rattle.client_rows.specs.Holding.{Held, held_of, holds, mark_with}
use Rattle.client_rows.specs.Requests.{file_of}
use Rattle.client_rows.specs.Waiting as waiting
use Rattle.client_rows.specs.Rows as rows
use Rattle.client_rows.specs.Rows.{WholeClient, stepped}
use Rattle.client_steps.proofs.Held.{put_found, ready_others}
use Rattle.striped_safety.proofs.ClientRows.{NoMark, event_row}
use Rattle.striped_safety.proofs.Follows.{IsAway, IsBeside, StageFits}
use Rattle.striped_safety.proofs.Held.{joins_others}
use Rattle.striped_safety.proofs.RowMarks.{AnswerMarked, PayloadMarked, EventMarked}
use Rattle.world_runs.proofs.Tables.{same}

-- what is learnt is no mark of this file, and what is granted has a mark as it should be
abbrev pub LearntIs : ℕ → (FileId → SizeMark → Type 0) → Learnt → Type 0
LearntIs file Is (learnt.Mark f size) = file ≢ f
LearntIs file Is (learnt.Capability capability size) = Is capability.file size
LearntIs file Is _ = Unit {0}

-- a request that isn't on a striped file
abbrev IsNoStriped : Request → Type 0
IsNoStriped (request.Striped capability asked) = ⊥
IsNoStriped _ = Unit {0}

module _ (file : ℕ) (Is : FileId → SizeMark → Type 0) where
  no_mark_of : (l : Learnt) → NoMark l → LearntIs file Is l
  no_mark_of (learnt.Mark f size) none = absurd none
  no_mark_of (learnt.Capability capability size) none = absurd none
  no_mark_of _ none = tt

  either_learns : (b : Bool) (p : Progress) → LearntIs file Is p.learnt → LearntIs file Is (cond b p waiting.waits_on).learnt
  either_learns true p is = is
  either_learns false p is = tt

  granted_learns : (told : MetaAnswer) → AnswerMarked Is told → LearntIs file Is (waiting.granted told)
  granted_learns (answer.Granted capability size) is = is
  granted_learns _ is = tt

  module _ (now : ℕ) (held : Held) (made : MadeCall) (target : NodeId) (deadline : ℕ) where
    striped_learns : (capability : Capability) (asked : Op) (happens : Event) → made.request ≡ request.Striped capability asked → capability.file.number ≢ file
        → LearntIs file Is (waiting.event_comes now held made target deadline happens).learnt
    striped_learns capability asked happens is other = elim (event_row held made capability asked target deadline now is happens) as (λ _. LearntIs file Is (waiting.event_comes now held made target deadline happens).learnt) [
      | inl hears ↦ subst (λ (p : Progress). LearntIs file Is p.learnt) (sym hears.gives) (λ e. other (sym e))
      | inr goes ↦ no_mark_of (waiting.event_comes now held made target deadline happens).learnt goes.learns
    ]

    reply_learns : (q : Request) (from : NodeId) (content : Reply) → IsNoStriped q → LearntIs file Is (waiting.reply_to held q target from content).learnt
    reply_learns (request.Replicated capability asked) from content is = tt
    reply_learns (request.Striped capability asked) from content is = absurd is
    reply_learns (request.Meta user group wanted) from content is = tt
    reply_learns (request.Registry asked) from content is = tt

    meta_learns : (q : Request) (told : MetaAnswer) → AnswerMarked Is told → LearntIs file Is (waiting.meta_comes q told).learnt
    meta_learns (request.Replicated capability asked) told grants = tt
    meta_learns (request.Striped capability asked) told grants = tt
    meta_learns (request.Meta user group wanted) told grants = granted_learns told grants
    meta_learns (request.Registry asked) told grants = tt

    registry_learns : (q : Request) (told : RegistryAnswer) → LearntIs file Is (waiting.registry_comes q told).learnt
    registry_learns (request.Replicated capability asked) told = tt
    registry_learns (request.Striped capability asked) told = tt
    registry_learns (request.Meta user group wanted) told = tt
    registry_learns (request.Registry asked) told = tt

    other_learns : (happens : Event) → IsNoStriped made.request → EventMarked Is happens → LearntIs file Is (waiting.event_comes now held made target deadline happens).learnt
    other_learns (event.Deliver msg) is grants = at msg.payload grants
      where
        at : (content : Payload) → PayloadMarked Is content → LearntIs file Is (waiting.message_comes held made target msg.from content).learnt
        at (payload.Reply n g told) grants = either_learns (n == made.number) (waiting.reply_to held made.request target msg.from told) (reply_learns made.request msg.from told is)
        at (payload.MetaReply n told) grants = either_learns (n == made.number && msg.from.0 == target.0) (waiting.meta_comes made.request told) (meta_learns made.request told grants)
        at (payload.RegistryReply n told) grants = either_learns (n == made.number && msg.from.0 == target.0) (waiting.registry_comes made.request told) (registry_learns made.request told)
        at _ grants = tt
    other_learns event.Wake is grants = either_learns (nat_le deadline now) (waiting.gives_up target retry.Silent) tt
    other_learns (event.Call k) is grants = tt

    pub event_learns : (happens : Event) → IsAway file made.request → EventMarked Is happens → LearntIs file Is (waiting.event_comes now held made target deadline happens).learnt
    event_learns happens away grants = at made.request refl away
      where
        by_kind : (q : Request) → made.request ≡ q → IsNoStriped q → LearntIs file Is (waiting.event_comes now held made target deadline happens).learnt
        by_kind q is none = other_learns happens (subst IsNoStriped (sym is) none) grants

        at : (q : Request) → made.request ≡ q → IsAway file q → LearntIs file Is (waiting.event_comes now held made target deadline happens).learnt
        at (request.Replicated capability asked) is away = by_kind (request.Replicated capability asked) is tt
        at (request.Striped capability asked) is away = striped_learns capability asked happens is away
        at (request.Meta user group wanted) is away = by_kind (request.Meta user group wanted) is tt
        at (request.Registry asked) is away = by_kind (request.Registry asked) is tt

-- ---- a step

-- the client's last call after a step: the same request, if there is one
pub data SameMade : Option MadeCall → Option MadeCall → Type 0 where
  no_call : SameMade None None
  same_call : (a b : MadeCall) → b.number ≡ a.number → b.request ≡ a.request → StageFits b.stage b.request → SameMade (Some a) (Some b)

-- a call that isn't on this file
abbrev pub IsAside : ℕ → Option MadeCall → Type 0
IsAside file None = Unit {0}
IsAside file (Some made) = IsAway file made.request × StageFits made.stage made.request

-- a request that isn't among those on replicated files fits any stage that isn't
pub beside_fits : (s : Stage) (q : Request) → IsBeside s → StageFits s q
beside_fits s (request.Replicated capability asked) is = tt
beside_fits s (request.Striped capability asked) is = tt
beside_fits s (request.Meta user group wanted) is = is
beside_fits s (request.Registry asked) is = is

-- what is held of the file then: what was, or what is granted, with a mark as it should be
abbrev pub HeldThen : ℕ → (FileId → SizeMark → Type 0) → Held → Option HeldFile → Type 0
HeldThen file Is held after =
    (after ≡ held_of held file)
    ⊎ ((capability : Capability) × (mark : SizeMark) × (capability.file.number ≡ file) × Is capability.file mark × (after ≡ Some (record { capability = capability; mark = mark_with held file mark })))

module _ (file : ℕ) (Is : FileId → SizeMark → Type 0) (node : NodeId) (times : TimeSettings) (c : WholeClient) (reading : ℕ) (happens : Event) (grants : EventMarked Is happens) where
  learnt_held : (held : Held) (l : Learnt) → LearntIs file Is l → HeldThen file Is held (held_of (rows.holds_learnt held l) file)
  learnt_held held (learnt.Mark f size) other = inl (joins_others held f size file other)
  learnt_held held (learnt.Capability capability size) is = elim (same file capability.file.number) [
    | inl e ↦ inr (
      capability,
      size,
      sym e,
      is,
      subst (λ (n : ℕ). held_of (holds held capability size) n ≡ Some (record { capability = capability; mark = mark_with held n size })) (sym e)
          (put_found held capability.file.number (record { capability = capability; mark = mark_with held capability.file.number size })),
    )
    | inr ne ↦ inl (ready_others held capability size file ne)
  ]
  learnt_held held learnt.Nothing other = inl refl
  learnt_held held (learnt.Epoch f epoch) other = inl refl

  ended_held : (held : Held) (n : ℕ) (size : SizeMark) (how : Outcome) → n ≢ file → held_of (rows.held_behind held n size how) file ≡ held_of held file
  ended_held held n size (outcome.Ok count bytes) other = joins_others held n size file (λ e. other (sym e))
  ended_held held n size (outcome.Retry answers) other = refl
  ended_held held n size (outcome.Refused why) other = refl
  ended_held held n size (outcome.Meta answer) other = refl
  ended_held held n size (outcome.Registry answer) other = refl

  ended_same : (made : MadeCall) (o : Option CallResult) → StageFits made.stage made.request → SameMade (Some made) (Some (rows.ended_so made o))
  ended_same made None fits = same_call made made refl refl fits
  ended_same made (Some how) fits = same_call made (record made { stage = stage.Ended how }) refl refl (beside_fits (stage.Ended how) made.request tt)

  behind_aside : (d : WholeClient) (made : MadeCall) (size : SizeMark) (how : Option Outcome) → d.made ≡ Some made → file_of made.request ≢ file → StageFits made.stage made.request
      → (held_of (rows.behind d (Some made) size how).held file ≡ held_of d.held file) × SameMade (Some made) (rows.behind d (Some made) size how).made
  behind_aside d made size None is other fits = (refl, subst (SameMade (Some made)) (sym is) (same_call made made refl refl fits))
  behind_aside d made size (Some how) is other fits = (ended_held d.held (file_of made.request) size how other, ended_same made (rows.result_behind d.held (file_of made.request) size how) fits)

  -- what is on replicated files is on another file
  on_other : (s : Stage) (q : Request) → (IsBeside s → ⊥) → IsAway file q → StageFits s q → file_of q ≢ file
  on_other s (request.Replicated capability asked) on away fits = away
  on_other s (request.Striped capability asked) on away fits = away
  on_other s (request.Meta user group wanted) on away fits = absurd (on fits)
  on_other s (request.Registry asked) on away fits = absurd (on fits)

  after_fits : (made : MadeCall) (target : NodeId) (deadline late : ℕ) (n : Next) → StageFits (rows.stage_after late (stage.Waiting target deadline) n) made.request
  after_fits made target deadline late next.Wait = beside_fits (stage.Waiting target deadline) made.request tt
  after_fits made target deadline late (next.Ask node) = beside_fits (stage.Waiting node late) made.request tt
  after_fits made target deadline late (next.End how) = beside_fits (stage.Ended how) made.request tt

  goes_aside : (made : MadeCall) (s : Stage) → c.made ≡ Some made → made.stage ≡ s → IsAway file made.request → StageFits s made.request
      → HeldThen file Is c.held (held_of (rows.goes_on node times c reading happens made s).state.held file) × SameMade (Some made) (rows.goes_on node times c reading happens made s).state.made
  goes_aside made stage.OnReplicas is at_stage away fits =
      let step = step_of_client node times c.replicas reading happens in
      let d = record c { replicas = step.state } in
      subst (λ (o : Option MadeCall). HeldThen file Is c.held (held_of (rows.behind (record c { replicas = step.state }) o (rows.mark_told happens) (ended_by None step.turned.marks)).held file)
      × SameMade (Some made) (rows.behind (record c { replicas = step.state }) o (rows.mark_told happens) (ended_by None step.turned.marks)).made) (sym is)
      (let after = behind_aside d made (rows.mark_told happens) (ended_by None step.turned.marks) is (on_other stage.OnReplicas made.request (λ beside. beside) away fits) (subst (λ (s : Stage). StageFits s made.request) (sym at_stage) fits) in (inl after.0, after.1))
  goes_aside made (stage.Waiting target deadline) is at_stage away fits =
      let now = rows.clock_of c reading in
      let comes = waiting.event_comes now c.held made target deadline happens in (
        learnt_held c.held comes.learnt (event_learns file Is now c.held made target deadline happens away grants),
        same_call made _ refl refl
            (subst (λ (s : Stage). StageFits (rows.stage_after (now + times.lease) s comes.next) made.request) (sym at_stage) (after_fits made target deadline (now + times.lease) comes.next)),
      )
  goes_aside made (stage.Ended how) is at_stage away fits =
      (inl refl, subst (SameMade (Some made)) (sym is) (same_call made made refl refl (subst (λ (s : Stage). StageFits s made.request) (sym at_stage) fits)))

  pub stepped_aside : IsAside file c.made → HeldThen file Is c.held (held_of (stepped node times c reading happens).state.held file) × SameMade c.made (stepped node times c reading happens).state.made
  unfolding stepped
  stepped_aside aside = at c.made refl aside
    where
      at : (o : Option MadeCall) → c.made ≡ o → IsAside file o → HeldThen file Is c.held (held_of (rows.goes_on_with node times c reading happens o).state.held file) × SameMade o (rows.goes_on_with node times c reading happens o).state.made
      at None is aside = (inl refl, subst (SameMade None) (sym is) no_call)
      at (Some made) is aside = goes_aside made made.stage is refl aside.0 aside.1
