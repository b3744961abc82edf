-- what an OSD does with a file that nobody leads there: it goes by asks alone
use Rattle.std.proofs.Common.{◌≡◌, ◌∙◌, ℕ, Bool, true, false, cond, refl, sym, ap, subst, Option, Some, None}
use Rattle.xt_base.specs.declared.ids.NodeId.{NodeId}
use Rattle.xt_base.specs.declared.ids.OpId.{OpId}
use Rattle.xt_base.specs.declared.ids.FileId.{FileId}
use Rattle.xt_messages.specs.declared.file.Capability.{Capability}
use Rattle.xt_messages.specs.declared.file.Kind.{Kind}
use Rattle.xt_messages.specs.declared.file.Kind.TheVariants as kind
use Rattle.xt_messages.specs.declared.file.Location.{Location}
use Rattle.xt_messages.specs.declared.file.Op.{Op}
use Rattle.xt_messages.specs.declared.reply.Denial.{Denial}
use Rattle.xt_messages.specs.declared.reply.Denial.TheVariants as denial
use Rattle.xt_messages.specs.declared.reply.Reply.{Reply}
use Rattle.xt_messages.specs.declared.reply.Reply.TheVariants as reply
use Rattle.xt_messages.specs.declared.message.Payload.TheVariants as payload
use Rattle.xt_messages.specs.declared.record.FileRow.{FileRow}
use Rattle.xt_protocol.specs.AskRows.{capability_refused, leaves_object}
use Rattle.xt_protocol.specs.FileStates.{FileState, Site, FileStep, nothing, and_then}
use Rattle.xt_protocol.specs.FileSteps.{replica_acts, ask_comes, primary_hears, message_comes, step_of_file, wake_of_file, wakes_under_lease}
use Rattle.xt_protocol.specs.Overdue.{expired, lease_became, deadlines_under}
use Rattle.xt_protocol.specs.LeaseRows.{LeaseState, Proposer, free, asking, writing, held, lease_expired}
use Rattle.xt_protocol.specs.PlainRows.{plain_step}
use Rattle.xt_protocol.specs.ReplicaRows.{only}
use Rattle.xt_protocol.specs.StripedRows.{range_and_list, unless_stored, capability_range_list, member_acts, to_client, striped_refusal, handle_striped}
use Rattle.xt_protocol.specs.declared.states.Acted.{Acted}
use Rattle.xt_protocol.specs.declared.states.PlainActed.{PlainActed}
use Rattle.xt_protocol.specs.declared.states.Tenure.{Tenure}
use Rattle.osd_invariants.specs.Sound.{IsSound, LedUnder, ListUnder, IsStored}
use Rattle.lease_runs.specs.OsdView.{wake_step}
use Rattle.striped_safety.specs.StripedWorld.{NotOk}

-- ---- a file that nobody leads

-- nobody holds or wants a lease of the file at this node, and nobody leads it
pub record IsPlain (s : FileState) : Type 0 where
  pub proposer : Proposer
  pub no_lease : s.lease ≡ free proposer
  pub idle : s.primary.tenure ≡ None

-- so it is of a sound one with no list stored
pub plain_of : (s : FileState) → IsSound s → s.kept.location ≡ None → IsPlain s
plain_of s sound none = by_lease s.lease refl
  where
    unstored : IsStored s.kept.location → ⊥
    unstored stored = subst IsStored none stored

    no_tenure : (p : Proposer) → s.lease ≡ free p → (t : Option Tenure) → s.primary.tenure ≡ t → s.primary.tenure ≡ None
    no_tenure p is None e = e
    no_tenure p is (Some t) e = absurd (subst (LedUnder (free p)) e (subst (λ (l : LeaseState). LedUnder l s.primary.tenure) is sound.led))

    by_lease : (l : LeaseState) → s.lease ≡ l → IsPlain s
    by_lease (free p) is = record { proposer = p; no_lease = is; idle = no_tenure p is s.primary.tenure refl }
    by_lease (asking r) is = absurd (unstored (subst (λ (l : LeaseState). ListUnder l s.kept.location) is sound.list))
    by_lease (writing r) is = absurd (unstored (subst (λ (l : LeaseState). ListUnder l s.kept.location) is sound.list))
    by_lease (held h) is = absurd (unstored (subst (λ (l : LeaseState). ListUnder l s.kept.location) is sound.list))

expired_plain : (site : Site) (s : FileState) → IsPlain s → expired site s ≡ nothing s
unfolding expired
expired_plain site s is =
    ap (λ (l : LeaseState). lease_became site (record s { lease = lease_expired l site.now }) l (lease_expired l site.now)) is.no_lease
    ∙ ap (λ (t : Option Tenure). deadlines_under site (record s { lease = free is.proposer }) t) is.idle ∙ ap (λ (l : LeaseState). nothing (record s { lease = l })) (sym is.no_lease)

wake_plain : (site : Site) (s : FileState) → IsPlain s → wake_of_file site s ≡ nothing s
unfolding wake_of_file
wake_plain site s is = ap (wakes_under_lease site s) is.no_lease

-- a Wake does nothing
pub wake_rests : (site : Site) (s : FileState) → IsPlain s → wake_step site s ≡ nothing s
wake_rests site s is = ap (λ (f : FileStep). and_then f (wake_of_file site)) (expired_plain site s is) ∙ ap (λ (f : FileStep). and_then (nothing s) (λ _. f)) (wake_plain site s is)

-- nor does a reply
pub reply_rests : (site : Site) (s : FileState) (from : NodeId) (number : ℕ) (file : FileId) (answer : Reply) → IsPlain s → step_of_file site s from (payload.Reply number file answer) ≡ nothing s
unfolding step_of_file
reply_rests site s from number file answer is =
    ap (λ (f : FileStep). and_then f (λ state. message_comes site state from (payload.Reply number file answer))) (expired_plain site s is)
    ∙ ap (λ (l : LeaseState). and_then (nothing s) (λ _. primary_hears site s l from (payload.Reply number file answer))) is.no_lease

-- an ask on a striped file goes by the rows of striped files
pub ask_acts : (site : Site) (s : FileState) (from : NodeId) (number : ℕ) (capability : Capability) (asked : Op) → capability.location.kind ≡ kind.Striped → IsPlain s
    → step_of_file site s from (payload.Ask number capability asked) ≡ replica_acts site s from (handle_striped site s.kept (record { client = from; number = number }) capability asked)
unfolding step_of_file
ask_acts site s from number capability asked striped is =
    ap (λ (f : FileStep). and_then f (λ state. message_comes site state from (payload.Ask number capability asked))) (expired_plain site s is)
    ∙ ap (λ (k : Kind). and_then (nothing s) (λ _. ask_comes site s k (record { client = from; number = number }) capability asked)) striped

-- ---- the rows

-- what a member does with an ask
abbrev pub acted_by : Site → FileRow → OpId → Capability → Op → PlainActed
acted_by site row id capability asked =
    plain_step (record { file = row.file; node = site.node; head = row.head }) (site.body row.file) id capability.epoch capability.location asked

-- The ask is refused; or it stays in its object, and the member does it.
pub data IsRow (site : Site) (row : FileRow) (id : OpId) (capability : Capability) (asked : Op) : Acted → Type 0 where
  refuses : (answer : Reply) → NotOk answer → IsRow site row id capability asked (only (payload.Reply id.number row.file answer))
  acts : leaves_object capability.location.stripe asked ≡ false → IsRow site row id capability asked (to_client row.file id (acted_by site row id capability asked))

module _ (site : Site) (row : FileRow) (id : OpId) (capability : Capability) (asked : Op) where
  abbrev So : Option Reply → Type 0
  So o = IsRow site row id capability asked (to_client row.file id (member_acts site row id capability asked o))

  by_list : leaves_object capability.location.stripe asked ≡ false → (stored : Option Location) → So (unless_stored stored)
  by_list stays (Some location) = refuses (reply.Denied denial.List) tt
  by_list stays None = acts stays

  by_range : (b : Bool) → leaves_object capability.location.stripe asked ≡ b → So (range_and_list row.location (cond b (Some (reply.Denied denial.Range)) None))
  by_range true is = refuses (reply.Denied denial.Range) tt
  by_range false is = by_list is row.location

  by_capability : (o : Option Denial) → So (capability_range_list row.location capability asked o)
  by_capability (Some why) = refuses (reply.Denied why) tt
  by_capability None = by_range (leaves_object capability.location.stripe asked) refl

  pub handled_row : IsRow site row id capability asked (handle_striped site row id capability asked)
  unfolding handle_striped striped_refusal
  handled_row = by_capability (capability_refused site capability asked)
