-- An Ok that an OSD sends is of a known file, and of a call that has begun on it
use Rattle.std.proofs.Common.{◌≡◌, ℕ, inl, inr, List, [], ◌∷◌, ◌++◌, refl, ap, sym, ◌∙◌, subst, Some, Bool, true, false}
use Rattle.std.specs.Prelude.{◌⊎◌, cond, Option, None}
use Rattle.xt_base.specs.declared.ids.NodeId.{NodeId}
use Rattle.xt_base.specs.declared.ids.FileId.{FileId}
use Rattle.xt_base.specs.declared.ids.OpId.{OpId}
use Rattle.xt_base.specs.declared.ids.SizeMark.{SizeMark}
use Rattle.xt_messages.specs.declared.reply.Reply.{Reply}
use Rattle.xt_messages.specs.declared.reply.Reply.TheVariants as reply
use Rattle.xt_messages.specs.declared.message.Msg.{Msg}
use Rattle.xt_messages.specs.declared.message.Payload.{Payload}
use Rattle.xt_messages.specs.declared.message.Payload.TheVariants as payload
use Rattle.xt_messages.specs.declared.event.Event.{Event}
use Rattle.xt_messages.specs.declared.event.Event.TheVariants as event
use Rattle.xt_messages.specs.declared.event.Mark.{Mark}
use Rattle.xt_messages.specs.declared.event.Mark.TheVariants as mark
use Rattle.lease_safety.specs.State.{Has}
use Rattle.xt_protocol.specs.FileIds.{is_file}
use Rattle.xt_protocol.specs.Folds.{new_row}
use Rattle.xt_protocol.specs.LeaseRows.{Awake, LeaseState}
use Rattle.xt_protocol.specs.declared.turned.Turned.{Turned}
use Rattle.xt_protocol.specs.FileStates.{FileState, Site}
use Rattle.xt_protocol.specs.FileSteps.{step_of_file, wake_of_file}
use Rattle.xt_protocol.specs.Overdue.{expired}
use Rattle.xt_protocol.specs.OsdSteps.{OsdState, OsdStep, file_at, file_concerned}
use Rattle.osd_invariants.specs.Sound.{IsHeld, IsStored}
use Rattle.lease_runs.specs.ActsView.{MarksAre, no_marks, won, acting}
use Rattle.lease_runs.specs.LeaseView.{settled_row}
use Rattle.lease_runs.specs.OsdView.{wake_step}
use Rattle.lease_runs.proofs.ActSteps.{step_marks, wake_step_marks}
use Rattle.lease_runs.proofs.OsdLeases.{at_file}
use Rattle.time_line.specs.declared.entry.Entry.{Entry}
use Rattle.time_line.specs.Clauses.{HasBegunOn}
use Rattle.time_line.specs.TimeLine.{id_of}
use Rattle.world_spec.specs.World.{World, Node, Running, osd, known}
use Rattle.world_spec.specs.declared.PlacedFile.{PlacedFile}
use Rattle.world_runs.specs.View.{awake_as, messages}
use Rattle.xt_messages.specs.declared.file.Location.{Location}
use Rattle.world_runs.specs.Worlds.{IsKnown, Listed, PayloadFits, CoreFits, UpFits}
use Rattle.world_runs.proofs.Tables.{AllStay}
use Rattle.world_runs.proofs.Calls.{ContentIs}
use Rattle.world_runs.proofs.Entries.{begun_on-grown}
use Rattle.world_runs.proofs.FileIds.{FileIs, HasCome, IsStripedReply, expired_is, step_is, wake_is}
use Rattle.world_runs.proofs.Files.{at_fits, held_busy, unbusy}
use Rattle.world_runs.proofs.Fit.{IsFit}
use Rattle.world_runs.proofs.Growth.{CoreIs, UpIs}
use Rattle.world_runs.proofs.OsdIds.{FilesAre, new_is}
use Rattle.world_runs.proofs.Said.{Said, joined_said, said_of}
use Rattle.world_runs.proofs.Steps.{Fits}
use Rattle.world_runs.proofs.Walk.{Reaches}
use Rattle.world_safety.specs.Seen.{file_seen}
use Rattle.world_safety.specs.Events.{RunsAs, IsAwake, site_at, step_at}
use Rattle.world_safety.proofs.Events.{is_whole}
use Rattle.world_safety.proofs.OsdFiles.{woken_about}
use Rattle.world_safety.proofs.Senders.{one_of, message_from}
use Rattle.striped_safety.proofs.OsdSteps.{OsdStepIs, rests, heard, woke, osd_step_is}

-- an Ok is of a known file, which its call has begun on
abbrev pub OkIs : List PlacedFile → List Entry → NodeId → ℕ → FileId → Reply → Type 0
OkIs files es to number file (reply.Ok count size bytes) = ((l : Location) × IsKnown files file l) × HasBegunOn file.number es (id_of to number)
OkIs files es to number file _ = Unit {0}

abbrev pub ReplyIs : List PlacedFile → List Entry → NodeId → Payload → Type 0
ReplyIs files es to (payload.Reply number file answer) = OkIs files es to number file answer
ReplyIs files es to _ = Unit {0}

-- So are all that were sent.
abbrev pub RepliesAre : World → List Msg → Type 0
RepliesAre w own = (m : Msg) → Has m (own ++ messages w) → ReplyIs (known w) w.entries m.to m.payload

ok_grown : (files later : List PlacedFile) (es more : List Entry) (to : NodeId) (number : ℕ) (file : FileId) (answer : Reply) → AllStay files later → OkIs files es to number file answer → OkIs later (es ++ more) to number file answer
ok_grown files later es more to number file (reply.Ok count size bytes) stay is =
    ((is.0.0, stay file.number (record { file = file; location = is.0.0 }) is.0.1), begun_on-grown file.number es more (id_of to number) is.1)
ok_grown files later es more to number file (reply.NoLease end) stay is = tt
ok_grown files later es more to number file (reply.NoMajority have need) stay is = tt
ok_grown files later es more to number file (reply.Elsewhere node end) stay is = tt
ok_grown files later es more to number file (reply.Denied why) stay is = tt
ok_grown files later es more to number file (reply.OldList version) stay is = tt
ok_grown files later es more to number file (reply.OldEpoch epoch) stay is = tt
ok_grown files later es more to number file (reply.TooFar object) stay is = tt
ok_grown files later es more to number file reply.ClientsFull stay is = tt

pub reply_grown : (files later : List PlacedFile) (es more : List Entry) (to : NodeId) (content : Payload) → AllStay files later → ReplyIs files es to content → ReplyIs later (es ++ more) to content
reply_grown files later es more to (payload.Reply number file answer) stay is = ok_grown files later es more to number file answer stay is
reply_grown files later es more to _ stay is = tt

-- a stored list is that of a known file
stored_known : (files : List PlacedFile) (file : FileId) (o : Option Location) → IsStored o → Listed files file o → (l : Location) × IsKnown files file l
stored_known files file None stored listed = absurd stored
stored_known files file (Some l) stored listed = (l, listed)

-- ---- marks

-- an answer is marked under a lease alone
act_held : (file : FileId) (l : LeaseState) (marks : List Mark) (k : ℕ) (id : OpId) (count : ℕ) (bytes : List ℕ) → MarksAre file l marks → Has (mark.Answer k id count bytes) marks → IsHeld l
act_held file l marks k id count bytes (no_marks none) h = absurd (subst (Has (mark.Answer k id count bytes)) none h)
act_held file l marks k id count bytes (won end busy is) h = absurd (one (subst (Has (mark.Answer k id count bytes)) is h))
  where
    one : Has (mark.Answer k id count bytes) (mark.Held file.number end ∷ []) → ⊥
    one (inl e) = cc e
    one (inr h) = h
act_held file l marks k id count bytes (acting is are) h = is

-- ---- what an OSD says

at_is : (es : List Entry) (awake : Awake) (files : List FileState) (file : FileId) → FilesAre es files → FileIs (λ (id : OpId). HasBegunOn (file_at awake files file).kept.file.number es id) (file_at awake files file)
unfolding file_at
at_is es awake [] file are = new_is _ awake (new_row file)
at_is es awake (f ∷ fs) file are = one_of_both (is_file f.kept.file file) (at_is es awake fs file (λ s h. are s (inr h)))
  where
    one_of_both : (b : Bool) → FileIs (λ (id : OpId). HasBegunOn (file_at awake fs file).kept.file.number es id) (file_at awake fs file)
        → FileIs (λ (id : OpId). HasBegunOn (cond b f (file_at awake fs file)).kept.file.number es id) (cond b f (file_at awake fs file))
    one_of_both true rest = are f (inl refl)
    one_of_both false rest = rest

has_come : (es : List Entry) (site : Site) (file f : FileId) (from to : NodeId) (content : Payload) → file_concerned content ≡ Some file → f ≡ file → ContentIs es from to content
    → HasCome (λ (id : OpId). HasBegunOn f.number es id) site from content
has_come es site file f from to (payload.Ask number capability asked) concerns same is =
    let its : capability.file ≡ f = (let e : capability.file ≡ file = cc in e ∙ sym same) in
    subst (λ (x : FileId). HasBegunOn x.number es (id_of from number)) its (asked, is.0)
has_come es site file f from to _ concerns same is = tt

some_file : (a b : FileId) → Some a ≡ Some b → a ≡ b
some_file a b is = cc

pub core_fits : (w : World) (was : List Msg) (node : Node) (r : Running) (s : OsdState) → IsFit w was → RunsAs w node r s → CoreFits w.times (known w) node.id node.kept r (osd s)
core_fits w was node r s fit its =
    subst (CoreFits w.times (known w) node.id node.kept r) its.core (subst (UpFits w.times (known w) node.id node.kept) its.up (fit.shape.nodes node.id.0 node its.found).up)

core_is : (w : World) (was : List Msg) (node : Node) (r : Running) (s : OsdState) → Fits w was → RunsAs w node r s → CoreIs w.entries node.id (osd s)
core_is w was node r s ends its = subst (CoreIs w.entries node.id) its.core (subst (UpIs w.entries node.id) its.up (ends.nodes_are node.id.0 node its.found))

module _ (w : World) (was : List Msg) (node : Node) (r : Running) (s : OsdState) (fit : IsFit w was) (ends : Fits w was) (its : RunsAs w node r s) where
  -- an Ok of a step of a file on a message
  said_ok : (msg : Msg) (g : FileId) → Has msg (was ++ messages w) → file_concerned msg.payload ≡ Some g → (m : Msg) (number : ℕ) (file : FileId) (count : ℕ) (bytes : List ℕ) → file ≡ (file_seen g s).kept.file
      → Said (λ (id : OpId). HasBegunOn (file_seen g s).kept.file.number w.entries id) (file_seen g s).kept.file.number (step_of_file (site_at node r s) (file_seen g s) msg.from msg.payload).turned.marks m.to (payload.Reply number file (reply.Ok count (record { epoch = 0; size = 0 }) bytes))
      → ((l : Location) × IsKnown (known w) file l) × HasBegunOn file.number w.entries (id_of m.to number)
  said_ok msg g has concerns m number file count bytes same said =
      let f = file_seen g s in
      let site = site_at node r s in
      let fits = at_fits (known w) (awake_as s.started) s.files g (core_fits w was node r s fit its).0.fits in
      let held = act_held f.kept.file (settled_row site f).lease (step_of_file site f msg.from msg.payload).turned.marks f.kept.file.number (id_of m.to number) count bytes (step_marks site f msg.from msg.payload) said.1 in
      let declared = stored_known (known w) f.kept.file f.kept.location (fits.stored (unbusy f.lease site.now (held_busy (settled_row site f).lease held))) fits.listed in (
        subst (λ (k : FileId). (l : Location) × IsKnown (known w) k l) (sym same) declared,
        subst (λ (k : FileId). HasBegunOn k.number w.entries (id_of m.to number)) (sym same) said.0,
      )

  -- an Ok to the client of an ask on a striped file
  striped_ok : (msg : Msg) (g : FileId) → Has msg (was ++ messages w) → file_concerned msg.payload ≡ Some g → (m : Msg) (number : ℕ) (file : FileId) (answer : Reply) → file ≡ g → m.payload ≡ payload.Reply number file answer
      → IsStripedReply msg.from msg.payload m → ((l : Location) × IsKnown (known w) file l) × HasBegunOn file.number w.entries (id_of m.to number)
  striped_ok msg g has concerns m number file answer same is replies = at msg.payload refl replies concerns (fit.shape.payloads msg has) (ends.messages msg has)
    where
      same_number : (a b : ℕ) (x y : FileId) (p q : Reply) → payload.Reply a x p ≡ payload.Reply b y q → a ≡ b
      same_number a b x y p q e = cc e

      at : (content : Payload) → msg.payload ≡ content → IsStripedReply msg.from content m → file_concerned content ≡ Some g → PayloadFits (known w) content → ContentIs w.entries msg.from msg.to content
          → ((l : Location) × IsKnown (known w) file l) × HasBegunOn file.number w.entries (id_of m.to number)
      at (payload.Ask k capability asked) e told about declared begun =
          let its : capability.file ≡ file = some_file capability.file g about ∙ sym same in
          let its_number : k ≡ number = same_number k number told.2 file told.3 answer (sym told.4 ∙ is) in (
            subst (λ (x : FileId). (l : Location) × IsKnown (known w) x l) its (capability.location, declared),
            subst (λ (x : FileId). HasBegunOn x.number w.entries (id_of m.to number)) its
                (subst (λ (to : NodeId). HasBegunOn capability.file.number w.entries (id_of to number)) (sym told.1)
                (subst (λ (n : ℕ). HasBegunOn capability.file.number w.entries (id_of msg.from n)) its_number (asked, begun.0))),
          )
      at content e told about declared begun = absurd told

  reply_file : (number : ℕ) (file : FileId) (answer : Reply) (g : FileId) (content : Payload) → content ≡ payload.Reply number file answer → file_concerned content ≡ Some g → file ≡ g
  reply_file number file answer g content is about = some_file file g (sym (ap file_concerned is) ∙ about)

  -- any message of a step on a message
  message_reply : (msg : Msg) (g : FileId) → IsAwake r s → Has msg (was ++ messages w) → file_concerned msg.payload ≡ Some g → (m : Msg) → Has m (step_at node r s (event.Deliver msg)).turned.outs
      → ReplyIs (known w) w.entries m.to m.payload
  message_reply msg g awake has concerns m h = by_payload m.payload refl
    where
      f : FileState
      f = file_seen g s

      its_file : (file_seen g s).kept.file ≡ g
      its_file = at_file (awake_as s.started) s.files g

      out : Has m (step_of_file (site_at node r s) (file_seen g s) msg.from msg.payload).turned.outs
      out = subst (λ (o : OsdStep). Has m o.turned.outs) (is_whole g node r s msg awake concerns) h

      about : file_concerned m.payload ≡ Some (file_seen g s).kept.file
      about = (one_of (site_at node r s).node (file_seen g s).kept.file (step_of_file (site_at node r s) (file_seen g s) msg.from msg.payload).turned.outs m (message_from (site_at node r s) (file_seen g s) msg.from msg.payload) out).1

      told : Said (λ (id : OpId). HasBegunOn (file_seen g s).kept.file.number w.entries id) (file_seen g s).kept.file.number (step_of_file (site_at node r s) (file_seen g s) msg.from msg.payload).turned.marks m.to m.payload
          ⊎ IsStripedReply msg.from msg.payload m
      told =
          (step_is (λ (id : OpId). HasBegunOn (file_seen g s).kept.file.number w.entries id) (site_at node r s) (file_seen g s) msg.from msg.payload
          (at_is w.entries (awake_as s.started) s.files g (core_is w was node r s ends its))
          (has_come w.entries (site_at node r s) g (file_seen g s).kept.file msg.from msg.to msg.payload concerns (at_file (awake_as s.started) s.files g) (ends.messages msg has))).said m out

      ok : (number : ℕ) (file : FileId) (count : ℕ) (size : SizeMark) (bytes : List ℕ) → m.payload ≡ payload.Reply number file (reply.Ok count size bytes) → ((l : Location) × IsKnown (known w) file l) × HasBegunOn file.number w.entries (id_of m.to number)
      ok number file count size bytes is =
          let same = reply_file number file (reply.Ok count size bytes) (file_seen g s).kept.file m.payload is about in
          elim told [
            | inl said ↦ said_ok msg g has concerns m number file count bytes same
                (subst (Said (λ (id : OpId). HasBegunOn (file_seen g s).kept.file.number w.entries id) (file_seen g s).kept.file.number (step_of_file (site_at node r s) (file_seen g s) msg.from msg.payload).turned.marks m.to) is said)
            | inr striped ↦ striped_ok msg g has concerns m number file (reply.Ok count size bytes) (same ∙ its_file) is striped
          ]

      by_answer : (number : ℕ) (file : FileId) (answer : Reply) → m.payload ≡ payload.Reply number file answer → OkIs (known w) w.entries m.to number file answer
      by_answer number file (reply.Ok count size bytes) is = ok number file count size bytes is
      by_answer number file (reply.NoLease end) is = tt
      by_answer number file (reply.NoMajority have need) is = tt
      by_answer number file (reply.Elsewhere other end) is = tt
      by_answer number file (reply.Denied why) is = tt
      by_answer number file (reply.OldList version) is = tt
      by_answer number file (reply.OldEpoch epoch) is = tt
      by_answer number file (reply.TooFar object) is = tt
      by_answer number file reply.ClientsFull is = tt

      by_payload : (content : Payload) → m.payload ≡ content → ReplyIs (known w) w.entries m.to content
      by_payload (payload.Reply number file answer) is = by_answer number file answer is
      by_payload _ is = tt

  -- a Wake answers no call
  wake_silent : (awake : IsAwake r s) (m : Msg) → Has m (step_at node r s event.Wake).turned.outs → (number : ℕ) (file : FileId) (count : ℕ) (size : SizeMark) (bytes : List ℕ)
      → m.payload ≡ payload.Reply number file (reply.Ok count size bytes) → ⊥
  wake_silent awake m h number file count size bytes is =
      let site = site_at node r s in
      let f = file_seen file s in
      let Q : OpId → Type 0 = λ (id : OpId). HasBegunOn f.kept.file.number w.entries id in
      let out = (woken_about file node r s m awake (core_fits w was node r s fit its).0.rises h (ap file_concerned is)).1 in
      let files = at_is w.entries (awake_as s.started) s.files file (core_is w was node r s ends its) in
      let first = expired_is Q site f.kept.file.number f files in
      let second = wake_is Q site f.kept.file.number (expired site f).state first.state in
      let all = joined_said Q f.kept.file.number (expired site f).turned (wake_of_file site (expired site f).state).turned first.said second.said in
      let said = said_of Q f.kept.file.number (wake_step site f).turned.marks (wake_step site f).turned.outs m all out in
      let marked = (subst (Said Q f.kept.file.number (wake_step site f).turned.marks m.to) is said).1 in
      subst (Has (mark.Answer f.kept.file.number (id_of m.to number) count bytes)) (wake_step_marks site f) marked

  -- So is what an OSD sends in any step.
  pub osd_replies : (happens : Event) → Reaches w was node.id happens → (m : Msg) → Has m (step_at node r s happens).turned.outs → ReplyIs (known w) w.entries m.to m.payload
  osd_replies happens reaches m h = by_payload m.payload refl
    where
      ok : (number : ℕ) (file : FileId) (count : ℕ) (size : SizeMark) (bytes : List ℕ) → m.payload ≡ payload.Reply number file (reply.Ok count size bytes) → ((l : Location) × IsKnown (known w) file l) × HasBegunOn file.number w.entries (id_of m.to number)
      ok number file count size bytes is = at (osd_step_is node r s happens) reaches h
        where
          at : {e : Event} → OsdStepIs node r s e → Reaches w was node.id e → Has m (step_at node r s e).turned.outs → ((l : Location) × IsKnown (known w) file l) × HasBegunOn file.number w.entries (id_of m.to number)
          at (rests e quiet) reaches h = absurd (subst (λ (t : Turned). Has m t.outs) quiet h)
          at (heard msg g awake concerns) reaches h = subst (ReplyIs (known w) w.entries m.to) is (message_reply msg g awake reaches.1 concerns m h)
          at (woke awake) reaches h = absurd (wake_silent awake m h number file count size bytes is)

      by_answer : (number : ℕ) (file : FileId) (answer : Reply) → m.payload ≡ payload.Reply number file answer → OkIs (known w) w.entries m.to number file answer
      by_answer number file (reply.Ok count size bytes) is = ok number file count size bytes is
      by_answer number file (reply.NoLease end) is = tt
      by_answer number file (reply.NoMajority have need) is = tt
      by_answer number file (reply.Elsewhere other end) is = tt
      by_answer number file (reply.Denied why) is = tt
      by_answer number file (reply.OldList version) is = tt
      by_answer number file (reply.OldEpoch epoch) is = tt
      by_answer number file (reply.TooFar object) is = tt
      by_answer number file reply.ClientsFull is = tt

      by_payload : (content : Payload) → m.payload ≡ content → ReplyIs (known w) w.entries m.to content
      by_payload (payload.Reply number file answer) is = by_answer number file answer is
      by_payload _ is = tt
