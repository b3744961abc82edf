-- an event at an OSD, as events of a file's world
use Rattle.std.proofs.Common.{◌≡◌, ℕ, inl, inr, List, [], ◌∷◌, ◌++◌, map, refl, arith, ap, sym, ◌∙◌, subst, Some, None}
use Rattle.std.specs.Prelude.{◌⊎◌, max}
use Rattle.xt_base.specs.declared.ids.NodeId.{NodeId}
use Rattle.xt_base.specs.declared.ids.FileId.{FileId}
use Rattle.xt_base.specs.declared.ids.Epoch.{Epoch}
use Rattle.xt_base.specs.declared.ids.Stamp.{Stamp}
use Rattle.xt_messages.specs.declared.event.Event as NodeEvent
use Rattle.xt_messages.specs.declared.event.Event.TheVariants as event
use Rattle.xt_messages.specs.declared.event.Mark.{Mark}
use Rattle.xt_messages.specs.declared.file.Op.{Op}
use Rattle.xt_messages.specs.declared.message.Msg.{Msg}
use Rattle.xt_messages.specs.declared.file.FileHead.{FileHead}
use Rattle.xt_messages.specs.declared.message.Payload.{Payload}
use Rattle.xt_messages.specs.declared.message.Payload.TheVariants as payload
use Rattle.xt_messages.specs.declared.record.Record.{Record}
use Rattle.xt_protocol.specs.LeaseRows.{Silent}
use Rattle.time_line.specs.declared.entry.Halt.{Halt}
use Rattle.lease_safety.specs.State.{Has}
use Rattle.xt_protocol.specs.FileStates.{FileState, Site, FileStep}
use Rattle.xt_protocol.specs.FileSteps.{step_of_file}
use Rattle.xt_protocol.specs.OsdSteps.{OsdState, OsdStep, file_concerned}
use Rattle.lease_runs.specs.OsdView.{wake_step}
use Rattle.lease_runs.proofs.OsdLeases.{at_file, handled, woken_step}
use Rattle.lease_runs.proofs.ActSteps.{wake_step_marks, woken_quiet}
use Rattle.replica_runs.specs.FileView.{AskComes}
use Rattle.replica_runs.specs.HeadWorld.{shown}
use Rattle.file_runs.specs.FileRuns.{FileWorld, Sent, Tale, Happening, message, wake, step_on, sent_by, OwnComes, OwnTells}
use Rattle.own_messages_wait.proofs.Waiting.{Waiting, TellsOwn, own_status}
use Rattle.world_spec.specs.World.{World, Node, Running, osd, known}
use Rattle.world_spec.specs.declared.PlacedFile.{PlacedFile}
use Rattle.world_spec.specs.NodeSteps.{entry_of, outside_of, one_more, to_itself, one_put}
use Rattle.world_runs.specs.View.{awake_as, messages}
use Rattle.world_runs.specs.Worlds.{IsInOrder, CoreFits, UpFits}
use Rattle.world_runs.proofs.Fit.{IsFit}
use Rattle.world_runs.proofs.Lists.{has_left, has_right}
use Rattle.world_runs.proofs.Order.{in_order}
use Rattle.world_runs.proofs.Tables.{node_in-new}
use Rattle.world_runs.proofs.Walk.{Reaches}
use Rattle.world_runs.proofs.Steps.{Fits, came}
use Rattle.world_runs.proofs.EndRuns.{asks_begun}
use Rattle.world_safety.specs.Seen.{file_seen, IsNotOf}
use Rattle.world_safety.specs.Events.{RunsAs, IsAwake, site_at, step_at, stepped, stopped_with}
use Rattle.world_safety.specs.Steps.{IsRun}
use Rattle.world_safety.specs.Tellings.{TellsAs}
use Rattle.world_safety.specs.Asks.{AreOperations, KnownList, IsOutside}
use Rattle.world_safety.specs.Runs.{WasSent, IsShownBy, LeadsTo}
use Rattle.world_safety.specs.Senders.{AreFrom}
use Rattle.world_safety.proofs.Asks.{messages_come, outside_is_idle, outside_none, outside_sends}
use Rattle.world_safety.proofs.Endings.{stopped, stopped_kept}
use Rattle.world_safety.proofs.Events.{rested, is_whole, same_rec}
use Rattle.world_safety.proofs.Leading.{led_back}
use Rattle.world_safety.proofs.OsdFiles.{Leaves, AtFile, left, messaged, woken_up, at_file_of, woken_about}
use Rattle.world_safety.proofs.Senders.{one_of, message_from, wake_from}
use Rattle.world_safety.proofs.Shown.{rests}
use Rattle.world_safety.proofs.Steps.{messages_run, message_alone, wakes_run, outside_runs}
use Rattle.world_safety.proofs.Tellings.{telling}

-- a message of a step was sent by the step's node
has_sent : (n : ℕ) (outs : List Msg) (m : Msg) → Has m outs → m.from.0 ≡ n → Has (record { from = m.from.0; content = m.payload }) (sent_by n outs)
has_sent n [] m h is = absurd h
has_sent n (x ∷ xs) m (inl e) is =
    inl (ap (λ (k : ℕ). let y : Sent = record { from = k; content = m.payload } in y) is ∙ ap (λ (k : Msg). let y : Sent = record { from = n; content = k.payload } in y) e)
has_sent n (x ∷ xs) m (inr h) is = inr (has_sent n xs m h is)

-- a message of a step, or one that was there
abbrev SentNow : ℕ → FileStep → Msg → Type 0
SentNow n step m = Has (record { from = m.from.0; content = m.payload }) (sent_by n step.turned.outs) ⊎ (shown m.from.0 m.payload ≡ [])

-- a run of the file's world shows the world after it
ran : (stripe : ℕ) (ops : ℕ × ℕ → Op) (members : List ℕ) (file : FileId) (w after : World) (was own_after : List Msg) (n : ℕ) (v : FileWorld) (step : FileStep) → IsRun stripe ops members file after n v step
    → ((m : Msg) → Has m (own_after ++ messages after) → file_concerned m.payload ≡ Some file → SentNow n step m ⊎ Has m (was ++ messages w))
    → TellsAs stripe ops file.number after.entries (record { node = n; marks = step.turned.marks } ∷ v.tales)
    → IsShownBy stripe ops file w was v → LeadsTo stripe ops members file after own_after v
ran stripe ops members file w after was own_after n v step run sent told is =
    record {
      events = run.events;
      may = run.may;
      is =
          record {
            sees = run.sees;
            leaders = run.leaders;
            sent = λ m h about. subst (λ (k : List Sent). WasSent m (record v { sent = k })) (sym run.sent) (in_all m about (sent m h about));
            told = subst (λ (k : List Tale). TellsAs stripe ops file.number after.entries k) (sym run.tales) told;
          };
    }
  where
    before : (m : Msg) → WasSent m v → WasSent m (record v { sent = sent_by n step.turned.outs ++ v.sent })
    before m (inl there) = inl (has_right (record { from = m.from.0; content = m.payload }) (sent_by n step.turned.outs) v.sent there)
    before m (inr nothing) = inr nothing

    in_all : (m : Msg) → file_concerned m.payload ≡ Some file → SentNow n step m ⊎ Has m (was ++ messages w) → WasSent m (record v { sent = sent_by n step.turned.outs ++ v.sent })
    in_all m about (inl (inl there)) = inl (has_left (record { from = m.from.0; content = m.payload }) (sent_by n step.turned.outs) v.sent there)
    in_all m about (inl (inr nothing)) = inr nothing
    in_all m about (inr was_there) = before m (is.sent m was_there about)

-- what leaves the object does what a Fetch does, whatever it fetches
some_epoch : Epoch
some_epoch = record { number = 0; node = record { 0 = 0 } }

some_stamp : Stamp
some_stamp = record { epoch = record { number = 0; node = record { 0 = 0 } }; count = 0 }

-- ---- what a step depends on

-- an event at an OSD, of whose messages these go out, in a world of a run
pub record At (w : World) (was own : List Msg) (node : Node) (r : Running) (s : OsdState) (happens : NodeEvent.Event) (outs : List Msg) : Type 0 where
  pub within : (m : Msg) → Has m own → Has m was
  pub fewer : (m : Msg) → Has m outs → Has m (step_at node r s happens).turned.outs
  pub fit : IsFit w was
  pub ends : Fits w was
  pub fit_after : IsFit (stepped w node r s happens outs) (own ++ to_itself node.id outs)
  pub its : RunsAs w node r s
  pub reaches : Reaches w was node.id happens
  pub waiting : Waiting w was

core_fits : (w : World) (was : List Msg) (node : Node) (r : Running) (s : OsdState) → IsFit w was → RunsAs w node r s → CoreFits w.times (known w) node.id node.kept r (osd s)
core_fits w was node r s fit its =
    subst (CoreFits w.times (known w) node.id node.kept r) its.core (subst (UpFits w.times (known w) node.id node.kept) its.up (fit.shape.nodes node.id.0 node its.found).up)

module _ (stripe : ℕ) (ops : ℕ × ℕ → Op) (members : List ℕ) (file : FileId) (w : World) (was own : List Msg) (node : Node) (r : Running) (s : OsdState) where
  abbrev f : FileState
  f = file_seen file s

  abbrev site : Site
  site = site_at node r s

  abbrev GoesOn : NodeEvent.Event → List Msg → FileWorld → Type 0
  GoesOn happens outs v = LeadsTo stripe ops members file (stepped w node r s happens outs) (own ++ to_itself node.id outs) v

  here : IsFit w was → RunsAs w node r s → site.node.0 ≡ node.id.0
  here fit its = ap (λ (t : Silent). t.node.0) (core_fits w was node r s fit its).0.started

  its_number : f.kept.file.number ≡ file.number
  its_number = ap (λ (k : FileId). k.number) (at_file (awake_as s.started) s.files file)

  -- a message of a step of the file
  sent_now : (step : FileStep) (m : Msg) → IsFit w was → RunsAs w node r s → AreFrom site.node f.kept.file step.turned.outs → Has m step.turned.outs → SentNow node.id.0 step m
  sent_now step m fit its are h = inl (has_sent node.id.0 step.turned.outs m h (ap (λ (k : NodeId). k.0) (one_of site.node f.kept.file step.turned.outs m are h).0 ∙ here fit its))

  -- ---- the file is left

  left_on : (happens : NodeEvent.Event) (outs : List Msg) (v : FileWorld) → At w was own node r s happens outs → Leaves file node s (step_at node r s happens)
      → IsShownBy stripe ops file w was v → GoesOn happens outs v
  left_on happens outs v x l is =
      let whole = step_at node r s happens in
      let after = stepped w node r s happens outs in
      let own_after = own ++ to_itself node.id outs in
      let running : Running = record r { core = osd whole.osd } in
      let there : Node = record node { kept = one_more node.kept whole.turned.rec; past = one_put node.past whole.turned.rec; up = Some running } in
      rests stripe ops members file w after was own_after (map (entry_of node.id) whole.turned.marks) refl l.marks
      (λ u sees. rested file w node r s u x.its sees whole.osd (record whole.turned { outs = outs }) l.state l.rec)
      (led_back file w after own_after there node r running s whole.osd (in_order after own_after x.fit_after) refl x.its.found x.its.up x.its.core
      (record { found = node_in-new w.nodes there node x.its.found; up = refl; core = refl }) (sym l.state) (omega arith))
      (λ m h about. kept_or_none m about (came own was outs w node.id w.nodes m x.within h)) v is
    where
      kept_or_none : (m : Msg) → file_concerned m.payload ≡ Some file → Has m outs ⊎ Has m (was ++ messages w) → (shown m.from.0 m.payload ≡ []) ⊎ Has m (was ++ messages w)
      kept_or_none m about (inl out) = absurd (l.outs m (x.fewer m out) about)
      kept_or_none m about (inr old) = inr old

  -- ---- a message

  -- the marks of the whole step are those of this step of the file
  told_now : (happens : NodeEvent.Event) (v : FileWorld) (how : Happening) → (step_at node r s happens).turned.marks ≡ (step_on site f how).turned.marks → TellsAs stripe ops file.number w.entries v.tales
      → TellsAs stripe ops file.number (w.entries ++ map (entry_of node.id) (step_at node r s happens).turned.marks) (record { node = node.id.0; marks = (step_on site f how).turned.marks } ∷ v.tales)
  told_now happens v how same told =
      subst (λ (ms : List Mark). TellsAs stripe ops file.number (w.entries ++ map (entry_of node.id) ms) (record { node = node.id.0; marks = (step_on site f how).turned.marks } ∷ v.tales)) (sym same)
      ((telling stripe ops file.number).step w.entries v.tales node.id site f how its_number told)

  -- a status that the OSD sent itself is of the head that it has
  told_so : (from : NodeId) (content : Payload) → s.started.node.0 ≡ node.id.0 → TellsOwn s from content → file_concerned content ≡ Some file → OwnTells node.id.0 f.kept.head from content
  told_so from (payload.Status which epoch head) mine tells concerns = λ is v h.
      let same = tells (is ∙ sym mine) ∙ ap (λ (g : FileId). (file_seen g s).kept.head) (one_file which file concerns) in
      subst (λ (k : FileHead). Has v k.versions) same h
    where
      one_file : (a b : FileId) → Some a ≡ Some b → a ≡ b
      one_file a b e = cc e
  told_so from _ mine tells concerns = tt

  own_comes : (msg : Msg) (happens : NodeEvent.Event) (outs : List Msg) → At w was own node r s happens outs → happens ≡ event.Deliver msg → file_concerned msg.payload ≡ Some file → OwnComes node.id.0 f (message msg.from msg.payload)
  own_comes msg happens outs x is concerns =
      told_so msg.from msg.payload (here x.fit x.its)
      (own_status w node r s x.its.found x.its.up x.its.core was msg (subst (Reaches w was node.id) is x.reaches) x.waiting) concerns

  -- an ask can arrive at the file, or it asks for what leaves the object
  come_or_outside : (msg : Msg) → file_concerned msg.payload ≡ Some file → IsFit w was → Fits w was → Has msg (was ++ messages w) → KnownList (known w) file stripe members → AreOperations ops file.number w.entries
      → AskComes stripe ops members msg.from msg.payload ⊎ IsOutside msg.payload
  come_or_outside msg concerns fit ends arrived listed are =
      messages_come stripe ops members (known w) w.entries file msg.from msg.payload concerns (fit.shape.payloads msg arrived) (asks_begun w was ends msg arrived) are listed

  message_on : (msg : Msg) (outs : List Msg) (v : FileWorld) → At w was own node r s (event.Deliver msg) outs → IsAwake r s → file_concerned msg.payload ≡ Some file
      → KnownList (known w) file stripe members → AreOperations ops file.number w.entries → IsShownBy stripe ops file w was v → GoesOn (event.Deliver msg) outs v
  message_on msg outs v x awake concerns listed are is = at (come_or_outside msg concerns x.fit x.ends x.reaches.1 listed are)
    where
      order : IsInOrder w was
      order = in_order w was x.fit

      order_after : IsInOrder (stepped w node r s (event.Deliver msg) outs) (own ++ to_itself node.id outs)
      order_after = in_order (stepped w node r s (event.Deliver msg) outs) (own ++ to_itself node.id outs) x.fit_after

      whole : step_at node r s (event.Deliver msg) ≡ handled (outside_of node.kept) s (max r.clock s.last) (awake_as s.started) msg (Some file)
      whole = is_whole file node r s msg awake concerns

      asked : (m : Msg) → Has m outs → Has m (step_of_file site f msg.from msg.payload).turned.outs
      asked m out = subst (λ (o : OsdStep). Has m o.turned.outs) whole (x.fewer m out)

      inside_now : (m : Msg) → Has m outs ⊎ Has m (was ++ messages w) → SentNow node.id.0 (step_of_file site f msg.from msg.payload) m ⊎ Has m (was ++ messages w)
      inside_now m (inl out) = inl (sent_now (step_of_file site f msg.from msg.payload) m x.fit x.its (message_from site f msg.from msg.payload) (asked m out))
      inside_now m (inr old) = inr old

      sent_or_not : (m : Msg) → Has m (step_of_file site f msg.from (payload.Fetch file some_epoch 0 some_stamp)).turned.outs ⊎ ((n : ℕ) → shown n m.payload ≡ [])
          → SentNow node.id.0 (step_of_file site f msg.from (payload.Fetch file some_epoch 0 some_stamp)) m
      sent_or_not m (inl there) =
          sent_now (step_of_file site f msg.from (payload.Fetch file some_epoch 0 some_stamp)) m x.fit x.its
          (message_from site f msg.from (payload.Fetch file some_epoch 0 some_stamp)) there
      sent_or_not m (inr nothing) = inr (nothing m.from.0)

      outside_now : IsOutside msg.payload → (m : Msg) → Has m outs ⊎ Has m (was ++ messages w)
          → SentNow node.id.0 (step_of_file site f msg.from (payload.Fetch file some_epoch 0 some_stamp)) m ⊎ Has m (was ++ messages w)
      outside_now outside m (inl out) = inl (sent_or_not m (outside_sends site f msg.from msg.payload file some_epoch 0 some_stamp outside m (asked m out)))
      outside_now outside m (inr old) = inr old

      at : AskComes stripe ops members msg.from msg.payload ⊎ IsOutside msg.payload → LeadsTo stripe ops members file (stepped w node r s (event.Deliver msg) outs) (own ++ to_itself node.id outs) v
      at (inl come) =
          ran stripe ops members file w (stepped w node r s (event.Deliver msg) outs) was (own ++ to_itself node.id outs) node.id.0 v (step_of_file site f msg.from msg.payload)
          (messages_run stripe ops members file w was (own ++ to_itself node.id outs) outs node r s msg v order order_after (x.fit.safe file.number).0 (x.fit_after.safe file.number).0 x.its awake concerns
          (is.sent msg x.reaches.1 concerns, come) (own_comes msg (event.Deliver msg) outs x refl concerns) is.sees is.leaders)
          (λ m h about. inside_now m (came own was outs w node.id w.nodes m x.within h))
          (told_now (event.Deliver msg) v (message msg.from msg.payload) (ap (λ (o : OsdStep). o.turned.marks) whole) is.told) is
      at (inr outside) =
          ran stripe ops members file w (stepped w node r s (event.Deliver msg) outs) was (own ++ to_itself node.id outs) node.id.0 v (step_of_file site f msg.from (payload.Fetch file some_epoch 0 some_stamp))
          (outside_runs stripe ops members file w was (own ++ to_itself node.id outs) outs node r s msg v some_epoch 0 some_stamp order order_after (x.fit.safe file.number).0 (x.fit_after.safe file.number).0 x.its awake concerns
          outside is.sees is.leaders)
          (λ m h about. outside_now outside m (came own was outs w node.id w.nodes m x.within h))
          (told_now (event.Deliver msg) v (message msg.from (payload.Fetch file some_epoch 0 some_stamp))
          (ap (λ (o : OsdStep). o.turned.marks) whole ∙ (outside_is_idle site f msg.from msg.payload file some_epoch 0 some_stamp outside).marks) is.told) is

  -- ---- a Wake

  wake_on : (outs : List Msg) (v : FileWorld) → At w was own node r s event.Wake outs → IsAwake r s → Has (file_seen file s) s.files
      → IsShownBy stripe ops file w was v → GoesOn event.Wake outs v
  wake_on outs v x awake met is =
      ran stripe ops members file w (stepped w node r s event.Wake outs) was (own ++ to_itself node.id outs) node.id.0 v (wake_step site f)
      (wakes_run stripe ops members file w was (own ++ to_itself node.id outs) outs node r s v (in_order w was x.fit) (in_order (stepped w node r s event.Wake outs) (own ++ to_itself node.id outs) x.fit_after)
      (x.fit.safe file.number).0 (x.fit_after.safe file.number).0 x.its awake met is.sees is.leaders)
      (λ m h about. now m about (came own was outs w node.id w.nodes m x.within h))
      (told_now event.Wake v wake
      (ap (λ (o : OsdStep). o.turned.marks) (woken_step (outside_of node.kept) s r.clock (awake_as s.started) awake) ∙ ((woken_quiet site s.files).0 ∙ sym (wake_step_marks site f))) is.told) is
    where
      now : (m : Msg) → file_concerned m.payload ≡ Some file → Has m outs ⊎ Has m (was ++ messages w) → SentNow node.id.0 (wake_step site f) m ⊎ Has m (was ++ messages w)
      now m about (inl out) =
          inl (sent_now (wake_step site f) m x.fit x.its (wake_from site f) (woken_about file node r s m awake (core_fits w was node r s x.fit x.its).0.rises (x.fewer m out) about).1)
      now m about (inr old) = inr old

  -- ---- any event

  by_file : (happens : NodeEvent.Event) (outs : List Msg) (v : FileWorld) → At w was own node r s happens outs → KnownList (known w) file stripe members → AreOperations ops file.number w.entries
      → IsShownBy stripe ops file w was v → AtFile file node r s happens → GoesOn happens outs v
  by_file happens outs v x listed are is (left _ l) = left_on happens outs v x l is
  by_file _ outs v x listed are is (messaged msg awake concerns) = message_on msg outs v x awake concerns listed are is
  by_file _ outs v x listed are is (woken_up awake met) = wake_on outs v x awake met is

  -- a step of the OSD
  pub steps_on : (happens : NodeEvent.Event) (outs : List Msg) (v : FileWorld) → At w was own node r s happens outs → KnownList (known w) file stripe members → AreOperations ops file.number w.entries
      → IsShownBy stripe ops file w was v → GoesOn happens outs v
  steps_on happens outs v x listed are is =
      let fits = core_fits w was node r s x.fit x.its in
      by_file happens outs v x listed are is (at_file_of (known w) file node r s happens (λ (k : PlacedFile) there. (listed k there).0) fits.0.fits fits.0.rises)

  -- ---- a stop in the append

  no_record : (rec : Record) → None ≡ Some rec → ⊥
  no_record rec is = cc

  kept_by_file : (happens : NodeEvent.Event) (rec : Record) (halt : Halt) (v : FileWorld) → At w was own node r s happens [] → (step_at node r s happens).turned.rec ≡ Some rec
      → KnownList (known w) file stripe members → AreOperations ops file.number w.entries → IsShownBy stripe ops file w was v → AtFile file node r s happens
      → LeadsTo stripe ops members file (stopped_with w node r s happens rec halt) [] v
  kept_by_file happens rec halt v x is_rec listed are is (left _ l) =
      stopped stripe ops members file w was node r s (in_order w was x.fit) x.its (x.fit.safe file.number).0 (Some rec) (record r { core = osd (step_at node r s happens).osd }) halt
      (subst (IsNotOf file) is_rec l.rec) v is
  kept_by_file _ rec halt v x is_rec listed are is (messaged msg awake concerns) = at (come_or_outside msg concerns x.fit x.ends x.reaches.1 listed are)
    where
      at : AskComes stripe ops members msg.from msg.payload ⊎ IsOutside msg.payload → LeadsTo stripe ops members file (stopped_with w node r s (event.Deliver msg) rec halt) [] v
      at (inl come) =
          stopped_kept stripe ops members file w was node r s (in_order w was x.fit) x.its msg rec halt awake concerns is_rec
          (message_alone stripe ops members file w was (own ++ to_itself node.id []) [] node r s msg (in_order w was x.fit) (in_order (stepped w node r s (event.Deliver msg) []) (own ++ to_itself node.id []) x.fit_after)
          (x.fit.safe file.number).0 (x.fit_after.safe file.number).0 x.its awake concerns) v (is.sent msg x.reaches.1 concerns, come) (own_comes msg (event.Deliver msg) [] x refl concerns) is
      at (inr outside) = absurd (no_record rec (sym (same_rec file node r s msg awake concerns ∙ outside_none site f msg.from msg.payload outside) ∙ is_rec))
  kept_by_file _ rec halt v x is_rec listed are is (woken_up awake met) =
      absurd (no_record rec (sym (ap (λ (o : OsdStep). o.turned.rec) (woken_step (outside_of node.kept) s r.clock (awake_as s.started) awake) ∙ (woken_quiet site s.files).1) ∙ is_rec))

  -- the OSD stops in the append of its step, and the record is kept
  pub kept_on : (happens : NodeEvent.Event) (rec : Record) (halt : Halt) (v : FileWorld) → At w was own node r s happens [] → (step_at node r s happens).turned.rec ≡ Some rec
      → KnownList (known w) file stripe members → AreOperations ops file.number w.entries → IsShownBy stripe ops file w was v
      → LeadsTo stripe ops members file (stopped_with w node r s happens rec halt) [] v
  kept_on happens rec halt v x is_rec listed are is =
      let fits = core_fits w was node r s x.fit x.its in
      kept_by_file happens rec halt v x is_rec listed are is (at_file_of (known w) file node r s happens (λ (k : PlacedFile) there. (listed k there).0) fits.0.fits fits.0.rises)
