-- what a step of an OSD is, and what it reports: it begins no call, and ends none
use Rattle.std.proofs.Common.{◌≡◌, ℕ, inl, inr, List, [], ◌∷◌, map, refl, ap, sym, ◌∙◌, subst, Option, Some, None}
use Rattle.std.specs.Prelude.{◌⊎◌, max}
use Rattle.xt_base.specs.declared.ids.NodeId.{NodeId}
use Rattle.xt_base.specs.declared.ids.FileId.{FileId}
use Rattle.xt_messages.specs.declared.message.Msg.{Msg}
use Rattle.xt_messages.specs.declared.event.Call.{Call}
use Rattle.xt_messages.specs.declared.event.Event.{Event}
use Rattle.xt_messages.specs.declared.event.Event.TheVariants as event
use Rattle.xt_messages.specs.declared.event.Mark.{Mark}
use Rattle.xt_messages.specs.declared.event.Mark.TheVariants as mark
use Rattle.xt_protocol.specs.LeaseRows.{Awake, LeaseState, awake_at}
use Rattle.xt_protocol.specs.Turns.{quiet}
use Rattle.xt_protocol.specs.declared.turned.Turned.{Turned}
use Rattle.xt_protocol.specs.OsdSteps.{OsdState, OsdStep, file_concerned, handled_awake, step_of_osd}
use Rattle.lease_runs.specs.ActsView.{AreActs, MarksAre, no_marks, won, acting}
use Rattle.lease_runs.specs.LeaseView.{settled_row}
use Rattle.lease_runs.proofs.ActSteps.{step_marks, woken_quiet}
use Rattle.lease_runs.proofs.OsdLeases.{handled, woken_step}
use Rattle.time_line.specs.declared.entry.Entry.{Entry}
use Rattle.time_line.specs.declared.entry.Entry.TheVariants as entry
use Rattle.world_spec.specs.World.{Node, Running}
use Rattle.world_spec.specs.NodeSteps.{entry_of, outside_of}
use Rattle.world_runs.specs.View.{awake_as}
use Rattle.world_safety.specs.Seen.{file_seen}
use Rattle.world_safety.specs.Events.{IsAwake, site_at, step_at}
use Rattle.world_safety.proofs.Events.{is_whole}
use Rattle.world_safety.proofs.OsdFiles.{awake_or_not}
use Rattle.striped_safety.proofs.Trace.{IsStill, AreStill, none_still, one_still}

-- Nothing comes of the event; or the OSD is past its silence, and it is a message about a file, or a Wake.
pub data OsdStepIs (node : Node) (r : Running) (s : OsdState) : Event → Type 0 where
  rests : (happens : Event) → (step_at node r s happens).turned ≡ quiet → OsdStepIs node r s happens
  heard : (msg : Msg) (g : FileId) → IsAwake r s → file_concerned msg.payload ≡ Some g → OsdStepIs node r s (event.Deliver msg)
  woke : IsAwake r s → OsdStepIs node r s event.Wake

module _ (node : Node) (r : Running) (s : OsdState) where
  silent : (happens : Event) → awake_at s.started (max r.clock s.last) ≡ None → (step_at node r s happens).turned ≡ quiet
  unfolding step_of_osd
  silent happens is = ap (λ (a : Option Awake). (handled_awake (outside_of node.kept) s (max r.clock s.last) happens a).turned) is

  unconcerned : (msg : Msg) → IsAwake r s → file_concerned msg.payload ≡ None → (step_at node r s (event.Deliver msg)).turned ≡ quiet
  unfolding step_of_osd
  unconcerned msg awake none =
      ap (λ (a : Option Awake). (handled_awake (outside_of node.kept) s (max r.clock s.last) (event.Deliver msg) a).turned) awake
      ∙ ap (λ (o : Option FileId). (handled (outside_of node.kept) s (max r.clock s.last) (awake_as s.started) msg o).turned) none

  called : (call : Call) → IsAwake r s → (step_at node r s (event.Call call)).turned ≡ quiet
  unfolding step_of_osd
  called call awake = ap (λ (a : Option Awake). (handled_awake (outside_of node.kept) s (max r.clock s.last) (event.Call call) a).turned) awake

  pub osd_step_is : (happens : Event) → OsdStepIs node r s happens
  osd_step_is happens = at (awake_or_not node r s)
    where
      by_file : (msg : Msg) → IsAwake r s → (o : Option FileId) → file_concerned msg.payload ≡ o → OsdStepIs node r s (event.Deliver msg)
      by_file msg awake None is = rests (event.Deliver msg) (unconcerned msg awake is)
      by_file msg awake (Some g) is = heard msg g awake is

      by_event : (e : Event) → IsAwake r s → OsdStepIs node r s e
      by_event (event.Deliver msg) awake = by_file msg awake (file_concerned msg.payload) refl
      by_event event.Wake awake = woke awake
      by_event (event.Call call) awake = rests (event.Call call) (called call awake)

      at : (awake_at s.started (max r.clock s.last) ≡ None) ⊎ IsAwake r s → OsdStepIs node r s happens
      at (inl is) = rests happens (silent happens is)
      at (inr awake) = by_event happens awake

-- ---- marks

next_still : (x : Entry) (es : List Entry) → IsStill x → AreStill es → AreStill (x ∷ es)
next_still x es here later e (inl is) = subst IsStill (sym is) here
next_still x es here later e (inr h) = later e h

acts_still : (node : NodeId) (number : ℕ) (marks : List Mark) → AreActs number marks → AreStill (map (entry_of node) marks)
acts_still node number [] are = none_still
acts_still node number (mark.Active k count write ∷ ms) are = next_still (entry.Active node k count write) (map (entry_of node) ms) tt (acts_still node number ms are.1)
acts_still node number (mark.Issue k count write ∷ ms) are = next_still (entry.Issue node k count write) (map (entry_of node) ms) tt (acts_still node number ms are.1)
acts_still node number (mark.Commit k count write ∷ ms) are = next_still (entry.Commit node k count write) (map (entry_of node) ms) tt (acts_still node number ms are.1)
acts_still node number (mark.Answer k write count bytes ∷ ms) are = next_still (entry.Answer node k write count bytes) (map (entry_of node) ms) tt (acts_still node number ms are.1)
acts_still node number (_ ∷ ms) are = absurd (cc (are.0))

marks_still : (node : NodeId) (file : FileId) (l : LeaseState) (marks : List Mark) → MarksAre file l marks → AreStill (map (entry_of node) marks)
marks_still node file l marks (no_marks none) = subst (λ (ms : List Mark). AreStill (map (entry_of node) ms)) (sym none) none_still
marks_still node file l marks (won end busy is) = subst (λ (ms : List Mark). AreStill (map (entry_of node) ms)) (sym is) (one_still (entry.Held node file.number end) tt)
marks_still node file l marks (acting is are) = acts_still node file.number marks are

pub osd_still : (node : Node) (r : Running) (s : OsdState) (happens : Event) → AreStill (map (entry_of node.id) (step_at node r s happens).turned.marks)
osd_still node r s happens = at (osd_step_is node r s happens)
  where
    none : (marks : List Mark) → marks ≡ [] → AreStill (map (entry_of node.id) marks)
    none marks is = subst (λ (ms : List Mark). AreStill (map (entry_of node.id) ms)) (sym is) none_still

    at : {e : Event} → OsdStepIs node r s e → AreStill (map (entry_of node.id) (step_at node r s e).turned.marks)
    at (rests e is) = none (step_at node r s e).turned.marks (ap (λ (t : Turned). t.marks) is)
    at (heard msg g awake concerns) =
        let site = site_at node r s in
        let f = file_seen g s in
        subst (λ (o : OsdStep). AreStill (map (entry_of node.id) o.turned.marks)) (sym (is_whole g node r s msg awake concerns))
        (marks_still node.id f.kept.file (settled_row site f).lease _ (step_marks site f msg.from msg.payload))
    at (woke awake) =
        none (step_at node r s event.Wake).turned.marks
        (ap (λ (o : OsdStep). o.turned.marks) (woken_step (outside_of node.kept) s r.clock (awake_as s.started) awake) ∙ (woken_quiet (site_at node r s) s.files).0)
