-- what an event is in the lease world of a version
use Rattle.std.proofs.Common.{◌≡◌, ◌∙◌, ℕ, refl, ap, subst, Option, Some, None, Bool, true, false, cond}
use Rattle.std.specs.Prelude.{max}
use Rattle.xt_base.specs.declared.ids.NodeId.{NodeId}
use Rattle.xt_base.specs.declared.ids.FileId.{FileId}
use Rattle.xt_base.specs.declared.ids.Boot.{Boot}
use Rattle.xt_messages.specs.declared.message.Msg.{Msg}
use Rattle.xt_messages.specs.declared.event.Event.{Event}
use Rattle.xt_messages.specs.declared.event.Event.TheVariants as event
use Rattle.xt_protocol.specs.FileIds.{is_file}
use Rattle.xt_protocol.proofs.Folds.{file-equal}
use Rattle.xt_protocol.specs.LeaseRows.{Awake, awake_at, is_silent}
use Rattle.xt_protocol.specs.FileStates.{FileState}
use Rattle.xt_protocol.specs.Turns.{quiet}
use Rattle.xt_protocol.specs.OsdSteps.{Outside, OsdState, OsdStep}
use Rattle.lease_safety.specs.State.{Has}
use Rattle.lease_runs.specs.LeaseWorld.{LeaseSetting, LeaseNode, LeaseWorld}
use Rattle.lease_runs.specs.LeaseView.{held_ends}
use Rattle.listed_leases.proofs.OsdLeases.{handled}
use Rattle.list_rows.specs.ListSteps.{file_named, step_with_lists, taken_awake}
use Rattle.version_leases.specs.Seen.{awake_as, file_of, osd_seen, is_of_version, IsPast, HasMembers, RunsIn, FileFits, OneEach}
use Rattle.version_leases.specs.Steps.{nothing, MayCome, IsMoves, StepsAreMoves}
use Rattle.version_leases.proofs.Messages.{own_moves, other_moves}
use Rattle.version_leases.proofs.Wakes.{wake_moves}
use Rattle.version_leases.proofs.Reaching.{unmoved}

module _ (g : LeaseSetting) (closed : ℕ → Bool) (world : LeaseWorld) (node : NodeId) (gone : LeaseNode) (end : Option ℕ) (boot : Boot) (clock : ℕ) (s : OsdState) (outside : Outside)
    (is : RunsIn g world node gone end boot clock s) (closed_past : closed node.0 ≡ true → IsPast g.list (file_of g s).kept) where
  abbrev Moves : Event → Type 0
  Moves happens = IsMoves g closed world node gone end boot clock s outside happens

  -- the step by whether the silence after the start is over
  whole : (happens : Event) (a : Option Awake) → awake_at s.started (max clock s.last) ≡ a
      → step_with_lists outside s clock happens ≡ taken_awake outside s (max clock s.last) happens a
  unfolding step_with_lists
  whole happens a at = ap (λ (a : Option Awake). taken_awake outside s (max clock s.last) happens a) at

  -- a step that leaves all files as they are, and says nothing
  rests : (happens : Event) (last : ℕ) → step_with_lists outside s clock happens ≡ record { osd = record { started = s.started; last = last; files = s.files }; turned = quiet } → Moves happens
  rests happens last same =
      record {
        told = None;
        reports = nothing (ap (λ (o : OsdStep). held_ends o.turned.marks) same);
        leads =
            unmoved g closed world node gone end boot clock s is (step_with_lists outside s clock happens).osd end (step_with_lists outside s clock happens).turned.outs
            (ap (λ (o : OsdStep). osd_seen g gone end boot clock o.osd) same) (λ m h about. subst (λ (o : OsdStep). Has m o.turned.outs) same h);
      }

  by_named : (msg : Msg) (o : Option FileId) → file_named msg.payload ≡ o → msg.to ≡ node → (is_of_version g msg ≡ true → Has msg world.sent) → is_silent s.started (max clock s.last) ≡ false
      → HasMembers g (file_of g (step_with_lists outside s clock (event.Deliver msg)).osd).kept.location → Moves (event.Deliver msg)
  by_named msg None named mine came loud members =
      rests (event.Deliver msg) (max clock s.last)
      (whole (event.Deliver msg) (Some (awake_as s.started)) (ap (λ (b : Bool). cond b None (Some (awake_as s.started))) loud)
      ∙ ap (λ (o : Option FileId). handled outside s (max clock s.last) (awake_as s.started) msg o) named)
  by_named msg (Some concerned) named mine came loud members = by (is_file concerned g.file) refl
    where
      by : (b : Bool) → is_file concerned g.file ≡ b → Moves (event.Deliver msg)
      by true same =
          own_moves g closed world node gone end boot clock s outside is closed_past msg mine came loud (named ∙ ap (λ (k : FileId). Some k) (file-equal concerned g.file same)) members
      by false differs = other_moves g closed world node gone end boot clock s outside is closed_past msg mine came loud concerned named differs

  by_event : (happens : Event) → MayCome g world node happens → OneEach s → ((k : FileState) → Has k s.files → FileFits k) → is_silent s.started (max clock s.last) ≡ false
      → HasMembers g (file_of g (step_with_lists outside s clock happens).osd).kept.location → Moves happens
  by_event (event.Deliver msg) comes one_each all_fit loud members = by_named msg (file_named msg.payload) refl comes.0 comes.1 loud members
  by_event event.Wake comes one_each all_fit loud members =
      wake_moves g closed world node gone end boot clock s outside is closed_past one_each all_fit (ap (λ (b : Bool). cond b None (Some (awake_as s.started))) loud) members
  by_event (event.Call call) comes one_each all_fit loud members =
      rests (event.Call call) (max clock s.last) (whole (event.Call call) (Some (awake_as s.started)) (ap (λ (b : Bool). cond b None (Some (awake_as s.started))) loud))

pub event_moves : StepsAreMoves
event_moves g closed world node gone end boot clock s outside happens is comes one_each all_fit closed_past members = by (is_silent s.started (max clock s.last)) refl
  where
    by : (b : Bool) → is_silent s.started (max clock s.last) ≡ b → IsMoves g closed world node gone end boot clock s outside happens
    by true quiet_still =
        rests g closed world node gone end boot clock s outside is closed_past happens s.last
        (whole g closed world node gone end boot clock s outside is closed_past happens None (ap (λ (b : Bool). cond b None (Some (awake_as s.started))) quiet_still))
    by false loud = by_event g closed world node gone end boot clock s outside is closed_past happens comes one_each all_fit loud members
