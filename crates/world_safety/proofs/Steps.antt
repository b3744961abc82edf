-- a step of the world, as events of a file's world
use Rattle.std.proofs.Common.{◌≡◌, ◌≢◌, ℕ, inl, inr, List, [], ◌∷◌, ◌++◌, refl, ap, sym, ◌∙◌, subst, Option, Some, Bool, true, false}
use Rattle.std.specs.Prelude.{◌⊎◌, ◌==◌, max}
use Rattle.xt_base.specs.declared.ids.FileId.{FileId}
use Rattle.xt_messages.specs.declared.event.Event as NodeEvent
use Rattle.xt_messages.specs.declared.event.Event.TheVariants as event
use Rattle.xt_messages.specs.declared.file.Op.{Op}
use Rattle.xt_base.specs.declared.ids.Epoch.{Epoch}
use Rattle.xt_base.specs.declared.ids.Stamp.{Stamp}
use Rattle.xt_messages.specs.declared.message.Payload.TheVariants as payload
use Rattle.xt_messages.specs.declared.record.Record.{Record}
use Rattle.replica_safety.specs.Epochs.{at_node}
use Rattle.xt_protocol.specs.FileSteps.{step_of_file}
use Rattle.file_runs.specs.FileRuns.{acted, keeping}
use Rattle.world_safety.specs.Seen.{nodes_seen}
use Rattle.world_safety.specs.Asks.{IsOutside}
use Rattle.world_safety.proofs.Asks.{outside_is_idle}
use Rattle.xt_messages.specs.declared.message.Msg.{Msg}
use Rattle.xt_protocol.specs.LeaseRows.{lease_expired}
use Rattle.lease_safety.specs.State.{Has}
use Rattle.xt_protocol.specs.Overdue.{expired}
use Rattle.osd_invariants.specs.Sound.{IsHeld, IsSound}
use Rattle.osd_invariants.proofs.SoundSteps
use Rattle.lease_runs.specs.LeaseView.{settled_row}
use Rattle.xt_protocol.specs.FileStates.{FileState, Site, FileStep}
use Rattle.xt_protocol.specs.OsdSteps.{OsdState, file_concerned}
use Rattle.xt_protocol.specs.declared.states.Tenure.{Tenure}
use Rattle.replica_runs.specs.FileView.{IsFree}
use Rattle.file_runs.specs.FileRuns.{FileWorld, Event, Happening, Sent, Tale, message, wake, goes_on, acts, step_on, sent_by, Comes, OwnComes, May, after, after_all}
use Rattle.time_line.specs.Clauses.{AreApart}
use Rattle.world_spec.specs.World.{World, Node, Running, osd, known}
use Rattle.world_spec.specs.NodeSteps.{one_more, one_put}
use Rattle.world_runs.specs.View.{awake_as}
use Rattle.world_runs.specs.Worlds.{IsInOrder, Leads, CoreFits, UpFits}
use Rattle.world_runs.proofs.Files.{at_fits}
use Rattle.world_runs.proofs.Tables.{node_in-new}
use Rattle.world_safety.specs.Seen.{file_seen, Sees}
use Rattle.world_safety.specs.Events.{RunsAs, IsAwake, site_at, step_at, stepped}
use Rattle.world_safety.specs.May.{LeadersHold}
use Rattle.world_safety.specs.Steps.{IsRun}
use Rattle.world_safety.proofs.Events.{messages_show, message_leaves, wake_leaves, wake_taken}
use Rattle.world_safety.proofs.Nodes.{same_number, other_number}
use Rattle.world_safety.proofs.May.{later}
use Rattle.world_safety.proofs.Rooms.{may_append, after_append, makes_room}
use Rattle.world_safety.proofs.Leaders.{steps_may, leaders_go_on, led_before, led_after}
use Rattle.world_safety.proofs.Winners.{led_held, wins_in_time, winners_are_alone}

module _ (stripe : ℕ) (ops : ℕ × ℕ → Op) (members : List ℕ) (file : FileId) (w : World) (own own_after outs : List Msg) (node : Node) (r : Running) (s : OsdState) (comes_in : NodeEvent.Event) (happens : Happening)
    (order : IsInOrder w own) (order_after : IsInOrder (stepped w node r s comes_in outs) own_after)
    (apart : AreApart file.number w.entries) (apart_after : AreApart file.number (stepped w node r s comes_in outs).entries)
    (its : RunsAs w node r s)
    (is_state : file_seen file (step_at node r s comes_in).osd ≡ (step_on (site_at node r s) (file_seen file s) happens).state)
    (shows : (v : FileWorld) → Sees file w v → Sees file (stepped w node r s comes_in outs) (after v (acts node.id.0 (file_seen file s) (site_at node r s) happens goes_on)))
    (stays_sound : IsSound (file_seen file s) → IsSound (step_on (site_at node r s) (file_seen file s) happens).state) where
  abbrev n : ℕ
  n = node.id.0

  abbrev site : Site
  site = site_at node r s

  abbrev step : FileStep
  step = step_on site (file_seen file s) happens

  abbrev behind : World
  behind = stepped w node r s comes_in outs

  abbrev next : OsdState
  next = (step_at node r s comes_in).osd

  abbrev running : Running
  running = record r { core = osd next }

  abbrev node_after : Node
  node_after = record node { kept = one_more node.kept (step_at node r s comes_in).turned.rec; past = one_put node.past (step_at node r s comes_in).turned.rec; up = Some running }

  its_after : RunsAs behind node_after running next
  its_after = record { found = node_in-new w.nodes node_after node its.found; up = refl; core = refl }

  fits : CoreFits w.times (known w) node.id node.kept r (osd s)
  fits = subst (CoreFits w.times (known w) node.id node.kept r) its.core (subst (UpFits w.times (known w) node.id node.kept) its.up (order.nodes n node its.found).up)

  now_is : max r.clock s.last ≡ r.clock
  now_is = later r.clock s.last fits.0.last

  -- nobody else led, where the lease is held after the step
  alone_before : IsHeld step.state.lease → (m : ℕ) → Leads w file m → m ≡ n
  alone_before is m lead = at (wins_in_time site (file_seen file s) happens is)
    where
      by_number : (b : Bool) → (m == n) ≡ b → ((m ≢ n) → m ≡ n) → m ≡ n
      by_number true same other = same_number m n same
      by_number false differs other = other (other_number m n differs)

      at : IsHeld (settled_row site (file_seen file s)).lease ⊎ IsHeld (lease_expired step.state.lease site.now) → m ≡ n
      at (inl before) = winners_are_alone file w own node r s order apart its (subst (λ (c : ℕ). IsHeld (lease_expired (file_seen file s).lease c)) now_is before) m lead
      at (inr now) =
          by_number (m == n) refl (λ ne. winners_are_alone file behind own_after node_after running next order_after apart_after its_after
          (subst (λ (x : FileState). IsHeld (lease_expired x.lease r.clock)) (sym is_state) (subst (λ (c : ℕ). IsHeld (lease_expired step.state.lease c)) now_is now))
          m (led_after file w behind node_after m refl ne lead))

  -- nor does anybody else after it
  alone_behind : (t : Tenure) → step.state.primary.tenure ≡ Some t → (m : ℕ) → Leads behind file m → m ≡ n
  alone_behind t is m lead = at (m == n) refl
    where
      sound : IsSound step.state
      sound = stays_sound (at_fits (known w) (awake_as s.started) s.files file fits.0.fits).sound

      at : (b : Bool) → (m == n) ≡ b → m ≡ n
      at true same = same_number m n same
      at false differs = alone_before (led_held step.state.lease step.state.primary.tenure t is sound.led) m (led_before file w behind node_after m refl (other_number m n differs) lead)

  acting : (v : FileWorld) → Comes stripe ops members v happens → OwnComes node.id.0 (file_seen file s) happens → Sees file w v → LeadersHold file w v → (IsHeld step.state.lease → IsFree n v.holder)
      → (May stripe ops members v (acts n (file_seen file s) site happens goes_on)) × Sees file behind (after v (acts n (file_seen file s) site happens goes_on)) × LeadersHold file behind (after v (acts n (file_seen file s) site happens goes_on))
  acting v comes mine sees leaders alone = (
    steps_may stripe ops members file w own node r s v happens goes_on order its sees leaders comes mine alone tt,
    shows v sees,
    leaders_go_on file w behind node_after running next v step refl its_after is_state alone_behind leaders,
  )

  abbrev acts_now : Event
  acts_now = acts n (file_seen file s) site happens goes_on

  ran : (v : FileWorld) → Comes stripe ops members v happens → OwnComes node.id.0 (file_seen file s) happens → Sees file w v → LeadersHold file w v → IsRun stripe ops members file behind n v step
  ran v comes mine sees leaders =
      let room = makes_room stripe ops members file w n step.state.lease v sees leaders alone_before in
      let comes_then = subst (λ (k : List Sent). Comes stripe ops members (record v { sent = k }) happens) (sym room.same_sent) comes in
      let p = acting (after_all v room.lost) comes_then mine room.sees room.leaders room.free in
      let same = after_append v room.lost (acts_now ∷ []) in
      record {
        events = room.lost ++ acts_now ∷ [];
        may = may_append stripe ops members v room.lost (acts_now ∷ []) room.may (p.0, tt);
        sees = subst (Sees file behind) (sym same) p.1;
        leaders = subst (LeadersHold file behind) (sym same) p.2;
        sent = ap (λ (k : FileWorld). k.sent) same ∙ ap (λ (k : List Sent). sent_by n step.turned.outs ++ k) room.same_sent;
        tales = ap (λ (k : FileWorld). k.tales) same ∙ ap (λ (k : List Tale). record { node = n; marks = step.turned.marks } ∷ k) room.same_tales;
      }

pub messages_run : (stripe : ℕ) (ops : ℕ × ℕ → Op) (members : List ℕ) (file : FileId) (w : World) (own own_after outs : List Msg) (node : Node) (r : Running) (s : OsdState) (msg : Msg) (v : FileWorld)
    → IsInOrder w own → IsInOrder (stepped w node r s (event.Deliver msg) outs) own_after
    → AreApart file.number w.entries → AreApart file.number (stepped w node r s (event.Deliver msg) outs).entries
    → RunsAs w node r s → IsAwake r s → file_concerned msg.payload ≡ Some file → Comes stripe ops members v (message msg.from msg.payload)
    → OwnComes node.id.0 (file_seen file s) (message msg.from msg.payload)
    → Sees file w v → LeadersHold file w v
    → IsRun stripe ops members file (stepped w node r s (event.Deliver msg) outs) node.id.0 v (step_on (site_at node r s) (file_seen file s) (message msg.from msg.payload))
messages_run stripe ops members file w own own_after outs node r s msg v order order_after apart apart_after its awake concerns comes mine sees leaders =
    ran stripe ops members file w own own_after outs node r s (event.Deliver msg) (message msg.from msg.payload) order order_after apart apart_after its
    (message_leaves file node r s msg awake concerns) (λ v sees. (messages_show file w node r s msg v its awake concerns sees).takes outs)
    (SoundSteps.step_so (site_at node r s) (file_seen file s) msg.from msg.payload) v comes mine sees leaders

-- nobody else leads where a message leaves the lease held
pub message_alone : (stripe : ℕ) (ops : ℕ × ℕ → Op) (members : List ℕ) (file : FileId) (w : World) (own own_after outs : List Msg) (node : Node) (r : Running) (s : OsdState) (msg : Msg)
    → IsInOrder w own → IsInOrder (stepped w node r s (event.Deliver msg) outs) own_after
    → AreApart file.number w.entries → AreApart file.number (stepped w node r s (event.Deliver msg) outs).entries
    → RunsAs w node r s → IsAwake r s → file_concerned msg.payload ≡ Some file
    → IsHeld (step_on (site_at node r s) (file_seen file s) (message msg.from msg.payload)).state.lease → (m : ℕ) → Leads w file m → m ≡ node.id.0
message_alone stripe ops members file w own own_after outs node r s msg order order_after apart apart_after its awake concerns =
    alone_before stripe ops members file w own own_after outs node r s (event.Deliver msg) (message msg.from msg.payload) order order_after apart apart_after its
    (message_leaves file node r s msg awake concerns) (λ v sees. (messages_show file w node r s msg v its awake concerns sees).takes outs)
    (SoundSteps.step_so (site_at node r s) (file_seen file s) msg.from msg.payload)

pub wakes_run : (stripe : ℕ) (ops : ℕ × ℕ → Op) (members : List ℕ) (file : FileId) (w : World) (own own_after outs : List Msg) (node : Node) (r : Running) (s : OsdState) (v : FileWorld)
    → IsInOrder w own → IsInOrder (stepped w node r s event.Wake outs) own_after
    → AreApart file.number w.entries → AreApart file.number (stepped w node r s event.Wake outs).entries
    → RunsAs w node r s → IsAwake r s → Has (file_seen file s) s.files → Sees file w v → LeadersHold file w v
    → IsRun stripe ops members file (stepped w node r s event.Wake outs) node.id.0 v (step_on (site_at node r s) (file_seen file s) wake)
wakes_run stripe ops members file w own own_after outs node r s v order order_after apart apart_after its awake met sees leaders =
    ran stripe ops members file w own own_after outs node r s event.Wake wake order order_after apart apart_after its
    (wake_leaves file node r s awake met) (λ v sees. wake_taken file w node r s outs v its awake met sees)
    (λ sound. SoundSteps.wake_so (site_at node r s) (expired (site_at node r s) (file_seen file s)).state (SoundSteps.expired_so (site_at node r s) (file_seen file s) sound)) v tt tt sees leaders

-- ---- what leaves the object

-- a step of the same state and record leads to the same nodes
same_nodes_after : (file : FileId) (after_it : World) (v : FileWorld) (n : ℕ) (a b : FileStep) → a.state ≡ b.state → a.turned.rec ≡ b.turned.rec → Sees file after_it (acted v n a goes_on) → Sees file after_it (acted v n b goes_on)
same_nodes_after file after_it v n a b state rec sees =
    subst (λ (k : Option Record). at_node n (keeping (v.nodes n) (Some b.state) k) v.nodes ≡ nodes_seen file after_it) rec
    (subst (λ (x : FileState). at_node n (keeping (v.nodes n) (Some x) a.turned.rec) v.nodes ≡ nodes_seen file after_it) state sees)

pub outside_runs : (stripe : ℕ) (ops : ℕ × ℕ → Op) (members : List ℕ) (file : FileId) (w : World) (own own_after outs : List Msg) (node : Node) (r : Running) (s : OsdState) (msg : Msg) (v : FileWorld)
    (epoch : Epoch) (object : ℕ) (version : Stamp) → IsInOrder w own → IsInOrder (stepped w node r s (event.Deliver msg) outs) own_after
    → AreApart file.number w.entries → AreApart file.number (stepped w node r s (event.Deliver msg) outs).entries
    → RunsAs w node r s → IsAwake r s → file_concerned msg.payload ≡ Some file → IsOutside msg.payload → Sees file w v → LeadersHold file w v
    → IsRun stripe ops members file (stepped w node r s (event.Deliver msg) outs) node.id.0 v
    (step_on (site_at node r s) (file_seen file s) (message msg.from (payload.Fetch file epoch object version)))
outside_runs stripe ops members file w own own_after outs node r s msg v epoch object version order order_after apart apart_after its awake concerns outside sees leaders =
    let site = site_at node r s in
    let fetch = payload.Fetch file epoch object version in
    let same = outside_is_idle site (file_seen file s) msg.from msg.payload file epoch object version outside in
    ran stripe ops members file w own own_after outs node r s (event.Deliver msg) (message msg.from fetch) order order_after apart apart_after its
    (message_leaves file node r s msg awake concerns ∙ same.state)
    (λ v sees. same_nodes_after file (stepped w node r s (event.Deliver msg) outs) v node.id.0 (step_of_file site (file_seen file s) msg.from msg.payload) (step_of_file site (file_seen file s) msg.from fetch)
    same.state same.rec ((messages_show file w node r s msg v its awake concerns sees).takes outs))
    (SoundSteps.step_so site (file_seen file s) msg.from fetch) v (inr refl, tt) tt sees leaders
