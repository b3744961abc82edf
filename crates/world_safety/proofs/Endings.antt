-- an OSD that stops, as events of a file's world
use Rattle.std.proofs.Common.{◌≡◌, ℕ, List, [], ◌∷◌, ◌++◌, refl, sym, ◌∙◌, subst, Option, Some, None}
use Rattle.xt_base.specs.declared.ids.FileId.{FileId}
use Rattle.xt_messages.specs.declared.event.Event.TheVariants as event
use Rattle.xt_messages.specs.declared.file.Op.{Op}
use Rattle.xt_messages.specs.declared.message.Msg.{Msg}
use Rattle.xt_messages.specs.declared.record.Record.{Record}
use Rattle.xt_protocol.specs.LeaseRows.{lease_expired}
use Rattle.time_line.specs.declared.entry.Halt.{Halt}
use Rattle.xt_protocol.specs.OsdSteps.{OsdState, file_concerned}
use Rattle.osd_invariants.specs.Sound.{IsHeld}
use Rattle.file_runs.specs.FileRuns.{FileWorld, Sent, Tale, Event, Happening, message, wake, Ending, stops_kept, stops_lost, acts, step_on, Comes, OwnComes, MayEnd, May, after, after_all}
use Rattle.time_line.specs.declared.entry.Entry.TheVariants as entry
use Rattle.time_line.specs.Clauses.{AreApart}
use Rattle.world_spec.specs.World.{World, Node, Running, osd, puts, known}
use Rattle.world_spec.specs.NodeSteps.{halted, one_more, one_put}
use Rattle.world_runs.specs.View.{messages}
use Rattle.world_runs.specs.Worlds.{IsInOrder, Leads, CoreFits, UpFits}
use Rattle.world_runs.proofs.Lists.{has_right}
use Rattle.world_runs.proofs.Tables.{node_in-new}
use Rattle.world_safety.specs.Seen.{file_seen, Sees, IsNotOf}
use Rattle.world_safety.specs.Events.{RunsAs, IsAwake, site_at, step_at, stopped_with}
use Rattle.world_safety.specs.May.{LeadersHold}
use Rattle.world_safety.specs.Tellings.{TellsAs}
use Rattle.world_safety.specs.Runs.{WasSent, IsShownBy, LeadsTo}
use Rattle.world_safety.proofs.Nodes.{lost}
use Rattle.world_safety.proofs.Events.{messages_show, same_rec}
use Rattle.world_safety.proofs.May.{later}
use Rattle.world_safety.proofs.Leaders.{steps_may, leaders_stop}
use Rattle.world_safety.proofs.Winners.{wake_found, winners_are_alone}
use Rattle.world_safety.proofs.Rooms.{may_append, after_append, Room, makes_room}
use Rattle.world_safety.proofs.Shown.{one_says}

module _ (stripe : ℕ) (ops : ℕ × ℕ → Op) (members : List ℕ) (file : FileId) (w : World) (own : List Msg) (node : Node) (r : Running) (s : OsdState) (order : IsInOrder w own) (its : RunsAs w node r s) where
  -- A step that ends so, of which nothing is reported or sent.
  ended : (happens : Happening) (how : Ending) (there : Node) (q : Running) (halt : Halt) (v : FileWorld)
      → (let after_it = halted w there q halt in (u : FileWorld) → Sees file w u → Sees file after_it (after u (acts node.id.0 (file_seen file s) (site_at node r s) happens how)))
      → (let after_it = halted w there q halt in (u : FileWorld) → LeadersHold file w u → LeadersHold file after_it (after u (acts node.id.0 (file_seen file s) (site_at node r s) happens how)))
      → ((u : FileWorld) → (after u (acts node.id.0 (file_seen file s) (site_at node r s) happens how)).sent ≡ u.sent)
      → ((u : FileWorld) → (after u (acts node.id.0 (file_seen file s) (site_at node r s) happens how)).tales ≡ u.tales)
      → Comes stripe ops members v happens → OwnComes node.id.0 (file_seen file s) happens → MayEnd (step_on (site_at node r s) (file_seen file s) happens) how
      → (IsHeld (step_on (site_at node r s) (file_seen file s) happens).state.lease → (m : ℕ) → Leads w file m → m ≡ node.id.0)
      → IsShownBy stripe ops file w own v → LeadsTo stripe ops members file (halted w there q halt) [] v
  ended happens how there q halt v sees leads sent tales comes mine ends alone is =
      record {
        events = room.lost ++ acts_now ∷ [];
        may = may_append stripe ops members v room.lost (acts_now ∷ []) room.may (may, tt);
        is = subst (IsShownBy stripe ops file (halted w there q halt) []) (sym (after_append v room.lost (acts_now ∷ []))) shown_then;
      }
    where
      acts_now : Event
      acts_now = acts node.id.0 (file_seen file s) (site_at node r s) happens how

      room : Room stripe ops members file w node.id.0 (step_on (site_at node r s) (file_seen file s) happens).state.lease v
      room = makes_room stripe ops members file w node.id.0 (step_on (site_at node r s) (file_seen file s) happens).state.lease v is.sees is.leaders alone

      u : FileWorld
      u = after_all v room.lost

      may : May stripe ops members u acts_now
      may = steps_may stripe ops members file w own node r s u happens how order its room.sees room.leaders (subst (λ (k : List Sent). Comes stripe ops members (record v { sent = k }) happens) (sym room.same_sent) comes) mine room.free ends

      shown_then : IsShownBy stripe ops file (halted w there q halt) [] (after u acts_now)
      shown_then =
          record {
            sees = sees u room.sees;
            leaders = leads u room.leaders;
            sent = λ m h about. subst (λ (k : List Sent). WasSent m (record v { sent = k })) (sym (sent u ∙ room.same_sent)) (is.sent m (has_right m own (messages w) h) about);
            told = subst (λ (k : List Tale). TellsAs stripe ops file.number (w.entries ++ entry.Down there.id q.clock halt ∷ []) k) (sym (tales u ∙ room.same_tales)) (one_says file.number (entry.Down there.id q.clock halt) refl stripe ops w.entries v.tales is.told);
          }

  -- nobody else leads where a Wake leaves the lease held
  wake_alone : AreApart file.number w.entries → IsHeld (step_on (site_at node r s) (file_seen file s) wake).state.lease → (m : ℕ) → Leads w file m → m ≡ node.id.0
  wake_alone apart is m lead =
      let fits : CoreFits w.times (known w) node.id node.kept r (osd s)
      = subst (CoreFits w.times (known w) node.id node.kept r) its.core (subst (UpFits w.times (known w) node.id node.kept) its.up (order.nodes node.id.0 node its.found).up) in
      winners_are_alone file w own node r s order apart its
      (subst (λ (c : ℕ). IsHeld (lease_expired (file_seen file s).lease c)) (later r.clock s.last fits.0.last) (wake_found (site_at node r s) (file_seen file s) is)) m lead

  -- It stops, and keeps no record of the file in doing so.
  pub stopped : AreApart file.number w.entries → (rec : Option Record) (q : Running) (halt : Halt) → IsNotOf file rec → (v : FileWorld) → IsShownBy stripe ops file w own v
      → LeadsTo stripe ops members file (halted w (record node { kept = one_more node.kept rec; past = one_put node.past rec }) q halt) [] v
  stopped apart rec q halt away v is =
      let down : Node = record node { kept = one_more node.kept rec; past = one_put node.past rec; up = None } in
      ended wake stops_lost (record node { kept = one_more node.kept rec; past = one_put node.past rec }) q halt v
      (λ u sees. lost file w node its.found u sees rec away)
      (λ u leaders. leaders_stop file w (halted w (record node { kept = one_more node.kept rec; past = one_put node.past rec }) q halt) down u (step_on (site_at node r s) (file_seen file s) wake) refl
      (node_in-new w.nodes down node its.found) refl leaders)
      (λ u. refl) (λ u. refl) tt tt tt (wake_alone apart) is

  -- It stops in the append of the file's step, and the record is kept.
  pub stopped_kept : (msg : Msg) (rec : Record) (halt : Halt) → IsAwake r s → file_concerned msg.payload ≡ Some file → (step_at node r s (event.Deliver msg)).turned.rec ≡ Some rec
      → (IsHeld (step_on (site_at node r s) (file_seen file s) (message msg.from msg.payload)).state.lease → (m : ℕ) → Leads w file m → m ≡ node.id.0)
      → (v : FileWorld) → Comes stripe ops members v (message msg.from msg.payload) → OwnComes node.id.0 (file_seen file s) (message msg.from msg.payload) → IsShownBy stripe ops file w own v
      → LeadsTo stripe ops members file (stopped_with w node r s (event.Deliver msg) rec halt) [] v
  stopped_kept msg rec halt awake concerns is_rec alone v comes mine is =
      let there : Node = record node { kept = node.kept ++ rec ∷ []; past = node.past ++ puts rec ∷ [] } in
      let q : Running = record r { core = osd (step_at node r s (event.Deliver msg)).osd } in
      let down : Node = record node { kept = node.kept ++ rec ∷ []; past = node.past ++ puts rec ∷ []; up = None } in
      ended (message msg.from msg.payload) stops_kept there q halt v
      (λ u sees. (messages_show file w node r s msg u its awake concerns sees).keeps rec halt is_rec)
      (λ u leaders. leaders_stop file w (halted w there q halt) down u (step_on (site_at node r s) (file_seen file s) (message msg.from msg.payload)) refl
      (node_in-new w.nodes down node its.found) refl leaders)
      (λ u. refl) (λ u. refl) comes mine (rec, sym (same_rec file node r s msg awake concerns) ∙ is_rec) alone is
