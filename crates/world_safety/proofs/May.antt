-- what a step of a file rests on, and who holds the file
use Rattle.std.proofs.Common.{◌≡◌, ℕ, List, [], ◌∷◌, refl, arith, ap, sym, ◌∙◌, subst, Option, Some, None, Bool, true, false}
use Rattle.std.specs.Prelude.{cond, max, ◌≤◌, ◌==◌}
use Rattle.std.proofs.lemmas.Bool.Decides.{nat_tests}
use Rattle.xt_base.specs.declared.ids.FileId.{FileId}
use Rattle.xt_messages.specs.declared.file.Op.{Op}
use Rattle.xt_messages.specs.declared.message.Msg.{Msg}
use Rattle.xt_protocol.specs.LeaseRows.{Silent}
use Rattle.xt_protocol.specs.OsdSteps.{OsdState}
use Rattle.xt_protocol.specs.Overdue.{expired}
use Rattle.lease_runs.specs.OsdView.{site_of}
use Rattle.lease_runs.proofs.OsdLeases.{at_file}
use Rattle.replica_runs.specs.FileView.{IsFree}
use Rattle.replica_runs.specs.Steps.{without}
use Rattle.file_runs.specs.FileRuns.{FileNode, FileWorld, lapses}
use Rattle.world_spec.specs.World.{World, Node, Running, osd, known}
use Rattle.xt_protocol.specs.SeenBodies.{body_by}
use Rattle.world_spec.specs.NodeSteps.{outside_of}
use Rattle.world_runs.specs.View.{awake_as}
use Rattle.world_runs.specs.Worlds.{IsInOrder, Leads, CoreFits, UpFits}
use Rattle.world_safety.specs.Seen.{file_seen, core_state, up_state, Sees}
use Rattle.world_safety.specs.Events.{RunsAs}
use Rattle.world_safety.specs.May.{StandsFor, LeadersHold, IsFreed}
use Rattle.world_safety.proofs.Nodes.{here}

pub later : (a b : ℕ) → b ≤ a → max a b ≡ a
later a b below = grind (arith, below)

pub steps_stand : (file : FileId) (w : World) (own : List Msg) (node : Node) (r : Running) (s : OsdState) (v : FileWorld) → IsInOrder w own → RunsAs w node r s
    → Sees file w v → StandsFor file w node r s v
steps_stand file w own node r s v order its sees =
    let there = here file w node its.found v sees in
    record {
      runs = ap (λ (x : FileNode). x.state) there ∙ (ap (up_state file) its.up ∙ ap (core_state file) its.core);
      here = ap (λ (t : Silent). t.node.0) fits.0.started;
      bodies = ap (body_by node.kept) (at_file (awake_as s.started) s.files file) ∙ sym (ap (λ (x : FileNode). x.body) there);
      leads = λ t is. record {
        node = node;
        running = r;
        state = s;
        tenure = t;
        found = its.found;
        up = its.up;
        core = its.core;
        leads = subst (λ (c : ℕ). (expired (site_of (outside_of node.kept) (awake_as s.started) c) (file_seen file s)).state.primary.tenure ≡ Some t) (later r.clock s.last fits.0.last) is;
      };
    }
  where
    fits : CoreFits w.times (known w) node.id node.kept r (osd s)
    fits = subst (CoreFits w.times (known w) node.id node.kept r) its.core (subst (UpFits w.times (known w) node.id node.kept) its.up (order.nodes node.id.0 node its.found).up)

-- ---- who holds

same_holder : (n m : ℕ) → Some n ≡ Some m → n ≡ m
same_holder n m is = cc

pub holders_make_room : (stripe : ℕ) (ops : ℕ × ℕ → Op) (members : List ℕ) (file : FileId) (w : World) (n : ℕ) (v : FileWorld) → Sees file w v → LeadersHold file w v
    → ((m : ℕ) → Leads w file m → m ≡ n) → IsFreed stripe ops members file w n v
holders_make_room stripe ops members file w n v sees leaders alone = at v.holder refl
  where
    rests : IsFree n v.holder → IsFreed stripe ops members file w n v
    rests free = record { lost = []; may = tt; sees = sees; leaders = leaders; same_sent = refl; same_tales = refl; free = free }

    -- none leads but who doesn't hold
    nobody : (k : ℕ) → v.holder ≡ Some k → (k == n) ≡ false → (m : ℕ) → Leads w file m → ⊥
    nobody k is differs m leads = (let held : Some m ≡ Some k = sym (leaders m leads) ∙ is in let same = same_holder m k held in let mine = alone m leads in grind (arith, nat_tests))

    gone : (k : ℕ) → without k (Some k) ≡ None
    gone k = at_once (k == k) refl
      where
        at_once : (b : Bool) → (k == k) ≡ b → cond b None (Some k) ≡ None
        at_once true is = refl
        at_once false is = grind (arith, nat_tests)

    other : (k : ℕ) → v.holder ≡ Some k → (b : Bool) → (k == n) ≡ b → IsFreed stripe ops members file w n v
    other k is true same = rests (λ m has. (let e : Some m ≡ Some k = sym has ∙ is in let mk = same_holder m k e in grind (arith, nat_tests)))
    other k is false differs =
        let none : without k v.holder ≡ None = ap (without k) is ∙ gone k in
        record {
          lost = lapses k ∷ [];
          may = (tt, tt);
          sees = sees;
          leaders = λ m leads. absurd (nobody k is differs m leads);
          same_sent = refl;
          same_tales = refl;
          free = λ m has. absurd (let e : None ≡ Some m = sym none ∙ has in cc);
        }

    at : (o : Option ℕ) → v.holder ≡ o → IsFreed stripe ops members file w n v
    at None is = rests (λ m has. absurd (let e : None ≡ Some m = sym is ∙ has in cc))
    at (Some k) is = other k is (k == n) refl
