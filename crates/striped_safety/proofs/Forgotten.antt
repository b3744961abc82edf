-- an OSD that forgets bodies has of a striped file what it had
use Rattle.std.proofs.Common.{◌≡◌, ℕ, ◌<◌, inl, inr, List, [], refl, ap, sym, ◌∙◌, subst, Option, Some, None, true}
use Rattle.std.specs.Prelude.{if◌then◌else◌}
use Rattle.std.proofs.lemmas.List.{append-nil}
use Rattle.xt_base.specs.declared.ids.NodeId.{NodeId}
use Rattle.xt_base.specs.declared.ids.Stamp.{Stamp}
use Rattle.xt_messages.specs.declared.file.FileHead.{FileHead}
use Rattle.xt_messages.specs.declared.file.Location.{Location}
use Rattle.xt_messages.specs.declared.file.ObjectVersion.{ObjectVersion}
use Rattle.xt_messages.specs.declared.message.Msg.{Msg}
use Rattle.replica_safety.specs.Epochs.{at_node}
use Rattle.replica_runs.proofs.Tools.{by_node}
use Rattle.replica_runs.specs.HeadSteps.{AreKept}
use Rattle.replica_runs.specs.Seen.{NamesHeld}
use Rattle.xt_protocol.specs.FileStates.{FileState}
use Rattle.xt_protocol.specs.Folds.{body_of}
use Rattle.xt_protocol.specs.Forgetting.{keep_of, osd_without}
use Rattle.xt_protocol.specs.Heads.{version_of}
use Rattle.xt_protocol.specs.Objects.{present_body}
use Rattle.xt_protocol.specs.OsdSteps.{OsdState}
use Rattle.xt_protocol.specs.Stamps.{has_version}
use Rattle.file_runs.specs.FileRuns.{FileNode}
use Rattle.client_rows.specs.Rows.{WholeClient}
use Rattle.world_spec.specs.World.{World, Node, Running, osd, client, with_node}
use Rattle.world_spec.specs.NodeSteps.{rewritten_at}
use Rattle.world_runs.specs.Worlds.{IsInOrder}
use Rattle.world_safety.specs.Seen.{file_seen, nodes_seen}
use Rattle.world_safety.specs.Events.{RunsAs}
use Rattle.world_safety.proofs.Forgotten.{held_then, body_then, may_forget, sees_then}
use Rattle.striped_safety.specs.Members.{Member}
use Rattle.striped_safety.specs.StripedWorld.{Setting, StripedWorld, IsSetting, width_of, node_at, forgets, with_bodies, HasSame, ops_of, done_with}
use Rattle.striped_safety.specs.StripedWorld as striped
use Rattle.striped_safety.proofs.Callers.{put_callers, put_absent}
use Rattle.striped_safety.proofs.Follows.{setting_of, IsQuiet, Follows, FileFollows, Calm, lost_rests, alone_rests, begun_rests, reads_rest, caller_rests, client_moved}
use Rattle.striped_safety.proofs.Moves.{step_stands}
use Rattle.striped_safety.proofs.Named.{IsMembers, version_named}
use Rattle.striped_safety.proofs.OsdMoves.{view}
use Rattle.striped_safety.proofs.Trace.{none_still}

module _ (s : Setting) (setting : IsSetting s) (w : World) (own : List Msg) (node : Node) (r : Running) (o : OsdState) (its : RunsAs w node r o) (held : List ObjectVersion) (body : ℕ → Stamp → List ℕ) (state : Option FileState)
    (sees : at_node node.id.0 (record { state = state; kept = record (nodes_seen s.file w node.id.0).kept { held = held }; body = body }) (nodes_seen s.file w) ≡ nodes_seen s.file (record w { nodes = with_node w.nodes (rewritten_at node r o) }))
    (kept : AreKept (nodes_seen s.file w node.id.0).kept.held held (nodes_seen s.file w node.id.0).kept.head.versions)
    (same : (object : ℕ) (version : Stamp) → has_version held (body_of object version) ≡ true → body object version ≡ (nodes_seen s.file w node.id.0).body object version) where
  abbrev there : FileNode
  there = record { state = state; kept = record (nodes_seen s.file w node.id.0).kept { held = held }; body = body }

  abbrev after : World
  after = record w { nodes = with_node w.nodes (rewritten_at node r o) }

  calm : Calm s w (record w { nodes = with_node w.nodes (rewritten_at node r o) })
  calm =
      record {
        more = [];
        split = sym (append-nil w.entries);
        still = none_still;
        caller = put_callers s.file.number s.client.0 w (record w { nodes = with_node w.nodes (rewritten_at node r o) }) node (rewritten_at node r o) its.found refl
            (λ q c up core. absurd (no_client (osd_without (keep_of o) o) c (let same_run : record r { core = osd (osd_without (keep_of o) o) } ≡ q = cc up in ap (λ (x : Running). x.core) same_run ∙ core)));
        absent = put_absent w.nodes node (rewritten_at node r o) s.client.0 its.found;
      }
    where
      no_client : (x : OsdState) (c : WholeClient) → osd x ≡ client c → ⊥
      no_client x c is = cc is

  -- a node has of each object what it had, and its head
  HasStill : ℕ → FileNode → Type 0
  HasStill n x = (x.kept.head ≡ (nodes_seen s.file w n).kept.head) × ((object : ℕ) → present_body x.body (version_of (nodes_seen s.file w n).kept.head.versions object) object
      ≡ present_body (nodes_seen s.file w n).body (version_of (nodes_seen s.file w n).kept.head.versions object) object)

  has_still : NamesHeld (nodes_seen s.file w node.id.0).kept.held (nodes_seen s.file w node.id.0).kept.head.versions → (n : ℕ)
      → ((nodes_seen s.file (record w { nodes = with_node w.nodes (rewritten_at node r o) }) n).kept.head ≡ (nodes_seen s.file w n).kept.head)
      × ((object : ℕ) → present_body (nodes_seen s.file (record w { nodes = with_node w.nodes (rewritten_at node r o) }) n).body (version_of (nodes_seen s.file w n).kept.head.versions object) object
      ≡ present_body (nodes_seen s.file w n).body (version_of (nodes_seen s.file w n).kept.head.versions object) object)
  unfolding HasStill
  has_still names n =
      subst (λ (f : ℕ → FileNode). HasStill n (f n)) sees
      (by_node (λ b. HasStill n (if b then there else nodes_seen s.file w n)) n node.id.0 (λ e. subst (λ (k : ℕ). HasStill k there) (sym e) (refl, λ object. present object (version_of (nodes_seen s.file w node.id.0).kept.head.versions object) refl)) (λ _. (refl, λ object. refl)))
    where
      present : (object : ℕ) (version : Option Stamp) → version_of (nodes_seen s.file w node.id.0).kept.head.versions object ≡ version → present_body body version object ≡ present_body (nodes_seen s.file w node.id.0).body version object
      present object None is = refl
      present object (Some version) is =
          let named = version_named (nodes_seen s.file w node.id.0).kept.head.versions object version is in
          same object version (kept (body_of object version) named (names (body_of object version) named))

  members_still : ((n : ℕ) → IsMembers (nodes_seen s.file w n).kept) → (n : ℕ) → IsMembers (nodes_seen s.file (record w { nodes = with_node w.nodes (rewritten_at node r o) }) n).kept
  members_still are n =
      subst (λ (f : ℕ → FileNode). IsMembers (f n).kept) sees
      (by_node (λ b. IsMembers (if b then there else nodes_seen s.file w n).kept) n node.id.0 (λ _. ((are node.id.0).0, λ v named. kept v named ((are node.id.0).1 v named))) (λ _. are n))

  module _ (quiet : IsQuiet s.file w own) where
    forgets_quiet : IsQuiet s.file (record w { nodes = with_node w.nodes (rewritten_at node r o) }) own
    forgets_quiet = record { members = members_still quiet.members; asked = quiet.asked }

    abbrev bodies : ℕ → ℕ → Stamp → List ℕ
    bodies place = (nodes_seen s.file (record w { nodes = with_node w.nodes (rewritten_at node r o) }) (node_at s place).0).body

    forgets_follow : (m : StripedWorld) → Follows s w own m
        → Follows s (record w { nodes = with_node w.nodes (rewritten_at node r o) }) own (striped.after s m (forgets (λ place. (nodes_seen s.file (record w { nodes = with_node w.nodes (rewritten_at node r o) }) (node_at s place).0).body)))
    forgets_follow m is =
        record {
          stands = step_stands s setting m (forgets (λ place. (nodes_seen s.file (record w { nodes = with_node w.nodes (rewritten_at node r o) }) (node_at s place).0).body)) may is.stands;
          members = λ place low.
              ap (λ (h : FileHead). let x : Member = record { head = h; body = (nodes_seen s.file (record w { nodes = with_node w.nodes (rewritten_at node r o) }) (node_at s place).0).body } in x)
              (ap (λ (x : Member). x.head) (is.members place low) ∙ sym (has_still (quiet.members node.id.0).1 (node_at s place).0).0);
          asks = is.asks;
          replies = is.replies;
          alone = alone_rests s w (record w { nodes = with_node w.nodes (rewritten_at node r o) }) calm is.alone;
          begun = begun_rests s w (record w { nodes = with_node w.nodes (rewritten_at node r o) }) calm (ops_of (done_with m.done m.runs)) is.begun;
          reads = reads_rest s w (record w { nodes = with_node w.nodes (rewritten_at node r o) }) calm m.reads is.reads;
          caller = λ n q c runs. client_moved s w.entries m _ m.replies c (caller_rests s w (record w { nodes = with_node w.nodes (rewritten_at node r o) }) calm m is.caller n q c runs);
          unborn = λ none. is.unborn (calm.absent none);
        }
      where
        may : (place : ℕ) → place < width_of s → HasSame (nodes_seen s.file (record w { nodes = with_node w.nodes (rewritten_at node r o) }) (node_at s place).0).body (m.members place)
        may place low =
            subst (HasSame (nodes_seen s.file (record w { nodes = with_node w.nodes (rewritten_at node r o) }) (node_at s place).0).body) (sym (is.members place low))
            (has_still (quiet.members node.id.0).1 (node_at s place).0).1

pub forgotten_follows : (vol : List ℕ) (number : ℕ) (location : Location) (who : NodeId) → IsSetting (setting_of vol number location who) → (w : World) (own : List Msg) (node : Node) (r : Running) (o : OsdState) → IsInOrder w own → RunsAs w node r o
    → FileFollows vol number location who w own → FileFollows vol number location who (record w { nodes = with_node w.nodes (rewritten_at node r o) }) own
forgotten_follows vol number location who setting w own node r o order its is =
    let s = setting_of vol number location who in
    let v = view s.file w in
    let held = held_then s.file w own node r o order its v refl in
    let body = body_then s.file w own node r o order its v refl in
    let state = Some (record (file_seen s.file o) { kept = record (file_seen s.file o).kept { held = held } }) in
    let may = may_forget s.file w own node r o order its v refl in
    let sees = sees_then s.file w own node r o order its v refl in
    record {
      quiet = forgets_quiet s setting w own node r o its held body state sees may.head may.same is.quiet;
      fares = elim is.fares [
        | inl gone ↦ inl (lost_rests s w _ (calm s setting w own node r o its held body state sees may.head may.same) gone)
        | inr follows ↦ inr (_, forgets_follow s setting w own node r o its held body state sees may.head may.same is.quiet follows.0 follows.1)
      ];
    }
