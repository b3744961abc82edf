-- a step of an OSD, as a move of a striped file's world
use Rattle.std.proofs.Common.{◌≡◌, ℕ, suc, ◌<◌, inl, inr, List, [], ◌∷◌, ◌++◌, length, map, refl, ap, sym, ◌∙◌, arith, Option, Some, None, Bool, true, false}
use Rattle.std.specs.Prelude.{◌⊎◌, ◌==◌, ◌||◌, slice_get, unwrap_or, not, if◌then◌else◌}
use Rattle.std.proofs.lemmas.Bool.Decides.{nat_tests}
use Rattle.xt_base.specs.MemberList.{has_node, are_members}
use Rattle.xt_base.specs.declared.ids.NodeId.{NodeId}
use Rattle.xt_base.specs.declared.ids.FileId.{FileId}
use Rattle.xt_base.specs.declared.ids.OpId.{OpId}
use Rattle.xt_base.specs.declared.ids.Stamp.{Stamp}
use Rattle.xt_messages.specs.declared.file.Location.{Location}
use Rattle.xt_messages.specs.declared.file.Op.{Op}
use Rattle.xt_messages.specs.declared.reply.Reply.TheVariants as reply
use Rattle.xt_messages.specs.declared.reply.Denial.TheVariants as denial
use Rattle.xt_messages.specs.declared.message.Msg.{Msg}
use Rattle.xt_messages.specs.declared.event.Event.{Event}
use Rattle.xt_messages.specs.declared.record.FileRow.{FileRow}
use Rattle.xt_messages.specs.declared.record.Record.{Record}
use Rattle.xt_messages.specs.declared.record.Record.TheVariants as kept
use Rattle.lease_safety.specs.State.{Has}
use Rattle.xt_protocol.specs.OsdSteps.{OsdState, file_concerned}
use Rattle.xt_protocol.specs.PlainRows.{PlainFile, plain_after, plain_step, plain_refusal, served, refused_or, is_of_another}
use Rattle.xt_protocol.specs.PlainRows as plain
use Rattle.xt_protocol.specs.ReplicaRows.{kept_after}
use Rattle.file_runs.specs.FileRuns.{FileNode, FileWorld}
use Rattle.client_rows.specs.Rows.{WholeClient}
use Rattle.world_spec.specs.World.{World, Node, Running, osd, client}
use Rattle.world_spec.specs.NodeSteps.{entry_of, one_more, one_put, to_itself}
use Rattle.world_runs.proofs.Steps.{came}
use Rattle.world_safety.specs.Seen.{file_seen, nodes_seen, IsNotOf}
use Rattle.world_safety.specs.Events.{RunsAs, step_at, stepped}
use Rattle.world_safety.proofs.Events.{rested}
use Rattle.striped_safety.specs.StripedWorld.{Setting, width_of, node_at}
use Rattle.striped_safety.proofs.Follows.{Calm, Rests, IsNothing}
use Rattle.striped_safety.proofs.Callers.{put_callers, put_absent}
use Rattle.striped_safety.proofs.MemberRows.{got, got_once, distinct_of}
use Rattle.striped_safety.proofs.OsdSteps.{osd_still}

-- ---- what is seen of the nodes

-- the nodes that a world shows of the file, and nothing else
abbrev pub view : FileId → World → FileWorld
view file w = record { nodes = nodes_seen file w; holder = None; sent = []; tales = [] }

pub kept_seen_same : (file : FileId) (w after : World) → nodes_seen file w ≡ nodes_seen file after → (n : ℕ) → (nodes_seen file after n).kept ≡ (nodes_seen file w n).kept
kept_seen_same file w after same n = ap (λ (f : ℕ → FileNode). (f n).kept) (sym same)

pub body_seen_same : (file : FileId) (w after : World) → nodes_seen file w ≡ nodes_seen file after → (n : ℕ) → (nodes_seen file after n).body ≡ (nodes_seen file w n).body
body_seen_same file w after same n = ap (λ (f : ℕ → FileNode). (f n).body) (sym same)

-- ---- a step of an OSD

no_client : (s : OsdState) (c : WholeClient) → osd s ≡ client c → ⊥
no_client s c is = cc is

module _ (s : Setting) (w : World) (node : Node) (r : Running) (o : OsdState) (happens : Event) (outs : List Msg) (its : RunsAs w node r o) where
  abbrev pub after_step : World
  after_step = stepped w node r o happens outs

  pub step_calm : Calm s w (stepped w node r o happens outs)
  step_calm =
      let step = step_at node r o happens in
      let there : Node = record node { kept = one_more node.kept step.turned.rec; past = one_put node.past step.turned.rec; up = Some (record r { core = osd step.osd }) } in
      record {
        more = map (entry_of node.id) step.turned.marks;
        split = refl;
        still = osd_still node r o happens;
        caller = put_callers s.file.number s.client.0 w (stepped w node r o happens outs) node there its.found refl
            (λ q c up core. absurd (no_client step.osd c (let same : record r { core = osd step.osd } ≡ q = cc up in ap (λ (x : Running). x.core) same ∙ core)));
        absent = put_absent w.nodes node there s.client.0 its.found;
      }

  -- it leaves the file as it is, and sends nothing of it that counts
  pub step_rests : (was own : List Msg) → ((m : Msg) → Has m own → Has m was) → ((m : Msg) → Has m outs → file_concerned m.payload ≡ Some s.file → IsNothing m.payload)
      → file_seen s.file (step_at node r o happens).osd ≡ file_seen s.file o → IsNotOf s.file (step_at node r o happens).turned.rec → Rests s w (stepped w node r o happens outs) was (own ++ to_itself node.id outs)
  step_rests was own within out state rec =
      let step = step_at node r o happens in
      let same = rested s.file w node r o (view s.file w) its refl step.osd (record step.turned { outs = outs }) state rec in
      record {
        calm = step_calm;
        kept = kept_seen_same s.file w (stepped w node r o happens outs) same;
        body = body_seen_same s.file w (stepped w node r o happens outs) same;
        fewer = λ k h about. elim (came own was outs w node.id w.nodes k within h) [
          | inl mine ↦ inr (out k mine about)
          | inr old ↦ inl old
        ];
      }

-- ---- the member that a node is

pub head_alone : (row : FileRow) (rec : Option Record) → (kept_after row rec).head ≡ (kept_after (record { file = row.file; head = row.head; held = []; location = None; closed = None }) rec).head
head_alone row None = refl
head_alone row (Some (kept.Promise file epoch)) = refl
head_alone row (Some _) = refl

-- a node stands in the list, or it doesn't
pub place_of_node : (nodes : List NodeId) (n : ℕ) → ((place : ℕ) × (place < length nodes) × ((unwrap_or (slice_get nodes place) (record { 0 = 0 })).0 ≡ n)) ⊎ (has_node nodes n ≡ false)
place_of_node [] n = inr refl
place_of_node (m ∷ ms) n = at (m.0 == n) refl (place_of_node ms n)
  where
    same : (a b : ℕ) → (a == b) ≡ true → a ≡ b
    same a b is = grind (arith, nat_tests)

    at : (b : Bool) → (m.0 == n) ≡ b → ((place : ℕ) × (place < length ms) × ((unwrap_or (slice_get ms place) (record { 0 = 0 })).0 ≡ n)) ⊎ (has_node ms n ≡ false)
        → ((place : ℕ) × (place < length (m ∷ ms)) × ((unwrap_or (slice_get (m ∷ ms) place) (record { 0 = 0 })).0 ≡ n)) ⊎ ((b || has_node ms n) ≡ false)
    at true is rest = inl (0, omega arith, same m.0 n is)
    at false is (inl later) = inl (suc later.0, (let low = later.1 in omega (arith, low)), later.2)
    at false is (inr none) = inr none

-- members at two places are two nodes
pub one_place : (s : Setting) → are_members s.location.members ≡ true → (i j : ℕ) → i < width_of s → j < width_of s → (node_at s i).0 ≡ (node_at s j).0 → i ≡ j
one_place s members i j low_i low_j same =
    got_once s.location.members i j (node_at s i) (node_at s j) (distinct_of s.location.members members) (got s.location.members i low_i) (got s.location.members j low_j) same

-- an ask to a node that isn't in the list is denied
pub stranger_denies : (p : PlainFile) (body : ℕ → Stamp → List ℕ) (id : OpId) (epoch : ℕ) (location : Location) (asked : Op) → has_node location.members p.node.0 ≡ false
    → plain_step p body id epoch location asked ≡ plain.only (reply.Denied denial.List)
unfolding plain_step
stranger_denies p body id epoch location asked none =
    ap (λ (b : Bool). refused_or (if not b then Some denial.List else if is_of_another location.members p.node asked then Some denial.Range else None) (served p body id epoch location asked)) none
