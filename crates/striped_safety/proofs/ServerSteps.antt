-- a step of a server leaves a striped file's world as it is
use Rattle.std.proofs.Common.{◌≡◌, inl, inr, List, [], ◌∷◌, ◌++◌, map, refl, ap, sym, ◌∙◌, subst, Some, None}
use Rattle.xt_base.specs.declared.ids.NodeId.{NodeId}
use Rattle.xt_base.specs.declared.ids.FileId.{FileId}
use Rattle.xt_messages.specs.declared.message.Msg.{Msg}
use Rattle.xt_messages.specs.declared.message.Payload.{Payload}
use Rattle.xt_messages.specs.declared.message.Payload.TheVariants as payload
use Rattle.xt_messages.specs.declared.event.Mark.{Mark}
use Rattle.xt_messages.specs.declared.event.Mark.TheVariants as mark
use Rattle.xt_protocol.specs.OsdSteps.{file_concerned}
use Rattle.xt_protocol.specs.declared.turned.Turned.{Turned}
use Rattle.lease_safety.specs.State.{Has}
use Rattle.client_rows.specs.Rows.{WholeClient}
use Rattle.world_spec.specs.World.{World, Node, Running, Core, osd, client, mrc, dir, node_in}
use Rattle.world_spec.specs.NodeSteps.{entry_of, one_more, one_put, to_itself, after_turn}
use Rattle.world_runs.proofs.Making.{IsFileMark, AreFileMarks}
use Rattle.world_runs.proofs.Steps.{came}
use Rattle.world_safety.specs.Seen.{core_state, up_state, nodes_seen, IsNotOf}
use Rattle.world_safety.proofs.Nodes.{other}
use Rattle.striped_safety.specs.StripedWorld.{Setting}
use Rattle.striped_safety.proofs.Callers.{put_callers, put_absent}
use Rattle.striped_safety.proofs.Follows.{Rests, IsNothing}
use Rattle.striped_safety.proofs.OsdMoves.{view, kept_seen_same, body_seen_same}
use Rattle.striped_safety.proofs.Servers.{IsOfServer}
use Rattle.striped_safety.proofs.Trace.{IsStill, AreStill}

-- the core of a server
abbrev pub IsServer : Core → Type 0
IsServer (osd s) = ⊥
IsServer (client c) = ⊥
IsServer (mrc m) = Unit {0}
IsServer (dir s) = Unit {0}

no_state : (file : FileId) (core : Core) → IsServer core → core_state file core ≡ None
no_state file (osd s) is = absurd is
no_state file (client c) is = absurd is
no_state file (mrc m) is = refl
no_state file (dir s) is = refl

no_client : (core : Core) (c : WholeClient) → IsServer core → core ≡ client c → ⊥
no_client core c is same = subst IsServer same is

-- its marks begin no call and end none
pub files_still : (node : NodeId) (marks : List Mark) → AreFileMarks marks → AreStill (map (entry_of node) marks)
files_still node [] are e h = absurd h
files_still node (m ∷ ms) are e (inl same) = subst IsStill (sym same) (one m are.0)
  where
    one : (m : Mark) → IsFileMark m → IsStill (entry_of node m)
    one (mark.File file location) is = tt
    one _ is = absurd is
files_still node (m ∷ ms) are e (inr h) = files_still node ms are.1 e h

-- what it sends concerns no file
server_aside : (file : FileId) (content : Payload) → IsOfServer content → file_concerned content ≡ Some file → IsNothing content
server_aside file (payload.MetaReply number what) is about = absurd (let none : None ≡ Some file = about in cc none)
server_aside file (payload.Registry number asked) is about = absurd (let none : None ≡ Some file = about in cc none)
server_aside file (payload.RegistryReply number what) is about = absurd (let none : None ≡ Some file = about in cc none)
server_aside file _ is about = absurd is

module _ (s : Setting) (w : World) (was own : List Msg) (node : Node) (r : Running) (next : Core) (turned : Turned) (outs : List Msg) (found : node_in w.nodes node.id.0 ≡ Some node) (up : node.up ≡ Some r) (serves : IsServer r.core) (serves_then : IsServer next)
    (marks : AreFileMarks turned.marks) (rec : IsNotOf s.file turned.rec) (within : (k : Msg) → Has k own → Has k was) (sent : (k : Msg) → Has k outs → IsOfServer k.payload) where
  abbrev there : Node
  there = record node { kept = one_more node.kept turned.rec; past = one_put node.past turned.rec; up = Some (record r { core = next }) }

  pub server_rests : Rests s w (after_turn w node (record r { core = next }) (record turned { outs = outs })) was (own ++ to_itself node.id outs)
  server_rests =
      let after = after_turn w node (record r { core = next }) (record turned { outs = outs }) in
      let same : nodes_seen s.file w ≡ nodes_seen s.file after
      = other s.file w node found (view s.file w) refl (Some (record r { core = next })) turned.rec (no_state s.file next serves_then ∙ sym (ap (up_state s.file) up ∙ no_state s.file r.core serves)) rec in
      record {
        calm =
            record {
              more = map (entry_of node.id) turned.marks;
              split = refl;
              still = files_still node.id turned.marks marks;
              caller = put_callers s.file.number s.client.0 w after node there found refl
                  (λ q c is_up is_core. absurd (no_client next c serves_then (let run : record r { core = next } ≡ q = cc is_up in ap (λ (x : Running). x.core) run ∙ is_core)));
              absent = put_absent w.nodes node there s.client.0 found;
            };
        kept = kept_seen_same s.file w after same;
        body = body_seen_same s.file w after same;
        fewer = λ k h about. elim (came own was outs w node.id w.nodes k within h) [
          | inl mine ↦ inr (server_aside s.file k.payload (sent k mine) about)
          | inr old ↦ inl old
        ];
      }
