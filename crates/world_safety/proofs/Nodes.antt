-- the nodes of a file where one node of the world is another now
use Rattle.std.proofs.Common.{◌≡◌, ◌≢◌, ℕ, [], ◌∷◌, ◌++◌, map, refl, arith, ap, sym, ◌∙◌, Option, Some, None, Bool, true, false}
use Rattle.std.specs.Prelude.{cond, ◌==◌}
use Rattle.std.specs.Option.{option_map}
use Rattle.std.proofs.lemmas.Bool.Decides.{nat_tests}
use Rattle.std.proofs.Math.Path.{fun_ext}
use Rattle.xt_base.specs.declared.ids.FileId.{FileId}
use Rattle.xt_messages.specs.declared.record.Record.{Record}
use Rattle.replica_safety.specs.Epochs.{at_node}
use Rattle.xt_protocol.specs.FileStates.{FileState}
use Rattle.file_runs.specs.FileRuns.{FileNode, FileWorld, keeping}
use Rattle.world_spec.specs.World.{World, Node, Running, node_in, with_node}
use Rattle.world_spec.specs.NodeSteps.{one_more, one_put}
use Rattle.world_spec.specs.Lines.{ticked}
use Rattle.world_runs.proofs.Tables.{node_in-new, node_in-other, node_in-last, node_in-before, node_in-ticked}
use Rattle.world_safety.specs.Seen.{core_state, up_state, kept_seen, node_seen, nodes_seen, Sees, IsOf, IsNotOf}
use Rattle.world_safety.proofs.Records.{keeps_own, keeps_other}

pub same_number : (a b : ℕ) → (a == b) ≡ true → a ≡ b
same_number a b is = grind (arith, nat_tests)

pub other_number : (a b : ℕ) → (a == b) ≡ false → a ≢ b
other_number a b is = grind (arith, nat_tests)

abbrev pub put : World → Node → World
put w node = record w { nodes = with_node w.nodes node }

pub put_seen : (file : FileId) (w : World) (node old : Node) → node_in w.nodes node.id.0 ≡ Some old → nodes_seen file (put w node) ≡ at_node node.id.0 (node_seen file (Some node)) (nodes_seen file w)
put_seen file w node old found = fun_ext (λ n. at n (n == node.id.0) refl)
  where
    at : (n : ℕ) (b : Bool) → (n == node.id.0) ≡ b → nodes_seen file (put w node) n ≡ cond b (node_seen file (Some node)) (nodes_seen file w n)
    at n true is = ap (nodes_seen file (put w node)) (same_number n node.id.0 is) ∙ ap (node_seen file) (node_in-new w.nodes node old found)
    at n false is = ap (node_seen file) (node_in-other w.nodes node n (other_number n node.id.0 is))

pub at_node-same : (nodes : ℕ → FileNode) (n : ℕ) → at_node n (nodes n) nodes ≡ nodes
at_node-same nodes n = fun_ext (λ m. at m (m == n) refl)
  where
    at : (m : ℕ) (b : Bool) → (m == n) ≡ b → cond b (nodes n) (nodes m) ≡ nodes m
    at m true is = ap nodes (sym (same_number m n is))
    at m false is = refl

module _ (file : FileId) (w : World) (node : Node) (found : node_in w.nodes node.id.0 ≡ Some node) (v : FileWorld) (sees : Sees file w v) where
  pub here : v.nodes node.id.0 ≡ kept_seen file node.kept (up_state file node.up)
  here = ap (λ (nodes : ℕ → FileNode). nodes node.id.0) sees ∙ ap (node_seen file) found

  -- it keeps a record of the file, or none
  pub own : (up : Option Running) (state : Option FileState) (rec : Option Record) → up_state file up ≡ state → IsOf file rec
      → at_node node.id.0 (keeping (v.nodes node.id.0) state rec) v.nodes ≡ nodes_seen file (put w (record node { kept = one_more node.kept rec; past = one_put node.past rec; up = up }))
  own up state rec is of_file =
      let n = node.id.0 in
      ap (λ (x : FileNode). at_node n (keeping x state rec) v.nodes) here
      ∙ (ap (λ (x : FileNode). at_node n x v.nodes) (keeps_own file node.kept (up_state file node.up) state rec of_file)
      ∙ (ap (λ (nodes : ℕ → FileNode). at_node n (kept_seen file (one_more node.kept rec) state) nodes) sees
      ∙ (ap (λ (s : Option FileState). at_node n (kept_seen file (one_more node.kept rec) s) (nodes_seen file w)) (sym is)
      ∙ sym (put_seen file w (record node { kept = one_more node.kept rec; past = one_put node.past rec; up = up }) node found))))

  -- it keeps a record that isn't of the file, or none, and has of the file what it had
  pub other : (up : Option Running) (rec : Option Record) → up_state file up ≡ up_state file node.up → IsNotOf file rec
      → v.nodes ≡ nodes_seen file (put w (record node { kept = one_more node.kept rec; past = one_put node.past rec; up = up }))
  other up rec is away =
      let n = node.id.0 in
      sees
      ∙ (sym (at_node-same (nodes_seen file w) n)
      ∙ (ap (λ (x : FileNode). at_node n x (nodes_seen file w)) (ap (node_seen file) found ∙ sym (keeps_other file node.kept (up_state file node.up) rec away))
      ∙ (ap (λ (s : Option FileState). at_node n (kept_seen file (one_more node.kept rec) s) (nodes_seen file w)) (sym is)
      ∙ sym (put_seen file w (record node { kept = one_more node.kept rec; past = one_put node.past rec; up = up }) node found))))

  -- it stops, and keeps a record that isn't of the file, or none
  pub lost : (rec : Option Record) → IsNotOf file rec
      → at_node node.id.0 (keeping (v.nodes node.id.0) None None) v.nodes ≡ nodes_seen file (put w (record node { kept = one_more node.kept rec; past = one_put node.past rec; up = None }))
  lost rec away =
      let n = node.id.0 in
      own None None None refl tt
      ∙ (put_seen file w (record node { up = None }) node found
      ∙ (ap (λ (x : FileNode). at_node n x (nodes_seen file w)) (sym (keeps_other file node.kept None rec away))
      ∙ sym (put_seen file w (record node { kept = one_more node.kept rec; past = one_put node.past rec; up = None }) node found)))

-- ---- all nodes

-- a node is declared that doesn't run as an OSD
pub added_seen : (file : FileId) (w : World) (node : Node) → node_in w.nodes node.id.0 ≡ None → node_seen file (Some node) ≡ node_seen file None
    → nodes_seen file w ≡ nodes_seen file (record w { nodes = w.nodes ++ node ∷ [] })
added_seen file w node free is = fun_ext (λ n. at n (n == node.id.0) refl)
  where
    at : (n : ℕ) (b : Bool) → (n == node.id.0) ≡ b → nodes_seen file w n ≡ node_seen file (node_in (w.nodes ++ node ∷ []) n)
    at n true same =
        let e = same_number n node.id.0 same in
        ap (nodes_seen file w) e ∙ (ap (node_seen file) free ∙ (sym is ∙ (ap (node_seen file) (sym (node_in-last w.nodes node free)) ∙ ap (λ (k : ℕ). node_seen file (node_in (w.nodes ++ node ∷ []) k)) (sym e))))
    at n false differs = ap (node_seen file) (sym (node_in-before w.nodes node n (other_number n node.id.0 differs)))

-- clocks don't show
pub ticked_seen : (file : FileId) (w : World) (count : ℕ) → nodes_seen file w ≡ nodes_seen file (record w { nodes = map (ticked count) w.nodes })
ticked_seen file w count = fun_ext (λ n. at (node_in w.nodes n) ∙ ap (node_seen file) (sym (node_in-ticked w.nodes count n)))
  where
    by_up : (node : Node) (up : Option Running) → node.up ≡ up → up_state file node.up ≡ up_state file (ticked count node).up
    by_up node None is = ap (λ (u : Option Running). up_state file u) is ∙ sym (ap (λ (u : Option Running). up_state file (ticked count (record node { up = u })).up) is)
    by_up node (Some r) is = ap (λ (u : Option Running). up_state file u) is ∙ sym (ap (λ (u : Option Running). up_state file (ticked count (record node { up = u })).up) is)

    at : (found : Option Node) → node_seen file found ≡ node_seen file (option_map (ticked count) found)
    at None = refl
    at (Some node) = ap (kept_seen file node.kept) (by_up node node.up refl)

-- ---- what doesn't show

pub plans_rest : (file : FileId) (w : World) (node : Node) (r q : Running) (v : FileWorld) → node_in w.nodes node.id.0 ≡ Some node → node.up ≡ Some r
    → core_state file q.core ≡ core_state file r.core → Sees file w v → Sees file (put w (record node { up = Some q })) v
plans_rest file w node r q v found up same sees = other file w node found v sees (Some q) None (same ∙ sym (ap (up_state file) up)) tt

pub ticks_rest : (file : FileId) (w : World) (count : ℕ) (v : FileWorld) → Sees file w v → Sees file (record w { nodes = map (ticked count) w.nodes }) v
ticks_rest file w count v sees = sees ∙ ticked_seen file w count

pub declared_rest : (file : FileId) (w : World) (node : Node) (v : FileWorld) → node_in w.nodes node.id.0 ≡ None → node_seen file (Some node) ≡ node_seen file None
    → Sees file w v → Sees file (record w { nodes = w.nodes ++ node ∷ [] }) v
declared_rest file w node v free is sees = sees ∙ added_seen file w node free is
