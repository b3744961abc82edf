-- the nodes of rows are different
use Rattle.std.proofs.Common.{◌≡◌, ℕ, List, [], ◌∷◌, ◌++◌, refl, arith, Bool, true, false, IsTrue, cond}
use Rattle.std.specs.Prelude.{◌==◌, ◌&&◌, ◌||◌, not, fold}
use Rattle.std.proofs.lemmas.Grind.{common_steps}
use Rattle.xt_base.specs.declared.ids.NodeId.{NodeId}
use Rattle.xt_messages.specs.declared.registry.RegistryRow.{RegistryRow}
use Rattle.xt_base.specs.MemberList.{has_node, are_distinct}
use Rattle.server_rows.specs.Metadata.{with_node, nodes_of}

flips : (a b : ℕ) → (a == b) ≡ false → (b == a) ≡ false
flips a b h = grind (arith, common_steps)

neither : (a b : Bool) → (a || b) ≡ false → (a ≡ false) × (b ≡ false)
neither true b h = absurd (cc)
neither false b h = (refl, h)

both : (a b : Bool) → IsTrue (not a && b) → (a ≡ false) × IsTrue b
both true b h = absurd (cc)
both false b h = (refl, h)

-- a node that isn't there before another one is put after, and isn't that one, isn't there after it
still_absent : (nodes : List NodeId) (last : NodeId) (v : ℕ) → has_node nodes v ≡ false → (last.0 == v) ≡ false → has_node (nodes ++ last ∷ []) v ≡ false
still_absent [] last v none differs = rw differs refl
still_absent (node ∷ nodes) last v none differs =
    let parts = neither (node.0 == v) (has_node nodes v) none in rw parts.0 (still_absent nodes last v parts.1 differs)

with_another : (nodes : List NodeId) (node : NodeId) → IsTrue (are_distinct nodes) → has_node nodes node.0 ≡ false → IsTrue (are_distinct (nodes ++ node ∷ []))
with_another [] node differ none = refl
with_another (first ∷ nodes) node differ none =
    let parts = both (has_node nodes first.0) (are_distinct nodes) differ in
    let others = neither (first.0 == node.0) (has_node nodes node.0) none in
    rw (still_absent nodes node first.0 parts.0 (flips first.0 node.0 others.0)) (with_another nodes node parts.1 others.1)

one_more : (nodes : List NodeId) (row : RegistryRow) → IsTrue (are_distinct nodes) → IsTrue (are_distinct (with_node nodes row))
one_more nodes row differ = go (has_node nodes row.node.0) refl where
  go : (known : Bool) → has_node nodes row.node.0 ≡ known → IsTrue (are_distinct (cond known nodes (nodes ++ row.node ∷ [])))
  go true is = differ
  go false is = with_another nodes row.node differ is

all_more : (nodes : List NodeId) (rows : List RegistryRow) → IsTrue (are_distinct nodes) → IsTrue (are_distinct (fold with_node nodes rows))
all_more nodes [] differ = differ
all_more nodes (row ∷ rows) differ = all_more (with_node nodes row) rows (one_more nodes row differ)

pub nodes_differ : (rows : List RegistryRow) → IsTrue (are_distinct (nodes_of rows))
nodes_differ rows = all_more [] rows refl
