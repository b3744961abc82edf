-- the clients of a world whose nodes are others
use Rattle.std.proofs.Common.{◌≡◌, ℕ, inl, inr, List, [], ◌∷◌, ◌++◌, refl, ap, sym, ◌∙◌, subst, Some, None, map}
use Rattle.std.specs.Prelude.{Option, ◌+◌}
use Rattle.std.specs.Option.{option_map}
use Rattle.client_rows.specs.Rows.{WholeClient}
use Rattle.world_spec.specs.World.{World, Node, Running, client, node_in, with_node}
use Rattle.world_spec.specs.Lines.{ticked}
use Rattle.world_runs.proofs.Tables.{same, node_in-new, node_in-other, node_in-last, node_in-before, node_in-ticked}
use Rattle.striped_safety.proofs.Follows.{Runs, IsSame}

-- a running client that has the same calls as one that ran before
abbrev pub Ran : ℕ → World → ℕ → WholeClient → Type 0
Ran file w n c = (old : Node) × (q : Running) × (b : WholeClient) × Runs w n old q b × IsSame file b c

pub same_client : (file : ℕ) (c : WholeClient) → IsSame file c c
same_client file c = record { next = refl; running = refl; made = refl; held = refl }

pub same_core : (file : ℕ) (a b : WholeClient) → client a ≡ client b → IsSame file a b
same_core file a b is = (let same : a ≡ b = cc in subst (IsSame file a) same (same_client file a))

one_node : (a b : Node) → Some a ≡ Some b → a ≡ b
one_node a b is = cc

-- the same nodes
pub nodes_callers : (file n : ℕ) (w after : World) → after.nodes ≡ w.nodes → (node : Node) (r : Running) (c : WholeClient) → Runs after n node r c → Ran file w n c
nodes_callers file n w after nodes node r c runs =
    (node, r, c, record { found = sym (ap (λ (ns : List Node). node_in ns n) nodes) ∙ runs.found; up = runs.up; core = runs.core }, same_client file c)

-- a node in the place of the one of its id
pub put_callers : (file n : ℕ) (w after : World) (old there : Node) → node_in w.nodes there.id.0 ≡ Some old → after.nodes ≡ with_node w.nodes there
    → ((r : Running) (c : WholeClient) → there.up ≡ Some r → r.core ≡ client c → (q : Running) × (b : WholeClient) × (old.up ≡ Some q) × (q.core ≡ client b) × IsSame file b c)
    → (node : Node) (r : Running) (c : WholeClient) → Runs after n node r c → Ran file w n c
put_callers file n w after old there found nodes was node r c runs = elim (same n there.id.0) [
  | inl e ↦
      (let is : there ≡ node = one_node there node (sym (ap (node_in (with_node w.nodes there)) e ∙ node_in-new w.nodes there old found) ∙ (sym (ap (λ (ns : List Node). node_in ns n) nodes) ∙ runs.found)) in
      let before = was r c (ap (λ (x : Node). x.up) is ∙ runs.up) runs.core in
      (old, before.0, before.1, record { found = ap (node_in w.nodes) e ∙ found; up = before.2; core = before.3 }, before.4))
  | inr ne ↦ (node, r, c, record { found = sym (node_in-other w.nodes there n ne) ∙ (sym (ap (λ (ns : List Node). node_in ns n) nodes) ∙ runs.found); up = runs.up; core = runs.core }, same_client file c)
]

-- a node more
pub add_callers : (file n : ℕ) (w after : World) (there : Node) → node_in w.nodes there.id.0 ≡ None → after.nodes ≡ w.nodes ++ there ∷ []
    → ((r : Running) (c : WholeClient) → n ≡ there.id.0 → there.up ≡ Some r → r.core ≡ client c → Ran file w n c) → (node : Node) (r : Running) (c : WholeClient) → Runs after n node r c → Ran file w n c
add_callers file n w after there free nodes new node r c runs = elim (same n there.id.0) [
  | inl e ↦
      (let is : there ≡ node = one_node there node (sym (ap (node_in (w.nodes ++ there ∷ [])) e ∙ node_in-last w.nodes there free) ∙ (sym (ap (λ (ns : List Node). node_in ns n) nodes) ∙ runs.found)) in
      new r c e (ap (λ (x : Node). x.up) is ∙ runs.up) runs.core)
  | inr ne ↦ (node, r, c, record { found = sym (node_in-before w.nodes there n ne) ∙ (sym (ap (λ (ns : List Node). node_in ns n) nodes) ∙ runs.found); up = runs.up; core = runs.core }, same_client file c)
]

-- clocks that advance
pub tick_callers : (file n : ℕ) (w after : World) (count : ℕ) → after.nodes ≡ map (ticked count) w.nodes → (node : Node) (r : Running) (c : WholeClient) → Runs after n node r c → Ran file w n c
tick_callers file n w after count nodes node r c runs = at (node_in w.nodes n) refl (sym (node_in-ticked w.nodes count n) ∙ (sym (ap (λ (ns : List Node). node_in ns n) nodes) ∙ runs.found))
  where
    by_up : (old : Node) → node_in w.nodes n ≡ Some old → (up : Option Running) → old.up ≡ up → (elim up [ None ↦ None | Some running ↦ Some (record running { clock = running.clock + count }) ]) ≡ Some r → Ran file w n c
    by_up old found None is later = absurd (cc later)
    by_up old found (Some q) is later =
        let now : record q { clock = q.clock + count } ≡ r = cc later in
        (old, q, c, record { found = found; up = is; core = ap (λ (x : Running). x.core) now ∙ runs.core }, same_client file c)

    at : (o : Option Node) → node_in w.nodes n ≡ o → option_map (ticked count) o ≡ Some node → Ran file w n c
    at None found is = absurd (cc is)
    at (Some old) found is = by_up old found old.up refl (ap (λ (x : Node). x.up) (one_node (ticked count old) node is) ∙ runs.up)

-- ---- nodes that aren't there

-- a node in the place of the one of its id
pub put_absent : (nodes : List Node) (old there : Node) (n : ℕ) → node_in nodes there.id.0 ≡ Some old → node_in (with_node nodes there) n ≡ None → node_in nodes n ≡ None
put_absent nodes old there n found none = elim (same n there.id.0) [
  | inl e ↦ absurd (let both : None ≡ Some there = sym none ∙ (ap (node_in (with_node nodes there)) e ∙ node_in-new nodes there old found) in cc both)
  | inr ne ↦ sym (node_in-other nodes there n ne) ∙ none
]

-- a node more
pub add_absent : (nodes : List Node) (there : Node) (n : ℕ) → node_in nodes there.id.0 ≡ None → node_in (nodes ++ there ∷ []) n ≡ None → node_in nodes n ≡ None
add_absent nodes there n free none = elim (same n there.id.0) [
  | inl e ↦ absurd (let both : None ≡ Some there = sym none ∙ (ap (node_in (nodes ++ there ∷ [])) e ∙ node_in-last nodes there free) in cc both)
  | inr ne ↦ sym (node_in-before nodes there n ne) ∙ none
]

-- clocks that advance
pub tick_absent : (nodes : List Node) (count n : ℕ) → node_in (map (ticked count) nodes) n ≡ None → node_in nodes n ≡ None
tick_absent nodes count n none = at (node_in nodes n) refl (sym (node_in-ticked nodes count n) ∙ none)
  where
    at : (o : Option Node) → node_in nodes n ≡ o → option_map (ticked count) o ≡ None → node_in nodes n ≡ None
    at None is gone = is
    at (Some x) is gone = absurd (cc gone)
