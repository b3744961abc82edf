-- the members that a call hasn't asked yet
use Rattle.std.proofs.Common.{◌≡◌, ◌∙◌, List, [], ◌∷◌, refl, sym, ap, Bool, true, false, cond, Some, None, eqb-true}
use Rattle.std.specs.Prelude.{not, filter, find, ◌==◌, ◌&&◌, ◌||◌}
use Rattle.xt_base.specs.declared.ids.NodeId.{NodeId}
use Rattle.xt_base.specs.MemberList.{has_node}
use Rattle.client_rows.specs.declared.Tried.{Tried}
use Rattle.client_rows.specs.Clients.{was_tried, next_of}

-- whether a member wasn't asked
abbrev pub is_new : List Tried → NodeId → Bool
is_new tried node = not (was_tried tried node)

-- the first of those that weren't asked is found from the front
pub first_left : (tried : List Tried) (members : List NodeId) → find (is_new tried) members ≡ next_of None (filter (is_new tried) members)
first_left tried [] = refl
first_left tried (m ∷ ms) = at (is_new tried m) (first_left tried ms) where
  at : (b : Bool) → find (is_new tried) ms ≡ next_of None (filter (is_new tried) ms)
      → cond b (Some m) (find (is_new tried) ms) ≡ next_of None (cond b (m ∷ filter (is_new tried) ms) (filter (is_new tried) ms))
  at true later = refl
  at false later = later

-- a node is among those that weren't asked exactly where it is a member that wasn't
pub has_node-left : (tried : List Tried) (members : List NodeId) (node : NodeId)
    → has_node (filter (is_new tried) members) node.0 ≡ (has_node members node.0 && is_new tried node)
has_node-left tried [] node = refl
has_node-left tried (m ∷ ms) node =
    at (is_new tried m) (λ same. ap (λ n. is_new tried (record { 0 = n })) (eqb-true m.0 node.0 same)) (has_node-left tried ms node)
  where
    none : (h : Bool) → (h && false) ≡ false
    none true = refl
    none false = refl

    new : (left e : Bool) → (e ≡ true → true ≡ is_new tried node) → left ≡ (has_node ms node.0 && is_new tried node)
        → (e || left) ≡ ((e || has_node ms node.0) && is_new tried node)
    new left true same later = same refl
    new left false same later = later

    old : (left e : Bool) → (e ≡ true → false ≡ is_new tried node) → left ≡ (has_node ms node.0 && is_new tried node)
        → left ≡ ((e || has_node ms node.0) && is_new tried node)
    old left true same later = later ∙ ap (λ n. has_node ms node.0 && n) (sym (same refl)) ∙ none (has_node ms node.0) ∙ same refl
    old left false same later = later

    at : (b : Bool) → ((m.0 == node.0) ≡ true → b ≡ is_new tried node)
        → has_node (filter (is_new tried) ms) node.0 ≡ (has_node ms node.0 && is_new tried node)
        → has_node (cond b (m ∷ filter (is_new tried) ms) (filter (is_new tried) ms)) node.0
        ≡ (((m.0 == node.0) || has_node ms node.0) && is_new tried node)
    at true same later = new (has_node (filter (is_new tried) ms) node.0) (m.0 == node.0) same later
    at false same later = old (has_node (filter (is_new tried) ms) node.0) (m.0 == node.0) same later

-- the node that an outcome names is next where it wasn't asked
pub named_next : (tried : List Tried) (members : List NodeId) (node : NodeId) → (has_node members node.0 && is_new tried node) ≡ true
    → next_of (Some node) (filter (is_new tried) members) ≡ Some node
named_next tried members node left = at (filter (is_new tried) members) (has_node-left tried members node ∙ left) where
  at : (ms : List NodeId) → has_node ms node.0 ≡ true → next_of (Some node) ms ≡ Some node
  at [] has = absurd (cc has)
  at (m ∷ ms) has = ap (λ b. cond b (Some node) (Some m)) has

-- else the first one is
pub other_next : (tried : List Tried) (members : List NodeId) (node : NodeId) → (has_node members node.0 && is_new tried node) ≡ false
    → next_of (Some node) (filter (is_new tried) members) ≡ next_of None (filter (is_new tried) members)
other_next tried members node left = at (filter (is_new tried) members) (has_node-left tried members node ∙ left) where
  at : (ms : List NodeId) → has_node ms node.0 ≡ false → next_of (Some node) ms ≡ next_of None ms
  at [] has = refl
  at (m ∷ ms) has = ap (λ b. cond b (Some node) (Some m)) has
