-- how the index follows the rows, and what it finds among them
use Rattle.std.proofs.Common.{◌≡◌, ◌∙◌, ◌⊎◌, inl, inr, ℕ, ◌<◌, ◌≤◌, Bool, true, false, cond, List, [], ◌∷◌, refl, sym, ap, subst, arith, eqb-true, ne_eqb, eq-eqb, lt-ltb, le-ltb, Less, Equal, Greater, Ordering, is_eq, is_gt, true≢false}
use Rattle.std.specs.Prelude.{filter, ◌==◌, ◌&&◌, nat_lt, Option, Some, None, IsTrue, IfSome, slice_get}
use Rattle.std.specs.Ordering.{nat_cmp, ordering_then}
use Rattle.std.specs.Cmp.{nat_cmp_is, ranked}
use Rattle.std.specs.List.{AllByRecursion}
use Rattle.std.specs.List.Sorted.{IsStrictlySortedBy}
use Rattle.std.specs.Map.{keys_of}
use Rattle.std.specs.BTreeMap as tree
use Rattle.std.specs.BTreeMap.{BTreeMap}
use Rattle.std.specs.BTreeSet as sorted
use Rattle.std.specs.BTreeSet.{BTreeSet, contains, IsKeyInRange, IsKeyRangeOf}
use Rattle.std.specs.declared.ops.Bound.TheVariants.{Excluded, Unbounded}
use Rattle.std.proofs.lemmas.Bool.{and_left, and_right, cases_lt, cases_order, both_ways}
use Rattle.std.proofs.lemmas.Map.Keys.{sorted_head, sorted_tail}
use Rattle.registry_table.specs.declared.registry.Registered.{Registered}
use Rattle.registry_table.specs.Registry.{Rows, row_of, is_listed}
use Rattle.registry_table.specs.Index.{kind_cmp, has_kind, IsIndexed, IsFirstListed}

-- ---- numbers in order

less_is : (a b : ℕ) → a < b → nat_cmp a b ≡ Less
less_is a b lt = sym (nat_cmp_is a b Less lt)

equal_is : (a : ℕ) → nat_cmp a a ≡ Equal
equal_is a = sym (nat_cmp_is a a Equal refl)

greater_is : (a b : ℕ) → b < a → nat_cmp a b ≡ Greater
greater_is a b gt = sym (nat_cmp_is a b Greater gt)

is_less : (a b : ℕ) → nat_cmp a b ≡ Less → a < b
is_less a b is = ranked a b Less (sym is)

eq_then : (a b : Ordering) → is_eq (ordering_then a b) ≡ (is_eq a && is_eq b)
eq_then Less b = refl
eq_then Equal b = refl
eq_then Greater b = refl

eq_number : (a b : ℕ) → is_eq (nat_cmp a b) ≡ (a == b)
eq_number a b = go (cases_order a b)
  where
    go : (a ≡ b) ⊎ ((a < b) ⊎ (b < a)) → is_eq (nat_cmp a b) ≡ (a == b)
    go (inl same) = ap is_eq (sym (nat_cmp_is a b Equal same)) ∙ sym (eq-eqb a b same)
    go (inr (inl lt)) = ap is_eq (less_is a b lt) ∙ sym (ne_eqb a b (λ same. omega (arith, same, lt)))
    go (inr (inr gt)) = ap is_eq (greater_is a b gt) ∙ sym (ne_eqb a b (λ same. omega (arith, same, gt)))

eq_key : (kind node k n : ℕ) → is_eq (kind_cmp (kind, node) (k, n)) ≡ ((kind == k) && (node == n))
eq_key kind node k n =
    eq_then (nat_cmp kind k) (nat_cmp node n) ∙ ap (λ b. b && is_eq (nat_cmp node n)) (eq_number kind k) ∙ ap (λ b. (kind == k) && b) (eq_number node n)

-- ---- a row that is put or taken out

-- what the index has after a kind of a node was put into it
abbrev put_in : (kind node k n : ℕ) → Bool → Bool
put_in kind node k n had = cond ((kind == k) && (node == n)) true had

-- and after one was taken out
abbrev left_in : (kind node k n : ℕ) → Bool → Bool
left_in kind node k n had = cond ((kind == k) && (node == n)) false had

after_put : (kind node k n : ℕ) (row : Registered) (before : Option Registered) (had : Bool) → row.kind ≡ kind → had ≡ has_kind k before
    → ((node == n) ≡ true → (kind == k) ≡ false → had ≡ false) → put_in kind node k n had ≡ has_kind k (cond (node == n) (Some row) before)
after_put kind node k n row before had is was others = go (kind == k) (node == n) refl refl
  where
    go : (t u : Bool) → (kind == k) ≡ t → (node == n) ≡ u → cond (t && u) true had ≡ has_kind k (cond u (Some row) before)
    go true true kinds nodes = sym (ap (λ x. x == k) is ∙ kinds)
    go true false kinds nodes = was
    go false true kinds nodes = others nodes kinds ∙ sym (ap (λ x. x == k) is ∙ kinds)
    go false false kinds nodes = was

after_moved : (kind other node k n : ℕ) (row : Registered) (before : Option Registered) (had : Bool) → row.kind ≡ kind → (other == kind) ≡ false → had ≡ has_kind k before
    → ((node == n) ≡ true → had ≡ (other == k)) → left_in other node k n (put_in kind node k n had) ≡ has_kind k (cond (node == n) (Some row) before)
after_moved kind other node k n row before had is differs was its = go (other == k) (kind == k) (node == n) refl refl refl
  where
    go : (v t u : Bool) → (other == k) ≡ v → (kind == k) ≡ t → (node == n) ≡ u → cond (v && u) false (cond (t && u) true had) ≡ has_kind k (cond u (Some row) before)
    go true true true others kinds nodes =
        absurd (both_ways (other == kind) differs (eq-eqb other kind (eqb-true other k others ∙ sym (eqb-true kind k kinds))))
    go true false true others kinds nodes = sym (ap (λ x. x == k) is ∙ kinds)
    go false true true others kinds nodes = sym (ap (λ x. x == k) is ∙ kinds)
    go false false true others kinds nodes = its nodes ∙ others ∙ sym (ap (λ x. x == k) is ∙ kinds)
    go true true false others kinds nodes = was
    go true false false others kinds nodes = was
    go false true false others kinds nodes = was
    go false false false others kinds nodes = was

after_removed : (kind node k n : ℕ) (before : Option Registered) (had : Bool) → had ≡ has_kind k before → ((node == n) ≡ true → had ≡ (kind == k))
    → left_in kind node k n had ≡ has_kind k (cond (node == n) None before)
after_removed kind node k n before had was its = go (kind == k) (node == n) refl refl
  where
    go : (t u : Bool) → (kind == k) ≡ t → (node == n) ≡ u → cond (t && u) false had ≡ has_kind k (cond u None before)
    go true true kinds nodes = refl
    go true false kinds nodes = was
    go false true kinds nodes = its nodes ∙ kinds
    go false false kinds nodes = was

module _ (rows new : BTreeMap ℕ Registered) (kinds : BTreeSet (ℕ × ℕ)) (node : ℕ) (indexed : IsIndexed rows kinds) where
  abbrev had : ℕ → ℕ → Bool
  had k n = contains kind_cmp kinds (k, n)

  abbrev before : ℕ → Option Registered
  before n = row_of rows.entries n

  -- what the index has of the node itself
  at_node : (k n : ℕ) (o : Option Registered) → row_of rows.entries node ≡ o → (node == n) ≡ true → had k n ≡ has_kind k o
  at_node k n o is nodes =
      ap (had k) (sym (eqb-true node n nodes)) ∙ indexed.has k node ∙ ap (has_kind k) is

  -- the rows after a change at the node
  changed : (w : Option Registered) → tree.Updates nat_cmp rows new node w → (k n : ℕ) → has_kind k (row_of new.entries n) ≡ has_kind k (cond (node == n) w (before n))
  changed w updates k n = ap (has_kind k) (updates.0 n ∙ ap (λ b. cond b w (before n)) (eq_number node n))

  module _ (put : BTreeSet (ℕ × ℕ)) (kind : ℕ) (inserts : sorted.Updates kind_cmp kinds put (kind, node) true) where
    in_put : (k n : ℕ) → contains kind_cmp put (k, n) ≡ put_in kind node k n (had k n)
    in_put k n = inserts.0 (k, n) ∙ ap (λ b. cond b true (had k n)) (eq_key kind node k n)

    -- a row of a new node
    pub indexed_new : (row : Registered) → row.kind ≡ kind → row_of rows.entries node ≡ None → tree.Updates nat_cmp rows new node (Some row) → tree.IsOrdered nat_cmp new → IsIndexed new put
    indexed_new row is absent updates ordered =
        record {
          ordered = ordered;
          has = λ k n.
              in_put k n ∙ after_put kind node k n row (before n) (had k n) is (indexed.has k n) (λ nodes kinds_differ. at_node k n None absent nodes)
              ∙ sym (changed (Some row) updates k n);
        }

    -- another row of the same kind
    pub indexed_same : (row old : Registered) → row.kind ≡ kind → row_of rows.entries node ≡ Some old → (old.kind == kind) ≡ true → tree.Updates nat_cmp rows new node (Some row) → tree.IsOrdered nat_cmp new
        → IsIndexed new put
    indexed_same row old is there same updates ordered =
        record {
          ordered = ordered;
          has = λ k n.
              in_put k n
              ∙ after_put kind node k n row (before n) (had k n) is (indexed.has k n)
              (λ nodes kinds_differ. at_node k n (Some old) there nodes ∙ ap (λ x. x == k) (eqb-true old.kind kind same) ∙ kinds_differ)
              ∙ sym (changed (Some row) updates k n);
        }

    -- a row of another kind
    pub indexed_moved : (row old : Registered) (left : BTreeSet (ℕ × ℕ)) → row.kind ≡ kind → row_of rows.entries node ≡ Some old → (old.kind == kind) ≡ false
        → tree.Updates nat_cmp rows new node (Some row) → tree.IsOrdered nat_cmp new → sorted.Updates kind_cmp put left (old.kind, node) false → IsIndexed new left
    indexed_moved row old left is there differs updates ordered removes =
        record {
          ordered = ordered;
          has = λ k n.
              removes.0 (k, n) ∙ ap (λ b. cond b false (contains kind_cmp put (k, n))) (eq_key old.kind node k n) ∙ ap (left_in old.kind node k n) (in_put k n)
              ∙ after_moved kind old.kind node k n row (before n) (had k n) is differs (indexed.has k n) (λ nodes. at_node k n (Some old) there nodes)
              ∙ sym (changed (Some row) updates k n);
        }

    -- nothing was put
    pub indexed_again : (left : BTreeSet (ℕ × ℕ)) → row_of rows.entries node ≡ None → new.entries ≡ rows.entries → tree.IsOrdered nat_cmp new → sorted.Updates kind_cmp put left (kind, node) false → IsIndexed new left
    indexed_again left absent same ordered removes =
        record {
          ordered = ordered;
          has = λ k n.
              removes.0 (k, n) ∙ ap (λ b. cond b false (contains kind_cmp put (k, n))) (eq_key kind node k n) ∙ ap (left_in kind node k n) (in_put k n)
              ∙ back k n (kind == k) (node == n) refl refl
              ∙ indexed.has k n ∙ ap (λ es. has_kind k (row_of es n)) (sym same);
        }
      where
        back : (k n : ℕ) (t u : Bool) → (kind == k) ≡ t → (node == n) ≡ u → cond (t && u) false (cond (t && u) true (had k n)) ≡ had k n
        back k n true true kinds_same nodes = sym (at_node k n None absent nodes)
        back k n true false kinds_same nodes = refl
        back k n false true kinds_same nodes = refl
        back k n false false kinds_same nodes = refl

  -- a row was taken out
  pub indexed_removed : (row : Registered) (left : BTreeSet (ℕ × ℕ)) → row_of rows.entries node ≡ Some row → tree.Updates nat_cmp rows new node None → tree.IsOrdered nat_cmp new
      → sorted.Updates kind_cmp kinds left (row.kind, node) false → IsIndexed new left
  indexed_removed row left there updates ordered removes =
      record {
        ordered = ordered;
        has = λ k n.
            removes.0 (k, n) ∙ ap (λ b. cond b false (had k n)) (eq_key row.kind node k n)
            ∙ after_removed row.kind node k n (before n) (had k n) (indexed.has k n) (λ nodes. at_node k n (Some row) there nodes)
            ∙ sym (changed None updates k n);
      }

-- the same entries and keys
pub indexed_still : (rows new : BTreeMap ℕ Registered) (kinds left : BTreeSet (ℕ × ℕ)) → IsIndexed rows kinds → new.entries ≡ rows.entries → left.keys ≡ kinds.keys → IsIndexed new left
indexed_still rows new kinds left indexed entries keys =
    record {
      ordered = subst (λ (es : Rows). IsStrictlySortedBy nat_cmp (keys_of es)) (sym entries) indexed.ordered;
      has = λ k n.
          let set_of : List (ℕ × ℕ) → BTreeSet (ℕ × ℕ) = λ ks. record { keys = ks } in
          ap (λ ks. contains kind_cmp (set_of ks) (k, n)) keys ∙ indexed.has k n ∙ ap (λ es. has_kind k (row_of es n)) (sym entries);
    }

none_sorted : IsStrictlySortedBy nat_cmp []
unfolding IsStrictlySortedBy
none_sorted = tt

-- no rows
pub indexed_none : (rows : BTreeMap ℕ Registered) (kinds : BTreeSet (ℕ × ℕ)) → rows.entries ≡ [] → kinds.keys ≡ [] → IsIndexed rows kinds
indexed_none rows kinds entries keys =
    record {
      ordered = subst (λ (es : Rows). IsStrictlySortedBy nat_cmp (keys_of es)) (sym entries) none_sorted;
      has = λ k n.
          let set_of : List (ℕ × ℕ) → BTreeSet (ℕ × ℕ) = λ ks. record { keys = ks } in
          ap (λ ks. contains kind_cmp (set_of ks) (k, n)) keys ∙ ap (λ es. has_kind k (row_of es n)) (sym entries);
    }

-- ---- the first row of a kind after a node

-- rows after a node don't have one up to it
none_up_to : (b n : ℕ) → n ≤ b → (rows : Rows) → AllByRecursion (λ y. nat_cmp b y ≡ Less) (keys_of rows) → row_of rows n ≡ None
none_up_to b n le [] all = refl
none_up_to b n le (x ∷ xs) all =
    ap (λ o. cond (is_eq o) (Some x.1) (row_of xs n)) (less_is n x.0 (omega (arith, le, is_less b x.0 all.0))) ∙ none_up_to b n le xs all.1

-- what holds of the rows, holds of those after the first one
kind_after : (kind n : ℕ) (e : ℕ × Registered) (es : Rows) → IsStrictlySortedBy nat_cmp (keys_of (e ∷ es)) → has_kind kind (row_of (e ∷ es) n) ≡ false → has_kind kind (row_of es n) ≡ false
kind_after kind n e es up none = go (cases_order n e.0)
  where
    go : (n ≡ e.0) ⊎ ((n < e.0) ⊎ (e.0 < n)) → has_kind kind (row_of es n) ≡ false
    go (inl same) = ap (has_kind kind) (none_up_to e.0 n (omega (arith, same)) es (sorted_head nat_cmp e.0 (keys_of es) up))
    go (inr (inl lt)) = ap (has_kind kind) (none_up_to e.0 n (omega (arith, lt)) es (sorted_head nat_cmp e.0 (keys_of es) up))
    go (inr (inr gt)) = ap (λ o. has_kind kind (cond (is_eq o) (Some e.1) (row_of es n))) (sym (greater_is n e.0 gt)) ∙ none

-- the kind of the first row
kind_first : (kind : ℕ) (e : ℕ × Registered) (es : Rows) → has_kind kind (row_of (e ∷ es) e.0) ≡ (e.1.kind == kind)
kind_first kind e es = ap (λ o. has_kind kind (cond (is_eq o) (Some e.1) (row_of es e.0))) (equal_is e.0)

-- a row isn't listed, where its kind is another, or its node isn't after that one
not_listed : (kind after : ℕ) (e : ℕ × Registered) → (after < e.0 → (e.1.kind == kind) ≡ false) → is_listed kind after e ≡ false
not_listed kind after e other = go (cases_lt after e.0)
  where
    go : (after < e.0) ⊎ (e.0 ≤ after) → is_listed kind after e ≡ false
    go (inl lt) = and_right (nat_lt after e.0) (e.1.kind == kind) (other lt)
    go (inr ge) = and_left (nat_lt after e.0) (e.1.kind == kind) (le-ltb after e.0 ge)

pub none_listed : (kind after : ℕ) (rows : Rows) → IsStrictlySortedBy nat_cmp (keys_of rows) → ((n : ℕ) → after < n → has_kind kind (row_of rows n) ≡ false) → filter (is_listed kind after) rows ≡ []
none_listed kind after [] up none = refl
none_listed kind after (e ∷ es) up none =
    ap (λ b. cond b (e ∷ filter (is_listed kind after) es) (filter (is_listed kind after) es)) (not_listed kind after e (λ lt. sym (kind_first kind e es) ∙ none e.0 lt))
    ∙ none_listed kind after es (sorted_tail nat_cmp e.0 (keys_of es) up) (λ n lt. kind_after kind n e es up (none n lt))

-- the nodes of rows that are all after two nodes are listed alike
listed_alike : (kind after node : ℕ) → after ≤ node → (rows : Rows) → AllByRecursion (λ y. nat_cmp node y ≡ Less) (keys_of rows) → filter (is_listed kind after) rows ≡ filter (is_listed kind node) rows
listed_alike kind after node le [] all = refl
listed_alike kind after node le (x ∷ xs) all =
    let lt = is_less node x.0 all.0 in
    ap (λ b. cond (b && (x.1.kind == kind)) (x ∷ filter (is_listed kind after) xs) (filter (is_listed kind after) xs)) (lt-ltb after x.0 (omega (arith, lt, le)) ∙ sym (lt-ltb node x.0 lt))
    ∙ ap (λ rest. cond (is_listed kind node x) (x ∷ rest) rest) (listed_alike kind after node le xs all.1)

pub first_listed : (kind after node : ℕ) (row : Registered) (rows : Rows) → IsStrictlySortedBy nat_cmp (keys_of rows) → after < node → row_of rows node ≡ Some row → (row.kind == kind) ≡ true
    → ((n : ℕ) → after < n → n < node → has_kind kind (row_of rows n) ≡ false) → filter (is_listed kind after) rows ≡ (node, row) ∷ filter (is_listed kind node) rows
first_listed kind after node row [] up lt there is none = absurd cc
first_listed kind after node row (e ∷ es) up lt there is none =
    go (λ later none_later. first_listed kind after node row es (sorted_tail nat_cmp e.0 (keys_of es) up) lt later is none_later) (cases_order node e.0)
  where
    head : AllByRecursion (λ y. nat_cmp e.0 y ≡ Less) (keys_of es)
    head = sorted_head nat_cmp e.0 (keys_of es) up

    go : (row_of es node ≡ Some row → ((n : ℕ) → after < n → n < node → has_kind kind (row_of es n) ≡ false) → filter (is_listed kind after) es ≡ (node, row) ∷ filter (is_listed kind node) es)
        → (node ≡ e.0) ⊎ ((node < e.0) ⊎ (e.0 < node)) → filter (is_listed kind after) (e ∷ es) ≡ (node, row) ∷ filter (is_listed kind node) (e ∷ es)
    go of_rest (inl same) =
        let found : Some e.1 ≡ Some row = sym (ap (λ n. row_of (e ∷ es) n) same ∙ ap (λ o. cond (is_eq o) (Some e.1) (row_of es e.0)) (equal_is e.0)) ∙ there in
        let own : e.1 ≡ row = cc in
        let entry : e ≡ (node, row) = ap (λ (n : ℕ). let p : ℕ × Registered = (n, e.1) in p) (sym same) ∙ ap (λ (r : Registered). let p : ℕ × Registered = (node, r) in p) own in
        let kind_is : (e.1.kind == kind) ≡ true = ap (λ (r : Registered). r.kind == kind) own ∙ is in
        let yes : is_listed kind after e ≡ true = ap (λ b. b && (e.1.kind == kind)) (lt-ltb after e.0 (omega (arith, same, lt))) ∙ kind_is in
        let no : is_listed kind node e ≡ false = not_listed kind node e (λ later. absurd (omega (arith, same, later))) in
        ap (λ b. cond b (e ∷ filter (is_listed kind after) es) (filter (is_listed kind after) es)) yes
        ∙ ap (λ rest. e ∷ rest) (subst (λ m. filter (is_listed kind after) es ≡ filter (is_listed kind m) es) (sym same) (listed_alike kind after e.0 (omega (arith, same, lt)) es head))
        ∙ ap (λ x. x ∷ filter (is_listed kind node) es) entry
        ∙ sym (ap (λ b. (node, row) ∷ cond b (e ∷ filter (is_listed kind node) es) (filter (is_listed kind node) es)) no)
    go of_rest (inr (inl below)) =
        let missing : row_of (e ∷ es) node ≡ None = ap (λ o. cond (is_eq o) (Some e.1) (row_of es node)) (less_is node e.0 below) ∙ none_up_to e.0 node (omega (arith, below)) es head in
        absurd (let both = sym missing ∙ there in cc)
    go of_rest (inr (inr above)) =
        let later : row_of es node ≡ Some row = ap (λ o. cond (is_eq o) (Some e.1) (row_of es node)) (sym (greater_is node e.0 above)) ∙ there in
        let no : is_listed kind after e ≡ false = not_listed kind after e (λ after_lt. sym (kind_first kind e es) ∙ none e.0 after_lt above) in
        let nor : is_listed kind node e ≡ false = not_listed kind node e (λ node_lt. absurd (omega (arith, above, node_lt))) in
        ap (λ b. cond b (e ∷ filter (is_listed kind after) es) (filter (is_listed kind after) es)) no
        ∙ of_rest later (λ n low high. kind_after kind n e es up (none n low high))
        ∙ sym (ap (λ b. (node, row) ∷ cond b (e ∷ filter (is_listed kind node) es) (filter (is_listed kind node) es)) nor)

-- ---- what a search in the index finds

-- a node of the same kind after another
same_kind : (kind a n : ℕ) → a < n → kind_cmp (kind, a) (kind, n) ≡ Less
same_kind kind a n lt = ap (λ o. ordering_then o (nat_cmp a n)) (equal_is kind) ∙ less_is a n lt

-- not there
not_there : (b : Bool) → (IsTrue b → ⊥) → b ≡ false
not_there true never = absurd (never refl)
not_there false never = refl

module _ (rows : BTreeMap ℕ Registered) (kinds : BTreeSet (ℕ × ℕ)) (kind after : ℕ) (found : List (ℕ × ℕ)) (indexed : IsIndexed rows kinds)
    (is : IsKeyRangeOf kind_cmp (Excluded (kind, after)) Unbounded kinds found) where
  pub nothing_found : found ≡ [] → IsFirstListed rows.entries kind after None
  nothing_found none =
      none_listed kind after rows.entries indexed.ordered (λ n lt. sym (indexed.has kind n) ∙ is.5 none (kind, n) (same_kind kind after n lt, tt))

  module _ (key : ℕ × ℕ) (others : List (ℕ × ℕ)) (first : found ≡ key ∷ others) where
    inside : IsKeyInRange kind_cmp (Excluded (kind, after)) Unbounded kinds key
    inside = subst (λ (r : List (ℕ × ℕ)). IfSome (slice_get r 0) (IsKeyInRange kind_cmp (Excluded (kind, after)) Unbounded kinds)) first is.1

    -- no other node after that one comes before it
    least : (n : ℕ) → after < n → IsTrue (contains kind_cmp kinds (kind, n)) → is_gt (kind_cmp key (kind, n)) ≡ false
    least n lt there =
        subst (λ (r : List (ℕ × ℕ)). IfSome (slice_get r 0) (λ k. is_gt (kind_cmp k (kind, n)) ≡ false)) first (is.2 (kind, n) (same_kind kind after n lt, tt) there)

    -- nothing of the kind where its own kind is greater
    pub other_found : (key.0 ≡ kind → ⊥) → IsFirstListed rows.entries kind after None
    other_found differ = go (cases_order kind key.0)
      where
        go : (kind ≡ key.0) ⊎ ((kind < key.0) ⊎ (key.0 < kind)) → IsFirstListed rows.entries kind after None
        go (inl same) = absurd (differ (sym same))
        go (inr (inl lt)) =
            none_listed kind after rows.entries indexed.ordered (λ n later.
            sym (indexed.has kind n)
            ∙ not_there (contains kind_cmp kinds (kind, n)) (λ there.
            true≢false (sym (ap (λ o. is_gt (ordering_then o (nat_cmp key.1 n))) (greater_is key.0 kind lt)) ∙ least n later there)))
        go (inr (inr gt)) = absurd (let none = sym (ap (λ o. ordering_then o (nat_cmp after key.1)) (greater_is kind key.0 gt)) ∙ inside.0.0 in cc)

    module _ (own : key.0 ≡ kind) where
      equal_kinds : nat_cmp key.0 kind ≡ Equal
      equal_kinds = sym (nat_cmp_is key.0 kind Equal own)

      above : after < key.1
      above = is_less after key.1 (sym (ap (λ o. ordering_then o (nat_cmp after key.1)) (sym (nat_cmp_is kind key.0 Equal (sym own)))) ∙ inside.0.0)

      of_kind : (o : Option Registered) → row_of rows.entries key.1 ≡ o → has_kind kind o ≡ true
      of_kind o is_row =
          subst (λ k. has_kind k o ≡ true) own (sym (indexed.has key.0 key.1 ∙ ap (has_kind key.0) is_row) ∙ inside.1)

      none_between : (n : ℕ) → after < n → n < key.1 → has_kind kind (row_of rows.entries n) ≡ false
      none_between n low high =
          sym (indexed.has kind n)
          ∙ not_there (contains kind_cmp kinds (kind, n)) (λ there.
          true≢false (sym (ap (λ o. is_gt (ordering_then o (nat_cmp key.1 n))) equal_kinds ∙ ap is_gt (greater_is key.1 n high)) ∙ least n low there))

      pub found_row : (row : Registered) → row_of rows.entries key.1 ≡ Some row → IsFirstListed rows.entries kind after (Some (key.1, row))
      found_row row there = first_listed kind after key.1 row rows.entries indexed.ordered above there (of_kind (Some row) there) none_between

      pub never_missing : row_of rows.entries key.1 ≡ None → ⊥
      never_missing missing = true≢false (sym (of_kind None missing))
