-- trees stay trees as what is in them changes
use Rattle.std.proofs.Common.{◌≡◌, ◌∙◌, List, [], ◌∷◌, ◌++◌, map, refl, sym, ap, subst, Bool, true, false, cond, String}
use Rattle.std.specs.Prelude.{Option, Some, None, IfSome}
use Rattle.std.specs.String.{string_bytes}
use Rattle.std.specs.Ordering.{match_ordering}
use Rattle.std.specs.declared.cmp.Ordering.{Ordering}
use Rattle.std.specs.declared.cmp.Ordering.TheVariants.{Less, Equal, Greater}
use Rattle.std.specs.List.{AllByRecursion, cons_option}
use Rattle.std.specs.List.Sorted.{IsStrictlySortedBy}
use Rattle.std.specs.Map.{lookup, keys_of, set_value, remove_entry}
use Rattle.std.specs.BTreeMap.{insert_entry}
use Rattle.std.proofs.lemmas.Map.{keys-set_value}
use Rattle.volume_rows.specs.declared.Entry.{Entry}
use Rattle.volume_rows.specs.Paths.{Name, Path, path_cmp, name_in}
use Rattle.volume_rows.specs.Rows.{Row, names_in}
use Rattle.volume_rows.specs.Rights.{is_directory}
use Rattle.name_tree.specs.Trees.{below, inside, flat, is_top, IsRising, IsTree, IsSound}
use Rattle.name_tree.proofs.Putting.{AreSorted, key_test, name_cmp, cmp_same}

-- a tree is under each name
abbrev pub AllTrees : {A : Type 0} → List (String A × List Row) → Type 0
AllTrees kids = AllByRecursion (λ kid. IsTree kid.1) kids

pub trees_set : {A : Type 0} (test : String A → Bool) (made : List Row) (kids : List (String A × List Row)) → AllTrees kids → IsTree made → AllTrees (set_value test kids made)
trees_set test made [] trees tree = tt
trees_set test made (kid ∷ kids) trees tree = go (test kid.0) (trees_set test made kids trees.1 tree) where
  go : (b : Bool) → AllTrees (set_value test kids made) → AllTrees (cond b ((kid.0, made) ∷ kids) (kid ∷ set_value test kids made))
  go true later = (tree, trees.1)
  go false later = (trees.0, later)

pub trees_insert : {A : Type 0} (cmp : String A → String A → Ordering) (key : String A) (made : List Row) (kids : List (String A × List Row)) → AllTrees kids → IsTree made → AllTrees (insert_entry cmp kids key made)
trees_insert cmp key made [] trees tree = (tree, tt)
trees_insert cmp key made (kid ∷ kids) trees tree = go (cmp key kid.0) (trees_insert cmp key made kids trees.1 tree) where
  go : (o : Ordering) → AllTrees (insert_entry cmp kids key made) → AllTrees (match_ordering o ((key, made) ∷ kid ∷ kids) ((kid.0, made) ∷ kids) (kid ∷ insert_entry cmp kids key made))
  go Less later = (tree, trees)
  go Equal later = (tree, trees.1)
  go Greater later = (trees.0, later)

pub trees_remove : {A : Type 0} (test : String A → Bool) (kids : List (String A × List Row)) → AllTrees kids → AllTrees (remove_entry test kids)
trees_remove test [] trees = tt
trees_remove test (kid ∷ kids) trees = go (test kid.0) (trees_remove test kids trees.1) where
  go : (b : Bool) → AllTrees (remove_entry test kids) → AllTrees (cond b kids (kid ∷ remove_entry test kids))
  go true later = trees.1
  go false later = (trees.0, later)

-- what is found is a tree
pub tree_found : {A : Type 0} (test : String A → Bool) (sub : List Row) (kids : List (String A × List Row)) → AllTrees kids → Some sub ≡ lookup test kids → IsTree sub
tree_found test sub [] trees there = absurd (cc)
tree_found test sub (kid ∷ kids) trees there = go (test kid.0) there (tree_found test sub kids trees.1) where
  go : (b : Bool) → Some sub ≡ cond b (Some kid.1) (lookup test kids) → (Some sub ≡ lookup test kids → IsTree sub) → IsTree sub
  go true there later = let own : kid.1 ≡ sub = cc in subst (λ (rows : List Row). IsTree rows) own trees.0
  go false there later = later there

-- the rows of a tree are below its top, and its names are right in it
deeper : (n : Name) (rows rest : List Row) → AllByRecursion (λ r. is_top r.path ≡ false) rows → names_in (map (below n) rows ++ rest) [] ≡ names_in rest []
deeper n [] rest all = refl
deeper n (r ∷ rs) rest all = go r.path all.0 (deeper n rs rest all.1) where
  go : (p : Path) → is_top p ≡ false → names_in (map (below n) rs ++ rest) [] ≡ names_in rest [] → cons_option (name_in [] (n ∷ p)) (names_in (map (below n) rs ++ rest) []) ≡ names_in rest []
  go [] h later = absurd (cc)
  go (m ∷ ms) h later = later

name_of_tree : (n : Name) (rows rest : List Row) → IsTree rows → names_in (map (below n) rows ++ rest) [] ≡ n ∷ names_in rest []
name_of_tree n [] rest tree = absurd tree
name_of_tree n (r ∷ rs) rest tree =
    ap (λ (p : Path). cons_option (name_in [] (n ∷ p)) (names_in (map (below n) rs ++ rest) [])) tree.at_top ∙ ap (λ (ns : List Name). n ∷ ns) (deeper n rs rest tree.below)

-- a name as it is reported
abbrev pub name_told : {A : Type 0} → String A × List Row → Name
name_told kid = string_bytes kid.0

pub names_are : {A : Type 0} (kids : List (String A × List Row)) → AllTrees kids → names_in (inside kids) [] ≡ map name_told kids
names_are [] trees = refl
names_are (kid ∷ kids) trees = name_of_tree (string_bytes kid.0) kid.1 (inside kids) trees.0 ∙ ap (λ (ns : List Name). string_bytes kid.0 ∷ ns) (names_are kids trees.1)

nothing_inside : {A : Type 0} (kids : List (String A × List Row)) → AllTrees kids → names_in (inside kids) [] ≡ [] → inside kids ≡ []
nothing_inside [] trees none = refl
nothing_inside (kid ∷ kids) trees none = let some : map name_told (kid ∷ kids) ≡ [] = sym (names_are (kid ∷ kids) trees) ∙ none in absurd (cc)

-- all rows in a directory are below it
below_inside : {A : Type 0} (kids : List (String A × List Row)) → AllByRecursion (λ r. is_top r.path ≡ false) (inside kids)
below_inside [] = tt
below_inside (kid ∷ kids) = go kid.1 (below_inside kids) where
  go : (rows : List Row) → AllByRecursion (λ r. is_top r.path ≡ false) (inside kids) → AllByRecursion (λ r. is_top r.path ≡ false) (map (below (string_bytes kid.0)) rows ++ inside kids)
  go [] later = later
  go (r ∷ rs) later = (refl, go rs later)

-- a path comes before all rows under later names
before_later : {A : Type 0} (m : Name) (p : Path) (kids : List (String A × List Row)) → AllByRecursion (λ y. name_cmp m (string_bytes y) ≡ Less) (keys_of kids) → AllByRecursion (λ s. path_cmp (m ∷ p) s.path ≡ Less) (inside kids)
before_later m p [] all = tt
before_later m p (kid ∷ kids) all = go kid.1 (before_later m p kids all.1) where
  go : (rows : List Row) → AllByRecursion (λ s. path_cmp (m ∷ p) s.path ≡ Less) (inside kids) → AllByRecursion (λ s. path_cmp (m ∷ p) s.path ≡ Less) (map (below (string_bytes kid.0)) rows ++ inside kids)
  go [] later = later
  go (r ∷ rs) later = (rw (all.0) refl, go rs later)

-- rows under a name rise as they do by themselves, and before what is later
rising_below : (m : Name) (rows rest : List Row) → IsRising rows → IsRising rest → ((p : Path) → AllByRecursion (λ s. path_cmp (m ∷ p) s.path ≡ Less) rest) → IsRising (map (below m) rows ++ rest)
rising_below m [] rest rising later before = later
rising_below m (r ∷ rs) rest rising later before = (go rs rising.0, rising_below m rs rest rising.1 later before) where
  go : (ss : List Row) → AllByRecursion (λ s. path_cmp r.path s.path ≡ Less) ss → AllByRecursion (λ s. path_cmp (m ∷ r.path) s.path ≡ Less) (map (below m) ss ++ rest)
  go [] all = before r.path
  go (s ∷ ss) all = (rw (cmp_same m) (all.0), go ss all.1)

pub rising_tree : (rows : List Row) → IsTree rows → IsRising rows
rising_tree [] tree = absurd tree
rising_tree (top ∷ rest) tree = (subst (λ (p : Path). AllByRecursion (λ s. path_cmp p s.path ≡ Less) rest) (sym tree.at_top) (go rest tree.below), tree.rising) where
  first : (p : Path) → is_top p ≡ false → path_cmp [] p ≡ Less
  first [] h = absurd (cc)
  first (n ∷ ns) h = refl

  go : (rows : List Row) → AllByRecursion (λ r. is_top r.path ≡ false) rows → AllByRecursion (λ s. path_cmp [] s.path ≡ Less) rows
  go [] all = tt
  go (r ∷ rs) all = (first r.path all.0, go rs all.1)

rising_inside : {A : Type 0} (kids : List (String A × List Row)) → AreSorted kids → AllTrees kids → IsRising (inside kids)
unfolding IsStrictlySortedBy
rising_inside [] sorted trees = tt
rising_inside (kid ∷ kids) sorted trees =
    rising_below (string_bytes kid.0) kid.1 (inside kids) (rising_tree kid.1 trees.0) (rising_inside kids sorted.1 trees.1) (λ p. before_later (string_bytes kid.0) p kids sorted.0)

-- an entry and what is in it are a tree
pub flat_tree : {A : Type 0} (entry : Entry) (kids : List (String A × List Row)) → IsSound entry kids → IsTree (flat entry kids)
flat_tree entry kids sound = record {
  at_top = refl;
  below = below_inside kids;
  rising = rising_inside kids sound.ordered sound.trees;
  leaf = λ is_file. ap inside (sound.leaf is_file);
  bare = nothing_inside kids sound.trees;
}

-- the same of a list that is it
pub tree_is : {A : Type 0} (entry : Entry) (kids : List (String A × List Row)) (rows : List Row) → flat entry kids ≡ rows → IsSound entry kids → IsTree rows
tree_is entry kids rows view sound = subst (λ (list : List Row). IsTree list) view (flat_tree entry kids sound)

-- what is kept of an entry stays so as what is in it changes
pub sound_same : {A : Type 0} (entry : Entry) (kids later : List (String A × List Row)) → IsSound entry kids → later ≡ kids → IsSound entry later
sound_same {A} entry kids later sound same = subst (λ (list : List (String A × List Row)). IsSound entry list) (sym same) sound

pub sound_set : {A : Type 0} (entry : Entry) (kids later : List (String A × List Row)) (made : List Row) (n : Name) → IsSound entry kids → later ≡ set_value (key_test n) kids made → IsTree made → IsSound entry later
sound_set {A} entry kids later made n sound through tree = sound_same entry (set_value (key_test n) kids made) later (record {
  ordered = subst (λ (ks : List (String A)). IsStrictlySortedBy (λ a b. name_cmp (string_bytes a) (string_bytes b)) ks) (sym (keys-set_value (key_test n) kids made)) sound.ordered;
  trees = trees_set (key_test n) made kids sound.trees tree;
  leaf = λ is_file. ap (λ (ks : List (String A × List Row)). set_value (key_test n) ks made) (sound.leaf is_file);
}) through

pub sound_insert : {A : Type 0} (entry : Entry) (kids later : List (String A × List Row)) (made : List Row) (key : String A) → IsSound entry kids → later ≡ insert_entry (λ a b. name_cmp (string_bytes a) (string_bytes b)) kids key made → IsTree made → AreSorted later → is_directory entry.content ≡ true → IsSound entry later
sound_insert {A} entry kids later made key sound inserted tree sorted directory = record {
  ordered = sorted;
  trees = subst (λ (list : List (String A × List Row)). AllTrees list) (sym inserted) (trees_insert (λ a b. name_cmp (string_bytes a) (string_bytes b)) key made kids sound.trees tree);
  leaf = λ is_file. absurd (cc);
}

pub sound_remove : {A : Type 0} (entry : Entry) (kids later : List (String A × List Row)) (n : Name) → IsSound entry kids → later ≡ remove_entry (key_test n) kids → AreSorted later → IsSound entry later
sound_remove {A} entry kids later n sound gone sorted = record {
  ordered = sorted;
  trees = subst (λ (list : List (String A × List Row)). AllTrees list) (sym gone) (trees_remove (key_test n) kids sound.trees);
  leaf = λ is_file. gone ∙ ap (remove_entry (key_test n)) (sound.leaf is_file);
}

-- with another entry of the same kind
pub sound_entry : {A : Type 0} (entry made : Entry) (kids : List (String A × List Row)) → IsSound entry kids → is_directory entry.content ≡ is_directory made.content → IsSound made kids
sound_entry entry made kids sound same = record { ordered = sound.ordered; trees = sound.trees; leaf = λ is_file. sound.leaf (same ∙ is_file) }

-- what is taken out is a tree
pub taken_tree : {A : Type 0} (test : String A → Bool) (taken : Option (List Row)) (kids : List (String A × List Row)) → AllTrees kids → taken ≡ lookup test kids → IfSome taken (λ node. IsTree node)
taken_tree test None kids trees found = tt
taken_tree test (Some sub) kids trees found = tree_found test sub kids trees found

-- an entry alone is a tree
pub single_tree : (rows : List Row) (entry : Entry) → rows ≡ record { path = []; entry = entry } ∷ [] → IsTree rows
single_tree rows entry alone = subst (λ (list : List Row). IsTree list) (sym alone) (record { at_top = refl; below = tt; rising = tt; leaf = λ is_file. refl; bare = λ none. refl })
