-- the tables of a world
use Rattle.std.proofs.Common.{◌≡◌, ◌≢◌, ℕ, inl, inr, List, [], ◌∷◌, ◌++◌, map, refl, arith, sym, ◌∙◌, Option, Some, None, Bool, true, false, if◌then◌else◌}
use Rattle.std.specs.Prelude.{◌⊎◌, ◌==◌}
use Rattle.std.specs.Option.{option_map}
use Rattle.std.proofs.lemmas.Bool.Decides.{nat_tests}
use Rattle.std.proofs.lemmas.Bool.{cases_eq}
use Rattle.lease_safety.specs.State.{Has}
use Rattle.world_spec.specs.declared.PlacedFile.{PlacedFile}
use Rattle.world_spec.specs.World.{Node, node_in, with_node, file_in}
use Rattle.world_spec.specs.Lines.{ticked}

pub same : (a b : ℕ) → (a ≡ b) ⊎ (a ≢ b)
same a b = grind arith

pub node_in-new : (nodes : List Node) (node old : Node) → node_in nodes node.id.0 ≡ Some old → node_in (with_node nodes node) node.id.0 ≡ Some node
unfolding node_in with_node
node_in-new [] node old h = absurd cc
node_in-new (x ∷ xs) node old h =
    elim (cases_eq x.id.0 node.id.0) as (λ w. node_in (with_node (x ∷ xs) node) node.id.0 ≡ Some node) [
      | inl e ↦ grind (arith, nat_tests)
      | inr ne ↦ (let rest : node_in (with_node xs node) node.id.0 ≡ Some node = node_in-new xs node old (grind (arith, nat_tests)) in grind (arith, nat_tests))
    ]

pub node_in-other : (nodes : List Node) (node : Node) (id : ℕ) → id ≢ node.id.0 → node_in (with_node nodes node) id ≡ node_in nodes id
unfolding node_in with_node
node_in-other [] node id ne = refl
node_in-other (x ∷ xs) node id ne = let rest : node_in (with_node xs node) id ≡ node_in xs id = node_in-other xs node id ne in grind (arith, nat_tests)

pub node_in-id : (nodes : List Node) (id : ℕ) (node : Node) → node_in nodes id ≡ Some node → node.id.0 ≡ id
unfolding node_in
node_in-id [] id node h = absurd cc
node_in-id (x ∷ xs) id node h =
    elim (cases_eq x.id.0 id) as (λ w. node.id.0 ≡ id) [
      | inl e ↦ grind (arith, nat_tests)
      | inr ne ↦ node_in-id xs id node (grind (arith, nat_tests))
    ]

pub nobody : (id : ℕ) → node_in [] id ≡ None
unfolding node_in
nobody id = refl

-- a node that is declared last
pub node_in-last : (nodes : List Node) (node : Node) → node_in nodes node.id.0 ≡ None → node_in (nodes ++ node ∷ []) node.id.0 ≡ Some node
unfolding node_in
node_in-last [] node free = grind (arith, nat_tests)
node_in-last (x ∷ xs) node free =
    elim (cases_eq x.id.0 node.id.0) as (λ w. node_in ((x ∷ xs) ++ node ∷ []) node.id.0 ≡ Some node) [
      | inl e ↦ grind (arith, nat_tests)
      | inr ne ↦ (let rest : node_in (xs ++ node ∷ []) node.id.0 ≡ Some node = node_in-last xs node (grind (arith, nat_tests)) in grind (arith, nat_tests))
    ]

pub node_in-before : (nodes : List Node) (node : Node) (id : ℕ) → id ≢ node.id.0 → node_in (nodes ++ node ∷ []) id ≡ node_in nodes id
unfolding node_in
node_in-before [] node id ne = grind (arith, nat_tests)
node_in-before (x ∷ xs) node id ne = let rest : node_in (xs ++ node ∷ []) id ≡ node_in xs id = node_in-before xs node id ne in grind (arith, nat_tests)

pub node_in-ticked : (nodes : List Node) (count n : ℕ) → node_in (map (ticked count) nodes) n ≡ option_map (ticked count) (node_in nodes n)
unfolding node_in
node_in-ticked [] count n = refl
node_in-ticked (x ∷ xs) count n = let rest : node_in (map (ticked count) xs) n ≡ option_map (ticked count) (node_in xs n) = node_in-ticked xs count n in at (x.id.0 == n) rest
  where
    at : (b : Bool) → node_in (map (ticked count) xs) n ≡ option_map (ticked count) (node_in xs n)
        → (if b then Some (ticked count x) else node_in (map (ticked count) xs) n) ≡ option_map (ticked count) (if b then Some x else node_in xs n)
    at true rest = refl
    at false rest = rest

-- ---- files

-- a file is found by its own number,
pub file_in-id : (files : List PlacedFile) (number : ℕ) (f : PlacedFile) → file_in files number ≡ Some f → f.file.number ≡ number
unfolding file_in
file_in-id [] number f is = absurd cc
file_in-id (x ∷ xs) number f is =
    elim (cases_eq x.file.number number) as (λ w. f.file.number ≡ number) [
      | inl e ↦ grind (arith, nat_tests)
      | inr ne ↦ file_in-id xs number f (grind (arith, nat_tests))
    ]

-- and is one of them
pub file_in-has : (files : List PlacedFile) (number : ℕ) (f : PlacedFile) → file_in files number ≡ Some f → Has f files
unfolding file_in
file_in-has [] number f is = absurd cc
file_in-has (x ∷ xs) number f is = at (x.file.number == number) (λ there. file_in-has xs number f there) is
  where
    at : (b : Bool) → (file_in xs number ≡ Some f → Has f xs) → (if b then Some x else file_in xs number) ≡ Some f → Has f (x ∷ xs)
    at true rest is = (let same_file : x ≡ f = cc in inl (sym same_file))
    at false rest is = inr (rest is)

-- a file of the front is found as it was
pub file_in-stays : (files more : List PlacedFile) (number : ℕ) (f : PlacedFile) → file_in files number ≡ Some f → file_in (files ++ more) number ≡ Some f
unfolding file_in
file_in-stays [] more number f is = absurd cc
file_in-stays (x ∷ xs) more number f is = at (x.file.number == number) (λ there. file_in-stays xs more number f there) is
  where
    at : (b : Bool) → (file_in xs number ≡ Some f → file_in (xs ++ more) number ≡ Some f) → (if b then Some x else file_in xs number) ≡ Some f → (if b then Some x else file_in (xs ++ more) number) ≡ Some f
    at true rest is = is
    at false rest is = rest is

-- a number that isn't in the front is looked up in the rest
pub file_in-rest : (files more : List PlacedFile) (number : ℕ) → file_in files number ≡ None → file_in (files ++ more) number ≡ file_in more number
unfolding file_in
file_in-rest [] more number is = refl
file_in-rest (x ∷ xs) more number is = at (x.file.number == number) (λ there. file_in-rest xs more number there) is
  where
    at : (b : Bool) → (file_in xs number ≡ None → file_in (xs ++ more) number ≡ file_in more number) → (if b then Some x else file_in xs number) ≡ None → (if b then Some x else file_in (xs ++ more) number) ≡ file_in more number
    at true rest is = absurd cc
    at false rest is = rest is

-- what is found in both is found in the front, or is in none of it and found in the rest
pub file_in-either : (files more : List PlacedFile) (number : ℕ) (f : PlacedFile) → file_in (files ++ more) number ≡ Some f
    → (file_in files number ≡ Some f) ⊎ ((file_in files number ≡ None) × (file_in more number ≡ Some f))
file_in-either files more number f is = at (file_in files number) refl
  where
    at : (o : Option PlacedFile) → file_in files number ≡ o → (file_in files number ≡ Some f) ⊎ ((file_in files number ≡ None) × (file_in more number ≡ Some f))
    at None there = inr (there, sym (file_in-rest files more number there) ∙ is)
    at (Some x) there = inl (there ∙ sym (file_in-stays files more number x there) ∙ is)

-- a file of another number at the end changes nothing for this one
pub file_in-before : (files : List PlacedFile) (f : PlacedFile) (number : ℕ) → number ≢ f.file.number → file_in (files ++ f ∷ []) number ≡ file_in files number
unfolding file_in
file_in-before [] f number ne = grind (arith, nat_tests)
file_in-before (x ∷ xs) f number ne = let rest : file_in (xs ++ f ∷ []) number ≡ file_in xs number = file_in-before xs f number ne in grind (arith, nat_tests)

-- a file that is put at the end, where its number is free, is found
pub file_in-last : (files : List PlacedFile) (f : PlacedFile) → file_in files f.file.number ≡ None → file_in (files ++ f ∷ []) f.file.number ≡ Some f
unfolding file_in
file_in-last files f free = file_in-rest files (f ∷ []) f.file.number free ∙ alone
  where
    alone : file_in (f ∷ []) f.file.number ≡ Some f
    alone = grind (arith, nat_tests)

-- each file stays what it is
abbrev pub AllStay : List PlacedFile → List PlacedFile → Type 0
AllStay files later = (number : ℕ) (f : PlacedFile) → file_in files number ≡ Some f → file_in later number ≡ Some f

pub all_stay : (files : List PlacedFile) → AllStay files files
all_stay files number f is = is

pub stay_before : (files more : List PlacedFile) → AllStay files (files ++ more)
stay_before files more number f is = file_in-stays files more number f is

-- where both lists stay, what is found in the two stays: the later files of the front have other numbers than those of the rest
pub stay_both : (files later made : List PlacedFile) → AllStay files later
    → ((number : ℕ) (f : PlacedFile) → file_in files number ≡ None → file_in made number ≡ Some f → file_in later number ≡ None) → AllStay (files ++ made) (later ++ made)
stay_both files later made stays other number f is =
    elim (file_in-either files made number f is) [
      | inl front ↦ file_in-stays later made number f (stays number f front)
      | inr rest ↦ file_in-rest later made number (other number f rest.0 rest.1) ∙ rest.1
    ]

-- what more is made at the end changes nothing
pub stay_made : (files made more : List PlacedFile) → AllStay (files ++ made) (files ++ (made ++ more))
stay_made files made more number f is =
    elim (file_in-either files made number f is) [
      | inl front ↦ file_in-stays files (made ++ more) number f front
      | inr rest ↦ file_in-rest files (made ++ more) number rest.0 ∙ file_in-stays made more number f rest.1
    ]
