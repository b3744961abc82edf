-- A list that was written in words is read.
use Rattle.std.proofs.Common.{◌≡◌, ℕ, zero, suc, ◌^◌, ◌<◌, ◌≤◌, true, leb, ◌&&◌, List, [], ◌∷◌, length, map, Some, refl, ap, ◌∙◌, arith, length-append}
use Rattle.std.specs.Prelude.{nat_lt}
use Rattle.std.specs.List.{AllByRecursion, list_all}
use Rattle.std.specs.Fmt.{decimal}
use Rattle.std.proofs.lemmas.Bool.{leb-true, lt-ltb, ltb-true}
use Rattle.std.proofs.lemmas.Fmt.{decimal_is_IsNumeral_wide}
use Rattle.xt_base.specs.MemberList.{are_members, are_distinct}
use Rattle.xt_base.specs.declared.ids.NodeId.{NodeId}
use Rattle.xt_messages.specs.Limits.{FitsNode, FitsMembers}
use Rattle.server_text.specs.Words.{behind, spaced, node_words}
use Rattle.server_text.specs.Reading.{first_word, other_words, each_word, node_in, nodes_in, as_members, members_at}
use Rattle.server_text.proofs.WordsAgain.{IsWord, both_are, decimal-IsWord, number_again, first_again, others_again}

-- there is one word more, or none
pub each_word_more : {A : Type 0} (read : List ℕ → A) (most : ℕ) (words : List ℕ) → 0 < length words
    → each_word read (suc most) words ≡ read (first_word words) ∷ each_word read most (other_words words)
unfolding each_word
each_word_more read most [] more = absurd (omega arith)
each_word_more read most (byte ∷ words) more = refl

pub each_word_none : {A : Type 0} (read : List ℕ → A) (most : ℕ) → each_word read most [] ≡ []
unfolding each_word
each_word_none read zero = refl
each_word_none read (suc most) = refl

-- the word of a value, which gives the value again
pub record IsReadAgain {A : Type 0} (read : List ℕ → A) (word : A → List ℕ) (x : A) : Type 0 where
  pub is_word : IsWord (word x)
  pub some : 0 < length (word x)
  pub again : read (word x) ≡ x

pub each_again : {A : Type 0} (read : List ℕ → A) (word : A → List ℕ) (most : ℕ) (xs : List A) → length xs ≤ most
    → AllByRecursion (IsReadAgain read word) xs → each_word read most (spaced (map word xs)) ≡ xs
each_again read word most [] few all = each_word_none read most
each_again read word zero (x ∷ xs) few all = absurd (omega arith)
each_again read word (suc most) (x ∷ xs) few all =
    let here = all.0 in
    let some = here.some in
    each_word_more read most (spaced (word x ∷ map word xs)) (omega (arith, length-append (word x) (behind (map word xs))))
    ∙ ap (λ (w : List ℕ). read w ∷ each_word read most (other_words (spaced (word x ∷ map word xs)))) (first_again (word x) (map word xs) here.is_word)
    ∙ ap (λ (ws : List ℕ). read (word x) ∷ each_word read most ws) (others_again (word x) (map word xs) here.is_word)
    ∙ ap (λ y. y ∷ each_word read most (spaced (map word xs))) here.again
    ∙ ap (λ ys. x ∷ ys) (each_again read word most xs (omega arith) all.1)

-- there are no more values than bytes
behind_long : {A : Type 0} (word : A → List ℕ) (xs : List A) → length xs ≤ length (behind (map word xs))
behind_long word [] = omega arith
behind_long word (x ∷ xs) =
    let rest = behind_long word xs in omega (arith, length-append (word x) (behind (map word xs)))

pub spaced_long : {A : Type 0} (read : List ℕ → A) (word : A → List ℕ) (xs : List A) → AllByRecursion (IsReadAgain read word) xs
    → length xs ≤ length (spaced (map word xs))
spaced_long read word [] all = omega arith
spaced_long read word (x ∷ xs) all =
    let here = all.0 in
    let some = here.some in
    let rest = behind_long word xs in
    omega (arith, length-append (word x) (behind (map word xs)))

-- Nodes.

-- whether each of them is within its limit
pub nodes_fit : (nodes : List NodeId) → list_all (λ node. nat_lt node.0 4294967296) nodes ≡ true → AllByRecursion FitsNode nodes
nodes_fit [] t = tt
nodes_fit (node ∷ nodes) t =
    let both = both_are (nat_lt node.0 4294967296) (list_all (λ n. nat_lt n.0 4294967296) nodes) t in
    (ltb-true node.0 4294967296 both.0, nodes_fit nodes both.1)

pub nodes_pass : (nodes : List NodeId) → AllByRecursion FitsNode nodes → list_all (λ node. nat_lt node.0 4294967296) nodes ≡ true
nodes_pass [] all = refl
nodes_pass (node ∷ nodes) all =
    let here = lt-ltb node.0 4294967296 all.0 in
    rw (here, nodes_pass nodes all.1) refl

pub node_again : (node : NodeId) → FitsNode node → IsReadAgain node_in (λ n. decimal n.0) node
node_again node small =
    record {
      is_word = decimal-IsWord node.0 (omega arith);
      some = (decimal_is_IsNumeral_wide node.0 (omega arith)).0.0;
      again = rw (number_again 32 node.0 small (omega arith)) refl;
    }

pub nodes_are : (nodes : List NodeId) → AllByRecursion FitsNode nodes → AllByRecursion (IsReadAgain node_in (λ n. decimal n.0)) nodes
nodes_are [] all = tt
nodes_are (node ∷ nodes) all = (node_again node all.0, nodes_are nodes all.1)

-- the words of a list, each of which gives its value again
pub all_again : {A : Type 0} (read : List ℕ → A) (word : A → List ℕ) (xs : List A) → AllByRecursion (IsReadAgain read word) xs
    → each_word read (length (spaced (map word xs))) (spaced (map word xs)) ≡ xs
all_again read word xs all = each_again read word (length (spaced (map word xs))) xs (spaced_long read word xs all) all

-- nodes that were written are read
pub nodes_again : (nodes : List NodeId) → AllByRecursion FitsNode nodes → nodes_in (spaced (node_words nodes)) ≡ nodes
unfolding nodes_in
nodes_again nodes fit = all_again node_in (λ n. decimal n.0) nodes (nodes_are nodes fit)

-- the number of a node is a word
pub nodes-AreWords : (nodes : List NodeId) → AllByRecursion FitsNode nodes → AllByRecursion IsWord (node_words nodes)
nodes-AreWords [] fit = tt
nodes-AreWords (node ∷ nodes) fit =
    let small : node.0 < 2 ^ 32 = fit.0 in
    (decimal-IsWord node.0 (omega arith), nodes-AreWords nodes fit.1)

-- Members.

pub members_few : (nodes : List NodeId) → are_members nodes ≡ true → length nodes ≤ 9
members_few nodes h =
    let few = both_are (leb 1 (length nodes) && leb (length nodes) 9) (are_distinct nodes) h in
    leb-true _ _ (both_are (leb 1 (length nodes)) (leb (length nodes) 9) few.0).1

members_are : (nodes : List NodeId) → are_members nodes ≡ true → as_members nodes ≡ Some nodes
members_are nodes h = rw h refl

-- members that were written are read
pub members_again : (nodes : List NodeId) → FitsMembers nodes → members_at (spaced (node_words nodes)) ≡ Some nodes
unfolding members_at
members_again nodes fits =
    ap as_members (each_again node_in (λ n. decimal n.0) 9 nodes (members_few nodes fits.different) (nodes_are nodes fits.each))
    ∙ members_are nodes fits.different
