-- How nodes are read into places, one after the other.
use Rattle.std.proofs.Common.{◌≡◌, ◌∙◌, ℕ, suc, ◌+◌, ◌-◌, ◌<◌, List, [], ◌∷◌, ◌++◌, length, take, sym, ap, arith, append-nil, append_assoc}
use Rattle.std.proofs.Math.ListN.{set, length-set}
use Rattle.std.proofs.lemmas.List.{take_more_set}
use Rattle.xt_base.specs.declared.ids.NodeId.{NodeId}
use Rattle.server_text.specs.Reading.{first_word, other_words, each_word, node_in, nodes_of}
use Rattle.server_text.proofs.ManyAgain.{each_word_more, each_word_none}

-- the rest after one node more
left_over : (all count left : ℕ) (rest : List ℕ) → 0 < length rest → left ≡ suc (all - (count + 1))
    → nodes_of left rest ≡ node_in (first_word rest) ∷ nodes_of (all - (count + 1)) (other_words rest)
left_over all count left rest more is = ap (λ n. nodes_of n rest) is ∙ each_word_more node_in (all - (count + 1)) rest more

-- a node is read into its place
pub one_read : (places : List NodeId) (count : ℕ) (rest words : List ℕ) (node : NodeId) → count < length places → 0 < length rest
    → node ≡ node_in (first_word rest)
    → take count places ++ nodes_of (length places - count) rest ≡ nodes_of (length places) words
    → take (count + 1) (set places count node) ++ nodes_of (length (set places count node) - (count + 1)) (other_words rest)
    ≡ nodes_of (length (set places count node)) words
one_read places count rest words node within more is before =
    let same : length (set places count node) ≡ length places = length-set places count node in
    let tail = nodes_of (length places - (count + 1)) (other_words rest) in
    rw (same, take_more_set places count node within)
    (append_assoc (take count places) (node ∷ []) tail
    ∙ ap (λ n. take count places ++ n ∷ tail) is
    ∙ ap (λ ns. take count places ++ ns) (sym (left_over (length places) count (length places - count) rest more (omega arith)))
    ∙ before)

-- no word is left
pub none_left : (places : List NodeId) (count left : ℕ) (rest words : List ℕ) → length rest ≡ 0
    → take count places ++ nodes_of left rest ≡ nodes_of (length places) words
    → take count places ≡ nodes_of (length places) words
none_left places count left [] words none before =
    sym (append-nil (take count places)) ∙ ap (λ ns. take count places ++ ns) (sym (each_word_none node_in left)) ∙ before
none_left places count left (byte ∷ rest) words none before = absurd (omega arith)

-- no place is left
pub all_read : (places : List NodeId) (count : ℕ) (rest words : List ℕ) → count ≡ length places
    → take count places ++ nodes_of (length places - count) rest ≡ nodes_of (length places) words
    → take count places ≡ nodes_of (length places) words
unfolding each_word
all_read places count rest words is before =
    let none : length places - count ≡ 0 = omega arith in
    sym (append-nil (take count places)) ∙ ap (λ n. take count places ++ nodes_of n rest) (sym none) ∙ before
