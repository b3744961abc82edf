-- How words are read, one after the other.
use Rattle.std.proofs.Common.{◌≡◌, ◌∙◌, ℕ, suc, ◌+◌, ◌-◌, ◌<◌, List, [], ◌∷◌, ◌++◌, length, sym, ap, arith, append-nil, append_assoc}
use Rattle.server_text.specs.Reading.{first_word, other_words, each_word}
use Rattle.server_text.proofs.ManyAgain.{each_word_more, each_word_none}

-- a word is read
pub one_more : {A : Type 0} (read : List ℕ → A) (found new whole : List A) (all count : ℕ) (rest : List ℕ) → count < all → 0 < length rest
    → new ≡ found ++ read (first_word rest) ∷ [] → found ++ each_word read (all - count) rest ≡ whole
    → new ++ each_word read (all - (count + 1)) (other_words rest) ≡ whole
one_more {A} read found new whole all count rest inside some is before =
    let tail = each_word read (all - (count + 1)) (other_words rest) in
    let left : all - count ≡ suc (all - (count + 1)) = omega (arith, inside) in
    ap (λ (xs : List A). xs ++ tail) is
    ∙ append_assoc found (read (first_word rest) ∷ []) tail
    ∙ ap (λ (xs : List A). found ++ xs) (sym (ap (λ (n : ℕ). each_word read n rest) left ∙ each_word_more read (all - (count + 1)) rest some))
    ∙ before

-- no word is left
pub no_more : {A : Type 0} (read : List ℕ → A) (found : List A) (most : ℕ) (rest words : List ℕ) → length rest ≡ 0
    → found ++ each_word read most rest ≡ each_word read (length words) words → found ≡ each_word read (length words) words
no_more {A} read found most [] words none before =
    sym (append-nil found) ∙ ap (λ (xs : List A). found ++ xs) (sym (each_word_none read most)) ∙ before
no_more read found most (byte ∷ rest) words none before = absurd (omega (arith, none))

-- as many were read as there are bytes
pub all_read : {A : Type 0} (read : List ℕ → A) (found : List A) (count : ℕ) (rest words : List ℕ) → count ≡ length words
    → found ++ each_word read (length words - count) rest ≡ each_word read (length words) words → found ≡ each_word read (length words) words
unfolding each_word
all_read {A} read found count rest words is before =
    let none : length words - count ≡ 0 = omega (arith, is) in
    sym (append-nil found) ∙ ap (λ (n : ℕ). found ++ each_word read n rest) (sym none) ∙ before
