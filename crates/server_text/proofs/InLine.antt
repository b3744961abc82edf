-- Words stand in a line: no line feed is among them.
use Rattle.std.proofs.Common.{◌≡◌, ◌≢◌, ℕ, List, [], ◌∷◌, ◌++◌, refl, arith}
use Rattle.std.specs.List.{AllByRecursion}
use Rattle.server_text.specs.Words.{behind, spaced}
use Rattle.server_text.proofs.WordsAgain.{IsWord}

-- no line feed is among them
abbrev pub HasNoFeed : List ℕ → Type 0
HasNoFeed bytes = AllByRecursion (λ byte. byte ≢ 10) bytes

pub no_feed-append : (xs ys : List ℕ) → HasNoFeed xs → HasNoFeed ys → HasNoFeed (xs ++ ys)
no_feed-append [] ys first second = second
no_feed-append (x ∷ xs) ys first second = (first.0, no_feed-append xs ys first.1 second)

pub word_in_line : (word : List ℕ) → IsWord word → HasNoFeed word
word_in_line [] fits = tt
word_in_line (byte ∷ word) fits = (fits.0.1, word_in_line word fits.1)

pub behind_in_line : (words : List (List ℕ)) → AllByRecursion IsWord words → HasNoFeed (behind words)
behind_in_line [] all = tt
behind_in_line (word ∷ words) all =
    (λ feed. absurd (omega arith), no_feed-append word (behind words) (word_in_line word all.0) (behind_in_line words all.1))

pub spaced_in_line : (words : List (List ℕ)) → AllByRecursion IsWord words → HasNoFeed (spaced words)
spaced_in_line [] all = tt
spaced_in_line (word ∷ words) all = no_feed-append word (behind words) (word_in_line word all.0) (behind_in_line words all.1)

-- two texts in a line each, with their line feeds at the front of the same bytes
pub same_line : (xs ys first second : List ℕ) → HasNoFeed xs → HasNoFeed ys → xs ++ 10 ∷ first ≡ ys ++ 10 ∷ second → (xs ≡ ys) × (first ≡ second)
same_line [] [] first second p q e = (refl, cc)
same_line [] (y ∷ ys) first second p q e = absurd (q.0 (let same : y ≡ 10 = cc in same))
same_line (x ∷ xs) [] first second p q e = absurd (p.0 (let same : x ≡ 10 = cc in same))
same_line (x ∷ xs) (y ∷ ys) first second p q e =
    let tails : xs ++ 10 ∷ first ≡ ys ++ 10 ∷ second = cc in
    let rest = same_line xs ys first second p.1 q.1 tails in
    let heads : x ≡ y = cc in
    let texts : xs ≡ ys = rest.0 in
    (cc, rest.1)
