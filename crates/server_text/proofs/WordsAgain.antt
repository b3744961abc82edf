-- What is spelled as a word is read as one.
use Rattle.std.proofs.Common.{◌≡◌, ◌≢◌, ℕ, suc, ◌+◌, ◌/◌, ◌%◌, ◌^◌, ◌<◌, Bool, true, false, ltb, ◌&&◌, not, List, [], ◌∷◌, ◌++◌, length, Some, refl, ap, eq-eqb, arith}
use Rattle.std.specs.Prelude.{◌==◌, codes}
use Rattle.std.specs.List.{position_or_len, fold}
use Rattle.std.specs.Fmt.{decimal}
use Rattle.std.specs.Str.Parse.{AllDigits}
use Rattle.std.proofs.lemmas.Bool.{ltb-true, ne_eqb}
use Rattle.std.proofs.lemmas.List.{take_at, append-nil}
use Rattle.std.proofs.Math.Seq.{drop-append-add, take-length}
use Rattle.std.proofs.Math.ListN.{drop_of_length-le}
use Rattle.std.proofs.lemmas.List.Folds.{prefix_len-append}
use Rattle.std.proofs.lemmas.List.Sums.{fold-append}
use Rattle.std.proofs.lemmas.Fmt.{decimal_is_IsNumeral_wide, decimal_by_steps_wide}
use Rattle.std.proofs.lemmas.Str.Parse.{digit_from_value}
use Rattle.std.proofs.lemmas.Bool.Decides.{nat_tests}
use Rattle.xt_base.specs.FieldLimits.{AreBytes}
use Rattle.server_text.specs.Words.{spaced, hex_of, hex_pair, hex_digit, hex_or_dash}
use Rattle.server_text.specs.Reading.{first_word, other_words, with_digit, number_of, number_at, digit_of, byte_of, bytes_of}

-- two tests that pass together
pub both_are : (a b : Bool) → (a && b) ≡ true → (a ≡ true) × (b ≡ true)
both_are true true t = (refl, refl)
both_are true false t = absurd cc
both_are false b t = absurd cc

-- neither a space nor a line feed
abbrev pub IsOfWord : ℕ → Type 0
IsOfWord byte = (byte ≢ 32) × (byte ≢ 10)

-- neither a space nor a line feed stands in it
abbrev pub IsWord : List ℕ → Type 0
IsWord [] = Unit {0}
IsWord (byte ∷ word) = IsOfWord byte × IsWord word

-- what is above a space is neither
pub above : (byte : ℕ) → 32 < byte → IsOfWord byte
above byte high = (λ same. absurd (omega (arith, high, same)), λ same. absurd (omega (arith, high, same)))

-- whether neither stands in it, of what is above a space
abbrev pub is_word : List ℕ → Bool
is_word [] = true
is_word (byte ∷ word) = ltb 32 byte && is_word word

pub IsWord-tested : (word : List ℕ) → is_word word ≡ true → IsWord word
IsWord-tested [] t = tt
IsWord-tested (byte ∷ word) t =
    let both = both_are (ltb 32 byte) (is_word word) t in
    (above byte (ltb-true 32 byte both.0), IsWord-tested word both.1)

pub IsWord-append : (first second : List ℕ) → IsWord first → IsWord second → IsWord (first ++ second)
IsWord-append [] second f s = s
IsWord-append (byte ∷ first) second f s = (f.0, IsWord-append first second f.1 s)

-- the bytes of a word that are passed over
word_len : (word : List ℕ) → IsWord word → position_or_len (λ byte. byte == 32) word ≡ length word
word_len [] w = refl
word_len (byte ∷ word) w =
    rw (ne_eqb byte 32 w.0.0, word_len word w.1) (omega arith)

take_word : (word rest : List ℕ) → IsWord word → position_or_len (λ byte. byte == 32) (word ++ 32 ∷ rest) ≡ length word
take_word word rest w =
    let e = word_len word w in
    rw (prefix_len-append (λ byte. not (byte == 32)) word (32 ∷ rest), e) (let t = eq-eqb (length word) (length word) refl in rw t (omega arith))

pub decimal-IsWord : (n : ℕ) → n < 10 ^ 64 → IsWord (decimal n)
decimal-IsWord n wide = words (decimal n) (decimal_is_IsNumeral_wide n wide).0.1
  where
    words : (digits : List ℕ) → AllDigits 10 digits → IsWord digits
    words [] d = tt
    words (c ∷ cs) d = (above c (omega (arith, digit_from_value c d.0)), words cs d.1)

pub number_again : (bits n : ℕ) → n < 2 ^ bits → n < 10 ^ 64 → number_of bits (decimal n) ≡ n
unfolding number_of
number_again bits n small wide = decimal_by_steps_wide (λ m digits. m < 2 ^ bits → fold (with_digit bits) 0 digits ≡ m) (λ m one below. omega arith) (λ m digits large before below. let e = before (omega arith) in rw (fold-append (with_digit bits) 0 digits ((48 + m % 10) ∷ []), e) (omega arith)) n wide small

-- the first of these words, and the others
pub first_again : (word : List ℕ) (words : List (List ℕ)) → IsWord word → first_word (spaced (word ∷ words)) ≡ word
unfolding first_word
first_again word [] w = rw (append-nil word, word_len word w) (take-length word)
first_again word (next ∷ words) w =
    rw (take_word word (spaced (next ∷ words)) w) (take_at word (32 ∷ spaced (next ∷ words)) (length word) refl)

pub others_again : (word : List ℕ) (words : List (List ℕ)) → IsWord word → other_words (spaced (word ∷ words)) ≡ spaced words
unfolding other_words
others_again word [] w = rw (append-nil word, word_len word w) (drop_of_length-le word (omega arith))
others_again word (next ∷ words) w =
    rw (take_word word (spaced (next ∷ words)) w) (drop-append-add word (32 ∷ spaced (next ∷ words)) 1)

-- a number that was written is read
pub number_at_again : (bits n : ℕ) (words : List (List ℕ)) → n < 2 ^ bits → n < 10 ^ 64 → number_at bits (spaced (decimal n ∷ words)) ≡ (n, spaced words)
unfolding number_at
number_at_again bits n words small wide =
    let w = decimal-IsWord n wide in
    rw (first_again (decimal n) words w, others_again (decimal n) words w, number_again bits n small wide) refl

-- a hex digit is no space, and stands for its number
digit_above : (n : ℕ) → n < 16 → 32 < hex_digit n
digit_above n small = grind (arith, nat_tests)

digit_again : (n : ℕ) → n < 16 → digit_of (hex_digit n) ≡ n
digit_again n small = grind (arith, nat_tests)

pub hex-IsWord : (bytes : List ℕ) → AreBytes bytes → IsWord (hex_of bytes)
hex-IsWord [] fits = tt
hex-IsWord (byte ∷ bytes) fits =
    let here : byte < 256 = fits 0 in
    (above _ (digit_above (byte / 16) (omega arith)), (above _ (digit_above (byte % 16) (omega arith)), hex-IsWord bytes (λ i. fits (suc i))))

pub hex_again : (bytes : List ℕ) → AreBytes bytes → bytes_of (hex_of bytes) ≡ bytes
hex_again [] fits = refl
hex_again (byte ∷ bytes) fits =
    let here : byte < 256 = fits 0 in
    rw (digit_again (byte / 16) (omega arith), digit_again (byte % 16) (omega arith), hex_again bytes (λ i. fits (suc i))) (ap (λ (n : ℕ). n ∷ bytes) (omega arith))

pub pair-IsWord : (byte : ℕ) → byte < 256 → IsWord (hex_pair byte)
pair-IsWord byte fits =
    (above _ (digit_above (byte / 16) (omega arith)), (above _ (digit_above (byte % 16) (omega arith)), tt))

pub byte_again : (byte : ℕ) → byte < 256 → byte_of (hex_pair byte) ≡ Some byte
unfolding byte_of
byte_again byte fits =
    rw (digit_again (byte / 16) (omega arith), digit_again (byte % 16) (omega arith)) (ap Some (omega arith))

pub hex_or_dash-IsWord : (bytes : List ℕ) → AreBytes bytes → IsWord (hex_or_dash bytes)
hex_or_dash-IsWord [] fits = IsWord-tested (codes "-") refl
hex_or_dash-IsWord (byte ∷ bytes) fits = hex-IsWord (byte ∷ bytes) fits

pub hex_or_dash_again : (bytes : List ℕ) → AreBytes bytes → bytes_of (hex_or_dash bytes) ≡ bytes
hex_or_dash_again [] fits = refl
hex_or_dash_again (byte ∷ bytes) fits = hex_again (byte ∷ bytes) fits
