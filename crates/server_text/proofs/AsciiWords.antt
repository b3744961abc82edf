-- What holds of a word of ASCII.
use Rattle.std.proofs.Common.{◌≡◌, ◌≢◌, ℕ, ◌<◌, ◌≤◌, Bool, true, false, List, [], ◌∷◌, length, refl, arith, eq-eqb}
use Rattle.std.specs.Prelude.{◌==◌, ◌&&◌, not, nat_lt}
use Rattle.std.specs.List.{list_all}
use Rattle.std.specs.Str.{IsAscii, IsUtf8, is_utf8}
use Rattle.std.proofs.lemmas.Bool.{ltb-true}
use Rattle.std.proofs.lemmas.Str.{IsUtf8-from_ascii, IsUtf8-from_is_utf8, is_utf8-from_IsUtf8}
use Rattle.std.proofs.lemmas.Str.Ascii.{IsAscii-nil, IsAscii-cons}
use Rattle.xt_base.specs.FieldLimits.{FitsText}
use Rattle.server_text.specs.Reading.{text_in}
use Rattle.server_text.specs.Spellable.{is_of_word, IsAsciiWord}
use Rattle.server_text.proofs.WordsAgain.{IsOfWord, IsWord, both_are}

differs : (a b : ℕ) → not (a == b) ≡ true → a ≢ b
differs a b t same = absurd (let t' = rw (eq-eqb a b same) at t in cc)

-- the tests that a byte of a word passes
byte_is : (byte : ℕ) → is_of_word byte ≡ true → (byte < 128) × IsOfWord byte
byte_is byte t =
    let all = both_are (nat_lt byte 128 && not (byte == 32)) (not (byte == 10)) t in
    let low = both_are (nat_lt byte 128) (not (byte == 32)) all.0 in
    (ltb-true byte 128 low.0, (differs byte 32 low.1, differs byte 10 all.1))

word_is : (text : List ℕ) → list_all is_of_word text ≡ true → IsWord text
word_is [] t = tt
word_is (byte ∷ text) t =
    let both = both_are (is_of_word byte) (list_all is_of_word text) t in
    ((byte_is byte both.0).1, word_is text both.1)

ascii_is : (text : List ℕ) → list_all is_of_word text ≡ true → IsAscii text
ascii_is [] t = IsAscii-nil
ascii_is (byte ∷ text) t =
    let both = both_are (is_of_word byte) (list_all is_of_word text) t in
    IsAscii-cons byte text (byte_is byte both.0).0 (ascii_is text both.1)

-- UTF-8 as a test

fails : (bytes : List ℕ) (test : Bool) → is_utf8 bytes ≡ test → ¬ (IsUtf8 bytes) → test ≡ false
fails bytes true e refused = absurd (refused (IsUtf8-from_is_utf8 bytes e))
fails bytes false e refused = refl

pub not_utf8 : (bytes : List ℕ) → ¬ (IsUtf8 bytes) → is_utf8 bytes ≡ false
not_utf8 bytes refused = fails bytes (is_utf8 bytes) refl refused

-- neither a space nor a line feed stands in it
pub text-IsWord : (text : List ℕ) → IsAsciiWord text → IsWord text
text-IsWord text word = word_is text word.each

-- it is a text
pub word_fits : (limit : ℕ) (text : List ℕ) → IsAsciiWord text → length text ≤ limit → FitsText limit text
word_fits limit text word few =
    let small = ascii_is text word.each in
    record { all = λ i. omega (arith, small i); few = few; utf8 = IsUtf8-from_ascii text small }

-- a text that was written is read
pub text_again : (text : List ℕ) → IsAsciiWord text → text_in text ≡ text
unfolding text_in
text_again text word = rw (is_utf8-from_IsUtf8 text (IsUtf8-from_ascii text (ascii_is text word.each))) refl
