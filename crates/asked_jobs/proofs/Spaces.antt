-- a text that is taken apart at its spaces, and texts that are UTF-8
use Rattle.std.proofs.Common.{◌≡◌, ◌≢◌, ◌∙◌, ℕ, ◌<◌, List, [], ◌∷◌, ◌++◌, length, get_or, refl, sym, ap, arith, Bool, true, false, cond, append_assoc, suc, IsUtf8}
use Rattle.std.specs.Prelude.{◌==◌}
use Rattle.std.specs.Str.{is_utf8}
use Rattle.std.proofs.lemmas.Bool.Decides.{Decides-eqb}
use Rattle.std.proofs.lemmas.Str.{IsUtf8-from_is_utf8}
use Rattle.command_words.specs.Worked.{longer, words_in}

-- no space is in a text
abbrev pub HasNoSpace : List ℕ → Type 0
HasNoSpace text = (i : ℕ) → i < length text → get_or text i 0 ≢ 32

-- a text without one is its one word
pub word_alone : (text : List ℕ) → HasNoSpace text → words_in text ≡ text ∷ []
word_alone [] no_space = refl
word_alone (byte ∷ bytes) no_space = go (byte == 32) refl (word_alone bytes (λ i h. no_space (suc i) (omega arith))) where
  go : (b : Bool) → (byte == 32) ≡ b → words_in bytes ≡ bytes ∷ [] → cond b ([] ∷ words_in bytes) (longer byte (words_in bytes)) ≡ (byte ∷ bytes) ∷ []
  go true e later = absurd (no_space 0 (omega arith) ((Decides-eqb byte 32).0 e))
  go false e later = ap (longer byte) later

-- what is before the first space is the first word
pub word_first : (word later : List ℕ) → HasNoSpace word → words_in (word ++ 32 ∷ later) ≡ word ∷ words_in later
word_first [] later no_space = refl
word_first (byte ∷ bytes) later no_space = go (byte == 32) refl (word_first bytes later (λ i h. no_space (suc i) (omega arith))) where
  go : (b : Bool) → (byte == 32) ≡ b → words_in (bytes ++ 32 ∷ later) ≡ bytes ∷ words_in later → cond b ([] ∷ words_in (bytes ++ 32 ∷ later)) (longer byte (words_in (bytes ++ 32 ∷ later))) ≡ (byte ∷ bytes) ∷ words_in later
  go true e rest = absurd (no_space 0 (omega arith) ((Decides-eqb byte 32).0 e))
  go false e rest = ap (longer byte) rest

-- one more word is taken off
pub word_taken : (words more : List (List ℕ)) (word rest later : List ℕ) (all : List (List ℕ)) → words ++ words_in rest ≡ all → more ≡ words ++ word ∷ []
    → (rest ≡ word ++ 32 ∷ later) × HasNoSpace word → more ++ words_in later ≡ all
word_taken words more word rest later all so_far pushed cut =
    ap (λ (list : List (List ℕ)). list ++ words_in later) pushed
    ∙ append_assoc words (word ∷ []) (words_in later)
    ∙ ap (λ (list : List (List ℕ)). words ++ list) (sym (ap words_in cut.0 ∙ word_first word later cut.1))
    ∙ so_far

-- and the last one
pub last_word : (words more : List (List ℕ)) (rest : List ℕ) (all : List (List ℕ)) → words ++ words_in rest ≡ all → more ≡ words ++ rest ∷ []
    → HasNoSpace rest → more ≡ all
last_word words more rest all so_far pushed no_space =
    pushed ∙ ap (λ (list : List (List ℕ)). words ++ list) (sym (word_alone rest no_space)) ∙ so_far

fails : (bytes : List ℕ) (test : Bool) → is_utf8 bytes ≡ test → ¬ (IsUtf8 bytes) → test ≡ false
fails bytes true e refused = absurd (refused (IsUtf8-from_is_utf8 bytes e))
fails bytes false e refused = refl

pub not_utf8 : (bytes : List ℕ) → ¬ (IsUtf8 bytes) → is_utf8 bytes ≡ false
not_utf8 bytes refused = fails bytes (is_utf8 bytes) refl refused
