-- The answers of members that were written are read.
use Rattle.std.proofs.Common.{◌≡◌, ◌≢◌, ℕ, ◌^◌, ◌<◌, ◌≤◌, ◌==◌, not, List, [], ◌∷◌, ◌++◌, length, refl, ap, ◌∙◌, arith, length-append, eq-eqb}
use Rattle.std.specs.Prelude.{codes}
use Rattle.std.specs.List.{AllByRecursion, position_or_len}
use Rattle.std.specs.Fmt.{decimal}
use Rattle.std.specs.Str.Parse.{AllDigits}
use Rattle.std.proofs.lemmas.Bool.{ne_eqb}
use Rattle.std.proofs.lemmas.Fmt.{decimal_is_IsNumeral_wide}
use Rattle.std.proofs.lemmas.List.{take_at}
use Rattle.std.proofs.lemmas.List.Folds.{prefix_len-append}
use Rattle.std.proofs.lemmas.Str.Parse.{digit_from_value}
use Rattle.std.proofs.Math.Seq.{drop-append-add}
use Rattle.xt_messages.specs.declared.reply.Answered.{Answered}
use Rattle.xt_messages.specs.declared.reply.Retry.{Retry}
use Rattle.xt_messages.specs.declared.reply.Retry.TheVariants as retry
use Rattle.time_line.specs.Bounds.{FitsRetry, FitsAnswered}
use Rattle.server_text.specs.Words.{spaced}
use Rattle.schedule_text.specs.OutcomeText.{retry_text, answer_word, answer_words}
use Rattle.server_text.specs.Reading.{number_of, node_of}
use Rattle.schedule_text.specs.EntryReading.{front, back, retry_of, retry_in, answered_in, answers_in}
use Rattle.server_text.proofs.WordsAgain.{IsWord, IsWord-tested, IsWord-append, above, decimal-IsWord, number_again}
use Rattle.server_text.proofs.ManyAgain.{IsReadAgain, all_again}

-- no such byte stands in it
abbrev Lacks : ℕ → List ℕ → Type 0
Lacks mark word = AllByRecursion (λ byte. byte ≢ mark) word

front_len : (mark : ℕ) (word : List ℕ) → Lacks mark word → position_or_len (λ byte. byte == mark) word ≡ length word
front_len mark [] none = refl
front_len mark (byte ∷ word) none = rw (ne_eqb byte mark none.0, front_len mark word none.1) (omega arith)

mark_found : (mark : ℕ) (word rest : List ℕ) → Lacks mark word → position_or_len (λ byte. byte == mark) (word ++ mark ∷ rest) ≡ length word
mark_found mark word rest none =
    let e = front_len mark word none in
    let here = eq-eqb mark mark refl in
    rw (prefix_len-append (λ byte. not (byte == mark)) word (mark ∷ rest), e)
    (let t = eq-eqb (length word) (length word) refl in rw (t, here) (omega arith))

front_again : (mark : ℕ) (word rest : List ℕ) → Lacks mark word → front mark (word ++ mark ∷ rest) ≡ word
front_again mark word rest none = rw (mark_found mark word rest none) (take_at word (mark ∷ rest) (length word) refl)

back_again : (mark : ℕ) (word rest : List ℕ) → Lacks mark word → back mark (word ++ mark ∷ rest) ≡ rest
back_again mark word rest none = rw (mark_found mark word rest none) (drop-append-add word (mark ∷ rest) 1)

-- a number has digits alone
decimal-Lacks : (mark n : ℕ) → n < 10 ^ 64 → (48 ≤ mark → 57 < mark) → Lacks mark (decimal n)
decimal-Lacks mark n wide none = lacks (decimal n) (decimal_is_IsNumeral_wide n wide).0.1
  where
    lacks : (digits : List ℕ) → AllDigits 10 digits → Lacks mark digits
    lacks [] d = tt
    lacks (c ∷ cs) d = (λ same. absurd (omega (arith, digit_from_value c d.0)), lacks cs d.1)

-- What was written is read.

-- what a member gave, after the sign of equality
abbrev retry_rest : Retry → List ℕ
retry_rest (retry.NoLease end) = codes "nolease:" ++ decimal end
retry_rest (retry.NoMajority have need) = codes "nomajority:" ++ decimal have ++ 47 ∷ decimal need
retry_rest (retry.Elsewhere node end) = codes "elsewhere:" ++ decimal node.0 ++ 58 ∷ decimal end
retry_rest retry.Silent = codes "silent"

retry_text_is : (given : Retry) → retry_text given ≡ 61 ∷ retry_rest given
unfolding retry_text
retry_text_is (retry.NoLease end) = refl
retry_text_is (retry.NoMajority have need) = refl
retry_text_is (retry.Elsewhere node end) = refl
retry_text_is retry.Silent = refl

two_again : (mark one other first second : ℕ) → first < 2 ^ one → second < 2 ^ other → first < 10 ^ 64 → second < 10 ^ 64 → (48 ≤ mark → 57 < mark)
    → (number_of one (front mark (decimal first ++ mark ∷ decimal second)) ≡ first)
    × (number_of other (back mark (decimal first ++ mark ∷ decimal second)) ≡ second)
two_again mark one other first second p q wide wide_too none =
    let lacks = decimal-Lacks mark first wide none in (
      ap (number_of one) (front_again mark (decimal first) (decimal second) lacks) ∙ number_again one first p wide,
      ap (number_of other) (back_again mark (decimal first) (decimal second) lacks) ∙ number_again other second q wide_too,
    )

retry_again : (given : Retry) → FitsRetry given → retry_in (retry_rest given) ≡ given
unfolding retry_in retry_of
retry_again (retry.NoLease end) fits = ap retry.NoLease (number_again 64 end fits (omega arith))
retry_again (retry.NoMajority have need) (p, q) =
    let both = two_again 47 8 8 have need p q (omega arith) (omega arith) (λ low. omega arith) in
    ap (λ (n : ℕ). retry.NoMajority n (number_of 8 (back 47 (decimal have ++ 47 ∷ decimal need)))) both.0
    ∙ ap (λ (n : ℕ). retry.NoMajority have n) both.1
retry_again (retry.Elsewhere node end) (p, q) =
    let both = two_again 58 32 64 node.0 end p q (omega arith) (omega arith) (λ low. omega arith) in
    ap (λ (n : ℕ). retry.Elsewhere (node_of n) (number_of 64 (back 58 (decimal node.0 ++ 58 ∷ decimal end)))) both.0
    ∙ ap (λ (n : ℕ). retry.Elsewhere node n) both.1
retry_again retry.Silent fits = refl

retry-IsWord : (given : Retry) → FitsRetry given → IsWord (retry_text given)
unfolding retry_text
retry-IsWord (retry.NoLease end) fits =
    IsWord-append (codes "=nolease:") (decimal end) (IsWord-tested (codes "=nolease:") refl) (decimal-IsWord end (omega arith))
retry-IsWord (retry.NoMajority have need) (p, q) =
    IsWord-append (codes "=nomajority:" ++ decimal have) (47 ∷ decimal need)
    (IsWord-append (codes "=nomajority:") (decimal have) (IsWord-tested (codes "=nomajority:") refl) (decimal-IsWord have (omega arith)))
    (above 47 (omega arith), decimal-IsWord need (omega arith))
retry-IsWord (retry.Elsewhere node end) (p, q) =
    IsWord-append (codes "=elsewhere:" ++ decimal node.0) (58 ∷ decimal end)
    (IsWord-append (codes "=elsewhere:") (decimal node.0) (IsWord-tested (codes "=elsewhere:") refl) (decimal-IsWord node.0 (omega arith)))
    (above 58 (omega arith), decimal-IsWord end (omega arith))
retry-IsWord retry.Silent fits = IsWord-tested (codes "=silent") refl

pub answered_again : (given : Answered) → FitsAnswered given → IsReadAgain answered_in answer_word given
unfolding answered_in
answered_again given fits =
    let who = fits.who in
    let lacks = decimal-Lacks 61 given.node.0 (omega arith) (λ low. omega arith) in
    let text : answer_word given ≡ decimal given.node.0 ++ 61 ∷ retry_rest given.outcome =
    ap (λ (rest : List ℕ). decimal given.node.0 ++ rest) (retry_text_is given.outcome) in
    record {
      is_word = IsWord-append (decimal given.node.0) (retry_text given.outcome) (decimal-IsWord given.node.0 (omega arith)) (retry-IsWord given.outcome fits.gave);
      some =
          let digits = (decimal_is_IsNumeral_wide given.node.0 (omega arith)).0.0 in
          omega (arith, length-append (decimal given.node.0) (retry_text given.outcome));
      again =
          ap answered_in text
          ∙ ap (λ (n : List ℕ). let a : Answered = record { node = node_of (number_of 32 n); outcome = retry_in (back 61 (decimal given.node.0 ++ 61 ∷ retry_rest given.outcome)) } in a)
          (front_again 61 (decimal given.node.0) (retry_rest given.outcome) lacks)
          ∙ ap (λ (n : ℕ). let a : Answered = record { node = node_of n; outcome = retry_in (back 61 (decimal given.node.0 ++ 61 ∷ retry_rest given.outcome)) } in a)
          (number_again 32 given.node.0 who (omega arith))
          ∙ ap (λ (rest : List ℕ). let a : Answered = record { node = given.node; outcome = retry_in rest } in a)
          (back_again 61 (decimal given.node.0) (retry_rest given.outcome) lacks)
          ∙ ap (λ (r : Retry). let a : Answered = record { node = given.node; outcome = r } in a) (retry_again given.outcome fits.gave);
    }

answered_all : (given : List Answered) → AllByRecursion FitsAnswered given → AllByRecursion (IsReadAgain answered_in answer_word) given
answered_all [] fits = tt
answered_all (one ∷ given) fits = (answered_again one fits.0, answered_all given fits.1)

pub answers_again : (given : List Answered) → AllByRecursion FitsAnswered given → answers_in (spaced (answer_words given)) ≡ given
unfolding answers_in
answers_again given fits = all_again answered_in answer_word given (answered_all given fits)

-- each answer is a word
pub answers-AreWords : (given : List Answered) → AllByRecursion FitsAnswered given → AllByRecursion IsWord (answer_words given)
answers-AreWords [] fits = tt
answers-AreWords (one ∷ given) fits =
    let here = answered_again one fits.0 in (here.is_word, answers-AreWords given fits.1)
