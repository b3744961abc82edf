-- A fact on a result, from another one.
use Rattle.std.proofs.Common.{◌≡◌, ℕ, ◌+◌, ◌-◌, ◌<◌, ◌≤◌, ⊎_elim, Bool, false, sym, ◌∙◌, ap, arith, Result, Ok, Err, OnOk, OnErr}
use Rattle.journal_records.specs.Calls.{GoesOn, IsFirstFailure, AllSucceed}
use Rattle.std.proofs.lemmas.Bool.{cases_lt}

pub on_ok : {T E P Q : Type 0} (r : Result T E) → OnOk r P → (P → Q) → OnOk r Q
on_ok (Ok x) p f = f p
on_ok (Err e) p f = p

pub an_ok : {T E P : Type 0} (r : Result T E) → P → OnOk r P
an_ok (Ok x) p = p
an_ok (Err e) p = tt

pub both_err : {T E P Q R : Type 0} (r : Result T E) → OnErr r P → OnErr r Q → (P → Q → R) → OnErr r R
both_err (Ok x) p q f = p
both_err (Err e) p q f = f p q

pub on_err : {T E P Q : Type 0} (r : Result T E) → OnErr r P → (P → Q) → OnErr r Q
on_err (Ok x) p f = p
on_err (Err e) p f = f p

-- the plan after two runs of calls
pub follows : (a b c : ℕ → ℕ → Bool) (l₁ c₁ l₂ c₂ : ℕ) → GoesOn l₁ c₁ a b → GoesOn l₂ c₂ b c → GoesOn (l₁ + l₂) (c₁ + c₂) a c
follows a b c l₁ c₁ l₂ c₂ first second = λ l k.
    let looks : l₁ + (l₂ + l) ≡ (l₁ + l₂) + l = omega arith in
    let changes : c₁ + (c₂ + k) ≡ (c₁ + c₂) + k = omega arith in
    second l k ∙ first (l₂ + l) (c₂ + k) ∙ ap (λ (n : ℕ). a n (c₁ + (c₂ + k))) looks ∙ ap (λ (n : ℕ). a ((l₁ + l₂) + l) n) changes

pub an_err : {T E P : Type 0} (r : Result T E) → P → OnErr r P
an_err (Ok x) p = tt
an_err (Err e) p = p

-- the first failure after two calls that succeed
pub later_failure : (old mid : ℕ → ℕ → Bool) → GoesOn 0 2 old mid → AllSucceed old 2 → (call : ℕ) → IsFirstFailure mid call → IsFirstFailure old (2 + call)
later_failure old mid goes two call failure = record {
  fails_there = sym (goes 0 call) ∙ failure.fails_there;
  not_before = λ c some less. ⊎_elim (λ past. before c past (omega (arith, less))) (λ here. two c some here) (cases_lt 2 c);
}
  where
    before : (c : ℕ) → 2 < c → c < 2 + call → old 0 c ≡ false
    before c past less =
        let is : 2 + (c - 2) ≡ c = omega arith in
        sym (ap (λ (n : ℕ). old 0 n) is) ∙ sym (goes 0 (c - 2)) ∙ failure.not_before (c - 2) (omega arith) (omega arith)

pub all_succeed : (old mid : ℕ → ℕ → Bool) → GoesOn 0 2 old mid → AllSucceed old 2 → AllSucceed mid 2 → AllSucceed old 4
all_succeed old mid goes two more = λ c some four. ⊎_elim (λ past. behind c past four) (λ here. two c some here) (cases_lt 2 c)
  where
    behind : (c : ℕ) → 2 < c → c ≤ 4 → old 0 c ≡ false
    behind c past four =
        let is : 2 + (c - 2) ≡ c = omega arith in
        sym (ap (λ (n : ℕ). old 0 n) is) ∙ sym (goes 0 (c - 2)) ∙ more (c - 2) (omega arith) (omega arith)

-- the same calls come once more is reserved
pub same_calls : (old mid new : ℕ → ℕ → Bool) → ((l c : ℕ) → mid l c ≡ old l c) → AllSucceed mid 4 → GoesOn 0 4 mid new → AllSucceed old 4 × GoesOn 0 4 old new
same_calls old mid new is all goes = (λ c some four. sym (is 0 c) ∙ all c some four, λ l c. goes l c ∙ is (0 + l) (4 + c))

pub no_calls : (old new : ℕ → ℕ → Bool) → ((l c : ℕ) → new l c ≡ old l c) → GoesOn 0 0 old new
no_calls old new is = λ l c.
    let looks : l ≡ 0 + l = omega arith in
    let changes : c ≡ 0 + c = omega arith in
    is l c ∙ ap (λ (n : ℕ). old n c) looks ∙ ap (λ (n : ℕ). old (0 + l) n) changes
