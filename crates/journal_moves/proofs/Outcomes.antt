-- A fact on a result, from another one; and the device calls of one part after another.
use Rattle.std.proofs.Common.{◌≡◌, ◌≢◌, ⊎_elim, ℕ, ◌+◌, ◌-◌, ◌<◌, ◌≤◌, ◌==◌, Bool, Result, Ok, Err, IfOk, IsErrOf, OnOk, OnErr, is_err, false, refl, sym, ◌∙◌, ap, arith}
use Rattle.std.proofs.lemmas.Bool.{cases_lt, cond-true, cond-false, eq-eqb, ne_eqb}
use Rattle.journal_records.specs.Calls.{GoesOn, IsFirstFailure}
use Rattle.journal_areas.specs.Format.{open_gate}
use Rattle.journal_moves.specs.Moves.{MakesCalls, FailsWithin, shut_calls}

pub on_ok : {T E P Q : Type 0} (r : Result T E) → OnOk r P → (P → Q) → OnOk r Q
on_ok (Ok x) p f = f p
on_ok (Err e) p f = p

pub if_ok : {T E : Type 0} (P Q : T → Type 0) (r : Result T E) → IfOk r P → ((x : T) → is_err r ≡ false → P x → Q x) → IfOk r Q
if_ok P Q (Ok x) p f = f x refl p
if_ok P Q (Err e) p f = p

pub an_ok : {T E P : Type 0} (r : Result T E) → (is_err r ≡ false → P) → OnOk r P
an_ok (Ok x) f = f refl
an_ok (Err e) f = tt

-- the error, in another result
pub same_err : {T S E : Type 0} (e f : E) → IsErrOf {T = T} {E = E} (Err e) f → IsErrOf {T = S} {E = E} (Err e) f
same_err e f is =
    let same : e ≡ f = cc in
    ap Err same

pub both_ok : {T E P Q R : Type 0} (r : Result T E) → OnOk r P → OnOk r Q → (P → Q → R) → OnOk r R
both_ok (Ok x) p q f = f p q
both_ok (Err e) p q f = p

pub on_err : {T E P Q : Type 0} (r : Result T E) → OnErr r P → (P → Q) → OnErr r Q
on_err (Ok x) p f = p
on_err (Err e) p f = f p

pub both_err : {T E P Q R : Type 0} (r : Result T E) → OnErr r P → OnErr r Q → (P → Q → R) → OnErr r R
both_err (Ok x) p q f = p
both_err (Err e) p q f = f p q

pub an_err : {T E P : Type 0} (r : Result T E) → P → OnErr r P
an_err (Ok x) p = tt
an_err (Err e) p = p

later : (a b : ℕ → ℕ → Bool) (n c : ℕ) → GoesOn 0 n a b → n < c → b 0 (c - n) ≡ a 0 c
later a b n c goes past =
    let is : n + (c - n) ≡ c = omega (arith, past) in
    goes 0 (c - n) ∙ ap (λ (k : ℕ). a 0 k) is

pub made_then : (a b d : ℕ → ℕ → Bool) (n m : ℕ) → MakesCalls n a b → MakesCalls m b d → MakesCalls (n + m) a d
made_then a b d n m one two = record {
  succeeded = λ c some le.
      ⊎_elim (λ past. sym (later a b n c one.plan past) ∙ two.succeeded (c - n) (omega (arith, past)) (omega (arith, le))) (λ here. one.succeeded c some here) (cases_lt n c);
  plan = λ l c.
      let looks : 0 + (0 + l) ≡ 0 + l = omega arith in
      let changes : n + (m + c) ≡ n + m + c = omega arith in
      two.plan l c ∙ one.plan (0 + l) (m + c) ∙ ap (λ (k : ℕ). a k (n + (m + c))) looks ∙ ap (λ (k : ℕ). a (0 + l) k) changes;
}

pub first_then : (a b : ℕ → ℕ → Bool) (n : ℕ) → MakesCalls n a b → (call : ℕ) → IsFirstFailure b call → IsFirstFailure a (n + call)
first_then a b n made call first = record {
  fails_there = sym (made.plan 0 call) ∙ first.fails_there;
  not_before = λ c some less.
      ⊎_elim (λ past. sym (later a b n c made.plan past) ∙ first.not_before (c - n) (omega (arith, past)) (omega (arith, less, past))) (λ here. made.succeeded c some here) (cases_lt n c);
}

pub failed_then : (a b : ℕ → ℕ → Bool) (n m : ℕ) → MakesCalls n a b → FailsWithin m b → FailsWithin (n + m) a
failed_then a b n m one two = (n + two.0, omega (arith, two.1), omega (arith, two.2), first_then a b n one two.0 two.3)

pub failed_more : (a : ℕ → ℕ → Bool) (n m : ℕ) → n ≤ m → FailsWithin n a → FailsWithin m a
failed_more a n m le is = (is.0, is.1, omega (arith, le, is.2), is.3)

pub goes_none : (a : ℕ → ℕ → Bool) → GoesOn 0 0 a a
goes_none a = λ l c.
    let looks : l ≡ 0 + l = omega arith in
    let changes : c ≡ 0 + c = omega arith in
    ap (λ (k : ℕ). a k c) looks ∙ ap (λ (k : ℕ). a (0 + l) k) changes

pub made_none : (a : ℕ → ℕ → Bool) → MakesCalls 0 a a
made_none a = record { succeeded = λ c some le. absurd (omega (arith, some, le)); plan = goes_none a }

-- the same calls are to fail
pub made_same : (a b d : ℕ → ℕ → Bool) (n : ℕ) → ((l c : ℕ) → b l c ≡ a l c) → MakesCalls n b d → MakesCalls n a d
made_same a b d n is made = record { succeeded = λ c some le. sym (is 0 c) ∙ made.succeeded c some le; plan = λ l c. made.plan l c ∙ is (0 + l) (n + c) }

pub first_same : (a b : ℕ → ℕ → Bool) → ((l c : ℕ) → b l c ≡ a l c) → (call : ℕ) → IsFirstFailure b call → IsFirstFailure a call
first_same a b is call first = record { fails_there = sym (is 0 call) ∙ first.fails_there; not_before = λ c some less. sym (is 0 c) ∙ first.not_before c some less }

pub failed_same : (a b : ℕ → ℕ → Bool) (n : ℕ) → ((l c : ℕ) → b l c ≡ a l c) → FailsWithin n b → FailsWithin n a
failed_same a b n is failed = (failed.0, failed.1, failed.2, first_same a b is failed.0 failed.3)

pub none_same : (a b : ℕ → ℕ → Bool) → ((l c : ℕ) → b l c ≡ a l c) → GoesOn 0 0 a b
none_same a b is = λ l c. is l c ∙ goes_none a l c

pub shut_none : (gate : ℕ) → gate ≢ open_gate → 0 ≡ shut_calls gate
shut_none gate shut = sym (cond-false (gate == open_gate) 2 0 (ne_eqb gate open_gate shut))

pub shut_two : (gate : ℕ) → gate ≡ open_gate → 2 ≡ shut_calls gate
shut_two gate opens = sym (cond-true (gate == open_gate) 2 0 (eq-eqb gate open_gate opens))
