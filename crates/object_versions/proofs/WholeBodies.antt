-- the whole of a body that is shown, or written over
use Rattle.std.proofs.Common.{◌≡◌, ◌≤◌, ◌+◌, ◌-◌, ◌∙◌, ℕ, List, ◌++◌, length, take, drop, ap, sym, subst, arith, Result, Ok, Err, IfOk}
use Rattle.std.proofs.Math.Seq.{take-length}
use Rattle.std.proofs.lemmas.List.{append-nil, drop_all}
use Rattle.xt_base.specs.Overlay.{zeros, overlay, cut_or_filled}

no_zeros : (n m : ℕ) → n ≤ m → zeros (n - m) ≡ zeros 0
no_zeros n m le = ap zeros (let none : n - m ≡ 0 = omega arith in none)

pub all_shown : (body : List ℕ) → body ≡ cut_or_filled body (length body)
all_shown body =
    sym (ap (λ xs. take (length body) body ++ xs) (no_zeros (length body) (length body) (omega arith)) ∙ append-nil (take (length body) body) ∙ take-length body)

all_over : (old new : List ℕ) (end : ℕ) → length old ≤ length new → end ≡ length new → new ≡ zeros (0 - length old) ++ new ++ drop end old
all_over old new end le is =
    sym (ap (λ xs. xs ++ new ++ drop end old) (no_zeros 0 (length old) (omega arith)) ∙ ap (λ xs. new ++ xs) (drop_all end old (omega (arith, le, is))) ∙ append-nil new)

pub all_written : {E : Type 0} (made : Result (List ℕ) E) (old new : List ℕ) (at : ℕ) → at ≡ 0 → length old ≤ length new → IfOk made (λ bytes. bytes ≡ new)
    → IfOk made (λ bytes. bytes ≡ overlay old at new)
all_written (Ok bytes) old new at first le is =
    subst (λ place. bytes ≡ overlay old place new) (sym first) (is ∙ all_over old new (0 + length new) le (omega arith))
all_written (Err error) old new at first le is = tt
