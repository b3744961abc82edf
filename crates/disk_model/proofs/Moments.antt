-- How a run of device calls goes on.
use Rattle.std.proofs.Common.{◌≡◌, subst, inl, inr, ⊎_elim, ℕ, List, arith}
use Rattle.disk_model.specs.Disk.{Kept, IsImage, Elapses, LeavesOnly}

module _ {D : Type 0} (moment : D → ℕ) (left_since : D → ℕ → List ℕ → Type 0) where
  -- before the first call
  pub begun : (disk : D) (P : List ℕ → Type 0) → ((image : List ℕ) → left_since disk (moment disk) image → P image) → LeavesOnly moment left_since disk disk P
  begun disk P here = record { later = omega arith; each = here; before = λ t image le left. inl left }

  -- one call
  pub elapsed : (old new : D) (kept : Kept) (P : List ℕ → Type 0) → ((image : List ℕ) → left_since old (moment old) image → P image)
      → Elapses (moment old) (moment new) (left_since old) (left_since new) kept → ((image : List ℕ) → IsImage kept image → P image) → LeavesOnly moment left_since old new P
  elapsed old new kept P here time now = record {
    later = time.later;
    each = λ image left. ⊎_elim (here image) (now image) (time.nothing_else (moment old) image (omega arith) left);
    before = λ t image le left. ⊎_elim (λ was. inl was) (λ is. inr (now image is)) (time.nothing_else t image le left);
  }

  -- one call that leaves what is kept
  pub unchanged : (old new : D) (kept same : Kept) → same ≡ kept → ((image : List ℕ) → left_since old (moment old) image → IsImage kept image)
      → Elapses (moment old) (moment new) (left_since old) (left_since new) same → LeavesOnly moment left_since old new (IsImage kept)
  unchanged old new kept same is only time = elapsed old new same (IsImage kept) only time (λ image was. subst (λ (k : Kept). IsImage k image) is was)

  -- one run after another
  pub joined : (old mid new : D) (P Q R : List ℕ → Type 0) → LeavesOnly moment left_since old mid P → LeavesOnly moment left_since mid new Q
      → ((image : List ℕ) → P image → R image) → ((image : List ℕ) → Q image → R image) → LeavesOnly moment left_since old new R
  joined old mid new P Q R first second p q = record {
    later = omega (arith, first.later, second.later);
    each = λ image left. ⊎_elim (λ was. p image (first.each image was)) (q image) (second.before (moment old) image first.later left);
    before = λ t image le left.
        ⊎_elim (λ was. ⊎_elim (λ earlier. inl earlier) (λ is. inr (p image is)) (first.before t image le was))
        (λ is. inr (q image is))
        (second.before t image (omega (arith, le, first.later)) left);
  }

  pub weaker : (old new : D) (P R : List ℕ → Type 0) → LeavesOnly moment left_since old new P → ((image : List ℕ) → P image → R image) → LeavesOnly moment left_since old new R
  weaker old new P R run p = record {
    later = run.later;
    each = λ image left. p image (run.each image left);
    before = λ t image le left. ⊎_elim (λ was. inl was) (λ is. inr (p image is)) (run.before t image le left);
  }
