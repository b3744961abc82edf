-- the sample, step by step
use Rattle.std.proofs.Common.{◌≡◌, ℕ, zero, suc, ◌<◌, [], ◌∷◌, refl, subst, inl, inr, arith, Bool, true, false}
use Rattle.std.specs.Prelude.{slice_index}
use Rattle.xt_messages.specs.declared.file.Op.TheVariants as op
use Rattle.xt_protocol.specs.Writes.{standing}
use Rattle.xt_protocol.specs.PlainRows.{plain_step}
use Rattle.replica_safety.specs.Epochs.{at_node}
use Rattle.xt_messages.specs.Limits.{FitsOp}
use Rattle.striped_safety.specs.StripedWorld.{MayAll, first_world}
use Rattle.striped_safety.specs.Example.{two, first_write, second_write, truncation, read, moves, ShowsAByte}

two_bytes : (i : ℕ) → slice_index (97 ∷ 98 ∷ []) i < 256
two_bytes zero = omega arith
two_bytes (suc zero) = omega arith
two_bytes (suc (suc i)) = omega arith

three_bytes : (i : ℕ) → slice_index (99 ∷ 100 ∷ 101 ∷ []) i < 256
three_bytes zero = omega arith
three_bytes (suc zero) = omega arith
three_bytes (suc (suc zero)) = omega arith
three_bytes (suc (suc (suc i))) = omega arith

first_fits : FitsOp (op.Write 0 3 (97 ∷ 98 ∷ []))
first_fits = (omega arith, omega arith, record { all = two_bytes; few = omega arith }, omega arith)

second_fits : FitsOp (op.Write 1 0 (99 ∷ 100 ∷ 101 ∷ []))
second_fits = (omega arith, omega arith, record { all = three_bytes; few = omega arith }, omega arith)

truncation_fits : FitsOp (op.Truncate 1026)
truncation_fits = omega arith

read_fits : FitsOp (op.Read 1 1 9)
read_fits = (omega arith, omega arith, omega arith, omega arith)

told_both : (told : ℕ → Bool) → told 0 ≡ true → told 1 ≡ true → (place : ℕ) → place < 2 → told place ≡ true
told_both told a b zero low = a
told_both told a b (suc zero) low = b
told_both told a b (suc (suc n)) low = absurd (omega (arith, low))

abbrev none : ℕ → Bool
none p = false

may_all : MayAll two first_world moves
unfolding plain_step standing
may_all = (
  record { rests = refl; above = omega arith; fits = first_fits },
  (
    (omega arith, inl refl, refl),
    (
      record { asked = first_write; running = refl; same = refl; here = omega arith; needed = refl; sent = inl refl },
      (
        record { asked = first_write; running = refl; all = λ p low needs. subst (λ (k : ℕ). at_node 0 true none k ≡ true) needs refl },
        (
          record { rests = refl; above = omega arith; fits = second_fits },
          (
            (omega arith, inl refl, refl),
            (
              (omega arith, inl refl, refl),
              (
                record { asked = second_write; running = refl; same = refl; here = omega arith; needed = refl; sent = inl refl },
                (
                  record { asked = second_write; running = refl; all = λ p low needs. subst (λ (k : ℕ). at_node 1 true none k ≡ true) needs refl },
                  (
                    record { rests = refl; above = omega arith; fits = truncation_fits },
                    (
                      (omega arith, inl refl, refl),
                      (
                        record { asked = truncation; running = refl; same = refl; here = omega arith; needed = omega arith; sent = inl refl },
                        (
                          (omega arith, inl refl, refl),
                          (
                            (omega arith, inr (inr (inl refl)), refl),
                            (
                              record { asked = truncation; running = refl; same = refl; here = omega arith; needed = omega arith; sent = inl refl },
                              (
                                record { asked = truncation; running = refl; all = λ p low needs. told_both (at_node 1 true (at_node 0 true none)) refl refl p low },
                                (
                                  record { rests = refl; above = omega arith; fits = read_fits },
                                  (
                                    (omega arith, inl refl, refl),
                                    (
                                      record { asked = read; running = refl; same = refl; here = omega arith; needed = refl; sent = inl refl },
                                      tt,
                                    ),
                                  ),
                                ),
                              ),
                            ),
                          ),
                        ),
                      ),
                    ),
                  ),
                ),
              ),
            ),
          ),
        ),
      ),
    ),
  ),
)

pub shows_a_byte : ShowsAByte
unfolding plain_step standing
shows_a_byte = (may_all, refl)
