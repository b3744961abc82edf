-- The sample, step by step.
use Rattle.std.proofs.Common.{◌≡◌, ℕ, suc, ◌*◌, ◌^◌, ◌<◌, true, [], ◌∷◌, length, refl, subst, inl, inr, arith, if◌then◌else◌, Some, None}
use Rattle.std.specs.Prelude.{nat_lt, count_by, is_some, slice_index, zero}
use Rattle.std.proofs.lemmas.Bool.Decides.{nat_tests}
use Rattle.xt_messages.specs.declared.file.Op.TheVariants as op
use Rattle.xt_messages.specs.declared.file.FileHead.{FileHead}
use Rattle.xt_protocol.specs.Heads.{first_epoch}
use Rattle.xt_protocol.specs.ReplicaRows.{gathered, headed, updated}
use Rattle.xt_protocol.specs.Writes.{standing}
use Rattle.replica_safety.specs.Epochs.{AtMost}
use Rattle.replica_safety.specs.Rules.{first_start}
use Rattle.replica_safety.proofs.Orders.{at_most_self, not_before_self}
use Rattle.replica_runs.specs.HeadSample.{three, told_head, one_status, two_statuses, writes_a_byte, SampleRuns}
use Rattle.replica_runs.specs.HeadSteps.{IsChosen, IsAllowed}
use Rattle.replica_runs.specs.Made.{IsMade}
use Rattle.replica_runs.specs.Marks.{Begins}
use Rattle.replica_runs.proofs.Tools.{by_node}

less : (a b : ℕ) → nat_lt a b ≡ true → a < b
less a b e = grind (arith, nat_tests)

chosen : IsChosen three two_statuses 1 told_head
chosen = record {
  most = less (length three) (2 * count_by (λ m. is_some (two_statuses m)) three) refl;
  one = refl;
  greatest = greatest;
}
  where
    some_head : {a b : FileHead} → Some a ≡ Some b → a ≡ b
    some_head p = cc

    same : (g : FileHead) → Some told_head ≡ Some g → AtMost g.stamp told_head.stamp
    same g p = subst (λ (k : FileHead). AtMost k.stamp told_head.stamp) (some_head p) (at_most_self told_head.stamp)

    greatest : (m : ℕ) (g : FileHead) → two_statuses m ≡ Some g → AtMost g.stamp told_head.stamp
    greatest m g = by_node (λ b. (if b then Some told_head else one_status m) ≡ Some g → AtMost g.stamp told_head.stamp) m 2 (λ _ p. same g p)
        (λ _. by_node (λ b. (if b then Some told_head else None) ≡ Some g → AtMost g.stamp told_head.stamp) m 1 (λ _ p. same g p) (λ _ p. absurd cc))

begins : Begins (IsMade 1024 writes_a_byte) three first_start
begins = record {
  is = record {
    at_most_one_open = omega arith;
    different = tt;
    kept = record { those = λ r. true; more_than_half = less 3 6 refl; each = λ r h. (omega arith, not_before_self first_epoch) };
  };
  promised = λ r. omega arith;
  older = λ u h. absurd h;
  own = omega arith;
  apart = λ u v h k e. absurd h;
  made = tt;
  old_older = λ b h. absurd h;
  old_right = λ b u h k e. absurd h;
}

bytes_fit : (i : ℕ) → slice_index (97 ∷ []) i < 256
bytes_fit zero = omega arith
bytes_fit (suc i) = omega arith

allowed : IsAllowed 1024 (op.Write 0 0 (97 ∷ []))
allowed = record {
  fits = (omega arith, omega arith, record { all = bytes_fit; few = omega arith }, omega arith);
  inside = refl;
}

pub sample_runs : SampleRuns
unfolding gathered headed updated standing
sample_runs = record {
  begins = begins;
  begins_at = record { head = λ r. refl; bodies = λ r. record { has = λ o v h. absurd cc; holds = λ o v low h. absurd h.1 }; idle = λ r. refl; free = refl; silent = λ m h. absurd h; untold = refl };
  runs = ((refl, (refl, (inl refl, tt))), ((inr (inl refl), tt), (((refl, refl, inr (inl refl)), ((refl, refl, inl refl), ((refl, chosen), (refl, (inl refl, tt))))), ((inr (inl refl), tt), (((refl, inr (inl refl), refl), ((refl, inl refl, refl), ((refl, less 3 4 refl, refl), ((refl, record { allowed = allowed; stands = refl; makes = refl }), (inl refl, tt))))), ((inr (inl refl), tt), (((refl, inr (inl refl), refl, refl), ((refl, inl refl, refl, refl), ((refl, less 3 4 refl, refl), ((refl, less 0 (2 ^ 64) refl), tt)))), tt)))))));
  entries = refl;
}
