-- The order of epochs and of stamps.
use Rattle.std.proofs.Common.{◌≡◌, ℕ, ◌≤◌, ◌⊎◌, Bool, true, false, refl, inl, inr, arith}
use Rattle.std.proofs.lemmas.Bool.Decides.{nat_tests}
use Rattle.xt_protocol.specs.Stamps.{is_earlier, is_epoch}
use Rattle.replica_safety.specs.Epochs.{Epoch, Stamp, Below, AtMost}

pub epoch_is : (a b : Epoch) → a.number ≡ b.number → a.node.0 ≡ b.node.0 → a ≡ b
epoch_is a b p q = λ i. record { number = p i; node = record { 0 = q i } }

pub not_before_self : (a : Epoch) → is_earlier a a ≡ false
not_before_self a = grind (arith, nat_tests)

pub up_to_trans : (a b c : Epoch) → is_earlier b a ≡ false → is_earlier c b ≡ false → is_earlier c a ≡ false
up_to_trans a b c p q = grind (arith, nat_tests)

pub up_to_before : (a b c : Epoch) → is_earlier b a ≡ false → is_earlier b c ≡ true → is_earlier a c ≡ true
up_to_before a b c p q = grind (arith, nat_tests)

pub before_up_to : (a b c : Epoch) → is_earlier a b ≡ true → is_earlier c b ≡ false → is_earlier a c ≡ true
before_up_to a b c p q = grind (arith, nat_tests)

pub not_after : (a b : Epoch) → is_earlier a b ≡ true → is_earlier b a ≡ false
not_after a b p = grind (arith, nat_tests)

pub same_is : (a b : Epoch) → is_epoch a b ≡ true → a ≡ b
same_is a b p = epoch_is a b (grind (arith, nat_tests)) (grind (arith, nat_tests))

pub same_self : (a : Epoch) → is_epoch a a ≡ true
same_self a = grind (arith, nat_tests)

pub is_one : (a b : Epoch) → is_earlier a b ≡ false → is_earlier b a ≡ false → a ≡ b
is_one a b p q = epoch_is a b (grind (arith, nat_tests)) (grind (arith, nat_tests))

-- of stamps
pub at_most_self : (s : Stamp) → AtMost s s
at_most_self s = grind (arith, nat_tests)

pub at_most_trans : (s t u : Stamp) → AtMost s t → AtMost t u → AtMost s u
at_most_trans s t u p q = grind (arith, nat_tests)

pub below_at_most : (s t : Stamp) → Below s t → AtMost s t
below_at_most s t p = grind (arith, nat_tests)

-- what a stamp of an epoch and a count is at most: one of a later epoch, or one of that epoch and no smaller count
pub at_most_cases : (e : Epoch) (n : ℕ) (t : Stamp) → AtMost (record { epoch = e; count = n }) t → (is_earlier e t.epoch ≡ true) ⊎ ((e ≡ t.epoch) × (n ≤ t.count))
at_most_cases e n t p = go (is_earlier e t.epoch) refl
  where
    go : (b : Bool) → is_earlier e t.epoch ≡ b → (is_earlier e t.epoch ≡ true) ⊎ ((e ≡ t.epoch) × (n ≤ t.count))
    go true before = inl before
    go false before = inr (epoch_is e t.epoch (grind (arith, nat_tests)) (grind (arith, nat_tests)), grind (arith, nat_tests))

pub at_most_count : (e : Epoch) (n m : ℕ) → n ≤ m → AtMost (record { epoch = e; count = n }) (record { epoch = e; count = m })
at_most_count e n m p = grind (arith, nat_tests)
