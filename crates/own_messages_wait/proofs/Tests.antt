-- tests of epochs and stamps, and two cases
use Rattle.std.proofs.Common.{◌≡◌, ℕ, ◌≤◌, ◌+◌, Bool, true, false, refl, sym, ap, ◌∙◌, arith}
use Rattle.std.specs.Prelude.{◌&&◌, ◌||◌, not, max, nat_lt, ◌==◌}
use Rattle.std.proofs.lemmas.Bool.Decides.{nat_tests}
use Rattle.xt_base.specs.declared.ids.Stamp.{Stamp}
use Rattle.xt_messages.specs.declared.file.FileHead.{FileHead}
use Rattle.xt_protocol.specs.Stamps.{is_epoch, is_earlier, is_below}
use Rattle.xt_protocol.specs.declared.states.Place.{Place}
use Rattle.xt_protocol.specs.PrimaryRows.{epoch_above}

pub false_true : false ≡ true → ⊥
false_true e = cc e

pub not_both : {P : Type 0} (b : Bool) → b ≡ true → b ≡ false → P
not_both b is_so isnt = absurd (false_true (sym isnt ∙ is_so))

-- what holds before and after isn't new
pub not_new : (b : Bool) → (b && not b) ≡ false
not_new true = refl
not_new false = refl

-- ---- epochs

more : (a b : ℕ) → nat_lt a (1 + max a b) ≡ true
more a b = grind (arith, nat_tests)

pub above_promised : (place : Place) (learnt : ℕ) (own : FileHead) → is_earlier own.promised (epoch_above place learnt own) ≡ true
above_promised place learnt own = ap (λ (b : Bool). b || (own.promised.number == 1 + max own.promised.number learnt) && nat_lt own.promised.node.0 place.node.0) (more own.promised.number learnt)

-- ---- stamps

pub not_below_self : (s : Stamp) → is_below s s ≡ false
not_below_self s = grind (arith, nat_tests)

-- a stamp that isn't below one of this epoch, and isn't of a later one, is of the epoch
pub of_its_epoch : (s t : Stamp) → is_below s t ≡ false → is_earlier t.epoch s.epoch ≡ false → is_epoch s.epoch t.epoch ≡ true
of_its_epoch s t above within = grind (arith, nat_tests)

-- a stamp below one of the same epoch has a smaller count
pub fewer_below : (s t : Stamp) → is_below s t ≡ true → is_epoch s.epoch t.epoch ≡ true → s.count ≤ t.count
fewer_below s t below same = grind (arith, nat_tests)
