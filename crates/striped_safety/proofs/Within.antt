-- the order of marks, and marks of a file that are at most a bound
use Rattle.std.proofs.Common.{◌≡◌, ℕ, Bool, true, false, cond, refl, ap, ap₂, sym, arith, Option, Some, None}
use Rattle.std.proofs.lemmas.Bool.Decides.{nat_tests}
use Rattle.xt_base.specs.declared.ids.FileId.{FileId}
use Rattle.xt_base.specs.declared.ids.SizeMark.{SizeMark}
use Rattle.truncate_epochs.specs.SizeMarks.{is_smaller, merged}
use Rattle.client_rows.specs.declared.holding.HeldFile.{HeldFile}
use Rattle.striped_safety.proofs.Follows.{MarkIs}

-- a mark of the file of this number is at most this one
abbrev pub IsWithin : SizeMark → ℕ → FileId → SizeMark → Type 0
IsWithin bound number file mark = file.number ≡ number → is_smaller bound mark ≡ false

-- the mark that is held
abbrev pub mark_held : Option HeldFile → SizeMark
mark_held None = record { epoch = 0; size = 0 }
mark_held (Some h) = h.mark

pub none_within : (bound : SizeMark) → is_smaller bound (record { epoch = 0; size = 0 }) ≡ false
none_within bound = grind (arith, nat_tests)

pub itself_within : (bound : SizeMark) → is_smaller bound bound ≡ false
itself_within bound = grind (arith, nat_tests)

pub still_within : (more bound mark : SizeMark) → is_smaller more bound ≡ false → is_smaller bound mark ≡ false → is_smaller more mark ≡ false
still_within more bound mark grown within = grind (arith, nat_tests)

pub merged_grows : (a b : SizeMark) → is_smaller (merged a b) a ≡ false
merged_grows a b = at (is_smaller a b) refl
  where
    before : is_smaller a b ≡ true → is_smaller b a ≡ false
    before less = grind (arith, nat_tests)

    at : (c : Bool) → is_smaller a b ≡ c → is_smaller (cond c b a) a ≡ false
    at true less = before less
    at false not = itself_within a

pub merged_within : (bound a b : SizeMark) → is_smaller bound a ≡ false → is_smaller bound b ≡ false → is_smaller bound (merged a b) ≡ false
merged_within bound a b one other = at (is_smaller a b)
  where
    at : (c : Bool) → is_smaller bound (cond c b a) ≡ false
    at true = other
    at false = one

-- what is at most the mark changes it not
pub merged_same : (a b : SizeMark) → is_smaller a b ≡ false → merged a b ≡ a
merged_same a b within = ap (λ (c : Bool). cond c b a) within

pub none_only : (mark : SizeMark) → is_smaller (record { epoch = 0; size = 0 }) mark ≡ false → mark ≡ record { epoch = 0; size = 0 }
none_only mark within = ap₂ (λ (x y : ℕ). let m : SizeMark = record { epoch = x; size = y } in m) (no_epoch mark.epoch mark.size within) (no_size mark.epoch mark.size within)
  where
    no_epoch : (x y : ℕ) → is_smaller (record { epoch = 0; size = 0 }) (record { epoch = x; size = y }) ≡ false → x ≡ 0
    no_epoch x y within = grind (arith, nat_tests)

    no_size : (x y : ℕ) → is_smaller (record { epoch = 0; size = 0 }) (record { epoch = x; size = y }) ≡ false → y ≡ 0
    no_size x y within = grind (arith, nat_tests)

pub mark_is : (o : Option HeldFile) (mark : SizeMark) → MarkIs o mark → mark_held o ≡ mark
mark_is None mark is = sym is
mark_is (Some h) mark is = is

pub is_mark : (o : Option HeldFile) → MarkIs o (mark_held o)
is_mark None = refl
is_mark (Some h) = refl
