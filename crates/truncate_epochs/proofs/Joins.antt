-- a mark after reports is the least upper bound of the mark and the reports
use Rattle.std.proofs.Common.{◌≡◌, ◌∙◌, ℕ, zero, suc, ◌<◌, List, [], ◌∷◌, length, get_or, refl, sym, ap, arith}
use Rattle.std.proofs.lemmas.Grind.{common_steps}
use Rattle.std.specs.Prelude.{Contains}
use Rattle.xt_base.specs.declared.ids.SizeMark.{SizeMark}
use Rattle.truncate_epochs.specs.SizeMarks.{merged, joined, SameReports}

pub merged-comm : (a b : SizeMark) → merged a b ≡ merged b a
merged-comm a b = grind (arith, common_steps)

pub merged-assoc : (a b c : SizeMark) → merged (merged a b) c ≡ merged a (merged b c)
merged-assoc a b c = grind (arith, common_steps)

pub merged-same : (a : SizeMark) → merged a a ≡ a
merged-same a = grind (arith, common_steps)

pub joined-merged : (a b : SizeMark) (reports : List SizeMark) → joined (merged a b) reports ≡ merged a (joined b reports)
joined-merged a b [] = refl
joined-merged a b (r ∷ rs) = ap (λ m. joined m rs) (merged-assoc a b r) ∙ joined-merged a (merged b r) rs

-- the mark itself adds nothing to the join
pub merged-joined_mark : (mark : SizeMark) (reports : List SizeMark) → merged mark (joined mark reports) ≡ joined mark reports
merged-joined_mark mark reports = sym (joined-merged mark mark reports) ∙ ap (λ m. joined m reports) (merged-same mark)

report_at : (mark : SizeMark) (reports : List SizeMark) (k : ℕ) (r : SizeMark) → k < length reports → get_or reports k r ≡ r → merged r (joined mark reports) ≡ joined mark reports
report_at mark [] k r inside is = absurd (omega arith)
report_at mark (x ∷ xs) zero r inside is =
    sym (joined-merged r (merged mark x) xs)
    ∙ ap (λ m. joined m xs) (ap (λ a. merged a (merged mark x)) (sym is) ∙ ap (λ m. merged x m) (merged-comm mark x) ∙ sym (merged-assoc x x mark) ∙ ap (λ a. merged a mark) (merged-same x) ∙ merged-comm x mark)
report_at mark (x ∷ xs) (suc k) r inside is = report_at (merged mark x) xs k r (omega arith) is

-- nor does any of the reports
pub merged-joined_report : (mark : SizeMark) (reports : List SizeMark) (r : SizeMark) → Contains reports r → merged r (joined mark reports) ≡ joined mark reports
merged-joined_report mark reports r has = report_at mark reports has.0 r has.1 has.2

-- a mark to which nothing adds is no smaller than the join
pub merged-joined_below : (mark top : SizeMark) (reports : List SizeMark) → merged mark top ≡ top → ((r : SizeMark) → Contains reports r → merged r top ≡ top) → merged (joined mark reports) top ≡ top
merged-joined_below mark top [] here each = here
merged-joined_below mark top (x ∷ xs) here each =
    merged-joined_below (merged mark x) top xs
    (merged-assoc mark x top ∙ ap (λ m. merged mark m) (each x (0, omega arith, refl)) ∙ here)
    (λ r has. each r (suc has.0, omega (arith, has.1), has.2))

pub joined-same : (mark : SizeMark) (one other : List SizeMark) → SameReports one other → joined mark one ≡ joined mark other
joined-same mark one other same =
    let up = merged-joined_below mark (joined mark one) other (merged-joined_mark mark one) (λ r has. merged-joined_report mark one r ((same.each r).1 has)) in
    let down = merged-joined_below mark (joined mark other) one (merged-joined_mark mark other) (λ r has. merged-joined_report mark other r ((same.each r).0 has)) in
    sym up ∙ merged-comm (joined mark other) (joined mark one) ∙ down
