-- the times that a trace gives first, as they are looked for
use Rattle.std.proofs.Common.{◌≡◌, ℕ, ◌-◌, ◌≤◌, ◌<◌, List, [], ◌∷◌, Option, None, length, take, drop, get_or, refl, sym, ap, ◌∙◌, arith}
use Rattle.std.proofs.Math.Seq.{take-length}
use Rattle.std.specs.Option.{option_or}
use Rattle.xt_base.specs.TimeSettings.{TimeSettings}
use Rattle.time_line.specs.declared.entry.Entry.{Entry}
use Rattle.time_line.specs.declared.entry.Entry.TheVariants as entry
use Rattle.time_line.specs.TimeLine.{times_told, first_times, or_defaults}

take_all : (es : List Entry) (n : ℕ) → n ≡ length es → take n es ≡ es
take_all es n same = ap (λ (m : ℕ). take m es) same ∙ take-length es

untold : (e : Entry) → ((lease drift : ℕ) → e ≡ entry.Times lease drift → ⊥) → times_told e ≡ None
untold (entry.Times lease drift) other = absurd (other lease drift refl)
untold _ other = refl

-- an entry that doesn't give them is passed over
pub passed :
    (rest : List Entry) (e : Entry) → 1 ≤ length rest → e ≡ get_or rest 0 e → ((lease drift : ℕ) → e ≡ entry.Times lease drift → ⊥)
    → first_times (take (length rest - 1) (drop 1 rest)) ≡ first_times rest
unfolding first_times
passed [] e some is other = absurd (omega (arith, some))
passed (x ∷ rest) e some is other =
    ap first_times (take_all rest (length (x ∷ rest) - 1) (omega arith))
    ∙ ap (λ (told : Option TimeSettings). option_or told (first_times rest)) (sym (ap times_told (sym is) ∙ untold e other))

-- an entry that gives them is the first
pub told :
    (rest : List Entry) (e : Entry) (lease drift : ℕ) → 1 ≤ length rest → e ≡ get_or rest 0 e → e ≡ entry.Times lease drift
    → (or_defaults (first_times rest)).drift ≡ drift
unfolding first_times
told [] e lease drift some is times = absurd (omega (arith, some))
told (x ∷ rest) e lease drift some is times =
    ap (λ (y : Entry). (or_defaults (option_or (times_told y) (first_times rest))).drift) (sym is ∙ times)

-- where no entry is left none gives them
pub none : (rest : List Entry) → length rest < 1 → first_times rest ≡ None
unfolding first_times
none [] few = refl
none (x ∷ rest) few = absurd (omega (arith, few))
