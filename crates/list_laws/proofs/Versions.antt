-- what a version that is put on messages changes of them
use Rattle.std.proofs.Common.{◌≡◌, ℕ, Bool, true, false, refl, List, [], ◌∷◌}
use Rattle.std.specs.Prelude.{cond, map}
use Rattle.std.specs.List.{AllByRecursion}
use Rattle.xt_messages.specs.Limits.{is_of_list}
use Rattle.xt_messages.specs.declared.message.Msg.{Msg}
use Rattle.list_rows.specs.ListRows.{as_version}
use Rattle.list_laws.specs.Versions.{CarriesVersion, IsTheSame, SaysTheSame}

abbrev versioned : ℕ → Msg → Bool → Msg
versioned version m b = cond b (record m { list = version }) m

one_carries : (version : ℕ) (m : Msg) (b : Bool) → is_of_list m.payload ≡ b → CarriesVersion version (versioned version m b)
one_carries version m true is = λ among. refl
one_carries version m false is = λ among. let never : false ≡ true = cc in absurd (cc)

one_says : (version : ℕ) (m : Msg) (b : Bool) → IsTheSame m (versioned version m b)
one_says version m true = record { from = refl; to = refl; said = refl }
one_says version m false = record { from = refl; to = refl; said = refl }

pub all_carry : (version : ℕ) (outs : List Msg) → AllByRecursion (CarriesVersion version) (map (as_version version) outs)
all_carry version [] = tt
all_carry version (m ∷ ms) = (one_carries version m (is_of_list m.payload) refl, all_carry version ms)

pub all_say : (version : ℕ) (outs : List Msg) → SaysTheSame outs (map (as_version version) outs)
all_say version [] = tt
all_say version (m ∷ ms) = (one_says version m (is_of_list m.payload), all_say version ms)
