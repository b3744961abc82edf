-- Why a record isn't appended.
use Rattle.std.specs.Prelude.{Bool, true, false, Result, Ok, Err}
use Rattle.xt_journal.specs.declared.append.Refusal.{Refusal}
use Rattle.xt_journal.specs.declared.append.Refusal.TheVariants.{Broken, OutOfMemory}

abbrev pub is_broken : {T : Type 0} → Result T Refusal → Bool
is_broken (Ok value) = false
is_broken (Err Broken) = true
is_broken (Err OutOfMemory) = false
