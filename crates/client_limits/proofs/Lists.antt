-- lists each of whose elements has a property
use Rattle.std.proofs.Common.{List, [], ◌∷◌, Bool}
use Rattle.std.specs.Prelude.{filter}
use Rattle.std.specs.List.{AllByRecursion}
use Rattle.object_versions.proofs.HeadLimits.{either}

pub all_filter : {A : Type 0} (P : A → Type 0) (p : A → Bool) (xs : List A) → AllByRecursion P xs → AllByRecursion P (filter p xs)
all_filter P p [] all = tt
all_filter P p (x ∷ xs) all = either (AllByRecursion P) (p x) (x ∷ filter p xs) (filter p xs) (all.0, all_filter P p xs all.1) (all_filter P p xs all.1)
