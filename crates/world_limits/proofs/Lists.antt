-- lists each of whose elements has a property
use Rattle.std.proofs.Common.{inl, inr, List, [], ◌∷◌, ◌++◌, map, refl, sym, subst, Some, Bool}
use Rattle.std.specs.Prelude.{flat_map, find}
use Rattle.std.specs.Option.{IfSome}
use Rattle.std.specs.List.{AllByRecursion}
use Rattle.lease_safety.specs.State.{Has}
use Rattle.replica_safety.specs.Lists as replica
use Rattle.object_versions.proofs.HeadLimits.{either}

pub each_of : {A : Type 0} (P : A → Type 0) (xs : List A) (x : A) → AllByRecursion P xs → Has x xs → P x
each_of P [] x all has = absurd has
each_of P (y ∷ ys) x all (inl is) = subst P (sym is) all.0
each_of P (y ∷ ys) x all (inr later) = each_of P ys x all.1 later

-- the same of what is in a list as the theorems on replicas say it
pub each_in : {A : Type 0} (P : A → Type 0) (xs : List A) (x : A) → AllByRecursion P xs → replica.Has x xs → P x
each_in P [] x all has = absurd has
each_in P (y ∷ ys) x all (inl is) = subst P (sym is) all.0
each_in P (y ∷ ys) x all (inr later) = each_in P ys x all.1 later

pub all_of : {A : Type 0} (P : A → Type 0) (xs : List A) → ((x : A) → Has x xs → P x) → AllByRecursion P xs
all_of P [] each = tt
all_of P (x ∷ xs) each = (each x (inl refl), all_of P xs (λ y h. each y (inr h)))

pub all_append : {A : Type 0} (P : A → Type 0) (xs ys : List A) → AllByRecursion P xs → AllByRecursion P ys → AllByRecursion P (xs ++ ys)
all_append P [] ys first second = second
all_append P (x ∷ xs) ys first second = (first.0, all_append P xs ys first.1 second)

pub all_map : {A B : Type 0} (P : B → Type 0) (f : A → B) (xs : List A) → AllByRecursion (λ (x : A). P (f x)) xs → AllByRecursion P (map f xs)
all_map P f [] all = tt
all_map P f (x ∷ xs) all = (all.0, all_map P f xs all.1)

pub all_weaker : {A : Type 0} (P Q : A → Type 0) (xs : List A) → ((x : A) → P x → Q x) → AllByRecursion P xs → AllByRecursion Q xs
all_weaker P Q [] still all = tt
all_weaker P Q (x ∷ xs) still all = (still x all.0, all_weaker P Q xs still all.1)

pub all_flat : {A B : Type 0} (P : B → Type 0) (f : A → List B) (xs : List A) → AllByRecursion (λ (x : A). AllByRecursion P (f x)) xs → AllByRecursion P (flat_map f xs)
all_flat P f [] all = tt
all_flat P f (x ∷ xs) all = all_append P (f x) (flat_map f xs) all.0 (all_flat P f xs all.1)

pub found_is : {A : Type 0} (P : A → Type 0) (p : A → Bool) (xs : List A) → AllByRecursion P xs → IfSome (find p xs) P
found_is P p [] all = tt
found_is P p (x ∷ xs) all = either (λ o. IfSome o P) (p x) (Some x) (find p xs) all.0 (found_is P p xs all.1)
