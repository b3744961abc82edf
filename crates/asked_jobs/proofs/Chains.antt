-- what a chain of readers gives
use Rattle.std.proofs.Common.{Bool, true, false, Option, Some, None, option_map, option_and_then, IfSome, cond}

module _ {A B : Type 0} (Q : B → Type 0) where
  pub then_some : (f : A → Option B) (o : Option A) → ((x : A) → IfSome (f x) Q) → IfSome (option_and_then f o) Q
  then_some f None each = tt
  then_some f (Some x) each = each x

  pub then_if : (P : A → Type 0) (f : A → Option B) (o : Option A) → IfSome o P → ((x : A) → P x → IfSome (f x) Q)
      → IfSome (option_and_then f o) Q
  then_if P f None first each = tt
  then_if P f (Some x) first each = each x first

  pub mapped : (f : A → B) (o : Option A) → ((x : A) → Q (f x)) → IfSome (option_map f o) Q
  mapped f None each = tt
  mapped f (Some x) each = each x

  pub mapped_if : (P : A → Type 0) (f : A → B) (o : Option A) → IfSome o P → ((x : A) → P x → Q (f x)) → IfSome (option_map f o) Q
  mapped_if P f None first each = tt
  mapped_if P f (Some x) first each = each x first

pub either : {A : Type 0} (Q : A → Type 0) (b : Bool) (o p : Option A) → IfSome o Q → IfSome p Q → IfSome (cond b o p) Q
either Q true o p first second = first
either Q false o p first second = second
