-- what a store in memory gives as a body
use Rattle.std.proofs.Common.{◌≡◌, ◌↔◌, ℕ, List, Option, Some, None, Result, Ok, Err, IfOk, refl}
use Rattle.object_versions.specs.declared.errors.BodyErr.{BodyErr}
use Rattle.object_versions.specs.declared.errors.BodyErr.TheVariants as body
use Rattle.object_versions.specs.KeptBodies.{fault_in}
use Rattle.world_hull.specs.Answers.{GivesBody}

is_some_not_none : (n : ℕ) → Some n ≡ None → ⊥
is_some_not_none n is = cc

other_error : (result : Result (List ℕ) BodyErr) → result ≡ Err body.OutOfMemory → result ≡ Err body.NoSuchVersion → ⊥
other_error result is other = cc

-- the very body, or none; no read fails
pub gives_body : (kept : Option (List ℕ)) (result : Result (List ℕ) BodyErr) → IfOk result (λ bytes. kept ≡ Some bytes) → (result ≡ Err body.NoSuchVersion) ↔ (kept ≡ None)
    → fault_in result ≡ None → GivesBody kept result
gives_body kept (Ok bytes) value missing sure = value
gives_body kept (Err body.NoSuchVersion) value missing sure = missing.0 refl
gives_body kept (Err (body.Failed count)) value missing sure = is_some_not_none count sure
gives_body kept (Err body.OutOfMemory) value missing sure = λ none. other_error (Err body.OutOfMemory) refl (missing.1 none)
