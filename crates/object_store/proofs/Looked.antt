-- bodies that are read one by one
use Rattle.std.proofs.Common.{◌≡◌, ℕ, true, false, Bool, List, length, refl, sym, ◌∙◌, ap}
use Rattle.std.specs.Prelude.{IsTrue}
use Rattle.std.proofs.lemmas.List.{length-replicate}
use Rattle.object_store.specs.declared.place.BodyPlace.{BodyPlace}
use Rattle.object_store.specs.Places.{bytes_at}

-- where contracts know what a read gives it is that, and else it has as many bytes
pub as_many_there : (told : Bool) (read : List ℕ) (place : BodyPlace) (bytes : List ℕ) → (IsTrue told → bytes ≡ bytes_at true read place) → length bytes ≡ place.len
    → length (bytes_at told read place) ≡ length bytes
as_many_there true read place bytes value size = ap length (sym (value refl))
as_many_there false read place bytes value size = length-replicate place.len 0 ∙ sym size

pub there_told : (told : Bool) (read : List ℕ) (place : BodyPlace) → IsTrue told → bytes_at told read place ≡ bytes_at true read place
there_told told read place is = ap (λ (t : Bool). bytes_at t read place) is
