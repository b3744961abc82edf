-- what it means that a field is the one spelling of its values
use Rattle.std.specs.Prelude.{◌≡◌, ℕ, List, ◌++◌, Ok}
use Rattle.xt_base.specs.FieldLimits.{AreBytes}
use Rattle.xt_fields.specs.Reading.{Field}

-- a text was taken from the front, and its value is within limits
pub record Taken (given text rest : List ℕ) (fits : Type 0) : Type 0 where
  pub parts : given ≡ text ++ rest
  pub left : AreBytes rest
  pub within : fits

-- bytes are the one spelling of a value within limits
pub record IsField {A : Type 0} (bytes : A → List ℕ) (fits : A → Type 0) (at : Field A) : Type 0 where
  pub takes : (given : List ℕ) (x : A × List ℕ) → AreBytes given → at given ≡ Ok x → Taken given (bytes x.0) x.1 (fits x.0)
  pub again : (a : A) (rest : List ℕ) → fits a → at (bytes a ++ rest) ≡ Ok (a, rest)
