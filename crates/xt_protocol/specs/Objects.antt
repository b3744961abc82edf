-- an object as a read finds it
use Rattle.std.specs.Prelude.{ℕ, ◌-◌, ◌+◌, ◌*◌, min, Option, None, Some, List, []}
use Rattle.xt_base.specs.declared.ids.Stamp.{Stamp}

-- the body of an object in its present version: empty where it has none
abbrev pub present_body : (ℕ → Stamp → List ℕ) → Option Stamp → ℕ → List ℕ
present_body body None object = []
present_body body (Some version) object = body object version

-- how many bytes of an object's range lie inside the file
abbrev pub readable : ℕ → ℕ → ℕ → ℕ → ℕ → ℕ
readable size stripe object at len = min len (size - (object * stripe + at))
