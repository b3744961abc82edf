-- how a half joined message is kept: its bytes with each payload in its place, and which indices are taken
use Rattle.std.specs.Prelude.{ℕ, Bool, Option, Some, None, List, [], ◌∷◌, if◌then◌else◌, take, drop}

-- the payloads by index, each of this width or at the end of what is left: those that are taken
abbrev pub payloads_in : ℕ → List Bool → List ℕ → List (Option (List ℕ))
payloads_in width [] bytes = []
payloads_in width (is_taken ∷ later) bytes =
    (if is_taken then Some (take width bytes) else None) ∷ payloads_in width later (drop width bytes)
