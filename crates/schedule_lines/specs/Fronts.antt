-- fronts of bytes
use Rattle.std.specs.Prelude.{ℕ, ◌≡◌, ◌≢◌, Option, List, [], ◌++◌}
use Rattle.node_links.specs.Streams.{Puts}

-- the bytes are a front of others, and not all of them
abbrev pub IsFrontOf : List ℕ → List ℕ → Type 0
IsFrontOf front bytes = (rest : List ℕ) × (bytes ≡ front ++ rest) × (rest ≢ [])

-- a front of the bytes was put, and not all of them
abbrev pub PutsFront : Option (List ℕ) → Option (List ℕ) → List ℕ → Type 0
PutsFront old new bytes = (front : List ℕ) × Puts old new front × IsFrontOf front bytes
