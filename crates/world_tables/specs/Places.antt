-- the map that says where the files of a list are, and the set of their numbers
use Rattle.std.specs.Prelude.{ℕ, ◌≡◌, is_some, List}
use Rattle.std.specs.Ordering.{nat_cmp}
use Rattle.std.specs.BTreeMap.{BTreeMap, get}
use Rattle.std.specs.BTreeSet.{BTreeSet, contains}
use Rattle.world_spec.specs.declared.PlacedFile.{PlacedFile}
use Rattle.world_spec.specs.World.{file_in}

-- the map gives each file by its number
abbrev pub AreFilePlaces : List PlacedFile → BTreeMap ℕ PlacedFile → Type 0
AreFilePlaces files places = (number : ℕ) → get nat_cmp places number ≡ file_in files number

-- the set has the numbers of the files
abbrev pub AreNumbers : List PlacedFile → BTreeSet ℕ → Type 0
AreNumbers files numbers = (number : ℕ) → contains nat_cmp numbers number ≡ is_some (file_in files number)
