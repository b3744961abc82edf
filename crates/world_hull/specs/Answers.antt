-- how the calls of a hull end early
use Rattle.std.specs.Prelude.{ℕ, ◌≡◌, List, Option, Some, None, Result, Ok, Err}
use Rattle.object_versions.specs.declared.errors.BodyErr.{BodyErr}
use Rattle.object_versions.specs.declared.errors.BodyErr.TheVariants as body
use Rattle.world_spec.specs.NodeSteps.{Overflow}
use Rattle.world_hull.specs.declared.errors.WorldErr.{WorldErr}
use Rattle.world_hull.specs.declared.errors.WorldErr.TheVariants as error

-- an append found no room, or memory ran out
abbrev pub IsFullOrMemory : WorldErr → Type 0
IsFullOrMemory (error.Illegal rule) = ⊥
IsFullOrMemory (error.Limit what limit) = ⊥
IsFullOrMemory (error.Full need limit) = Unit {0}
IsFullOrMemory error.OutOfMemory = Unit {0}

-- `Full` is the error exactly where a record has no room, and says how much it needs. Memory may run out before.
abbrev pub IsFullExactly : {T : Type 0} → Option Overflow → Result T WorldErr → Type 0
IsFullExactly overflow (Ok value) = overflow ≡ None
IsFullExactly overflow (Err (error.Illegal rule)) = overflow ≡ None
IsFullExactly overflow (Err (error.Limit what limit)) = overflow ≡ None
IsFullExactly overflow (Err (error.Full need limit)) = overflow ≡ Some (record { need = need; limit = limit })
IsFullExactly overflow (Err error.OutOfMemory) = Unit {0}

-- the body that is kept, or that none is; memory runs out only where one is kept
abbrev pub GivesBody : Option (List ℕ) → Result (List ℕ) BodyErr → Type 0
GivesBody kept (Ok bytes) = kept ≡ Some bytes
GivesBody kept (Err body.NoSuchVersion) = kept ≡ None
GivesBody kept (Err (body.Failed count)) = ⊥
GivesBody kept (Err body.OutOfMemory) = kept ≡ None → ⊥
