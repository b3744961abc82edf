-- what a member of a striped file records
use Rattle.std.specs.Prelude.{Option, Some, None}
use Rattle.xt_messages.specs.declared.record.Record.{Record}
use Rattle.xt_messages.specs.declared.record.Record.TheVariants as kept

-- an update, or nothing
abbrev pub IsUpdateIfAny : Option Record → Type 0
IsUpdateIfAny None = Unit {0}
IsUpdateIfAny (Some (kept.Update file update)) = Unit {0}
IsUpdateIfAny (Some _) = ⊥
