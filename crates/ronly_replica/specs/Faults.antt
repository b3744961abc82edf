-- why an object isn't fetched
use Rattle.std.specs.Prelude.{Bool, true, false}
use Rattle.ronly_replica.specs.declared.origin.OriginErr.{OriginErr}
use Rattle.ronly_replica.specs.declared.origin.OriginErr.TheVariants as fault

-- whether memory ran out
abbrev pub is_memory : OriginErr → Bool
is_memory fault.OutOfMemory = true
is_memory _ = false
