-- what an origin answers, and why
use Rattle.std.specs.Prelude.{ℕ, ◌≡◌, Result, Ok, Err}
use Rattle.xt_base.specs.Faults.{Rose}
use Rattle.ronly_replica.specs.declared.origin.Fetched.{Fetched}
use Rattle.ronly_replica.specs.declared.origin.OriginErr.{OriginErr}
use Rattle.ronly_replica.specs.declared.origin.OriginErr.TheVariants as fault

-- after these answers the next object may be fetched
abbrev pub StaysReady : Result Fetched OriginErr → Type 0
StaysReady (Ok fetched) = Unit {0}
StaysReady (Err (fault.NotNow answers)) = Unit {0}
StaysReady (Err (fault.Refused reply)) = Unit {0}
StaysReady (Err fault.NumbersSpent) = Unit {0}
StaysReady (Err _) = ⊥

-- a count rose exactly where the answer reports it, and is the count that it reports
abbrev pub HasOriginCause : ℕ → ℕ → ℕ → ℕ → Result Fetched OriginErr → Type 0
HasOriginCause link link_after clock clock_after (Err (fault.LinkFailed count)) =
    Rose link link_after × (count ≡ link_after) × (clock_after ≡ clock)
HasOriginCause link link_after clock clock_after (Err (fault.ClockFailed count)) =
    Rose clock clock_after × (count ≡ clock_after) × (link_after ≡ link)
HasOriginCause link link_after clock clock_after _ = (link_after ≡ link) × (clock_after ≡ clock)
