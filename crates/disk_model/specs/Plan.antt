-- Which calls of a disk in memory fail.
use Rattle.std.specs.Prelude.{ℕ, ◌+◌, Bool, false, ◌||◌, ◌==◌, nat_le, List, Option, None, Some}
use Rattle.std.specs.List.{list_any}
use Rattle.disk_model.specs.declared.plan.Stop.{Stop}
use Rattle.disk_model.specs.declared.plan.Plan.{Plan}
use Rattle.xt_base.specs.Faults.{counted}

-- whether the disk has stopped once as many writes and syncs were made
abbrev pub has_stopped : Option Stop → ℕ → Bool
has_stopped None changes = false
has_stopped (Some stop) changes = nat_le stop.call changes

-- whether a call fails that is the disk's call of this number, with as many writes and syncs made
abbrev pub fails_at : List ℕ → Option Stop → ℕ → ℕ → Bool
fails_at failing stop call changes = list_any (λ failed. failed == call) failing || has_stopped stop changes

-- whether the call fails that comes as the last of this many that look and this many that change
abbrev pub planned : Plan → ℕ → ℕ → Bool
planned plan looks changes =
    fails_at plan.failing plan.stop (counted (plan.calls + (looks + changes))) (counted (plan.changes + changes))
