-- Catching up by greater versions alone, and what it leaves.
use Rattle.std.specs.Prelude.{◌≡◌, ℕ, if◌then◌else◌, [], ◌∷◌, Option, Some, None}
use Rattle.xt_base.specs.declared.ids.Stamp.{Stamp}
use Rattle.xt_protocol.specs.Heads.{version_of}
use Rattle.xt_protocol.specs.Stamps.{is_below}
use Rattle.replica_safety.specs.Weaker.{kept_write, lost_write}
use Rattle.replica_runs.specs.FileHeads.{versions_of}

-- the greater version of an object: the own one, or that of the head that is taken
abbrev pub greater_of : Option Stamp → Option Stamp → Option Stamp
greater_of None taken = taken
greater_of (Some own) None = Some own
greater_of (Some own) (Some taken) = if is_below own taken then Some taken else Some own

-- A replica with both writes takes a head of a later epoch which has the first one alone. By greater versions it keeps the body of the
-- second one, though the head names that of the first.
pub record KeepsLost (object : ℕ) : Type 0 where
  pub named : version_of (versions_of (kept_write ∷ [])) object ≡ Some kept_write.stamp
  pub greater : greater_of (version_of (versions_of (kept_write ∷ lost_write ∷ [])) object) (version_of (versions_of (kept_write ∷ [])) object) ≡ Some lost_write.stamp
