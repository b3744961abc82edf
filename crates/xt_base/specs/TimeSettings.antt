-- the lease length and the drift
use Rattle.std.specs.Prelude.{ℕ, ◌<◌, ◌*◌, ◌^◌}

-- both in milliseconds
pub record TimeSettings : Type 0 where
  pub lease : ℕ
  pub drift : ℕ

-- a holder acts until the drift before its lease's end, so a lease is longer than two drifts
pub record AreTimes (lease drift : ℕ) : Type 0 where
  pub some : 0 < 2 * drift
  pub short : 2 * drift < lease
  pub small : lease < 2 ^ 40
