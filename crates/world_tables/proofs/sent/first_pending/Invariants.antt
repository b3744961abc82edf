use Rattle.std.proofs.Common.{◌≡◌, ℕ, ◌<◌, ◌≤◌, false, get_or}
use Rattle.world_spec.specs.declared.Sent.{Sent}
use Rattle.world_tables.proofs.sent.first_pending.Given as goal

abbrev pub invariant-loop-place : goal.invariant-loop-place
invariant-loop-place l = (k : ℕ) (d : Sent) → l.from ≤ k → k < l.place → (get_or l.list k d).pending ≡ false
