-- what is kept beside the messages
use Rattle.std.specs.Prelude.{ℕ, ◌≡◌, ◌<◌, ◌≤◌, true, false, List, length, slice_index_or}
use Rattle.world_tables.specs.Within64.{within_64}
use Rattle.world_spec.specs.declared.Sent.{Sent}
use Rattle.world_spec.specs.NodeSteps.{frame_bytes}

-- the first pending message is there, or nothing is pending after the end; the bytes are those of all frames
pub record AreCounts (sent : List Sent) (first bytes : ℕ) : Type 0 where
  pub inside : first ≤ length sent
  pub settled : (place : ℕ) (d : Sent) → place < first → (slice_index_or sent place d).pending ≡ false
  pub waiting : (d : Sent) → first < length sent → (slice_index_or sent first d).pending ≡ true
  pub sum : bytes ≡ within_64 (frame_bytes sent)

-- the first pending message from a place on, or the end
pub record IsFirstPending (sent : List Sent) (from place : ℕ) : Type 0 where
  pub inside : place ≤ length sent
  pub passed : (k : ℕ) (d : Sent) → from ≤ k → k < place → (slice_index_or sent k d).pending ≡ false
  pub here : (d : Sent) → place < length sent → (slice_index_or sent place d).pending ≡ true
