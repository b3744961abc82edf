-- Ballots and the rounds that they number.
use Rattle.std.specs.Prelude.{◌≡◌, ℕ, ◌+◌, ◌<◌, ◌⊎◌}

-- The number of a round: a count, and the node and the boot of its proposer.
pub record Ballot : Type 0 where
  pub count : ℕ
  pub node : ℕ
  pub boot : ℕ

-- Ballots are ordered by their places: the count, then the node, then the boot.
abbrev pub IsBelow : Ballot → Ballot → Type 0
IsBelow j k = (j.count < k.count) ⊎ ((j.count ≡ k.count) × (j.node < k.node)) ⊎ ((j.count ≡ k.count) × (j.node ≡ k.node) × (j.boot < k.boot))

-- Both ballots are of one proposer: the same boot of the same node.
abbrev pub IsSameProposer : Ballot → Ballot → Type 0
IsSameProposer j k = (j.node ≡ k.node) × (j.boot ≡ k.boot)

-- A round for a lease: its ballot, and its proposer's clock when it began.
pub record Round : Type 0 where
  pub ballot : Ballot
  pub began : ℕ

-- The end of a round's lease: the lease counts from when the round began.
abbrev pub end_of : ℕ → Round → ℕ
end_of lease round = round.began + lease
