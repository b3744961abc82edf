-- Who holds the lease, and which leases are over.
use Rattle.std.specs.Prelude.{◌≡◌, ℕ, ◌+◌, ◌<◌, ◌≤◌, true, IsSomeAnd}
use Rattle.lease_safety.specs.Rounds.{Round, end_of}
use Rattle.lease_safety.specs.State.{Setting, Nodes, State}

-- The node holds the lease: it runs, and of the round that this boot held last, the end is more than the drift away by
-- its clock.
abbrev pub Holds : Setting → State → ℕ → Type 0
Holds setting state node =
    (state.nodes.runs node ≡ true) × IsSomeAnd (state.held node) (λ round. state.nodes.clock node + setting.drift < end_of setting.lease round)

-- The round's lease is over for its proposer: if that boot still runs, then its clock is within the drift of the end. So
-- its proposer may act on it no more.
abbrev pub IsOver : Setting → Nodes → Round → Type 0
IsOver setting nodes round =
    nodes.runs round.ballot.node ≡ true → nodes.boot round.ballot.node ≡ round.ballot.boot → end_of setting.lease round ≤ nodes.clock round.ballot.node + setting.drift
