-- What may happen, one thing at a time, and what each leaves.
use Rattle.std.specs.Prelude.{ℕ, true, false, None, Some, List, [], ◌∷◌}
use Rattle.lease_safety.specs.Rounds.{Round}
use Rattle.lease_safety.specs.State.{Nodes, Promise, State, empty, put}

pub data Move : Type 0 where
  -- a node starts, under a boot number and at a clock; a node stops
  Boot_starts : (node boot clock : ℕ) → Move
  Boot_stops : (node : ℕ) → Move
  -- clocks advance, one alone or many at once: each is then as given
  Clocks_advance : (now : ℕ → ℕ) → Move
  -- a proposer begins a round
  Round_begins : (round : Round) → Move
  -- an acceptor promises a round, and reports what it has accepted
  Round_promised : (node : ℕ) (round : Round) → Move
  -- a proposer counts a promise
  Promise_counted : (promise : Promise) → Move
  -- an acceptor accepts a round
  Round_accepted : (node : ℕ) (round : Round) → Move
  -- a proposer holds the lease of its round, for the first time or as a renewal
  Round_held : (round : Round) → Move

abbrev pub nodes_after_start : Nodes → ℕ → ℕ → ℕ → Nodes
nodes_after_start nodes node boot clock =
    record { runs = put nodes.runs node true; boot = put nodes.boot node boot; clock = put nodes.clock node clock; started = put nodes.started node clock }

abbrev pub nodes_after_stop : Nodes → ℕ → Nodes
nodes_after_stop nodes node = record nodes { runs = put nodes.runs node false }

abbrev pub nodes_after_advance : Nodes → (ℕ → ℕ) → Nodes
nodes_after_advance nodes now = record nodes { clock = now }

abbrev pub after : State → Move → State
-- a new boot knows nothing of what the node's earlier boots promised, accepted and held
after state (Boot_starts node boot clock) =
    record state {
      nodes = nodes_after_start state.nodes node boot clock;
      promised = put state.promised node None;
      accepted = put state.accepted node None;
      held = put state.held node None;
    }
after state (Boot_stops node) = record state { nodes = nodes_after_stop state.nodes node }
after state (Clocks_advance now) = record state { nodes = nodes_after_advance state.nodes now }
after state (Round_begins round) = record state { rounds = round ∷ state.rounds }
after state (Round_promised node round) =
    record state {
      promised = put state.promised node (Some round);
      promises = record { node = node; boot = state.nodes.boot node; round = round; report = state.accepted node } ∷ state.promises;
    }
after state (Promise_counted promise) =
    record state { counted = record { node = promise.node; boot = promise.boot; round = promise.round } ∷ state.counted }
after state (Round_accepted node round) =
    record state {
      accepted = put state.accepted node (Some round);
      accepts = record { node = node; boot = state.nodes.boot node; round = round } ∷ state.accepts;
    }
after state (Round_held round) =
    record state { held = put state.held round.ballot.node (Some round); leases = round ∷ state.leases }

-- The state after these moves, of which the newest stands first.
abbrev pub state_after : List Move → State
state_after [] = empty
state_after (move ∷ moves) = after (state_after moves) move
