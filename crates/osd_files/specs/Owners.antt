-- whose a lease or a round is
use Rattle.std.specs.Prelude.{Option, Some, None}
use Rattle.xt_base.specs.TimeSettings.{TimeSettings}
use Rattle.xt_base.specs.declared.ids.NodeId.{NodeId}
use Rattle.xt_protocol.specs.Register.{Round}
use Rattle.xt_protocol.specs.LeaseRows.{Awake, Proposer, LeaseState, free, asking, writing, held}

-- a node, and the times that it goes by
pub record Owner : Type 0 where
  pub node : NodeId
  pub times : TimeSettings

abbrev pub owner_at : Awake → Owner
owner_at awake = record { node = awake.node; times = awake.times }

abbrev pub owner_of_proposer : Proposer → Owner
owner_of_proposer p = record { node = p.node; times = p.times }

abbrev pub owner_of_round : Round → Owner
owner_of_round r = record { node = r.ballot.node; times = r.times }

-- whose the lease or the round of a file is
abbrev pub owner_of : LeaseState → Owner
owner_of (free p) = owner_of_proposer p
owner_of (asking r) = owner_of_round r
owner_of (writing r) = owner_of_round r
owner_of (held h) = owner_of_proposer h.proposer

-- whose the renewal is; this one's where none runs
abbrev pub renewer_in : Owner → Option Round → Owner
renewer_in owner None = owner
renewer_in owner (Some r) = owner_of_round r

abbrev pub renewer_of : Owner → LeaseState → Owner
renewer_of owner (held h) = renewer_in owner h.renewal
renewer_of owner (free p) = owner
renewer_of owner (asking r) = owner
renewer_of owner (writing r) = owner
