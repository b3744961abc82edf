-- the state of a file's lease, by the case that the code keeps
use Rattle.xt_protocol.specs.LeaseRows.{LeaseState, free, asking, writing, held}
use Rattle.flease.specs.declared.lease.State.{State}
use Rattle.flease.specs.declared.lease.State.TheVariants as state

abbrev pub shown : State → LeaseState
shown (state.Free proposer) = free proposer
shown (state.Asking round) = asking round
shown (state.Writing round) = writing round
shown (state.Held lease) = held lease
