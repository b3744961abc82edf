-- a primary as contracts see it
use Rattle.xt_protocol.specs.declared.states.Place.{Place}
use Rattle.xt_protocol.specs.declared.states.PrimaryState.{PrimaryState}

-- where it stands, and its state in the rows' terms
pub record PrimaryView : Type 0 where
  pub place : Place
  pub state : PrimaryState
