-- where a file is, and its primary at a node, as contracts see them
use Rattle.std.specs.Prelude.{◌≡◌, Option, Some, None}
use Rattle.xt_base.specs.declared.ids.NodeId.{NodeId}
use Rattle.xt_base.specs.declared.ids.FileId.{FileId}
use Rattle.xt_messages.specs.declared.file.Location.{Location}
use Rattle.xt_protocol.specs.declared.states.Place.{Place}
use Rattle.xt_protocol.specs.declared.states.PrimaryState.{PrimaryState}
use Rattle.xt_protocol.specs.Primaries.{new_primary}
use Rattle.xt_protocol.specs.FileStates.{stripe_of}
use Rattle.osd_files.specs.declared.lead.Listed.{Listed}

-- the node and the file, where the file is if a list is stored, and the state of the primary
pub record LeadView : Type 0 where
  pub node : NodeId
  pub file : FileId
  pub location : Option Location
  pub primary : PrimaryState

abbrev pub location_in : Option Listed → Option Location
location_in None = None
location_in (Some listed) = Some listed.location

-- before a list is stored the primary is a new one
abbrev pub primary_in : Option Listed → PrimaryState
primary_in None = new_primary
primary_in (Some listed) = listed.primary.state

-- where the primary stands
abbrev pub place_of : LeadView → Place
place_of v = record { node = v.node; file = v.file; stripe = stripe_of v.location }

-- a primary stands at this node, on this file, by the list's size of objects
abbrev pub StandsAt : NodeId → FileId → Option Listed → Type 0
StandsAt node file None = Unit {0}
StandsAt node file (Some listed) = listed.primary.place ≡ record { node = node; file = file; stripe = listed.location.stripe }
