-- an OSD, as contracts see it, and what always holds of it
use Rattle.std.specs.Prelude.{ℕ, ◌≡◌, ◌<◌, ◌^◌, Option, List, IfSome}
use Rattle.xt_base.specs.declared.ids.NodeId.{NodeId}
use Rattle.xt_protocol.specs.LeaseRows.{Silent}
use Rattle.xt_protocol.specs.OsdSteps.{OsdState}
use Rattle.osd_core.specs.declared.met.MetFiles.{MetFiles}
use Rattle.osd_core.specs.Keys.{FitsKey}
use Rattle.osd_core.specs.Slots.{awake_of, AreMet}

-- the key that its capabilities and its Stop are sealed under, if there is one, and its state
pub record OsdView : Type 0 where
  pub key : Option (List ℕ)
  pub state : OsdState

-- the key fits, the node is the one that started, the clock used last is one, and the files are those that this OSD has met
pub record IsOsd (key : Option (List ℕ)) (node : NodeId) (started : Silent) (last : ℕ) (met : MetFiles) : Type 0 where
  pub fits : IfSome key FitsKey
  pub own : node ≡ started.node
  pub clock : last < 2 ^ 62
  pub files : AreMet (awake_of started) met
