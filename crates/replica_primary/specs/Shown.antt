-- A primary as contracts see it: the bodies that are wanted later in their order. The code keeps them last first, so that the next one
-- is taken without the others being moved.
use Rattle.std.specs.Prelude.{Option, Some, None, reverse}
use Rattle.xt_protocol.specs.declared.states.Progress.{Progress}
use Rattle.xt_protocol.specs.declared.states.Progress.TheVariants as progress
use Rattle.xt_protocol.specs.declared.states.Tenure.{Tenure}
use Rattle.xt_protocol.specs.declared.states.PrimaryState.{PrimaryState}

abbrev pub shown_progress : Progress → Progress
shown_progress progress.Gathering = progress.Gathering
shown_progress (progress.Fetching chosen source asked later) = progress.Fetching chosen source asked (reverse later)
shown_progress (progress.Installing chosen acked) = progress.Installing chosen acked
shown_progress (progress.Active committed issued) = progress.Active committed issued

abbrev pub shown_tenure : Tenure → Tenure
shown_tenure t = record { epoch = t.epoch; peers = t.peers; progress = shown_progress t.progress }

abbrev pub shown_under : Option Tenure → Option Tenure
shown_under None = None
shown_under (Some t) = Some (shown_tenure t)

abbrev pub shown_state : PrimaryState → PrimaryState
shown_state p = record { learnt = p.learnt; tenure = shown_under p.tenure }
