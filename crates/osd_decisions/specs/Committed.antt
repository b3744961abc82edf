-- what always holds of a primary's committed head
use Rattle.std.specs.Prelude.{Option, Some, None}
use Rattle.xt_protocol.specs.declared.states.Progress.{Progress}
use Rattle.xt_protocol.specs.declared.states.Progress.TheVariants as progress
use Rattle.xt_protocol.specs.declared.states.Tenure.{Tenure}
use Rattle.object_versions.specs.Rising.{HeadRises}

-- its versions and sessions rise
abbrev pub CommittedRises : Progress → Type 0
CommittedRises (progress.Active committed issued) = HeadRises committed
CommittedRises progress.Gathering = Unit {0}
CommittedRises (progress.Fetching chosen source asked later) = Unit {0}
CommittedRises (progress.Installing chosen acked) = Unit {0}

abbrev pub CommittedUnder : Option Tenure → Type 0
CommittedUnder None = Unit {0}
CommittedUnder (Some t) = CommittedRises t.progress
