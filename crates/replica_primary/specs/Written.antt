-- what a write makes of a tenure
use Rattle.std.specs.Prelude.{ℕ, Option, Some, None, List, []}
use Rattle.xt_messages.specs.declared.file.ObjectVersion.{ObjectVersion}
use Rattle.xt_messages.specs.declared.file.FileHead.{FileHead}
use Rattle.xt_messages.specs.declared.file.Update.{Update}
use Rattle.xt_messages.specs.declared.record.Record.{Record}
use Rattle.xt_protocol.specs.SeenBodies.{body_by}
use Rattle.xt_protocol.specs.declared.states.Place.{Place}
use Rattle.xt_protocol.specs.declared.states.Progress.{Progress}
use Rattle.xt_protocol.specs.declared.states.Progress.TheVariants as progress
use Rattle.xt_protocol.specs.declared.states.Tenure.{Tenure}
use Rattle.xt_protocol.specs.Primaries.{Ground, Led}
use Rattle.xt_protocol.specs.PrimaryRows.{goes_on}
use Rattle.replica_primary.specs.declared.serving.Written.{Written}

-- what a primary may look at besides its tenure, if it sees the bodies of these records
abbrev pub ground : Place → List Record → FileHead → List ObjectVersion → Ground
ground place records own held = record { place = place; own = own; held = held; body = body_by records place.file }

-- this update is issued, and nobody has acknowledged it
abbrev pub with_issued : Progress → Update → Progress
with_issued (progress.Active committed issued) update = progress.Active committed (Some (record { update = update; acked = [] }))
with_issued p update = p

abbrev pub tenure_after : Tenure → Option Update → Tenure
tenure_after t None = t
tenure_after t (Some update) = record t { progress = with_issued t.progress update }

-- what a write gives; none where it waits
abbrev pub led_of : ℕ → Tenure → Option Written → Option Led
led_of learnt t None = None
led_of learnt t (Some written) = Some (goes_on learnt (tenure_after t written.issued) written.turned)

-- a tenure in which this update is issued, where there is one
abbrev pub under_issued : Option Tenure → Option Update → Option Tenure
under_issued None update = None
under_issued (Some t) update = Some (tenure_after t update)

-- what a write gives under a tenure; none where it waits
abbrev pub led_under : ℕ → Option Tenure → Option Written → Option Led
led_under learnt tenure None = None
led_under learnt tenure (Some written) =
    Some (record { primary = record { learnt = learnt; tenure = under_issued tenure written.issued }; turned = written.turned })
