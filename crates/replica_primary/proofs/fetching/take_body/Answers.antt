use Rattle.std.proofs.Common.{◌∙◌, ap}
use Rattle.std.specs.Prelude.{reverse}
use Rattle.xt_protocol.specs.declared.states.Progress.TheVariants as progress
use Rattle.xt_protocol.specs.Primaries.{Led}
use Rattle.xt_protocol.specs.PrimaryRows.{after_keeping}
use Rattle.replica_primary.specs.Shown.{shown_tenure}
use Rattle.replica_primary.specs.Written.{ground}
use Rattle.replica_primary.specs.Moves.{beyond, kept_of}
use Rattle.replica_primary.proofs.Given.{if_so}
use Rattle.replica_primary.proofs.Hears.{fetched_on, kept_first}
use Rattle.replica_primary.proofs.fetching.take_body.Goals as goal

pub returns-in-Fetching : goal.returns-in-Fetching
returns-in-Fetching c =
    if_so _ _ c.fetches.result c.fetches.ensures
    (λ next of learnt from records own chosen source asked later is.
    let t = c.args.tenure.now in
    let body = c.args.body in
    let fetched = c.unless_held-fetched.result in
    let stands = ground c.args.place.now records own c.args.held.now in
    let read = c.in-Fetching in
    of learnt from records own c.args.held.now
    ∙ ap (λ (led : Led). after_keeping (kept_of stands.place.file fetched) led)
    (fetched_on (beyond stands fetched) learnt t c.replace.result progress.Gathering chosen source asked later read.chosen read.source read.asked read.later
    c.replace.ensures.value read.is is)
    ∙ kept_first stands learnt (shown_tenure t) chosen source (reverse later) body.object body.version body.bytes fetched (c.unless_held-fetched.ensures stands.place.file))
