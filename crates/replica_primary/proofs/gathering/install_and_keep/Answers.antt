use Rattle.std.proofs.Common.{◌∙◌, Option, ap}
use Rattle.xt_protocol.specs.declared.turned.Turned.{Turned}
use Rattle.xt_messages.specs.declared.record.Record.{Record}
use Rattle.xt_protocol.specs.Primaries.{Led}
use Rattle.xt_protocol.specs.PrimaryRows.{after_keeping, goes_on}
use Rattle.replica_primary.specs.Moves.{ground_beyond, kept_of}
use Rattle.replica_primary.proofs.gathering.install_and_keep.Goals as goal

pub returns-clause-value : goal.returns-clause-value
returns-clause-value g c =
    λ records agrees learnt held.
    let place = c.args.place.now in
    let fetched = c.args.fetched in
    let after = c.installs.new.tenure in
    let turned = c.in_ok-turned.turned in
    let stands = ground_beyond place records fetched c.args.own.now held in
    ap (λ (u : Turned). goes_on learnt after u) c.in_ok-next.ensures
    ∙ ap (λ (rec : Option Record). after_keeping rec (goes_on learnt after turned)) c.kept_of-rec.ensures
    ∙ ap (λ (led : Led). after_keeping (kept_of place.file fetched) led) (c.in_ok-turned.ensures.value records agrees learnt held)
