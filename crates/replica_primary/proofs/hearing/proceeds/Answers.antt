use Rattle.std.proofs.Common.{◌∙◌, ap, sym}
use Rattle.replica_primary.specs.declared.moving.Next.{Next}
use Rattle.replica_primary.specs.Written.{ground}
use Rattle.replica_primary.specs.Moves.{next_of}
use Rattle.replica_primary.proofs.Given.{if_so}
use Rattle.replica_primary.proofs.hearing.proceeds.Goals as goal

pub returns-in-Installs-clause-value : goal.returns-in-Installs-clause-value
returns-in-Installs-clause-value g c =
    if_so _ _ c.install_and_keep.result c.install_and_keep.ensures.value
    (λ turned of records agrees learnt held.
    let stands = ground c.args.place.now records c.args.own.now held in
    of records agrees learnt held ∙ ap (λ (n : Next). next_of stands learnt c.args.from c.args.tenure.now n) (sym c.in-Installs.is))
