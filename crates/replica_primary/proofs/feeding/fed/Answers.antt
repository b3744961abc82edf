use Rattle.std.proofs.Common.{◌∙◌, ap}
use Rattle.std.specs.Prelude.{slice_get}
use Rattle.xt_protocol.specs.Primaries.{fed, fed_next}
use Rattle.replica_primary.specs.Feeding.{head_of}
use Rattle.replica_primary.specs.Moves.{body_seen}
use Rattle.replica_primary.proofs.Given.{if_so}
use Rattle.replica_primary.proofs.feeding.fed.Goals as goal

pub returns-clause-value : goal.returns-clause-value
unfolding fed
returns-clause-value g c =
    let a = c.args in
    let head = head_of a.target.now in
    if_so _ _ c.next_state.result c.next_state.ensures.value
    (λ state of records agrees.
    let next = fed_next (body_seen records a.file.now a.fetched.now) head a.known in
    ◌∙◌ {b = next (slice_get head.versions a.found)} (of records agrees) (ap next c.requires))
