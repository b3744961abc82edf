use Rattle.std.proofs.Common.{◌∙◌, None, List, ℕ, ap, sym, take}
use Rattle.xt_messages.specs.declared.file.ObjectVersion.{ObjectVersion}
use Rattle.xt_protocol.specs.ReplicaRows.{first_missing}
use Rattle.peer_searches.specs.declared.searches.Search.{Search}
use Rattle.peer_searches.specs.Sound.{with_search}
use Rattle.replica_primary.specs.Moves.{body_seen}
use Rattle.replica_primary.proofs.Given.{if_so}
use Rattle.replica_primary.proofs.Sought.{fed_sound}
use Rattle.replica_primary.proofs.feeding.fed_on.Goals as goal

pub returns-clause-sound : goal.returns-clause-sound
returns-clause-sound g c =
    let a = c.args in
    let found = c.first_unknown-found.result in
    let seen = g.B.Bodies.some c.fed.new.bodies in
    if_so _ _ c.fed.result c.fed.ensures.value
    (λ state made own peers is sound.
    fed_sound (body_seen seen.0 a.file.now None) a.target.now own peers a.searches.now c.put.new.self a.node a.known found state is sound (made seen.0 seen.1)
    (sym (ap (λ (vs : List ObjectVersion). first_missing a.known (take found vs)) c.versions.ensures) ∙ c.first_unknown-found.ensures.passed)
    (c.in_ok-put.ensures ∙ ap (λ (n : ℕ). let s : Search = record { node = a.node; passed = n } in with_search a.searches.now s) c.of_own.ensures))
