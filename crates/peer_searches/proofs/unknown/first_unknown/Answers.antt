use Rattle.std.proofs.Common.{◌∙◌, sym}
use Rattle.peer_searches.proofs.Looked.{all_known, known_here, unknown_here}
use Rattle.peer_searches.proofs.unknown.first_unknown.Goals as goal

pub returns-then-not-holds-clause-found : goal.returns-then-not-holds-clause-found
returns-then-not-holds-clause-found c =
    unknown_here c.args.known.now c.args.versions.now c.loop-place.place _ c.loop-place-test.true c.loop-place.invariant (sym c.holds.ensures ∙ c.if-not-holds.true)

pub loop-place-preserved : goal.loop-place-preserved
loop-place-preserved c =
    known_here c.args.known.now c.args.versions.now c.loop-place.place _ c.loop-place-test.true c.loop-place.invariant (sym c.holds.ensures ∙ c.if-not-holds.false)

pub returns-clause-found : goal.returns-clause-found
returns-clause-found c = all_known c.args.known.now c.args.versions.now c.loop-place.place c.loop-place-test.false c.loop-place.invariant
