use Rattle.std.proofs.Common.{◌∙◌, ap, sym}
use Rattle.std.specs.Prelude.{not}
use Rattle.xt_messages.specs.declared.file.ObjectVersion.{ObjectVersion}
use Rattle.xt_protocol.specs.Stamps.{has_version, with_held}
use Rattle.replica_primary.proofs.Staged.{found_at, none_found, passed_by}
use Rattle.replica_primary.proofs.staging.first_unknown_with.Goals as goal

pub returns-then-not-is_known_with-clause-found : goal.returns-then-not-is_known_with-clause-found
returns-then-not-is_known_with-clause-found c =
    let known = with_held c.args.known.now c.args.staged in
    found_at (λ (v : ObjectVersion). not (has_version known v)) c.args.versions.now c.loop-place.place _ c.loop-place-test.true c.loop-place.invariant (ap not (sym c.is_known_with.ensures ∙ c.if-not-is_known_with.true))

pub loop-place-preserved : goal.loop-place-preserved
loop-place-preserved c =
    let known = with_held c.args.known.now c.args.staged in
    passed_by (λ (v : ObjectVersion). not (has_version known v)) c.args.versions.now c.loop-place.place _ c.loop-place-test.true c.loop-place.invariant (ap not (sym c.is_known_with.ensures ∙ c.if-not-is_known_with.false))

pub returns-clause-found : goal.returns-clause-found
returns-clause-found c =
    let known = with_held c.args.known.now c.args.staged in
    none_found (λ (v : ObjectVersion). not (has_version known v)) c.args.versions.now c.loop-place.place c.loop-place-test.false c.loop-place.invariant
