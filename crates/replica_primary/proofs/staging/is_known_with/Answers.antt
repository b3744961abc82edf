use Rattle.std.proofs.Common.{◌∙◌, Bool, ap, sym}
use Rattle.std.specs.Prelude.{◌||◌}
use Rattle.xt_protocol.specs.Stamps.{has_version}
use Rattle.replica_primary.proofs.Staged.{held_with}
use Rattle.replica_primary.proofs.staging.is_known_with.Goals as goal

pub returns-then-is_version : goal.returns-then-is_version
returns-then-is_version c =
    let known = c.args.known.now in
    let v = c.args.version in
    c.if-is_version.true
    ∙ sym (held_with known c.args.staged v ∙ ap (λ (b : Bool). b || has_version known v) (sym c.is_version.ensures ∙ c.if-is_version.true))

pub returns-else-is_version : goal.returns-else-is_version
returns-else-is_version c =
    let known = c.args.known.now in
    let v = c.args.version in
    c.holds.ensures
    ∙ sym (held_with known c.args.staged v ∙ ap (λ (b : Bool). b || has_version known v) (sym c.is_version.ensures ∙ c.if-is_version.false))
