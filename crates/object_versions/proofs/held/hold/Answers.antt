use Rattle.std.proofs.Common.{◌∙◌, ap, List}
use Rattle.xt_messages.specs.declared.file.ObjectVersion.{ObjectVersion}
use Rattle.xt_protocol.specs.Stamps.{with_held}
use Rattle.object_versions.proofs.HeldSets.{with_key}
use Rattle.object_versions.proofs.held.hold.Goals as goal

pub returns-clause-held : goal.returns-clause-held
returns-clause-held c =
    c.in_ok-_is_new.ensures.keys ∙ with_key c.held.inside.versions.keys c.args.version
    ∙ ap (λ (vs : List ObjectVersion). with_held vs c.args.version) c.held.view_is
