use Rattle.std.proofs.Common.{◌∙◌, ap, List}
use Rattle.xt_messages.specs.declared.file.ObjectVersion.{ObjectVersion}
use Rattle.xt_protocol.specs.Stamps.{has_version}
use Rattle.object_versions.proofs.HeldSets.{has_key}
use Rattle.object_versions.proofs.held.holds.Goals as goal

pub returns : goal.returns
returns c =
    c.contains.ensures ∙ has_key c.held.inside.versions c.args.version
    ∙ ap (λ (vs : List ObjectVersion). has_version vs c.args.version) c.held.view_is
