use Rattle.std.proofs.Common.{rules, not, ap, ◌∙◌}
use Rattle.std.proofs.lemmas.Fn.{filter_same}
use Rattle.xt_messages.specs.declared.file.ObjectVersion.{ObjectVersion}
use Rattle.xt_protocol.specs.Stamps.{is_version, without_version}
use Rattle.object_versions.proofs.held.let_go.Goals as goal

pub returns : goal.returns
returns c =
    filter_same _ (λ (other : ObjectVersion). not (is_version c.args.version other)) _ (λ x b f' k. search rules) _ _ c.retain.ensures.filtered
    ∙ ap (λ held. without_version held c.args.version) c.held.view_is
