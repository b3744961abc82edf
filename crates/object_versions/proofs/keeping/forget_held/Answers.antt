use Rattle.std.proofs.Common.{◌∙◌, ap, filter, rules, List}
use Rattle.std.proofs.lemmas.Fn.{filter_same}
use Rattle.xt_messages.specs.declared.file.ObjectVersion.{ObjectVersion}
use Rattle.xt_protocol.specs.Forgetting.{is_kept}
use Rattle.object_versions.proofs.keeping.forget_held.Goals as goal

pub returns : goal.returns
returns c =
    let kept = is_kept c.args.keep.now c.args.file.now in
    filter_same _ kept _ (λ x b f' k. search rules) _ _ c.retain.ensures.filtered ∙ ap (λ (vs : List ObjectVersion). filter kept vs) c.held.view_is
