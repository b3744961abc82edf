use Rattle.std.proofs.Common.{rules, nat_lt, ap, ◌∙◌}
use Rattle.std.proofs.lemmas.Fn.{filter_same}
use Rattle.xt_messages.specs.declared.file.ObjectVersion.{ObjectVersion}
use Rattle.xt_protocol.specs.Heads.{versions_below}
use Rattle.replica_records.proofs.head.drop_versions.Goals as goal

pub returns : goal.returns
returns c =
    filter_same _ (λ (row : ObjectVersion). nat_lt row.object c.args.from) _ (λ x b f' k. search rules) _ _ c.retain.ensures.filtered
    ∙ ap (λ versions. versions_below versions c.args.from) c.versions.view_is
