use Rattle.std.proofs.Common.{◌∙◌, ap, sym, refl, length}
use Rattle.std.proofs.lemmas.List.{length-set}
use Rattle.std.proofs.lemmas.List.Edits.{length-insert}
use Rattle.xt_messages.specs.declared.file.ObjectVersion.{ObjectVersion}
use Rattle.object_versions.proofs.versions.versions_with.Goals as goal

pub returns-in-Ok : goal.returns-in-Ok
returns-in-Ok c version =
    let row : ObjectVersion = record { object = c.args.object; version = version } in
    sym (ap length (c.in-Ok.ensures.2 row refl) ∙ length-set c.args.versions.now c.in-Ok.field-0 row)

pub returns-in-Err : goal.returns-in-Err
returns-in-Err c version =
    let row : ObjectVersion = record { object = c.args.object; version = version } in
    sym (ap length (c.in-Err.ensures.2 row refl) ∙ length-insert c.args.versions.now c.in-Err.field-0 row c.in-Err.ensures.0)
