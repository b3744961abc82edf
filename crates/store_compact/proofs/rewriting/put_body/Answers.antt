use Rattle.std.proofs.Common.{◌∷◌, [], ◌∙◌}
use Rattle.xt_protocol.specs.Folds.{digests_kept}
use Rattle.xt_protocol.specs.Forgetting.{seals_of, stage_of}
use Rattle.xt_protocol.specs.SeenBodies.{body_by}
use Rattle.object_store.specs.Access.{records_of}
use Rattle.store_compact.proofs.Added.{added_then, body_added, seals_added}
use Rattle.store_compact.proofs.rewriting.put_body.Goals as goal

pub returns : goal.returns
returns g c =
    let store = c.args.store.now in
    let records = records_of {g = g.D.Disk} store in
    let file = c.args.file.now in
    let version = c.args.version in
    let old = c.args.made.now.items in
    let staged = c.put.new.made.items in
    let new = c.put_seals.new.made.items in
    added_then {g = g.D.Disk} store old staged new (stage_of (body_by records) file version ∷ []) (seals_of (digests_kept records) file version)
    (body_added {g = g.D.Disk} store old staged c.stage.result _ c.in_ok-put.ensures c.stage.ensures.is c.stage.ensures.of)
    (seals_added {g = g.D.Disk} store staged new file version _ _ c.in_ok-put_seals.ensures (c.of_version.ensures ∙ c.requires.each file version.object version.version))
