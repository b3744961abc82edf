use Rattle.std.proofs.Common.{◌∙◌, ap, List, take, ◌≡◌}
use Rattle.xt_messages.specs.declared.file.ObjectVersion.{ObjectVersion}
use Rattle.xt_messages.specs.Limits.{rise}
use Rattle.xt_protocol.specs.Heads.{versions_below}
use Rattle.object_versions.proofs.HeadLimits.{objects_of, below_still_rise}
use Rattle.object_versions.proofs.heads.versions_after.Goals as goal

pub versions_with-requires : goal.versions_with-requires
versions_with-requires c =
    let versions = c.as_slice-versions.result.now in
    let below : take c.objects_below.result versions ≡ versions_below c.args.head.now.versions c.args.update.now.drop_from =
    c.objects_below.ensures.below ∙ ap (λ (vs : List ObjectVersion). versions_below vs c.args.update.now.drop_from) c.as_slice-versions.ensures
    in
    ap (λ (vs : List ObjectVersion). rise (objects_of vs)) below ∙ below_still_rise c.args.head.now.versions c.args.update.now.drop_from c.requires.versions
