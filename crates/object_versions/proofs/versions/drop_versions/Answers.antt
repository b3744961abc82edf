use Rattle.std.proofs.Common.{◌∙◌, ap, List}
use Rattle.xt_messages.specs.declared.file.ObjectVersion.{ObjectVersion}
use Rattle.xt_messages.specs.Limits.{rise}
use Rattle.object_versions.proofs.HeadLimits.{objects_of, below_still_rise}
use Rattle.object_versions.proofs.versions.drop_versions.Goals as goal

pub returns-clause-rising : goal.returns-clause-rising
returns-clause-rising c =
    let below = rw c.as_slice.ensures.value at c.objects_below-place.ensures.below in
    ap (λ (vs : List ObjectVersion). rise (objects_of vs)) (c.truncate.ensures.items ∙ below) ∙ below_still_rise c.args.versions.now.items c.args.from c.requires
