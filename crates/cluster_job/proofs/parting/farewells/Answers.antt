use Rattle.std.proofs.Common.{◌≡◌, ◌∙◌, ap, [], ◌∷◌, ◌++◌, arith}
use Rattle.xt_messages.specs.declared.message.Msg.{Msg}
use Rattle.capabilities.specs.Stops.{stop_word}
use Rattle.capabilities.specs.Tags.{hmac_of}
use Rattle.cluster_job.proofs.Parted.{are_farewells, fits_more}
use Rattle.cluster_job.proofs.parting.farewells.Goals as goal

pub returns-clause-value : goal.returns-clause-value
returns-clause-value c =
    let tagged : c.in_ok-tag.tag ≡ hmac_of c.as_slice.result.now stop_word = (let e = c.in_ok-tag.ensures in cc) in
    let count : c.loop-before.before ≡ c.args.job.now.osds = omega arith in
    are_farewells c.args.job.now c.in_ok-tag.tag _ c.loop-before.before _ _ _ c.as_slice.ensures tagged count c.loop-before.invariant.0
    (c.in_ok-push-2.ensures.ok ∙ ap (λ (m : Msg). c.loop-before.msgs ++ m ∷ []) c.stop_from-2.ensures.value)
    (c.in_ok-push-3.ensures.ok ∙ ap (λ (m : Msg). c.push-2.new.self ++ m ∷ []) c.stop_from-3.ensures.value)

pub returns-clause-fits : goal.returns-clause-fits
returns-clause-fits c =
    fits_more c.push-2.new.self c.push-3.new.self c.stop_from-3.result
    (fits_more c.loop-before.msgs c.push-2.new.self c.stop_from-2.result c.loop-before.invariant.1 c.stop_from-2.ensures.fits c.in_ok-push-2.ensures.ok)
    c.stop_from-3.ensures.fits c.in_ok-push-3.ensures.ok
