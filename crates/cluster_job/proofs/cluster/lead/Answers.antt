use Rattle.std.proofs.Common.{inl, inr, refl}
use Rattle.cluster_job.proofs.Led.{comes_then, ends_then, opened_ends}
use Rattle.cluster_job.proofs.cluster.lead.Goals as goal

pub returns-in-Err : goal.returns-in-Err
returns-in-Err g c = inl (record { why = c.in-Err.why; cannot = c.in-Err.ensures.cannot _; closes = c.close.ensures; only = refl }, c.requires.empty)

pub returns-in-Err-set_up : goal.returns-in-Err-set_up
returns-in-Err-set_up g c =
    inr (opened_ends c.args.job.now _ _ c.in-Ok.session _ _ _ _ _ c.in-Ok.ensures.opened c.in-Ok.ensures.sound.0 c.in-Ok.ensures.sound.1
    (c.in-Err-set_up.ensures.ended _ _))

pub returns-in-Err-settle : goal.returns-in-Err-settle
returns-in-Err-settle g c =
    inr (opened_ends c.args.job.now _ _ c.in-Ok.session _ _ _ _ _ c.in-Ok.ensures.opened c.in-Ok.ensures.sound.0 c.in-Ok.ensures.sound.1
    (ends_then c.args.job.now _ _ _ _ _ _ _ (c.in-Ok-set_up.ensures.came _ _) (c.in-Err-settle.ensures.ended _ _ _ _ _)))

pub returns : goal.returns
returns g c =
    let settled = c.in-Ok-settle.ensures.came _ _ _ _ _ in
    inr (opened_ends c.args.job.now _ _ c.in-Ok.session _ _ _ _ _ c.in-Ok.ensures.opened c.in-Ok.ensures.sound.0 c.in-Ok.ensures.sound.1
    (ends_then c.args.job.now _ _ _ _ _ _ _ (comes_then c.args.job.now _ _ _ _ (c.in-Ok-set_up.ensures.came _ _) _ _ settled.1) (c.carry_on.ensures _ settled.0)))
