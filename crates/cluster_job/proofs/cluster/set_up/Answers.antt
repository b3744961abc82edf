use Rattle.std.proofs.Common.{◌+◌, ap}
use Rattle.cluster_job.proofs.Led.{starts_all, ends_starting, has_risen, ends_rising}
use Rattle.cluster_job.proofs.cluster.set_up.Goals as goal

pub returns-in-Err-clause-ended : goal.returns-in-Err-clause-ended
returns-in-Err-clause-ended g c left source = ends_starting c.args.job.now _ _ _ _ _ _ _ _ _ _ (c.in-Err.ensures.cannot _ _ _ _ source) c.close.ensures

pub returns-in-Ok-listen-clause-came : goal.returns-in-Ok-listen-clause-came
returns-in-Ok-listen-clause-came g c left source =
    has_risen c.args.job.now _ _ _ _
    (starts_all c.args.job.now _ _ _ _ _ _ _ (c.in-Ok.ensures.started _ _ _) c.in-Ok.ensures.sound.0 c.in-Ok.ensures.sound.1)
    (ap (λ n. c.in-Ok.started + n) c.drift.ensures.value)
    (c.in-Ok-listen.ensures.heard left _ source _)

pub returns-in-Err-listen-clause-ended : goal.returns-in-Err-listen-clause-ended
returns-in-Err-listen-clause-ended g c left source =
    ends_rising c.args.job.now _ _ _ _ _ _ _ _
    (starts_all c.args.job.now _ _ _ _ _ _ _ (c.in-Ok.ensures.started _ _ _) c.in-Ok.ensures.sound.0 c.in-Ok.ensures.sound.1)
    (ap (λ n. c.in-Ok.started + n) c.drift.ensures.value)
    (c.in-Err-listen.ensures.cannot left _ source _) c.close-in-Err-listen.ensures
