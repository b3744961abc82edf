use Rattle.std.proofs.Common.{sym, ◌∙◌}
use Rattle.cluster_job.proofs.Led.{ends_registering, lists, ends_listing, has_settled, ends_settling}
use Rattle.cluster_job.proofs.cluster.settle.Goals as goal

pub returns-in-Err-clause-ended : goal.returns-in-Err-clause-ended
returns-in-Err-clause-ended g c left source calls child children = ends_registering c.args.job.now _ _ _ (c.in-Err.ensures.cannot left source)

pub returns-in-Err-unless_done-clause-ended : goal.returns-in-Err-unless_done-clause-ended
returns-in-Err-unless_done-clause-ended g c left source calls child children =
    ends_listing c.args.job.now _ _ _ _ _ _ _ _ (c.in-Ok.ensures.registered left source)
    (lists c.args.job.now _ _ _ _ _ _ _ _ c.base_of.ensures c.in-Err-unless_done.ensures.other.0 (c.run_lists.ensures source))
    (λ e. c.in-Err-unless_done.ensures.other.1 (sym c.in-Err-unless_done.ensures.other.0 ∙ e)) c.close.ensures

pub returns-in-Ok-listen-clause-came : goal.returns-in-Ok-listen-clause-came
returns-in-Ok-listen-clause-came g c left source calls child children = (
  c.in-Ok.registered,
  has_settled c.args.job.now _ _ _ _ _ _ (c.in-Ok.ensures.registered left source)
      (lists c.args.job.now _ _ _ _ _ _ _ _ c.base_of.ensures (sym c.in-Ok-unless_done.ensures.done) (c.run_lists.ensures source))
      c.settles_at-until.ensures (c.in-Ok-listen.ensures.heard left _ source _),
)

pub returns-in-Err-listen-clause-ended : goal.returns-in-Err-listen-clause-ended
returns-in-Err-listen-clause-ended g c left source calls child children =
    ends_settling c.args.job.now _ _ _ _ _ _ _ _ _ _ (c.in-Ok.ensures.registered left source)
    (lists c.args.job.now _ _ _ _ _ _ _ _ c.base_of.ensures (sym c.in-Ok-unless_done.ensures.done) (c.run_lists.ensures source))
    c.settles_at-until.ensures (c.in-Err-listen.ensures.cannot left _ source _) c.close-in-Err-listen.ensures
