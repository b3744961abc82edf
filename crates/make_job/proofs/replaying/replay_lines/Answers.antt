use Rattle.std.proofs.Common.{◌≢◌, ◌∙◌, ◌+◌, List, length, sym, ap, subst}
use Rattle.xt_messages.specs.declared.status.Status.{Status}
use Rattle.xt_messages.specs.declared.status.Status.TheVariants as status
use Rattle.time_line.specs.declared.line.Line.{Line}
use Rattle.make_job.specs.Make.{EndsWith}
use Rattle.make_job.proofs.Replayed.{begun, goes_on, parted, one_more, next_fits, stops}
use Rattle.make_job.proofs.replaying.replay_lines.Goals as goal

pub loop-line-init : goal.loop-line-init
loop-line-init g c = begun g.H.Hull.room c.args.world.now c.requires.start

pub apply-requires-clause-values : goal.apply-requires-clause-values
apply-requires-clause-values g c =
    next_fits g.H.Hull.room c.args.lines.now _ _ c.line-item.result c.loop-line.world
    (parted c.args.lines.now c.loop-line.line-index c.line-item.result c.loop-line-test.true c.line-item.is) c.loop-line.invariant c.requires.values

pub returns-in-Err : goal.returns-in-Err
returns-in-Err g c =
    subst (λ (s : Status). EndsWith g.H.Hull.room c.args.lines.now s × (s ≢ status.Done)) (sym c.status_of.ensures)
    (stops g.H.Hull.room c.args.lines.now _ _ c.line-item.result c.loop-line.world c.apply.new.self _ c.in-Err.error
    (parted c.args.lines.now c.loop-line.line-index c.line-item.result c.loop-line-test.true c.line-item.is) c.loop-line.invariant
    (ap (λ (ls : List Line). length ls + 1) (c.lines.ensures ∙ c.loop-line.invariant.lines_so_far)) c.in-Err.ensures)

pub loop-line-preserved : goal.loop-line-preserved
loop-line-preserved g c =
    goes_on g.H.Hull.room _ _ c.line-item.result c.loop-line.world c.apply.new.self
    (one_more c.args.lines.now c.loop-line.line-index c.line-item.result c.loop-line-test.true c.line-item.is) c.loop-line.invariant c.in_default.ensures
