use Rattle.std.proofs.Common.{sym, ◌∙◌}
use Rattle.cluster_job.proofs.Led.{lines, ends_commanding, ends_parting, ends_waiting, ends_done}
use Rattle.cluster_job.proofs.cluster.carry_on.Goals as goal

pub returns-in-Err : goal.returns-in-Err
returns-in-Err g c started registered =
    ends_commanding c.args.job.now _ _ _ (lines c.args.job.now _ _ _ _ _ c.base_of.ensures c.in-Err.ensures.other.0 c.run_lines.ensures)
    (λ e. c.in-Err.ensures.other.1 (sym c.in-Err.ensures.other.0 ∙ e))

pub returns-in-Err-part : goal.returns-in-Err-part
returns-in-Err-part g c started registered =
    ends_parting c.args.job.now _ _ _ _ _ _ _ (lines c.args.job.now _ _ _ _ _ c.base_of.ensures (sym c.in-Ok.ensures.done) c.run_lines.ensures)
    (c.in-Err-part.ensures.cannot _ _ _ _ _ _) c.close.ensures

pub returns-in-Ok-wait_all : goal.returns-in-Ok-wait_all
returns-in-Ok-wait_all g c started registered =
    ends_done c.args.job.now _ _ _ _ _ _ (lines c.args.job.now _ _ _ _ _ c.base_of.ensures (sym c.in-Ok.ensures.done) c.run_lines.ensures)
    (c.in-Ok-part.ensures.parted _ _ _ _ _ _) c.in-Ok-wait_all.ensures.front c.in-Ok-wait_all.ensures.all c.in-Ok-wait_all.ensures.sound

pub returns-in-Err-wait_all : goal.returns-in-Err-wait_all
returns-in-Err-wait_all g c started registered =
    ends_waiting c.args.job.now _ _ _ _ _ _ _ _ _ _ (lines c.args.job.now _ _ _ _ _ c.base_of.ensures (sym c.in-Ok.ensures.done) c.run_lines.ensures)
    (c.in-Ok-part.ensures.parted _ _ _ _ _ _) c.in-Err-wait_all.ensures.front c.in-Err-wait_all.ensures.cause c.close-in-Err-wait_all.ensures
