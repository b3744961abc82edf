use Rattle.std.proofs.Common.{◌∙◌, refl, sym}
use Rattle.xtfs_run.specs.Doing.{words_unread, refuses}
use Rattle.xtfs_run.proofs.Asked.{as_asked}
use Rattle.xtfs_run.proofs.doing.run.Goals as goal

pub returns-in-Ok-Some : goal.returns-in-Ok-Some
returns-in-Ok-Some g c = as_asked _ _ (sym c.in-Ok-Some.field-0-is ∙ c.in-Ok-Some.ensures.asked) c.do_job.ensures

pub returns-in-Ok-None : goal.returns-in-Ok-None
returns-in-Ok-None g c =
    refuses (sym (sym c.in-Ok-None.field-0-is ∙ c.in-Ok-None.ensures.asked)) (record {
      finished = c.finish.ensures.finished;
      cause = c.finish.ensures.cause;
      unread = record { left = refl; faults = refl };
      alone = record {
        given = refl;
        sent = refl;
        losses = refl;
        readings = refl;
        disk = refl;
        link_faults = refl;
        clock_faults = refl;
        childless = record { calls = refl; faults = refl };
      };
    })

pub returns-in-Err : goal.returns-in-Err
returns-in-Err g c =
    words_unread (record {
      finished = c.finish-in-Err.ensures.finished;
      cause = c.finish-in-Err.ensures.cause;
      unread = record { left = refl; faults = refl };
      alone = record {
        given = refl;
        sent = refl;
        losses = refl;
        readings = refl;
        disk = refl;
        link_faults = refl;
        clock_faults = refl;
        childless = record { calls = refl; faults = refl };
      };
    })
