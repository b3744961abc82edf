use Rattle.std.proofs.Common.{refl, inr}
use Rattle.xt_messages.specs.declared.status.Limited.TheVariants as limited
use Rattle.xt_messages.specs.declared.status.Status.TheVariants as status
use Rattle.time_line.specs.declared.TheConstants.{LINES}
use Rattle.cluster_lines.specs.Lines.{stopped}
use Rattle.cluster_lines.proofs.Going.{over_on, none_left, one_taken}
use Rattle.cluster_lines.proofs.running.past_last.Goals as goal

pub returns-in-Ok-None : goal.returns-in-Ok-None
returns-in-Ok-None g c cluster session around link clock =
    let end = none_left _ _ _ c.in-Ok-None.field-0-is c.in-Ok-None.ensures.taken in
    over_on cluster _ _ _ _ c.in-Ok-None.ensures.sound end.0 end.1

pub returns-in-Ok-Some : goal.returns-in-Ok-Some
returns-in-Ok-Some g c cluster session around link clock =
    stopped _ c.close.result (record {
      why = status.Limit limited.Lines LINES;
      stops = (refl, refl, one_taken _ _ _ _ c.in-Ok-Some.field-0-is c.in-Ok-Some.ensures.taken);
      cause = (refl, refl, c.in-Ok-Some.ensures.sound);
      closes = c.close.ensures;
      unused = record { session = refl; around = refl };
    })

pub returns-in-Err : goal.returns-in-Err
returns-in-Err g c cluster session around link clock =
    stopped _ c.close-in-Err.result (record {
      why = status.SourceFault c.faults-count.result;
      stops = inr (refl, c.in-Err.ensures.kept);
      cause = (c.in-Err.ensures.failed, c.faults-count.ensures, refl, refl);
      closes = c.close-in-Err.ensures;
      unused = record { session = refl; around = refl };
    })
