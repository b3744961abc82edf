use Rattle.std.proofs.Common.{refl}
use Rattle.schedule_lines.proofs.Streamed.{byte_taken, none_taken}
use Rattle.schedule_replay.proofs.Whole.{past_end, past_limit, past_fault, nothing_taken}
use Rattle.schedule_lines.proofs.Counted.{finished_cause}
use Rattle.schedule_replay.proofs.replaying.past_last.Goals as goal

pub returns-in-Ok-None-clause-end : goal.returns-in-Ok-None-clause-end
returns-in-Ok-None-clause-end g c =
    λ room w full. let end = none_taken _ _ c.in-Ok-None.field-0 c.in-Ok-None.field-0-is c.in-Ok-None.ensures.taken in past_end room _ _ _ w end.0 end.1

pub returns-in-Ok-Some-clause-end : goal.returns-in-Ok-Some-clause-end
returns-in-Ok-Some-clause-end g c =
    λ room w full. past_limit room _ _ _ _ w c.in-Ok-Some.field-0-0 _ full
    (byte_taken _ _ c.in-Ok-Some.field-0 c.in-Ok-Some.field-0-0 c.in-Ok-Some.field-0-is c.in-Ok-Some.ensures.taken)
    c.finish.ensures.finished

pub returns-in-Err-clause-end : goal.returns-in-Err-clause-end
returns-in-Err-clause-end g c =
    λ room w full. past_fault room _ _ _ _ w _ _ full (nothing_taken _ _ c.in-Err.ensures.kept) c.finish-in-Err.ensures.finished

pub returns-in-Ok-Some-clause-cause : goal.returns-in-Ok-Some-clause-cause
returns-in-Ok-Some-clause-cause g c =
    finished_cause _ _ _ _ _ _ _ c.finish.result c.finish.ensures.finished c.finish.ensures.cause (c.in-Ok-Some.ensures.sound, refl)

pub returns-in-Err-clause-cause : goal.returns-in-Err-clause-cause
returns-in-Err-clause-cause g c =
    finished_cause _ _ _ _ _ _ _ c.finish-in-Err.result c.finish-in-Err.ensures.finished c.finish-in-Err.ensures.cause
    (c.in-Err.ensures.failed, c.faults.ensures, refl)
