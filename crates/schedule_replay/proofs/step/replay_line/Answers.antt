use Rattle.std.proofs.Common.{ℕ, subst}
use Rattle.schedule_lines.specs.Causes.{CausesEnd}
use Rattle.schedule_replay.proofs.LineEnds.{shown_more, stopped_end, unshown_end, line_next, refused_end}
use Rattle.schedule_replay.proofs.Whole.{past_end}
use Rattle.schedule_lines.proofs.Counted.{stopped_cause, finished_cause, put_cause}
use Rattle.schedule_replay.proofs.Causes.{refused_cause}
use Rattle.schedule_replay.proofs.step.replay_line.Goals as goal

pub returns-in-End-clause-step : goal.returns-in-End-clause-step
returns-in-End-clause-step g c = past_end g.H.Hull.room _ _ _ c.args.world.now c.in-End.ensures.reading.0 c.in-End.ensures.reading.1

pub returns-in-Stopped-clause-step : goal.returns-in-Stopped-clause-step
returns-in-Stopped-clause-step g c =
    stopped_end g.H.Hull.room _ _ _ _ c.args.world.now c.lines.result.now c.in-Stopped.status c.finish.result c.requires.few c.lines.ensures c.in-Stopped.ensures.reading c.finish.ensures.finished

pub returns-in-Stopped-clause-cause : goal.returns-in-Stopped-clause-cause
returns-in-Stopped-clause-cause g c =
    finished_cause _ _ _ _ _ _ c.in-Stopped.status c.finish.result c.finish.ensures.finished c.finish.ensures.cause
    (stopped_cause _ _ _ _ _ _ c.in-Stopped.status c.in-Stopped.ensures.reading.2 c.in-Stopped.ensures.faults)

pub returns-in-Some-clause-step : goal.returns-in-Some-clause-step
returns-in-Some-clause-step g c =
    unshown_end g.H.Hull.room _ _ _ _ c.args.world.now c.apply-applied.new.world c.in-Line.line c.lines.result.now c.apply-applied.result c.apply-applied.ensures.grown _ c.in-Some.status
    c.requires.few c.lines.ensures c.in-Line.ensures.reading.1 c.in-Line.ensures.reading.0 c.apply-applied.ensures.applied c.apply-applied.ensures.safe
    (shown_more c.args.world.now.entries c.apply-applied.new.world.entries c.entries-printed.result.now c.entries.result.now c.apply-applied.ensures.grown c.entries-printed.ensures c.entries.ensures)
    c.in-Some.ensures.put

pub returns-in-Some-clause-cause : goal.returns-in-Some-clause-cause
returns-in-Some-clause-cause g c = put_cause _ _ _ _ _ _ _ c.in-Some.status c.in-Line.ensures.faults c.in-Some.ensures.put c.in-Some.ensures.cause

pub returns-in-Ok-clause-step : goal.returns-in-Ok-clause-step
returns-in-Ok-clause-step g c =
    line_next g.H.Hull.room _ _ _ _ c.args.world.now c.apply-applied.new.world c.in-Line.line c.lines.result.now c.apply-applied.ensures.grown _ c.lines.ensures
    c.in-Line.ensures.reading.1 c.in-Line.ensures.reading.0 c.in-Ok.ensures.applied
    (shown_more c.args.world.now.entries c.apply-applied.new.world.entries c.entries-printed.result.now c.entries.result.now c.apply-applied.ensures.grown c.entries-printed.ensures c.entries.ensures)
    c.in-None.ensures.put

pub returns-in-Ok-clause-cause : goal.returns-in-Ok-clause-cause
returns-in-Ok-clause-cause g c =
    (c.in-Line.ensures.faults, c.in-None.ensures.cause)

pub returns-in-Err-clause-step : goal.returns-in-Err-clause-step
returns-in-Err-clause-step g c =
    refused_end g.H.Hull.room _ _ _ _ _ c.args.world.now c.apply-applied.new.world c.in-Line.line c.in-Err.error c.lines.result.now c.apply-applied.ensures.grown _ c.status_of.result c.finish-in-Err.result c.requires.few c.lines.ensures
    c.in-Line.ensures.reading.1 c.in-Line.ensures.reading.0 c.in-Err.ensures.applied c.apply-applied.ensures.safe
    (shown_more c.args.world.now.entries c.apply-applied.new.world.entries c.entries-printed.result.now c.entries.result.now c.apply-applied.ensures.grown c.entries-printed.ensures c.entries.ensures)
    c.in-None.ensures.put c.status_of.ensures c.finish-in-Err.ensures.finished

pub returns-in-Err-clause-cause : goal.returns-in-Err-clause-cause
returns-in-Err-clause-cause g c =
    finished_cause _ _ _ _ _ _ c.status_of.result c.finish-in-Err.result c.finish-in-Err.ensures.finished
    (subst (λ (count : ℕ). CausesEnd count (g.K.Sink.fault_count c.finish-in-Err.new.out) c.finish-in-Err.result) c.in-None.ensures.cause c.finish-in-Err.ensures.cause)
    (refused_cause _ _ _ _ c.in-Err.error c.status_of.result c.in-Line.ensures.faults c.status_of.ensures)
