use Rattle.std.proofs.Common.{◌∙◌, refl, []}
use Rattle.client_jobs.specs.Running.{begun, command_of}
use Rattle.client_jobs.proofs.Working.{runs_on, ends_over, ends_by, ends_spent}
use Rattle.client_jobs.proofs.running.work_quietly.Goals as goal

pub loop-init : goal.loop-init
loop-init g c = record { asks = c.requires.asks; link = refl; clock = refl; way = ([], begun) }

pub loop-preserved : goal.loop-preserved
loop-preserved g c =
    record {
      asks = c.in-Ok-Some.ensures.asks;
      link = c.in-Ok-Some.ensures.sound.0 ∙ c.loop.invariant.link;
      clock = c.in-Ok-Some.ensures.sound.1 ∙ c.loop.invariant.clock;
      way =
          runs_on (command_of c.args.job.now) _ _ (record {
            to_come = g.L.Link.given c.step.new.link;
            sent = g.L.Link.sent c.step.new.link;
            losses = g.L.Link.loss_count c.step.new.link;
            to_read = g.C.Clock.readings c.step.new.clock;
          }) _ _ c.loop.counter c.step.new.session _ c.in-Ok-Some.goes c.new.result c.with_piece-stage.result
          c.loop.invariant.way c.in-Ok-Some.field-0-is c.in-Ok-Some.ensures.stepped c.new.ensures c.with_piece-stage.ensures;
    }

pub returns-in-Ok-None : goal.returns-in-Ok-None
returns-in-Ok-None g c source =
    ends_over (command_of c.args.job.now) _ _ (record {
      to_come = g.L.Link.given c.step.new.link;
      sent = g.L.Link.sent c.step.new.link;
      losses = g.L.Link.loss_count c.step.new.link;
      to_read = g.C.Clock.readings c.step.new.clock;
    }) _ _ c.loop.counter c.step.new.session _ _ _ c.into_status.result
    c.loop.invariant.way c.in-Ok-None.field-0-is c.in-Ok-None.ensures.stepped (c.in-Ok-None.ensures.sound.0 ∙ c.loop.invariant.link)
    (c.in-Ok-None.ensures.sound.1 ∙ c.loop.invariant.clock) refl c.into_status.ensures

pub returns-in-Err : goal.returns-in-Err
returns-in-Err g c source =
    ends_by (command_of c.args.job.now) _ _ _ _ _ c.loop.counter c.step.new.session _ _ source _ _ _ c.in-Err.status
    c.loop.invariant.way c.in-Err.ensures.stepped c.loop.invariant.link c.loop.invariant.clock (c.in-Err.ensures.cause source)

pub returns : goal.returns
returns g c source =
    ends_spent (command_of c.args.job.now) _ _ _ _ c.loop.counter _ _ c.status_of.result
    c.loop.invariant.way c.loop.invariant.link c.loop.invariant.clock refl c.loop.auto.counter-end c.loop-test.false c.status_of.ensures
