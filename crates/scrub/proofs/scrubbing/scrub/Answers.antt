use Rattle.std.proofs.Common.{List, refl, subst, sym}
use Rattle.scrub.specs.declared.found.Found.{Found}
use Rattle.scrub.proofs.Reports.{HasGoneOn, gone_fails, gone_more, split_so}
use Rattle.scrub.proofs.scrubbing.scrub.Goals as goal

pub returns-in-Err-clause-cannot : goal.returns-in-Err-clause-cannot
returns-in-Err-clause-cannot g c =
    gone_fails g.B.Bodies.agrees g.B.Bodies.fault_count c.args.bodies.now c.loop-rest.bodies c.scrub_batch.new.bodies c.args.items.now c.loop-rest.rest.now
    c.split_at.result.0.now c.split_at.result.1.now _ c.loop-rest.report.items c.in-Err.error
    (split_so c.loop-rest.rest.now c.split_at.result.0.now c.split_at.result.1.now c.min.result c.split_at.ensures.front c.split_at.ensures.back) refl
    c.loop-rest.invariant c.in-Err.ensures.later c.in-Err.ensures.cannot

pub loop-rest-preserved : goal.loop-rest-preserved
loop-rest-preserved g c =
    subst (λ (report : List Found). HasGoneOn g.B.Bodies.agrees g.B.Bodies.fault_count c.args.bodies.now c.scrub_batch.new.bodies c.args.items.now c.split_at.result.1.now report)
    (sym c.in_ok-put_all-in-Ok.ensures)
    (gone_more g.B.Bodies.agrees g.B.Bodies.fault_count c.args.bodies.now c.loop-rest.bodies c.scrub_batch.new.bodies c.args.items.now c.loop-rest.rest.now
    c.split_at.result.0.now c.split_at.result.1.now c.loop-rest.report.items c.in-Ok.found.items
    (split_so c.loop-rest.rest.now c.split_at.result.0.now c.split_at.result.1.now c.min.result c.split_at.ensures.front c.split_at.ensures.back)
    c.loop-rest.invariant c.in-Ok.ensures.later c.in-Ok.ensures.is)
