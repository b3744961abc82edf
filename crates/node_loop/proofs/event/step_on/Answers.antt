use Rattle.std.proofs.Common.{◌≡◌, ◌∙◌, ap, subst, List}
use Rattle.xt_messages.specs.declared.record.Record.{Record}
use Rattle.object_store.specs.Layers.{AgreesOver, lower_of, waiting_of}
use Rattle.object_store.specs.Seen.{agreed, store_of}
use Rattle.object_store.specs.Waits.{recs_of, records_with}
use Rattle.world_spec.specs.NodeSteps.{one_more}
use Rattle.node_loop.proofs.Seeing.{fits_so, known_more, seen_by, sees_over}
use Rattle.node_loop.proofs.event.step_on.Goals as goal

pub step-requires-clause-runs : goal.step-requires-clause-runs
step-requires-clause-runs g c =
    let told = g.D.Disk.is_told in
    let store = c.args.store.now in
    let waiting = c.args.waiting.now in
    let bodies = c.new-bodies.result in
    let is : store_of (lower_of bodies) ≡ store = ap store_of c.new-bodies.ensures.lower ∙ c.new-lower.ensures.store in
    let same : recs_of (waiting_of bodies) ≡ recs_of waiting = ap recs_of c.new-bodies.ensures.waiting in
    λ records agrees.
    g.met.N.Node.seen_runs c.args.node.now told (records_with store (recs_of waiting)) records
    (sees_over store (lower_of bodies) (recs_of waiting) records is waiting.fit
    (subst (λ (rs : List Record). AgreesOver (agreed (lower_of bodies)) rs records) same agrees)) c.requires.runs

pub returns-in-Ok-clause-step : goal.returns-in-Ok-clause-step
returns-in-Ok-clause-step g c =
    let bodies = c.new-bodies.result in
    let by = seen_by c.args.store.now (lower_of bodies) (lower_of c.step.new.bodies) (recs_of c.args.waiting.now) (recs_of (waiting_of bodies)) (recs_of (waiting_of c.step.new.bodies))
    (ap store_of c.new-bodies.ensures.lower ∙ c.new-lower.ensures.store) (ap recs_of c.new-bodies.ensures.waiting) c.args.waiting.now.fit c.step.ensures.reads.later in
    (by.seen, by.sees, c.in-Ok.ensures.step by.seen by.agrees_so)

pub returns-in-Ok-clause-fits : goal.returns-in-Ok-clause-fits
returns-in-Ok-clause-fits g c =
    let bodies = c.new-bodies.result in
    let by = seen_by c.args.store.now (lower_of bodies) (lower_of c.step.new.bodies) (recs_of c.args.waiting.now) (recs_of (waiting_of bodies)) (recs_of (waiting_of c.step.new.bodies))
    (ap store_of c.new-bodies.ensures.lower ∙ c.new-lower.ensures.store) (ap recs_of c.new-bodies.ensures.waiting) c.args.waiting.now.fit c.step.ensures.reads.later in
    fits_so g.D.Disk.is_told (records_with c.args.store.now (recs_of c.args.waiting.now)) by.seen c.in-Ok.turned by.sees (c.in-Ok.ensures.fits by.seen by.agrees_so)

pub returns-in-Ok-clause-runs : goal.returns-in-Ok-clause-runs
returns-in-Ok-clause-runs g c =
    let told = g.D.Disk.is_told in
    let bodies = c.new-bodies.result in
    let by = seen_by c.args.store.now (lower_of bodies) (lower_of c.step.new.bodies) (recs_of c.args.waiting.now) (recs_of (waiting_of bodies)) (recs_of (waiting_of c.step.new.bodies))
    (ap store_of c.new-bodies.ensures.lower ∙ c.new-lower.ensures.store) (ap recs_of c.new-bodies.ensures.waiting) c.args.waiting.now.fit c.step.ensures.reads.later in
    subst (λ (rs : List Record). g.N.Node.runs_on c.step.new.self rs) (known_more told (records_with c.args.store.now (recs_of c.args.waiting.now)) by.seen c.in-Ok.turned.rec by.sees)
    (g.met.N.Node.known_runs c.step.new.self told (one_more by.seen c.in-Ok.turned.rec) (c.in-Ok.ensures.runs by.seen by.agrees_so))
