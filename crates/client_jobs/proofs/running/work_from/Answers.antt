use Rattle.std.proofs.Common.{◌∙◌, ◌≤◌, ◌+◌, ℕ, refl, subst}
use Rattle.client_plans.specs.Plans.{begins}
use Rattle.client_jobs.specs.Running.{CannotTake, command_of}
use Rattle.client_jobs.proofs.Working.{work_over, work_ends, work_cut, work_spent, work_unfed}
use Rattle.client_jobs.proofs.Feeding.{begins_fed, goes_fed, for_all_bytes, for_part}
use Rattle.client_jobs.proofs.running.work_from.Goals as goal

pub loop-init : goal.loop-init
loop-init g c =
    record {
      asks = c.requires.asks;
      link = refl;
      clock = refl;
      sink = refl;
      source = refl;
      way =
          begins_fed (command_of c.args.job.now) (g.S.Source.left c.args.src.now) c.new-pieces.result _ c.args.session.now
          (begins c.args.job.now.order) c.begins-stage.result (g.K.Sink.held c.args.out.now) c.begins-stage.ensures c.new-pieces.ensures.0 c.new-pieces.ensures.1;
    }

pub loop-preserved : goal.loop-preserved
loop-preserved g c =
    record {
      asks = c.in-On.ensures.asks tt;
      link = (c.in-On.ensures.cause 0).0 ∙ c.loop.invariant.link;
      clock = (c.in-On.ensures.cause 0).1 ∙ c.loop.invariant.clock;
      sink = (c.in-On.ensures.cause 0).2 ∙ c.loop.invariant.sink;
      source = c.in-Ok.ensures.sound ∙ c.loop.invariant.source;
      way =
          goes_fed (command_of c.args.job.now) _ _ _ c.loop.pieces c.next.new.self _ _ _ _ _ _ _ _ c.loop.counter c.room_at.result
          c.advance.new.session c.in-On.next c.with_piece-stage.result c.in-Ok.piece c.loop.invariant.way c.in-On.ensures.advanced c.room_at.ensures
          c.in-Ok.ensures.read c.in-Ok.ensures.taken c.with_piece-stage.ensures;
    }

pub returns-in-Over : goal.returns-in-Over
returns-in-Over g c =
    for_all_bytes (command_of c.args.job.now) _ _ c.loop.pieces _ _ _ c.loop.counter _ _ _ _ c.loop.invariant.way
    (λ bytes way.
    work_over (command_of c.args.job.now) bytes _ _ _ _ _ _ _ _ _ c.loop.counter c.loop.pieces.taken c.advance.new.session
    _ _ _ _ _ c.into_status.result _ way c.in-Over.ensures.advanced
    ((c.in-Over.ensures.cause 0).0 ∙ c.loop.invariant.link) ((c.in-Over.ensures.cause 0).1 ∙ c.loop.invariant.clock) c.loop.invariant.source
    ((c.in-Over.ensures.cause 0).2 ∙ c.loop.invariant.sink) c.into_status.ensures c.close.ensures)

pub returns-in-Ends : goal.returns-in-Ends
returns-in-Ends g c =
    for_all_bytes (command_of c.args.job.now) _ _ c.loop.pieces _ _ _ c.loop.counter _ _ _ _ c.loop.invariant.way
    (λ bytes way.
    work_ends (command_of c.args.job.now) bytes _ _ _ _ _ _ _ _ _ c.loop.counter c.loop.pieces.taken c.advance.new.session
    _ _ _ _ _ _ _ _ (g.S.Source.fault_count c.loop.src) _ c.in-Ends.status _ way c.in-Ends.ensures.advanced
    c.loop.invariant.link c.loop.invariant.clock c.loop.invariant.source (c.in-Ends.ensures.cause (g.S.Source.fault_count c.loop.src)).0
    ((c.in-Ends.ensures.cause 0).1 ∙ c.loop.invariant.sink) c.close-in-Ends.ensures)

pub returns-in-Cut : goal.returns-in-Cut
returns-in-Cut g c =
    for_all_bytes (command_of c.args.job.now) _ _ c.loop.pieces _ _ _ c.loop.counter _ _ _ _ c.loop.invariant.way
    (λ bytes way.
    work_cut (command_of c.args.job.now) bytes _ _ _ _ _ _ _ _ c.loop.counter c.loop.pieces.taken c.in-Cut.count
    c.advance.new.session _ _ _ _ _ _ way c.in-Cut.ensures.advanced
    ((c.in-Cut.ensures.cause 0).2 ∙ c.loop.invariant.link) ((c.in-Cut.ensures.cause 0).3 ∙ c.loop.invariant.clock) c.loop.invariant.source
    c.loop.invariant.sink (c.in-Cut.ensures.cause 0).0 (c.in-Cut.ensures.cause 0).1 refl)

pub returns-in-Err : goal.returns-in-Err
returns-in-Err g c =
    for_part (command_of c.args.job.now) _ _ _ c.loop.pieces _ _ _ c.loop.counter c.room_at.result _ _ _ _ c.loop.invariant.way c.in-Err.ensures.part
    (λ bytes taken way least most.
    work_unfed (command_of c.args.job.now) bytes _ _ _ _ _ _ _ _ _ c.loop.counter c.loop.pieces.taken taken c.advance.new.session
    c.in-On.next _ _ _ _ _ _ _ _ (g.S.Source.fault_count c.loop.src) _ c.unread.result _ way c.in-On.ensures.advanced least
    (subst (λ (room : ℕ). taken ≤ c.loop.pieces.taken + room) c.room_at.ensures most)
    (subst (λ (room : ℕ). CannotTake c.args.job.now.order room c.unread.result) c.room_at.ensures
    (c.unread.ensures.cannot c.args.job.now.order c.room_at.result c.requires.source c.in-Err.ensures.part.some))
    ((c.in-On.ensures.cause 0).0 ∙ c.loop.invariant.link) ((c.in-On.ensures.cause 0).1 ∙ c.loop.invariant.clock) c.loop.invariant.source
    (c.unread.ensures.cause (g.L.Link.fault_count c.advance.new.link) (g.C.Clock.fault_count c.advance.new.clock) (g.S.Source.fault_count c.loop.src)
    (g.S.Source.fault_count c.next.new.src) c.in-Err.ensures.cause)
    ((c.in-On.ensures.cause 0).2 ∙ c.loop.invariant.sink) c.close-in-Err.ensures)

pub returns : goal.returns
returns g c =
    for_all_bytes (command_of c.args.job.now) _ _ c.loop.pieces _ _ _ c.loop.counter _ _ _ _ c.loop.invariant.way
    (λ bytes way.
    work_spent (command_of c.args.job.now) bytes _ _ _ _ _ _ _ c.loop.counter c.loop.pieces.taken _ _ _ _ _ c.status_of.result _
    way c.loop.invariant.link c.loop.invariant.clock c.loop.invariant.source c.loop.invariant.sink c.loop.auto.counter-end c.loop-test.false
    c.status_of.ensures c.close-2.ensures)
