use Rattle.std.proofs.Common.{◌∙◌, ap, refl, List, ℕ}
use Rattle.client_plans.specs.Plans.{begins, piece_at}
use Rattle.client_jobs.specs.Content.{pattern_from}
use Rattle.client_jobs.specs.Lines.{bytes_put}
use Rattle.client_jobs.specs.Running.{command_of, put_in}
use Rattle.client_jobs.proofs.Working.{way_begins, way_goes, work_over, work_ends, work_cut, work_spent, work_unmade}
use Rattle.client_jobs.proofs.running.work.Goals as goal

pub loop-init : goal.loop-init
loop-init g c =
    record {
      asks = c.requires.asks;
      turns = refl;
      link = refl;
      clock = refl;
      sink = refl;
      bytes = ap (pattern_from 0) c.new-pieces.ensures.0 ∙ c.pattern_size.ensures;
      way =
          way_begins (command_of c.args.job.now) (bytes_put (put_in c.args.job.now.order)) _ c.args.session.now
          (begins c.args.job.now.order) c.begins-stage.result (g.K.Sink.held c.args.out.now) c.new-pieces.result.taken c.begins-stage.ensures c.new-pieces.ensures.1;
    }

pub loop-preserved : goal.loop-preserved
loop-preserved g c =
    record {
      asks = c.in-On.ensures.asks tt;
      turns = c.in-On.ensures.turns ∙ c.loop.invariant.turns;
      link = (c.in-On.ensures.cause 0).0 ∙ c.loop.invariant.link;
      clock = (c.in-On.ensures.cause 0).1 ∙ c.loop.invariant.clock;
      sink = (c.in-On.ensures.cause 0).2 ∙ c.loop.invariant.sink;
      bytes = ap (pattern_from 0) c.in-Ok.ensures.size ∙ c.loop.invariant.bytes;
      way =
          way_goes (command_of c.args.job.now) (bytes_put (put_in c.args.job.now.order)) _ _ _ _ _ _ _ _ c.loop.counter c.loop.pieces.taken _
          c.advance.new.session c.in-On.next c.in-Ok.next (piece_at (pattern_from 0 c.loop.pieces.size) c.loop.pieces.taken c.in-On.next)
          c.loop.invariant.way c.in-On.ensures.advanced
          (ap (λ (bytes : List ℕ). piece_at bytes c.loop.pieces.taken c.in-On.next) c.loop.invariant.bytes) c.in-Ok.ensures.stage c.in-Ok.ensures.taken;
    }

pub returns-in-Err-clause-worked : goal.returns-in-Err-clause-worked
returns-in-Err-clause-worked g c source = (
  c.loop.pieces.taken,
  work_unmade (command_of c.args.job.now) (bytes_put (put_in c.args.job.now.order)) _ _ _ _ _ _ _ _ _ c.loop.counter c.loop.pieces.taken
      c.advance.new.session c.in-On.next _ _ _ _ _ _ c.loop.invariant.way c.in-On.ensures.advanced
      ((c.in-On.ensures.cause 0).0 ∙ c.loop.invariant.link) ((c.in-On.ensures.cause 0).1 ∙ c.loop.invariant.clock) refl
      ((c.in-On.ensures.cause 0).2 ∙ c.loop.invariant.sink) c.close.ensures,
)

pub returns-in-Over-clause-worked : goal.returns-in-Over-clause-worked
returns-in-Over-clause-worked g c source = (
  c.loop.pieces.taken,
  work_over (command_of c.args.job.now) (bytes_put (put_in c.args.job.now.order)) _ _ _ _ _ _ _ _ _ c.loop.counter c.loop.pieces.taken c.advance.new.session
      _ _ _ _ _ c.into_status.result _ c.loop.invariant.way c.in-Over.ensures.advanced
      ((c.in-Over.ensures.cause 0).0 ∙ c.loop.invariant.link) ((c.in-Over.ensures.cause 0).1 ∙ c.loop.invariant.clock) refl
      ((c.in-Over.ensures.cause 0).2 ∙ c.loop.invariant.sink) c.into_status.ensures c.close-in-Over.ensures,
)

pub returns-in-Ends-clause-worked : goal.returns-in-Ends-clause-worked
returns-in-Ends-clause-worked g c source = (
  c.loop.pieces.taken,
  work_ends (command_of c.args.job.now) (bytes_put (put_in c.args.job.now.order)) _ _ _ _ _ _ _ _ _ c.loop.counter c.loop.pieces.taken c.advance.new.session
      _ _ _ _ _ source _ _ source _ c.in-Ends.status _ c.loop.invariant.way c.in-Ends.ensures.advanced
      c.loop.invariant.link c.loop.invariant.clock refl (c.in-Ends.ensures.cause source).0 ((c.in-Ends.ensures.cause source).1 ∙ c.loop.invariant.sink)
      c.close-in-Ends.ensures,
)

pub returns-in-Cut-clause-worked : goal.returns-in-Cut-clause-worked
returns-in-Cut-clause-worked g c source = (
  c.loop.pieces.taken,
  work_cut (command_of c.args.job.now) (bytes_put (put_in c.args.job.now.order)) _ _ _ _ _ _ _ _ c.loop.counter c.loop.pieces.taken c.in-Cut.count
      c.advance.new.session _ _ _ _ _ _ c.loop.invariant.way c.in-Cut.ensures.advanced
      ((c.in-Cut.ensures.cause 0).2 ∙ c.loop.invariant.link) ((c.in-Cut.ensures.cause 0).3 ∙ c.loop.invariant.clock) refl c.loop.invariant.sink
      (c.in-Cut.ensures.cause 0).0 (c.in-Cut.ensures.cause 0).1 refl,
)

pub returns-clause-worked : goal.returns-clause-worked
returns-clause-worked g c source = (
  c.loop.pieces.taken,
  work_spent (command_of c.args.job.now) (bytes_put (put_in c.args.job.now.order)) _ _ _ _ _ _ _ c.loop.counter c.loop.pieces.taken _ _ _ _ _ c.status_of.result _
      c.loop.invariant.way c.loop.invariant.link c.loop.invariant.clock refl c.loop.invariant.sink c.loop.auto.counter-end c.loop-test.false c.status_of.ensures
      c.close-2.ensures,
)
