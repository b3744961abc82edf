use Rattle.std.proofs.Common.{◌≡◌, ◌∙◌, ◌∷◌, [], length, length-append, ap, sym, subst, refl, arith}
use Rattle.time_line.specs.declared.TheConstants.{LINES}
use Rattle.world_spec.specs.World.{World}
use Rattle.schedule_replay.proofs.Whole.{begun, goes_on, ends_so, lines_after}
use Rattle.schedule_replay.proofs.Causes.{moved_cause}
use Rattle.schedule_replay.proofs.Complete.{complete}
use Rattle.schedule_replay.proofs.replaying.replay.Goals as goal

pub loop-line-init : goal.loop-line-init
loop-line-init g c =
    record {
      so_far = begun g.H.Hull.room _ _ c.args.world.now c.requires;
      count = subst (λ (w : World). length w.lines ≡ 0) (sym c.requires) refl;
      going = ap (λ (w : World). w.ended) c.requires;
      source = refl;
      sink = refl;
    }

pub returns-in-Some-clause-replay : goal.returns-in-Some-clause-replay
returns-in-Some-clause-replay g c = ends_so g.H.Hull.room _ _ _ _ _ _ c.loop-line.world c.in-Some.status c.loop-line.invariant.so_far (omega (arith, c.loop-line.invariant.count)) c.in-Some.ensures.step

pub loop-line-preserved : goal.loop-line-preserved
loop-line-preserved g c =
    let next = c.in-None.ensures.step in
    record {
      so_far = goes_on g.H.Hull.room _ _ _ _ _ _ c.loop-line.world c.replay_line.new.world c.loop-line.invariant.so_far next;
      count = ap length (lines_after g.H.Hull.room c.loop-line.world c.replay_line.new.world next.line next.done) ∙ omega (arith, length-append c.loop-line.world.lines (next.line ∷ []), c.loop-line.invariant.count);
      going = next.done.going;
      source = c.in-None.ensures.cause.0 ∙ c.loop-line.invariant.source;
      sink = c.in-None.ensures.cause.1 ∙ c.loop-line.invariant.sink;
    }

pub returns-clause-replay : goal.returns-clause-replay
returns-clause-replay g c =
    let full : length c.loop-line.world.lines ≡ LINES = omega (arith, c.loop-line.invariant.count) in
    ends_so g.H.Hull.room _ _ _ _ _ _ c.loop-line.world c.past_last.result c.loop-line.invariant.so_far (omega (arith, full)) (c.past_last.ensures.end g.H.Hull.room c.loop-line.world full)

pub returns-clause-cause : goal.returns-clause-cause
returns-clause-cause g c =
    moved_cause _ _ _ _ _ _ c.past_last.result c.loop-line.invariant.source c.loop-line.invariant.sink c.past_last.ensures.cause

pub replay_line-requires-clause-run : goal.replay_line-requires-clause-run
replay_line-requires-clause-run g c = record { same = c.loop-line.invariant.so_far.same; formed = c.loop-line.invariant.so_far.run.formed }

pub returns-in-Some-clause-complete : goal.returns-in-Some-clause-complete
returns-in-Some-clause-complete g c = λ no_source no_sink.
    complete g.H.Hull.room _ _ _ _ _ _ _ _ c.in-Some.status
    (ends_so g.H.Hull.room _ _ _ _ _ _ c.loop-line.world c.in-Some.status c.loop-line.invariant.so_far (omega (arith, c.loop-line.invariant.count)) c.in-Some.ensures.step)
    (moved_cause _ _ _ _ _ _ c.in-Some.status c.loop-line.invariant.source c.loop-line.invariant.sink c.in-Some.ensures.cause)
    no_source no_sink

pub returns-clause-complete : goal.returns-clause-complete
returns-clause-complete g c = λ no_source no_sink.
    let full : length c.loop-line.world.lines ≡ LINES = omega (arith, c.loop-line.invariant.count) in
    complete g.H.Hull.room _ _ _ _ _ _ _ _ c.past_last.result
    (ends_so g.H.Hull.room _ _ _ _ _ _ c.loop-line.world c.past_last.result c.loop-line.invariant.so_far (omega (arith, full)) (c.past_last.ensures.end g.H.Hull.room c.loop-line.world full))
    (moved_cause _ _ _ _ _ _ c.past_last.result c.loop-line.invariant.source c.loop-line.invariant.sink c.past_last.ensures.cause)
    no_source no_sink
