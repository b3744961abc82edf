use Rattle.std.proofs.Common.{◌∙◌, ℕ, List, length, get_or, sym, ap, arith}
use Rattle.trace_judge.specs.Short.{ticks_after}
use Rattle.trace_judge.proofs.Walk.{IsStep, begins, reaches, no_less, follows_then, found, goes_on, at_end, of_trace}
use Rattle.trace_judge.proofs.verdict.judge_replicated.Goals as goal

pub loop-place-init : goal.loop-place-init
loop-place-init c =
    let t = c.trace.inside in
    let n = c.new-judging.ensures in
    begins t.drift c.args.stripe c.args.file t.entries.now c.get.result.now c.as_slice.result.now c.new-judging.result n.follows
    (c.get.ensures ∙ c.trace.invariant.places c.args.file) (c.as_slice.ensures.value ∙ c.trace.invariant.common) n.drift n.file n.stripe n.ticks

pub offset_bounds-entries-place : goal.offset_bounds-entries-place
offset_bounds-entries-place c =
    let t = c.trace.inside in
    let w = c.loop-place.walk in
    let r = reaches t.drift c.args.stripe c.args.file t.entries.now w.mine.now w.common.now c.next.new.self.mine.now c.next.new.self.common.now c.in-Some.place c.loop-place.judging c.loop-place.placed c.loop-place.invariant c.in-Some.ensures in
    omega (arith, r.inside, c.trace.told)

pub bounds-entries-place : goal.bounds-entries-place
bounds-entries-place c =
    let t = c.trace.inside in
    let w = c.loop-place.walk in
    let r = reaches t.drift c.args.stripe c.args.file t.entries.now w.mine.now w.common.now c.next.new.self.mine.now c.next.new.self.common.now c.in-Some.place c.loop-place.judging c.loop-place.placed c.loop-place.invariant c.in-Some.ensures in
    r.inside

pub index-requires : goal.index-requires
index-requires c =
    let t = c.trace.inside in
    let w = c.loop-place.walk in
    let r = reaches t.drift c.args.stripe c.args.file t.entries.now w.mine.now w.common.now c.next.new.self.mine.now c.next.new.self.common.now c.in-Some.place c.loop-place.judging c.loop-place.placed c.loop-place.invariant c.in-Some.ensures in
    omega (arith, r.inside_ticks, ap length c.trace.invariant.ticks, t.ticks.ok.0)

pub advance-requires : goal.advance-requires
advance-requires c =
    let t = c.trace.inside in
    let w = c.loop-place.walk in
    let r = reaches t.drift c.args.stripe c.args.file t.entries.now w.mine.now w.common.now c.next.new.self.mine.now c.next.new.self.common.now c.in-Some.place c.loop-place.judging c.loop-place.placed c.loop-place.invariant c.in-Some.ensures in
    let ticks = c.index.ensures ∙ ap (λ (ts : List ℕ). get_or ts c.in-Some.place c.index.result.now) c.trace.invariant.ticks ∙ r.ticks_are c.index.result.now in
    omega (arith, ticks, no_less t.drift c.args.stripe c.args.file t.entries.now w.mine.now w.common.now c.next.new.self.mine.now c.next.new.self.common.now c.in-Some.place c.loop-place.judging c.loop-place.placed c.loop-place.invariant c.in-Some.ensures)

pub take-requires : goal.take-requires
take-requires c =
    let t = c.trace.inside in
    let w = c.loop-place.walk in
    let r = reaches t.drift c.args.stripe c.args.file t.entries.now w.mine.now w.common.now c.next.new.self.mine.now c.next.new.self.common.now c.in-Some.place c.loop-place.judging c.loop-place.placed c.loop-place.invariant c.in-Some.ensures in
    let ticks = c.index.ensures ∙ ap (λ (ts : List ℕ). get_or ts c.in-Some.place c.index.result.now) c.trace.invariant.ticks ∙ r.ticks_are c.index.result.now in
    record { room = omega (arith, ticks, c.advance.ensures.ticks, r.few, c.trace.invariant.few, c.trace.told) }

pub overflow_add-place : goal.overflow_add-place
overflow_add-place c =
    let t = c.trace.inside in
    let w = c.loop-place.walk in
    let r = reaches t.drift c.args.stripe c.args.file t.entries.now w.mine.now w.common.now c.next.new.self.mine.now c.next.new.self.common.now c.in-Some.place c.loop-place.judging c.loop-place.placed c.loop-place.invariant c.in-Some.ensures in
    omega (arith, r.inside, c.trace.told)

pub returns-in-Some-verdict_at : goal.returns-in-Some-verdict_at
returns-in-Some-verdict_at c =
    let t = c.trace.inside in
    let w = c.loop-place.walk in
    let r = reaches t.drift c.args.stripe c.args.file t.entries.now w.mine.now w.common.now c.next.new.self.mine.now c.next.new.self.common.now c.in-Some.place c.loop-place.judging c.loop-place.placed c.loop-place.invariant c.in-Some.ensures in
    let ticks = c.index.ensures ∙ ap (λ (ts : List ℕ). get_or ts c.in-Some.place c.index.result.now) c.trace.invariant.ticks ∙ r.ticks_are c.index.result.now in
    let e = c.index-entries-place.result in
    let e_is = c.index-entries-place.is ∙ r.is e in
    let s : IsStep c.loop-place.judging c.advance.new.self c.take.new.self e c.index.result.now = record {
      advances = c.advance.ensures.follows;
      drift_stays = c.advance.ensures.drift;
      file_stays = c.advance.ensures.file;
      stripe_stays = c.advance.ensures.stripe;
      takes = c.in_ok-take.ensures.follows;
      drift_then = c.in_ok-take.ensures.drift;
      file_then = c.in_ok-take.ensures.file;
      stripe_then = c.in_ok-take.ensures.stripe;
      ticks_then = c.in_ok-take.ensures.ticks ∙ ap (λ (n : ℕ). ticks_after n e) c.advance.ensures.ticks;
    } in
    let step = follows_then t.drift c.args.stripe c.args.file t.entries.now w.mine.now w.common.now c.next.new.self.mine.now c.next.new.self.common.now c.in-Some.place c.loop-place.judging c.loop-place.placed c.loop-place.invariant c.in-Some.ensures e c.index.result.now c.advance.new.self c.take.new.self c.is_placed-placed.result e_is ticks c.is_placed-placed.ensures s in
    of_trace t.drift c.args.stripe c.args.file t.entries.now c.args.trace.now c.in-Some-verdict_at.verdict c.trace.invariant.drift c.trace.view_is
    (found t.drift c.args.stripe c.args.file t.entries.now w.mine.now w.common.now c.next.new.self.mine.now c.next.new.self.common.now c.in-Some.place c.loop-place.judging c.loop-place.placed c.loop-place.invariant c.in-Some.ensures e c.index.result.now c.advance.new.self c.take.new.self c.is_placed-placed.result e_is ticks c.is_placed-placed.ensures s
    c.in-Some-verdict_at.verdict (sym c.in-Some-verdict_at.is ∙ c.verdict_at.ensures _ step))

pub loop-place-preserved : goal.loop-place-preserved
loop-place-preserved c =
    let t = c.trace.inside in
    let w = c.loop-place.walk in
    let r = reaches t.drift c.args.stripe c.args.file t.entries.now w.mine.now w.common.now c.next.new.self.mine.now c.next.new.self.common.now c.in-Some.place c.loop-place.judging c.loop-place.placed c.loop-place.invariant c.in-Some.ensures in
    let ticks = c.index.ensures ∙ ap (λ (ts : List ℕ). get_or ts c.in-Some.place c.index.result.now) c.trace.invariant.ticks ∙ r.ticks_are c.index.result.now in
    let e = c.index-entries-place.result in
    let e_is = c.index-entries-place.is ∙ r.is e in
    let s : IsStep c.loop-place.judging c.advance.new.self c.take.new.self e c.index.result.now = record {
      advances = c.advance.ensures.follows;
      drift_stays = c.advance.ensures.drift;
      file_stays = c.advance.ensures.file;
      stripe_stays = c.advance.ensures.stripe;
      takes = c.in_ok-take.ensures.follows;
      drift_then = c.in_ok-take.ensures.drift;
      file_then = c.in_ok-take.ensures.file;
      stripe_then = c.in_ok-take.ensures.stripe;
      ticks_then = c.in_ok-take.ensures.ticks ∙ ap (λ (n : ℕ). ticks_after n e) c.advance.ensures.ticks;
    } in
    let step = follows_then t.drift c.args.stripe c.args.file t.entries.now w.mine.now w.common.now c.next.new.self.mine.now c.next.new.self.common.now c.in-Some.place c.loop-place.judging c.loop-place.placed c.loop-place.invariant c.in-Some.ensures e c.index.result.now c.advance.new.self c.take.new.self c.is_placed-placed.result e_is ticks c.is_placed-placed.ensures s in
    goes_on t.drift c.args.stripe c.args.file t.entries.now w.mine.now w.common.now c.next.new.self.mine.now c.next.new.self.common.now c.in-Some.place c.loop-place.judging c.loop-place.placed c.loop-place.invariant c.in-Some.ensures e c.index.result.now c.advance.new.self c.take.new.self c.is_placed-placed.result e_is ticks c.is_placed-placed.ensures s
    (sym c.in_default-verdict_at.is ∙ c.verdict_at.ensures _ step)

pub returns : goal.returns
returns c =
    let t = c.trace.inside in
    let w = c.loop-place.walk in
    of_trace t.drift c.args.stripe c.args.file t.entries.now c.args.trace.now _ c.trace.invariant.drift c.trace.view_is
    (at_end t.drift c.args.stripe c.args.file t.entries.now w.mine.now w.common.now c.next.new.self.mine.now c.next.new.self.common.now c.loop-place.judging c.loop-place.placed c.loop-place.invariant c.in_default.ensures)
