use Rattle.std.proofs.Common.{◌-◌, ◌+◌, ◌++◌, ◌≡◌, ◌∙◌, ℕ, List, [], ◌∷◌, length, take, drop, ap, arith}
use Rattle.std.specs.List.{sum_by}
use Rattle.std.proofs.lemmas.List.Sums.{sum_by-cons}
use Rattle.time_line.specs.declared.entry.Entry.{Entry}
use Rattle.judging.specs.Dealt.{ticks_of}
use Rattle.trace_judge.specs.Deals.{ticks_from}
use Rattle.trace_judge.proofs.Gathered.{first_and_others, none}
use Rattle.trace_judge.proofs.Along.{ticks_more, ticks_end}
use Rattle.trace_judge.proofs.places.ticks_before.Goals as goal

pub loop-rest-preserved : goal.loop-rest-preserved
loop-rest-preserved c =
    let l = c.loop-rest in
    let rest = l.rest.now in
    let e = c.e-item.result in
    let behind : List Entry = take (length rest - 1) (drop 1 rest) in
    let split : rest ≡ e ∷ behind = first_and_others rest e c.in-len1-up.len_at_least c.e-item.is in
    let more : c.from-sum.result ≡ ticks_of e = c.from-sum.ensures ∙ c.ticks_of.ensures in
    let sums : sum_by ticks_of rest ≡ ticks_of e + sum_by ticks_of behind = ap (sum_by ticks_of) split ∙ sum_by-cons ticks_of e behind in
    let lengths : length rest ≡ length (e ∷ behind) = ap length split in
    record {
      noted =
          ap (λ (t : ℕ). c.push.new.self.items ++ ticks_from (l.sum + t) behind) more
          ∙ ticks_more l.ticks.items c.push.new.self.items (ticks_from 0 c.args.entries.now) l.sum rest behind e split c.in_ok-push.ensures.items l.invariant.noted;
      summed = omega (arith, more, sums, l.invariant.summed);
      few = omega (arith, lengths, l.invariant.few, c.ticks_of.type_inv, c.from-sum.ensures);
    }

pub returns-clause-ticks : goal.returns-clause-ticks
returns-clause-ticks c =
    let l = c.loop-rest in
    ticks_end l.ticks.items (ticks_from 0 c.args.entries.now) l.sum l.rest.now (none l.rest.now c.in_default.len_below) l.invariant.noted

pub returns-clause-few : goal.returns-clause-few
returns-clause-few c =
    let l = c.loop-rest in
    let sums : sum_by ticks_of l.rest.now ≡ sum_by ticks_of [] = ap (sum_by ticks_of) (none l.rest.now c.in_default.len_below) in
    omega (arith, sums, l.invariant.summed, l.invariant.few)
