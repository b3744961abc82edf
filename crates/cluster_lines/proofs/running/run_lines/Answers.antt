use Rattle.std.proofs.Common.{◌≡◌, ◌<◌, arith, rules}
use Rattle.time_line.specs.declared.TheConstants.{LINES}
use Rattle.cluster_lines.specs.Lines.{begun, more}
use Rattle.cluster_lines.proofs.Going.{full}
use Rattle.cluster_lines.proofs.running.run_lines.Goals as goal

pub loop-line-init : goal.loop-line-init
loop-line-init g c = begun

pub loop-line-preserved : goal.loop-line-preserved
loop-line-preserved g c =
    let few : c.loop-line._line < LINES = search rules in
    more c.loop-line._line _ _ c.loop-line.invariant few (c.in-None.ensures c.loop-line._line few)

pub returns-in-Some : goal.returns-in-Some
returns-in-Some g c =
    let few : c.loop-line._line < LINES = search rules in
    record { count = c.loop-line._line; s = _; lines = c.loop-line.invariant; ends = c.in-Some.ensures c.loop-line._line few }

pub returns : goal.returns
returns g c =
    let all : c.loop-line._line ≡ LINES = omega arith in
    full c.args.cluster.now _ _ _ c.loop-line._line c.past_last.result all c.loop-line.invariant (c.past_last.ensures _ _ _ _ _)
