use Rattle.std.proofs.Common.{arith}
use Rattle.capabilities.proofs.Differences.{compares_more, compares_all}
use Rattle.capabilities.proofs.same_tag.Goals as goal

pub loop-i-preserved : goal.loop-i-preserved
loop-i-preserved c = compares_more c.args.one.now c.args.other.now c.loop-i.i c.loop-i.differing c.loop-i.invariant

pub returns : goal.returns
returns c = compares_all c.args.one.now c.args.other.now c.loop-i.i c.loop-i.differing (omega arith) (omega arith) c.loop-i.invariant
