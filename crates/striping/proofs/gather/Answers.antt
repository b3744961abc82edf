use Rattle.std.proofs.Common.{arith}
use Rattle.std.proofs.lemmas.Grind.{common_steps}
use Rattle.std.proofs.lemmas.List.Folds.{concat-append}
use Rattle.striping.proofs.gather.Goals as goal

pub loop-part-preserved : goal.loop-part-preserved
loop-part-preserved c = grind (arith, common_steps, concat-append)
