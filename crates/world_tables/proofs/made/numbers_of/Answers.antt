use Rattle.world_tables.proofs.Numbers.{none_numbered, next_numbered}
use Rattle.world_tables.proofs.made.numbers_of.Goals as goal

pub loop-file-init : goal.loop-file-init
loop-file-init c = none_numbered c.new-numbers.result c.new-numbers.ensures.empty

pub loop-file-preserved : goal.loop-file-preserved
loop-file-preserved c =
    next_numbered c.args.files.now c.loop-file.file-index c.file-item.result c.loop-file.numbers c.insert.new.self c.loop-file-test.true c.file-item.is c.loop-file.invariant c.in_ok-insert.ensures.updates
