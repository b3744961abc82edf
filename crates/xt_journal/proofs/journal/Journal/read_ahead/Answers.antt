use Rattle.std.proofs.Common.{arith}
use Rattle.xt_journal.proofs.Steps.{end_inside}
use Rattle.xt_journal.proofs.journal.Journal.read_ahead.Goals as goal

pub new-requires : goal.new-requires
new-requires g c = λ told.
    let journal = c.args.self.now in
    omega (arith, end_inside journal.superblock (g.D.Disk.kept journal.disk) journal.end (journal.ends told))
