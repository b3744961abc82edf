use Rattle.xt_journal.proofs.Found.{found_keeps, found_stands, gives}
use Rattle.xt_journal.proofs.load.read_long.Goals as goal

pub returns-in_default-2-clause-gives : goal.returns-in_default-2-clause-gives
returns-in_default-2-clause-gives g c told = gives (g.D.Disk.kept c.args.disk.now).read c.find.result (c.find.ensures.found told)

pub returns-in_default-2-clause-keeps : goal.returns-in_default-2-clause-keeps
returns-in_default-2-clause-keeps g c told = found_keeps (g.D.Disk.kept c.args.disk.now) c.find.result (c.requires.rests told) (c.find.ensures.found told)

pub returns-in_default-2-clause-stands : goal.returns-in_default-2-clause-stands
returns-in_default-2-clause-stands g c told = found_stands (g.D.Disk.kept c.args.disk.now).read c.find.result (c.find.ensures.found told)
