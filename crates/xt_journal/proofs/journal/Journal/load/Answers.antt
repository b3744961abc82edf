use Rattle.std.proofs.Common.{refl, Ok, Err}
use Rattle.xt_journal.specs.declared.format.Trouble.TheVariants.{NotOurs, Layout, Damaged}
use Rattle.xt_journal.specs.Reading.{payloads_on}
use Rattle.xt_journal.proofs.Steps.{keeps_any}
use Rattle.xt_journal.proofs.Unique.{the_reading}
use Rattle.xt_journal.proofs.journal.Journal.load.Goals as goal

pub returns-in-Ok-clause-reads : goal.returns-in-Ok-clause-reads
returns-in-Ok-clause-reads g c told =
    let read = (g.D.Disk.kept c.args.disk).read in
    the_reading read read (Ok c.in-Ok.field-0) refl (c.in-Ok.ensures.gives told)

pub returns-in-Ok-clause-keeps : goal.returns-in-Ok-clause-keeps
returns-in-Ok-clause-keeps g c told =
    keeps_any c.in-Ok.field-0.superblock (g.D.Disk.kept c.load_from.new.disk) (payloads_on (g.D.Disk.kept c.args.disk).read c.in-Ok.field-0.extents.items) (c.in-Ok.ensures.keeps told).0

pub returns-in-Err-NotOurs-clause-reads : goal.returns-in-Err-NotOurs-clause-reads
returns-in-Err-NotOurs-clause-reads g c told =
    let read = (g.D.Disk.kept c.args.disk).read in
    the_reading read read (Err (NotOurs c.in-Err-NotOurs.first)) refl ((rw c.in-Err-NotOurs.field-0-is at c.in-Err-NotOurs.ensures.gives) told)

pub returns-in-Err-Layout-clause-reads : goal.returns-in-Err-Layout-clause-reads
returns-in-Err-Layout-clause-reads g c told =
    let read = (g.D.Disk.kept c.args.disk).read in
    the_reading read read (Err (Layout c.in-Err-Layout.version)) refl ((rw c.in-Err-Layout.field-0-is at c.in-Err-Layout.ensures.gives) told)

pub returns-in-Err-Damaged-clause-reads : goal.returns-in-Err-Damaged-clause-reads
returns-in-Err-Damaged-clause-reads g c told =
    let read = (g.D.Disk.kept c.args.disk).read in
    the_reading read read (Err (Damaged c.in-Err-Damaged.place)) refl ((rw c.in-Err-Damaged.field-0-is at c.in-Err-Damaged.ensures.gives) told)
