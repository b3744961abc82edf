use Rattle.osd_files.specs.Views.{shown}
use Rattle.osd_files.proofs.Stepped.{whole_ended, woken_row}
use Rattle.osd_files.proofs.waking.end_wake.Goals as goal

pub start_renewal-requires-clause-stored : goal.start_renewal-requires-clause-stored
start_renewal-requires-clause-stored c =
    (whole_ended c.args.now (shown c.args.file.now) (shown c.end_overdue.new.file) c.end_overdue.ensures.row c.requires.whole).sound.list

pub returns : goal.returns
returns c =
    woken_row c.args.now (shown c.args.file.now) (shown c.end_overdue.new.file) (shown c.start_renewal.new.file) c.end_overdue.ensures.row c.start_renewal.ensures
