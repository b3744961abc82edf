use Rattle.std.proofs.Common.{◌∙◌, sym}
use Rattle.osd_files.specs.Views.{shown}
use Rattle.osd_files.proofs.Wakes.{renewed, unrenewed}
use Rattle.osd_files.proofs.waking.start_renewal.Goals as goal

pub returns-in-Some : goal.returns-in-Some
returns-in-Some c =
    renewed c.args.now (shown c.args.file.now) c.in-Some.location c.renew.new.self (sym c.in-Some.is ∙ c.location.ensures) c.renew.ensures.state

pub returns-in_default : goal.returns-in_default
returns-in_default c = unrenewed c.args.now (shown c.args.file.now) (sym c.in_default.is ∙ c.location.ensures) c.requires.stored
