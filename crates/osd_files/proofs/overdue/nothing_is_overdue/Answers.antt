use Rattle.std.proofs.Common.{◌∙◌, rules, sym}
use Rattle.osd_files.specs.Views.{shown}
use Rattle.osd_files.proofs.Over.{still_idle, still_waiting}
use Rattle.osd_files.proofs.overdue.nothing_is_overdue.Goals as goal

pub returns-then-is_idle-clause-row : goal.returns-then-is_idle-clause-row
returns-then-is_idle-clause-row c =
    λ so. still_idle c.args.now (shown c.args.file.now) (search rules) (sym c.is_idle.ensures ∙ so)

pub returns-else-is_idle-clause-row : goal.returns-else-is_idle-clause-row
returns-else-is_idle-clause-row c =
    λ so. still_waiting c.args.now (shown c.args.file.now) (search rules) (search rules)
