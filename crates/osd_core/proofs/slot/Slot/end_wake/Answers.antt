use Rattle.osd_core.proofs.Steps.{row_ends}
use Rattle.osd_core.proofs.slot.Slot.end_wake.Goals as goal

pub returns-in-Row : goal.returns-in-Row
returns-in-Row c = row_ends c.args.now c.args.self.now c.in-Row.field-0 c.in-Row.is
