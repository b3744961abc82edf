use Rattle.osd_core.proofs.Steps.{row_gives}
use Rattle.osd_core.proofs.slot.Slot.wake.Goals as goal

pub returns-in-Row : goal.returns-in-Row
returns-in-Row c = row_gives c.args.now c.args.self.now c.in-Row.field-0 c.no_news.result c.in-Row.is c.no_news.ensures.overdue c.no_news.ensures.again
