-- how a write stands, as the code reports it
use Rattle.xt_protocol.specs.Writes as rows
use Rattle.osd_decisions.specs.declared.judging.WriteStanding.{WriteStanding}
use Rattle.osd_decisions.specs.declared.judging.WriteStanding.TheVariants as standing

abbrev pub shown_standing : rows.WriteStanding → WriteStanding
shown_standing (rows.repeated count) = standing.Repeated count
shown_standing rows.older = standing.Older
shown_standing (rows.turned_away answer) = standing.TurnedAway answer
shown_standing rows.fresh = standing.Fresh
