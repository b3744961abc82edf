use Rattle.std.proofs.Common.{◌∙◌, ap, sym, Option}
use Rattle.xt_base.specs.TimeSettings.{TimeSettings}
use Rattle.time_line.specs.TimeLine.{or_defaults}
use Rattle.trace_drawing.proofs.Times.{passed, told, none}
use Rattle.trace_drawing.proofs.drawing.drift_of.Goals as goal

pub loop-rest-preserved : goal.loop-rest-preserved
loop-rest-preserved c =
    passed c.loop-rest.rest.now c.entry-item.result c.in-len1-up.len_at_least c.entry-item.is c.in_default-entry.not-Times
    ∙ c.loop-rest.invariant

pub returns-in-Times : goal.returns-in-Times
returns-in-Times c =
    sym (told c.loop-rest.rest.now c.entry-item.result c.in-Times.lease c.in-Times.drift c.in-len1-up.len_at_least c.entry-item.is c.in-Times.is)
    ∙ ap (λ (times : Option TimeSettings). (or_defaults times).drift) c.loop-rest.invariant

pub returns : goal.returns
returns c =
    ap (λ (times : Option TimeSettings). (or_defaults times).drift)
    (sym (none c.loop-rest.rest.now c.in_default.len_below) ∙ c.loop-rest.invariant)
