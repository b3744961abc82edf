use Rattle.std.proofs.Common.{◌+◌, sym, subst}
use Rattle.trace_spans.specs.Listed.{IsListOf}
use Rattle.trace_spans.specs.Holding.{standing_at, holds_at}
use Rattle.trace_spans.proofs.Lists.{listed_none, listed_more}
use Rattle.trace_spans.proofs.Walks.{standing_first, kept_more}
use Rattle.trace_spans.proofs.standings.holding.Goals as goal

pub loop-entry-init : goal.loop-entry-init
loop-entry-init c = (
  sym (standing_first c.args.node c.args.file),
  subst (IsListOf 0 (holds_at c.args.drift c.args.node c.args.file c.args.entries.now)) (sym c.in_ok-flags.ensures.items) (listed_none (holds_at c.args.drift c.args.node c.args.file c.args.entries.now)),
)

pub loop-entry-preserved : goal.loop-entry-preserved
loop-entry-preserved c =
    let now = kept_more c.args.node c.args.file c.args.entries.now c.loop-entry.entry-index c.entry-item.result c.running_after-now.result
    c.loop-entry-test.true c.entry-item.is (c.running_after-now.ensures _ c.loop-entry.invariant.0) in
    let told = c.holds.ensures (standing_at c.args.node c.args.file c.args.entries.now c.loop-entry.entry-index) now in (
      now,
      subst (IsListOf (c.loop-entry.entry-index + 1) (holds_at c.args.drift c.args.node c.args.file c.args.entries.now)) (sym c.in_ok-push.ensures.items)
          (listed_more c.loop-entry.entry-index (holds_at c.args.drift c.args.node c.args.file c.args.entries.now) c.loop-entry.flags.items c.holds.result c.loop-entry.invariant.1 told),
    )
