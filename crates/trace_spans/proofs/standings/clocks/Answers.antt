use Rattle.std.proofs.Common.{◌∙◌, ◌+◌, Option, sym, ap, subst}
use Rattle.std.specs.Prelude.{option_map}
use Rattle.trace_spans.specs.declared.standings.Running.{Running}
use Rattle.trace_spans.specs.Listed.{IsListOf}
use Rattle.trace_spans.specs.Holding.{standing_at, clock_at}
use Rattle.trace_spans.proofs.Lists.{listed_none, listed_more}
use Rattle.trace_spans.proofs.Walks.{standing_first, kept_more, clock_kept}
use Rattle.trace_spans.proofs.standings.clocks.Goals as goal

pub loop-entry-init : goal.loop-entry-init
loop-entry-init c = (
  sym (standing_first c.args.node 0),
  subst (IsListOf 0 (clock_at c.args.node c.args.entries.now)) (sym c.in_ok-clocks.ensures.items) (listed_none (clock_at c.args.node c.args.entries.now)),
)

pub loop-entry-preserved : goal.loop-entry-preserved
loop-entry-preserved c =
    let now = kept_more c.args.node 0 c.args.entries.now c.loop-entry.entry-index c.entry-item.result c.running_after-now.result
    c.loop-entry-test.true c.entry-item.is (c.running_after-now.ensures _ c.loop-entry.invariant.0) in
    let told = c.clock.ensures ∙ ap (λ (r : Option Running). option_map (λ (x : Running). x.clock) r) now ∙ clock_kept (standing_at c.args.node 0 c.args.entries.now c.loop-entry.entry-index) in (
      now,
      subst (IsListOf (c.loop-entry.entry-index + 1) (clock_at c.args.node c.args.entries.now)) (sym c.in_ok-push.ensures.items)
          (listed_more c.loop-entry.entry-index (clock_at c.args.node c.args.entries.now) c.loop-entry.clocks.items c.clock.result c.loop-entry.invariant.1 told),
    )
