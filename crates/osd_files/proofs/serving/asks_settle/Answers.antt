use Rattle.std.proofs.Common.{◌∙◌, ap, sym, refl}
use Rattle.std.specs.Prelude.{◌||◌, not, is_some}
use Rattle.xt_protocol.specs.declared.states.Asks.{Asks}
use Rattle.xt_protocol.specs.Asks.{Served}
use Rattle.xt_protocol.specs.Primaries.{is_active}
use Rattle.xt_protocol.specs.Turns.{quiet}
use Rattle.osd_files.specs.Serves.{ground_at}
use Rattle.osd_files.specs.Views.{shown}
use Rattle.osd_files.proofs.Lightly.{none_waits, settled_ready}
use Rattle.osd_files.proofs.serving.asks_settle.Goals as goal

pub returns-then-becomes_ready : goal.returns-then-becomes_ready
returns-then-becomes_ready c =
    λ records.
    let f = c.args.file.now in
    let p = f.lead.primary in
    let none = none_waits f.asks.waiting (not (is_some f.asks.issued) || is_active p.tenure) c.requires in
    let by : Asks → Served = λ asks. record { primary = p; asks = asks; turned = quiet } in
    record {
      rest = refl;
      step = λ own held. ap by c.forget_issued.ensures ∙ settled_ready (ground_at (shown f) records own held) c.args.was_ready p f.asks none (sym c.becomes_ready.ensures ∙ c.if-becomes_ready.true);
    }
