use Rattle.std.proofs.Common.{ap, sym, ◌∙◌, List}
use Rattle.xt_protocol.specs.LeaseRows.{Silent}
use Rattle.xt_protocol.specs.FileStates.{FileState}
use Rattle.osd_core.specs.Slots.{Slots, awake_of, states_of, slots_from}
use Rattle.osd_core.specs.Views.{OsdView}
use Rattle.osd_core.proofs.Starting.{states_from, met_start}
use Rattle.osd_core.proofs.osd.Osd.start.Goals as goal

pub invariant_of-result : goal.invariant_of-result
invariant_of-result c =
    record {
      fits = c.requires.key;
      own = ap (λ (s : Silent). s.node) (sym c.new.ensures);
      clock = c.requires.clock;
      files = met_start (awake_of c.new.result) c.args.folded.files c.in_ok-met_from.field-0 c.requires.rows c.in_ok-met_from.ensures;
    }

pub returns : goal.returns
returns c =
    let made : Silent → List FileState → OsdView = λ s files. record { key = c.args.key; state = record { started = s; last = c.args.now; files = files } } in
    let rows = c.args.folded.files in
    let started : Silent = record { node = c.args.node; boot = c.args.boot; times = c.args.times; start = c.args.now } in
    ap (λ (slots : Slots). made c.new.result (states_of (awake_of c.new.result) slots)) c.in_ok-met_from.ensures
    ∙ ap (λ (s : Silent). made s (states_of (awake_of s) (slots_from rows))) c.new.ensures
    ∙ ap (made started) (states_from (awake_of started) rows)
