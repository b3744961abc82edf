use Rattle.std.proofs.Common.{◌∙◌, sym, ap}
use Rattle.std.specs.Option.{option_or}
use Rattle.std.specs.BTreeMap.{get}
use Rattle.time_line.specs.declared.entry.Entry.{Entry}
use Rattle.time_line.specs.TimeLine.{call_begun}
use Rattle.trace_judge.specs.Rows.{pair_cmp, call_in}
use Rattle.trace_judge.proofs.Put.{call_put, is_none}
use Rattle.trace_judge.proofs.calls.Calls.take.Goals as goal

pub returns-in_ok-insert : goal.returns-in_ok-insert
returns-in_ok-insert c = λ id.
    call_put c.args.self.now.rows c.insert.new.self c.in-Begin.client c.in-Begin.number _
    (is_none (get pair_cmp c.args.self.now.rows (c.in-Begin.client.0, c.in-Begin.number)) (sym c.contains_key.ensures ∙ c.if-not-contains_key.true))
    c.in_ok-insert.ensures.updates id
    ∙ ap (λ (e : Entry). option_or (call_in c.args.self.now.rows id) (call_begun id e)) (sym c.in-Begin.is)
