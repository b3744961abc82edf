use Rattle.std.proofs.Common.{◌≡◌, ◌∙◌, ap, sym, refl, List, true, false}
use Rattle.std.specs.Prelude.{is_some}
use Rattle.xt_messages.specs.declared.file.FileHead.{FileHead}
use Rattle.xt_messages.specs.declared.file.ObjectVersion.{ObjectVersion}
use Rattle.xt_messages.specs.declared.record.Record.{Record}
use Rattle.xt_protocol.specs.declared.turned.Turned.{Turned}
use Rattle.xt_protocol.specs.Asks.{Served, is_read, read_answer}
use Rattle.xt_protocol.specs.Serving.{reads}
use Rattle.xt_protocol.specs.Turns.{joined}
use Rattle.osd_files.specs.Serves.{ServesOne, ground_at, served_in}
use Rattle.osd_files.specs.Views.{shown}
use Rattle.osd_files.proofs.Rows.{if_ok}
use Rattle.osd_files.proofs.Waiting.{read_waits, stays_waiting}
use Rattle.osd_files.proofs.serving.serve_one.Goals as goal

pub returns-then-is_read-clause-served : goal.returns-then-is_read-clause-served
returns-then-is_read-clause-served g c =
    let old = shown c.args.file.now in
    let ask = c.args.ask in
    let agrees = g.B.Bodies.agrees c.serve_read.new.bodies in
    let reads_it : is_read ask.op ≡ true = sym c.is_read.ensures ∙ c.if-is_read.true in
    let P : Turned → Type 0 = λ turned. (records : List Record) → agrees records → (own : FileHead) (held : List ObjectVersion) → turned ≡ read_answer (ground_at old records own held) ask.id (reads (ground_at old records own held) old.state.primary ask.op) in
    let Q : Turned → Type 0 = λ turned. (records : List Record) → agrees records → ServesOne ask records old old turned in
    let all : (turned : Turned) → P turned → Q turned = λ turned is records agree.
    record { rest = refl; step = λ before own held. read_waits (ground_at old records own held) (served_in old before) ask turned reads_it (is records agree own held) }
    in
    if_ok P Q c.serve_read.result all c.serve_read.ensures.turned

pub returns-then-has_issued-clause-served : goal.returns-then-has_issued-clause-served
returns-then-has_issued-clause-served g c =
    λ records agree.
    let f = c.args.file.now in
    let old = shown f in
    let ask = c.args.ask in
    let asks = c.stay.new.self in
    let unread : is_read ask.op ≡ false = sym c.is_read.ensures ∙ c.if-is_read.false in
    let has : is_some f.asks.issued ≡ true = sym c.has_issued.ensures ∙ c.if-has_issued.true in
    let by : Turned → Served = λ t. record { primary = f.lead.primary; asks = asks; turned = t } in
    record {
      rest = refl;
      step = λ before own held.
          ap (λ (t : Turned). by (joined before t)) c.quiet.ensures
          ∙ stays_waiting (ground_at old records own held) (served_in old before) ask asks unread has c.in_ok-stay.ensures.ok;
    }

pub returns-clause-served : goal.returns-clause-served
returns-clause-served g c =
    let f = c.args.file.now in
    let old = shown f in
    let ask = c.args.ask in
    let agrees = g.B.Bodies.agrees c.serve_waiting_write.new.bodies in
    let unread : is_read ask.op ≡ false = sym c.is_read.ensures ∙ c.if-is_read.false in
    let none : is_some f.asks.issued ≡ false = sym c.has_issued.ensures ∙ c.if-has_issued.false in
    let new = shown c.serve_waiting_write.new.file in
    let P : Turned → Type 0 = λ turned. (records : List Record) → agrees records → is_read ask.op ≡ false → is_some f.asks.issued ≡ false → ServesOne ask records old new turned in
    let Q : Turned → Type 0 = λ turned. (records : List Record) → agrees records → ServesOne ask records old new turned in
    let all : (turned : Turned) → P turned → Q turned = λ turned of records agree. of records agree unread none in
    if_ok P Q c.serve_waiting_write.result all c.serve_waiting_write.ensures.served
