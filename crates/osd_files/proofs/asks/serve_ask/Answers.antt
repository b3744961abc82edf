use Rattle.std.proofs.Common.{◌≡◌, ◌∙◌, ap, sym, refl, true, false, List}
use Rattle.xt_messages.specs.declared.file.FileHead.{FileHead}
use Rattle.xt_messages.specs.declared.file.ObjectVersion.{ObjectVersion}
use Rattle.xt_messages.specs.declared.record.Record.{Record}
use Rattle.xt_protocol.specs.declared.turned.Turned.{Turned}
use Rattle.xt_protocol.specs.SeenBodies.{body_by}
use Rattle.xt_protocol.specs.Asks.{is_read, read_answer}
use Rattle.xt_protocol.specs.FileStates.{FileStep}
use Rattle.xt_protocol.specs.Serving.{reads}
use Rattle.xt_protocol.specs.AskRows.{serve_ask}
use Rattle.osd_files.specs.Rows.{IsRowBy}
use Rattle.osd_files.specs.Serves.{ground_at}
use Rattle.osd_files.specs.Views.{shown, site_at}
use Rattle.osd_files.proofs.Rows.{if_ok}
use Rattle.osd_files.proofs.Served.{read_row}
use Rattle.osd_files.proofs.asks.serve_ask.Goals as goal

pub returns-then-not-is_read-clause-row : goal.returns-then-not-is_read-clause-row
returns-then-not-is_read-clause-row g c =
    let ask = c.args.ask in
    let agrees = g.B.Bodies.agrees c.serve_write.new.bodies in
    let row : List Record → Turned → Type 0 = λ records turned. IsRowBy (λ site s. serve_ask site s ask) c.args.now (body_by records) (shown c.args.file.now) (shown c.serve_write.new.file) turned in
    let P : Turned → Type 0 = λ turned. (records : List Record) → agrees records → is_read ask.op ≡ false → row records turned in
    let Q : Turned → Type 0 = λ turned. (records : List Record) → agrees records → row records turned in
    let no : is_read ask.op ≡ false = sym c.is_read.ensures ∙ c.if-not-is_read.true in
    let all : (turned : Turned) → P turned → Q turned = λ turned of records agree. of records agree no in
    if_ok P Q c.serve_write.result all c.serve_write.ensures.row

pub returns-clause-row : goal.returns-clause-row
returns-clause-row g c =
    let f = c.args.file.now in
    let old = shown f in
    let ask = c.args.ask in
    let agrees = g.B.Bodies.agrees c.serve_read.new.bodies in
    let P : Turned → Type 0 = λ turned. (records : List Record) → agrees records → (own : FileHead) (held : List ObjectVersion) → turned ≡ read_answer (ground_at old records own held) ask.id (reads (ground_at old records own held) f.lead.primary ask.op) in
    let Q : Turned → Type 0 = λ turned. (records : List Record) → agrees records → IsRowBy (λ site s. serve_ask site s ask) c.args.now (body_by records) old old turned in
    let yes : is_read ask.op ≡ true = sym c.is_read.ensures ∙ c.if-not-is_read.false in
    let all : (turned : Turned) → P turned → Q turned = λ turned is records agree sealed.
    record {
      here = refl;
      step =
          read_row (site_at old.awake c.args.now sealed (body_by records)) old.state ask yes
          ∙ ap (λ (t : Turned). let made : FileStep = record { state = old.state; turned = t } in made) (sym (is records agree f.replica.head f.replica.held));
    }
    in
    if_ok P Q c.serve_read.result all c.serve_read.ensures.turned
