use Rattle.std.proofs.Common.{◌≡◌, ◌∙◌, ap, ℕ, true}
use Rattle.xt_messages.specs.declared.message.Payload.{Payload}
use Rattle.xt_protocol.specs.declared.turned.Turned.{Turned}
use Rattle.xt_protocol.specs.FileLeases.{answer_comes, read_comes, write_comes}
use Rattle.xt_protocol.specs.FileSteps.{message_comes}
use Rattle.osd_files.specs.Kinds.{is_for_lease}
use Rattle.osd_files.specs.Rows.{IsRow}
use Rattle.osd_files.specs.Views.{shown, site_at}
use Rattle.osd_files.proofs.Rows.{if_ok}
use Rattle.osd_files.proofs.Stepped.{answer_row}
use Rattle.osd_files.proofs.leases.lease_comes.Goals as goal

pub returns-in-Read : goal.returns-in-Read
returns-in-Read c =
    let old = shown c.args.file.now in
    let new = shown c.read_comes.new.file in
    let from = c.args.from in
    let content = c.args.content.now in
    let P : Turned → Type 0 = λ turned. (now : ℕ) → IsRow (λ site s. read_comes site s from c.in-Read.ballot) now old new turned in
    let Q : Turned → Type 0 = λ turned. is_for_lease content ≡ true → IsRow (λ site s. message_comes site s from content) c.args.now old new turned in
    let all : (turned : Turned) → P turned → Q turned = λ turned row so sealed body.
    record {
      here = (row c.args.now sealed body).here;
      step = ap (λ (x : Payload). message_comes (site_at old.awake c.args.now sealed body) old.state from x) c.in-Read.is ∙ (row c.args.now sealed body).step;
    }
    in
    if_ok P Q c.read_comes.result all c.read_comes.ensures

pub returns-in-Write : goal.returns-in-Write
returns-in-Write c =
    let old = shown c.args.file.now in
    let new = shown c.write_comes.new.file in
    let from = c.args.from in
    let content = c.args.content.now in
    let P : Turned → Type 0 = λ turned. (now : ℕ) → IsRow (λ site s. write_comes site s from c.in-Write.ballot c.in-Write.boot c.in-Write.lease) now old new turned in
    let Q : Turned → Type 0 = λ turned. is_for_lease content ≡ true → IsRow (λ site s. message_comes site s from content) c.args.now old new turned in
    let all : (turned : Turned) → P turned → Q turned = λ turned row so sealed body.
    record {
      here = (row c.args.now sealed body).here;
      step = ap (λ (x : Payload). message_comes (site_at old.awake c.args.now sealed body) old.state from x) c.in-Write.is ∙ (row c.args.now sealed body).step;
    }
    in
    if_ok P Q c.write_comes.result all c.write_comes.ensures

pub returns-in_default : goal.returns-in_default
returns-in_default c =
    let old = shown c.args.file.now in
    let new = shown c.answer_comes.new.file in
    let from = c.args.from in
    let content = c.args.content.now in
    let P : Turned → Type 0 = λ turned. IsRow (λ site s. answer_comes site s from content) c.args.now old new turned in
    let Q : Turned → Type 0 = λ turned. is_for_lease content ≡ true → IsRow (λ site s. message_comes site s from content) c.args.now old new turned in
    let all : (turned : Turned) → P turned → Q turned = λ turned row so sealed body.
    record {
      here = (row sealed body).here;
      step = answer_row (site_at old.awake c.args.now sealed body) old.state from content so c.in_default.not-Read c.in_default.not-Write ∙ (row sealed body).step;
    }
    in
    if_ok P Q c.answer_comes.result all c.answer_comes.ensures
