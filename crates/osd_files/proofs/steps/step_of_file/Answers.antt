use Rattle.std.proofs.Common.{List}
use Rattle.xt_messages.specs.declared.record.Record.{Record}
use Rattle.xt_protocol.specs.declared.turned.Turned.{Turned}
use Rattle.xt_protocol.specs.FileSteps.{message_comes, step_of_file}
use Rattle.xt_protocol.specs.SeenBodies.{body_by}
use Rattle.osd_files.specs.Views.{shown}
use Rattle.osd_files.specs.Whole.{IsRowOn}
use Rattle.osd_files.proofs.Rows.{if_ok}
use Rattle.osd_files.proofs.Stepped.{at_once}
use Rattle.osd_files.proofs.steps.step_of_file.Goals as goal

pub returns-then-is_light-clause-row : goal.returns-then-is_light-clause-row
returns-then-is_light-clause-row g c =
    let agrees = g.B.Bodies.agrees c.message_comes.new.bodies in
    let old = shown c.args.file.now in
    let new = shown c.message_comes.new.file in
    let from = c.args.from in
    let content = c.args.content.now in
    let P : Turned → Type 0 = λ turned. (records : List Record) → agrees records → IsRowOn (λ site s. message_comes site s from content) content c.args.sealed c.args.now (body_by records) old new turned in
    let Q : Turned → Type 0 = λ turned. (records : List Record) → agrees records → IsRowOn (λ site s. step_of_file site s from content) content c.args.sealed c.args.now (body_by records) old new turned in
    let all : (turned : Turned) → P turned → Q turned = λ turned of records agree test sealed.
    at_once c.args.now test (body_by records) from content old new turned (c.nothing_is_overdue.ensures.row c.if-nothing_is_overdue.true test (body_by records)) (of records agree test sealed)
    in
    if_ok P Q c.message_comes.result all c.message_comes.ensures.row
