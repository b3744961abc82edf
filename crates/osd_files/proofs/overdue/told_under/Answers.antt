use Rattle.std.proofs.Common.{◌∙◌, sym, Some}
use Rattle.xt_protocol.specs.declared.turned.Turned.{Turned}
use Rattle.xt_protocol.specs.Overdue.{deadlines_come, deadlines_under}
use Rattle.osd_files.specs.Rows.{Gives}
use Rattle.osd_files.specs.Views.{shown}
use Rattle.osd_files.proofs.Rows.{if_ok}
use Rattle.osd_files.proofs.Over.{deadlines_given}
use Rattle.osd_files.proofs.overdue.told_under.Goals as goal

pub returns-in-Some : goal.returns-in-Some
returns-in-Some c =
    let now = c.args.now in
    let v = shown c.args.file.now in
    let reply = c.in-Some.reply in
    let P : Turned → Type 0 = λ turned. Gives (λ site s. deadlines_come site s reply) now v turned in
    let Q : Turned → Type 0 = λ turned. Gives (λ site s. deadlines_under site s s.primary.tenure) now v turned in
    let all : (turned : Turned) → P turned → Q turned = λ turned given. deadlines_given now v (Some reply) turned (sym c.in-Some.is ∙ c.no_majority.ensures) given in
    if_ok P Q c.told_due.result all c.told_due.ensures
