use Rattle.std.proofs.Common.{◌≡◌, ◌∙◌, ap, sym, ℕ, true}
use Rattle.xt_protocol.specs.declared.turned.Turned.{Turned}
use Rattle.xt_protocol.specs.declared.states.Acted.{Acted}
use Rattle.xt_protocol.specs.FileSteps.{message_comes, replica_acts}
use Rattle.osd_files.specs.Kinds.{is_for_replica}
use Rattle.osd_files.specs.Rows.{IsRow}
use Rattle.osd_files.specs.Views.{shown, site_at}
use Rattle.osd_files.proofs.Rows.{if_ok}
use Rattle.osd_files.proofs.Stepped.{replica_row}
use Rattle.osd_files.proofs.hearing.replica_comes.Goals as goal

pub returns-clause-row : goal.returns-clause-row
returns-clause-row c =
    let old = shown c.args.file.now in
    let new = shown c.replica_takes.new.file in
    let from = c.args.from in
    let content = c.args.content.now in
    let acted = c.in_ok-acted.acted in
    let P : Turned → Type 0 = λ turned. (now : ℕ) → IsRow (λ site s. replica_acts site s from acted) now old new turned in
    let Q : Turned → Type 0 = λ turned. is_for_replica content ≡ true → (now : ℕ) → IsRow (λ site s. message_comes site s from content) now old new turned in
    let all : (turned : Turned) → P turned → Q turned = λ turned row so now sealed body.
    let site = site_at old.awake now sealed body in
    record {
      here = (row now sealed body).here;
      step =
          replica_row site old.state from content so
          ∙ ap (λ (a : Acted). replica_acts site old.state from a) (sym c.in_ok-acted.ensures.row)
          ∙ (row now sealed body).step;
    }
    in
    if_ok P Q c.replica_takes.result all c.replica_takes.ensures.row
