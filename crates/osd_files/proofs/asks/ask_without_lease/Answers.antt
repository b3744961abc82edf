use Rattle.std.proofs.Common.{◌≡◌, ◌∙◌, ap, sym, refl, Option}
use Rattle.xt_messages.specs.declared.reply.Reply.{Reply}
use Rattle.xt_protocol.specs.declared.turned.Turned.{Turned}
use Rattle.xt_protocol.specs.LeaseRows.{Proposer, free}
use Rattle.xt_protocol.specs.AskRows.{round_for, ask_under, ask_without_lease, elsewhere}
use Rattle.xt_protocol.specs.FileStates.{FileState, Site, FileStep}
use Rattle.osd_files.specs.Rows.{IsRow}
use Rattle.osd_files.specs.Views.{shown, site_at}
use Rattle.osd_files.proofs.Rows.{if_ok, row_from}
use Rattle.osd_files.proofs.asks.ask_without_lease.Goals as goal

pub returns-in-None-clause-row : goal.returns-in-None-clause-row
returns-in-None-clause-row c =
    let f = c.args.file.now in
    let old = shown f in
    let new = shown c.round_for.new.file in
    let ask = c.args.ask in
    let now = c.args.now in
    let first : Proposer → Site → FileState → FileStep = λ p site s. round_for site s p ask in
    let second : Proposer → Site → FileState → FileStep = λ p site s. ask_under site s (free p) ask in
    let P : Turned → Type 0 = λ turned. (p : Proposer) → f.lease ≡ free p → IsRow (first p) now old new turned in
    let Q : Turned → Type 0 = λ turned. (p : Proposer) → f.lease ≡ free p → IsRow (second p) now old new turned in
    let all : (turned : Turned) → P turned → Q turned = λ turned row p is.
    row_from (first p) (second p) now old.awake old.state old.state new turned
    (λ sealed body.
    let site = site_at old.awake now sealed body in
    ap (λ (o : Option Reply). ask_without_lease site old.state p ask o)
    (ap (elsewhere site) (sym c.lease.ensures) ∙ sym (c.in-None.ensures site (sym c.node-node.ensures) refl)))
    (row p is)
    in
    if_ok P Q c.round_for.result all c.round_for.ensures.row
