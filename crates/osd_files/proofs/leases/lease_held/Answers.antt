use Rattle.std.proofs.Common.{◌∙◌, ap, sym}
use Rattle.xt_base.specs.declared.ids.FileId.{FileId}
use Rattle.xt_messages.specs.declared.event.Mark.TheVariants as mark
use Rattle.xt_protocol.specs.declared.turned.Turned.{Turned}
use Rattle.xt_protocol.specs.Turns.{shows}
use Rattle.xt_protocol.specs.FileLeases.{led_on, lease_held}
use Rattle.xt_protocol.specs.FileStates.{FileState, Site, FileStep}
use Rattle.osd_files.specs.Views.{shown, site_at}
use Rattle.osd_files.proofs.Rows.{joins_next, behind_it}
use Rattle.osd_files.proofs.leases.lease_held.Goals as goal

pub returns : goal.returns
returns c =
    let old = shown c.args.file.now in
    let end = c.args.end in
    let number = c.file-number.result.number in
    let new = shown c.led_on-led.new.file in
    let marked = c.in_ok-marked.marked in
    let led : Site → FileState → FileStep = λ site s. led_on site s s.primary.tenure in
    joins_next led (λ site s. lease_held site s end) c.args.now old.awake old.state old.state new marked c.led_on-led.result c.join_next.result
    (λ sealed body.
    let step = led (site_at old.awake c.args.now sealed body) old.state in
    ap (λ (f : FileId). behind_it (shows (mark.Held f.number end)) step) (sym c.file-number.ensures)
    ∙ ap (λ (t : Turned). behind_it t step) (sym c.in_ok-marked.ensures))
    c.led_on-led.ensures c.join_next.ensures
