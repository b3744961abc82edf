use Rattle.std.proofs.Common.{◌++◌, ◌∷◌, [], refl, ◌∙◌, ap}
use Rattle.xt_messages.specs.declared.file.FileHead.{FileHead}
use Rattle.xt_messages.specs.declared.record.Record.TheVariants as kept
use Rattle.store_compact.specs.Adding.{plain}
use Rattle.store_compact.proofs.Added.{added_then, close_added, one_added, view_added}
use Rattle.store_compact.proofs.rewriting.put_row.Goals as goal

pub returns : goal.returns
returns g c =
    let store = c.args.store.now in
    let row = c.args.row.now in
    let old = c.args.made.now.items in
    let viewed = c.put_view.new.made.items in
    let closed = c.put_close.new.made.items in
    let held = c.put_bodies.new.made.items in
    let new = c.put_plain.new.made.items in
    added_then {g = g.D.Disk} store old held new _ _
    (added_then {g = g.D.Disk} store old closed held _ _
    (added_then {g = g.D.Disk} store old viewed closed _ _ (view_added {g = g.D.Disk} store old viewed row.file row.location c.in_ok-put_view.ensures)
    (close_added {g = g.D.Disk} store viewed closed row.file row.closed c.in_ok-put_close.ensures))
    c.in_ok-put_bodies.ensures)
    (one_added {g = g.D.Disk} store held new (kept.Head row.file row.head)
    (c.in_ok-put_plain.ensures ∙ ap (λ (h : FileHead). held ++ plain (kept.Head row.file h) ∷ []) c.in_ok-copy.ensures)
    (record { none = refl; stays = λ body. refl; key = refl }))
