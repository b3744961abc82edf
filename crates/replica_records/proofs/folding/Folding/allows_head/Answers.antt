use Rattle.std.proofs.Common.{◌≡◌, ◌∙◌, sym, ap}
use Rattle.xt_protocol.specs.Folds.{row_in, new_row}
use Rattle.replica_records.proofs.Held.{none_held}
use Rattle.replica_records.proofs.folding.Folding.allows_head.Goals as goal

pub returns-in-Some : goal.returns-in-Some
returns-in-Some c =
    let row : row_in c.args.self.now.files c.args.file.now ≡ c.in-Some.row.now =
    ap (λ rows. row_in rows c.args.file.now) (sym (c.as_slice.ensures ∙ ap (λ f. f.files) c.self.view_is)) ∙ c.in-Some.ensures.row in
    rw row (rw (← c.as_slice-in-Some.ensures) c.are_held.ensures)

pub returns-in-None : goal.returns-in-None
returns-in-None c =
    let row : row_in c.args.self.now.files c.args.file.now ≡ new_row c.args.file.now =
    ap (λ rows. row_in rows c.args.file.now) (sym (c.as_slice.ensures ∙ ap (λ f. f.files) c.self.view_is)) ∙ c.in-None.ensures.row in
    rw row (none_held c.args.head.now.versions c.is_empty.result (rw (← c.as_slice-in-None.ensures) c.is_empty.ensures))
