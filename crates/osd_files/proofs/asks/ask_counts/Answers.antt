use Rattle.std.proofs.Common.{refl}
use Rattle.xt_protocol.specs.AskRows.{ask_rows}
use Rattle.osd_files.specs.Views.{shown}
use Rattle.osd_files.proofs.Rows.{rows_by}
use Rattle.osd_files.proofs.asks.ask_counts.Goals as goal

pub returns-else-is_err-clause-row : goal.returns-else-is_err-clause-row
returns-else-is_err-clause-row g c =
    let old = shown c.args.file.now in
    let now = c.args.now in
    let ask = c.args.ask in
    rows_by (g.B.Bodies.agrees c.ask_rows-rest.new.bodies) (λ site s. ask_rows site s ask) (λ site s. ask_rows site (record s { used = site.now }) ask) now old.awake old.state (record old.state { used = now })
    (shown c.ask_rows-rest.new.file) c.ask_rows-rest.result (λ records sealed. refl) c.ask_rows-rest.ensures.row
