use Rattle.std.proofs.Common.{◌≡◌, take}
use Rattle.node_runs.specs.Hearing.{with_rows}
use Rattle.node_mail.proofs.book.Book.put_rows.Given as goal

abbrev pub invariant-loop-row : goal.invariant-loop-row
invariant-loop-row l = l.self ≡ with_rows l.fn.self (take l.row-index l.rows)
