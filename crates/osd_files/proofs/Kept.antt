-- what is kept of a file after a record of it
use Rattle.std.proofs.Common.{◌≡◌, refl, Option, Some, None}
use Rattle.xt_protocol.specs.ReplicaRows.{kept_after}
use Rattle.xt_messages.specs.declared.record.FileRow.{FileRow}
use Rattle.xt_messages.specs.declared.record.Record.{Record}
use Rattle.xt_protocol.proofs.Folds.{row_after-file}

-- the file is the same
pub file_kept : (row : FileRow) (rec : Option Record) → (kept_after row rec).file ≡ row.file
file_kept row None = refl
file_kept row (Some rec) = row_after-file row rec
