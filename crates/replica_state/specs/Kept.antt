-- what a replica keeps of its file
use Rattle.std.specs.Prelude.{ℕ, Option, None, List, IsTrue}
use Rattle.xt_base.specs.declared.ids.FileId.{FileId}
use Rattle.xt_messages.specs.declared.file.ObjectVersion.{ObjectVersion}
use Rattle.xt_messages.specs.declared.file.FileHead.{FileHead}
use Rattle.xt_messages.specs.declared.record.FileRow.{FileRow}
use Rattle.xt_messages.specs.declared.record.Record.{Record}
use Rattle.xt_messages.specs.declared.record.Record.TheVariants as kept
use Rattle.xt_messages.specs.Limits.{FitsEpoch, FitsHead, is_at_most}
use Rattle.xt_protocol.specs.Heads.{head_after}

-- without where its content is kept
abbrev pub kept_row : FileId → FileHead → List ObjectVersion → Option ℕ → FileRow
kept_row file head held closed = record { file = file; head = head; held = held; location = None; closed = closed }

-- What is noted in a replica: a promise that isn't below the one before, a body, a head within its limits, or an update whose head is
-- within its limits.
abbrev pub IsNotable : FileRow → Record → Type 0
IsNotable row (kept.Promise file epoch) = FitsEpoch epoch × IsTrue (is_at_most row.head.promised epoch)
IsNotable row (kept.Stage file object version bytes) = Unit {0}
IsNotable row (kept.Head file head) = FitsHead head
IsNotable row (kept.Update file update) = FitsHead (head_after row.head update)
IsNotable row _ = ⊥
