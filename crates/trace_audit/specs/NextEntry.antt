-- the next entry of a trace, as it is taken from a source
use Rattle.std.specs.Prelude.{ℕ, ◌==◌, ◌≡◌, ◌≢◌, ◌≤◌, ◌<◌, ◌+◌, ◌⊎◌, Option, List, [], length}
use Rattle.xt_messages.specs.declared.status.Limited.TheVariants as limited
use Rattle.xt_messages.specs.declared.status.Status.{Status}
use Rattle.xt_messages.specs.declared.status.Status.TheVariants as status
use Rattle.xt_base.specs.Faults.{Rose}
use Rattle.node_links.specs.Streams.{Takes, IsAtEnd}
use Rattle.time_line.specs.declared.entry.Entry.{Entry}
use Rattle.time_line.specs.declared.TheConstants.{LINE_BYTES}
use Rattle.schedule_text.specs.EntryText.{entry_text, IsEntryAt}
use Rattle.schedule_lines.specs.RawLine.{IsInLine}
use Rattle.schedule_lines.specs.NextLine.{ended}
use Rattle.trace_audit.specs.declared.TheConstants.{TRACE_BYTES}
use Rattle.trace_audit.specs.declared.next.NextEntry.{NextEntry}
use Rattle.trace_audit.specs.declared.next.NextEntry.TheVariants as next

-- no entry has this text, after so many others
abbrev pub IsNoEntry : ℕ → List ℕ → Type 0
IsNoEntry before text = (e : Entry) → IsEntryAt (before == 0) e → text ≡ entry_text e → ⊥

-- a line that the source ended before its line feed
abbrev pub IsUnended : List ℕ → List ℕ → Option (List ℕ) → Type 0
IsUnended text taken left = (taken ≡ text) × (text ≢ []) × IsAtEnd left

-- Why no entry is read after so many others, of a trace that may have so many bytes more, by the bytes that were taken and what is
-- left.
abbrev pub StopsAudit : ℕ → ℕ → List ℕ → Option (List ℕ) → Status → Type 0
-- these bytes, no more than a line and the trace may have, and their line feed aren't an entry, or the source ended within one
StopsAudit before room taken left (status.Malformed number) =
    (text : List ℕ) × IsInLine text × (length text ≤ LINE_BYTES) × (length taken ≤ room) × (number ≡ before + 1)
    × (((taken ≡ ended text) × IsNoEntry before text) ⊎ IsUnended text taken left)
-- the source failed within the line, after no more bytes than a line may have
StopsAudit before room taken left (status.SourceFault count) = IsInLine taken × (length taken ≤ LINE_BYTES)
-- one byte more came than a line may have
StopsAudit before room taken left (status.Limit limited.Line limit) =
    IsInLine taken × (length taken ≡ LINE_BYTES + 1) × (limit ≡ LINE_BYTES)
-- with this line, whatever its bytes, the trace has more bytes than it may
StopsAudit before room taken left (status.Limit limited.Bytes limit) =
    (text : List ℕ) × IsInLine text × (length text ≤ LINE_BYTES) × (room < length taken) × (limit ≡ TRACE_BYTES)
    × ((taken ≡ ended text) ⊎ IsUnended text taken left)
-- memory ran out
StopsAudit before room taken left status.OutOfMemory = Unit {0}
-- nothing else stops the reading
StopsAudit before room taken left _ = ⊥

-- what is read after so many entries, of a trace that may have so many bytes more; `bytes` are those of the line
abbrev pub IsNextEntry : ℕ → ℕ → Option (List ℕ) → Option (List ℕ) → List ℕ → NextEntry → Type 0
IsNextEntry before room old new bytes (next.Entry e) =
    Takes old new (ended (entry_text e)) × IsEntryAt (before == 0) e × (bytes ≡ entry_text e) × (length bytes < room)
IsNextEntry before room old new bytes next.End = Takes old new [] × IsAtEnd new
IsNextEntry before room old new bytes (next.Stopped s) = (taken : List ℕ) × Takes old new taken × StopsAudit before room taken new s

-- the source's count of faults rose exactly where the status reports that it failed, with that count
abbrev pub CountsStop : ℕ → ℕ → Status → Type 0
CountsStop before after (status.SourceFault count) = Rose before after × (count ≡ after)
CountsStop before after _ = after ≡ before

abbrev pub CountsFaults : ℕ → ℕ → NextEntry → Type 0
CountsFaults before after (next.Entry e) = after ≡ before
CountsFaults before after next.End = after ≡ before
CountsFaults before after (next.Stopped s) = CountsStop before after s

-- what the bytes of a line are read as, after so many entries
abbrev pub IsEntryOf : ℕ → List ℕ → NextEntry → Type 0
IsEntryOf before text (next.Entry e) = (text ≡ entry_text e) × IsEntryAt (before == 0) e
IsEntryOf before text next.End = ⊥
IsEntryOf before text (next.Stopped (status.Malformed number)) = IsNoEntry before text × (number ≡ before + 1)
IsEntryOf before text (next.Stopped status.OutOfMemory) = Unit {0}
IsEntryOf before text (next.Stopped _) = ⊥
