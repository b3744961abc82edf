-- the next line of a schedule, as it is taken from a source
use Rattle.std.specs.Prelude.{ℕ, ◌==◌, ◌≡◌, ◌≢◌, ◌≤◌, ◌+◌, ◌⊎◌, Option, List, [], ◌∷◌, ◌++◌, length}
use Rattle.xt_messages.specs.declared.status.Limited.TheVariants as limited
use Rattle.xt_messages.specs.declared.status.Status.{Status}
use Rattle.xt_messages.specs.declared.status.Status.TheVariants as status
use Rattle.node_links.specs.Streams.{Takes, IsAtEnd}
use Rattle.xt_base.specs.Faults.{Rose}
use Rattle.time_line.specs.declared.line.Line.{Line}
use Rattle.time_line.specs.declared.TheConstants.{LINE_BYTES}
use Rattle.schedule_text.specs.LineText.{line_text, IsLine}
use Rattle.schedule_lines.specs.RawLine.{line_feed, IsInLine}
use Rattle.schedule_lines.specs.declared.next.NextLine.{NextLine}
use Rattle.schedule_lines.specs.declared.next.NextLine.TheVariants as next

-- a text with the line feed that ends its line
abbrev pub ended : List ℕ → List ℕ
ended text = text ++ line_feed ∷ []

-- no line has this text, after so many others
abbrev pub IsNoLine : ℕ → List ℕ → Type 0
IsNoLine before text = (line : Line) → IsLine (before == 0) line → text ≡ line_text line → ⊥

-- Why no line is read after so many others, by the bytes that were taken and what is left.
abbrev pub StopsReading : ℕ → List ℕ → Option (List ℕ) → Status → Type 0
-- these bytes, no more than a line may have, and their line feed aren't a line, or the source ended within one
StopsReading before taken left (status.Malformed number) =
    (text : List ℕ) × IsInLine text × (length text ≤ LINE_BYTES) × (number ≡ before + 1)
    × (((taken ≡ ended text) × IsNoLine before text) ⊎ ((taken ≡ text) × (text ≢ []) × IsAtEnd left))
-- the source failed within the line, after no more bytes than a line may have
StopsReading before taken left (status.SourceFault count) = IsInLine taken × (length taken ≤ LINE_BYTES)
-- one byte more came than a line may have
StopsReading before taken left (status.Limit limited.Line limit) =
    IsInLine taken × (length taken ≡ LINE_BYTES + 1) × (limit ≡ LINE_BYTES)
-- memory ran out
StopsReading before taken left status.OutOfMemory = Unit {0}
-- nothing else stops the reading
StopsReading before taken left _ = ⊥

-- what is read after so many lines
abbrev pub IsReading : ℕ → Option (List ℕ) → Option (List ℕ) → NextLine → Type 0
IsReading before old new (next.Line line) = Takes old new (ended (line_text line)) × IsLine (before == 0) line
IsReading before old new next.End = Takes old new [] × IsAtEnd new
IsReading before old new (next.Stopped s) = (taken : List ℕ) × Takes old new taken × StopsReading before taken new s

-- the source's count of faults rose exactly where the status reports that it failed, with that count
abbrev pub CountsFaults : ℕ → ℕ → NextLine → Type 0
CountsFaults before after (next.Line line) = after ≡ before
CountsFaults before after next.End = after ≡ before
CountsFaults before after (next.Stopped (status.SourceFault count)) = Rose before after × (count ≡ after)
CountsFaults before after (next.Stopped s) = after ≡ before

-- what the bytes of a line are read as, after so many lines
abbrev pub IsLineOf : ℕ → List ℕ → NextLine → Type 0
IsLineOf before text (next.Line line) = (text ≡ line_text line) × IsLine (before == 0) line
IsLineOf before text next.End = ⊥
IsLineOf before text (next.Stopped (status.Malformed number)) = IsNoLine before text × (number ≡ before + 1)
IsLineOf before text (next.Stopped status.OutOfMemory) = Unit {0}
IsLineOf before text (next.Stopped _) = ⊥
