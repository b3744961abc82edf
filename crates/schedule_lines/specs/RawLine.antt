-- the bytes of a line, as a source gives them
use Rattle.std.specs.Prelude.{ℕ, ◌≡◌, ◌≢◌, ◌≤◌, ◌<◌, ◌+◌, Bool, true, false, Option, List, [], ◌∷◌, ◌++◌, length}
use Rattle.std.specs.List.{AllByRecursion}
use Rattle.time_line.specs.declared.TheConstants.{LINE_BYTES}
use Rattle.node_links.specs.Streams.{Takes, IsAtEnd}
use Rattle.schedule_lines.specs.declared.reading.RawLine.{RawLine}
use Rattle.schedule_lines.specs.declared.reading.RawLine.TheVariants as raw

-- the byte that ends a line
abbrev pub line_feed : ℕ
line_feed = 10

-- no line feed is among them
abbrev pub IsInLine : List ℕ → Type 0
IsInLine bytes = AllByRecursion (λ byte. byte ≢ line_feed) bytes

-- What was taken of a line at once, after its first bytes, of at most so many bytes: those before the line feed, and it, where it
-- is whole; at least one byte else
abbrev pub IsPiece : ℕ → Option (List ℕ) → Option (List ℕ) → List ℕ → List ℕ → Bool → Type 0
IsPiece room old new line longer true =
    (piece : List ℕ) × (longer ≡ line ++ piece) × Takes old new (piece ++ line_feed ∷ []) × IsInLine piece × (length piece < room)
IsPiece room old new line longer false =
    (piece : List ℕ) × (longer ≡ line ++ piece) × Takes old new piece × IsInLine piece × (1 ≤ length piece) × (length piece ≤ room)

-- What was taken from the source, and why the reading ended. `bytes` are those before the line feed, if any.
abbrev pub IsRawLine : Option (List ℕ) → Option (List ℕ) → List ℕ → RawLine → Type 0
-- nothing was left
IsRawLine old new bytes raw.End = IsAtEnd old × Takes old new [] × (bytes ≡ [])
-- a line and its line feed
IsRawLine old new bytes raw.Whole = Takes old new (bytes ++ line_feed ∷ []) × IsInLine bytes × (length bytes ≤ LINE_BYTES)
-- the source ended within a line
IsRawLine old new bytes raw.Unended = Takes old new bytes × IsAtEnd new × IsInLine bytes × (bytes ≢ []) × (length bytes ≤ LINE_BYTES)
-- one byte more than a line may have
IsRawLine old new bytes raw.TooLong = Takes old new bytes × IsInLine bytes × (length bytes ≡ LINE_BYTES + 1)
-- the source failed after these
IsRawLine old new bytes raw.Failed = Takes old new bytes × IsInLine bytes × (length bytes ≤ LINE_BYTES)
-- there was no memory for one byte more
IsRawLine old new bytes raw.OutOfMemory = (taken : List ℕ) × Takes old new taken
