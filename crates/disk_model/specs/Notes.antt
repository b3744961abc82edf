-- The record of calls of a disk in memory.
use Rattle.std.specs.Prelude.{ℕ, ◌+◌, List, [], ◌∷◌, take, drop}
use Rattle.disk_model.specs.declared.note.Note.{Note}
use Rattle.disk_model.specs.declared.note.Note.TheVariants.{Wrote, Synced}
use Rattle.disk_model.specs.Disk.{Range}
use Rattle.disk_model.specs.Changes.{Change, Write, Sync}

-- the notes, and the pieces one after the other, as changes
abbrev pub changes_of : List Note → List ℕ → List Change
changes_of [] pieces = []
changes_of (Wrote place len ∷ notes) pieces = Write place (take len pieces) ∷ changes_of notes (drop len pieces)
changes_of (Synced ∷ notes) pieces = Sync ∷ changes_of notes pieces

abbrev pub piece_length : Note → ℕ
piece_length (Wrote place len) = len
piece_length Synced = 0

abbrev pub pieces_length : List Note → ℕ
pieces_length [] = 0
pieces_length (note ∷ notes) = piece_length note + pieces_length notes

-- the ranges that the notes say were written
abbrev pub ranges_of : List Note → List Range
ranges_of [] = []
ranges_of (Wrote place len ∷ notes) = record { start = place; end = place + len } ∷ ranges_of notes
ranges_of (Synced ∷ notes) = ranges_of notes
