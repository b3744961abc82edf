-- How the fields of a disk in memory stand for it.
use Rattle.std.specs.Prelude.{◌+◌, ◌*◌, ◌≤◌, ◌≡◌, length, drop}
use Rattle.std.specs.Vec.{vec_capacity, vec_len}
use Rattle.disk_model.specs.declared.memory.MemoryDisk.TheInside.{Inside}
use Rattle.disk_model.specs.Changes.{Memory, memory_kept}
use Rattle.disk_model.specs.Notes.{changes_of, pieces_length, ranges_of}

-- the disk that the fields stand for
abbrev pub seen : Inside → Memory
seen d = record {
  first = d.contents.first;
  changes = changes_of d.notes.items d.pieces.items;
  reserved = d.contents.reserved;
  room = d.room;
  plan = d.plan;
}

-- Each piece has its note, the contents are what a read gives, the marks are those of the last sync that succeeded, and
-- the room is there.
pub record IsConsistent (d : Inside) : Type 0 where
  pub pieces : pieces_length d.notes.items ≡ length d.pieces.items
  pub read : d.contents.read ≡ (memory_kept (seen d)).read
  pub synced_notes : d.synced_notes ≤ length d.notes.items
  pub written : (memory_kept (seen d)).written ≡ ranges_of (drop d.synced_notes d.notes.items)
  pub synced_length : d.synced_length ≡ length (memory_kept (seen d)).synced
  pub piece_room : vec_len d.pieces + d.room ≤ vec_capacity d.pieces
  pub note_room : 64 * vec_len d.notes + d.room ≤ 64 * vec_capacity d.notes
