-- a node that keeps its records on a disk
use Rattle.std.specs.Prelude.{ℕ, ◌≡◌, Bool, true, false, List, [], Option, Some, None, length}
use Rattle.disk_model.specs.Changes.{Memory, MightHaveLeft}
use Rattle.journal_areas.specs.declared.superblock.Superblock.{Superblock}
use Rattle.journal_moves.specs.Moves.{IsEither}
use Rattle.object_store.specs.Texts.{texts_of}
use Rattle.xt_messages.specs.declared.record.KeepBody.{KeepBody}
use Rattle.xt_messages.specs.declared.record.Record.{Record}
use Rattle.xt_protocol.specs.Forgetting.{rewritten}
use Rattle.world_disk.specs.Room.{has_room_for, moved_to}

-- its records in order, the superblock of their journal, where it has one, and the disk that holds them
pub record Stored : Type 0 where
  pub records : List Record
  pub superblock : Option Superblock
  pub disk : Memory

-- no record, on a disk without a byte
abbrev pub none_stored : Stored
none_stored = record {
  records = [];
  superblock = None;
  disk = record {
    first = [];
    changes = [];
    reserved = 0;
    room = 0;
    plan = record { failing = []; stop = None; calls = 0; changes = 0; faults = 0 };
  };
}

-- The records were rewritten, and the superblock says where they are from then on; or the node is as it was.
abbrev pub RewritesTo : Stored → List Record → Bool → Stored → Type 0
RewritesTo old made true new = (new.records ≡ made) × (new.superblock ≡ Some (moved_to old.superblock old.records made))
RewritesTo old made false new = new ≡ old

-- A crash at any moment since the old disk leaves the old records or these.
abbrev pub LeavesEither : Memory → Memory → List Record → List Record → Type 0
LeavesEither old new records made =
    (image : List ℕ) → MightHaveLeft new.first new.changes (length old.changes) image → IsEither (texts_of records) (texts_of made) image

-- The records are rewritten with these bodies exactly where the journal has room for them.
pub record IsRewritten (old : Stored) (keep : List KeepBody) (rewrote : Bool) (new : Stored) : Type 0 where
  pub room : rewrote ≡ has_room_for old.superblock old.records (rewritten keep old.records)
  pub made : RewritesTo old (rewritten keep old.records) rewrote new
  pub crash : LeavesEither old.disk new.disk old.records (rewritten keep old.records)
