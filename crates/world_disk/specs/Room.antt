-- where a node's records are in its journal, how much room there is for more, and when they are rewritten
use Rattle.std.specs.Prelude.{ℕ, ◌+◌, ◌%◌, ◌==◌, ◌&&◌, nat_lt, is_none, Bool, false, if◌then◌else◌, Option, Some, None, List, [], ◌∷◌, ◌++◌, length}
use Rattle.std.specs.List.{fold}
use Rattle.xt_messages.specs.declared.record.KeepBody.{KeepBody}
use Rattle.xt_messages.specs.declared.record.Record.{Record}
use Rattle.xt_protocol.specs.Forgetting.{rewritten}
use Rattle.replica_records.specs.RecordText.{record_text}
use Rattle.journal_areas.specs.declared.superblock.Superblock.{Superblock}
use Rattle.journal_areas.specs.Sites.{moved}
use Rattle.journal_moves.specs.Answers.{full_need}
use Rattle.xt_journal.specs.Format.{end_in}
use Rattle.object_store.specs.Swaps.{size_of}
use Rattle.object_store.specs.Texts.{texts_of}
use Rattle.world_spec.specs.NodeSteps.{Overflow, Room}
use Rattle.world_spec.specs.World.{Deed, puts, loads, rewrites}
use Rattle.world_disk.specs.declared.TheConstants.{JOURNAL, REWRITING_PERIOD}

-- the place of the gate where the next record goes, in a journal of these records with this superblock or none: where its area ends
abbrev pub place_in : Option Superblock → List Record → ℕ
place_in super records = end_in super (texts_of records)

-- How long that journal has to be for one more: its end, a gate and a length, the record's payload, and the next gate.
unfoldable pub journal_need : Option Superblock → List Record → Record → ℕ
journal_need super records rec = place_in super records + (6 + length (record_text rec))

-- a record has no room where its journal would pass the limit
abbrev pub journal_overflow : Option Superblock → List Record → Record → Option Overflow
journal_overflow super records rec =
    if nat_lt JOURNAL (journal_need super records rec) then Some (record { need = journal_need super records rec; limit = JOURNAL }) else None

-- whether that journal has room for a new area of those records that take the place of these
abbrev pub has_room_for : Option Superblock → List Record → List Record → Bool
has_room_for super records made = is_none (full_need super (place_in super records) (size_of made) JOURNAL)

-- the superblock that it has once they are in a new area
abbrev pub moved_to : Option Superblock → List Record → List Record → Superblock
moved_to super records made = moved super (place_in super records) (size_of made)

-- A node's records, the superblock of their journal, where it has one, and how many records were put since they were loaded last.
pub record Laid : Type 0 where
  pub records : List Record
  pub superblock : Option Superblock
  pub put : ℕ

-- before anything was done
abbrev pub nothing_laid : Laid
nothing_laid = record { records = []; superblock = None; put = 0 }

-- Rewritten records go to a new area of the journal, and the superblock says so from then on.
abbrev pub laid_after : Laid → Deed → Laid
laid_after laid (puts rec) = record { records = laid.records ++ rec ∷ []; superblock = laid.superblock; put = laid.put + 1 }
laid_after laid loads = record { records = laid.records; superblock = laid.superblock; put = 0 }
laid_after laid (rewrites keep) = record {
  records = rewritten keep laid.records;
  superblock = Some (moved_to laid.superblock laid.records (rewritten keep laid.records));
  put = laid.put;
}

-- after all that was done, in order
unfoldable pub laid_by : List Deed → Laid
laid_by past = fold laid_after nothing_laid past

-- whether it is time to rewrite them: where the number of those that were put since they were loaded is a multiple of the period
abbrev pub is_due : Laid → Bool
is_due laid = laid.put % REWRITING_PERIOD == 0

-- whether they are rewritten now with these bodies: where it is time, and their journal has room for the new area
abbrev pub rewrites_at : Laid → List KeepBody → Bool
rewrites_at laid keep = is_due laid && has_room_for laid.superblock laid.records (rewritten keep laid.records)

-- The room on disks: it goes by where the journal's current area ends.
abbrev pub journal_room : Room
journal_room = record {
  overflow = λ past rec. journal_overflow (laid_by past).superblock (laid_by past).records rec;
  rewrites_now = λ past keep. rewrites_at (laid_by past) keep;
  rewrites_idle = λ d id past keep. false;
}
