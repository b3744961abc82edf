-- what is granted of a file, and its sizes
use Rattle.std.specs.Prelude.{ℕ, Bool, false, ◌==◌, ◌+◌, nat_lt, if◌then◌else◌, Option, Some, None, Result, Ok, Err, List, [], ◌∷◌, ◌++◌, map, take, replicate}
use Rattle.sha1.specs.Sha1.{sha1}
use Rattle.uuid.specs.Parts.{with_version, with_variant}
use Rattle.uuid.specs.declared.Variant.TheVariants as variant
use Rattle.uuid.specs.declared.Version.TheVariants as version
use Rattle.xt_base.specs.declared.TheConstants.{COUNTS}
use Rattle.xt_base.specs.declared.ids.FileId.{FileId}
use Rattle.xt_base.specs.declared.ids.SizeMark.{SizeMark}
use Rattle.xt_messages.specs.declared.file.Kind.{Kind}
use Rattle.xt_messages.specs.declared.file.Kind.TheVariants as kind
use Rattle.xt_messages.specs.declared.file.Location.{Location}
use Rattle.xt_messages.specs.declared.meta.MetaRefusal.{MetaRefusal}
use Rattle.xt_messages.specs.declared.meta.MetaRefusal.TheVariants as refusal
use Rattle.xt_messages.specs.declared.meta.MetaAnswer.{MetaAnswer}
use Rattle.xt_messages.specs.declared.meta.MetaAnswer.TheVariants as answer
use Rattle.volume_rows.specs.declared.Asker.{Asker}
use Rattle.volume_rows.specs.declared.Entry.{Entry}
use Rattle.volume_rows.specs.declared.Stored.{Stored}
use Rattle.volume_rows.specs.declared.Content.{Content}
use Rattle.volume_rows.specs.declared.Content.TheVariants as content
use Rattle.xt_protocol.specs.FileIds.{is_file}
use Rattle.volume_rows.specs.declared.Granting.{Granting}
use Rattle.volume_rows.specs.Paths.{Name, Path}
use Rattle.volume_rows.specs.Rows.{Row, Volumes, entry_at}
use Rattle.volume_rows.specs.Rights.{reading, writing, rule_of_read, rule_of_write, first_of, ancestors, there, file, allowed}

-- what a client asks to do with a file: 1 to read it, 2 to write it, 3 to truncate it
abbrev pub wants_reading : ℕ → Bool
wants_reading want = want == 1

-- whether it may be done: reading by the right to read, the others by that to write
abbrev pub wanted : Asker → ℕ → Option Entry → Option MetaRefusal
wanted who want entry =
    if wants_reading want then allowed who reading rule_of_read entry else allowed who writing rule_of_write entry

-- the epoch after the one that was issued last; after the last of all none comes
abbrev pub next_epoch : ℕ → ℕ
next_epoch issued = if nat_lt issued COUNTS then issued + 1 else issued

-- a truncation is granted under the next truncate epoch, all else under the one that was issued last
abbrev pub epoch_granted : ℕ → ℕ → ℕ
epoch_granted want issued = if want == 3 then next_epoch issued else issued

-- the UUID of a volume: that of its name, by version 5, in the namespace of the nil UUID
abbrev pub volume_id : Name → List ℕ
volume_id name = with_version (with_variant (take 16 (sha1 (replicate 16 0 ++ name))) variant.RFC4122) version.Sha1

-- the volume that a path is in
abbrev pub volume_of : Path → List ℕ
volume_of [] = []
volume_of (name ∷ names) = volume_id name

-- a file by its volume and number
abbrev pub file_id : Path → Stored → FileId
file_id path stored = record { volume = volume_of path; number = stored.number }

-- what is granted of a file
abbrev pub grant_of : Path → ℕ → Stored → Granting
grant_of path want stored =
    record {
      file = file_id path stored;
      location = stored.location;
      epoch = epoch_granted want stored.epoch;
      mark = stored.mark;
    }

abbrev pub stored_of : Content → Option Stored
stored_of content.Directory = None
stored_of (content.File stored) = Some stored

-- what stands at a path as a file, if it is one
abbrev pub stored_in : Option Entry → Option Stored
stored_in None = None
stored_in (Some entry) = stored_of entry.content

-- granted, where a file is there
abbrev pub granted_of : Path → ℕ → Option Stored → Result Granting MetaRefusal
granted_of path want None = Err refusal.NotFound
granted_of path want (Some stored) = Ok (grant_of path want stored)

abbrev pub unless_refused : Option MetaRefusal → Result Granting MetaRefusal → Result Granting MetaRefusal
unless_refused (Some why) granted = Err why
unless_refused None granted = granted

-- Grant: not there; a directory; it may not be read, or for the others written.
abbrev pub granted_at : Volumes → Asker → ℕ → Path → Result Granting MetaRefusal
granted_at volumes who want path =
    let entry = entry_at volumes.rows path in
    unless_refused (first_of (ancestors who volumes.rows path ∷ there entry ∷ file entry ∷ wanted who want entry ∷ []))
    (granted_of path want (stored_in entry))

-- a grant on the text of a path: a bad one, and the root's, is refused before all else
abbrev pub granted : Volumes → Asker → ℕ → Option Path → Result Granting MetaRefusal
granted volumes who want None = Err refusal.NameBad
granted volumes who want (Some path) = granted_at volumes who want path

-- Locate: refused as a grant for reading is; a striped file's list never changes; else where the file is, and that its list
-- isn't being changed.
abbrev pub located_as : Kind → Location → MetaAnswer
located_as kind.Replicated location = answer.Located location false
located_as kind.Striped location = answer.Refused refusal.NotReplicated

abbrev pub located : Result Granting MetaRefusal → MetaAnswer
located (Err why) = answer.Refused why
located (Ok grant) = located_as grant.location.kind grant.location

-- the file at a path, if there is one
abbrev pub file_of : Path → Option Stored → Option FileId
file_of path None = None
file_of path (Some stored) = Some (file_id path stored)

abbrev pub file_at : Volumes → Option Path → Option FileId
file_at volumes None = None
file_at volumes (Some path) = file_of path (stored_in (entry_at volumes.rows path))

-- whether a row is that of a file
abbrev pub is_row_of : FileId → Path → Option Stored → Bool
is_row_of file path None = false
is_row_of file path (Some stored) = is_file (file_id path stored) file

abbrev pub holds_file : FileId → Row → Bool
holds_file file row = is_row_of file row.path (stored_of row.entry.content)

-- a file's issued truncate epoch and its mark
abbrev pub sizes_of : Option Stored → Option (ℕ × SizeMark)
sizes_of None = None
sizes_of (Some stored) = Some (stored.epoch, stored.mark)

-- those of the file, if there is such a one
abbrev pub sizes_in : List Row → FileId → Option (ℕ × SizeMark)
sizes_in [] file = None
sizes_in (row ∷ rows) file = if holds_file file row then sizes_of (stored_of row.entry.content) else sizes_in rows file

-- a content with these sizes
abbrev pub with_sizes : ℕ → SizeMark → Content → Content
with_sizes epoch mark content.Directory = content.Directory
with_sizes epoch mark (content.File stored) = content.File (record stored { epoch = epoch; mark = mark })

-- the rows with these sizes of the file
abbrev pub sizes_set : FileId → ℕ → SizeMark → List Row → List Row
sizes_set file epoch mark rows =
    map (λ row. if holds_file file row then record { path = row.path; entry = record row.entry { content = with_sizes epoch mark row.entry.content } } else row) rows
