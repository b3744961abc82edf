-- where a row stands or belongs in a list that rises by a key
use Rattle.std.specs.Prelude.{ℕ, ◌==◌, ◌+◌, if◌then◌else◌, ◌≡◌, ◌<◌, ◌≤◌, true, List, [], ◌∷◌, ◌++◌, length, take, drop, slice_set, slice_index_or, Result, Ok, Err}
use Rattle.std.specs.List.{insert, AllByRecursion}
use Rattle.xt_base.specs.declared.ids.FileId.{FileId}
use Rattle.xt_messages.specs.declared.file.ObjectVersion.{ObjectVersion}
use Rattle.xt_messages.specs.declared.file.Session.{Session}
use Rattle.xt_messages.specs.declared.file.Update.{Update}
use Rattle.xt_messages.specs.declared.record.FileRow.{FileRow}
use Rattle.xt_base.specs.declared.TheConstants.{NO_OBJECT}
use Rattle.xt_protocol.specs.FileIds.{is_before}
use Rattle.xt_protocol.specs.Heads.{versions_below, with_version, with_session}
use Rattle.xt_protocol.specs.Folds.{row_in, with_row, without_row, new_row}

-- the version of the object is there; or it belongs there
abbrev pub IsVersionPlace : List ObjectVersion → ℕ → Result ℕ ℕ → Type 0
IsVersionPlace rows object (Ok place) =
    (place < length rows)
    × ((row : ObjectVersion) → row.object ≡ object → with_version rows object row.version ≡ slice_set rows place row)
IsVersionPlace rows object (Err place) =
    (place ≤ length rows)
    × ((row : ObjectVersion) → row.object ≡ object → with_version rows object row.version ≡ insert rows place row)

-- the session of the client is there; or it belongs there
abbrev pub IsSessionPlace : List Session → ℕ → Result ℕ ℕ → Type 0
IsSessionPlace rows client (Ok place) =
    (place < length rows) × ((row : Session) → row.client.0 ≡ client → with_session rows row ≡ slice_set rows place row)
IsSessionPlace rows client (Err place) =
    (place ≤ length rows) × ((row : Session) → row.client.0 ≡ client → with_session rows row ≡ insert rows place row)

-- the versions after an update
abbrev pub versions_after : List ObjectVersion → Update → List ObjectVersion
versions_after versions update =
    if update.object == NO_OBJECT then versions_below versions update.drop_from
    else with_version (versions_below versions update.drop_from) update.object update.stamp

-- each file comes before all files after it
abbrev pub FilesRise : List FileRow → Type 0
FilesRise [] = Unit {0}
FilesRise (row ∷ rows) = AllByRecursion (λ later. is_before row.file later.file ≡ true) rows × FilesRise rows

-- the row of the file is there; or a new one belongs there
abbrev pub IsFilePlace : List FileRow → FileId → Result ℕ ℕ → Type 0
IsFilePlace rows file (Ok place) =
    (place < length rows)
    × ((d : FileRow) → row_in rows file ≡ slice_index_or rows place d)
    × ((row : FileRow) → row.file ≡ file → with_row rows row ≡ slice_set rows place row)
    × (without_row rows file ≡ take place rows ++ drop (place + 1) rows)
IsFilePlace rows file (Err place) =
    (place ≤ length rows)
    × (row_in rows file ≡ new_row file)
    × ((row : FileRow) → row.file ≡ file → with_row rows row ≡ insert rows place row)
    × (without_row rows file ≡ rows)
