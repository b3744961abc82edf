-- what becomes of the files of an OSD, by what the metadata server knows of them
use Rattle.std.specs.Prelude.{ℕ, ◌≡◌, ◌+◌, ◌*◌, Bool, true, false, nat_le, if◌then◌else◌, Option, Some, None, List, [], ◌∷◌, map, flat_map}
use Rattle.std.specs.List.{fold}
use Rattle.std.specs.BTreeMap.{get}
use Rattle.xt_base.specs.TimeSettings.{TimeSettings}
use Rattle.xt_base.specs.declared.ids.FileId.{FileId}
use Rattle.xt_messages.specs.Limits.{FitsFile}
use Rattle.xt_messages.specs.declared.record.FileRow.{FileRow}
use Rattle.xt_messages.specs.declared.record.Folded.{Folded}
use Rattle.xt_protocol.specs.FileIds.{file_cmp, is_file}
use Rattle.server_rows.specs.declared.TheConstants.{LIFE}
use Rattle.orphan_sweep.specs.declared.fate.Fate.{Fate}
use Rattle.orphan_sweep.specs.declared.fate.Fate.TheVariants as fate
use Rattle.orphan_sweep.specs.declared.judging.MadeFiles.{MadeFiles}

-- ---- what the metadata server knows

-- what is known of a file after an entry more: the last one of it counts
abbrev pub known_after : FileId → Option (Option ℕ) → FileId × Option ℕ → Option (Option ℕ)
known_after file known entry = if is_file entry.0 file then Some entry.1 else known

-- What these entries say of a file: nothing where the server never made it; else the clock at which it was unlinked, if it was.
unfoldable pub known_by : List (FileId × Option ℕ) → FileId → Option (Option ℕ)
known_by files file = fold (known_after file) None files

-- what a map has of a file
abbrev pub known_in : MadeFiles → FileId → Option (Option ℕ)
known_in made file = get file_cmp made.files file

-- A map has what these entries say of each file.
abbrev pub AreKnownIn : MadeFiles → List (FileId × Option ℕ) → Type 0
AreKnownIn made files = (file : FileId) → known_in made file ≡ known_by files file

-- ---- fates

-- How long after its unlinking all that was granted on a file is over, in milliseconds: the life of a capability, two leases and the drift.
abbrev pub grace : TimeSettings → ℕ
grace times = LIFE + 2 * times.lease + times.drift

-- What becomes of a file at a clock: it is unknown where it was never made, an orphan where it was unlinked so long ago, and kept else.
abbrev pub fate_by : TimeSettings → ℕ → Option (Option ℕ) → Fate
fate_by times now None = fate.Unknown
fate_by times now (Some None) = fate.Kept
fate_by times now (Some (Some unlinked)) = if nat_le (unlinked + grace times) now then fate.Orphan else fate.Kept

abbrev pub fate_of : List (FileId × Option ℕ) → TimeSettings → ℕ → FileId → Fate
fate_of files times now file = fate_by times now (known_by files file)

-- that of a row's file
abbrev pub fate_at : List (FileId × Option ℕ) → TimeSettings → ℕ → FileRow → FileId × Fate
fate_at files times now row = (row.file, fate_of files times now row.file)

-- those of all files that records speak of, in their order
abbrev pub fates_of : Folded → List (FileId × Option ℕ) → TimeSettings → ℕ → List (FileId × Fate)
fates_of folded files times now = map (fate_at files times now) folded.files

-- ---- orphans

abbrev pub is_orphan : Fate → Bool
is_orphan fate.Orphan = true
is_orphan fate.Kept = false
is_orphan fate.Unknown = false

abbrev pub orphan_if : FileId × Fate → List FileId
orphan_if entry = if is_orphan entry.1 then entry.0 ∷ [] else []

-- the files that go, in their order
abbrev pub orphans_of : List (FileId × Fate) → List FileId
orphans_of fates = flat_map orphan_if fates

-- the file of a fate can be named in a record
abbrev pub FitsFate : FileId × Fate → Type 0
FitsFate entry = FitsFile entry.0
