-- What the records of a node say: its last start, and the row of each file; and which of them are of requests.
use Rattle.std.specs.Prelude.{ℕ, Bool, not, ◌&&◌, ◌==◌, ◌≡◌, ◌⊎◌, ◌+◌, true, false, if◌then◌else◌, Option, Some, None, List, [], ◌∷◌, ◌++◌, filter, Contains}
use Rattle.std.specs.List.{fold, All}
use Rattle.xt_messages.specs.Limits.{FitsHead, is_at_most}
use Rattle.xt_base.specs.declared.ids.FileId.{FileId}
use Rattle.xt_base.specs.declared.ids.Stamp.{Stamp}
use Rattle.xt_messages.specs.declared.file.ObjectVersion.{ObjectVersion}
use Rattle.xt_messages.specs.declared.file.FileHead.{FileHead}
use Rattle.xt_messages.specs.declared.file.Update.{Update}
use Rattle.xt_messages.specs.declared.record.Record.{Record}
use Rattle.xt_messages.specs.declared.record.Record.TheVariants as kept
use Rattle.xt_messages.specs.declared.record.FileRow.{FileRow}
use Rattle.xt_messages.specs.declared.record.Folded.{Folded}
use Rattle.xt_base.specs.declared.TheConstants.{NO_OBJECT}
use Rattle.xt_protocol.specs.FileIds.{is_file, is_before}
use Rattle.xt_protocol.specs.Heads.{first_epoch, new_head, head_installed, head_after}
use Rattle.xt_protocol.specs.Stamps.{is_stamp, with_held}

-- ---- one file

-- what a file begins as: nothing is written, held or known of it
abbrev pub new_row : FileId → FileRow
new_row file = record { file = file; head = new_head; held = []; location = None; closed = None }

-- a body that is held
abbrev pub body_of : ℕ → Stamp → ObjectVersion
body_of object version = record { object = object; version = version }

-- the held bodies after an update: the one that it makes is among them, where it makes one
abbrev pub held_after : List ObjectVersion → Update → List ObjectVersion
held_after held update = if update.object == NO_OBJECT then held else with_held held (body_of update.object update.stamp)

-- the row of a file after a record of it
abbrev pub row_after : FileRow → Record → FileRow
row_after row (kept.Promise file epoch) = record row { head = record row.head { promised = epoch } }
row_after row (kept.Update file update) = record row { head = head_after row.head update; held = held_after row.held update }
row_after row (kept.Stage file object version bytes) = record row { held = with_held row.held (body_of object version) }
row_after row (kept.Head file head) = record row { head = head }
row_after row (kept.View file location) = record row { location = Some location }
row_after row (kept.Boot boot) = row
row_after row (kept.Meta from number now nodes request) = row
row_after row (kept.Close file version) = record row { closed = Some version }
row_after row (kept.Install file location head) = record row { head = head_installed row.head head; location = Some location }
row_after row (kept.Choice file location head source) = row
row_after row (kept.Listed file version) = row
row_after row (kept.Seal file object version digest) = row
row_after row (kept.Forget file) = new_row row.file
row_after row (kept.OldUpdate file update) = record row { head = head_after row.head update; held = held_after row.held update }
row_after row (kept.OldStage file object version bytes) = record row { held = with_held row.held (body_of object version) }
row_after row (kept.OldHead file head) = record row { head = head }
row_after row (kept.OldInstall file location head) = record row { head = head_installed row.head head; location = Some location }
row_after row (kept.OldChoice file location head source) = row

-- the file whose row a record changes, if any
abbrev pub file_of : Record → Option FileId
file_of (kept.Promise file epoch) = Some file
file_of (kept.Update file update) = Some file
file_of (kept.Stage file object version bytes) = Some file
file_of (kept.Head file head) = Some file
file_of (kept.View file location) = Some file
file_of (kept.Boot boot) = None
file_of (kept.Meta from number now nodes request) = None
file_of (kept.Close file version) = Some file
file_of (kept.Install file location head) = Some file
file_of (kept.Choice file location head source) = None
file_of (kept.Listed file version) = None
file_of (kept.Seal file object version digest) = None
file_of (kept.Forget file) = Some file
file_of (kept.OldUpdate file update) = Some file
file_of (kept.OldStage file object version bytes) = Some file
file_of (kept.OldHead file head) = Some file
file_of (kept.OldInstall file location head) = Some file
file_of (kept.OldChoice file location head source) = None

-- whether a record removes its file
abbrev pub forgets : Record → Bool
forgets (kept.Forget file) = true
forgets _ = false

-- ---- all files

-- the row of a file: a new one where there is none
unfoldable pub row_in : List FileRow → FileId → FileRow
row_in [] file = new_row file
row_in (r ∷ rs) file = if is_file r.file file then r else row_in rs file

-- the rows with this one, in its place
unfoldable pub with_row : List FileRow → FileRow → List FileRow
with_row [] row = row ∷ []
with_row (r ∷ rs) row =
    if is_file r.file row.file then row ∷ rs else if is_before row.file r.file then row ∷ r ∷ rs else r ∷ with_row rs row

-- the rows without that of a file
unfoldable pub without_row : List FileRow → FileId → List FileRow
without_row rows file = filter (λ r. not (is_file r.file file)) rows

-- the rows after a record
abbrev pub rows_after : List FileRow → Record → Option FileId → List FileRow
rows_after rows rec None = rows
rows_after rows rec (Some file) =
    if forgets rec then without_row rows file else with_row rows (row_after (row_in rows file) rec)

-- the last start after a record
abbrev pub boot_after : ℕ → Record → ℕ
boot_after boot (kept.Boot b) = b.0
boot_after boot _ = boot

abbrev pub folded_after : Folded → Record → Folded
folded_after folded rec =
    record { boot = record { 0 = boot_after folded.boot.0 rec }; files = rows_after folded.files rec (file_of rec) }

-- before the first record
abbrev pub nothing_kept : Folded
nothing_kept = record { boot = record { 0 = 0 }; files = [] }

-- What these records say, the first of them first.
unfoldable pub fold_of : List Record → Folded
fold_of records = fold folded_after nothing_kept records

-- ---- recorded requests

-- whether the record is of a request, or of the change of a list that a request began
abbrev pub is_logged : Record → Bool
is_logged (kept.Meta from number now nodes request) = true
is_logged (kept.Choice file location head source) = true
is_logged (kept.Listed file version) = true
is_logged (kept.OldChoice file location head source) = true
is_logged _ = false

-- The records of requests among these, in their order. No fold contains them: wherever folds are compared, the records of
-- requests in their order belong to what is compared.
unfoldable pub logged_of : List Record → List Record
logged_of records = filter is_logged records

-- ---- old kinds

-- the same record of the kind that is written now
abbrev pub widened : Record → Record
widened (kept.OldUpdate file update) = kept.Update file update
widened (kept.OldStage file object version bytes) = kept.Stage file object version bytes
widened (kept.OldHead file head) = kept.Head file head
widened (kept.OldInstall file location head) = kept.Install file location head
widened (kept.OldChoice file location head source) = kept.Choice file location head source
widened rec = rec

-- ---- which records may follow

-- an update may follow where its epoch is the promised one, or the one before any primary, its count is the next one, and
-- the head after it is within its limits
abbrev pub FollowsHead : FileHead → Update → Type 0
FollowsHead head update =
    ((update.stamp.epoch ≡ head.promised) ⊎ (update.stamp.epoch ≡ first_epoch))
    × (update.stamp.count ≡ head.stamp.count + 1)
    × FitsHead (head_after head update)

-- A promise isn't below the one before, an update follows the head, and each version that a head names is held. Any other
-- record can come at any time.
abbrev pub IsInPlace : Folded → Record → Type 0
IsInPlace folded (kept.Promise file epoch) = is_at_most (row_in folded.files file).head.promised epoch ≡ true
IsInPlace folded (kept.Update file update) = FollowsHead (row_in folded.files file).head update
IsInPlace folded (kept.Head file head) = All (Contains (row_in folded.files file).held) head.versions
IsInPlace folded (kept.Stage file object version bytes) = Unit {0}
IsInPlace folded (kept.View file location) = Unit {0}
IsInPlace folded (kept.Boot boot) = Unit {0}
IsInPlace folded (kept.Meta from number now nodes request) = Unit {0}
IsInPlace folded (kept.Close file version) = Unit {0}
IsInPlace folded (kept.Install file location head) = All (Contains (row_in folded.files file).held) head.versions
IsInPlace folded (kept.Choice file location head source) = Unit {0}
IsInPlace folded (kept.Listed file version) = Unit {0}
IsInPlace folded (kept.Seal file object version digest) = Unit {0}
IsInPlace folded (kept.Forget file) = Unit {0}
IsInPlace folded (kept.OldUpdate file update) = FollowsHead (row_in folded.files file).head update
IsInPlace folded (kept.OldStage file object version bytes) = Unit {0}
IsInPlace folded (kept.OldHead file head) = All (Contains (row_in folded.files file).held) head.versions
IsInPlace folded (kept.OldInstall file location head) = All (Contains (row_in folded.files file).held) head.versions
IsInPlace folded (kept.OldChoice file location head source) = Unit {0}

-- each record is in its place after those before it
abbrev pub AreInPlace : Folded → List Record → Type 0
AreInPlace folded [] = Unit {0}
AreInPlace folded (rec ∷ recs) = IsInPlace folded rec × AreInPlace (folded_after folded rec) recs

-- ---- bodies

-- whether an update makes this version of this object: one without an object makes no body
abbrev pub makes_body : Update → ℕ → Stamp → Bool
makes_body update object version =
    not (update.object == NO_OBJECT) && (update.object == object) && is_stamp update.stamp version

-- the body that a record puts for this version of this object of the file
abbrev pub body_put : FileId → ℕ → Stamp → Record → Option (List ℕ)
body_put file object version (kept.Update f update) =
    if is_file f file && makes_body update object version then Some update.body else None
body_put file object version (kept.Stage f o v bytes) =
    if is_file f file && (o == object) && is_stamp v version then Some bytes else None
body_put file object version (kept.OldUpdate f update) =
    if is_file f file && makes_body update object version then Some update.body else None
body_put file object version (kept.OldStage f o v bytes) =
    if is_file f file && (o == object) && is_stamp v version then Some bytes else None
body_put file object version _ = None

-- what is kept after a record: the body that it puts, else the one before
abbrev pub newer : Option (List ℕ) → Option (List ℕ) → Option (List ℕ)
newer before None = before
newer before (Some bytes) = Some bytes

abbrev pub body_after : FileId → ℕ → Stamp → Option (List ℕ) → Record → Option (List ℕ)
body_after file object version before rec = newer before (body_put file object version rec)

-- What these records keep as this version of this object of the file: what the last of them put, none where none did.
unfoldable pub body_kept : List Record → FileId → ℕ → Stamp → Option (List ℕ)
body_kept records file object version = fold (body_after file object version) None records

-- ---- digests

-- the digests of this version of this object of the file after a record: one more after its Seal, and none once its file is removed
abbrev pub digests_after : FileId → ℕ → Stamp → List (List ℕ) → Record → List (List ℕ)
digests_after file object version digests (kept.Seal f o v digest) =
    if is_file f file && (o == object) && is_stamp v version then digests ++ digest ∷ [] else digests
digests_after file object version digests (kept.Forget f) = if is_file f file then [] else digests
digests_after file object version digests _ = digests

-- The digests that these records keep of this version of this object of the file, in their order: those since its file was
-- removed last. The last one counts.
unfoldable pub digests_kept : List Record → FileId → ℕ → Stamp → List (List ℕ)
digests_kept records file object version = fold (digests_after file object version) [] records
