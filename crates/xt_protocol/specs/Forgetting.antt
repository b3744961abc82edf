-- Which held bodies an OSD needs, what it is once it has forgotten the others, and the records that say so.
use Rattle.std.specs.Prelude.{ℕ, Bool, ◌&&◌, ◌||◌, Option, Some, None, List, [], ◌∷◌, ◌++◌, map, filter, flat_map}
use Rattle.std.specs.List.{list_any}
use Rattle.xt_base.specs.declared.ids.NodeId.{NodeId}
use Rattle.xt_base.specs.declared.ids.FileId.{FileId}
use Rattle.xt_base.specs.declared.ids.Stamp.{Stamp}
use Rattle.xt_messages.specs.declared.file.FileHead.{FileHead}
use Rattle.xt_messages.specs.declared.file.Location.{Location}
use Rattle.xt_messages.specs.declared.file.ObjectVersion.{ObjectVersion}
use Rattle.xt_messages.specs.declared.record.FileRow.{FileRow}
use Rattle.xt_messages.specs.declared.record.Folded.{Folded}
use Rattle.xt_messages.specs.declared.record.KeepBody.{KeepBody}
use Rattle.xt_messages.specs.declared.record.Record.{Record}
use Rattle.xt_messages.specs.declared.record.Record.TheVariants as kept
use Rattle.xt_protocol.specs.FileIds.{is_file}
use Rattle.xt_protocol.specs.Folds.{body_of, digests_kept, fold_of, logged_of, widened}
use Rattle.xt_protocol.specs.Stamps.{is_version, has_version}
use Rattle.xt_protocol.specs.SeenBodies.{body_by}
use Rattle.xt_protocol.specs.declared.states.Peer.{Peer}
use Rattle.xt_protocol.specs.declared.states.Progress.{Progress}
use Rattle.xt_protocol.specs.declared.states.Progress.TheVariants as progress
use Rattle.xt_protocol.specs.declared.states.Tenure.{Tenure}
use Rattle.xt_protocol.specs.Primaries.{peer_in, reported}
use Rattle.xt_protocol.specs.FileStates.{FileState}
use Rattle.xt_protocol.specs.OsdSteps.{OsdState}

-- ---- which bodies are needed

abbrev pub versions_if : Option FileHead → List ObjectVersion
versions_if None = []
versions_if (Some head) = head.versions

-- the versions that a primary needs: those of the own head that it has counted, of the head that it has chosen, or of the
-- committed one
abbrev pub versions_led : NodeId → List Peer → Progress → List ObjectVersion
versions_led n peers progress.Gathering = versions_if (reported (peer_in peers n))
versions_led n peers (progress.Fetching chosen source asked later) = chosen.versions
versions_led n peers (progress.Installing chosen acked) = chosen.versions
versions_led n peers (progress.Active committed issued) = committed.versions

abbrev pub versions_under : NodeId → Option Tenure → List ObjectVersion
versions_under n None = []
versions_under n (Some t) = versions_led n t.peers t.progress

-- a version of the file's head, one that its primary needs, or one that was staged since the file's last head or update
abbrev pub is_needed : NodeId → FileState → ObjectVersion → Bool
is_needed n s v = has_version s.kept.head.versions v || has_version (versions_under n s.primary.tenure) v || has_version s.staged v

-- the bodies of a file that are held and needed
abbrev pub needed_of : NodeId → FileState → List KeepBody
needed_of n s = map (λ v. record { file = s.kept.file; object = v.object; version = v.version }) (filter (is_needed n s) s.kept.held)

-- The held bodies that an OSD needs, file by file.
unfoldable pub keep_of : OsdState → List KeepBody
keep_of s = flat_map (needed_of s.started.node) s.files

-- ---- what is there without the others

-- whether this body is among those
abbrev pub is_kept : List KeepBody → FileId → ObjectVersion → Bool
is_kept keep file v = list_any (λ k. is_file k.file file && is_version (body_of k.object k.version) v) keep

abbrev pub row_without : List KeepBody → FileRow → FileRow
row_without keep row = record row { held = filter (is_kept keep row.file) row.held }

abbrev pub file_without : List KeepBody → FileState → FileState
file_without keep s = record s { kept = row_without keep s.kept }

-- The OSD once it has forgotten the bodies that aren't among these.
unfoldable pub osd_without : List KeepBody → OsdState → OsdState
osd_without keep s = record s { files = map (file_without keep) s.files }

-- what records say without those bodies
unfoldable pub folded_without : List KeepBody → Folded → Folded
folded_without keep folded = record folded { files = map (row_without keep) folded.files }

-- ---- the records that say so

abbrev pub view_of : FileId → Option Location → List Record
view_of file None = []
view_of file (Some location) = kept.View file location ∷ []

abbrev pub close_of : FileId → Option ℕ → List Record
close_of file None = []
close_of file (Some version) = kept.Close file version ∷ []

abbrev pub stage_of : (FileId → ℕ → Stamp → List ℕ) → FileId → ObjectVersion → Record
stage_of body file v = kept.Stage file v.object v.version (body file v.object v.version)

-- for each digest of a body the record that keeps it
abbrev pub seals_of : (FileId → ℕ → Stamp → List (List ℕ)) → FileId → ObjectVersion → List Record
seals_of digests file v = map (λ digest. kept.Seal file v.object v.version digest) (digests file v.object v.version)

-- the body, and then its digests
abbrev pub sealed_stage_of : (FileId → ℕ → Stamp → List ℕ) → (FileId → ℕ → Stamp → List (List ℕ)) → FileId → ObjectVersion → List Record
sealed_stage_of body digests file v = stage_of body file v ∷ seals_of digests file v

-- what says of a file what this row says: its list, which list is closed, its bodies, each with its digests after it, and its head
abbrev pub records_of_row : (FileId → ℕ → Stamp → List ℕ) → (FileId → ℕ → Stamp → List (List ℕ)) → FileRow → List Record
records_of_row body digests row =
    view_of row.file row.location ++ close_of row.file row.closed ++ flat_map (sealed_stage_of body digests row.file) row.held
    ++ kept.Head row.file row.head ∷ []

-- these of all files
abbrev pub records_of_rows : (FileId → ℕ → Stamp → List ℕ) → (FileId → ℕ → Stamp → List (List ℕ)) → List FileRow → List Record
records_of_rows body digests rows = flat_map (records_of_row body digests) rows

-- The records that say what these say, none of them of an old kind, but for the bodies that aren't among those: the last start, the requests in their order,
-- and then file by file its list, its kept bodies, each with its digests after it, and its head.
unfoldable pub rewritten : List KeepBody → List Record → List Record
rewritten keep records =
    kept.Boot (fold_of records).boot ∷ map widened (logged_of records)
    ++ records_of_rows (body_by records) (digests_kept records) (map (row_without keep) (fold_of records).files)
