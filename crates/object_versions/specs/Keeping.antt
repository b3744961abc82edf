-- which held bodies of a file are needed, and in which order bodies that are to be kept rise
use Rattle.std.specs.Prelude.{Bool, true, false, ◌&&◌, ◌||◌, List, map, filter}
use Rattle.std.specs.Ordering.{match_ordering}
use Rattle.xt_base.specs.declared.ids.FileId.{FileId}
use Rattle.xt_messages.specs.declared.file.ObjectVersion.{ObjectVersion}
use Rattle.xt_messages.specs.declared.record.KeepBody.{KeepBody}
use Rattle.xt_protocol.specs.FileIds.{is_file, file_cmp}
use Rattle.xt_protocol.specs.Folds.{body_of}
use Rattle.xt_protocol.specs.Stamps.{is_version, comes_before, has_version}
use Rattle.object_versions.specs.Rising.{rises}

-- the held bodies of a file that are of its head, of what its primary depends on, or staged
abbrev pub needed_among : FileId → List ObjectVersion → List ObjectVersion → List ObjectVersion → List ObjectVersion → List KeepBody
needed_among file head led staged held =
    map (λ v. record { file = file; object = v.object; version = v.version })
    (filter (λ v. has_version head v || has_version led v || has_version staged v) held)

-- a body's object and version
abbrev pub version_in : KeepBody → ObjectVersion
version_in k = body_of k.object k.version

-- whether two are the same body of the same file
abbrev pub is_body : KeepBody → KeepBody → Bool
is_body a b = is_file a.file b.file && is_version (version_in a) (version_in b)

-- bodies are ordered by file, then by object and stamp
abbrev pub body_before : KeepBody → KeepBody → Bool
body_before a b = match_ordering (file_cmp a.file b.file) true (comes_before (version_in a) (version_in b)) false

abbrev pub bodies_rise : List KeepBody → Bool
bodies_rise bodies = rises body_before bodies
