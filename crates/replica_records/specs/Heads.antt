-- the bodies that heads name
use Rattle.std.specs.Prelude.{List, map, flat_map}
use Rattle.xt_messages.specs.declared.record.FileRow.{FileRow}
use Rattle.xt_messages.specs.declared.record.Folded.{Folded}
use Rattle.xt_messages.specs.declared.record.KeepBody.{KeepBody}

-- the versions of a row's head, as bodies of its file
abbrev pub named_by : FileRow → List KeepBody
named_by row = map (λ v. record { file = row.file; object = v.object; version = v.version }) row.head.versions

-- The bodies that the heads of these files name, file by file.
abbrev pub heads_of : Folded → List KeepBody
heads_of folded = flat_map named_by folded.files
