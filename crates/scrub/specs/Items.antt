-- which bodies are checked, and against which digests
use Rattle.std.specs.Prelude.{ℕ, ◌-◌, Option, List, length, map, flat_map, slice_get}
use Rattle.xt_base.specs.declared.ids.FileId.{FileId}
use Rattle.xt_messages.specs.declared.file.ObjectVersion.{ObjectVersion}
use Rattle.xt_messages.specs.declared.record.FileRow.{FileRow}
use Rattle.xt_messages.specs.declared.record.Folded.{Folded}
use Rattle.xt_messages.specs.declared.record.Record.{Record}
use Rattle.xt_protocol.specs.Folds.{digests_kept}
use Rattle.scrub.specs.declared.listing.Item.{Item}

-- the last one of these digests, if there are any
abbrev pub last_of : List (List ℕ) → Option (List ℕ)
last_of digests = slice_get digests (length digests - 1)

-- a body that is to be checked, with the last digest that these records keep of it
abbrev pub item_of : List Record → FileId → ObjectVersion → Item
item_of records file v = record { file = file; object = v.object; version = v.version; seal = last_of (digests_kept records file v.object v.version) }

-- the versions that a row's head names, by object
abbrev pub items_of_row : List Record → FileRow → List Item
items_of_row records row = map (item_of records row.file) row.head.versions

-- One item for each version that a head names, by file and object.
unfoldable pub items_of : Folded → List Record → List Item
items_of folded records = flat_map (items_of_row records) folded.files
