-- records from which files are removed, and what they say
use Rattle.std.specs.Prelude.{◌≡◌, ℕ, Bool, true, false, not, Some, None, List, [], ◌++◌, map, filter}
use Rattle.std.specs.List.{list_any}
use Rattle.xt_base.specs.declared.ids.FileId.{FileId}
use Rattle.xt_base.specs.declared.ids.Stamp.{Stamp}
use Rattle.xt_messages.specs.declared.record.Folded.{Folded}
use Rattle.xt_messages.specs.declared.record.Record.{Record}
use Rattle.xt_messages.specs.declared.record.Record.TheVariants as kept
use Rattle.xt_protocol.specs.FileIds.{is_file}
use Rattle.xt_protocol.specs.Folds.{body_kept, body_of, digests_kept, fold_of, logged_of, row_in, widened}
use Rattle.xt_protocol.specs.Forgetting.{folded_without, rewritten}
use Rattle.xt_protocol.specs.SeenBodies.{body_by}
use Rattle.xt_protocol.specs.Stamps.{has_version}
use Rattle.replica_records.specs.Heads.{heads_of}

-- ---- the records

-- a record for each of these files, which removes it
abbrev pub removals : List FileId → List Record
removals files = map (λ file. kept.Forget file) files

-- these records after the others
abbrev pub removed : List Record → List FileId → List Record
removed records files = records ++ removals files

-- the records, rewritten with those bodies alone that the heads of all files name
abbrev pub compacted : List Record → List Record
compacted records = rewritten (heads_of (fold_of records)) records

-- after a sweep that removes these files
abbrev pub swept : List Record → List FileId → List Record
swept records files = compacted (removed records files)

-- ---- what they say

-- whether a file is one of these
abbrev pub is_among : List FileId → FileId → Bool
is_among files file = list_any (λ gone. is_file file gone) files

-- what is said of all files but these
unfoldable pub folded_but : List FileId → Folded → Folded
folded_but files folded = record folded { files = filter (λ row. not (is_among files row.file)) folded.files }

-- of each file only those bodies that its head names
abbrev pub with_named : Folded → Folded
with_named folded = folded_without (heads_of folded) folded

-- whether the records hold this version of this object of the file
abbrev pub holds : List Record → FileId → ℕ → Stamp → Bool
holds records file object version = has_version (row_in (fold_of records).files file).held (body_of object version)

-- They say what the old ones said but for these files, and have all bodies that those had, with the digests.
pub record SaysBut (files : List FileId) (old records : List Record) : Type 0 where
  pub folds : fold_of records ≡ folded_but files (fold_of old)
  pub requests : logged_of records ≡ logged_of old
  pub bodies : (file : FileId) (object : ℕ) (version : Stamp) → body_kept records file object version ≡ body_kept old file object version
  pub digests : (file : FileId) (object : ℕ) (version : Stamp) → is_among files file ≡ false
      → digests_kept records file object version ≡ digests_kept old file object version

-- They say what the old ones said but for these files, and have those bodies alone that the heads of the other files name, with their digests.
-- None of them is of an old kind.
pub record SaysNamedBut (files : List FileId) (old records : List Record) : Type 0 where
  pub folds : fold_of records ≡ with_named (folded_but files (fold_of old))
  pub requests : logged_of records ≡ map widened (logged_of old)
  pub written : map widened records ≡ records
  pub bodies : (file : FileId) (object : ℕ) (version : Stamp) → holds records file object version ≡ true
      → body_kept records file object version ≡ Some (body_by old file object version)
  pub digests : (file : FileId) (object : ℕ) (version : Stamp) → holds records file object version ≡ true
      → digests_kept records file object version ≡ digests_kept old file object version
  pub others : (file : FileId) (object : ℕ) (version : Stamp) → holds records file object version ≡ false
      → body_kept records file object version ≡ None
  pub other_digests : (file : FileId) (object : ℕ) (version : Stamp) → holds records file object version ≡ false
      → digests_kept records file object version ≡ []
