-- the content of a file after so many of its writes
use Rattle.std.specs.Prelude.{ℕ, ◌≡◌, ◌≤◌, Some, List, length, take}
use Rattle.std.specs.List.{filter_map}
use Rattle.xt_base.specs.declared.ids.OpId.{OpId}
use Rattle.xt_messages.specs.declared.file.Op.TheVariants as op
use Rattle.time_line.specs.Content.{content_of}
use Rattle.time_line.specs.TimeLine.{operation_begun, stripe_of, write_order}
use Rattle.time_line.specs.declared.entry.Entry.{Entry}
use Rattle.striping.specs.Cover.{object_of}

-- The content after the first so many writes of the file's order, each with the operation of its call.
abbrev pub frozen : ℕ → List Entry → ℕ → List ℕ
frozen file entries count =
    content_of (stripe_of file entries) (filter_map (operation_begun file entries) (take count (write_order file entries)))

-- The call reads a whole object of the file: from its first byte on, as many as it may have.
abbrev pub ReadsWhole : ℕ → List Entry → OpId → ℕ → Type 0
ReadsWhole file entries id object = operation_begun file entries id ≡ Some (op.Read object 0 (stripe_of file entries))

-- There are so many writes, and these are the object's bytes in the content after them.
pub record ShowsFrozen (file : ℕ) (entries : List Entry) (object count : ℕ) (bytes : List ℕ) : Type 0 where
  pub there : count ≤ length (write_order file entries)
  pub bytes_are : bytes ≡ object_of (stripe_of file entries) (frozen file entries count) object
