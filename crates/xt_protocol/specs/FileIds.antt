-- which files are the same, and their order
use Rattle.std.specs.Prelude.{Bool, ◌&&◌, ◌==◌}
use Rattle.std.specs.Str.{bytes_eq}
use Rattle.std.specs.Ordering.{ordering_then, nat_cmp, is_lt}
use Rattle.std.specs.Cmp.Lexicographic.{slice_cmp}
use Rattle.std.specs.declared.cmp.Ordering.{Ordering}
use Rattle.xt_base.specs.declared.ids.FileId.{FileId}

-- whether two files are the same: of one volume, and with one number
abbrev pub is_file : FileId → FileId → Bool
is_file a b = bytes_eq a.volume b.volume && (a.number == b.number)

-- files are ordered by their volumes, and within one by their numbers
abbrev pub file_cmp : FileId → FileId → Ordering
file_cmp a b = ordering_then (slice_cmp nat_cmp a.volume b.volume) (nat_cmp a.number b.number)

-- whether the first file comes before the second
abbrev pub is_before : FileId → FileId → Bool
is_before a b = is_lt (file_cmp a b)
