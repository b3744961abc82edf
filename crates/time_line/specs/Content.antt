-- the content of a file, as a flat list of bytes
use Rattle.std.specs.Prelude.{ℕ, List, [], ◌∷◌, ◌+◌, ◌*◌, take, drop}
use Rattle.xt_messages.specs.declared.file.Op.{Op}
use Rattle.xt_messages.specs.declared.file.Op.TheVariants.{Read, Write, Truncate}
use Rattle.xt_base.specs.Overlay.{overlay, cut_or_filled}

-- where a place of an object lies in the file
abbrev pub place_of : ℕ → ℕ → ℕ → ℕ
place_of stripe object at = object * stripe + at

-- the content after an operation: a write puts its bytes at their place, with zeros up to it; a truncation cuts or
-- fills the file to its size; a read changes nothing
abbrev pub content_after : ℕ → List ℕ → Op → List ℕ
content_after stripe content (Read object at len) = content
content_after stripe content (Write object at bytes) = overlay content (place_of stripe object at) bytes
content_after stripe content (Truncate size) = cut_or_filled content size

-- the content after these operations, the first of them first
unfoldable pub content_from : ℕ → List ℕ → List Op → List ℕ
content_from stripe content [] = content
content_from stripe content (op ∷ ops) = content_from stripe (content_after stripe content op) ops

-- the content of a list of operations: a file begins empty
abbrev pub content_of : ℕ → List Op → List ℕ
content_of stripe ops = content_from stripe [] ops

-- the bytes from a place on, as many as asked for and as there are
abbrev pub range_of : List ℕ → ℕ → ℕ → List ℕ
range_of content from len = take len (drop from content)
