-- how a range of a striped file falls into pieces
use Rattle.std.specs.Prelude.{ℕ, List, [], ◌∷◌, ◌≡◌, ◌≤◌, ◌<◌, ◌+◌, ◌*◌, ◌%◌}
use Rattle.time_line.specs.Content.{place_of, range_of}
use Rattle.striping.specs.declared.Piece.{Piece}

-- A piece of a range that goes on from this byte of the file to that end: it begins at the byte, lies in one object, has all of
-- the object that is left unless the range ends before, and is the object's owner's.
pub record IsPieceFrom (stripe width from end : ℕ) (piece : Piece) : Type 0 where
  pub begins : place_of stripe piece.object piece.at ≡ from
  pub some : 1 ≤ piece.len
  pub within : from + piece.len ≤ end
  pub inside : piece.at + piece.len ≤ stripe
  pub whole : from + piece.len < end → piece.at + piece.len ≡ stripe
  pub owned : piece.owner ≡ piece.object % width

-- these pieces are the bytes of the file from here to the end: each begins where the one before it ends
abbrev pub Covers : ℕ → ℕ → ℕ → ℕ → List Piece → Type 0
Covers stripe width from end [] = from ≡ end
Covers stripe width from end (piece ∷ pieces) =
    IsPieceFrom stripe width from end piece × Covers stripe width (from + piece.len) end pieces

-- an object's bytes, of a file with this content
abbrev pub object_of : ℕ → List ℕ → ℕ → List ℕ
object_of stripe content object = range_of content (object * stripe) stripe

-- a piece's bytes
abbrev pub bytes_of : ℕ → List ℕ → Piece → List ℕ
bytes_of stripe content piece = range_of (object_of stripe content piece.object) piece.at piece.len
