-- ranges of striped files, and their pieces
use Rattle.std.specs.Prelude.{ℕ, ◌≡◌, ◌+◌, ◌↔◌, List, [], ◌∷◌, codes}
use Rattle.striping.specs.declared.Piece.{Piece}
use Rattle.striping.specs.Cover.{Covers}

pub record Range : Type 0 where
  pub stripe : ℕ
  -- how many OSDs there are
  pub width : ℕ
  pub offset : ℕ
  pub len : ℕ
  pub pieces : List Piece

abbrev pub piece : ℕ → ℕ → ℕ → ℕ → Piece
piece object at len owner = record { object = object; at = at; len = len; owner = owner }

abbrev pub in_two : Range
in_two =
    record {
      stripe = 131072;
      width = 4;
      offset = 130000;
      len = 5000;
      pieces = piece 0 130000 1072 0 ∷ piece 1 0 3928 1 ∷ [];
    }

abbrev pub empty : Range
empty = record { stripe = 131072; width = 4; offset = 130000; len = 0; pieces = [] }

abbrev pub in_four : Range
in_four =
    record {
      stripe = 1024;
      width = 3;
      offset = 1023;
      len = 2050;
      pieces = piece 0 1023 1 0 ∷ piece 1 0 1024 1 ∷ piece 2 0 1024 2 ∷ piece 3 0 1 0 ∷ [];
    }

-- the last byte that a range may have
abbrev pub last_byte : Range
last_byte =
    record {
      stripe = 1024;
      width = 9;
      offset = 281474976710655;
      len = 1;
      pieces = piece 274877906943 1023 1 3 ∷ [];
    }

-- the pieces of a range are these, and no others
abbrev pub FallsSo : Range → Type 0
FallsSo r = (pieces : List Piece) → Covers r.stripe r.width r.offset (r.offset + r.len) pieces ↔ (pieces ≡ r.pieces)

-- parts of a range's bytes
abbrev pub parts : List (List ℕ)
parts = codes "ab" ∷ [] ∷ codes "c" ∷ []
