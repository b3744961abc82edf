-- ranges, and pieces into which they fall
use Rattle.std.proofs.Common.{◌≡◌, ℕ, ◌+◌, ◌*◌, ◌%◌, ◌≤◌, ◌⊎◌, sym, subst, arith, ⊎_elim}
use Rattle.striping.specs.declared.Piece.{Piece}
use Rattle.striping.specs.Cover.{IsPieceFrom, Covers}
use Rattle.striping.proofs.OneCover.{same_pieces}
use Rattle.spec_examples.specs.Ranges.{Range, FallsSo}

pub falls : (r : Range) → Covers r.stripe r.width r.offset (r.offset + r.len) r.pieces → FallsSo r
falls r covers pieces = (
  λ other. same_pieces r.stripe r.width r.offset (r.offset + r.len) pieces r.pieces other covers,
  λ same. subst (Covers r.stripe r.width r.offset (r.offset + r.len)) (sym same) covers,
)

-- a piece that goes on to the end of its object or of the range
pub is_piece : (stripe width from end : ℕ) (p : Piece) → p.object * stripe + p.at ≡ from → 1 ≤ p.len
    → from + p.len ≤ end → p.at + p.len ≤ stripe → (from + p.len ≡ end) ⊎ (p.at + p.len ≡ stripe)
    → p.owner ≡ p.object % width → IsPieceFrom stripe width from end p
is_piece stripe width from end p begins some within inside ends owned =
    record {
      begins = begins;
      some = some;
      within = within;
      inside = inside;
      whole = λ less. ⊎_elim (λ (at_end : from + p.len ≡ end). absurd (omega arith)) (λ whole. whole) ends;
      owned = owned;
    }
