use Rattle.std.proofs.Common.{refl, arith, inl, inr}
use Rattle.spec_examples.specs.Ranges.{in_two, empty, in_four, last_byte}
use Rattle.spec_examples.proofs.Cuts.{falls, is_piece}
use Rattle.spec_examples.proofs.placing.ranges_fall_into_pieces.Goals as goal

pub returns-clause-two : goal.returns-clause-two
returns-clause-two c =
    falls in_two (
      is_piece _ _ _ _ _ refl (omega arith) (omega arith) (omega arith) (inr refl) refl,
      (is_piece _ _ _ _ _ refl (omega arith) (omega arith) (omega arith) (inl refl) refl, refl),
    )

pub returns-clause-none : goal.returns-clause-none
returns-clause-none c = falls empty refl

pub returns-clause-four : goal.returns-clause-four
returns-clause-four c =
    falls in_four (
      is_piece _ _ _ _ _ refl (omega arith) (omega arith) (omega arith) (inr refl) refl,
      (
        is_piece _ _ _ _ _ refl (omega arith) (omega arith) (omega arith) (inr refl) refl,
        (
          is_piece _ _ _ _ _ refl (omega arith) (omega arith) (omega arith) (inr refl) refl,
          (is_piece _ _ _ _ _ refl (omega arith) (omega arith) (omega arith) (inl refl) refl, refl),
        ),
      ),
    )

pub returns-clause-last : goal.returns-clause-last
returns-clause-last c =
    falls last_byte (is_piece _ _ _ _ _ refl (omega arith) (omega arith) (omega arith) (inl refl) refl, refl)
