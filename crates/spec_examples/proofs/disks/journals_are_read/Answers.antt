use Rattle.std.proofs.Common.{[], ◌∷◌, drop, inl, inr, refl, arith}
use Rattle.spec_examples.specs.Journals.{two_starts, changed, half_a_start, start_and_more, without, both}
use Rattle.spec_examples.proofs.Readings.{◌▷◌, short, stand, cut}
use Rattle.spec_examples.proofs.disks.journals_are_read.Goals as goal

pub returns-clause-standing : goal.returns-clause-standing
returns-clause-standing c =
    short refl
    ▷ short refl
    ▷ short refl
    ▷ stand [] 0 (0 ∷ 0 ∷ 0 ∷ 1 ∷ 0x61 ∷ 0x62 ∷ 0x63 ∷ []) refl refl refl
    ▷ stand [] 0x37 (0 ∷ 0 ∷ 0 ∷ 1 ∷ 0x61 ∷ 0 ∷ []) refl refl refl
    ▷ stand ((0x61 ∷ []) ∷ []) 0x37 (0xa5 ∷ []) refl refl refl
    ▷ stand without 0 [] refl refl refl
    ▷ stand without 0x37 (drop 27 two_starts) refl refl refl
    ▷ stand both 0x37 [] refl refl refl
    ▷ stand (half_a_start ∷ []) 1 (drop 26 two_starts) refl refl refl
    ▷ stand (start_and_more ∷ []) 0 [] refl refl refl
    ▷ tt

pub returns-clause-damaged : goal.returns-clause-damaged
returns-clause-damaged c =
    cut [] (0 ∷ []) refl refl refl (inl (omega arith))
    ▷ cut [] (0 ∷ 0 ∷ 0 ∷ []) refl refl refl (inl (omega arith))
    ▷ cut [] (0 ∷ 0 ∷ 0 ∷ 0 ∷ 0 ∷ []) refl refl refl (inr (inl refl))
    ▷ cut [] (0 ∷ 0 ∷ 0 ∷ 1 ∷ 0x61 ∷ []) refl refl refl (inr (inr (omega arith)))
    ▷ cut [] (drop 13 (changed 13 1)) refl refl refl (inr (inr (omega arith)))
    ▷ cut [] (drop 13 (changed 14 1)) refl refl refl (inr (inr (omega arith)))
    ▷ cut [] (drop 13 (changed 15 1)) refl refl refl (inr (inr (omega arith)))
    ▷ cut [] (drop 13 (changed 16 24)) refl refl refl (inr (inr (omega arith)))
    ▷ cut without (drop 27 (changed 30 0)) refl refl refl (inr (inl refl))
    ▷ cut without (drop 27 (changed 30 10)) refl refl refl (inr (inr (omega arith)))
    ▷ cut both [] refl refl refl (inl (omega arith))
    ▷ tt
