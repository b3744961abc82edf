use Rattle.std.proofs.Common.{ℕ, [], ◌∷◌, ◌++◌, inl, inr, refl, arith}
use Rattle.journal_areas.specs.Superblocks.{superblock_bytes, IsSound}
use Rattle.journal_areas.specs.Sites.{shut_slot}
use Rattle.spec_examples.specs.Areas.{area, slot, superblock}
use Rattle.spec_examples.specs.Journals.{without}
use Rattle.spec_examples.proofs.Readings.{◌▷◌, meets, moved, second, unfit, unmoved}
use Rattle.spec_examples.proofs.disks.journals_are_rewritten.Goals as goal

none_open : (size : ℕ) → IsSound size (superblock shut_slot shut_slot)
none_open size = record {
  one = λ is. absurd (omega (arith, is));
  two = λ is. absurd (omega (arith, is));
  differ = λ one two. absurd (omega (arith, one));
}

one_open : IsSound 98 (superblock (slot 1 83) shut_slot)
one_open = record {
  one = λ is. (omega arith, omega arith);
  two = λ is. absurd (omega (arith, is));
  differ = λ one two. absurd (omega (arith, two));
}

first_newer : IsSound 113 (superblock (slot 3 83) (slot 2 98))
first_newer = record { one = λ is. (omega arith, omega arith); two = λ is. (omega arith, omega arith); differ = λ one two same. omega (arith, same) }

second_newer : IsSound 113 (superblock (slot 1 83) (slot 2 98))
second_newer = record { one = λ is. (omega arith, omega arith); two = λ is. (omega arith, omega arith); differ = λ one two same. omega (arith, same) }

pub returns-clause-rewritten : goal.returns-clause-rewritten
returns-clause-rewritten c =
    unmoved without (superblock_bytes shut_slot shut_slot) (0 ∷ []) (superblock shut_slot shut_slot) [] 0 []
    (meets without (superblock_bytes shut_slot shut_slot) (0 ∷ []) (superblock shut_slot shut_slot) refl refl refl refl refl (none_open _) refl) refl refl refl refl
    ▷ unmoved without (superblock_bytes shut_slot shut_slot) area (superblock shut_slot shut_slot) without 0 []
    (meets without (superblock_bytes shut_slot shut_slot) area (superblock shut_slot shut_slot) refl refl refl refl refl (none_open _) refl) refl refl refl refl
    ▷ moved without (superblock_bytes (slot 1 83) shut_slot) (0 ∷ area) (superblock (slot 1 83) shut_slot) (slot 1 83) without 0 []
    (meets without (superblock_bytes (slot 1 83) shut_slot) (0 ∷ area) (superblock (slot 1 83) shut_slot) refl refl refl refl refl one_open refl) refl refl refl refl
    ▷ moved without (superblock_bytes (slot 1 83) (slot 2 98)) (0 ∷ area ++ area) (superblock (slot 1 83) (slot 2 98)) (slot 2 98) without 0 []
    (meets without (superblock_bytes (slot 1 83) (slot 2 98)) (0 ∷ area ++ area) (superblock (slot 1 83) (slot 2 98)) refl refl refl refl refl second_newer refl) refl refl refl refl
    ▷ moved without (superblock_bytes (slot 3 83) (slot 2 98)) (0 ∷ area ++ area) (superblock (slot 3 83) (slot 2 98)) (slot 3 83) without 0 area
    (meets without (superblock_bytes (slot 3 83) (slot 2 98)) (0 ∷ area ++ area) (superblock (slot 3 83) (slot 2 98)) refl refl refl refl refl first_newer refl) refl refl refl refl
    ▷ tt

pub returns-clause-unsound : goal.returns-clause-unsound
returns-clause-unsound c =
    unfit without (superblock_bytes (slot 1 82) shut_slot) (0 ∷ area) refl refl refl refl refl refl refl (inr (λ sound. omega (arith, sound.one refl)))
    ▷ unfit without (superblock_bytes (slot 1 98) shut_slot) (0 ∷ area) refl refl refl refl refl refl refl (inr (λ sound. omega (arith, sound.one refl)))
    ▷ unfit without (superblock_bytes (slot 2 83) (slot 2 98)) (0 ∷ area ++ area) refl refl refl refl refl refl refl (inr (λ sound. sound.differ refl refl refl))
    ▷ unfit without (8 ∷ 0 ∷ []) (0 ∷ []) refl refl refl refl refl refl refl (inl (λ same. omega (arith, same)))
    ▷ second without (superblock_bytes shut_slot shut_slot) (0xa5 ∷ 0 ∷ 0 ∷ 0 ∷ 51 ∷ superblock_bytes shut_slot shut_slot ++ 0 ∷ []) (superblock shut_slot shut_slot)
    (superblock_bytes shut_slot shut_slot) (0 ∷ [])
    (meets without (superblock_bytes shut_slot shut_slot) (0xa5 ∷ 0 ∷ 0 ∷ 0 ∷ 51 ∷ superblock_bytes shut_slot shut_slot ++ 0 ∷ []) (superblock shut_slot shut_slot)
    refl refl refl refl refl (none_open _) refl)
    refl refl refl refl refl refl refl
    ▷ tt
