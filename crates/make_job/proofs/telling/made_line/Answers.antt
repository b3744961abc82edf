use Rattle.std.proofs.Common.{◌≡◌, ℕ, List, [], ◌∷◌, ◌++◌, append_assoc, refl}
use Rattle.std.specs.Prelude.{codes}
use Rattle.schedule_text.specs.Words.{spaced}
use Rattle.make_job.proofs.telling.made_line.Goals as goal

-- word by word
joined : (a b c d e f g h n s w r k : List ℕ)
    → a ≡ codes "make"
    → b ≡ a ++ 32 ∷ n
    → c ≡ b ++ 32 ∷ s
    → d ≡ c ++ 32 ∷ codes "writes" ++ 32 ∷ w
    → e ≡ d ++ 32 ∷ codes "reads" ++ 32 ∷ r
    → f ≡ e ++ 32 ∷ codes "commits" ++ 32 ∷ k
    → g ≡ f ++ codes " safe\n"
    → h ≡ g
    → h ≡ spaced (codes "make" ∷ n ∷ s ∷ codes "writes" ∷ w ∷ codes "reads" ∷ r ∷ codes "commits" ∷ k ∷ codes "safe" ∷ []) ++ 10 ∷ []
joined a b c d e f g h n s w r k ea eb ec ed ee ef eg eh =
    simp (eh, eg, ef, ee, ed, ec, eb, ea, append_assoc) refl

pub returns : goal.returns
returns c =
    joined _ _ _ _ _ _ _ _ _ _ _ _ _ c.in_ok-line.ensures.items c.in_ok-push_number.ensures c.in_ok-push_number-2.ensures c.in_ok-push_count.ensures
    c.in_ok-push_count-2.ensures c.in_ok-push_count-3.ensures c.in_ok-extend_from_slice.ensures.items c.in_ok-made.ensures
