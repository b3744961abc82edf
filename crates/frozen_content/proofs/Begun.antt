-- Each write of a file's order had begun, where each write had begun before it was put there.
use Rattle.std.proofs.Common.{◌≡◌, ℕ, ◌+◌, inl, inr, List, [], ◌∷◌, ◌++◌, length, refl, ap, sym, ◌∙◌, subst, arith, append_assoc, Option, Some, None, Bool, true, false}
use Rattle.std.specs.Prelude.{slice_get, ◌==◌, if◌then◌else◌}
use Rattle.std.proofs.lemmas.Bool.Decides.{nat_tests}
use Rattle.std.proofs.lemmas.List.{append-nil}
use Rattle.xt_base.specs.declared.ids.OpId.{OpId}
use Rattle.time_line.specs.declared.entry.Entry.{Entry}
use Rattle.time_line.specs.TimeLine.{operation_begun, Claim, claim_on, order_by, write_order}
use Rattle.time_line.specs.Clauses.{HasBegunOn, AreOnce}
use Rattle.judging.proofs.Entries.{get-push, begun_on-grown, order-push}
use Rattle.judging.proofs.Fresh.{change_begun}

-- so it is of these entries
abbrev AllBegun : ℕ → List Entry → Type 0
AllBegun file xs = (i : ℕ) (id : OpId) → slice_get (write_order file xs) i ≡ Some id → HasBegunOn file xs id

-- two equal counts
counted : (a b : ℕ) → (a == b) ≡ true → a ≡ b
counted a b h = grind (arith, nat_tests)

module _ (file : ℕ) (es : List Entry) (once : AreOnce file es) where
  -- an entry more puts no write into the order, or one that had begun
  one_more : (xs tail : List Entry) (e : Entry) → es ≡ xs ++ e ∷ tail → AllBegun file xs → AllBegun file (xs ++ e ∷ [])
  one_more xs tail e split all i id at = begun_on-grown file xs (e ∷ []) id (by_claim (claim_on file e) refl (sym (ap (λ o. slice_get o i) (order-push file xs e)) ∙ at))
    where
      by_claim : (o : Option Claim) → claim_on file e ≡ o → slice_get (order_by (write_order file xs) o) i ≡ Some id → HasBegunOn file xs id
      by_claim None is at = all i id at
      by_claim (Some claim) is at = by_count (claim.count == length (write_order file xs) + 1) refl at
        where
          by_count : (b : Bool) → (claim.count == length (write_order file xs) + 1) ≡ b → slice_get (if b then write_order file xs ++ claim.id ∷ [] else write_order file xs) i ≡ Some id → HasBegunOn file xs id
          by_count false test at = all i id at
          by_count true test at =
              elim (get-push (write_order file xs) claim.id i id at) [
                | inl h ↦ all i id h
                | inr same ↦
                    subst (HasBegunOn file xs) same
                    (change_begun (operation_begun file xs claim.id) (once.begun xs e claim (tail, split) is (counted claim.count (length (write_order file xs) + 1) test)))
              ]

  more : (xs ys tail : List Entry) → es ≡ xs ++ (ys ++ tail) → AllBegun file xs → AllBegun file (xs ++ ys)
  more xs [] tail split all = subst (AllBegun file) (sym (append-nil xs)) all
  more xs (y ∷ ys) tail split all =
      let moved : xs ++ y ∷ (ys ++ tail) ≡ (xs ++ y ∷ []) ++ (ys ++ tail) = sym (append_assoc xs (y ∷ []) (ys ++ tail)) in
      subst (AllBegun file) (append_assoc xs (y ∷ []) ys) (more (xs ++ y ∷ []) ys tail (split ∙ moved) (one_more xs (ys ++ tail) y split all))

  none_first : AllBegun file []
  unfolding write_order
  none_first i id at = absurd cc

  pub all_begun : (front tail : List Entry) → es ≡ front ++ tail → (i : ℕ) (id : OpId) → slice_get (write_order file front) i ≡ Some id → HasBegunOn file front id
  all_begun front tail split = more [] front tail split none_first
