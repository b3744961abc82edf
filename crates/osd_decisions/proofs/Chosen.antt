-- the best of the reports so far, and of all
use Rattle.std.proofs.Common.{◌≡◌, ℕ, zero, suc, ◌+◌, ◌-◌, ◌<◌, ◌≤◌, true, false, List, [], ◌∷◌, length, get_or, take, drop, refl, ap, sym, subst, ◌∙◌, arith, Some}
use Rattle.std.specs.Prelude.{slice_get}
use Rattle.std.specs.List.{best_of}
use Rattle.std.proofs.lemmas.List.{get_or_default}
use Rattle.std.proofs.lemmas.List.MinMax.{best_of_keeps, best_of_takes}
use Rattle.xt_base.specs.declared.ids.NodeId.{NodeId}
use Rattle.xt_messages.specs.declared.file.FileHead.{FileHead}
use Rattle.xt_protocol.specs.Choice.{is_better, chosen_of}
use Rattle.osd_decisions.specs.Reports.{best_report}

abbrev pub Report : Type 0
Report = NodeId × FileHead

module _ (own : NodeId) where
  -- the report at a place is the best of those before this one
  abbrev pub IsBest : List Report → ℕ → ℕ → Type 0
  IsBest reports place best = (d : Report) → get_or reports best d ≡ best_of (is_better own) (get_or reports 0 d) (take (place - 1) (drop 1 reports))

  pub takes : (reports : List Report) (place best : ℕ) → 0 < place → place < length reports → IsBest reports place best
      → ((d : Report) → is_better own (get_or reports place d) (get_or reports best d) ≡ true) → IsBest reports (place + 1) place
  takes [] place best some lt so_far better d = absurd (omega arith)
  takes (r ∷ rs) zero best some lt so_far better d = absurd (omega arith)
  takes (r ∷ rs) (suc p) best some lt so_far better d =
      let before : suc p - 1 ≡ p = omega arith in
      let after : suc p + 1 - 1 ≡ p + 1 = omega arith in
      let old : get_or (r ∷ rs) best d ≡ best_of (is_better own) r (take p rs) = subst (λ n. get_or (r ∷ rs) best d ≡ best_of (is_better own) r (take n rs)) before (so_far d) in
      subst (λ n. get_or rs p d ≡ best_of (is_better own) r (take n rs)) (sym after)
      (best_of_takes (is_better own) r rs p (get_or rs p d) (get_or (r ∷ rs) best d) (omega arith) (get_or_default rs p d (get_or rs p d) (omega arith)) old (better d))

  pub keeps : (reports : List Report) (place best : ℕ) → 0 < place → place < length reports → IsBest reports place best
      → ((d : Report) → is_better own (get_or reports place d) (get_or reports best d) ≡ false) → IsBest reports (place + 1) best
  keeps [] place best some lt so_far better d = absurd (omega arith)
  keeps (r ∷ rs) zero best some lt so_far better d = absurd (omega arith)
  keeps (r ∷ rs) (suc p) best some lt so_far better d =
      let before : suc p - 1 ≡ p = omega arith in
      let after : suc p + 1 - 1 ≡ p + 1 = omega arith in
      let old : get_or (r ∷ rs) best d ≡ best_of (is_better own) r (take p rs) = subst (λ n. get_or (r ∷ rs) best d ≡ best_of (is_better own) r (take n rs)) before (so_far d) in
      subst (λ n. get_or (r ∷ rs) best d ≡ best_of (is_better own) r (take n rs)) (sym after)
      (best_of_keeps (is_better own) r rs p (get_or rs p d) (get_or (r ∷ rs) best d) (omega arith) (get_or_default rs p d (get_or rs p d) (omega arith)) old (better d))

  some_at : (reports : List Report) (i : ℕ) (d : Report) → i < length reports → slice_get reports i ≡ Some (get_or reports i d)
  some_at [] i d lt = absurd (omega arith)
  some_at (r ∷ rs) zero d lt = refl
  some_at (r ∷ rs) (suc i) d lt = some_at rs i d (omega arith)

  pub best_found : (reports : List Report) (place best : ℕ) → 0 < length reports → length reports ≤ place → best < length reports → IsBest reports place best → slice_get reports best ≡ best_report own reports
  unfolding chosen_of
  best_found [] place best some le lt all = absurd (omega arith)
  best_found (r ∷ rs) place best some le lt all =
      some_at (r ∷ rs) best r lt ∙ ap Some (all r)
      ∙ ap (λ xs. Some (best_of (is_better own) r xs)) (take_all rs (place - 1) (omega arith))
    where
      take_all : {X : Type 0} (xs : List X) (n : ℕ) → length xs ≤ n → take n xs ≡ xs
      take_all [] zero le = refl
      take_all [] (suc n) le = refl
      take_all (x ∷ xs) zero le = absurd (omega arith)
      take_all (x ∷ xs) (suc n) le = ap (λ ys. x ∷ ys) (take_all xs n (omega arith))
