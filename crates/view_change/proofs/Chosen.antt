-- what is chosen of reports, and when
use Rattle.std.proofs.Common.{◌≡◌, ℕ, ◌<◌, ◌≤◌, ◌⊎◌, inl, inr, List, [], ◌∷◌, length, get_or, refl, ap, sym, ◌∙◌, arith, Option, Some, None, Bool, true}
use Rattle.std.specs.Prelude.{slice_get, ◌↔◌, IsNone, if◌then◌else◌}
use Rattle.std.specs.Option.{option_map}
use Rattle.std.proofs.lemmas.Option.{slice_get_cases, slice_get-get_or}
use Rattle.xt_base.specs.declared.ids.NodeId.{NodeId}
use Rattle.xt_messages.specs.declared.file.FileHead.{FileHead}
use Rattle.osd_decisions.specs.Reports.{best_report}
use Rattle.change_rows.specs.declared.Choice.{Choice}
use Rattle.change_rows.specs.Changes.{ChangeState, server, is_ready, choice_of, best_in, choice_at}
use Rattle.change_rows.specs.Laws.{IsEarly}
use Rattle.change_rows.proofs.Waiting.{early, late, counted_when}

same_best : (reports : List (NodeId × FileHead)) → best_report server reports ≡ best_in reports
same_best [] = refl
same_best (r ∷ rs) = refl

-- the report at the place that was chosen is the best one
pub best_at : (reports : List (NodeId × FileHead)) (i : ℕ) (d : NodeId × FileHead) → 0 < length reports → slice_get reports i ≡ best_report server reports
    → d ≡ get_or reports i d → Some d ≡ best_in reports
best_at [] i d some best is = absurd (omega arith)
best_at (r ∷ rs) i d some best is = by (slice_get_cases (r ∷ rs) i).1
  where
    by : ((x : NodeId × FileHead) × (i < length (r ∷ rs)) × (slice_get (r ∷ rs) i ≡ Some x) × (get_or (r ∷ rs) i x ≡ x)) ⊎ ((length (r ∷ rs) ≤ i) × (slice_get (r ∷ rs) i ≡ None))
        → Some d ≡ best_in (r ∷ rs)
    by (inl (x, lt, at, get)) = ap Some is ∙ sym (slice_get-get_or (r ∷ rs) i d lt) ∙ best ∙ same_best (r ∷ rs)
    by (inr (past, none)) = absurd (let clash : None ≡ best_report server (r ∷ rs) = sym none ∙ best in cc)

pub some_counted : (c : ChangeState) (now : ℕ) → is_ready c now ≡ true → 0 < length c.reports
some_counted = counted_when

pub chosen_is : (c : ChangeState) (now : ℕ) (best : NodeId × FileHead) → is_ready c now ≡ true → Some best ≡ best_in c.reports → choice_at c now ≡ Some (choice_of c best)
chosen_is c now best ready is =
    ap (λ (b : Bool). if b then option_map (choice_of c) (best_in c.reports) else None) ready ∙ sym (ap (option_map (choice_of c)) is)

-- nothing is chosen exactly while it is too early
pub none_exactly : (c : ChangeState) (now : ℕ) (choice : Option Choice) → choice ≡ choice_at c now → IsNone choice ↔ IsEarly c now
none_exactly c now None is = ((λ none. early c now (sym is)), (λ h. refl))
none_exactly c now (Some choice) is = ((λ none. absurd cc), (λ h. absurd (let clash : Some choice ≡ None = is ∙ late c now h in cc)))
