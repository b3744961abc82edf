-- what the marks of a step report
use Rattle.std.proofs.Common.{◌≡◌, ◌≢◌, ℕ, ◌+◌, ◌<◌, inl, inr, List, [], ◌∷◌, ◌++◌, map, refl, arith, ap, sym, ◌∙◌, subst, Option, Some, None, Bool, true, false}
use Rattle.std.specs.Prelude.{◌⊎◌, nat_lt, cond, IsSomeAnd}
use Rattle.std.proofs.lemmas.List.{append-nil}
use Rattle.std.proofs.lemmas.Bool.Decides.{nat_tests}
use Rattle.xt_base.specs.declared.ids.NodeId.{NodeId}
use Rattle.xt_base.specs.declared.ids.FileId.{FileId}
use Rattle.xt_messages.specs.declared.event.Mark.{Mark}
use Rattle.xt_messages.specs.declared.event.Mark.TheVariants as mark
use Rattle.xt_protocol.specs.LeaseRows.{LeaseState, Held, free, asking, writing, held, has_turn, has_run_out, round_over, renewal_left, lease_expired}
use Rattle.lease_runs.specs.LeaseWorld.{LeaseSetting, LeaseNode, told_now, IsHolding, HasTurn}
use Rattle.osd_invariants.specs.Sound.{IsHeld}
use Rattle.lease_runs.specs.LeaseView.{held_ends, listed}
use Rattle.lease_runs.specs.ActsView.{AreActs, IsBusy, MarksAre, no_marks, won, acting}
use Rattle.time_line.specs.declared.entry.Entry.{Entry}
use Rattle.time_line.specs.declared.entry.Entry.TheVariants as entry
use Rattle.time_line.specs.TimeLine.{RunningBoot, standing, standing_after, held_until, holds, holds_as, times_of, is_before_end}
use Rattle.world_spec.specs.NodeSteps.{entry_of}
use Rattle.world_runs.specs.View.{node_id, end_in, told}
use Rattle.world_runs.proofs.Tables.{same}
use Rattle.world_runs.proofs.Standings.{standing-push, own_held, other_held, StandStill, AreInert, inert_still, acts_still, still_standing}

-- the marks of a step, of a node that may be no OSD: none that matter; a lease that was won; or acts, while the node holds
pub data MarksFit (node : NodeId) (es : List Entry) (marks : List Mark) : Type 0 where
  inert : AreInert marks → MarksFit node es marks
  wins : (number end : ℕ) → marks ≡ mark.Held number end ∷ [] → MarksFit node es marks
  acts : (number : ℕ) → AreActs number marks → holds es node number ≡ true → MarksFit node es marks

-- acts report no end
acts_no_ends : (number : ℕ) (marks : List Mark) → AreActs number marks → held_ends marks ≡ []
acts_no_ends number [] are = refl
acts_no_ends number (mark.Active k count write ∷ ms) are = acts_no_ends number ms are.1
acts_no_ends number (mark.Issue k count write ∷ ms) are = acts_no_ends number ms are.1
acts_no_ends number (mark.Commit k count write ∷ ms) are = acts_no_ends number ms are.1
acts_no_ends number (mark.Answer k write count bytes ∷ ms) are = acts_no_ends number ms are.1
acts_no_ends number (_ ∷ ms) are = absurd (cc (are.0))

pub none_told : (e : Option ℕ) (t : Option ℕ) → listed e ≡ [] → told_now e t ≡ t
none_told None t is = refl
none_told (Some end) t is = absurd (cc)

one_told : (e : Option ℕ) (end : ℕ) (t : Option ℕ) → listed e ≡ end ∷ [] → told_now e t ≡ Some end
one_told None end t is = absurd (cc)
one_told (Some x) end t is = (let same_end : x ≡ end = cc in ap (λ n. Some n) same_end)

end_held : (end : ℕ) (o : Option RunningBoot) (s : RunningBoot) → o ≡ Some s → end_in (held_until end o) ≡ Some end
end_held end o s is = ap (λ o. end_in (held_until end o)) is

-- marks that are acts
still_told : (number n : ℕ) (node : NodeId) (es : List Entry) (marks : List Mark) → StandStill node marks → told number n (es ++ map (entry_of node) marks) ≡ told number n es
still_told number n node es marks still = ap end_in (still_standing node marks (node_id n) number es still)

no_marks_told : (number n : ℕ) (node : NodeId) (es : List Entry) (marks : List Mark) → marks ≡ [] → told number n (es ++ map (entry_of node) marks) ≡ told number n es
no_marks_told number n node es marks none = ap (λ (ms : List Mark). told number n (es ++ map (entry_of node) ms)) none ∙ ap (told number n) (append-nil es)

won_told : (number n : ℕ) (node : NodeId) (es : List Entry) (marks : List Mark) (file end : ℕ) → marks ≡ mark.Held file end ∷ [] → (node.0 ≢ n) ⊎ (file ≢ number) → told number n (es ++ map (entry_of node) marks) ≡ told number n es
won_told number n node es marks file end is other =
    ap (λ (ms : List Mark). told number n (es ++ map (entry_of node) ms)) is
    ∙ ap end_in (standing-push (node_id n) number es (entry.Held node file end) ∙ other_held (node_id n) node number file end _ other)

-- the end that a step of a file reports, at the node itself
pub told_as : (number : ℕ) (node : NodeId) (es : List Entry) (st : RunningBoot) (file : FileId) (l : LeaseState) (marks : List Mark) (e : Option ℕ) → file.number ≡ number
    → standing node number es ≡ Some st → MarksAre file l marks → held_ends marks ≡ listed e
    → told number node.0 (es ++ map (entry_of node) marks) ≡ told_now e (told number node.0 es)
told_as number node es st file l marks e of_file stands (no_marks none) ends =
    no_marks_told number node.0 node es marks none ∙ sym (none_told e (told number node.0 es) (sym ends ∙ ap held_ends none))
told_as number node es st file l marks e of_file stands (won end busy is) ends =
    ap (λ (ms : List Mark). told number node.0 (es ++ map (entry_of node) ms)) (is ∙ ap (λ (k : ℕ). mark.Held k end ∷ []) of_file)
    ∙ (ap end_in (standing-push node number es (entry.Held node number end) ∙ own_held node node number end (standing node number es) refl)
    ∙ (end_held end (standing node number es) st stands
    ∙ sym (one_told e end (told number node.0 es) (sym ends ∙ ap held_ends is))))
told_as number node es st file l marks e of_file stands (acting is are) ends =
    still_told number node.0 node es marks (acts_still node file.number marks are)
    ∙ sym (none_told e (told number node.0 es) (sym ends ∙ acts_no_ends file.number marks are))

-- of another file, nothing is reported
pub told_of_other : (number n : ℕ) (node : NodeId) (es : List Entry) (file : FileId) (l : LeaseState) (marks : List Mark) → (IsBusy l → file.number ≢ number) → MarksAre file l marks
    → told number n (es ++ map (entry_of node) marks) ≡ told number n es
told_of_other number n node es file l marks other (no_marks none) = no_marks_told number n node es marks none
told_of_other number n node es file l marks other (won end busy is) = won_told number n node es marks file.number end is (inr (other busy))
told_of_other number n node es file l marks other (acting is are) = still_told number n node es marks (acts_still node file.number marks are)

-- and no other node stands otherwise
pub standing_elsewhere : (number : ℕ) (id node : NodeId) (es : List Entry) (marks : List Mark) → id.0 ≢ node.0 → MarksFit node es marks → standing id number (es ++ map (entry_of node) marks) ≡ standing id number es
standing_elsewhere number id node es marks ne (inert are) = still_standing node marks id number es (inert_still node marks are)
standing_elsewhere number id node es marks ne (wins file end is) =
    ap (λ (ms : List Mark). standing id number (es ++ map (entry_of node) ms)) is
    ∙ (standing-push id number es (entry.Held node file end) ∙ other_held id node number file end _ (inl (λ e. ne (sym e))))
standing_elsewhere number id node es marks ne (acts file are holding) = still_standing node marks id number es (acts_still node file marks are)

-- the own node's clock stays
pub clock_stays : (number : ℕ) (node : NodeId) (es : List Entry) (marks : List Mark) (st : RunningBoot) → standing node number es ≡ Some st → MarksFit node es marks
    → (after : RunningBoot) × (standing node number (es ++ map (entry_of node) marks) ≡ Some after) × (after.clock ≡ st.clock)
clock_stays number node es marks st is (inert are) = (st, still_standing node marks node number es (inert_still node marks are) ∙ is, refl)
clock_stays number node es marks st is (acts file are holding) = (st, still_standing node marks node number es (acts_still node file marks are) ∙ is, refl)
clock_stays number node es marks st is (wins file end held_is) =
    elim (same file number) as (λ o. (after : RunningBoot) × (standing node number (es ++ map (entry_of node) marks) ≡ Some after) × (after.clock ≡ st.clock)) [
      | inl e ↦ (record st { end = Some end }, pushed ∙ (ap (λ (k : ℕ). standing_after node number (standing node number es) (entry.Held node k end)) e ∙ (own_held node node number end (standing node number es) refl ∙ ap (held_until end) is)), refl)
      | inr ne ↦ (st, pushed ∙ (other_held node node number file end (standing node number es) (inr ne) ∙ is), refl)
    ]
  where
    pushed : standing node number (es ++ map (entry_of node) marks) ≡ standing_after node number (standing node number es) (entry.Held node file end)
    pushed = ap (λ (ms : List Mark). standing node number (es ++ map (entry_of node) ms)) held_is ∙ standing-push node number es (entry.Held node file end)

-- and nothing is reported of any other node
pub told_elsewhere : (number n : ℕ) (node : NodeId) (es : List Entry) (marks : List Mark) → n ≢ node.0 → MarksFit node es marks → told number n (es ++ map (entry_of node) marks) ≡ told number n es
told_elsewhere number n node es marks ne (inert are) = still_told number n node es marks (inert_still node marks are)
told_elsewhere number n node es marks ne (wins file end is) = won_told number n node es marks file end is (inl (λ e. ne (sym e)))
told_elsewhere number n node es marks ne (acts file are holding) = still_told number n node es marks (acts_still node file marks are)

-- ---- who holds

-- a lease that is held once what is overdue has expired, is one that may be acted on
pub expired_turn : (x : LeaseNode) (l : LeaseState) (now : ℕ) → x.runs ≡ true → x.clock ≡ now → IsHeld (lease_expired l now) → HasTurn x (lease_expired l now)
expired_turn x (free p) now runs clock is = absurd is
expired_turn x (asking r) now runs clock is = at (has_run_out r now) is
  where
    at : (b : Bool) → IsHeld (cond b (free (round_over r)) (asking r)) → HasTurn x (cond b (free (round_over r)) (asking r))
    at true is = absurd is
    at false is = absurd is
expired_turn x (writing r) now runs clock is = at (has_run_out r now) is
  where
    at : (b : Bool) → IsHeld (cond b (free (round_over r)) (writing r)) → HasTurn x (cond b (free (round_over r)) (writing r))
    at true is = absurd is
    at false is = absurd is
expired_turn x (held h) now runs clock is = at (has_turn h now) refl is
  where
    later : Held
    later = record h { renewal = renewal_left h.renewal now }

    at : (b : Bool) → has_turn h now ≡ b → IsHeld (cond b (held later) (free h.proposer)) → HasTurn x (cond b (held later) (free h.proposer))
    at true turn is = (runs, ap (λ (c : ℕ). has_turn h c) clock ∙ turn)
    at false over is = absurd is

-- a node that holds by its lease holds by the trace
pub holds_true : (g : LeaseSetting) (es : List Entry) (node : NodeId) (x : LeaseNode) (st : RunningBoot) → (times_of es).drift ≡ g.times.drift → standing node g.file.number es ≡ Some st → st.clock ≡ x.clock
    → x.told ≡ told g.file.number node.0 es → IsHolding g x → holds es node g.file.number ≡ true
holds_true g es node x st drift stands clock is_told holding =
    let end_is : x.told ≡ st.end = is_told ∙ ap end_in stands in
    ap (holds_as (times_of es).drift) stands ∙ at st.end (subst (λ (o : Option ℕ). IsSomeAnd o (λ end. x.clock + g.times.drift < end)) end_is holding.1)
  where
    less : (a b : ℕ) → a < b → nat_lt a b ≡ true
    less a b is = grind (arith, nat_tests)

    at : (o : Option ℕ) → IsSomeAnd o (λ end. x.clock + g.times.drift < end) → is_before_end st.clock (times_of es).drift o ≡ true
    at None is = absurd is
    at (Some end) is =
        ap (λ (d : ℕ). nat_lt (st.clock + d) end) drift ∙ (ap (λ (c : ℕ). nat_lt (c + g.times.drift) end) clock ∙ less (x.clock + g.times.drift) end is)
