-- The head that is chosen is one of the reports, and none has a greater stamp.
use Rattle.std.proofs.Common.{◌≡◌, Bool, true, false, List, [], ◌∷◌, refl, sym, ap, ◌∙◌, subst, inl, inr, ◌==◌, ◌&&◌, ◌||◌, not, Option, Some, None}
use Rattle.std.specs.Prelude.{cond, nat_lt}
use Rattle.std.specs.List.{best_of, fold, cons_option}
use Rattle.xt_base.specs.declared.ids.NodeId.{NodeId}
use Rattle.xt_messages.specs.declared.file.FileHead.{FileHead}
use Rattle.xt_protocol.specs.Stamps.{is_stamp, is_below}
use Rattle.xt_protocol.proofs.Stamps.{stamp-equal}
use Rattle.xt_protocol.specs.Choice.{is_better, chosen_of}
use Rattle.xt_protocol.specs.Primaries.{reported, report_of, reports_of}
use Rattle.xt_protocol.specs.declared.states.Peer.{Peer}
use Rattle.xt_protocol.specs.declared.states.PeerState.{PeerState}
use Rattle.xt_protocol.specs.declared.states.PeerState.TheVariants as peer
use Rattle.replica_safety.specs.Epochs.{AtMost}
use Rattle.replica_safety.specs.Lists.{Has}
use Rattle.replica_safety.proofs.Orders.{at_most_self, at_most_trans, below_at_most}
use Rattle.replica_runs.proofs.Tools.{true_false, by_test, both_true}

-- a better report has no smaller stamp, and a worse one no greater one
better_above : (own : NodeId) (a b : NodeId × FileHead) → is_better own a b ≡ true → AtMost b.1.stamp a.1.stamp
better_above own a b h = at (is_below b.1.stamp a.1.stamp) refl h
  where
    at : (t : Bool) → is_below b.1.stamp a.1.stamp ≡ t
        → (t || is_stamp b.1.stamp a.1.stamp && not (b.0.0 == own.0) && (a.0.0 == own.0 || nat_lt a.0.0 b.0.0)) ≡ true → AtMost b.1.stamp a.1.stamp
    at true e k = below_at_most b.1.stamp a.1.stamp e
    at false e k =
        let p = both_true (is_stamp b.1.stamp a.1.stamp && not (b.0.0 == own.0)) (a.0.0 == own.0 || nat_lt a.0.0 b.0.0) k in
        let q = both_true (is_stamp b.1.stamp a.1.stamp) (not (b.0.0 == own.0)) p.0 in
        subst (λ s. AtMost b.1.stamp s) (stamp-equal b.1.stamp a.1.stamp q.0) (at_most_self b.1.stamp)

worse_below : (own : NodeId) (a b : NodeId × FileHead) → is_better own a b ≡ false → AtMost a.1.stamp b.1.stamp
worse_below own a b h = at (is_below b.1.stamp a.1.stamp) refl h
  where
    at : (t : Bool) → is_below b.1.stamp a.1.stamp ≡ t
        → (t || is_stamp b.1.stamp a.1.stamp && not (b.0.0 == own.0) && (a.0.0 == own.0 || nat_lt a.0.0 b.0.0)) ≡ false → AtMost a.1.stamp b.1.stamp
    at true e k = true_false refl k
    at false e k = e

-- the best of reports
pub record IsBest (first : NodeId × FileHead) (others : List (NodeId × FileHead)) (best : NodeId × FileHead) : Type 0 where
  pub one : Has best (first ∷ others)
  pub greatest : (x : NodeId × FileHead) → Has x (first ∷ others) → AtMost x.1.stamp best.1.stamp

best_is : (own : NodeId) (first : NodeId × FileHead) (others : List (NodeId × FileHead)) → IsBest first others (best_of (is_better own) first others)
best_is own first [] = record { one = inl refl; greatest = λ x h. at x h }
  where
    at : (x : NodeId × FileHead) → Has x (first ∷ []) → AtMost x.1.stamp first.1.stamp
    at x (inl e) = subst (λ (z : NodeId × FileHead). AtMost z.1.stamp first.1.stamp) (sym e) (at_most_self first.1.stamp)
    at x (inr h) = absurd h
best_is own first (next ∷ others) =
    by_test (λ b. is_better own next first ≡ b → IsBest first (next ∷ others) (fold (λ k x. cond (is_better own x k) x k) (cond b next first) others)) (is_better own next first)
    (λ _ e. takes e (best_is own next others)) (λ _ e. keeps e (best_is own first others)) refl
  where
    takes : is_better own next first ≡ true → IsBest next others (best_of (is_better own) next others) → IsBest first (next ∷ others) (best_of (is_better own) next others)
    takes e is = record { one = inr is.one; greatest = λ x h. at x h }
      where
        at : (x : NodeId × FileHead) → Has x (first ∷ next ∷ others) → AtMost x.1.stamp (best_of (is_better own) next others).1.stamp
        at x (inl p) = subst (λ (z : NodeId × FileHead). AtMost z.1.stamp (best_of (is_better own) next others).1.stamp) (sym p)
            (at_most_trans first.1.stamp next.1.stamp (best_of (is_better own) next others).1.stamp (better_above own next first e) (is.greatest next (inl refl)))
        at x (inr h) = is.greatest x h

    keeps : is_better own next first ≡ false → IsBest first others (best_of (is_better own) first others) → IsBest first (next ∷ others) (best_of (is_better own) first others)
    keeps e is = record { one = from is.one; greatest = λ x h. at x h }
      where
        from : Has (best_of (is_better own) first others) (first ∷ others) → Has (best_of (is_better own) first others) (first ∷ next ∷ others)
        from (inl p) = inl p
        from (inr h) = inr (inr h)

        at : (x : NodeId × FileHead) → Has x (first ∷ next ∷ others) → AtMost x.1.stamp (best_of (is_better own) first others).1.stamp
        at x (inl p) = is.greatest x (inl p)
        at x (inr (inl p)) = subst (λ (z : NodeId × FileHead). AtMost z.1.stamp (best_of (is_better own) first others).1.stamp) (sym p)
            (at_most_trans next.1.stamp first.1.stamp (best_of (is_better own) first others).1.stamp (worse_below own next first e) (is.greatest first (inl refl)))
        at x (inr (inr h)) = is.greatest x (inr h)

pub chosen_is : (own : NodeId) (first : NodeId × FileHead) (others : List (NodeId × FileHead)) → IsBest first others (chosen_of own first others)
unfolding chosen_of
chosen_is own first others = best_is own first others

-- ---- reports

-- a report is a peer's state, and each state that is reported is a report
report_here : (q : NodeId) (s : PeerState) (x : NodeId × FileHead) → report_of q s ≡ Some x → (x.0 ≡ q) × (reported (Some s) ≡ Some x.1)
report_here q (peer.Reported h) x e = (ap (λ (z : NodeId × FileHead). z.0) (sym (is e)), ap Some (ap (λ (z : NodeId × FileHead). z.1) (is e)))
  where
    is : Some (q, h) ≡ Some x → (q, h) ≡ x
    is p = cc
report_here q peer.Unknown x e = absurd cc
report_here q (peer.Feeding known o v b) x e = absurd cc
report_here q (peer.Heading known h) x e = absurd cc
report_here q peer.Current x e = absurd cc

pub report_from : (peers : List Peer) (x : NodeId × FileHead) → Has x (reports_of peers) → (p : Peer) × Has p peers × (x.0 ≡ p.node) × (reported (Some p.state) ≡ Some x.1)
report_from [] x h = absurd h
report_from (p ∷ ps) x h = at (report_of p.node p.state) refl h (report_from ps x)
  where
    at : (o : Option (NodeId × FileHead)) → report_of p.node p.state ≡ o → Has x (cons_option o (reports_of ps))
        → (Has x (reports_of ps) → (q : Peer) × Has q ps × (x.0 ≡ q.node) × (reported (Some q.state) ≡ Some x.1))
        → (q : Peer) × Has q (p ∷ ps) × (x.0 ≡ q.node) × (reported (Some q.state) ≡ Some x.1)
    at None e k rest = let r = rest k in (r.0, inr r.1, r.2, r.3)
    at (Some y) e (inl same) rest = let r = report_here p.node p.state y e in
        (p, inl refl, ap (λ (z : NodeId × FileHead). z.0) same ∙ r.0, r.1 ∙ ap Some (ap (λ (z : NodeId × FileHead). z.1) (sym same)))
    at (Some y) e (inr k) rest = let r = rest k in (r.0, inr r.1, r.2, r.3)

pub report_there : (peers : List Peer) (p : Peer) (h : FileHead) → Has p peers → reported (Some p.state) ≡ Some h → Has (p.node, h) (reports_of peers)
report_there [] p h k e = absurd k
report_there (q ∷ ps) p h (inl same) e = subst (λ (z : Peer). Has (z.node, h) (reports_of (q ∷ ps))) (sym same) (at q.state (subst (λ (z : Peer). reported (Some z.state) ≡ Some h) same e))
  where
    at : (s : PeerState) → reported (Some s) ≡ Some h → Has (q.node, h) (cons_option (report_of q.node s) (reports_of ps))
    at (peer.Reported g) e = inl (sym (ap (λ (k : FileHead). (q.node, k)) (is e)))
      where
        is : Some g ≡ Some h → g ≡ h
        is k = cc
    at peer.Unknown e = absurd cc
    at (peer.Feeding known o v b) e = absurd cc
    at (peer.Heading known g) e = absurd cc
    at peer.Current e = absurd cc
report_there (q ∷ ps) p h (inr k) e = at (report_of q.node q.state) (report_there ps p h k e)
  where
    at : (o : Option (NodeId × FileHead)) → Has (p.node, h) (reports_of ps) → Has (p.node, h) (cons_option o (reports_of ps))
    at None g = g
    at (Some x) g = inr g
