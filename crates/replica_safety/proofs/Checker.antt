-- A test whether moves are legal, which computes.
use Rattle.std.proofs.Common.{◌≡◌, ℕ, suc, ◌*◌, ◌<◌, ◌≤◌, ◌⊎◌, Bool, true, false, not, List, [], ◌∷◌, ◌++◌, length, refl, sym, ap, ap₂, ◌∙◌, inl, inr, arith, true≢false, nat_lt, nat_le, ◌==◌, Option, Some, None}
use Rattle.std.specs.Prelude.{count_by, map}
use Rattle.std.proofs.lemmas.Bool.Decides.{nat_tests}
use Rattle.xt_protocol.specs.Stamps.{is_earlier, is_epoch, is_below}
use Rattle.replica_safety.specs.Epochs.{Epoch, Stamp, Write, name, Head, stamp_of}
use Rattle.replica_safety.specs.Lists.{Has, Majority}
use Rattle.replica_safety.specs.Protocol.{Reported, Acknowledged, State, writes_of, Move, Draw, Promise, Report, Choose, Take_head, Take_update, Acknowledge, Activate, Issue, Commit, Lose, after}
use Rattle.replica_safety.specs.Weaker.{IsReadIssued, IsReadLate, TakesBack, issued_alone, others_write, next_write, written_alone, takes_back}
use Rattle.replica_safety.specs.Histories.{three, first_write, second_write, one_write, failover, epoch_one, later_start, taken_over, drawn_twice, lower_promise, report_before_promise, lone_report, lesser_head, second_choice, older_head, skipped_update, active_early, active_again, two_open, committed_early, late_commit, write_again, Commits, GoesWrong, Repeats}
use Rattle.replica_safety.specs.Rules.{every_rule, IsStart, begin, first_start, IsHistory, Rules, Under, HasReported, HasAcknowledged, Legal, AreLegal}
use Rattle.replica_safety.proofs.Orders.{same_is, not_before_self}

-- both tests pass; shut, so that a proof sees which they are
both : Bool → Bool → Bool
both true q = q
both false q = false

one_of : Bool → Bool → Bool
one_of true q = true
one_of false q = q

left : (p q : Bool) → both p q ≡ true → p ≡ true
unfolding both
left true q h = refl
left false q h = h

right : (p q : Bool) → both p q ≡ true → q ≡ true
unfolding both
right true q h = h
right false q h = absurd (true≢false (sym h))

either : (p q : Bool) → one_of p q ≡ true → (p ≡ true) ⊎ (q ≡ true)
unfolding one_of
either true q h = inl refl
either false q h = inr h

is_not : (p : Bool) → not p ≡ true → p ≡ false
is_not true h = absurd (true≢false (sym h))
is_not false h = refl

-- where a rule stands, its test
under : Bool → Bool → Bool
under true test = test
under false test = true

is_under : (rule : Bool) {test : Bool} {P : Type 0} → (test ≡ true → P) → under rule test ≡ true → Under rule P
unfolding under
is_under true f h = f h
is_under false f h = tt

same_name : ℕ × ℕ → ℕ × ℕ → Bool
same_name v w = both (v.0 == w.0) (v.1 == w.1)

same_name_self : (w : ℕ × ℕ) → same_name w w ≡ true
unfolding same_name both
same_name_self w = grind (arith, nat_tests)

same_bytes : List ℕ → List ℕ → Bool
same_bytes [] [] = true
same_bytes [] (w ∷ ws) = false
same_bytes (v ∷ vs) [] = false
same_bytes (v ∷ vs) (w ∷ ws) = both (v == w) (same_bytes vs ws)

one_number : (m n : ℕ) → (m == n) ≡ true → m ≡ n
one_number m n e = grind (arith, nat_tests)

same_bytes_is : (vs ws : List ℕ) → same_bytes vs ws ≡ true → vs ≡ ws
unfolding same_bytes
same_bytes_is [] [] h = refl
same_bytes_is [] (w ∷ ws) h = absurd (true≢false (sym h))
same_bytes_is (v ∷ vs) [] h = absurd (true≢false (sym h))
same_bytes_is (v ∷ vs) (w ∷ ws) h = ap₂ (λ x xs. x ∷ xs) (one_number v w (left _ _ h)) (same_bytes_is vs ws (right _ _ h))

same_write : Write → Write → Bool
same_write v w =
    both (both (both (v.stamp.epoch.number == w.stamp.epoch.number) (v.stamp.epoch.node.0 == w.stamp.epoch.node.0)) (both (v.stamp.count == w.stamp.count) (v.id.client.0 == w.id.client.0)))
    (both (both (both (v.id.number == w.id.number) (v.mark.epoch == w.mark.epoch)) (both (v.mark.size == w.mark.size) (v.drop_from == w.drop_from)))
    (both (v.object == w.object) (same_bytes v.body w.body)))

same_write_is : (v w : Write) → same_write v w ≡ true → v ≡ w
unfolding same_write
same_write_is v w h = let a = left _ _ h in let b = left _ _ (right _ _ h) in let c = right _ _ (right _ _ h) in λ i. record {
  stamp = record {
    epoch = record { number = one_number _ _ (left _ _ (left _ _ a)) i; node = record { 0 = one_number _ _ (right _ _ (left _ _ a)) i } };
    count = one_number _ _ (left _ _ (right _ _ a)) i;
  };
  id = record { client = record { 0 = one_number _ _ (right _ _ (right _ _ a)) i }; number = one_number _ _ (left _ _ (left _ _ b)) i };
  mark = record { epoch = one_number _ _ (right _ _ (left _ _ b)) i; size = one_number _ _ (left _ _ (right _ _ b)) i };
  drop_from = one_number _ _ (right _ _ (right _ _ b)) i;
  object = one_number _ _ (left _ _ c) i;
  body = same_bytes_is _ _ (right _ _ c) i;
}

same_writes : List Write → List Write → Bool
same_writes [] [] = true
same_writes [] (w ∷ ws) = false
same_writes (v ∷ vs) [] = false
same_writes (v ∷ vs) (w ∷ ws) = both (same_write v w) (same_writes vs ws)

same_writes_is : (vs ws : List Write) → same_writes vs ws ≡ true → vs ≡ ws
unfolding same_writes
same_writes_is [] [] h = refl
same_writes_is [] (w ∷ ws) h = absurd (true≢false (sym h))
same_writes_is (v ∷ vs) [] h = absurd (true≢false (sym h))
same_writes_is (v ∷ vs) (w ∷ ws) h = ap₂ (λ x xs. x ∷ xs) (same_write_is v w (left _ _ h)) (same_writes_is vs ws (right _ _ h))

is_new : Write → List Write → Bool
is_new w [] = true
is_new w (v ∷ vs) = both (not (same_name (name w) (name v))) (is_new w vs)

is_new_is : (w : Write) (vs : List Write) → is_new w vs ≡ true → Has (name w) (map name vs) → ⊥
unfolding is_new
is_new_is w [] h k = elim k [ ]
is_new_is w (v ∷ vs) h (inl p) = true≢false (sym (same_name_self (name w)) ∙ ap (same_name (name w)) p ∙ is_not _ (left _ _ h))
is_new_is w (v ∷ vs) h (inr k) = is_new_is w vs (right _ _ h) k

is_current : Option Epoch → Epoch → Bool
is_current None e = false
is_current (Some d) e = is_epoch d e

is_current_is : (c : Option Epoch) (e : Epoch) → is_current c e ≡ true → c ≡ Some e
unfolding is_current
is_current_is None e h = absurd (true≢false (sym h))
is_current_is (Some d) e h = ap Some (same_is d e h)

-- r's report to e, of a head no greater than `found`
has_reported : Bool → List Reported → Epoch → Head → ℕ → Bool
has_reported greatest [] e found r = false
has_reported greatest (x ∷ xs) e found r =
    one_of (both (both (x.replica == r) (is_epoch x.epoch e)) (under greatest (not (is_below (stamp_of found) (stamp_of x.head))))) (has_reported greatest xs e found r)

has_reported_is : (greatest : Bool) (xs : List Reported) (e : Epoch) (found : Head) (r : ℕ) → has_reported greatest xs e found r ≡ true → HasReported greatest xs e found r
unfolding has_reported
has_reported_is greatest [] e found r h = absurd (true≢false (sym h))
has_reported_is greatest (x ∷ xs) e found r h = go (has_reported_is greatest xs e found r) (either _ _ h)
  where
    number : (m n : ℕ) → (m == n) ≡ true → n ≡ m
    number m n p = grind (arith, nat_tests)

    go : (has_reported greatest xs e found r ≡ true → HasReported greatest xs e found r) → (both (both (x.replica == r) (is_epoch x.epoch e)) (under greatest (not (is_below (stamp_of found) (stamp_of x.head)))) ≡ true) ⊎ (has_reported greatest xs e found r ≡ true) → HasReported greatest (x ∷ xs) e found r
    go rest (inl p) = (x.head, inl (λ i. record { replica = number x.replica r (left _ _ (left _ _ p)) i; epoch = sym (same_is x.epoch e (right _ _ (left _ _ p))) i; head = x.head }), is_under greatest (is_not _) (right _ _ p))
    go rest (inr p) = let t = rest p in (t.0, inr t.1, t.2)

is_reported : List Reported → Epoch → Head → Bool
is_reported [] e found = false
is_reported (x ∷ xs) e found = one_of (both (is_epoch x.epoch e) (both (is_epoch x.head.epoch found.epoch) (same_writes x.head.writes found.writes))) (is_reported xs e found)

is_reported_is : (xs : List Reported) (e : Epoch) (found : Head) → is_reported xs e found ≡ true → (r : ℕ) × Has (record { replica = r; epoch = e; head = found }) xs
unfolding is_reported
is_reported_is [] e found h = absurd (true≢false (sym h))
is_reported_is (x ∷ xs) e found h = go (is_reported_is xs e found) (either _ _ h)
  where
    go : (is_reported xs e found ≡ true → (r : ℕ) × Has (record { replica = r; epoch = e; head = found }) xs) → (both (is_epoch x.epoch e) (both (is_epoch x.head.epoch found.epoch) (same_writes x.head.writes found.writes)) ≡ true) ⊎ (is_reported xs e found ≡ true) → (r : ℕ) × Has (record { replica = r; epoch = e; head = found }) (x ∷ xs)
    go rest (inl p) = (
      x.replica,
      inl (λ i. record {
        replica = x.replica;
        epoch = sym (same_is x.epoch e (left _ _ p)) i;
        head = record {
          epoch = sym (same_is x.head.epoch found.epoch (left _ _ (right _ _ p))) i;
          writes = sym (same_writes_is x.head.writes found.writes (right _ _ (right _ _ p))) i;
        };
      }),
    )
    go rest (inr p) = let t = rest p in (t.0, inr t.1)

has_acknowledged : List Acknowledged → Stamp → ℕ → Bool
has_acknowledged [] t r = false
has_acknowledged (x ∷ xs) t r = one_of (both (x.replica == r) (not (is_below x.stamp t))) (has_acknowledged xs t r)

has_acknowledged_is : (xs : List Acknowledged) (t : Stamp) (r : ℕ) → has_acknowledged xs t r ≡ true → HasAcknowledged xs t r
unfolding has_acknowledged
has_acknowledged_is [] t r h = absurd (true≢false (sym h))
has_acknowledged_is (x ∷ xs) t r h = go (has_acknowledged_is xs t r) (either _ _ h)
  where
    number : (m n : ℕ) → (m == n) ≡ true → n ≡ m
    number m n p = grind (arith, nat_tests)

    go : (has_acknowledged xs t r ≡ true → HasAcknowledged xs t r) → (both (x.replica == r) (not (is_below x.stamp t)) ≡ true) ⊎ (has_acknowledged xs t r ≡ true) → HasAcknowledged (x ∷ xs) t r
    go rest (inl p) = (x.stamp, inl (λ i. record { replica = number x.replica r (left _ _ p) i; stamp = x.stamp }), is_not _ (right _ _ p))
    go rest (inr p) = let u = rest p in (u.0, inr u.1, u.2)

is_majority : List ℕ → (ℕ → Bool) → Bool
is_majority members test = nat_lt (length members) (2 * count_by test members)

is_majority_is : (members : List ℕ) (test : ℕ → Bool) {P : ℕ → Type 0} → ((r : ℕ) → test r ≡ true → P r) → is_majority members test ≡ true → Majority members P
unfolding is_majority
is_majority_is members test each h = record { those = test; more_than_half = less (length members) (2 * count_by test members) h; each = each }
  where
    less : (m n : ℕ) → nat_lt m n ≡ true → m < n
    less m n p = grind (arith, nat_tests)

allows : Rules → List ℕ → State → Move → Bool
allows rules members s (Draw e) = under rules.drawn_once (not (s.drawn e))
allows rules members s (Promise r e) = under rules.promises_rise (is_earlier (s.promised r) e)
allows rules members s (Report r e) = both (s.drawn e) (under rules.promised_first (is_epoch (s.promised r) e))
allows rules members s (Choose e found) =
    both (both (under rules.current_acts (is_current s.current e)) (under rules.chosen_once (not (s.chosen e))))
    (both (is_reported s.reports e found) (under rules.majority_reports (is_majority members (has_reported rules.greatest_head s.reports e found))))
allows rules members s (Take_head r t) =
    both (both (s.chosen t.epoch) (nat_le (length (s.base t.epoch)) t.count))
    (both (nat_le t.count (length (writes_of s t.epoch))) (under rules.heads_rise (is_below (stamp_of (s.head r)) t)))
allows rules members s (Take_update r t) =
    both (is_epoch (s.head r).epoch t.epoch)
    (both (under rules.in_order (suc (length (s.head r).writes) == t.count)) (nat_le t.count (length (writes_of s t.epoch))))
allows rules members s (Acknowledge r t) = not (is_below (stamp_of (s.head r)) t)
allows rules members s (Activate e) =
    both (both (under rules.current_acts (is_current s.current e)) (s.chosen e))
    (both (under rules.active_once (not (s.active e)))
    (under rules.majority_has_head (is_majority members (has_acknowledged s.acknowledged (record { epoch = e; count = length (s.base e) })))))
allows rules members s (Issue e w) =
    both (both (under rules.current_acts (is_current s.current e)) (s.active e))
    (both (under rules.one_open (s.committed e == length (writes_of s e))) (under rules.write_is_new (is_new w (writes_of s e))))
allows rules members s (Commit e) =
    both (both (under rules.current_acts (is_current s.current e)) (s.active e))
    (both (nat_lt (s.committed e) (length (writes_of s e)))
    (under rules.majority_has_write (is_majority members (has_acknowledged s.acknowledged (record { epoch = e; count = suc (s.committed e) })))))
allows rules members s Lose = true

at_most_is : (m n : ℕ) → nat_le m n ≡ true → m ≤ n
at_most_is m n p = grind (arith, nat_tests)

less_is : (m n : ℕ) → nat_lt m n ≡ true → m < n
less_is m n p = grind (arith, nat_tests)

equal_is : (m n : ℕ) → (m == n) ≡ true → m ≡ n
equal_is m n p = grind (arith, nat_tests)

allows_is : (rules : Rules) (members : List ℕ) (s : State) (m : Move) → allows rules members s m ≡ true → Legal rules members s m
unfolding allows
allows_is rules members s (Draw e) h = record { new = is_under rules.drawn_once (is_not _) h }
allows_is rules members s (Promise r e) h = record { above = is_under rules.promises_rise (λ p. p) h }
allows_is rules members s (Report r e) h = record {
  drawn = left _ _ h;
  promised = is_under rules.promised_first (same_is (s.promised r) e) (right _ _ h);
}
allows_is rules members s (Choose e found) h = record {
  current = is_under rules.current_acts (is_current_is s.current e) (left _ _ (left _ _ h));
  first = is_under rules.chosen_once (is_not _) (right _ _ (left _ _ h));
  reported = is_reported_is s.reports e found (left _ _ (right _ _ h));
  greatest = is_under rules.majority_reports
      (is_majority_is members (has_reported rules.greatest_head s.reports e found) (has_reported_is rules.greatest_head s.reports e found)) (right _ _ (right _ _ h));
}
allows_is rules members s (Take_head r t) h = record {
  chosen = left _ _ (left _ _ h);
  whole = at_most_is (length (s.base t.epoch)) t.count (right _ _ (left _ _ h));
  known = at_most_is t.count (length (writes_of s t.epoch)) (left _ _ (right _ _ h));
  above = is_under rules.heads_rise (λ p. p) (right _ _ (right _ _ h));
}
allows_is rules members s (Take_update r t) h = record {
  same = same_is (s.head r).epoch t.epoch (left _ _ h);
  next = is_under rules.in_order (equal_is (suc (length (s.head r).writes)) t.count) (left _ _ (right _ _ h));
  known = at_most_is t.count (length (writes_of s t.epoch)) (right _ _ (right _ _ h));
}
allows_is rules members s (Acknowledge r t) h = record { reached = is_not _ h }
allows_is rules members s (Activate e) h = record {
  current = is_under rules.current_acts (is_current_is s.current e) (left _ _ (left _ _ h));
  chosen = right _ _ (left _ _ h);
  first = is_under rules.active_once (is_not _) (left _ _ (right _ _ h));
  acknowledged = is_under rules.majority_has_head
      (is_majority_is members _ (has_acknowledged_is s.acknowledged (record { epoch = e; count = length (s.base e) }))) (right _ _ (right _ _ h));
}
allows_is rules members s (Issue e w) h = record {
  current = is_under rules.current_acts (is_current_is s.current e) (left _ _ (left _ _ h));
  active = right _ _ (left _ _ h);
  none_open = is_under rules.one_open (equal_is (s.committed e) (length (writes_of s e))) (left _ _ (right _ _ h));
  new = is_under rules.write_is_new (is_new_is w (writes_of s e)) (right _ _ (right _ _ h));
}
allows_is rules members s (Commit e) h = record {
  current = is_under rules.current_acts (is_current_is s.current e) (left _ _ (left _ _ h));
  active = right _ _ (left _ _ h);
  open_write = less_is (s.committed e) (length (writes_of s e)) (left _ _ (right _ _ h));
  acknowledged = is_under rules.majority_has_write
      (is_majority_is members _ (has_acknowledged_is s.acknowledged (record { epoch = e; count = suc (s.committed e) }))) (right _ _ (right _ _ h));
}
allows_is rules members s Lose h = tt

-- to open this is to open all that the test computes with
allows_all : Rules → List ℕ → State → List Move → Bool
unfolding allows both one_of under same_name same_bytes same_write same_writes is_new is_current has_reported is_reported has_acknowledged is_majority
allows_all rules members s [] = true
allows_all rules members s (m ∷ ms) = both (allows rules members s m) (allows_all rules members (after s m) ms)

allows_all_is : (rules : Rules) (members : List ℕ) (s : State) (ms : List Move) → allows_all rules members s ms ≡ true → AreLegal rules members s ms
unfolding allows_all
allows_all_is rules members s [] h = tt
allows_all_is rules members s (m ∷ ms) h = (allows_is rules members s m (left _ _ h), allows_all_is rules members (after s m) ms (right _ _ h))

first_begins : IsStart three first_start
first_begins = record {
  at_most_one_open = omega arith;
  different = tt;
  kept = record { those = λ r. true; more_than_half = omega arith; each = λ r h. (omega arith, refl) };
}

checked : (rules : Rules) (moves : List Move) → allows_all rules three (begin first_start) moves ≡ true → IsHistory rules three first_start moves
checked rules moves h = record { begins = first_begins; legal = allows_all_is rules three (begin first_start) moves h }

pub one_write_is : Commits first_start one_write (first_write ∷ [])
unfolding allows_all
one_write_is = (checked every_rule one_write refl, refl)

pub failover_is : Commits first_start failover (first_write ∷ second_write ∷ [])
unfolding allows_all
failover_is = (checked every_rule failover refl, refl)

later_begins : IsStart three later_start
later_begins = record {
  at_most_one_open = omega arith;
  different = (λ h. elim h [ inl p ↦ absurd (omega (arith, ap (λ (w : ℕ × ℕ). w.1) p)) | inr k ↦ k ], ((λ h. h), tt));
  kept = record { those = λ r. true; more_than_half = omega arith; each = λ r h. (has_one r, not_before_self epoch_one) };
}
  where
    has_one : (r : ℕ) → 1 ≤ later_start.holds r
    has_one r = grind (arith, nat_tests)

pub taken_over_is : Commits later_start taken_over (first_write ∷ second_write ∷ [])
unfolding allows_all
taken_over_is = (record { begins = later_begins; legal = allows_all_is every_rule three (begin later_start) taken_over refl }, refl)

pub without_drawn_once : GoesWrong (record every_rule { drawn_once = false }) drawn_twice
unfolding allows_all
without_drawn_once = (checked (record every_rule { drawn_once = false }) drawn_twice refl, λ h. absurd (omega (arith, h.0)))

pub without_promises_rise : GoesWrong (record every_rule { promises_rise = false }) lower_promise
unfolding allows_all
without_promises_rise = (checked (record every_rule { promises_rise = false }) lower_promise refl, λ h. absurd (omega (arith, h.0)))

pub without_promised_first : GoesWrong (record every_rule { promised_first = false }) report_before_promise
unfolding allows_all
without_promised_first = (checked (record every_rule { promised_first = false }) report_before_promise refl, λ h. absurd (omega (arith, h.0)))

pub without_majority_reports : GoesWrong (record every_rule { majority_reports = false }) lone_report
unfolding allows_all
without_majority_reports = (checked (record every_rule { majority_reports = false }) lone_report refl, λ h. absurd (omega (arith, h.0)))

pub without_greatest_head : GoesWrong (record every_rule { greatest_head = false }) lesser_head
unfolding allows_all
without_greatest_head = (checked (record every_rule { greatest_head = false }) lesser_head refl, λ h. absurd (omega (arith, h.0)))

pub without_chosen_once : GoesWrong (record every_rule { chosen_once = false }) second_choice
unfolding allows_all
without_chosen_once = (checked (record every_rule { chosen_once = false }) second_choice refl, λ h. absurd (omega (arith, ap (λ (w : Write). w.id.number) h.1)))

pub without_heads_rise : GoesWrong (record every_rule { heads_rise = false }) older_head
unfolding allows_all
without_heads_rise = (checked (record every_rule { heads_rise = false }) older_head refl, λ h. absurd (omega (arith, h.0)))

pub without_in_order : GoesWrong (record every_rule { in_order = false }) skipped_update
unfolding allows_all
without_in_order = (checked (record every_rule { in_order = false }) skipped_update refl, λ h. absurd (omega (arith, ap (λ (w : Write). w.id.number) h.1)))

pub without_majority_has_head : GoesWrong (record every_rule { majority_has_head = false }) active_early
unfolding allows_all
without_majority_has_head = (checked (record every_rule { majority_has_head = false }) active_early refl, λ h. absurd (omega (arith, h.0)))

pub without_active_once : GoesWrong (record every_rule { active_once = false }) active_again
unfolding allows_all
without_active_once = (checked (record every_rule { active_once = false }) active_again refl, λ h. absurd (omega (arith, h.0)))

pub without_one_open : GoesWrong (record every_rule { one_open = false }) two_open
unfolding allows_all
without_one_open = (checked (record every_rule { one_open = false }) two_open refl, λ h. absurd (omega (arith, h.0)))

pub without_majority_has_write : GoesWrong (record every_rule { majority_has_write = false }) committed_early
unfolding allows_all
without_majority_has_write = (checked (record every_rule { majority_has_write = false }) committed_early refl, λ h. absurd (omega (arith, h.0)))

pub without_current_acts : GoesWrong (record every_rule { current_acts = false }) late_commit
unfolding allows_all
without_current_acts = (checked (record every_rule { current_acts = false }) late_commit refl, λ h. absurd (omega (arith, h.0)))

pub without_write_is_new : Repeats (record every_rule { write_is_new = false }) write_again
unfolding allows_all
without_write_is_new = (checked (record every_rule { write_is_new = false }) write_again refl, λ h. h.0 (inl refl))

pub read_issued : IsReadIssued epoch_one issued_alone others_write (first_write ∷ []) (second_write ∷ [])
unfolding allows_all
read_issued = record {
  history = checked every_rule (issued_alone ++ others_write) refl;
  current = refl;
  active = refl;
  shown_is = refl;
  line_is = refl;
  lost = (first_write, inl refl, λ h. elim h [ inl p ↦ omega (arith, ap (λ (w : ℕ × ℕ). w.1) p) | inr k ↦ k ]);
}

pub read_late : IsReadLate epoch_one one_write next_write (first_write ∷ []) (first_write ∷ second_write ∷ [])
unfolding allows_all
read_late = record {
  history = checked every_rule (one_write ++ next_write) refl;
  current = refl;
  active = refl;
  shown_is = refl;
  line_is = refl;
  older = omega arith;
}

pub takes_it_back : TakesBack written_alone takes_back
unfolding allows_all
takes_it_back = record { history = checked every_rule (written_alone ++ takes_back ∷ []) refl; had = refl; has = refl }
