-- What holds in every state of a history.
use Rattle.std.proofs.Common.{◌≡◌, ℕ, suc, pred, ◌≤◌, ◌⊎◌, Bool, true, false, List, [], ◌∷◌, ◌++◌, length, take, drop, refl, sym, ap, ◌∙◌, subst, inl, inr, arith, append_assoc, append-nil, length-append, length-take, take_all, ap₂, subst₂, take-append-drop, true≢false, ◌==◌, if◌then◌else◌, Option, Some, None}
use Rattle.std.specs.Prelude.{map}
use Rattle.std.proofs.lemmas.List.{map-append}
use Rattle.std.proofs.Math.Seq.{drop-append_seam}
use Rattle.std.proofs.lemmas.Bool.Decides.{nat_tests}
use Rattle.xt_protocol.specs.Stamps.{is_earlier, is_epoch}
use Rattle.replica_safety.specs.Epochs.{Epoch, Stamp, AtMost, Write, name, Head, stamp_of, at_epoch, at_node}
use Rattle.replica_safety.specs.Lists.{Has, AreDistinct, Majority}
use Rattle.replica_safety.specs.Protocol.{Reported, Acknowledged, Act, Activated, Issued, Committed, State, writes_of, last_write, Move, Draw, Promise, Report, Choose, Take_head, Take_update, Acknowledge, Activate, Issue, Commit, Lose, after, after_all}
use Rattle.replica_safety.specs.Rules.{every_rule, Legal, AreLegal, Start, IsStart, begin, HasReported, HasAcknowledged}
use Rattle.replica_safety.specs.Line.{with_told, line_of, AreOnOneLine, WasIssued, IssuesComeFirst}
use Rattle.replica_safety.proofs.Orders.{not_before_self, up_to_trans, up_to_before, before_up_to, not_after, same_is, same_self, is_one, at_most_self, at_most_trans, below_at_most, at_most_cases, at_most_count}
use Rattle.replica_safety.proofs.Lists.{IsFront, IsNear, has-left, has-append, distinct_front, distinct_push, near_front, near_line, front_take, front_push, whole_front, shared, weaker}

-- Who reported had promised, to an epoch that was drawn.
pub record PromisesHold (drawn : Epoch → Bool) (promised : ℕ → Epoch) (reports : List Reported) : Type 0 where
  pub asked : (x : Reported) → Has x reports → drawn x.epoch ≡ true
  pub since : (x : Reported) → Has x reports → is_earlier (promised x.replica) x.epoch ≡ false

-- Heads only grow, so what was acknowledged is still reached.
pub record AcknowledgementsHold (head : ℕ → Head) (acknowledged : List Acknowledged) : Type 0 where
  pub reached : (x : Acknowledged) → Has x acknowledged → AtMost x.stamp (stamp_of (head x.replica))

-- A head is a front of the writes of its epoch, and no shorter than the one that was chosen there.
pub record IsOfEpoch (chosen : Epoch → Bool) (base log : Epoch → List Write) (h : Head) : Type 0 where
  pub has_one : chosen h.epoch ≡ true
  pub front : IsFront h.writes (base h.epoch ++ log h.epoch)
  pub whole : length (base h.epoch) ≤ length h.writes

pub record HeadsHold (chosen : Epoch → Bool) (base log : Epoch → List Write) (head : ℕ → Head) (reports : List Reported) : Type 0 where
  pub own : (r : ℕ) → IsOfEpoch chosen base log (head r)
  pub told : (x : Reported) → Has x reports → IsOfEpoch chosen base log x.head

-- No epoch is chosen below one that was chosen before.
pub record ChoicesHold (members : List ℕ) (drawn chosen : Epoch → Bool) (promised : ℕ → Epoch) (current : Option Epoch) (reports : List Reported) : Type 0 where
  pub drawn_first : (e : Epoch) → chosen e ≡ true → drawn e ≡ true
  pub promised_by : (e : Epoch) → chosen e ≡ true → Majority members (λ r. is_earlier (promised r) e ≡ false)
  pub current_drawn : (e : Epoch) → current ≡ Some e → drawn e ≡ true
  pub newest : (e f : Epoch) → current ≡ Some e → chosen e ≡ true → chosen f ≡ true → is_earlier e f ≡ false
  pub passed_by : (e f : Epoch) → current ≡ Some e → chosen f ≡ true → is_earlier e f ≡ true →
      Majority members (λ r. (is_earlier e (promised r) ≡ true) × ((x : Reported) → Has x reports → x.replica ≡ r → x.epoch ≡ e → ⊥))

-- The writes of an epoch that may still count: the line, or the line and one write more.
pub record WritesHold (start : Start) (acts : List Act) (writes : List Write) : Type 0 where
  pub near : IsNear (line_of start.line acts) writes
  pub distinct : AreDistinct (map name writes)
  pub issued : (w : Write) → Has w writes → WasIssued start acts w

-- The line, by the epoch that was active last.
pub record LineHolds (members : List ℕ) (start : Start) (latest : Epoch) (acts : List Act) (current : Option Epoch) (chosen active : Epoch → Bool) (base log : Epoch → List Write) (committed : Epoch → ℕ) (head : ℕ → Head) (reports : List Reported) : Type 0 where
  pub latest_chosen : chosen latest ≡ true
  pub active_chosen : (e : Epoch) → active e ≡ true → chosen e ≡ true
  pub idle : (e : Epoch) → active e ≡ false → log e ≡ []
  pub later_idle : (e : Epoch) → is_earlier latest e ≡ true → active e ≡ false
  pub writes : (e : Epoch) → chosen e ≡ true → is_earlier e latest ≡ false → WritesHold start acts (base e ++ log e)
  pub acting : (e : Epoch) → current ≡ Some e → active e ≡ true → (e ≡ latest) × (committed e ≡ length (line_of start.line acts))
  pub kept : Majority members (λ r.
      AtMost (record { epoch = latest; count = length (line_of start.line acts) }) (stamp_of (head r)) ×
      ((x : Reported) → Has x reports → x.replica ≡ r → current ≡ Some x.epoch → chosen x.epoch ≡ false →
      AtMost (record { epoch = latest; count = length (line_of start.line acts) }) (stamp_of x.head)))

abbrev pub PromisesOf : State → Type 0
PromisesOf s = PromisesHold s.drawn s.promised s.reports

abbrev pub AcknowledgementsOf : State → Type 0
AcknowledgementsOf s = AcknowledgementsHold s.head s.acknowledged

abbrev pub HeadsOf : State → Type 0
HeadsOf s = HeadsHold s.chosen s.base s.log s.head s.reports

abbrev pub ChoicesOf : List ℕ → State → Type 0
ChoicesOf members s = ChoicesHold members s.drawn s.chosen s.promised s.current s.reports

abbrev pub LineOf : List ℕ → Start → Epoch → State → Type 0
LineOf members start latest s = LineHolds members start latest s.acts s.current s.chosen s.active s.base s.log s.committed s.head s.reports

pub record Sound (members : List ℕ) (start : Start) (s : State) : Type 0 where
  pub promises : PromisesOf s
  pub acknowledgements : AcknowledgementsOf s
  pub heads : HeadsOf s
  pub choices : ChoicesOf members s
  pub latest : Epoch
  pub line : LineOf members start latest s
  pub told : AreOnOneLine start.line s.acts
  pub issued_first : IssuesComeFirst start s.acts

-- by cases on whether two epochs, or two nodes, are one
by_epoch : (P : Bool → Type 0) (d e : Epoch) → (d ≡ e → P true) → (is_epoch d e ≡ false → P false) → P (is_epoch d e)
by_epoch P d e is other = go (is_epoch d e) refl
  where
    go : (b : Bool) → is_epoch d e ≡ b → P b
    go true p = is (same_is d e p)
    go false p = other p

by_node : (P : Bool → Type 0) (m n : ℕ) → (m ≡ n → P true) → P false → P (m == n)
by_node P m n is other = go (m == n) refl
  where
    go : (b : Bool) → (m == n) ≡ b → P b
    go true p = is (grind (arith, nat_tests))
    go false p = other

true_false : {A : Type 0} {b : Bool} → b ≡ true → b ≡ false → A
true_false p q = absurd (true≢false (sym p ∙ q))

not_true : (b : Bool) → (b ≡ true → ⊥) → b ≡ false
not_true true h = absurd (h refl)
not_true false h = refl

some_is : {d e : Epoch} → Some d ≡ Some e → d ≡ e
some_is p = cc

put_true : (e : Epoch) (f : Epoch → Bool) (d : Epoch) → f d ≡ true → at_epoch e true f d ≡ true
put_true e f d h = by_epoch (λ b. (if b then true else f d) ≡ true) d e (λ _. refl) (λ _. h)

was_false : (e : Epoch) (f : Epoch → Bool) (d : Epoch) → at_epoch e true f d ≡ false → f d ≡ false
was_false e f d = by_epoch (λ b. (if b then true else f d) ≡ false → f d ≡ false) d e (λ _ h. true_false refl h) (λ _ h. h)

was_true : (e : Epoch) (f : Epoch → Bool) (d : Epoch) → at_epoch e true f d ≡ true → (d ≡ e) ⊎ (f d ≡ true)
was_true e f d = by_epoch (λ b. (if b then true else f d) ≡ true → (d ≡ e) ⊎ (f d ≡ true)) d e (λ p _. inl p) (λ _ h. inr h)

at_same : {A : Type 0} (e : Epoch) (v : A) (f : Epoch → A) → at_epoch e v f e ≡ v
at_same e v f = rw (same_self e)

-- Draw
module _ (members : List ℕ) (start : Start) where
  draw_choices : (s : State) (e : Epoch) → s.drawn e ≡ false → Sound members start s → ChoicesOf members (after s (Draw e))
  draw_choices s e new ok = record {
    drawn_first = λ d h. put_true e s.drawn d (ok.choices.drawn_first d h);
    promised_by = ok.choices.promised_by;
    current_drawn = λ d p. subst (λ x. at_epoch e true s.drawn x ≡ true) (some_is p) (at_same e true s.drawn);
    newest = λ d f p h _. true_false (subst (λ x. s.drawn x ≡ true) (sym (some_is p)) (ok.choices.drawn_first d h)) new;
    passed_by = λ d f p h before. weaker
        (λ r late. (
          before_up_to d f (s.promised r) before late,
          λ x told _ is. true_false (subst (λ y. s.drawn y ≡ true) (is ∙ sym (some_is p)) (ok.promises.asked x told)) new,
        ))
        (ok.choices.promised_by f h);
  }

  draw_line : (s : State) (e : Epoch) → s.drawn e ≡ false → (ok : Sound members start s) → LineOf members start ok.latest (after s (Draw e))
  draw_line s e new ok = record {
    latest_chosen = ok.line.latest_chosen;
    active_chosen = ok.line.active_chosen;
    idle = ok.line.idle;
    later_idle = ok.line.later_idle;
    writes = ok.line.writes;
    acting = λ d p h. true_false (subst (λ x. s.drawn x ≡ true) (sym (some_is p)) (ok.choices.drawn_first d (ok.line.active_chosen d h))) new;
    kept = weaker
        (λ r has. (has.0, λ x told _ p _. true_false (subst (λ y. s.drawn y ≡ true) (sym (some_is p)) (ok.promises.asked x told)) new))
        ok.line.kept;
  }

  drawn : (s : State) (e : Epoch) → s.drawn e ≡ false → Sound members start s → Sound members start (after s (Draw e))
  drawn s e new ok = record {
    promises = record { asked = λ x h. put_true e s.drawn x.epoch (ok.promises.asked x h); since = ok.promises.since };
    acknowledgements = ok.acknowledgements;
    heads = ok.heads;
    choices = draw_choices s e new ok;
    latest = ok.latest;
    line = draw_line s e new ok;
    told = ok.told;
    issued_first = ok.issued_first;
  }

  -- Promise
  rises : (s : State) (r : ℕ) (e : Epoch) → is_earlier (s.promised r) e ≡ true → (q : ℕ) → is_earlier (at_node r e s.promised q) (s.promised q) ≡ false
  rises s r e above q = by_node (λ b. is_earlier (if b then e else s.promised q) (s.promised q) ≡ false) q r
      (λ p. not_after (s.promised q) e (subst (λ n. is_earlier (s.promised n) e ≡ true) (sym p) above))
      (not_before_self (s.promised q))

  promised : (s : State) (r : ℕ) (e : Epoch) → is_earlier (s.promised r) e ≡ true → Sound members start s → Sound members start (after s (Promise r e))
  promised s r e above ok = record {
    promises = record {
      asked = ok.promises.asked;
      since = λ x h. up_to_trans x.epoch (s.promised x.replica) (at_node r e s.promised x.replica) (ok.promises.since x h) (rises s r e above x.replica);
    };
    acknowledgements = ok.acknowledgements;
    heads = ok.heads;
    choices = record {
      drawn_first = ok.choices.drawn_first;
      promised_by = λ d h. weaker (λ q since. up_to_trans d (s.promised q) (at_node r e s.promised q) since (rises s r e above q)) (ok.choices.promised_by d h);
      current_drawn = ok.choices.current_drawn;
      newest = ok.choices.newest;
      passed_by = λ d f p h before. weaker (λ q late. (before_up_to d (s.promised q) (at_node r e s.promised q) late.0 (rises s r e above q), late.1)) (ok.choices.passed_by d f p h before);
    };
    latest = ok.latest;
    line = ok.line;
    told = ok.told;
    issued_first = ok.issued_first;
  }

  -- Report
  reported : (s : State) (r : ℕ) (e : Epoch) → s.drawn e ≡ true → s.promised r ≡ e → Sound members start s → Sound members start (after s (Report r e))
  reported s r e asked promise ok = record {
    promises = record { asked = asked_too; since = since_too };
    acknowledgements = ok.acknowledgements;
    heads = record { own = ok.heads.own; told = told_too };
    choices = record {
      drawn_first = ok.choices.drawn_first;
      promised_by = ok.choices.promised_by;
      current_drawn = ok.choices.current_drawn;
      newest = ok.choices.newest;
      passed_by = λ d f p h before. weaker (λ q late. (late.0, none_told d q late)) (ok.choices.passed_by d f p h before);
    };
    latest = ok.latest;
    line = record {
      latest_chosen = ok.line.latest_chosen;
      active_chosen = ok.line.active_chosen;
      idle = ok.line.idle;
      later_idle = ok.line.later_idle;
      writes = ok.line.writes;
      acting = ok.line.acting;
      kept = weaker (λ q has. (has.0, kept_too q has)) ok.line.kept;
    };
    told = ok.told;
    issued_first = ok.issued_first;
  }
    where
      new : Reported
      new = record { replica = r; epoch = e; head = s.head r }

      asked_too : (x : Reported) → Has x (new ∷ s.reports) → s.drawn x.epoch ≡ true
      asked_too x (inl p) = subst (λ y. s.drawn y.epoch ≡ true) (sym p) asked
      asked_too x (inr h) = ok.promises.asked x h

      since_too : (x : Reported) → Has x (new ∷ s.reports) → is_earlier (s.promised x.replica) x.epoch ≡ false
      since_too x (inl p) = subst (λ y. is_earlier (s.promised y.replica) y.epoch ≡ false) (sym p) (subst (λ d. is_earlier d e ≡ false) (sym promise) (not_before_self e))
      since_too x (inr h) = ok.promises.since x h

      told_too : (x : Reported) → Has x (new ∷ s.reports) → IsOfEpoch s.chosen s.base s.log x.head
      told_too x (inl p) = subst (λ y. IsOfEpoch s.chosen s.base s.log y.head) (sym p) (ok.heads.own r)
      told_too x (inr h) = ok.heads.told x h

      none_told : (d : Epoch) (q : ℕ) → (is_earlier d (s.promised q) ≡ true) × ((x : Reported) → Has x s.reports → x.replica ≡ q → x.epoch ≡ d → ⊥) → (x : Reported) → Has x (new ∷ s.reports) → x.replica ≡ q → x.epoch ≡ d → ⊥
      none_told d q late x (inl p) same is = true_false
          (subst (λ y. is_earlier d y ≡ true) (ap s.promised (sym same ∙ ap (λ (y : Reported). y.replica) p) ∙ promise ∙ ap (λ (y : Reported). y.epoch) (sym p) ∙ is) late.0)
          (not_before_self d)
      none_told d q late x (inr h) same is = late.1 x h same is

      kept_too : (q : ℕ) → AtMost (record { epoch = ok.latest; count = length (line_of start.line s.acts) }) (stamp_of (s.head q)) ×
          ((x : Reported) → Has x s.reports → x.replica ≡ q → s.current ≡ Some x.epoch → s.chosen x.epoch ≡ false →
          AtMost (record { epoch = ok.latest; count = length (line_of start.line s.acts) }) (stamp_of x.head)) →
          (x : Reported) → Has x (new ∷ s.reports) → x.replica ≡ q → s.current ≡ Some x.epoch → s.chosen x.epoch ≡ false →
          AtMost (record { epoch = ok.latest; count = length (line_of start.line s.acts) }) (stamp_of x.head)
      kept_too q has x (inl p) same c unchosen = subst (λ h. AtMost (record { epoch = ok.latest; count = length (line_of start.line s.acts) }) (stamp_of h))
          (ap s.head (sym same ∙ ap (λ (y : Reported). y.replica) p) ∙ ap (λ (y : Reported). y.head) (sym p)) has.0
      kept_too q has x (inr h) same c unchosen = has.1 x h same c unchosen

  -- Choose
  none_later : (s : State) (e : Epoch) (found : Head) → s.current ≡ Some e → Majority members (HasReported true s.reports e found) → Sound members start s →
      (f : Epoch) → s.chosen f ≡ true → is_earlier e f ≡ false
  none_later s e found c greatest ok f h = not_true (is_earlier e f) (λ before. clash (shared greatest (ok.choices.passed_by e f c h before)))
    where
      clash : (r : ℕ) × HasReported true s.reports e found r × ((is_earlier e (s.promised r) ≡ true) × ((x : Reported) → Has x s.reports → x.replica ≡ r → x.epoch ≡ e → ⊥)) → ⊥
      clash w = w.2.1 (record { replica = w.0; epoch = e; head = w.1.0 }) w.1.1 refl refl

  differs : (s : State) (e : Epoch) → s.chosen e ≡ false → (d : Epoch) → s.chosen d ≡ true → is_epoch d e ≡ false
  differs s e unchosen d h = not_true (is_epoch d e) (λ p. true_false h (subst (λ x. s.chosen x ≡ false) (sym (same_is d e p)) unchosen))

  still_of_epoch : (s : State) (e : Epoch) (found : Head) → s.chosen e ≡ false → (h : Head) → IsOfEpoch s.chosen s.base s.log h →
      IsOfEpoch (at_epoch e true s.chosen) (at_epoch e found.writes s.base) s.log h
  still_of_epoch s e found unchosen h of = record {
    has_one = put_true e s.chosen h.epoch of.has_one;
    front = rw (differs s e unchosen h.epoch of.has_one) of.front;
    whole = rw (differs s e unchosen h.epoch of.has_one) of.whole;
  }

  -- the head that is found is the line, or the line and one write more
  found_holds : (s : State) (e : Epoch) (found : Head) → s.current ≡ Some e → s.chosen e ≡ false →
      ((r : ℕ) × Has (record { replica = r; epoch = e; head = found }) s.reports) → Majority members (HasReported true s.reports e found) →
      Sound members start s → WritesHold start s.acts found.writes
  found_holds s e found c unchosen told greatest ok = by_place (at_most_cases ok.latest (length line) (stamp_of found) (reached (shared ok.line.kept greatest)))
    where
      line : List Write
      line = line_of start.line s.acts

      of : IsOfEpoch s.chosen s.base s.log found
      of = ok.heads.told (record { replica = told.0; epoch = e; head = found }) told.1

      reached : (r : ℕ) ×
          (AtMost (record { epoch = ok.latest; count = length line }) (stamp_of (s.head r)) ×
          ((x : Reported) → Has x s.reports → x.replica ≡ r → s.current ≡ Some x.epoch → s.chosen x.epoch ≡ false →
          AtMost (record { epoch = ok.latest; count = length line }) (stamp_of x.head))) ×
          HasReported true s.reports e found r → AtMost (record { epoch = ok.latest; count = length line }) (stamp_of found)
      reached w = at_most_trans _ (stamp_of w.2.0) (stamp_of found)
          (w.1.1 (record { replica = w.0; epoch = e; head = w.2.0 }) w.2.1 refl c unchosen) w.2.2

      front_holds : WritesHold start s.acts (s.base found.epoch ++ s.log found.epoch) → length line ≤ length found.writes → WritesHold start s.acts found.writes
      front_holds all long = record {
        near = near_front line found.writes _ all.near of.front long;
        distinct = distinct_front (map name found.writes) (map name of.front.0) (subst AreDistinct (ap (map name) (sym of.front.1) ∙ map-append name found.writes of.front.0) all.distinct);
        issued = λ w h. all.issued w (subst (Has w) of.front.1 (has-left w found.writes of.front.0 h));
      }

      by_place : (is_earlier ok.latest found.epoch ≡ true) ⊎ ((ok.latest ≡ found.epoch) × (length line ≤ length found.writes)) → WritesHold start s.acts found.writes
      by_place (inl before) = subst (WritesHold start s.acts)
          (sym (whole_front found.writes (s.base found.epoch ++ s.log found.epoch) of.front
          (subst (λ ws. length (s.base found.epoch ++ ws) ≤ length found.writes) (sym (ok.line.idle found.epoch (ok.line.later_idle found.epoch before)))
          (subst (λ ws. length ws ≤ length found.writes) (sym (append-nil (s.base found.epoch))) of.whole))))
          (ok.line.writes found.epoch of.has_one (not_after ok.latest found.epoch before))
      by_place (inr same) = front_holds
          (ok.line.writes found.epoch of.has_one (subst (λ d. is_earlier d ok.latest ≡ false) same.0 (not_before_self ok.latest))) same.1

  chosen_choices : (s : State) (e : Epoch) (found : Head) → s.current ≡ Some e → s.chosen e ≡ false → Majority members (HasReported true s.reports e found) →
      Sound members start s → ChoicesOf members (after s (Choose e found))
  chosen_choices s e found c unchosen greatest ok = record {
    drawn_first = λ d h. drawn_too d (was_true e s.chosen d h);
    promised_by = λ d h. promised_too d (was_true e s.chosen d h);
    current_drawn = ok.choices.current_drawn;
    newest = λ d f p _ h. subst (λ x. is_earlier x f ≡ false) (some_is (sym c ∙ p)) (newest_too f (was_true e s.chosen f h));
    passed_by = λ d f p h before. true_false before (subst (λ x. is_earlier x f ≡ false) (some_is (sym c ∙ p)) (newest_too f (was_true e s.chosen f h)));
  }
    where
      drawn_too : (d : Epoch) → (d ≡ e) ⊎ (s.chosen d ≡ true) → s.drawn d ≡ true
      drawn_too d (inl p) = subst (λ x. s.drawn x ≡ true) (sym p) (ok.choices.current_drawn e c)
      drawn_too d (inr h) = ok.choices.drawn_first d h

      promised_too : (d : Epoch) → (d ≡ e) ⊎ (s.chosen d ≡ true) → Majority members (λ r. is_earlier (s.promised r) d ≡ false)
      promised_too d (inl p) = subst (λ x. Majority members (λ r. is_earlier (s.promised r) x ≡ false)) (sym p)
          (weaker (λ r told. ok.promises.since (record { replica = r; epoch = e; head = told.0 }) told.1) greatest)
      promised_too d (inr h) = ok.choices.promised_by d h

      newest_too : (f : Epoch) → (f ≡ e) ⊎ (s.chosen f ≡ true) → is_earlier e f ≡ false
      newest_too f (inl p) = subst (λ x. is_earlier e x ≡ false) (sym p) (not_before_self e)
      newest_too f (inr h) = none_later s e found c greatest ok f h

  chosen_line : (s : State) (e : Epoch) (found : Head) → s.current ≡ Some e → s.chosen e ≡ false → WritesHold start s.acts found.writes →
      (ok : Sound members start s) → LineOf members start ok.latest (after s (Choose e found))
  chosen_line s e found c unchosen holds ok = record {
    latest_chosen = put_true e s.chosen ok.latest ok.line.latest_chosen;
    active_chosen = λ d h. put_true e s.chosen d (ok.line.active_chosen d h);
    idle = ok.line.idle;
    later_idle = ok.line.later_idle;
    writes = λ d. by_epoch (λ b. (if b then true else s.chosen d) ≡ true → is_earlier d ok.latest ≡ false → WritesHold start s.acts ((if b then found.writes else s.base d) ++ s.log d)) d e
        (λ p _ _. subst (λ ws. WritesHold start s.acts (found.writes ++ ws)) (sym (empty_log d p)) (subst (WritesHold start s.acts) (sym (append-nil found.writes)) holds))
        (λ _ h up. ok.line.writes d h up);
    acting = ok.line.acting;
    kept = weaker (λ r has. (has.0, λ x told same p free. has.1 x told same p (was_false e s.chosen x.epoch free))) ok.line.kept;
  }
    where
      empty_log : (d : Epoch) → d ≡ e → s.log d ≡ []
      empty_log d p = subst (λ x. s.log x ≡ []) (sym p) (ok.line.idle e (not_true (s.active e) (λ h. true_false (ok.line.active_chosen e h) unchosen)))

  chosen : (s : State) (e : Epoch) (found : Head) → Legal every_rule members s (Choose e found) → Sound members start s → Sound members start (after s (Choose e found))
  chosen s e found legal ok = record {
    promises = ok.promises;
    acknowledgements = ok.acknowledgements;
    heads = record {
      own = λ r. still_of_epoch s e found legal.first (s.head r) (ok.heads.own r);
      told = λ x h. still_of_epoch s e found legal.first x.head (ok.heads.told x h);
    };
    choices = chosen_choices s e found legal.current legal.first legal.greatest ok;
    latest = ok.latest;
    line = chosen_line s e found legal.current legal.first (found_holds s e found legal.current legal.first legal.reported legal.greatest ok) ok;
    told = ok.told;
    issued_first = ok.issued_first;
  }

  -- Take_head and Take_update: a greater head of some epoch
  head_grows : (s : State) (r : ℕ) (new : Head) → AtMost (stamp_of (s.head r)) (stamp_of new) → (q : ℕ) → AtMost (stamp_of (s.head q)) (stamp_of (at_node r new s.head q))
  head_grows s r new above q = by_node (λ b. AtMost (stamp_of (s.head q)) (stamp_of (if b then new else s.head q))) q r
      (λ p. subst (λ n. AtMost (stamp_of (s.head n)) (stamp_of new)) (sym p) above)
      (at_most_self (stamp_of (s.head q)))

  takes : (s : State) (r : ℕ) (new : Head) → IsOfEpoch s.chosen s.base s.log new → AtMost (stamp_of (s.head r)) (stamp_of new) →
      Sound members start s → Sound members start (record s { head = at_node r new s.head })
  takes s r new of above ok = record {
    promises = ok.promises;
    acknowledgements = record {
      reached = λ x h. at_most_trans x.stamp (stamp_of (s.head x.replica)) (stamp_of (at_node r new s.head x.replica)) (ok.acknowledgements.reached x h) (head_grows s r new above x.replica);
    };
    heads = record {
      own = λ q. by_node (λ b. IsOfEpoch s.chosen s.base s.log (if b then new else s.head q)) q r (λ _. of) (ok.heads.own q);
      told = ok.heads.told;
    };
    choices = ok.choices;
    latest = ok.latest;
    line = record {
      latest_chosen = ok.line.latest_chosen;
      active_chosen = ok.line.active_chosen;
      idle = ok.line.idle;
      later_idle = ok.line.later_idle;
      writes = ok.line.writes;
      acting = ok.line.acting;
      kept = weaker (λ q has. (at_most_trans _ (stamp_of (s.head q)) (stamp_of (at_node r new s.head q)) has.0 (head_grows s r new above q), has.1)) ok.line.kept;
    };
    told = ok.told;
    issued_first = ok.issued_first;
  }

  head_taken : (s : State) (r : ℕ) (t : Stamp) → Legal every_rule members s (Take_head r t) → Sound members start s → Sound members start (after s (Take_head r t))
  head_taken s r t legal ok = takes s r (record { epoch = t.epoch; writes = take t.count (writes_of s t.epoch) })
      (record {
        has_one = legal.chosen;
        front = front_take t.count (writes_of s t.epoch);
        whole = subst (λ n. length (s.base t.epoch) ≤ n) (sym count) legal.whole;
      })
      (subst (λ n. AtMost (stamp_of (s.head r)) (record { epoch = t.epoch; count = n })) (sym count) (below_at_most (stamp_of (s.head r)) t legal.above))
      ok
    where
      count : length (take t.count (writes_of s t.epoch)) ≡ t.count
      count = omega (arith, length-take t.count (writes_of s t.epoch), legal.known)

  update_taken : (s : State) (r : ℕ) (t : Stamp) → Legal every_rule members s (Take_update r t) → Sound members start s → Sound members start (after s (Take_update r t))
  update_taken s r t legal ok = takes s r (record { epoch = t.epoch; writes = mine ++ take 1 (drop (pred t.count) all) })
      (record {
        has_one = subst (λ e. s.chosen e ≡ true) legal.same of.has_one;
        front = (drop 1 (drop (pred t.count) all), append_assoc mine (take 1 (drop (pred t.count) all)) (drop 1 (drop (pred t.count) all)) ∙ ap (λ ws. mine ++ ws) (take-append-drop 1 (drop (pred t.count) all)) ∙ goes_on);
        whole = omega (arith, length-append mine (take 1 (drop (pred t.count) all)), subst (λ e. length (s.base e) ≤ length mine) legal.same of.whole);
      })
      (subst (λ e. AtMost (record { epoch = e; count = length mine }) (record { epoch = t.epoch; count = length (mine ++ take 1 (drop (pred t.count) all)) })) (sym legal.same)
      (at_most_count t.epoch (length mine) _ (omega (arith, length-append mine (take 1 (drop (pred t.count) all))))))
      ok
    where
      mine : List Write
      mine = (s.head r).writes

      all : List Write
      all = writes_of s t.epoch

      of : IsOfEpoch s.chosen s.base s.log (s.head r)
      of = ok.heads.own r

      goes_on : mine ++ drop (pred t.count) all ≡ all
      goes_on = subst (λ n. mine ++ drop n all ≡ all) (ap pred legal.next)
          (subst (λ a. mine ++ drop (length mine) a ≡ a) (of.front.1 ∙ ap (writes_of s) legal.same)
          (ap (λ ws. mine ++ ws) (drop-append_seam mine of.front.0)))

  acknowledged : (s : State) (r : ℕ) (t : Stamp) → AtMost t (stamp_of (s.head r)) → Sound members start s → Sound members start (after s (Acknowledge r t))
  acknowledged s r t reached ok = record {
    promises = ok.promises;
    acknowledgements = record { reached = reached_too };
    heads = ok.heads;
    choices = ok.choices;
    latest = ok.latest;
    line = ok.line;
    told = ok.told;
    issued_first = ok.issued_first;
  }
    where
      reached_too : (x : Acknowledged) → Has x (record { replica = r; stamp = t } ∷ s.acknowledged) → AtMost x.stamp (stamp_of (s.head x.replica))
      reached_too x (inl p) = subst (λ (y : Acknowledged). AtMost y.stamp (stamp_of (s.head y.replica))) (sym p) reached
      reached_too x (inr h) = ok.acknowledgements.reached x h

  -- the acts that report a write
  last_push : (ws : List Write) (w : Write) → last_write (ws ++ w ∷ []) ≡ w
  last_push [] w = refl
  last_push (v ∷ []) w = refl
  last_push (v ∷ u ∷ ws) w = last_push (u ∷ ws) w

  -- to report the last write of what is near the line makes that the line
  told_line : (line ws : List Write) → IsNear line ws → with_told (length ws) (last_write ws) line ≡ ws
  told_line line ws near = go near.more near.is near.one
    where
      nothing : (n : ℕ) (w : Write) → n ≡ length line → with_told n w line ≡ line
      nothing n w p = rw (not_true (n == suc (length line)) (λ q. grind (arith, nat_tests)))

      one : (n : ℕ) (w : Write) → n ≡ suc (length line) → with_told n w line ≡ line ++ w ∷ []
      one n w p = let q : (n == suc (length line)) ≡ true = grind (arith, nat_tests) in rw q

      go : (more : List Write) → line ++ more ≡ ws → length more ≤ 1 → with_told (length ws) (last_write ws) line ≡ ws
      go [] p l = nothing (length ws) (last_write ws) (ap length (sym p ∙ append-nil line)) ∙ sym (append-nil line) ∙ p
      go (w ∷ []) p l = one (length ws) (last_write ws) (omega (arith, ap length p, length-append line (w ∷ []))) ∙
          ap (λ v. line ++ v ∷ []) (ap last_write (sym p) ∙ last_push line w) ∙ p
      go (w ∷ v ∷ more) p l = absurd (omega arith)

  issued_mono : (acts : List Act) (a : Act) (w : Write) → WasIssued start acts w → WasIssued start (a ∷ acts) w
  issued_mono acts a w (inl h) = inl h
  issued_mono acts a w (inr h) = inr (h.0, inr h.1)

  at_line : (ws : List Write) → IsNear ws ws
  at_line ws = record { more = []; is = append-nil ws; one = omega arith }

  -- the acts that make the writes of an epoch the line
  settled : (acts : List Act) (a : Act) (ws : List Write) → line_of start.line (a ∷ acts) ≡ ws → WritesHold start acts ws → WritesHold start (a ∷ acts) ws
  settled acts a ws is holds = record {
    near = subst (λ l. IsNear l ws) (sym is) (at_line ws);
    distinct = holds.distinct;
    issued = λ w h. issued_mono acts a w (holds.issued w h);
  }

  has_acknowledged : (s : State) (t : Stamp) → Sound members start s → (r : ℕ) → HasAcknowledged s.acknowledged t r → AtMost t (stamp_of (s.head r))
  has_acknowledged s t ok r told = at_most_trans t told.0 (stamp_of (s.head r)) told.2 (ok.acknowledgements.reached (record { replica = r; stamp = told.0 }) told.1)

  activated : (s : State) (e : Epoch) → Legal every_rule members s (Activate e) → Sound members start s → Sound members start (after s (Activate e))
  activated s e legal ok = record {
    promises = ok.promises;
    acknowledgements = ok.acknowledgements;
    heads = ok.heads;
    choices = ok.choices;
    latest = e;
    line = record {
      latest_chosen = legal.chosen;
      active_chosen = λ d h. chosen_too d (was_true e s.active d h);
      idle = λ d h. ok.line.idle d (was_false e s.active d h);
      later_idle = λ d h. rw (not_true (is_epoch d e) (λ p. true_false (subst (λ x. is_earlier e x ≡ true) (same_is d e p) h) (not_before_self e)))
          (ok.line.later_idle d (up_to_before ok.latest e d newest_of h));
      writes = λ d h up. subst (λ x. WritesHold start acts (s.base x ++ s.log x)) (is_one e d (ok.choices.newest e d legal.current legal.chosen h) up)
          (settled s.acts act (s.base e ++ s.log e) (line_is ∙ sym all) holds);
      acting = λ d p _. (some_is (sym p ∙ legal.current), subst (λ x. at_epoch e (length (s.base e)) s.committed x ≡ length line) (some_is (sym legal.current ∙ p)) (at_same e (length (s.base e)) s.committed ∙ sym (ap length line_is)));
      kept = weaker (λ r told. (
        subst (λ n. AtMost (record { epoch = e; count = n }) (stamp_of (s.head r))) (sym (ap length line_is)) (has_acknowledged s (record { epoch = e; count = length (s.base e) }) ok r told),
        λ x _ _ p free. true_false (subst (λ y. s.chosen y ≡ true) (some_is (sym legal.current ∙ p)) legal.chosen) free,
      ))
          legal.acknowledged;
    };
    told = ((ap length line_is, ap last_write line_is), ok.told);
    issued_first = (λ w h. holds.issued w (subst (Has w) (line_is ∙ sym all) h), ok.issued_first);
  }
    where
      act : Act
      act = Activated (length (s.base e)) (last_write (s.base e))

      acts : List Act
      acts = act ∷ s.acts

      line : List Write
      line = line_of start.line acts

      newest_of : is_earlier e ok.latest ≡ false
      newest_of = ok.choices.newest e ok.latest legal.current legal.chosen ok.line.latest_chosen

      all : s.base e ++ s.log e ≡ s.base e
      all = ap (λ ws. s.base e ++ ws) (ok.line.idle e legal.first) ∙ append-nil (s.base e)

      holds : WritesHold start s.acts (s.base e ++ s.log e)
      holds = ok.line.writes e legal.chosen newest_of

      line_is : line ≡ s.base e
      line_is = told_line (line_of start.line s.acts) (s.base e) (subst (IsNear (line_of start.line s.acts)) all holds.near)

      chosen_too : (d : Epoch) → (d ≡ e) ⊎ (s.active d ≡ true) → s.chosen d ≡ true
      chosen_too d (inl p) = subst (λ x. s.chosen x ≡ true) (sym p) legal.chosen
      chosen_too d (inr h) = ok.line.active_chosen d h

  grown_of_epoch : (s : State) (e : Epoch) (w : Write) (h : Head) → IsOfEpoch s.chosen s.base s.log h → IsOfEpoch s.chosen s.base (at_epoch e (s.log e ++ w ∷ []) s.log) h
  grown_of_epoch s e w h of = record {
    has_one = of.has_one;
    front = by_epoch (λ b. IsFront h.writes (s.base h.epoch ++ (if b then s.log e ++ w ∷ [] else s.log h.epoch))) h.epoch e
        (λ p. subst (λ ws. IsFront h.writes (s.base h.epoch ++ (ws ++ w ∷ []))) (ap s.log p)
        (subst (IsFront h.writes) (append_assoc (s.base h.epoch) (s.log h.epoch) (w ∷ [])) (front_push h.writes _ (w ∷ []) of.front)))
        (λ _. of.front);
    whole = of.whole;
  }

  issued : (s : State) (e : Epoch) (w : Write) → Legal every_rule members s (Issue e w) → Sound members start s → Sound members start (after s (Issue e w))
  issued s e w legal ok = record {
    promises = ok.promises;
    acknowledgements = ok.acknowledgements;
    heads = record {
      own = λ r. grown_of_epoch s e w (s.head r) (ok.heads.own r);
      told = λ x h. grown_of_epoch s e w x.head (ok.heads.told x h);
    };
    choices = ok.choices;
    latest = ok.latest;
    line = record {
      latest_chosen = ok.line.latest_chosen;
      active_chosen = ok.line.active_chosen;
      idle = λ d h. by_epoch (λ b. (if b then s.log e ++ w ∷ [] else s.log d) ≡ []) d e
          (λ p. true_false (subst (λ x. s.active x ≡ true) (sym p) legal.active) h)
          (λ _. ok.line.idle d h);
      later_idle = ok.line.later_idle;
      writes = λ d h up. by_epoch (λ b. WritesHold start acts (s.base d ++ (if b then s.log e ++ w ∷ [] else s.log d))) d e
          (λ p. subst (λ x. WritesHold start acts (s.base x ++ (s.log e ++ w ∷ []))) (sym p)
          (subst (WritesHold start acts) (append_assoc (s.base e) (s.log e) (w ∷ [])) pushed))
          (λ _. told_too (ok.line.writes d h up));
      acting = ok.line.acting;
      kept = ok.line.kept;
    };
    told = (ap suc (ap length (sym line_is)), ok.told);
    issued_first = (λ v h. holds.issued v (subst (Has v) line_is h), ok.issued_first);
  }
    where
      act : Act
      act = Issued (suc (length (writes_of s e))) w

      acts : List Act
      acts = act ∷ s.acts

      line : List Write
      line = line_of start.line s.acts

      holds : WritesHold start s.acts (writes_of s e)
      holds = ok.line.writes e (ok.line.active_chosen e legal.active)
          (subst (λ x. is_earlier x ok.latest ≡ false) (sym (ok.line.acting e legal.current legal.active).0) (not_before_self ok.latest))

      line_is : line ≡ writes_of s e
      line_is = near_line line (writes_of s e) holds.near
          (omega (arith, legal.none_open, (ok.line.acting e legal.current legal.active).1))

      told_too : {ws : List Write} → WritesHold start s.acts ws → WritesHold start acts ws
      told_too h = record { near = h.near; distinct = h.distinct; issued = λ v here. issued_mono s.acts act v (h.issued v here) }

      issued_too : (v : Write) → Has v (writes_of s e) ⊎ Has v (w ∷ []) → WasIssued start acts v
      issued_too v (inl h) = issued_mono s.acts act v (holds.issued v h)
      issued_too v (inr (inl p)) = inr (suc (length (writes_of s e)), inl (ap (Issued (suc (length (writes_of s e)))) p))
      issued_too v (inr (inr h)) = absurd h

      pushed : WritesHold start acts (writes_of s e ++ w ∷ [])
      pushed = record {
        near = record { more = w ∷ []; is = ap (λ ws. ws ++ w ∷ []) line_is; one = omega arith };
        distinct = subst AreDistinct (sym (map-append name (writes_of s e) (w ∷ []))) (distinct_push (map name (writes_of s e)) (name w) holds.distinct legal.new);
        issued = λ v h. issued_too v (has-append v (writes_of s e) (w ∷ []) h);
      }

  committed : (s : State) (e : Epoch) → Legal every_rule members s (Commit e) → Sound members start s → Sound members start (after s (Commit e))
  committed s e legal ok = record {
    promises = ok.promises;
    acknowledgements = ok.acknowledgements;
    heads = ok.heads;
    choices = ok.choices;
    latest = ok.latest;
    line = record {
      latest_chosen = ok.line.latest_chosen;
      active_chosen = ok.line.active_chosen;
      idle = ok.line.idle;
      later_idle = ok.line.later_idle;
      writes = λ d h up. subst (λ x. WritesHold start acts (s.base x ++ s.log x))
          (is_one e d (ok.choices.newest e d legal.current e_chosen h) (subst (λ x. is_earlier d x ≡ false) (sym acting.0) up))
          (settled s.acts act (writes_of s e) line_is holds);
      acting = λ d p _. (
        sym (some_is (sym legal.current ∙ p)) ∙ acting.0,
        subst (λ x. at_epoch e (suc (s.committed e)) s.committed x ≡ length line) (some_is (sym legal.current ∙ p))
            (at_same e (suc (s.committed e)) s.committed ∙ sym count),
      );
      kept = weaker (λ r told. (
        subst₂ (λ x n. AtMost (record { epoch = x; count = n }) (stamp_of (s.head r))) acting.0 (sym count)
            (has_acknowledged s (record { epoch = e; count = suc (s.committed e) }) ok r told),
        λ x _ _ p free. true_false (subst (λ y. s.chosen y ≡ true) (some_is (sym legal.current ∙ p)) e_chosen) free,
      ))
          legal.acknowledged;
    };
    told = ((count, ap last_write (line_is ∙ sym whole)), ok.told);
    issued_first = (λ w h. holds.issued w (subst (Has w) line_is h), ok.issued_first);
  }
    where
      before : List Write
      before = line_of start.line s.acts

      acting : (e ≡ ok.latest) × (s.committed e ≡ length before)
      acting = ok.line.acting e legal.current legal.active

      e_chosen : s.chosen e ≡ true
      e_chosen = ok.line.active_chosen e legal.active

      holds : WritesHold start s.acts (writes_of s e)
      holds = ok.line.writes e e_chosen (subst (λ x. is_earlier x ok.latest ≡ false) (sym acting.0) (not_before_self ok.latest))

      length_is : suc (s.committed e) ≡ length (writes_of s e)
      length_is = omega (arith, acting.1, legal.open_write, holds.near.one, ap length holds.near.is, length-append before holds.near.more)

      whole : take (suc (s.committed e)) (writes_of s e) ≡ writes_of s e
      whole = take_all (suc (s.committed e)) (writes_of s e) (omega (arith, length_is))

      act : Act
      act = Committed (suc (s.committed e)) (last_write (take (suc (s.committed e)) (writes_of s e)))

      acts : List Act
      acts = act ∷ s.acts

      line : List Write
      line = line_of start.line acts

      line_is : line ≡ writes_of s e
      line_is = ap₂ (λ n ws. with_told n (last_write ws) before) length_is whole ∙ told_line before (writes_of s e) holds.near

      count : length line ≡ suc (s.committed e)
      count = ap length line_is ∙ sym length_is

  lost : (s : State) → Sound members start s → Sound members start (after s Lose)
  lost s ok = record {
    promises = ok.promises;
    acknowledgements = ok.acknowledgements;
    heads = ok.heads;
    choices = record {
      drawn_first = ok.choices.drawn_first;
      promised_by = ok.choices.promised_by;
      current_drawn = λ d p. absurd (none p);
      newest = λ d f p _ _. absurd (none p);
      passed_by = λ d f p _ _. absurd (none p);
    };
    latest = ok.latest;
    line = record {
      latest_chosen = ok.line.latest_chosen;
      active_chosen = ok.line.active_chosen;
      idle = ok.line.idle;
      later_idle = ok.line.later_idle;
      writes = ok.line.writes;
      acting = λ d p _. absurd (none p);
      kept = weaker (λ r has. (has.0, λ x _ _ p _. absurd (none p))) ok.line.kept;
    };
    told = ok.told;
    issued_first = ok.issued_first;
  }
    where
      none : {d : Epoch} → None ≡ Some d → ⊥
      none p = cc

  -- one move
  pub moved : (s : State) (m : Move) → Legal every_rule members s m → Sound members start s → Sound members start (after s m)
  moved s (Draw e) legal ok = drawn s e legal.new ok
  moved s (Promise r e) legal ok = promised s r e legal.above ok
  moved s (Report r e) legal ok = reported s r e legal.drawn legal.promised ok
  moved s (Choose e found) legal ok = chosen s e found legal ok
  moved s (Take_head r t) legal ok = head_taken s r t legal ok
  moved s (Take_update r t) legal ok = update_taken s r t legal ok
  moved s (Acknowledge r t) legal ok = acknowledged s r t legal.reached ok
  moved s (Activate e) legal ok = activated s e legal ok
  moved s (Issue e w) legal ok = issued s e w legal ok
  moved s (Commit e) legal ok = committed s e legal ok
  moved s Lose legal ok = lost s ok

  pub all_moved : (s : State) (ms : List Move) → AreLegal every_rule members s ms → Sound members start s → Sound members start (after_all s ms)
  all_moved s [] legal ok = ok
  all_moved s (m ∷ ms) legal ok = all_moved (after s m) ms legal.1 (moved s m legal.0 ok)

  -- the start
  pub begun : IsStart members start → Sound members start (begin start)
  begun is = record {
    promises = record { asked = λ x h. absurd h; since = λ x h. absurd h };
    acknowledgements = record { reached = λ x h. absurd h };
    heads = record {
      own = λ r. record {
        has_one = same_self start.epoch;
        front = subst (IsFront (take (start.holds r) all)) (sym (at_same start.epoch all (λ e. []))) (front_take (start.holds r) all);
        whole = omega arith;
      };
      told = λ x h. absurd h;
    };
    choices = record {
      drawn_first = λ e h. h;
      promised_by = λ e h. weaker (λ r has. subst (λ d. is_earlier (start.promised r) d ≡ false) (sym (same_is e start.epoch h)) has.1) is.kept;
      current_drawn = λ e p. absurd (none p);
      newest = λ e f p _ _. absurd (none p);
      passed_by = λ e f p _ _. absurd (none p);
    };
    latest = start.epoch;
    line = record {
      latest_chosen = same_self start.epoch;
      active_chosen = λ e h. h;
      idle = λ e h. rw h;
      later_idle = λ e h. not_true (is_epoch e start.epoch) (λ p. true_false (subst (λ d. is_earlier start.epoch d ≡ true) (same_is e start.epoch p) h) (not_before_self start.epoch));
      writes = λ e h _. subst (WritesHold start []) (sym (rw h)) first;
      acting = λ e p _. absurd (none p);
      kept = weaker (λ r has. (
        at_most_count start.epoch (length start.line) _ (omega (arith, has.0, length-take (start.holds r) all, length-append start.line start.open_writes)),
        λ x h _ _ _. absurd h,
      )) is.kept;
    };
    told = tt;
    issued_first = tt;
  }
    where
      all : List Write
      all = start.line ++ start.open_writes

      first : WritesHold start [] all
      first = record {
        near = record { more = start.open_writes; is = refl; one = is.at_most_one_open };
        distinct = is.different;
        issued = λ w h. inl h;
      }

      none : {d : Epoch} → None ≡ Some d → ⊥
      none p = cc
