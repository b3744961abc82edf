-- nothing is chosen exactly while it is too early
use Rattle.std.proofs.Common.{◌≡◌, ℕ, ◌+◌, ◌<◌, ◌≤◌, ◌⊎◌, inl, inr, List, [], ◌∷◌, ◌++◌, length, refl, sym, subst, arith, length-append, Option, Some, None, Bool, true, false}
use Rattle.std.specs.Prelude.{nat_le, ◌==◌, ◌&&◌, if◌then◌else◌}
use Rattle.std.specs.Option.{option_map}
use Rattle.std.proofs.lemmas.Bool.Decides.{nat_tests}
use Rattle.xt_base.specs.TimeSettings.{TimeSettings}
use Rattle.xt_base.specs.declared.ids.NodeId.{NodeId}
use Rattle.xt_messages.specs.declared.file.FileHead.{FileHead}
use Rattle.change_rows.specs.Changes.{ChangeState, majority_of, has_waited, is_ready, choice_of, best_in, choice_at, awaits_closing, with_report, closed_by}
use Rattle.change_rows.specs.Laws.{IsFew, IsShort, IsEarly, IsTimed}

-- of one report at least, one is the best
some_best : (c : ChangeState) (reports : List (NodeId × FileHead)) → 1 ≤ length reports → option_map (choice_of c) (best_in reports) ≡ None → ⊥
some_best c [] some none = absurd (omega arith)
some_best c (r ∷ rs) some none = absurd cc

not_waited : (times : TimeSettings) (since : Option ℕ) (now : ℕ) → has_waited times since now ≡ false → IsShort times since now
not_waited times None now h = tt
not_waited times (Some moment) now h = grind (arith, nat_tests)

waited : (times : TimeSettings) (since : Option ℕ) (now : ℕ) → has_waited times since now ≡ true → IsShort times since now → ⊥
waited times None now h short = absurd cc
waited times (Some moment) now h short = grind (arith, nat_tests)

module _ (c : ChangeState) (now : ℕ) where
  early_by : (over many : Bool) → has_waited c.times c.since now ≡ over → nat_le (majority_of (length c.before.members)) (length c.reports) ≡ many
      → (if over && many then option_map (choice_of c) (best_in c.reports) else None) ≡ None → IsEarly c now
  early_by false many h some none = inr (not_waited c.times c.since now h)
  early_by true false h few none = inl (grind (arith, nat_tests))
  early_by true true h many none =
      let enough : majority_of (length c.before.members) ≤ length c.reports = grind (arith, nat_tests) in
      absurd (some_best c c.reports (omega arith) none)

  late_by : (over many : Bool) → has_waited c.times c.since now ≡ over → nat_le (majority_of (length c.before.members)) (length c.reports) ≡ many
      → IsEarly c now → (if over && many then option_map (choice_of c) (best_in c.reports) else None) ≡ None
  late_by false many h some early = refl
  late_by true false h few early = refl
  late_by true true h many (inl few) = absurd (grind (arith, nat_tests))
  late_by true true h many (inr short) = absurd (waited c.times c.since now h short)

  pub early : choice_at c now ≡ None → IsEarly c now
  early none = early_by (has_waited c.times c.since now) (nat_le (majority_of (length c.before.members)) (length c.reports)) refl refl none

  pub late : IsEarly c now → choice_at c now ≡ None
  late h = late_by (has_waited c.times c.since now) (nat_le (majority_of (length c.before.members)) (length c.reports)) refl refl h

-- a change that is ready has a report
pub counted_when : (c : ChangeState) (now : ℕ) → is_ready c now ≡ true → 0 < length c.reports
counted_when c now h = by_wait (has_waited c.times c.since now) (nat_le (majority_of (length c.before.members)) (length c.reports)) refl h
  where
    by_wait : (over many : Bool) → nat_le (majority_of (length c.before.members)) (length c.reports) ≡ many → (over && many) ≡ true → 0 < length c.reports
    by_wait false many is h = absurd cc
    by_wait true false is h = absurd cc
    by_wait true true is h =
        let enough : majority_of (length c.before.members) ≤ length c.reports = grind (arith, nat_tests) in
        omega arith

-- ---- the clock of the majority

none_counted : (members : ℕ) → 0 < majority_of members
none_counted members = omega arith

pub timed_first : (c : ChangeState) → c.reports ≡ [] → c.since ≡ None → IsTimed c
timed_first c reports since =
    ((λ none. subst (λ rs. length rs < majority_of (length c.before.members)) (sym reports) (none_counted (length c.before.members))), (λ few. since))

module _ (c : ChangeState) (now : ℕ) (from : NodeId) (head : FileHead) (timed : IsTimed c) where
  one_more : length (c.reports ++ (from, head) ∷ []) ≡ length c.reports + 1
  one_more = length-append c.reports ((from, head) ∷ [])

  counted_by : (is : Bool) → (length c.reports + 1 == majority_of (length c.before.members)) ≡ is
      → ((if is then Some now else c.since) ≡ None → IsFew (with_report c now from head)) × (IsFew (with_report c now from head) → (if is then Some now else c.since) ≡ None)
  counted_by true h =
      let same : length c.reports + 1 ≡ majority_of (length c.before.members) = grind (arith, nat_tests) in
      ((λ none. absurd cc), (λ few. absurd (omega (arith, one_more))))
  counted_by false h =
      let other : length c.reports + 1 ≡ majority_of (length c.before.members) → ⊥ = (λ same. grind (arith, nat_tests)) in (
        (λ none. (let few : length c.reports < majority_of (length c.before.members) = timed.0 none in below few other)),
        (λ few. timed.1 (omega (arith, one_more))),
      )
    where
      below : length c.reports < majority_of (length c.before.members) → (length c.reports + 1 ≡ majority_of (length c.before.members) → ⊥)
          → length (c.reports ++ (from, head) ∷ []) < majority_of (length c.before.members)
      below few other = elim (cases few) as (λ w. length (c.reports ++ (from, head) ∷ []) < majority_of (length c.before.members)) [
        | inl same ↦ absurd (other same)
        | inr less ↦ omega (arith, one_more)
      ]
        where
          cases : length c.reports < majority_of (length c.before.members) → (length c.reports + 1 ≡ majority_of (length c.before.members)) ⊎ (length c.reports + 1 < majority_of (length c.before.members))
          cases few = grind (arith, nat_tests)

  with_timed : IsTimed (with_report c now from head)
  with_timed = counted_by (length c.reports + 1 == majority_of (length c.before.members)) refl

  pub closed_timed : (version : ℕ) → IsTimed (closed_by c now from version head)
  closed_timed version = by_test (awaits_closing c from version)
    where
      by_test : (b : Bool) → IsTimed (if b then with_report c now from head else c)
      by_test true = with_timed
      by_test false = timed

-- the moment is set once: from the majority on the number that is counted is another one
module _ (c : ChangeState) (now : ℕ) (from : NodeId) (head : FileHead) (moment : ℕ) (timed : IsTimed c) (since : c.since ≡ Some moment) where
  many : IsFew c → ⊥
  many few = let none : c.since ≡ None = timed.1 few in cc

  kept_by : (is : Bool) → (length c.reports + 1 == majority_of (length c.before.members)) ≡ is → (if is then Some now else c.since) ≡ Some moment
  kept_by true h =
      let same : length c.reports + 1 ≡ majority_of (length c.before.members) = grind (arith, nat_tests) in absurd (many (omega arith))
  kept_by false h = since

  pub moment_kept : (version : ℕ) → (closed_by c now from version head).since ≡ Some moment
  moment_kept version = by_test (awaits_closing c from version)
    where
      by_test : (b : Bool) → (if b then with_report c now from head else c).since ≡ Some moment
      by_test true = kept_by (length c.reports + 1 == majority_of (length c.before.members)) refl
      by_test false = since
