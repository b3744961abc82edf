-- The clauses so far give the verdict of the pass.
use Rattle.std.proofs.Common.{◌<◌, ◌≤◌, ◌≡◌, ◌∙◌, ℕ, ◌+◌, ◌-◌, Bool, true, false, List, [], ◌∷◌, ◌++◌, length, length-append, get_or, Option, Some, None, refl, sym, ap, subst, append_assoc, zero-add, arith, true≢false}
use Rattle.std.specs.Prelude.{◌||◌, if◌then◌else◌}
use Rattle.std.specs.List.{sum_by}
use Rattle.std.proofs.lemmas.List.Sums.{sum_by-append, sum_by-cons}
use Rattle.std.specs.Option.{option_or}
use Rattle.xt_base.specs.declared.ids.OpId.{OpId}
use Rattle.xt_messages.specs.declared.event.Call.{Call}
use Rattle.xt_messages.specs.declared.file.Location.{Location}
use Rattle.time_line.specs.declared.entry.Entry.{Entry}
use Rattle.time_line.specs.declared.entry.Entry.TheVariants as entry
use Rattle.time_line.specs.TimeLine.{begun, location_in, location_told, is_replicated_at, stripe_at, times_of}
use Rattle.time_line.specs.Verdicts.{Break, Clause, apart, acting, one_order, once, shown, fresh}
use Rattle.judging.specs.Pass.{Kept, nothing, after, is_told, least_broken, break_at, judged}
use Rattle.judging.proofs.Dealing.{deals}
use Rattle.judging.specs.Dealt.{is_common, is_dealt, ticks_of, dealt, dealt_to, advanced, found_from, judged_by_dealt}
use Rattle.trace_judge.specs.declared.kept.Judging.{Judging}
use Rattle.trace_judge.specs.Following.{says_of, Follows}
use Rattle.trace_judge.specs.Short.{ticks_after}
use Rattle.trace_judge.specs.Deals.{places_from, ticks_from, is_of, stripe_if, IsNext}
use Rattle.trace_judge.specs.declared.verdict.Verdict.{Verdict}
use Rattle.trace_judge.specs.Found.{verdict_of, some_verdict}
use Rattle.trace_judge.proofs.Along.{entry_at, ticks_at, ticks_length, Meets, next_is_met, none_is_met}

-- six tests, the least that fails
abbrev least : Bool → Bool → Bool → Bool → Bool → Bool → Option Clause
least true true true true true true = None
least true true true true true false = Some fresh
least true true true true false f = Some shown
least true true true false e f = Some once
least true true false d e f = Some one_order
least true false c d e f = Some acting
least false b c d e f = Some apart

is_least : (says : Clause → Bool) → least_broken says ≡ least (says apart) (says acting) (says one_order) (says once) (says shown) (says fresh)
is_least says = by (says apart) (says acting) (says one_order) (says once) (says shown) (says fresh)
  where
    by : (a b c d e f : Bool) → least_broken (λ (x : Clause). elim x [ apart ↦ a | acting ↦ b | one_order ↦ c | once ↦ d | shown ↦ e | fresh ↦ f ]) ≡ least a b c d e f
    by true true true true true true = refl
    by true true true true true false = refl
    by true true true true false f = refl
    by true true true false e f = refl
    by true true false d e f = refl
    by true false c d e f = refl
    by false b c d e f = refl

pub least_same : (k : Kept) (j : Judging) → Follows k j → least_broken (says_of j.says) ≡ least_broken k.says
least_same k j f =
    is_least (says_of j.says)
    ∙ ap (λ a. least a j.says.acting j.says.one_order j.says.once j.says.shown j.says.fresh) f.says_apart
    ∙ ap (λ b. least (k.says apart) b j.says.one_order j.says.once j.says.shown j.says.fresh) f.says_acting
    ∙ ap (λ c. least (k.says apart) (k.says acting) c j.says.once j.says.shown j.says.fresh) f.says_order
    ∙ ap (λ d. least (k.says apart) (k.says acting) (k.says one_order) d j.says.shown j.says.fresh) f.says_once
    ∙ ap (λ x. least (k.says apart) (k.says acting) (k.says one_order) (k.says once) j.says.shown x) f.says_fresh
    ∙ last (k.says once) refl
    ∙ sym (is_least k.says)
  where
    never : (a b c e e' f : Bool) → least a b c false e f ≡ least a b c false e' f
    never true true true e e' f = refl
    never true true false e e' f = refl
    never true false c e e' f = refl
    never false b c e e' f = refl

    last : (d : Bool) → k.says once ≡ d → least (k.says apart) (k.says acting) (k.says one_order) d j.says.shown (k.says fresh) ≡ least (k.says apart) (k.says acting) (k.says one_order) d (k.says shown) (k.says fresh)
    last true is = ap (λ e. least (k.says apart) (k.says acting) (k.says one_order) true e (k.says fresh)) (f.says_shown is)
    last false is = never (k.says apart) (k.says acting) (k.says one_order) j.says.shown (k.says shown) (k.says fresh)

-- ---- the walk

abbrev pub all_calls : List Entry → OpId → Option Call
all_calls entries = λ id. begun id entries

-- these entries are judged, and what is dealt of the rest decides
pub record IsJudged (drift stripe file : ℕ) (entries : List Entry) (mine common : List ℕ) (j : Judging) (placed : Bool) : Type 0 where
  pub k : Kept
  pub front : List Entry
  pub rest : List Entry
  pub ticks : ℕ
  pub split : entries ≡ front ++ rest
  pub follows : Follows k j
  pub same : found_from drift stripe file nothing false (dealt_to file entries) ≡ found_from drift stripe file k placed (dealt (is_dealt file (all_calls entries)) ticks (length front) rest)
  pub mine_is : mine ≡ places_from (is_of (all_calls entries) file) (length front) rest
  pub common_is : common ≡ places_from is_common (length front) rest
  pub drift_is : j.leases.drift ≡ drift
  pub file_is : j.leases.readings.file ≡ file
  pub stripe_is : j.writes.stripe ≡ stripe
  pub elapsed : sum_by ticks_of front ≡ j.leases.readings.ticks + ticks

pub begins : (drift stripe file : ℕ) (entries : List Entry) (mine common : List ℕ) (j : Judging) → Follows nothing j
    → mine ≡ places_from (is_of (all_calls entries) file) 0 entries → common ≡ places_from is_common 0 entries
    → j.leases.drift ≡ drift → j.leases.readings.file ≡ file → j.writes.stripe ≡ stripe → j.leases.readings.ticks ≡ 0
    → IsJudged drift stripe file entries mine common j false
begins drift stripe file entries mine common j follows mine_is common_is drift_is file_is stripe_is ticks = record {
  k = nothing;
  front = [];
  rest = entries;
  ticks = 0;
  split = refl;
  follows = follows;
  same = refl;
  mine_is = mine_is;
  common_is = common_is;
  drift_is = drift_is;
  file_is = file_is;
  stripe_is = stripe_is;
  elapsed = omega (arith, ticks);
}

-- the place of an entry, and how far the clocks have advanced before it
pub record IsReached (entries : List Entry) (n : ℕ) (e : Entry) (ticks : ℕ) : Type 0 where
  pub inside : n < length entries
  pub inside_ticks : n < length (ticks_from 0 entries)
  pub is : (d : Entry) → get_or entries n d ≡ e
  pub ticks_are : (d : ℕ) → get_or (ticks_from 0 entries) n d ≡ ticks
  pub few : ticks ≤ sum_by ticks_of entries

reached : (entries before behind : List Entry) (e : Entry) (n : ℕ) → entries ≡ before ++ e ∷ behind → n ≡ length before → IsReached entries n e (sum_by ticks_of before)
reached entries before behind e n split at = record {
  inside = inside;
  inside_ticks = omega (arith, ticks_length entries 0, inside);
  is = λ d. ap (λ (m : ℕ). get_or entries m d) at ∙ ap (λ (es : List Entry). get_or es (length before) d) split ∙ entry_at before behind e d;
  ticks_are = λ d.
      ap (λ (m : ℕ). get_or (ticks_from 0 entries) m d) at ∙ ap (λ (es : List Entry). get_or (ticks_from 0 es) (length before) d) split
      ∙ ticks_at before behind e 0 d ∙ zero-add (sum_by ticks_of before);
  few = omega (arith, ap (sum_by ticks_of) split, sum_by-append ticks_of before (e ∷ behind));
}
  where
    inside : n < length entries
    inside = omega (arith, at, ap length split, length-append before (e ∷ behind))

-- the clocks advance to these ticks, and an entry is taken
pub record IsStep (j j_then l : Judging) (e : Entry) (ticks : ℕ) : Type 0 where
  pub advances : (k : Kept) → Follows k j → Follows (advanced (ticks - j.leases.readings.ticks) k) j_then
  pub drift_stays : j_then.leases.drift ≡ j.leases.drift
  pub file_stays : j_then.leases.readings.file ≡ j.leases.readings.file
  pub stripe_stays : j_then.writes.stripe ≡ j.writes.stripe
  pub takes : (k : Kept) → Follows k j_then → Follows (after j_then.leases.drift j_then.writes.stripe j_then.leases.readings.file k e) l
  pub drift_then : l.leases.drift ≡ j_then.leases.drift
  pub file_then : l.leases.readings.file ≡ j_then.leases.readings.file
  pub stripe_then : l.writes.stripe ≡ j_then.writes.stripe
  pub ticks_then : l.leases.readings.ticks ≡ ticks_after ticks e

module _ (drift stripe file : ℕ) (entries : List Entry) (mine common mine_left common_left : List ℕ) (n : ℕ) (j : Judging) (placed : Bool)
    (i : IsJudged drift stripe file entries mine common j placed) (next : IsNext mine common (Some n) mine_left common_left) where
  pub met : Meets (all_calls entries) file (length i.front) n i.rest mine_left common_left
  met = next_is_met (all_calls entries) file (length i.front) n i.rest mine common mine_left common_left i.mine_is i.common_is next

  pub before : List Entry
  before = i.front ++ met.skipped

  split : entries ≡ before ++ met.met ∷ met.behind
  unfolding before
  split = i.split ∙ ap (λ (es : List Entry). i.front ++ es) met.split ∙ sym (append_assoc i.front met.skipped (met.met ∷ met.behind))

  at : n ≡ length before
  unfolding before
  at = omega (arith, met.at, length-append i.front met.skipped)

  pub reaches : IsReached entries n met.met (sum_by ticks_of before)
  reaches = reached entries before met.behind met.met n split at

  elapsed : sum_by ticks_of before ≡ j.leases.readings.ticks + (i.ticks + sum_by ticks_of met.skipped)
  unfolding before
  elapsed = omega (arith, sum_by-append ticks_of i.front met.skipped, i.elapsed)

  pub no_less : j.leases.readings.ticks ≤ sum_by ticks_of before
  no_less = omega (arith, elapsed)

  module _ (e : Entry) (ticks : ℕ) (j_then l : Judging) (told : Bool) (e_is : e ≡ met.met) (ticks_are : ticks ≡ sum_by ticks_of before)
      (told_is : told ≡ (placed || is_told (location_told file e))) (s : IsStep j j_then l e ticks) where
    abbrev pub then_kept : Kept
    then_kept = after drift stripe file (advanced (i.ticks + sum_by ticks_of met.skipped) i.k) e

    since_is : ticks - j.leases.readings.ticks ≡ i.ticks + sum_by ticks_of met.skipped
    since_is = omega (arith, elapsed, ticks_are)

    pub follows_then : Follows then_kept l
    follows_then =
        subst (λ (f : ℕ). Follows (after drift stripe f (advanced (i.ticks + sum_by ticks_of met.skipped) i.k) e) l) (s.file_stays ∙ i.file_is)
        (subst (λ (st : ℕ). Follows (after drift st j_then.leases.readings.file (advanced (i.ticks + sum_by ticks_of met.skipped) i.k) e) l) (s.stripe_stays ∙ i.stripe_is)
        (subst (λ (d : ℕ). Follows (after d j_then.writes.stripe j_then.leases.readings.file (advanced (i.ticks + sum_by ticks_of met.skipped) i.k) e) l) (s.drift_stays ∙ i.drift_is)
        (s.takes (advanced (i.ticks + sum_by ticks_of met.skipped) i.k) (subst (λ (t : ℕ). Follows (advanced t i.k) j_then) since_is (s.advances i.k i.follows)))))

    step : found_from drift stripe file nothing false (dealt_to file entries)
        ≡ option_or (break_at told (least_broken then_kept.says) (n + 1)) (found_from drift stripe file then_kept told (dealt (is_dealt file (all_calls entries)) 0 (n + 1) met.behind))
    unfolding found_from
    step =
        i.same
        ∙ ap (found_from drift stripe file i.k placed) (met.dealt_is i.ticks)
        ∙ ap (λ (x : Entry). option_or (break_at (placed || is_told (location_told file x)) (least_broken (after drift stripe file (advanced (i.ticks + sum_by ticks_of met.skipped) i.k) x).says) (n + 1))
        (found_from drift stripe file (after drift stripe file (advanced (i.ticks + sum_by ticks_of met.skipped) i.k) x) (placed || is_told (location_told file x)) (dealt (is_dealt file (all_calls entries)) 0 (n + 1) met.behind))) (sym e_is)
        ∙ ap (λ (p : Bool). option_or (break_at p (least_broken then_kept.says) (n + 1)) (found_from drift stripe file then_kept p (dealt (is_dealt file (all_calls entries)) 0 (n + 1) met.behind))) (sym told_is)

    none_told : (b : Option Break) → None ≡ some_verdict b → b ≡ None
    none_told None is = refl
    none_told (Some b) is = absurd (cc is)

    some_told : (v : Verdict) (b other : Option Break) → Some v ≡ some_verdict b → v ≡ verdict_of (option_or b other)
    some_told v None other is = absurd (cc is)
    some_told v (Some b) other is = cc is

    pub found : (v : Verdict) → Some v ≡ some_verdict (break_at told (least_broken then_kept.says) (n + 1)) → v ≡ verdict_of (found_from drift stripe file nothing false (dealt_to file entries))
    found v is = some_told v (break_at told (least_broken then_kept.says) (n + 1)) (found_from drift stripe file then_kept told (dealt (is_dealt file (all_calls entries)) 0 (n + 1) met.behind)) is ∙ ap verdict_of (sym step)

    -- a clock is advanced by no entry that is dealt
    no_tick : (x : Entry) → is_dealt file (all_calls entries) x ≡ true → (ticks_of x ≡ 0) × (ticks_after ticks x ≡ ticks)
    no_tick (entry.Tick count) is = absurd (true≢false (sym is))
    no_tick _ is = (refl, refl)

    longer : List Entry
    longer = before ++ e ∷ []

    longer_is : length longer ≡ n + 1
    unfolding longer
    longer_is = omega (arith, at, length-append before (e ∷ []))

    pub goes_on : None ≡ some_verdict (break_at told (least_broken then_kept.says) (n + 1)) → IsJudged drift stripe file entries mine_left common_left l told
    unfolding longer
    goes_on nothing_told = record {
      k = then_kept;
      front = longer;
      rest = met.behind;
      ticks = 0;
      split = split ∙ ap (λ (x : Entry). before ++ x ∷ met.behind) (sym e_is) ∙ sym (append_assoc before (e ∷ []) met.behind);
      follows = follows_then;
      same =
          step
          ∙ ap (λ (b : Option Break). option_or b (found_from drift stripe file then_kept told (dealt (is_dealt file (all_calls entries)) 0 (n + 1) met.behind)))
          (none_told (break_at told (least_broken then_kept.says) (n + 1)) nothing_told)
          ∙ ap (λ (m : ℕ). found_from drift stripe file then_kept told (dealt (is_dealt file (all_calls entries)) 0 m met.behind)) (sym longer_is);
      mine_is = met.one_is ∙ ap (λ (m : ℕ). places_from (is_of (all_calls entries) file) m met.behind) (sym longer_is);
      common_is = met.other_is ∙ ap (λ (m : ℕ). places_from is_common m met.behind) (sym longer_is);
      drift_is = s.drift_then ∙ s.drift_stays ∙ i.drift_is;
      file_is = s.file_then ∙ s.file_stays ∙ i.file_is;
      stripe_is = s.stripe_then ∙ s.stripe_stays ∙ i.stripe_is;
      elapsed =
          let none_more : ticks_of e ≡ 0 = ap ticks_of e_is ∙ (no_tick met.met met.is_both).0 in
          let now : l.leases.readings.ticks ≡ ticks = s.ticks_then ∙ ap (ticks_after ticks) e_is ∙ (no_tick met.met met.is_both).1 in
          omega (arith, sum_by-append ticks_of before (e ∷ []), sum_by-cons ticks_of e [], none_more, now, ticks_are);
    }

pub at_end : (drift stripe file : ℕ) (entries : List Entry) (mine common mine_left common_left : List ℕ) (j : Judging) (placed : Bool) → IsJudged drift stripe file entries mine common j placed
    → IsNext mine common None mine_left common_left → verdict_of None ≡ verdict_of (found_from drift stripe file nothing false (dealt_to file entries))
unfolding found_from
at_end drift stripe file entries mine common mine_left common_left j placed i next =
    ap verdict_of (sym (i.same ∙ ap (found_from drift stripe file i.k placed) (none_is_met (all_calls entries) file (length i.front) i.ticks i.rest mine common mine_left common_left i.mine_is i.common_is next)))

-- the drift is that of the trace
pub of_trace : (drift stripe file : ℕ) (entries trace : List Entry) (v : Verdict) → drift ≡ (times_of entries).drift → entries ≡ trace
    → v ≡ verdict_of (found_from drift stripe file nothing false (dealt_to file entries)) → v ≡ verdict_of (found_from (times_of trace).drift stripe file nothing false (dealt_to file trace))
of_trace drift stripe file entries trace v drift_is same is =
    is ∙ ap (λ (d : ℕ). verdict_of (found_from d stripe file nothing false (dealt_to file entries))) drift_is
    ∙ ap (λ (es : List Entry). verdict_of (found_from (times_of es).drift stripe file nothing false (dealt_to file es))) same

-- ---- the verdict on a file

pub judged_replicated : (file stripe : ℕ) (trace : List Entry) (location : Option Location) → location ≡ location_in file trace → Some stripe ≡ stripe_if location
    → found_from (times_of trace).drift stripe file nothing false (dealt_to file trace) ≡ judged file trace
unfolding judged_by_dealt
judged_replicated file stripe trace location here is = by (is_replicated_at (location_in file trace)) (is ∙ ap stripe_if here) (deals file trace)
  where
    by : (b : Bool) → Some stripe ≡ (if b then Some (stripe_at (location_in file trace)) else None)
        → (if b then found_from (times_of trace).drift (stripe_at (location_in file trace)) file nothing false (dealt_to file trace) else None) ≡ judged file trace
        → found_from (times_of trace).drift stripe file nothing false (dealt_to file trace) ≡ judged file trace
    by true is law = ap (λ (n : ℕ). found_from (times_of trace).drift n file nothing false (dealt_to file trace)) (cc is) ∙ law
    by false is law = absurd (cc is)

pub judged_other : (file : ℕ) (trace : List Entry) (location : Option Location) → location ≡ location_in file trace → None ≡ stripe_if location → None ≡ judged file trace
unfolding judged_by_dealt
judged_other file trace location here is = by (is_replicated_at (location_in file trace)) (is ∙ ap stripe_if here) (deals file trace)
  where
    by : (b : Bool) → None ≡ (if b then Some (stripe_at (location_in file trace)) else None)
        → (if b then found_from (times_of trace).drift (stripe_at (location_in file trace)) file nothing false (dealt_to file trace) else None) ≡ judged file trace
        → None ≡ judged file trace
    by true is law = absurd (cc is)
    by false is law = law
