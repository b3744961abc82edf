-- A walk along the places of two kinds of entries meets those that are dealt.
use Rattle.std.proofs.Common.{◌≡◌, ℕ, suc, ◌+◌, ◌≤◌, inl, inr, Bool, true, false, List, [], ◌∷◌, ◌++◌, length, get_or, Option, Some, None, refl, sym, ap, ◌∙◌, subst, append_assoc, append-nil, add-zero, add_assoc, arith, true≢false}
use Rattle.std.specs.Prelude.{◌||◌, if◌then◌else◌}
use Rattle.std.specs.List.{sum_by}
use Rattle.std.proofs.lemmas.List.Sums.{sum_by-cons}
use Rattle.xt_base.specs.declared.ids.OpId.{OpId}
use Rattle.xt_messages.specs.declared.event.Call.{Call}
use Rattle.time_line.specs.declared.entry.Entry.{Entry}
use Rattle.time_line.specs.declared.entry.Entry.TheVariants as entry
use Rattle.judging.specs.Dealt.{is_common, is_dealt, ticks_of, Dealt, dealt}
use Rattle.trace_judge.specs.Deals.{places_from, ticks_from, is_of, IsFirst, IsNext}

-- ---- what is noted, one entry after the other

pub places_more : (test : Entry → Bool) (so_far new all : List ℕ) (count : ℕ) (rest behind : List Entry) (e : Entry) → rest ≡ e ∷ behind
    → new ≡ (if test e then so_far ++ count ∷ [] else so_far) → so_far ++ places_from test count rest ≡ all → new ++ places_from test (count + 1) behind ≡ all
unfolding places_from
places_more test so_far new all count rest behind e split noted before =
    ap (λ (ns : List ℕ). ns ++ places_from test (count + 1) behind) noted ∙ by (test e) ∙ sym (ap (λ (es : List Entry). so_far ++ places_from test count es) split) ∙ before
  where
    by : (b : Bool) → (if b then so_far ++ count ∷ [] else so_far) ++ places_from test (count + 1) behind
        ≡ so_far ++ (if b then count ∷ places_from test (count + 1) behind else places_from test (count + 1) behind)
    by true = append_assoc so_far (count ∷ []) (places_from test (count + 1) behind)
    by false = refl

pub places_end : (test : Entry → Bool) (so_far all : List ℕ) (count : ℕ) (rest : List Entry) → rest ≡ [] → so_far ++ places_from test count rest ≡ all → so_far ≡ all
unfolding places_from
places_end test so_far all count rest none before = sym (append-nil so_far) ∙ sym (ap (λ (es : List Entry). so_far ++ places_from test count es) none) ∙ before

pub ticks_more : (so_far new all : List ℕ) (sum : ℕ) (rest behind : List Entry) (e : Entry) → rest ≡ e ∷ behind
    → new ≡ so_far ++ sum ∷ [] → so_far ++ ticks_from sum rest ≡ all → new ++ ticks_from (sum + ticks_of e) behind ≡ all
unfolding ticks_from
ticks_more so_far new all sum rest behind e split noted before =
    ap (λ (ns : List ℕ). ns ++ ticks_from (sum + ticks_of e) behind) noted ∙ append_assoc so_far (sum ∷ []) (ticks_from (sum + ticks_of e) behind)
    ∙ sym (ap (λ (es : List Entry). so_far ++ ticks_from sum es) split) ∙ before

pub ticks_end : (so_far all : List ℕ) (sum : ℕ) (rest : List Entry) → rest ≡ [] → so_far ++ ticks_from sum rest ≡ all → so_far ≡ all
unfolding ticks_from
ticks_end so_far all sum rest none before = sym (append-nil so_far) ∙ sym (ap (λ (es : List Entry). so_far ++ ticks_from sum es) none) ∙ before

-- ---- lists

pub entry_at : (front behind : List Entry) (e d : Entry) → get_or (front ++ e ∷ behind) (length front) d ≡ e
entry_at [] behind e d = refl
entry_at (x ∷ front) behind e d = entry_at front behind e d

pub ticks_at : (front behind : List Entry) (e : Entry) (ticks d : ℕ) → get_or (ticks_from ticks (front ++ e ∷ behind)) (length front) d ≡ ticks + sum_by ticks_of front
unfolding ticks_from
ticks_at [] behind e ticks d = sym (add-zero ticks)
ticks_at (x ∷ front) behind e ticks d = ticks_at front behind e (ticks + ticks_of x) d ∙ add_assoc ticks (ticks_of x) (sum_by ticks_of front) ∙ ap (λ (t : ℕ). ticks + t) (sym (sum_by-cons ticks_of x front))

pub ticks_length : (es : List Entry) (ticks : ℕ) → length (ticks_from ticks es) ≡ length es
unfolding ticks_from
ticks_length [] ticks = refl
ticks_length (e ∷ es) ticks = ap (λ (n : ℕ). suc n) (ticks_length es (ticks + ticks_of e))

-- ---- two kinds of entries, of which each is of one alone, and those that are dealt

at_least : (test : Entry → Bool) (from n : ℕ) (es : List Entry) (ns : List ℕ) → places_from test from es ≡ n ∷ ns → from ≤ n
unfolding places_from
at_least test from n [] ns is = absurd (cc)
at_least test from n (e ∷ es) ns is = by (test e) is (at_least test (from + 1) n es ns)
  where
    by : (b : Bool) → (if b then from ∷ places_from test (from + 1) es else places_from test (from + 1) es) ≡ n ∷ ns → (places_from test (from + 1) es ≡ n ∷ ns → from + 1 ≤ n) → from ≤ n
    by true is more = (let same : from ≡ n = cc (is) in omega (arith, same))
    by false is more = omega (arith, more is)

-- the entry at the place, which is dealt, after others that aren't
pub record IsMet (one other both : Entry → Bool) (from n : ℕ) (rest : List Entry) (one_left other_left : List ℕ) : Type 0 where
  pub skipped : List Entry
  pub met : Entry
  pub behind : List Entry
  pub split : rest ≡ skipped ++ met ∷ behind
  pub at : n ≡ from + length skipped
  pub is_both : both met ≡ true
  pub one_is : one_left ≡ places_from one (n + 1) behind
  pub other_is : other_left ≡ places_from other (n + 1) behind
  pub dealt_is : (ticks : ℕ)
      → dealt both ticks from rest ≡ (let d : Dealt = record { number = n + 1; ticks = ticks + sum_by ticks_of skipped; entry = met } in d) ∷ dealt both 0 (n + 1) behind

turned : (one other both : Entry → Bool) {from n : ℕ} {rest : List Entry} {one_left other_left : List ℕ} → IsMet one other both from n rest one_left other_left → IsMet other one both from n rest other_left one_left
turned one other both m = record {
  skipped = m.skipped;
  met = m.met;
  behind = m.behind;
  split = m.split;
  at = m.at;
  is_both = m.is_both;
  one_is = m.other_is;
  other_is = m.one_is;
  dealt_is = m.dealt_is;
}

module _ (one other both : Entry → Bool) (apart : (e : Entry) → one e ≡ true → other e ≡ false) (either : (e : Entry) → both e ≡ (one e || other e)) where
  meets_here : (from n : ℕ) (e : Entry) (es : List Entry) (one_left other_left : List ℕ) → one e ≡ true → from ≡ n → places_from one (from + 1) es ≡ one_left
      → other_left ≡ places_from other (from + 1) es
      → IsMet one other both from n (e ∷ es) one_left other_left
  unfolding dealt
  meets_here from n e es one_left other_left is same one_then other_then = record {
    skipped = [];
    met = e;
    behind = es;
    split = refl;
    at = sym same ∙ sym (add-zero from);
    is_both = here;
    one_is = sym one_then ∙ ap (λ (m : ℕ). places_from one (m + 1) es) same;
    other_is = other_then ∙ ap (λ (m : ℕ). places_from other (m + 1) es) same;
    dealt_is = λ ticks.
        ap (λ b. if b then (let d : Dealt = record { number = from + 1; ticks = ticks; entry = e } in d) ∷ dealt both 0 (from + 1) es else dealt both (ticks + ticks_of e) (from + 1) es) here
        ∙ ap (λ (m : ℕ). (let d : Dealt = record { number = m + 1; ticks = ticks; entry = e } in d) ∷ dealt both 0 (m + 1) es) same
        ∙ ap (λ (t : ℕ). (let d : Dealt = record { number = n + 1; ticks = t; entry = e } in d) ∷ dealt both 0 (n + 1) es) (sym (add-zero ticks));
  }
    where
      here : both e ≡ true
      here = either e ∙ ap (λ b. b || other e) is

  meets_behind : (from n : ℕ) (e : Entry) (es : List Entry) (one_left other_left : List ℕ) → one e ≡ false → other e ≡ false → IsMet one other both (from + 1) n es one_left other_left
      → IsMet one other both from n (e ∷ es) one_left other_left
  unfolding dealt
  meets_behind from n e es one_left other_left not_one not_other m = record {
    skipped = e ∷ m.skipped;
    met = m.met;
    behind = m.behind;
    split = ap (λ (xs : List Entry). e ∷ xs) m.split;
    at = omega (arith, m.at);
    is_both = m.is_both;
    one_is = m.one_is;
    other_is = m.other_is;
    dealt_is = λ ticks.
        ap (λ b. if b then (let d : Dealt = record { number = from + 1; ticks = ticks; entry = e } in d) ∷ dealt both 0 (from + 1) es else dealt both (ticks + ticks_of e) (from + 1) es)
        (either e ∙ ap (λ b. b || other e) not_one ∙ not_other)
        ∙ m.dealt_is (ticks + ticks_of e)
        ∙ ap (λ (t : ℕ). (let d : Dealt = record { number = n + 1; ticks = t; entry = m.met } in d) ∷ dealt both 0 (n + 1) m.behind)
        (add_assoc ticks (ticks_of e) (sum_by ticks_of m.skipped) ∙ ap (λ (t : ℕ). ticks + t) (sym (sum_by-cons ticks_of e m.skipped)));
  }

  pub meets : (rest : List Entry) (from n : ℕ) (one_left others other_left : List ℕ) → places_from one from rest ≡ n ∷ one_left → others ≡ places_from other from rest → IsFirst n others → others ≡ other_left
      → IsMet one other both from n rest one_left other_left
  unfolding places_from
  meets [] from n one_left others other_left is others_are first same = absurd (cc)
  meets (e ∷ es) from n one_left others other_left is others_are first same = by (one e) refl is (other e) refl others_are (meets es (from + 1) n one_left others other_left)
    where
      below : (c : List ℕ) → others ≡ from ∷ c → n ≤ from
      below c others_are = subst (IsFirst n) others_are first

      by : (b : Bool) → one e ≡ b → (if b then from ∷ places_from one (from + 1) es else places_from one (from + 1) es) ≡ n ∷ one_left
          → (c : Bool) → other e ≡ c → others ≡ (if c then from ∷ places_from other (from + 1) es else places_from other (from + 1) es)
          → (places_from one (from + 1) es ≡ n ∷ one_left → others ≡ places_from other (from + 1) es → IsFirst n others → others ≡ other_left → IsMet one other both (from + 1) n es one_left other_left)
          → IsMet one other both from n (e ∷ es) one_left other_left
      by true one_is is true other_is then_others more = absurd (true≢false (sym other_is ∙ apart e one_is))
      by true one_is is false other_is then_others more = meets_here from n e es one_left other_left one_is (cc (is)) (cc (is)) (sym same ∙ then_others)
      by false one_is is true other_is then_others more =
          absurd (let low : from + 1 ≤ n = at_least one (from + 1) n es one_left is in let high : n ≤ from = below (places_from other (from + 1) es) then_others in omega (arith, low, high))
      by false one_is is false other_is then_others more = meets_behind from n e es one_left other_left one_is other_is (more is then_others first same)

  pub meets_none : (rest : List Entry) (from ticks : ℕ) → places_from one from rest ≡ [] → places_from other from rest ≡ [] → dealt both ticks from rest ≡ []
  unfolding places_from dealt
  meets_none [] from ticks one_is other_is = refl
  meets_none (e ∷ es) from ticks one_is other_is = by (one e) refl one_is (other e) refl other_is (meets_none es (from + 1) (ticks + ticks_of e))
    where
      by : (b : Bool) → one e ≡ b → (if b then from ∷ places_from one (from + 1) es else places_from one (from + 1) es) ≡ []
          → (c : Bool) → other e ≡ c → (if c then from ∷ places_from other (from + 1) es else places_from other (from + 1) es) ≡ []
          → (places_from one (from + 1) es ≡ [] → places_from other (from + 1) es ≡ [] → dealt both (ticks + ticks_of e) (from + 1) es ≡ [])
          → (if both e then (let d : Dealt = record { number = from + 1; ticks = ticks; entry = e } in d) ∷ dealt both 0 (from + 1) es else dealt both (ticks + ticks_of e) (from + 1) es) ≡ []
      by true one_is is c other_is there more = absurd (cc (is))
      by false one_is is true other_is there more = absurd (cc (there))
      by false one_is is false other_is there more =
          ap (λ b. if b then (let d : Dealt = record { number = from + 1; ticks = ticks; entry = e } in d) ∷ dealt both 0 (from + 1) es else dealt both (ticks + ticks_of e) (from + 1) es)
          (either e ∙ ap (λ b. b || other e) one_is ∙ other_is)
          ∙ more is there

-- ---- the entries of every file, and those of one

module _ (calls : OpId → Option Call) (file : ℕ) where
  common_apart : (e : Entry) → is_common e ≡ true → is_of calls file e ≡ false
  common_apart (entry.Clock node clock) is = refl
  common_apart (entry.Up node boot clock) is = refl
  common_apart (entry.Down node clock how) is = refl
  common_apart _ is = absurd (true≢false (sym is))

  own_apart : (e : Entry) → is_of calls file e ≡ true → is_common e ≡ false
  own_apart e is = by (is_common e) refl
    where
      by : (b : Bool) → is_common e ≡ b → b ≡ false
      by true common = absurd (true≢false (sym is ∙ common_apart e common))
      by false common = refl

  or_comm : (a b : Bool) → (a || b) ≡ (b || a)
  or_comm true true = refl
  or_comm true false = refl
  or_comm false true = refl
  or_comm false false = refl

  -- what is met next, as the walk goes
  abbrev pub Meets : ℕ → ℕ → List Entry → List ℕ → List ℕ → Type 0
  Meets from n rest mine_left common_left = IsMet (is_of calls file) is_common (is_dealt file calls) from n rest mine_left common_left

  pub next_is_met : (from n : ℕ) (rest : List Entry) (mine common mine_left common_left : List ℕ) → mine ≡ places_from (is_of calls file) from rest → common ≡ places_from is_common from rest
      → IsNext mine common (Some n) mine_left common_left → Meets from n rest mine_left common_left
  next_is_met from n rest mine common mine_left common_left mine_is common_is (inl (taken, first, same)) =
      meets (is_of calls file) is_common (is_dealt file calls) own_apart (λ e. or_comm (is_common e) (is_of calls file e)) rest from n mine_left common common_left (sym mine_is ∙ taken) common_is first same
  next_is_met from n rest mine common mine_left common_left mine_is common_is (inr (taken, first, same)) =
      turned is_common (is_of calls file) (is_dealt file calls)
      (meets is_common (is_of calls file) (is_dealt file calls) common_apart (λ e. refl) rest from n common_left mine mine_left (sym common_is ∙ taken) mine_is first same)

  pub none_is_met : (from ticks : ℕ) (rest : List Entry) (mine common mine_left common_left : List ℕ) → mine ≡ places_from (is_of calls file) from rest → common ≡ places_from is_common from rest
      → IsNext mine common None mine_left common_left → dealt (is_dealt file calls) ticks from rest ≡ []
  none_is_met from ticks rest mine common mine_left common_left mine_is common_is (none, none_common) =
      meets_none is_common (is_of calls file) (is_dealt file calls) common_apart (λ e. refl) rest from ticks (sym common_is ∙ none_common) (sym mine_is ∙ none)
