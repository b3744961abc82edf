-- a trace with more entries: who holds, and that it is safe
use Rattle.std.proofs.Common.{◌≡◌, ◌≢◌, ℕ, inl, inr, List, [], ◌∷◌, ◌++◌, map, refl, arith, ap, sym, ◌∙◌, subst, Option, Some, None, true}
use Rattle.std.specs.Prelude.{◌⊎◌, ◌==◌, if◌then◌else◌}
use Rattle.std.specs.Option.{option_or}
use Rattle.std.proofs.lemmas.List.{append-nil, append_assoc}
use Rattle.xt_base.specs.TimeSettings.{TimeSettings}
use Rattle.xt_base.specs.declared.ids.NodeId.{NodeId}
use Rattle.xt_messages.specs.declared.event.Mark.{Mark}
use Rattle.xt_messages.specs.declared.event.Mark.TheVariants as mark
use Rattle.lease_runs.specs.ActsView.{AreActs}
use Rattle.time_line.specs.declared.entry.Entry.{Entry}
use Rattle.time_line.specs.declared.entry.Entry.TheVariants as entry
use Rattle.time_line.specs.TimeLine.{RunningBoot, standing, standing_after, holds, holds_as, times_of, times_told, first_times, or_defaults}
use Rattle.time_line.specs.Clauses.{IsBefore, IsMoment, AreApart, HoldersAct, acts_on}
use Rattle.world_spec.specs.NodeSteps.{entry_of}
use Rattle.std.proofs.lemmas.Bool.Decides.{nat_tests}
use Rattle.std.proofs.lemmas.Bool.{cases_eq}
use Rattle.world_runs.proofs.Standings.{standing-push, standing-none, IsInert, AreInert, inert_still, acts_still}
use Rattle.world_runs.proofs.Marks.{MarksFit, inert, wins, acts}

-- ---- the times

times-push_none : (es : List Entry) (e : Entry) → times_told e ≡ None → first_times (es ++ e ∷ []) ≡ first_times es
unfolding first_times
times-push_none [] e is = ap (λ o. option_or o None) is
times-push_none (x ∷ xs) e is = ap (option_or (times_told x)) (times-push_none xs e is)

pub times-push : (es : List Entry) (e : Entry) → times_told e ≡ None → times_of (es ++ e ∷ []) ≡ times_of es
times-push es e is = ap or_defaults (times-push_none es e is)

mark_times : (node : NodeId) (m : Mark) → times_told (entry_of node m) ≡ None
mark_times node (mark.File file location) = refl
mark_times node _ = refl

one_more : (es : List Entry) (e : Entry) (rest : List Entry) → es ++ e ∷ rest ≡ (es ++ e ∷ []) ++ rest
one_more es e rest = sym (append_assoc es (e ∷ []) rest)

pub times-marks : (node : NodeId) (es : List Entry) (ms : List Mark) → times_of (es ++ map (entry_of node) ms) ≡ times_of es
times-marks node es [] = ap times_of (append-nil es)
times-marks node es (m ∷ ms) =
    ap times_of (one_more es (entry_of node m) (map (entry_of node) ms)) ∙ (times-marks node (es ++ entry_of node m ∷ []) ms ∙ times-push es (entry_of node m) (mark_times node m))

pub times_nothing : times_of [] ≡ record { lease = 14000; drift = 1000 }
unfolding first_times
times_nothing = refl

pub times_first : (lease drift : ℕ) → times_of (entry.Times lease drift ∷ []) ≡ record { lease = lease; drift = drift }
unfolding first_times
times_first lease drift = refl

-- ---- moments

-- at this moment no two nodes hold a file
abbrev pub ApartAt : List Entry → Type 0
ApartAt es = (number : ℕ) (a b : NodeId) → holds es a number ≡ true → holds es b number ≡ true → a ≡ b

-- what has been proved of a trace
abbrev pub IsSafe : List Entry → Type 0
IsSafe es = (number : ℕ) → AreApart number es × HoldersAct number es

moment_split : (es : List Entry) (e : Entry) (moment after : List Entry) → es ++ e ∷ [] ≡ moment ++ after → IsMoment moment es ⊎ (moment ≡ es ++ e ∷ [])
moment_split es e [] after is = inl (es, refl)
moment_split [] e (x ∷ []) after is = (let same : e ≡ x = cc in inr (ap (λ y. y ∷ []) (sym same)))
moment_split [] e (x ∷ y ∷ rest) after is = absurd (cc)
moment_split (z ∷ zs) e (x ∷ rest) after is =
    let same : z ≡ x = cc in
    let tail : zs ++ e ∷ [] ≡ rest ++ after = cc in
    elim (moment_split zs e rest after tail) [
      | inl m ↦ inl (m.0, (let here : zs ≡ rest ++ m.0 = m.1 in ap (λ y. y ∷ zs) same ∙ ap (λ ys. x ∷ ys) here))
      | inr all ↦ inr (ap (λ y. y ∷ rest) (sym same) ∙ ap (λ ys. z ∷ ys) all)
    ]

before_split : (es : List Entry) (e : Entry) (before after : List Entry) (x : Entry) → es ++ e ∷ [] ≡ before ++ x ∷ after → IsBefore before x es ⊎ ((before ≡ es) × (x ≡ e))
before_split [] e [] after x is = (let same : e ≡ x = cc in inr (refl, sym same))
before_split [] e (b ∷ []) after x is = absurd (cc)
before_split [] e (b ∷ c ∷ rest) after x is = absurd (cc)
before_split (z ∷ zs) e [] after x is = (let same : z ≡ x = cc in inl (zs, ap (λ y. y ∷ zs) same))
before_split (z ∷ zs) e (b ∷ rest) after x is =
    let same : z ≡ b = cc in
    let tail : zs ++ e ∷ [] ≡ rest ++ x ∷ after = cc in
    elim (before_split zs e rest after x tail) [
      | inl m ↦ inl (m.0, (let here : zs ≡ rest ++ x ∷ m.0 = m.1 in ap (λ y. y ∷ zs) same ∙ ap (λ ys. b ∷ ys) here))
      | inr last ↦ inr (ap (λ y. y ∷ rest) (sym same) ∙ ap (λ ys. z ∷ ys) last.0, last.1)
    ]

pub safe-nothing : IsSafe []
safe-nothing number = (λ moment a b is one other. nobody moment a is one, λ before e node is acting. absurd (never before e is.0 is.1))
  where
    never : (before : List Entry) (e : Entry) (after : List Entry) → [] ≡ before ++ e ∷ after → ⊥
    never [] e after is = cc
    never (b ∷ before) e after is = cc

    none_holds : (a : NodeId) → holds [] a number ≡ true → ⊥
    none_holds a is = (let none = standing-none a number in let here : holds_as (times_of []).drift (standing a number []) ≡ true = is in cc)

    nobody : {a b : NodeId} (moment : List Entry) (c : NodeId) → IsMoment moment [] → holds moment c number ≡ true → a ≡ b
    nobody [] c is one = absurd (none_holds c one)
    nobody (m ∷ moment) c is one = absurd (let gone : [] ≡ m ∷ (moment ++ is.0) = is.1 in cc)

-- one entry more
pub safe-push : (es : List Entry) (e : Entry) → IsSafe es → ApartAt (es ++ e ∷ []) → ((number : ℕ) (node : NodeId) → acts_on number e ≡ Some node → holds es node number ≡ true) → IsSafe (es ++ e ∷ [])
safe-push es e safe apart acting number = (
  λ moment a b is one other. elim (moment_split es e moment is.0 is.1) [
    | inl m ↦ (safe number).0 moment a b m one other
    | inr all ↦ apart number a b (subst (λ (m : List Entry). holds m a number ≡ true) all one) (subst (λ (m : List Entry). holds m b number ≡ true) all other)
  ],
  λ before x node is acts_so. elim (before_split es e before is.0 x is.1) [
    | inl m ↦ (safe number).1 before x node m acts_so
    | inr last ↦ subst (λ (m : List Entry). holds m node number ≡ true) (sym last.0) (acting number node (ap (acts_on number) (sym last.1) ∙ acts_so))
  ],
)

-- ---- marks

-- an entry that changes how no node stands
abbrev IsStill : Entry → Type 0
IsStill e = ((id : NodeId) (number : ℕ) (before : Option RunningBoot) → standing_after id number before e ≡ before) × (times_told e ≡ None)

holds-still : (es : List Entry) (e : Entry) (node : NodeId) (number : ℕ) → IsStill e → holds (es ++ e ∷ []) node number ≡ holds es node number
holds-still es e node number still =
    ap (λ (t : TimeSettings). holds_as t.drift (standing node number (es ++ e ∷ []))) (times-push es e still.1)
    ∙ ap (holds_as (times_of es).drift) (standing-push node number es e ∙ still.0 node number (standing node number es))

apart-still : (es : List Entry) (e : Entry) → IsStill e → ApartAt es → ApartAt (es ++ e ∷ [])
apart-still es e still apart number a b one other = apart number a b (sym (holds-still es e a number still) ∙ one) (sym (holds-still es e b number still) ∙ other)

inert-still : (node : NodeId) (m : Mark) → IsInert m → IsStill (entry_of node m)
inert-still node m is = (λ id number before. inert_still node (m ∷ []) (is, tt) id number before, mark_times node m)

act-still : (node : NodeId) (number : ℕ) (m : Mark) → AreActs number (m ∷ []) → IsStill (entry_of node m)
act-still node number m are = (λ id k before. acts_still node number (m ∷ []) are id k before, mark_times node m)

inert-acts : (node : NodeId) (m : Mark) (number : ℕ) (by : NodeId) → IsInert m → acts_on number (entry_of node m) ≡ Some by → ⊥
inert-acts node (mark.Begin k c) number by is acting = cc
inert-acts node (mark.Done k outcome) number by is acting = cc
inert-acts node (mark.File k location) number by is acting = cc
inert-acts node (mark.List k version members) number by is acting = cc
inert-acts node _ number by is acting = is

inert-safe : (node : NodeId) (ms : List Mark) (es : List Entry) → AreInert ms → IsSafe es → ApartAt es → IsSafe (es ++ map (entry_of node) ms)
inert-safe node [] es are safe apart = subst IsSafe (sym (append-nil es)) safe
inert-safe node (m ∷ ms) es are safe apart =
    let e = entry_of node m in
    let next = apart-still es e (inert-still node m are.0) apart in
    subst IsSafe (sym (one_more es e (map (entry_of node) ms)))
    (inert-safe node ms (es ++ e ∷ []) are.1 (safe-push es e safe next (λ number by acting. absurd (inert-acts node m number by are.0 acting))) next)

-- an act is the node's, on the file
one_act : (node : NodeId) (file k number : ℕ) (by : NodeId) → Some k ≡ Some file → (if k == number then Some node else None) ≡ Some by → (by ≡ node) × (file ≡ number)
one_act node file k number by of_file acting = at (cases_eq k number)
  where
    at : (k ≡ number) ⊎ (k ≢ number) → (by ≡ node) × (file ≡ number)
    at (inl e) = (grind (arith, nat_tests), grind (arith, nat_tests))
    at (inr ne) = absurd (grind (arith, nat_tests))

act-by : (node : NodeId) (file : ℕ) (m : Mark) (number : ℕ) (by : NodeId) → AreActs file (m ∷ []) → acts_on number (entry_of node m) ≡ Some by → (by ≡ node) × (file ≡ number)
act-by node file (mark.Active k count write) number by are acting = one_act node file k number by are.0 acting
act-by node file (mark.Issue k count write) number by are acting = one_act node file k number by are.0 acting
act-by node file (mark.Commit k count write) number by are acting = one_act node file k number by are.0 acting
act-by node file (mark.Answer k write count bytes) number by are acting = one_act node file k number by are.0 acting
act-by node file _ number by are acting = absurd (cc (are.0))

acts-safe : (node : NodeId) (file : ℕ) (ms : List Mark) (es : List Entry) → AreActs file ms → holds es node file ≡ true → IsSafe es → ApartAt es → IsSafe (es ++ map (entry_of node) ms)
acts-safe node file [] es are holding safe apart = subst IsSafe (sym (append-nil es)) safe
acts-safe node file (m ∷ ms) es are holding safe apart =
    let e = entry_of node m in
    let still = act-still node file m (are.0, tt) in
    let next = apart-still es e still apart in
    subst IsSafe (sym (one_more es e (map (entry_of node) ms)))
    (acts-safe node file ms (es ++ e ∷ []) are.1 (holds-still es e node file still ∙ holding)
    (safe-push es e safe next (λ number by acting.
    let is = act-by node file m number by (are.0, tt) acting in
    subst (λ (n : NodeId). holds es n number ≡ true) (sym is.0) (subst (λ (k : ℕ). holds es node k ≡ true) is.1 holding))) next)

-- the marks of a step
pub safe-marks : (node : NodeId) (ms : List Mark) (es : List Entry) → MarksFit node es ms → IsSafe es → ApartAt es → ApartAt (es ++ map (entry_of node) ms) → IsSafe (es ++ map (entry_of node) ms)
safe-marks node ms es (inert are) safe apart later = inert-safe node ms es are safe apart
safe-marks node ms es (acts number are holding) safe apart later = acts-safe node number ms es are holding safe apart
safe-marks node ms es (wins number end is) safe apart later =
    let one : map (entry_of node) ms ≡ entry.Held node number end ∷ [] = ap (map (entry_of node)) is in
    subst (λ (new : List Entry). IsSafe (es ++ new)) (sym one)
    (safe-push es (entry.Held node number end) safe (subst (λ (new : List Entry). ApartAt (es ++ new)) one later) (λ k by acting. absurd (cc)))
