-- how each entry changes how a node stands to a file
use Rattle.std.proofs.Common.{◌≡◌, ◌≢◌, ℕ, inl, inr, List, [], ◌∷◌, ◌++◌, map, refl, arith, ◌∙◌, Option, Some, None}
use Rattle.std.specs.Prelude.{◌⊎◌}
use Rattle.std.specs.List.{fold}
use Rattle.std.proofs.lemmas.List.Sums.{fold-append}
use Rattle.std.proofs.lemmas.Bool.Decides.{nat_tests}
use Rattle.xt_base.specs.declared.ids.NodeId.{NodeId}
use Rattle.xt_base.specs.declared.ids.Boot.{Boot}
use Rattle.xt_messages.specs.declared.event.Mark.{Mark}
use Rattle.xt_messages.specs.declared.event.Mark.TheVariants as mark
use Rattle.time_line.specs.declared.entry.Halt.{Halt}
use Rattle.time_line.specs.declared.entry.Entry.{Entry}
use Rattle.time_line.specs.declared.entry.Entry.TheVariants as entry
use Rattle.time_line.specs.TimeLine.{RunningBoot, standing, standing_after, held_until, reads}
use Rattle.world_spec.specs.NodeSteps.{entry_of}
use Rattle.lease_runs.specs.ActsView.{AreActs}

pub standing-push : (id : NodeId) (number : ℕ) (es : List Entry) (e : Entry) → standing id number (es ++ e ∷ []) ≡ standing_after id number (standing id number es) e
unfolding standing
standing-push id number es e = fold-append (standing_after id number) None es (e ∷ [])

pub standing-none : (id : NodeId) (number : ℕ) → standing id number [] ≡ None
unfolding standing
standing-none id number = refl

-- an entry of another node changes nothing
pub other_up : (id other : NodeId) (number : ℕ) (boot : Boot) (clock : ℕ) (before : Option RunningBoot) → other.0 ≢ id.0 → standing_after id number before (entry.Up other boot clock) ≡ before
other_up id other number boot clock before ne = grind (arith, nat_tests)

pub other_down : (id other : NodeId) (number clock : ℕ) (how : Halt) (before : Option RunningBoot) → other.0 ≢ id.0 → standing_after id number before (entry.Down other clock how) ≡ before
other_down id other number clock how before ne = grind (arith, nat_tests)

pub other_clock : (id other : NodeId) (number clock : ℕ) (before : Option RunningBoot) → other.0 ≢ id.0 → standing_after id number before (entry.Clock other clock) ≡ before
other_clock id other number clock before ne = grind (arith, nat_tests)

pub own_up : (id other : NodeId) (number : ℕ) (boot : Boot) (clock : ℕ) (before : Option RunningBoot) → other.0 ≡ id.0
    → standing_after id number before (entry.Up other boot clock) ≡ Some (record { boot = boot; clock = clock; end = None })
own_up id other number boot clock before e = grind (arith, nat_tests)

pub own_down : (id other : NodeId) (number clock : ℕ) (how : Halt) (before : Option RunningBoot) → other.0 ≡ id.0 → standing_after id number before (entry.Down other clock how) ≡ None
own_down id other number clock how before e = grind (arith, nat_tests)

pub own_clock : (id other : NodeId) (number clock : ℕ) (before : Option RunningBoot) → other.0 ≡ id.0 → standing_after id number before (entry.Clock other clock) ≡ reads clock before
own_clock id other number clock before e = grind (arith, nat_tests)

pub own_held : (id other : NodeId) (number end : ℕ) (before : Option RunningBoot) → other.0 ≡ id.0 → standing_after id number before (entry.Held other number end) ≡ held_until end before
own_held id other number end before e = grind (arith, nat_tests)

pub other_held : (id other : NodeId) (number file end : ℕ) (before : Option RunningBoot) → (other.0 ≢ id.0) ⊎ (file ≢ number) → standing_after id number before (entry.Held other file end) ≡ before
other_held id other number file end before (inl ne) = grind (arith, nat_tests)
other_held id other number file end before (inr ne) = grind (arith, nat_tests)

-- ---- marks

-- a mark that says nothing of leases
abbrev pub IsInert : Mark → Type 0
IsInert (mark.File file location) = Unit {0}
IsInert (mark.Begin number c) = Unit {0}
IsInert (mark.Done number outcome) = Unit {0}
IsInert (mark.List file version members) = Unit {0}
IsInert _ = ⊥

abbrev pub AreInert : List Mark → Type 0
AreInert [] = Unit {0}
AreInert (m ∷ ms) = IsInert m × AreInert ms

-- marks that change how no node stands to any file
abbrev pub StandStill : NodeId → List Mark → Type 0
StandStill node ms = (id : NodeId) (number : ℕ) (before : Option RunningBoot) → fold (standing_after id number) before (map (entry_of node) ms) ≡ before

pub inert_still : (node : NodeId) (ms : List Mark) → AreInert ms → StandStill node ms
inert_still node [] are id number before = refl
inert_still node (mark.Begin k c ∷ ms) are id number before = inert_still node ms are.1 id number before
inert_still node (mark.Done k outcome ∷ ms) are id number before = inert_still node ms are.1 id number before
inert_still node (mark.File k location ∷ ms) are id number before = inert_still node ms are.1 id number before
inert_still node (mark.List k version members ∷ ms) are id number before = inert_still node ms are.1 id number before
inert_still node (_ ∷ ms) are id number before = absurd are.0

pub acts_still : (node : NodeId) (file : ℕ) (ms : List Mark) → AreActs file ms → StandStill node ms
acts_still node file [] are id number before = refl
acts_still node file (mark.Active k count write ∷ ms) are id number before = acts_still node file ms are.1 id number before
acts_still node file (mark.Issue k count write ∷ ms) are id number before = acts_still node file ms are.1 id number before
acts_still node file (mark.Commit k count write ∷ ms) are id number before = acts_still node file ms are.1 id number before
acts_still node file (mark.Answer k write count bytes ∷ ms) are id number before = acts_still node file ms are.1 id number before
acts_still node file (_ ∷ ms) are id number before = absurd (cc (are.0))

pub still_standing : (node : NodeId) (ms : List Mark) (id : NodeId) (number : ℕ) (es : List Entry) → StandStill node ms → standing id number (es ++ map (entry_of node) ms) ≡ standing id number es
unfolding standing
still_standing node ms id number es still = fold-append (standing_after id number) None es (map (entry_of node) ms) ∙ still id number _
