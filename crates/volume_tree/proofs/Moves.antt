-- the tests of a rename, in two parts
use Rattle.std.proofs.Common.{◌≡◌, ◌∙◌, ◌<◌, List, [], ◌∷◌, map, length, refl, sym, ap, arith, ℕ, Bor}
use Rattle.std.specs.Prelude.{Option, Some, None}
use Rattle.xt_messages.specs.declared.meta.MetaRefusal.{MetaRefusal}
use Rattle.xt_messages.specs.declared.meta.MetaAnswer.TheVariants as answer
use Rattle.volume_rows.specs.declared.Asker.{Asker}
use Rattle.volume_rows.specs.Paths.{Path}
use Rattle.volume_rows.specs.Rows.{Volumes, entry_at, renamed}
use Rattle.volume_rows.specs.Rights.{first_of, ancestors, same_volume, there, absent, outside, parent_writable}
use Rattle.volume_rows.specs.Requests.{Outcome, done, after_tests, path_renamed}
use Rattle.volume_tree.proofs.Placing.{first_none}

first_refused : (a b c d one : Option MetaRefusal) (rest : List (Option MetaRefusal)) (why : MetaRefusal) → one ≡ first_of (a ∷ b ∷ c ∷ d ∷ []) → one ≡ Some why → Some why ≡ first_of (a ∷ b ∷ c ∷ d ∷ rest)
first_refused (Some w) b c d one rest why is some = sym some ∙ is
first_refused None (Some w) c d one rest why is some = sym some ∙ is
first_refused None None (Some w) d one rest why is some = sym some ∙ is
first_refused None None None (Some w) one rest why is some = sym some ∙ is
first_refused None None None None one rest why is some = absurd (cc)

then_tested : (a b c d one : Option MetaRefusal) (rest : List (Option MetaRefusal)) → one ≡ first_of (a ∷ b ∷ c ∷ d ∷ []) → one ≡ None → first_of (a ∷ b ∷ c ∷ d ∷ rest) ≡ first_of rest
then_tested (Some w) b c d one rest is none = absurd (cc)
then_tested None (Some w) c d one rest is none = absurd (cc)
then_tested None None (Some w) d one rest is none = absurd (cc)
then_tested None None None (Some w) one rest is none = absurd (cc)
then_tested None None None None one rest is none = refl

-- the tests of the source, and those of the target
abbrev pub source_tests : Volumes → Asker → Path → Path → List (Option MetaRefusal)
source_tests volumes who from to = ancestors who volumes.rows from ∷ same_volume from to ∷ there (entry_at volumes.rows from) ∷ outside from to ∷ []

abbrev pub target_tests : Volumes → Asker → Path → Path → List (Option MetaRefusal)
target_tests volumes who from to = ancestors who volumes.rows to ∷ absent (entry_at volumes.rows to) ∷ parent_writable who volumes.rows from ∷ parent_writable who volumes.rows to ∷ []

-- what comes of a rename whose tests come to this
abbrev outcome : Volumes → Path → Path → Option MetaRefusal → Outcome
outcome volumes from to tested = after_tests volumes tested (done volumes (renamed volumes.rows from to))

pub source_refused : (volumes : Volumes) (who : Asker) (from to : Path) (one : Option MetaRefusal) (why : MetaRefusal) → one ≡ first_of (source_tests volumes who from to) → one ≡ Some why → answer.Refused why ≡ (path_renamed volumes who from to).answer
source_refused volumes who from to one why is some =
    ap (λ (tested : Option MetaRefusal). (outcome volumes from to tested).answer)
    (first_refused (ancestors who volumes.rows from) (same_volume from to) (there (entry_at volumes.rows from)) (outside from to) one (target_tests volumes who from to) why is some)

pub all_passed : (volumes : Volumes) (who : Asker) (from to : Path) (one two : Option MetaRefusal) → one ≡ first_of (source_tests volumes who from to) → one ≡ None → two ≡ first_of (target_tests volumes who from to) → two ≡ None → path_renamed volumes who from to ≡ done volumes (renamed volumes.rows from to)
all_passed volumes who from to one two is none then_is then_none =
    ap (outcome volumes from to)
    (then_tested (ancestors who volumes.rows from) (same_volume from to) (there (entry_at volumes.rows from)) (outside from to) one (target_tests volumes who from to) is none ∙ sym then_is ∙ then_none)

-- a target in the volume has names
no_volume : (from : Path) → same_volume from [] ≡ None → ⊥
no_volume [] same = cc
no_volume (volume ∷ []) same = cc
no_volume (volume ∷ name ∷ names) same = cc

pub target_named : (volumes : Volumes) (who : Asker) (from : Path) (to : List (Bor (List ℕ))) → first_of (source_tests volumes who from (map (λ name. name.now) to)) ≡ None → 0 < length to
target_named volumes who from [] none =
    absurd
    (no_volume from
    (first_none (same_volume from []) (there (entry_at volumes.rows from) ∷ outside from [] ∷ []) (first_none (ancestors who volumes.rows from) (same_volume from [] ∷ there (entry_at volumes.rows from) ∷ outside from [] ∷ []) none).1).0)
target_named volumes who from (name ∷ names) none = omega arith
