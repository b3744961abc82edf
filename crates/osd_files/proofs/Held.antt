-- a version that is held from now on, and let go again
use Rattle.std.proofs.Common.{◌≡◌, ◌∙◌, Bool, true, false, refl, ap, List, [], ◌∷◌, cond}
use Rattle.std.specs.Prelude.{not, ◌||◌, if◌then◌else◌}
use Rattle.xt_messages.specs.declared.file.ObjectVersion.{ObjectVersion}
use Rattle.xt_protocol.specs.Stamps.{is_version, comes_before, has_version, with_held, without_version}
use Rattle.xt_protocol.proofs.Stamps.{version-itself}
use Rattle.object_versions.proofs.HeldVersions.{version_order}

or_first : (a b : Bool) → (a || b) ≡ false → a ≡ false
or_first true b none = none
or_first false b none = refl

or_later : (a b : Bool) → (a || b) ≡ false → b ≡ false
or_later true b none = absurd cc
or_later false b none = none

-- a version that isn't among these
without_none : (held : List ObjectVersion) (v : ObjectVersion) → has_version held v ≡ false → without_version held v ≡ held
without_none [] v none = refl
without_none (h ∷ hs) v none =
    ap (λ (b : Bool). cond (not b) (h ∷ without_version hs v) (without_version hs v)) (or_first (is_version v h) (has_version hs v) none)
    ∙ ap (λ rest. h ∷ rest) (without_none hs v (or_later (is_version v h) (has_version hs v) none))

without_new : (held : List ObjectVersion) (v : ObjectVersion) → has_version held v ≡ false → without_version (with_held held v) v ≡ held
unfolding with_held
without_new [] v none = ap (λ (b : Bool). cond (not b) (v ∷ []) []) (version-itself v)
without_new (h ∷ hs) v none =
    by (is_version h v) (comes_before v h) (version_order.back h v ∙ first)
    (ap (λ (b : Bool). cond (not b) (v ∷ without_version (h ∷ hs) v) (without_version (h ∷ hs) v)) (version-itself v) ∙ without_none (h ∷ hs) v none)
    (ap (λ (b : Bool). cond (not b) (h ∷ without_version (with_held hs v) v) (without_version (with_held hs v) v)) first
    ∙ ap (λ rest. h ∷ rest) (without_new hs v (or_later (is_version v h) (has_version hs v) none)))
  where
    first : is_version v h ≡ false
    first = or_first (is_version v h) (has_version hs v) none

    by : (one before : Bool) → one ≡ false → without_version (v ∷ h ∷ hs) v ≡ h ∷ hs → without_version (h ∷ with_held hs v) v ≡ h ∷ hs
        → without_version (cond one (h ∷ hs) (cond before (v ∷ h ∷ hs) (h ∷ with_held hs v))) v ≡ h ∷ hs
    by true before other here later = absurd cc
    by false true other here later = here
    by false false other here later = later

-- let go again if it was new
pub held_back : (before held : List ObjectVersion) (v : ObjectVersion) (is_new : Bool) → is_new ≡ not (has_version before v) → (is_new ≡ false → held ≡ before) → held ≡ with_held before v
    → (if is_new then without_version held v else held) ≡ before
held_back before held v true newly same is = ap (λ (vs : List ObjectVersion). without_version vs v) is ∙ without_new before v (not_false (has_version before v) newly)
  where
    not_false : (b : Bool) → true ≡ not b → b ≡ false
    not_false true is = absurd cc
    not_false false is = refl
held_back before held v false newly same is = same refl
