-- The order of versions is a total one; held versions with one more have the old ones and the new one.
use Rattle.std.proofs.Common.{◌≡◌, ◌==◌, ◌&&◌, ◌||◌, ◌⊎◌, inl, inr, ℕ, zero, suc, ◌<◌, nat_lt, Bool, true, false, cond, List, [], ◌∷◌, refl, ap, sym, subst, ◌∙◌, arith}
use Rattle.std.proofs.lemmas.Bool.{and_parts, eqb-true}
use Rattle.std.proofs.lemmas.Bool.Decides.{nat_tests}
use Rattle.std.proofs.lemmas.Cmp.{nat_cmp_total, then_total, on_total}
use Rattle.std.specs.Cmp.{IsTotalOrder}
use Rattle.std.specs.List.{Contains}
use Rattle.std.specs.Ordering.{is_eq, is_lt, nat_cmp, ordering_then, ordering_reverse}
use Rattle.std.specs.declared.cmp.Ordering.{Ordering}
use Rattle.std.specs.declared.cmp.Ordering.TheVariants.{Less, Equal, Greater}
use Rattle.xt_base.specs.declared.ids.Stamp.{Stamp}
use Rattle.xt_messages.specs.declared.file.ObjectVersion.{ObjectVersion}
use Rattle.xt_protocol.specs.Stamps.{is_stamp, is_version, comes_before, has_version, with_held}
use Rattle.xt_protocol.specs.VersionOrder.{version_cmp}

-- ---- one version

pub stamp-equal : (a b : Stamp) → is_stamp a b ≡ true → a ≡ b
stamp-equal a b same =
    let parts = and_parts ((a.epoch.number == b.epoch.number) && (a.epoch.node.0 == b.epoch.node.0)) (a.count == b.count) same in
    let epochs = and_parts (a.epoch.number == b.epoch.number) (a.epoch.node.0 == b.epoch.node.0) parts.0 in
    let numbers = eqb-true a.epoch.number b.epoch.number epochs.0 in
    let nodes = eqb-true a.epoch.node.0 b.epoch.node.0 epochs.1 in
    let counts = eqb-true a.count b.count parts.1 in
    λ i. record { epoch = record { number = numbers i; node = record { 0 = nodes i } }; count = counts i }

pub version-equal : (a b : ObjectVersion) → is_version a b ≡ true → a ≡ b
version-equal a b same =
    let parts = and_parts (a.object == b.object) (is_stamp a.version b.version) same in
    let objects = eqb-true a.object b.object parts.0 in
    let versions = stamp-equal a.version b.version parts.1 in
    λ i. record { object = objects i; version = versions i }

pub version-itself : (a : ObjectVersion) → is_version a a ≡ true
version-itself a = grind (arith, nat_tests)

-- ---- tests and comparisons

eq-then : (o p : Ordering) → (is_eq o && is_eq p) ≡ is_eq (ordering_then o p)
eq-then Less p = refl
eq-then Equal p = refl
eq-then Greater p = refl

lt-then : (o p : Ordering) → (is_lt o || is_eq o && is_lt p) ≡ is_lt (ordering_then o p)
lt-then Less p = refl
lt-then Equal p = refl
lt-then Greater p = refl

eq-nat : (m n : ℕ) → (m == n) ≡ is_eq (nat_cmp m n)
eq-nat m n = grind (arith, nat_tests)

lt-nat : (m n : ℕ) → nat_lt m n ≡ is_lt (nat_cmp m n)
lt-nat m n = grind (arith, nat_tests)

eq_then : (a b : Bool) (o p : Ordering) → a ≡ is_eq o → b ≡ is_eq p → (a && b) ≡ is_eq (ordering_then o p)
eq_then a b o p first second = ap (λ t. t && b) first ∙ ap (λ t. is_eq o && t) second ∙ eq-then o p

lt_then : (a b c : Bool) (o p : Ordering) → a ≡ is_lt o → b ≡ is_eq o → c ≡ is_lt p → (a || b && c) ≡ is_lt (ordering_then o p)
lt_then a b c o p less same later =
    ap (λ t. t || b && c) less ∙ ap (λ t. is_lt o || t && c) same ∙ ap (λ t. is_lt o || is_eq o && t) later ∙ lt-then o p

-- one version is one in the order
pub is_version-cmp : (a b : ObjectVersion) → is_version a b ≡ is_eq (version_cmp a b)
is_version-cmp a b =
    eq_then _ _ _ _ (eq-nat a.object b.object)
    (eq_then _ _ _ _ (eq_then _ _ _ _ (eq-nat a.version.epoch.number b.version.epoch.number) (eq-nat a.version.epoch.node.0 b.version.epoch.node.0))
    (eq-nat a.version.count b.version.count))

pub comes_before-cmp : (a b : ObjectVersion) → comes_before a b ≡ is_lt (version_cmp a b)
comes_before-cmp a b =
    lt_then _ _ _ _ _ (lt-nat a.object b.object) (eq-nat a.object b.object)
    (lt_then _ _ _ _ _
    (lt_then _ _ _ _ _ (lt-nat a.version.epoch.number b.version.epoch.number) (eq-nat a.version.epoch.number b.version.epoch.number)
    (lt-nat a.version.epoch.node.0 b.version.epoch.node.0))
    (eq_then _ _ _ _ (eq-nat a.version.epoch.number b.version.epoch.number) (eq-nat a.version.epoch.node.0 b.version.epoch.node.0))
    (lt-nat a.version.count b.version.count))

-- the order of versions is a total one
pub version_cmp_total : IsTotalOrder version_cmp
version_cmp_total =
    then_total (on_total (λ v. v.object) nat_cmp_total)
    (on_total (λ v. v.version)
    (then_total (then_total (on_total (λ s. s.epoch.number) nat_cmp_total) (on_total (λ s. s.epoch.node.0) nat_cmp_total)) (on_total (λ s. s.count) nat_cmp_total)))

pub version-back : (a b : ObjectVersion) (o : Ordering) → version_cmp a b ≡ o → version_cmp b a ≡ ordering_reverse o
version-back a b o is = version_cmp_total.antisymm b a ∙ ap ordering_reverse is

pub equal-versions : (a b : ObjectVersion) → version_cmp a b ≡ Equal → a ≡ b
equal-versions a b is = version-equal a b (is_version-cmp a b ∙ ap is_eq is)

-- ---- one more version

module _ (h v : ObjectVersion) (hs : List ObjectVersion) where
  placed : Bool → Bool → List ObjectVersion
  placed same before = cond same (h ∷ hs) (cond before (v ∷ h ∷ hs) (h ∷ with_held hs v))

  tested : with_held (h ∷ hs) v ≡ placed (is_eq (version_cmp h v)) (is_lt (version_cmp v h))
  unfolding with_held placed
  tested = ap (λ t. placed t (comes_before v h)) (is_version-cmp h v) ∙ ap (placed (is_eq (version_cmp h v))) (comes_before-cmp v h)

  pub held-behind : version_cmp h v ≡ Less → with_held (h ∷ hs) v ≡ h ∷ with_held hs v
  unfolding placed
  held-behind is = tested ∙ ap (λ o. placed (is_eq o) (is_lt (version_cmp v h))) is ∙ ap (λ o. placed false (is_lt o)) (version-back h v Less is)

  pub held-here : version_cmp h v ≡ Equal → with_held (h ∷ hs) v ≡ h ∷ hs
  unfolding placed
  held-here is = tested ∙ ap (λ o. placed (is_eq o) (is_lt (version_cmp v h))) is

  pub held-before : version_cmp h v ≡ Greater → with_held (h ∷ hs) v ≡ v ∷ h ∷ hs
  unfolding placed
  held-before is = tested ∙ ap (λ o. placed (is_eq o) (is_lt (version_cmp v h))) is ∙ ap (λ o. placed false (is_lt o)) (version-back h v Greater is)

pub held-alone : (v : ObjectVersion) → with_held [] v ≡ v ∷ []
unfolding with_held
held-alone v = refl

first : (v : ObjectVersion) (vs : List ObjectVersion) → Contains (v ∷ vs) v
first v vs = (0, omega arith, refl)

further : (h v : ObjectVersion) (vs : List ObjectVersion) → Contains vs v → Contains (h ∷ vs) v
further h v vs is = (suc is.0, omega (arith, is.1), is.2)

either : (h v : ObjectVersion) (vs : List ObjectVersion) → Contains (h ∷ vs) v → (h ≡ v) ⊎ Contains vs v
either h v vs (zero, less, is) = inl is
either h v vs (suc k, less, is) = inr (k, omega arith, is)

-- the new one is among them
pub held-new : (hs : List ObjectVersion) (v : ObjectVersion) → Contains (with_held hs v) v
held-new [] v = subst (λ xs. Contains xs v) (sym (held-alone v)) (first v [])
held-new (h ∷ hs) v = at (held-new hs v) (version_cmp h v) refl
  where
    at : Contains (with_held hs v) v → (o : Ordering) → version_cmp h v ≡ o → Contains (with_held (h ∷ hs) v) v
    at among Less is = subst (λ xs. Contains xs v) (sym (held-behind h v hs is)) (further h v (with_held hs v) among)
    at among Equal is =
        subst (λ xs. Contains xs v) (sym (held-here h v hs is)) (subst (λ x. Contains (h ∷ hs) x) (equal-versions h v is) (first h hs))
    at among Greater is = subst (λ xs. Contains xs v) (sym (held-before h v hs is)) (first v (h ∷ hs))

-- and so are the old ones
pub held-old : (hs : List ObjectVersion) (v w : ObjectVersion) → Contains hs w → Contains (with_held hs v) w
held-old [] v w is = absurd (let none : is.0 < 0 = is.1 in omega arith)
held-old (h ∷ hs) v w is = at (λ later. held-old hs v w later) (version_cmp h v) refl
  where
    behind : (Contains hs w → Contains (with_held hs v) w) → (h ≡ w) ⊎ Contains hs w → Contains (h ∷ with_held hs v) w
    behind keeps (inl same) = subst (λ x. Contains (h ∷ with_held hs v) x) same (first h (with_held hs v))
    behind keeps (inr later) = further h w (with_held hs v) (keeps later)

    at : (Contains hs w → Contains (with_held hs v) w) → (o : Ordering) → version_cmp h v ≡ o → Contains (with_held (h ∷ hs) v) w
    at keeps Less o = subst (λ xs. Contains xs w) (sym (held-behind h v hs o)) (behind keeps (either h w hs is))
    at keeps Equal o = subst (λ xs. Contains xs w) (sym (held-here h v hs o)) is
    at keeps Greater o = subst (λ xs. Contains xs w) (sym (held-before h v hs o)) (further v w (h ∷ hs) is)

-- and no other
pub held-only : (hs : List ObjectVersion) (v w : ObjectVersion) → Contains (with_held hs v) w → (v ≡ w) ⊎ Contains hs w
held-only [] v w is = either v w [] (subst (λ xs. Contains xs w) (held-alone v) is)
held-only (h ∷ hs) v w is = at (λ among. held-only hs v w among) (version_cmp h v) refl
  where
    later : (v ≡ w) ⊎ Contains hs w → (v ≡ w) ⊎ Contains (h ∷ hs) w
    later (inl same) = inl same
    later (inr old) = inr (further h w hs old)

    behind : (Contains (with_held hs v) w → (v ≡ w) ⊎ Contains hs w) → (h ≡ w) ⊎ Contains (with_held hs v) w → (v ≡ w) ⊎ Contains (h ∷ hs) w
    behind only (inl same) = inr (subst (λ x. Contains (h ∷ hs) x) same (first h hs))
    behind only (inr among) = later (only among)

    at : (Contains (with_held hs v) w → (v ≡ w) ⊎ Contains hs w) → (o : Ordering) → version_cmp h v ≡ o → (v ≡ w) ⊎ Contains (h ∷ hs) w
    at only Less o = behind only (either h w (with_held hs v) (subst (λ xs. Contains xs w) (held-behind h v hs o) is))
    at only Equal o = inr (subst (λ xs. Contains xs w) (held-here h v hs o) is)
    at only Greater o = either v w (h ∷ hs) (subst (λ xs. Contains xs w) (held-before h v hs o) is)

-- the same as a test
pub has_version-with_held : (hs : List ObjectVersion) (v w : ObjectVersion) → has_version (with_held hs v) w ≡ (is_version w v || has_version hs w)
has_version-with_held [] v w = ap (λ xs. has_version xs w) (held-alone v)
has_version-with_held (h ∷ hs) v w = at (has_version-with_held hs v w) (version_cmp h v) refl
  where
    exchanged : (a b c : Bool) → (a || (b || c)) ≡ (b || (a || c))
    exchanged true true c = refl
    exchanged true false c = refl
    exchanged false b c = refl

    twice : (a c : Bool) → (a || c) ≡ (a || (a || c))
    twice true c = refl
    twice false c = refl

    at : has_version (with_held hs v) w ≡ (is_version w v || has_version hs w) → (o : Ordering) → version_cmp h v ≡ o
        → has_version (with_held (h ∷ hs) v) w ≡ (is_version w v || has_version (h ∷ hs) w)
    at later Less o =
        ap (λ xs. has_version xs w) (held-behind h v hs o)
        ∙ ap (λ t. is_version w h || t) later
        ∙ exchanged (is_version w h) (is_version w v) (has_version hs w)
    at later Equal o =
        ap (λ xs. has_version xs w) (held-here h v hs o)
        ∙ twice (is_version w h) (has_version hs w)
        ∙ ap (λ x. is_version w x || has_version (h ∷ hs) w) (equal-versions h v o)
    at later Greater o = ap (λ xs. has_version xs w) (held-before h v hs o)
