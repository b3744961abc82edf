-- versions that are held, one after the other
use Rattle.std.proofs.Common.{◌≡◌, ◌==◌, ◌||◌, ◌⊎◌, inl, inr, ◌↔◌, ℕ, zero, suc, ◌+◌, ◌<◌, ◌≤◌, Bool, true, false, IsTrue, List, [], ◌∷◌, length, get_or, refl, ap, sym, subst, ◌∙◌, arith}
use Rattle.std.proofs.lemmas.Bool.{cases_lt, eqb-true}
use Rattle.std.proofs.lemmas.List.{get_or_default}
use Rattle.std.specs.List.{All, Contains}
use Rattle.xt_messages.specs.declared.file.ObjectVersion.{ObjectVersion}
use Rattle.xt_protocol.specs.Stamps.{is_version, has_version}
use Rattle.xt_protocol.proofs.Stamps.{version-equal, version-itself}

-- ---- the test

among : (held : List ObjectVersion) (v : ObjectVersion) → has_version held v ≡ true → Contains held v
among [] v found = absurd (let no_way : false ≡ true = found in cc)
among (h ∷ hs) v found = at (λ later. among hs v later) (is_version v h) refl found
  where
    at : (has_version hs v ≡ true → Contains hs v) → (b : Bool) → is_version v h ≡ b → (b || has_version hs v) ≡ true → Contains (h ∷ hs) v
    at later true same is = (0, omega arith, sym (version-equal v h same))
    at later false differs is = let found = later is in (suc found.0, omega (arith, found.1), found.2)

has : (held : List ObjectVersion) (v : ObjectVersion) → Contains held v → has_version held v ≡ true
has [] v (k, lt, is) = absurd (omega arith)
has (h ∷ hs) v (zero, lt, is) = ap (λ b. b || has_version hs v) (ap (is_version v) is ∙ version-itself v)
has (h ∷ hs) v (suc k, lt, is) = or_true (is_version v h) (has_version hs v) (has hs v (k, omega arith, is))
  where
    or_true : (a b : Bool) → b ≡ true → (a || b) ≡ true
    or_true true b is_true = refl
    or_true false b is_true = is_true

pub is_among : (held : List ObjectVersion) (v : ObjectVersion) (b : Bool) → b ≡ has_version held v → IsTrue b ↔ Contains held v
is_among held v b is = (λ found. among held v (sym is ∙ found), λ found. is ∙ has held v found)

-- ---- versions that are held, one after the other

pub held_more : (held versions : List ObjectVersion) (i : ℕ) (e : ObjectVersion) → ((k : ℕ) (d : ObjectVersion) → k < i → Contains held (get_or versions k d))
    → i < length versions → Contains held (get_or versions i e) → (k : ℕ) (d : ObjectVersion) → k < i + 1 → Contains held (get_or versions k d)
held_more held versions i e before lt here k d bound = at (cases_lt k i)
  where
    at : (k < i) ⊎ (i ≤ k) → Contains held (get_or versions k d)
    at (inl less) = before k d less
    at (inr ge) =
        let same : i ≡ k = omega arith in
        subst (λ j. Contains held (get_or versions j d)) same (subst (λ v. Contains held v) (get_or_default versions i e d lt) here)

-- where nothing is held, that is no version
pub none_held : (versions : List ObjectVersion) (b : Bool) → b ≡ (length versions == 0) → IsTrue b ↔ All (Contains []) versions
none_held [] b is = (λ empty k d lt. absurd (omega arith), λ all. is)
none_held (v ∷ vs) b is = (
  λ empty. absurd (let no_way : suc (length vs) ≡ 0 = eqb-true (suc (length vs)) 0 (sym is ∙ empty) in cc),
  λ all. absurd (let found = all 0 v (omega arith) in omega (arith, found.1)),
)
