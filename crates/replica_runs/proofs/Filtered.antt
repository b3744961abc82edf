-- what is left of a list, and what a head's versions name
use Rattle.std.proofs.Common.{◌≡◌, ℕ, Bool, true, false, List, [], ◌∷◌, refl, sym, ap, ◌∙◌, inl, inr, arith, if◌then◌else◌, ◌==◌, Some}
use Rattle.std.specs.Prelude.{filter}
use Rattle.std.proofs.lemmas.Bool.Decides.{nat_tests}
use Rattle.xt_base.specs.declared.ids.Stamp.{Stamp}
use Rattle.xt_messages.specs.declared.file.ObjectVersion.{ObjectVersion}
use Rattle.xt_protocol.specs.Folds.{body_of}
use Rattle.xt_protocol.specs.Heads.{version_of}
use Rattle.replica_safety.specs.Lists.{Has}
use Rattle.replica_runs.proofs.Tools.{true_false}

module _ {A : Type 0} (test : A → Bool) where
  -- what passes is left
  pub has_left : (xs : List A) (x : A) → Has x xs → test x ≡ true → Has x (filter test xs)
  has_left [] x h is = absurd h
  has_left (y ∷ ys) x h is = at (test y) refl h (λ k. has_left ys x k is)
    where
      at : (b : Bool) → test y ≡ b → Has x (y ∷ ys) → (Has x ys → Has x (filter test ys)) → Has x (if b then y ∷ filter test ys else filter test ys)
      at true e (inl p) rest = inl p
      at true e (inr k) rest = inr (rest k)
      at false e (inl p) rest = true_false (ap test (sym p) ∙ is) e
      at false e (inr k) rest = rest k

  -- and what is left was there, and passes
  pub left_has : (xs : List A) (x : A) → Has x (filter test xs) → Has x xs × (test x ≡ true)
  left_has [] x h = absurd h
  left_has (y ∷ ys) x h = at (test y) refl h (left_has ys x)
    where
      at : (b : Bool) → test y ≡ b → Has x (if b then y ∷ filter test ys else filter test ys) → (Has x (filter test ys) → Has x ys × (test x ≡ true)) → Has x (y ∷ ys) × (test x ≡ true)
      at true e (inl p) rest = (inl p, ap test p ∙ e)
      at true e (inr k) rest = let r = rest k in (inr r.0, r.1)
      at false e k rest = let r = rest k in (inr r.0, r.1)

-- the version of an object is among the versions
pub named_has : (vs : List ObjectVersion) (o : ℕ) (t : Stamp) → version_of vs o ≡ Some t → Has (body_of o t) vs
named_has [] o t is = absurd cc
named_has (x ∷ xs) o t is = at (x.object == o) refl is (named_has xs o t)
  where
    at : (b : Bool) → (x.object == o) ≡ b → (if b then Some x.version else version_of xs o) ≡ Some t → (version_of xs o ≡ Some t → Has (body_of o t) xs) → Has (body_of o t) (x ∷ xs)
    at true e p rest =
        let number : x.object ≡ o = grind (arith, nat_tests) in
        let version : x.version ≡ t = cc in
        inl (sym (ap (λ (k : ℕ). body_of k x.version) number ∙ ap (λ (s : Stamp). body_of o s) version))
    at false e p rest = inr (rest p)
