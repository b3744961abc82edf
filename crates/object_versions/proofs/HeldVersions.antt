-- held versions that rise
use Rattle.std.proofs.Common.{◌≡◌, ℕ, zero, suc, ◌<◌, ◌≤◌, Bool, true, false, cond, List, [], ◌∷◌, length, get_or, set, refl, ap, sym, subst, ◌∙◌, arith}
use Rattle.std.specs.Ordering.{is_eq, is_lt, ordering_reverse}
use Rattle.std.specs.List.Sorted.{IsPartitionPoint}
use Rattle.std.specs.Prelude.{Ok, Err}
use Rattle.std.proofs.lemmas.List.{get_or_default}
use Rattle.std.specs.declared.cmp.Ordering.{Ordering}
use Rattle.std.specs.declared.cmp.Ordering.TheVariants.{Less, Equal, Greater}
use Rattle.xt_messages.specs.declared.file.ObjectVersion.{ObjectVersion}
use Rattle.xt_protocol.specs.Stamps.{is_version, comes_before, with_held}
use Rattle.object_versions.specs.Rising.{held_rise, IsHeldPlace}
use Rattle.xt_protocol.specs.VersionOrder.{version_cmp}
use Rattle.xt_protocol.proofs.Stamps.{version-equal, version_cmp_total, is_version-cmp, comes_before-cmp}
use Rattle.object_versions.proofs.Puts.{Orders, put, placed, set_there, insert_there, there, not_there}

less : (o : Ordering) → is_lt o ≡ true → o ≡ Less
less Less h = refl
less Equal h = absurd cc
less Greater h = absurd cc

reversed_eq : (o : Ordering) → is_eq (ordering_reverse o) ≡ is_eq o
reversed_eq Less = refl
reversed_eq Equal = refl
reversed_eq Greater = refl

neither : (o : Ordering) → is_lt o ≡ false → is_eq o ≡ false → is_lt (ordering_reverse o) ≡ true
neither Less a b = absurd cc
neither Equal a b = absurd cc
neither Greater a b = refl

is_less : (a b : ObjectVersion) → comes_before a b ≡ true → version_cmp a b ≡ Less
is_less a b is = less (version_cmp a b) (sym (comes_before-cmp a b) ∙ is)

pub version_order : Orders is_version comes_before
version_order =
    record {
      apart = λ a b is. is_version-cmp a b ∙ ap is_eq (is_less a b is);
      one_way = λ a b is. comes_before-cmp b a ∙ ap is_lt (version_cmp_total.antisymm b a) ∙ ap (λ o. is_lt (ordering_reverse o)) (is_less a b is);
      chain = λ a b c first second. comes_before-cmp a c ∙ ap is_lt (version_cmp_total.trans a b c (is_less a b first) (is_less b c second));
      total = λ a b no differ. comes_before-cmp b a ∙ ap is_lt (version_cmp_total.antisymm b a) ∙ neither (version_cmp a b) (sym (comes_before-cmp a b) ∙ no) (sym (is_version-cmp a b) ∙ differ);
      back = λ a b. is_version-cmp a b ∙ ap is_eq (version_cmp_total.antisymm a b) ∙ reversed_eq (version_cmp b a) ∙ sym (is_version-cmp b a);
    }

-- versions that are one are equal
pub version_equal : (a b : ObjectVersion) → is_version a b ≡ true → a ≡ b
version_equal = version-equal

-- a held version is put like any item
held_put : (held : List ObjectVersion) (v : ObjectVersion) → with_held held v ≡ put is_version comes_before held v
unfolding with_held
held_put [] v = refl
held_put (h ∷ hs) v = at (held_put hs v) (is_version h v) refl
  where
    at : with_held hs v ≡ put is_version comes_before hs v → (t : Bool) → is_version h v ≡ t
        → cond t (h ∷ hs) (cond (comes_before v h) (v ∷ h ∷ hs) (h ∷ with_held hs v))
        ≡ cond t (v ∷ hs) (cond (comes_before v h) (v ∷ h ∷ hs) (h ∷ put is_version comes_before hs v))
    at later true same = ap (λ x. x ∷ hs) (version_equal h v same)
    at later false differ = ap (λ rest. cond (comes_before v h) (v ∷ h ∷ hs) (h ∷ rest)) later

-- the item that stands at a place, put there again
set_same : {R : Type 0} (rows : List R) (i : ℕ) (row : R) → i < length rows → ((d : R) → get_or rows i d ≡ row) → set rows i row ≡ rows
set_same [] i row lt here = refl
set_same (r ∷ rs) zero row lt here = ap (λ x. x ∷ rs) (sym (here r))
set_same (r ∷ rs) (suc i) row lt here = ap (λ xs. r ∷ xs) (set_same rs i row (omega arith) here)

-- what a search by halves answers

module _ (held : List ObjectVersion) (v : ObjectVersion) (i : ℕ) (up : held_rise held ≡ true) (le : i ≤ length held)
    (parts : IsPartitionPoint (λ y. comes_before y v ≡ true) (λ y. comes_before y v ≡ false) held i) where
  pub held_found : (d : ObjectVersion) → i < length held → is_version (get_or held i d) v ≡ true → IsHeldPlace held v (Ok i)
  held_found d lt here =
      let place = placed is_version comes_before version_order held v i le parts in
      let at : (e : ObjectVersion) → is_version (get_or held i e) v ≡ true = λ e. subst (λ x. is_version x v ≡ true) (get_or_default held i d e lt) here in (
        lt,
        there is_version comes_before version_order held v i lt at,
        held_put held v ∙ set_there is_version comes_before version_order held v i place lt at ∙ set_same held i v lt (λ e. version_equal (get_or held i e) v (at e)),
      )

  between : ((e : ObjectVersion) → i < length held → is_version (get_or held i e) v ≡ false) → IsHeldPlace held v (Err i)
  between other =
      let place = placed is_version comes_before version_order held v i le parts in (
        le,
        not_there is_version comes_before version_order held v i up place other,
        held_put held v ∙ insert_there is_version comes_before version_order held v i place other,
      )

  pub held_between : (d : ObjectVersion) → is_version (get_or held i d) v ≡ false → IsHeldPlace held v (Err i)
  held_between d here = between (λ e lt. subst (λ x. is_version x v ≡ false) (get_or_default held i d e lt) here)

  pub held_at_end : i ≡ length held → IsHeldPlace held v (Err i)
  held_at_end end = between (λ e lt. absurd (omega arith))
