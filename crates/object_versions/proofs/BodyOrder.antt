-- bodies that are to be kept, in their order: where one stands among them
use Rattle.std.proofs.Common.{◌≡◌, ℕ, ◌<◌, ◌≤◌, Bool, true, false, ◌&&◌, List, length, get_or, refl, ap, sym, subst, ◌∙◌, arith}
use Rattle.std.proofs.Math.Path.{fun_ext}
use Rattle.std.proofs.lemmas.Cmp.{then_total, on_total}
use Rattle.std.proofs.lemmas.List.{get_or_default}
use Rattle.std.specs.Cmp.{IsTotalOrder}
use Rattle.std.specs.List.{list_any}
use Rattle.std.specs.List.Sorted.{IsPartitionPoint}
use Rattle.std.specs.Ordering.{is_eq, is_lt, match_ordering, ordering_reverse, ordering_then}
use Rattle.std.specs.declared.cmp.Ordering.{Ordering}
use Rattle.std.specs.declared.cmp.Ordering.TheVariants.{Less, Equal, Greater}
use Rattle.xt_messages.specs.declared.record.KeepBody.{KeepBody}
use Rattle.xt_protocol.specs.FileIds.{file_cmp}
use Rattle.xt_protocol.specs.Forgetting.{is_kept}
use Rattle.xt_protocol.specs.VersionOrder.{version_cmp}
use Rattle.xt_protocol.proofs.Folds.{is_file-file_cmp, file_cmp_total}
use Rattle.xt_protocol.proofs.Stamps.{is_version-cmp, comes_before-cmp, version_cmp_total}
use Rattle.object_versions.specs.Keeping.{bodies_rise, body_before, is_body, version_in}
use Rattle.object_versions.proofs.Puts.{Orders, placed, there, not_there}

-- by file, then by object and stamp
body_cmp : KeepBody → KeepBody → Ordering
body_cmp a b = ordering_then (file_cmp a.file b.file) (version_cmp (version_in a) (version_in b))

body_cmp_total : IsTotalOrder body_cmp
unfolding body_cmp
body_cmp_total = then_total (on_total (λ k. k.file) file_cmp_total) (on_total version_in version_cmp_total)

both_equal : (o p : Ordering) (a b : Bool) → a ≡ is_eq o → b ≡ is_eq p → (a && b) ≡ is_eq (ordering_then o p)
both_equal Less p a b first second = ap (λ t. t && b) first
both_equal Equal p a b first second = ap (λ t. t && b) first ∙ second
both_equal Greater p a b first second = ap (λ t. t && b) first

then_less : (o p : Ordering) (b : Bool) → b ≡ is_lt p → match_ordering o true b false ≡ is_lt (ordering_then o p)
then_less Less p b second = refl
then_less Equal p b second = second
then_less Greater p b second = refl

is_body-cmp : (a b : KeepBody) → is_body a b ≡ is_eq (body_cmp a b)
unfolding body_cmp
is_body-cmp a b = both_equal _ _ _ _ (is_file-file_cmp a.file b.file) (is_version-cmp (version_in a) (version_in b))

before-cmp : (a b : KeepBody) → body_before a b ≡ is_lt (body_cmp a b)
unfolding body_cmp
before-cmp a b = then_less (file_cmp a.file b.file) _ _ (comes_before-cmp (version_in a) (version_in b))

less : (o : Ordering) → is_lt o ≡ true → o ≡ Less
less Less h = refl
less Equal h = absurd cc
less Greater h = absurd cc

reversed_eq : (o : Ordering) → is_eq (ordering_reverse o) ≡ is_eq o
reversed_eq Less = refl
reversed_eq Equal = refl
reversed_eq Greater = refl

neither : (o : Ordering) → is_lt o ≡ false → is_eq o ≡ false → is_lt (ordering_reverse o) ≡ true
neither Less a b = absurd cc
neither Equal a b = absurd cc
neither Greater a b = refl

is_less : (a b : KeepBody) → body_before a b ≡ true → body_cmp a b ≡ Less
is_less a b is = less (body_cmp a b) (sym (before-cmp a b) ∙ is)

pub body_order : Orders is_body body_before
body_order =
    record {
      apart = λ a b is. is_body-cmp a b ∙ ap is_eq (is_less a b is);
      one_way = λ a b is. before-cmp b a ∙ ap is_lt (body_cmp_total.antisymm b a) ∙ ap (λ o. is_lt (ordering_reverse o)) (is_less a b is);
      chain = λ a b c first second. before-cmp a c ∙ ap is_lt (body_cmp_total.trans a b c (is_less a b first) (is_less b c second));
      total = λ a b no differ. before-cmp b a ∙ ap is_lt (body_cmp_total.antisymm b a) ∙ neither (body_cmp a b) (sym (before-cmp a b) ∙ no) (sym (is_body-cmp a b) ∙ differ);
      back = λ a b. is_body-cmp a b ∙ ap is_eq (body_cmp_total.antisymm a b) ∙ reversed_eq (body_cmp b a) ∙ sym (is_body-cmp b a);
    }

-- what a search by halves finds
module _ (bodies : List KeepBody) (body : KeepBody) (i : ℕ) (up : bodies_rise bodies ≡ true) (le : i ≤ length bodies)
    (parts : IsPartitionPoint (λ y. body_before y body ≡ true) (λ y. body_before y body ≡ false) bodies i) where
  kept_as : list_any (is_body body) bodies ≡ is_kept bodies body.file (version_in body)
  kept_as = ap (λ f. list_any f bodies) (fun_ext (λ k. body_order.back body k))

  pub kept_there : (d : KeepBody) → i < length bodies → is_body (get_or bodies i d) body ≡ is_kept bodies body.file (version_in body)
  kept_there d lt = at (is_body (get_or bodies i d) body) refl ∙ kept_as
    where
      at : (t : Bool) → is_body (get_or bodies i d) body ≡ t → is_body (get_or bodies i d) body ≡ list_any (is_body body) bodies
      at true is =
          is ∙ sym (there is_body body_before body_order bodies body i lt (λ e. subst (λ x. is_body x body ≡ true) (get_or_default bodies i d e lt) is))
      at false is =
          is
          ∙ sym (not_there is_body body_before body_order bodies body i up (placed is_body body_before body_order bodies body i le parts)
          (λ e within. subst (λ x. is_body x body ≡ false) (get_or_default bodies i d e within) is))

  pub kept_nowhere : i ≡ length bodies → false ≡ is_kept bodies body.file (version_in body)
  kept_nowhere end =
      sym (not_there is_body body_before body_order bodies body i up (placed is_body body_before body_order bodies body i le parts) (λ e within. absurd (omega arith)))
      ∙ kept_as
