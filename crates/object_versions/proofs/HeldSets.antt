-- held versions as the keys of an ordered set
use Rattle.std.proofs.Common.{◌≡◌, Bool, true, false, cond, List, [], ◌∷◌, refl, ap, sym, ◌∙◌}
use Rattle.std.proofs.Math.Path.{fun_ext}
use Rattle.std.specs.List.{list_any}
use Rattle.std.specs.Ordering.{is_eq, is_lt, match_ordering}
use Rattle.std.specs.declared.cmp.Ordering.{Ordering}
use Rattle.std.specs.declared.cmp.Ordering.TheVariants.{Less, Equal, Greater}
use Rattle.std.specs.BTreeSet.{BTreeSet, contains_by, insert_key}
use Rattle.xt_messages.specs.declared.file.ObjectVersion.{ObjectVersion}
use Rattle.xt_protocol.specs.Stamps.{is_version, comes_before, has_version, with_held}
use Rattle.xt_protocol.specs.VersionOrder.{version_cmp}
use Rattle.xt_protocol.proofs.Stamps.{is_version-cmp, comes_before-cmp}
use Rattle.object_versions.proofs.HeldVersions.{version_order}

-- a version is held where it is a key
pub has_key : (held : BTreeSet ObjectVersion) (v : ObjectVersion) → contains_by (version_cmp v) held ≡ has_version held.keys v
has_key held v = ap (λ f. list_any f held.keys) (fun_ext (λ h. sym (is_version-cmp v h)))

-- a version is put as a key is
pub with_key : (held : List ObjectVersion) (v : ObjectVersion) → insert_key version_cmp held v ≡ with_held held v
unfolding with_held
with_key [] v = refl
with_key (h ∷ hs) v =
    by (version_cmp v h) (is_version h v) (comes_before v h) (version_order.back h v ∙ is_version-cmp v h) (comes_before-cmp v h) (with_key hs v)
  where
    by : (o : Ordering) (same before : Bool) → same ≡ is_eq o → before ≡ is_lt o → insert_key version_cmp hs v ≡ with_held hs v
        → match_ordering o (v ∷ h ∷ hs) (h ∷ hs) (h ∷ insert_key version_cmp hs v) ≡ cond same (h ∷ hs) (cond before (v ∷ h ∷ hs) (h ∷ with_held hs v))
    by Less true true is lt later = absurd cc
    by Equal true true is lt later = absurd cc
    by Greater true true is lt later = absurd cc
    by Less true false is lt later = absurd cc
    by Equal true false is lt later = refl
    by Greater true false is lt later = absurd cc
    by Less false true is lt later = refl
    by Equal false true is lt later = absurd cc
    by Greater false true is lt later = absurd cc
    by Less false false is lt later = absurd cc
    by Equal false false is lt later = absurd cc
    by Greater false false is lt later = ap (λ rest. h ∷ rest) later
