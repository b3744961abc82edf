-- With the bodies that heads name, no version that a head names is forgotten.
use Rattle.std.proofs.Common.{◌≡◌, ◌&&◌, ◌||◌, ◌++◌, zero, suc, Bool, true, false, cond, List, [], ◌∷◌, map, refl, sym, ap, subst, ◌∙◌, arith}
use Rattle.std.specs.List.{AllByRecursion, list_any}
use Rattle.std.specs.Prelude.{Contains, filter, flat_map}
use Rattle.std.proofs.lemmas.List.Elements.{All-from_recursion}
use Rattle.xt_base.specs.declared.ids.FileId.{FileId}
use Rattle.xt_messages.specs.declared.file.ObjectVersion.{ObjectVersion}
use Rattle.xt_messages.specs.declared.record.FileRow.{FileRow}
use Rattle.xt_messages.specs.declared.record.KeepBody.{KeepBody}
use Rattle.xt_protocol.specs.FileIds.{is_file}
use Rattle.xt_protocol.specs.Folds.{body_of, fold_of}
use Rattle.xt_protocol.specs.Forgetting.{is_kept, row_without}
use Rattle.xt_protocol.specs.Stamps.{is_version, has_version}
use Rattle.xt_protocol.proofs.Folds.{file-itself}
use Rattle.xt_protocol.proofs.Stamps.{version-equal, version-itself}
use Rattle.forgetting.proofs.Named.{names_held, or_left, or_right}
use Rattle.replica_records.proofs.Held.{is_among}
use Rattle.replica_records.specs.Heads.{heads_of, named_by}
use Rattle.store_compact.specs.Rewriting.{HeadsNameThem}

-- whether it is this body of this file
abbrev is_it : FileId → ObjectVersion → KeepBody → Bool
is_it file v k = is_file k.file file && is_version (body_of k.object k.version) v

any_first : (test : KeepBody → Bool) (xs ys : List KeepBody) → list_any test xs ≡ true → list_any test (xs ++ ys) ≡ true
any_first test [] ys is = absurd cc
any_first test (x ∷ xs) ys is = at (test x) is (any_first test xs ys)
  where
    at : (b : Bool) → (b || list_any test xs) ≡ true → (list_any test xs ≡ true → list_any test (xs ++ ys) ≡ true) → (b || list_any test (xs ++ ys)) ≡ true
    at true some rest = refl
    at false some rest = rest some

any_later : (test : KeepBody → Bool) (xs ys : List KeepBody) → list_any test ys ≡ true → list_any test (xs ++ ys) ≡ true
any_later test [] ys is = is
any_later test (x ∷ xs) ys is = or_right (test x) (list_any test (xs ++ ys)) (any_later test xs ys is)

-- a version of a head is a body of its file
named_so : (file : FileId) (versions : List ObjectVersion) (v : ObjectVersion) → Contains versions v
    → list_any (is_it file v) (map (λ w. let body : KeepBody = record { file = file; object = w.object; version = w.version } in body) versions) ≡ true
named_so file [] v (k, lt, is) = absurd (omega arith)
named_so file (w ∷ ws) v (zero, lt, is) =
    or_left _ _ (subst (λ (x : ObjectVersion). (is_file file file && is_version w x) ≡ true) is (ap (λ (b : Bool). b && is_version w w) (file-itself file) ∙ version-itself w))
named_so file (w ∷ ws) v (suc k, lt, is) = or_right _ _ (named_so file ws v (k, omega (arith, lt), is))

kept_so : (rows : List FileRow) (row : FileRow) (v : ObjectVersion) → Contains rows row → Contains row.head.versions v → is_kept (flat_map named_by rows) row.file v ≡ true
kept_so [] row v (k, lt, is) names = absurd (omega arith)
kept_so (r ∷ rs) row v (zero, lt, is) names =
    any_first (is_it row.file v) (named_by r) (flat_map named_by rs) (subst (λ (x : FileRow). list_any (is_it row.file v) (named_by x) ≡ true) (sym is) (named_so row.file row.head.versions v names))
kept_so (r ∷ rs) row v (suc k, lt, is) names = any_later (is_it row.file v) (named_by r) (flat_map named_by rs) (kept_so rs row v (k, omega (arith, lt), is) names)

-- a held version that passes the test stays
stays : (test : ObjectVersion → Bool) (held : List ObjectVersion) (v : ObjectVersion) → has_version held v ≡ true → test v ≡ true → has_version (filter test held) v ≡ true
stays test [] v has is = absurd cc
stays test (h ∷ hs) v has is = at (is_version v h) refl (test h) refl has (λ later. stays test hs v later is)
  where
    at : (same : Bool) → is_version v h ≡ same → (b : Bool) → test h ≡ b → (same || has_version hs v) ≡ true
        → (has_version hs v ≡ true → has_version (filter test hs) v ≡ true) → has_version (cond b (h ∷ filter test hs) (filter test hs)) v ≡ true
    at true one true some has rest = or_left _ _ one
    at true one false some has rest = absurd (let no : false ≡ true = sym some ∙ ap test (sym (version-equal v h one)) ∙ is in cc no)
    at false one true some has rest = or_right _ _ (rest has)
    at false one false some has rest = rest has

each_among : (held vs : List ObjectVersion) → ((v : ObjectVersion) → Contains vs v → has_version held v ≡ true) → AllByRecursion (Contains held) vs
each_among held [] each = tt
each_among held (v ∷ vs) each = ((is_among held v true (sym (each v (0, omega arith, refl)))).0 refl, each_among held vs (λ x has. each x (suc has.0, omega (arith, has.1), has.2)))

pub heads_name_them : HeadsNameThem
heads_name_them records placed row has =
    let rows = (fold_of records).files in
    let held = (row_without (heads_of (fold_of records)) row).held in
    All-from_recursion (Contains held) row.head.versions
    (each_among held row.head.versions (λ v names. stays (is_kept (heads_of (fold_of records)) row.file) row.held v (names_held records placed row has v names) (kept_so rows row v has names)))
