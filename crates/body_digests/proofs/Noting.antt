-- a digest more of a version, in maps of which an entry was taken out and put back
use Rattle.std.proofs.Common.{◌≡◌, ◌&&◌, Bool, true, false, cond, ℕ, List, [], ◌∷◌, ◌++◌, Option, Some, None, Vec, Global, refl, ap, sym, ◌∙◌}
use Rattle.std.specs.BTreeMap.{BTreeMap, get, IsEmpty}
use Rattle.std.specs.Map.{lookup}
use Rattle.std.specs.Ordering.{is_eq}
use Rattle.xt_base.specs.declared.ids.FileId.{FileId}
use Rattle.xt_messages.specs.declared.file.ObjectVersion.{ObjectVersion}
use Rattle.xt_protocol.specs.FileIds.{file_cmp}
use Rattle.xt_protocol.specs.VersionOrder.{version_cmp}
use Rattle.xt_protocol.proofs.Folds.{file-equal, is_file-file_cmp}
use Rattle.xt_protocol.proofs.Stamps.{is_version-cmp, version-equal}
use Rattle.body_digests.specs.declared.digests.Digests.{Digests}
use Rattle.body_digests.specs.Digests.{digests_in, digests_or_none, digests_under, under_or_none}

abbrev Bodies : Type 0
Bodies = BTreeMap ObjectVersion (Vec (List ℕ) Global)

same_version : (w v : ObjectVersion) → is_eq (version_cmp w v) ≡ true → w ≡ v
same_version w v is = version-equal w v (is_version-cmp w v ∙ is)

same_file : (f k : FileId) → is_eq (file_cmp f k) ≡ true → f ≡ k
same_file f k is = file-equal f k (is_file-file_cmp f k ∙ is)

-- no bodies have no digests
pub none_under : (bodies : Bodies) → IsEmpty bodies → (v : ObjectVersion) → digests_under bodies v ≡ []
none_under bodies empty v = ap (λ entries. digests_or_none (lookup (λ w. is_eq (version_cmp v w)) entries)) empty

-- of a version
pub noted : (old mid new : Bodies) (w : ObjectVersion) (digest : List ℕ) (digests : Vec (List ℕ) Global)
    → ((v : ObjectVersion) → get version_cmp mid v ≡ cond (is_eq (version_cmp w v)) None (get version_cmp old v))
    → ((v : ObjectVersion) → get version_cmp new v ≡ cond (is_eq (version_cmp w v)) (Some digests) (get version_cmp mid v))
    → digests.items ≡ digests_under old w ++ digest ∷ []
    → (v : ObjectVersion) → digests_under new v ≡ cond (is_eq (version_cmp w v)) (digests_under old v ++ digest ∷ []) (digests_under old v)
noted old mid new w digest digests takes puts are v = at (is_eq (version_cmp w v)) refl
  where
    at : (same : Bool) → is_eq (version_cmp w v) ≡ same → digests_under new v ≡ cond same (digests_under old v ++ digest ∷ []) (digests_under old v)
    at true is =
        ap digests_or_none (puts v ∙ ap (λ (t : Bool). cond t (Some digests) (get version_cmp mid v)) is) ∙ are
        ∙ ap (λ (x : ObjectVersion). digests_under old x ++ digest ∷ []) (same_version w v is)
    at false is =
        ap digests_or_none
        (puts v ∙ ap (λ (t : Bool). cond t (Some digests) (get version_cmp mid v)) is
        ∙ takes v ∙ ap (λ (t : Bool). cond t None (get version_cmp old v)) is)

-- of a version of a file
pub put_under : (old mid new : Digests) (file : FileId) (w : ObjectVersion) (digest : List ℕ) (before after : Bodies)
    → ((f : FileId) → get file_cmp mid.files f ≡ cond (is_eq (file_cmp file f)) None (get file_cmp old.files f))
    → ((f : FileId) → get file_cmp new.files f ≡ cond (is_eq (file_cmp file f)) (Some after) (get file_cmp mid.files f))
    → ((v : ObjectVersion) → digests_under before v ≡ digests_in old file v)
    → ((v : ObjectVersion) → digests_under after v ≡ cond (is_eq (version_cmp w v)) (digests_under before v ++ digest ∷ []) (digests_under before v))
    → (f : FileId) (v : ObjectVersion)
    → digests_in new f v ≡ cond (is_eq (file_cmp file f) && is_eq (version_cmp w v)) (digests_in old f v ++ digest ∷ []) (digests_in old f v)
put_under old mid new file w digest before after takes puts was is f v = at (is_eq (file_cmp file f)) refl
  where
    at : (same : Bool) → is_eq (file_cmp file f) ≡ same
        → digests_in new f v ≡ cond (same && is_eq (version_cmp w v)) (digests_in old f v ++ digest ∷ []) (digests_in old f v)
    at true same =
        ap (λ (o : Option Bodies). under_or_none o v) (puts f ∙ ap (λ (t : Bool). cond t (Some after) (get file_cmp mid.files f)) same)
        ∙ is v
        ∙ ap (λ (ds : List (List ℕ)). cond (is_eq (version_cmp w v)) (ds ++ digest ∷ []) ds) (was v ∙ ap (λ (x : FileId). digests_in old x v) (same_file file f same))
    at false same =
        ap (λ (o : Option Bodies). under_or_none o v)
        (puts f ∙ ap (λ (t : Bool). cond t (Some after) (get file_cmp mid.files f)) same
        ∙ takes f ∙ ap (λ (t : Bool). cond t None (get file_cmp old.files f)) same)
