-- a record more, and the digests that are kept then
use Rattle.std.proofs.Common.{◌≡◌, ◌==◌, ◌&&◌, ℕ, Bool, true, false, cond, List, [], ◌∷◌, ◌++◌, refl, ap, sym, ◌∙◌}
use Rattle.std.specs.BTreeMap.{IsEmpty}
use Rattle.std.specs.Map.{lookup}
use Rattle.std.specs.Ordering.{is_eq}
use Rattle.xt_base.specs.declared.ids.FileId.{FileId}
use Rattle.xt_base.specs.declared.ids.Stamp.{Stamp}
use Rattle.xt_messages.specs.declared.file.ObjectVersion.{ObjectVersion}
use Rattle.xt_messages.specs.declared.record.Record.{Record}
use Rattle.xt_messages.specs.declared.record.Record.TheVariants as kept
use Rattle.xt_protocol.specs.FileIds.{is_file, file_cmp}
use Rattle.xt_protocol.specs.Folds.{body_of, digests_after, digests_kept}
use Rattle.xt_protocol.specs.Stamps.{is_stamp}
use Rattle.xt_protocol.specs.VersionOrder.{version_cmp}
use Rattle.xt_protocol.proofs.Folds.{digests_kept-push, is_file-file_cmp}
use Rattle.xt_protocol.proofs.Stamps.{is_version-cmp}
use Rattle.body_digests.specs.declared.digests.Digests.{Digests}
use Rattle.body_digests.specs.Digests.{AreDigestsIn, digests_in, under_or_none}

-- no digest is kept by no records
pub none_kept : (digests : Digests) → IsEmpty digests.files → AreDigestsIn digests []
unfolding digests_kept
none_kept digests empty = record {
  each = λ file object version.
      ap (λ entries. under_or_none (lookup (λ f. is_eq (file_cmp file f)) entries) (body_of object version)) empty;
}

-- a version of a file is one in the orders
same_version : (file f : FileId) (w : ObjectVersion) (object : ℕ) (version : Stamp)
    → (is_eq (file_cmp file f) && is_eq (version_cmp w (body_of object version))) ≡ (is_file file f && (w.object == object) && is_stamp w.version version)
same_version file f w object version =
    ap (λ (t : Bool). t && is_eq (version_cmp w (body_of object version))) (sym (is_file-file_cmp file f))
    ∙ ap (λ (t : Bool). is_file file f && t) (sym (is_version-cmp w (body_of object version)))
    ∙ regroup (is_file file f) (w.object == object) (is_stamp w.version version)
  where
    regroup : (a b c : Bool) → (a && (b && c)) ≡ (a && b && c)
    regroup true b c = refl
    regroup false b c = refl

-- a digest more
pub seal_taken : (old new : Digests) (file : FileId) (w : ObjectVersion) (digest : List ℕ)
    → ((f : FileId) (v : ObjectVersion) → digests_in new f v
    ≡ cond (is_eq (file_cmp file f) && is_eq (version_cmp w v)) (digests_in old f v ++ digest ∷ []) (digests_in old f v))
    → (records : List Record) → AreDigestsIn old records → AreDigestsIn new (records ++ kept.Seal file w.object w.version digest ∷ [])
seal_taken old new file w digest puts records are = record {
  each = λ f object version.
      puts f (body_of object version)
      ∙ ap (λ (ds : List (List ℕ)). cond (is_eq (file_cmp file f) && is_eq (version_cmp w (body_of object version))) (ds ++ digest ∷ []) ds) (are.each f object version)
      ∙ ap (λ (t : Bool). cond t (digests_kept records f object version ++ digest ∷ []) (digests_kept records f object version)) (same_version file f w object version)
      ∙ sym (digests_kept-push records (kept.Seal file w.object w.version digest) f object version);
}

-- a file that is removed
pub forget_taken : (old new : Digests) (file : FileId)
    → ((f : FileId) (v : ObjectVersion) → digests_in new f v ≡ cond (is_eq (file_cmp file f)) [] (digests_in old f v))
    → (records : List Record) → AreDigestsIn old records → AreDigestsIn new (records ++ kept.Forget file ∷ [])
forget_taken old new file drops records are = record {
  each = λ f object version.
      drops f (body_of object version)
      ∙ ap (cond (is_eq (file_cmp file f)) []) (are.each f object version)
      ∙ ap (λ (t : Bool). cond t [] (digests_kept records f object version)) (sym (is_file-file_cmp file f))
      ∙ sym (digests_kept-push records (kept.Forget file) f object version);
}

-- any other record
other_stays : (rec : Record) → ((file : FileId) (object : ℕ) (version : Stamp) (digest : List ℕ) → rec ≡ kept.Seal file object version digest → ⊥)
    → ((file : FileId) → rec ≡ kept.Forget file → ⊥)
    → (file : FileId) (object : ℕ) (version : Stamp) (ds : List (List ℕ)) → digests_after file object version ds rec ≡ ds
other_stays (kept.Seal f o v digest) no_seal no_forget file object version ds = absurd (no_seal f o v digest refl)
other_stays (kept.Forget f) no_seal no_forget file object version ds = absurd (no_forget f refl)
other_stays _ no_seal no_forget file object version ds = refl

pub other_taken : (digests : Digests) (rec : Record) → ((file : FileId) (object : ℕ) (version : Stamp) (digest : List ℕ) → rec ≡ kept.Seal file object version digest → ⊥)
    → ((file : FileId) → rec ≡ kept.Forget file → ⊥)
    → (records : List Record) → AreDigestsIn digests records → AreDigestsIn digests (records ++ rec ∷ [])
other_taken digests rec no_seal no_forget records are = record {
  each = λ f object version.
      are.each f object version
      ∙ sym (other_stays rec no_seal no_forget f object version (digests_kept records f object version))
      ∙ sym (digests_kept-push records rec f object version);
}
