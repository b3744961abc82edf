-- old kinds of records: what is read is spelled so, and what is spelled so is read; and their limits in the kinds that are written now
use Rattle.std.proofs.Common.{◌≡◌, ◌≢◌, ◌<◌, ◌≤◌, ◌^◌, ℕ, Bool, true, false, cond, not, eqb, List, [], ◌∷◌, ◌++◌, length, map, Ok, inl, inr, refl, sym, ap, subst, ◌∙◌, arith, lit<}
use Rattle.std.specs.Prelude.{IsTrue}
use Rattle.std.specs.List.{AllByRecursion}
use Rattle.std.proofs.lemmas.Bool.{eqb-true, ne_eqb, eqb-false}
use Rattle.xt_base.specs.declared.TheConstants.{NO_OBJECT}
use Rattle.xt_messages.specs.Limits.{FitsStamp, IsObjectOrNone, FitsVersion, IsOldObjectOrNone, IsOldVersion, FitsOldUpdate, FitsOldHead, FitsRecord, rise, is_at_most}
use Rattle.xt_messages.specs.declared.file.Update.{Update}
use Rattle.xt_messages.specs.declared.file.ObjectVersion.{ObjectVersion}
use Rattle.xt_messages.specs.declared.file.FileHead.{FileHead}
use Rattle.xt_messages.specs.declared.record.Record.{Record}
use Rattle.xt_messages.specs.declared.record.Record.TheVariants as kept
use Rattle.xt_fields.specs.BasicFields.{word_bytes, word_at}
use Rattle.xt_fields.specs.OneSpelling.{IsField, Taken}
use Rattle.xt_fields.proofs.Laws.{IsArm, AreArms, both, made_field, fit_field, as_field, arm, no_more, or_arm, bind_ok, ok_is}
use Rattle.xt_fields.proofs.BasicLaws.{word_field, body_field, counted_field}
use Rattle.xt_wire.specs.FileFields.{has_its_body}
use Rattle.xt_wire.proofs.IdLaws.{node_field, file_field, epoch_field, stamp_field, op_id_field, mark_field}
use Rattle.xt_wire.proofs.FileLaws.{location_field, sessions_field}
use Rattle.replica_records.specs.OldFields.{slot_bytes, slot_at, update_bytes, update_at, object_version_bytes, object_version_at, versions_bytes, versions_at, head_bytes, head_at}
use Rattle.replica_records.specs.RecordText.{record_text}
use Rattle.xt_protocol.specs.Folds.{widened}
use Rattle.replica_records.specs.RecordFields.{old_update_at, old_stage_at, old_head_at, old_install_at, old_choice_at, old_arms}

-- ---- updates

-- the word that is read is the one that was written for what it means
slot_written : (n : ℕ) (same : Bool) → eqb n 4294967295 ≡ same → n < 2 ^ 32 → slot_bytes (cond same NO_OBJECT n) ≡ word_bytes n
unfolding slot_bytes
slot_written n true e lt = ap word_bytes (sym (eqb-true n 4294967295 e))
slot_written n false e lt = let other : eqb n NO_OBJECT ≡ false = ne_eqb _ _ (omega arith) in rw other refl

slot_fits : (n : ℕ) (same : Bool) → eqb n 4294967295 ≡ same → n < 2 ^ 32 → IsOldObjectOrNone (cond same NO_OBJECT n)
slot_fits n true e lt = inr refl
slot_fits n false e lt = inl (let other : n ≢ 4294967295 = eqb-false _ _ e in omega arith)

slot_again : (n : ℕ) (rest : List ℕ) → IsOldObjectOrNone n → slot_at (slot_bytes n ++ rest) ≡ Ok (n, rest)
unfolding slot_at slot_bytes
slot_again n rest (inl lt) =
    let some : eqb n NO_OBJECT ≡ false = ne_eqb _ _ (omega arith) in
    let other : eqb n 4294967295 ≡ false = ne_eqb _ _ (omega arith) in
    let read : word_at (word_bytes n ++ rest) ≡ Ok (n, rest) = word_field.again n rest (omega arith) in
    rw (some, read, other) refl
slot_again n rest (inr none) =
    let read : word_at (word_bytes 4294967295 ++ rest) ≡ Ok (4294967295, rest) = word_field.again 4294967295 rest (lit< tt) in
    rw (none, read) refl

slot_field : IsField slot_bytes IsOldObjectOrNone slot_at
unfolding slot_at
slot_field = record {
  takes = λ given x all e.
      let a = bind_ok (word_at given) (λ read. Ok (cond (eqb read.0 4294967295) NO_OBJECT read.0, read.1)) x e in
      let s = word_field.takes given a.0 all a.1 in
      let read : ℕ × List ℕ = (cond (eqb a.0.0 4294967295) NO_OBJECT a.0.0, a.0.1) in
      subst (λ (y : ℕ × List ℕ). Taken given (slot_bytes y.0) y.1 (IsOldObjectOrNone y.0)) (ok_is read x a.2)
      (record { parts = s.parts ∙ ap (λ (t : List ℕ). t ++ a.0.1) (sym (slot_written a.0.0 (eqb a.0.0 4294967295) refl s.within)); left = s.left; within = slot_fits a.0.0 (eqb a.0.0 4294967295) refl s.within });
  again = slot_again;
}

agree : (a b : Bool) → cond a b (not b) ≡ true → a ≡ b
agree true b h = sym h
agree false true h = absurd cc
agree false false h = refl

agreed : (a b : Bool) → a ≡ b → cond a b (not b) ≡ true
agreed true b h = sym h
agreed false true h = absurd cc
agreed false false h = refl

wide : (n : ℕ) → IsOldObjectOrNone n → IsObjectOrNone n
wide n (inl less) = inl (omega arith)
wide n (inr none) = inr none

pub update_field : IsField update_bytes FitsOldUpdate update_at
unfolding update_at
update_field = as_field
    (λ u h. record {
      fits = record {
        place = h.0.0.0.0.0.0;
        operation = h.0.0.0.0.0.1;
        after = h.0.0.0.0.1;
        drops = wide u.drop_from h.0.0.0.1;
        gets = wide u.object h.0.0.1;
        bytes = h.0.1;
        empty = agree (eqb (length u.body) 0) (eqb u.object NO_OBJECT) h.1;
      };
      drops = h.0.0.0.1;
      gets = h.0.0.1;
    })
    (λ u h. ((((((h.fits.place, h.fits.operation), h.fits.after), h.drops), h.gets), h.fits.bytes), agreed (eqb (length u.body) 0) (eqb u.object NO_OBJECT) h.fits.empty))
    (fit_field has_its_body
    (made_field (λ u. record { stamp = u.0.0.0.0.0; id = u.0.0.0.0.1; mark = u.0.0.0.1; drop_from = u.0.0.1; object = u.0.1; body = u.1 })
    (λ (u : Update). (((((u.stamp, u.id), u.mark), u.drop_from), u.object), u.body)) (λ a. refl) (λ b. refl)
    (both (both (both (both (both stamp_field op_id_field) mark_field) slot_field) slot_field) body_field)))

-- ---- heads

-- a version whose object has 32 bits
record FitsSmall (entry : ObjectVersion) : Type 0 where
  small : IsOldVersion entry
  write : FitsStamp entry.version

object_version_field : IsField object_version_bytes FitsSmall object_version_at
unfolding object_version_at
object_version_field = as_field (λ v h. record { small = h.0; write = h.1 }) (λ v h. (h.small, h.write))
    (made_field (λ v. record { object = v.0; version = v.1 }) (λ (v : ObjectVersion). (v.object, v.version)) (λ a. refl) (λ b. refl) (both word_field stamp_field))

each_fits : (vs : List ObjectVersion) → AllByRecursion FitsSmall vs → AllByRecursion FitsVersion vs
each_fits [] all = tt
each_fits (v ∷ vs) all = (record { which = (let small = all.0.small in omega arith); write = all.0.write }, each_fits vs all.1)

each_small : (vs : List ObjectVersion) → AllByRecursion FitsSmall vs → AllByRecursion IsOldVersion vs
each_small [] all = tt
each_small (v ∷ vs) all = (all.0.small, each_small vs all.1)

each_both : (vs : List ObjectVersion) → AllByRecursion FitsVersion vs → AllByRecursion IsOldVersion vs → AllByRecursion FitsSmall vs
each_both [] fits small = tt
each_both (v ∷ vs) fits small = (record { small = small.0; write = fits.0.write }, each_both vs fits.1 small.1)

-- at most 4,096 such versions, rising by object
record FitsSmalls (versions : List ObjectVersion) : Type 0 where
  few : length versions ≤ 4096
  each : AllByRecursion FitsSmall versions
  rising : IsTrue (rise (map (λ v. v.object) versions))

versions_field : IsField versions_bytes FitsSmalls versions_at
unfolding versions_at
versions_field = as_field
    (λ vs h. record { few = h.0.few; each = h.0.each; rising = h.1 })
    (λ vs h. (record { few = h.few; each = h.each }, h.rising))
    (fit_field (λ versions. rise (map (λ v. v.object) versions)) (counted_field 4096 (2 ^ 32) (lit< tt) word_field object_version_field))

pub head_field : IsField head_bytes FitsOldHead head_at
unfolding head_at
head_field = as_field
    (λ d h. record {
      fits = record {
        promise = h.0.0.0.0.0.0;
        place = h.0.0.0.0.0.1;
        operation = h.0.0.0.0.1;
        after = h.0.0.0.1;
        objects = record {
          few = (let few = h.0.0.1.few in omega arith);
          each = each_fits d.versions h.0.0.1.each;
          rising = h.0.0.1.rising;
        };
        clients = h.0.1;
        kept = h.1;
      };
      few = h.0.0.1.few;
      small = each_small d.versions h.0.0.1.each;
    })
    (λ d h. (
      (
        ((((h.fits.promise, h.fits.place), h.fits.operation), h.fits.after), record { few = h.few; each = each_both d.versions h.fits.objects.each h.small; rising = h.fits.objects.rising }),
        h.fits.clients,
      ),
      h.fits.kept,
    ))
    (fit_field (λ h. is_at_most h.stamp.epoch h.promised)
    (made_field (λ h. record { promised = h.0.0.0.0.0; stamp = h.0.0.0.0.1; last = h.0.0.0.1; mark = h.0.0.1; versions = h.0.1; sessions = h.1 })
    (λ (h : FileHead). (((((h.promised, h.stamp), h.last), h.mark), h.versions), h.sessions)) (λ a. refl) (λ b. refl)
    (both (both (both (both (both epoch_field stamp_field) op_id_field) mark_field) versions_field) sessions_field)))

-- ---- records

update_arm : IsArm record_text FitsRecord 3 old_update_at
unfolding old_update_at
update_arm = arm 3 (both file_field update_field) (λ f. kept.OldUpdate f.0 f.1) (λ a. refl) (λ a h. assumption)

stage_arm : IsArm record_text FitsRecord 4 old_stage_at
unfolding old_stage_at
stage_arm = arm 4 (both (both (both file_field word_field) stamp_field) body_field) (λ f. kept.OldStage f.0.0.0 f.0.0.1 f.0.1 f.1) (λ a. refl) (λ a h. assumption)

head_arm : IsArm record_text FitsRecord 5 old_head_at
unfolding old_head_at
head_arm = arm 5 (both file_field head_field) (λ f. kept.OldHead f.0 f.1) (λ a. refl) (λ a h. assumption)

install_arm : IsArm record_text FitsRecord 10 old_install_at
unfolding old_install_at
install_arm = arm 10 (both (both file_field location_field) head_field) (λ f. kept.OldInstall f.0.0 f.0.1 f.1) (λ a. refl) (λ a h. assumption)

choice_arm : IsArm record_text FitsRecord 11 old_choice_at
unfolding old_choice_at
choice_arm = arm 11 (both (both (both file_field location_field) head_field) node_field) (λ f. kept.OldChoice f.0.0.0 f.0.0.1 f.0.1 f.1) (λ a. refl) (λ a h. assumption)

pub old_arms_take : AreArms record_text FitsRecord old_arms
unfolding old_arms
old_arms_take = or_arm 3 update_arm (or_arm 4 stage_arm (or_arm 5 head_arm (or_arm 10 install_arm (or_arm 11 choice_arm no_more))))

-- ---- widened

-- a record of an old kind is within the limits of the kind that is written now
pub widened_fits : (rec : Record) → FitsRecord rec → FitsRecord (widened rec)
widened_fits (kept.OldUpdate file update) h = (h.0, h.1.fits)
widened_fits (kept.OldStage file object version bytes) h = (h.0, (let small = h.1 in omega arith), h.2, h.3)
widened_fits (kept.OldHead file head) h = (h.0, h.1.fits)
widened_fits (kept.OldInstall file location head) h = (h.0, h.1, h.2.fits)
widened_fits (kept.OldChoice file location head source) h = (h.0, h.1, h.2.fits, h.3)
widened_fits _ h = h
