-- a record more, and where its body stands
use Rattle.std.proofs.Common.{◌≡◌, ◌==◌, ◌&&◌, ℕ, ◌<◌, List, [], ◌∷◌, ◌++◌, length, refl, ap, ◌∙◌, sym, Bool, true, false, not, cond, if◌then◌else◌, Option, Some, None, unwrap_or, is_some, Result, Ok, Err, OnOk, OnErr, arith}
use Rattle.std.specs.Option.{option_map}
use Rattle.std.specs.declared.cmp.Ordering.{Ordering}
use Rattle.std.specs.Ordering.{ordering_then, is_eq}
use Rattle.std.specs.BTreeMap.{get, Updates, IsEmpty}
use Rattle.std.specs.Map.{lookup}
use Rattle.std.specs.Result.{IsOk}
use Rattle.std.specs.Cmp.{tied_then, unsigned_tied}
use Rattle.std.proofs.lemmas.Bool.{and_parts, eqb-true}
use Rattle.std.proofs.lemmas.List.{get_or_append_left, length_push}
use Rattle.std.proofs.lemmas.Option.{slice_get-get_or}
use Rattle.std.proofs.Math.Seq.{get_or-append_seam}
use Rattle.xt_base.specs.declared.ids.Stamp.{Stamp}
use Rattle.xt_base.specs.declared.TheConstants.{NO_OBJECT}
use Rattle.xt_base.specs.declared.ids.FileId.{FileId}
use Rattle.xt_messages.specs.declared.file.Update.{Update}
use Rattle.xt_messages.specs.declared.record.Record.{Record}
use Rattle.xt_messages.specs.declared.record.Record.TheVariants as kept
use Rattle.xt_protocol.specs.FileIds.{is_file}
use Rattle.xt_protocol.specs.Stamps.{is_stamp}
use Rattle.xt_protocol.specs.VersionOrder.{stamp_cmp}
use Rattle.xt_protocol.proofs.Stamps.{stamp-equal}
use Rattle.xt_protocol.specs.Folds.{makes_body, body_put, body_kept, newer}
use Rattle.xt_protocol.proofs.Folds.{is_file-file_cmp, file-equal, body_kept-nothing, body_kept-push}
use Rattle.replica_records.specs.declared.places.BodyKey.{BodyKey}
use Rattle.replica_records.specs.declared.places.Places.{Places}
use Rattle.replica_records.specs.Places.{body_cmp, key_made, key_put, body_in, body_at, place_in, ArePlacesIn}

-- ---- keys

then_eq : (o p : Ordering) (a b : Bool) → is_eq o ≡ a → is_eq p ≡ b → is_eq (ordering_then o p) ≡ (a && b)
then_eq o p a b first second = sym (tied_then o p) ∙ ap (λ t. t && is_eq p) first ∙ ap (λ t. a && t) second

same_stamp : (a b : Stamp) → is_eq (stamp_cmp a b) ≡ is_stamp a b
same_stamp a b =
    then_eq _ _ _ _ (then_eq _ _ _ _ (unsigned_tied a.epoch.number b.epoch.number) (unsigned_tied a.epoch.node.0 b.epoch.node.0)) (unsigned_tied a.count b.count)

-- keys are alike where their parts are one
same_key : (a b : BodyKey) → is_eq (body_cmp a b) ≡ (is_file a.file b.file && (a.object == b.object) && is_stamp a.version b.version)
same_key a b =
    then_eq _ _ _ _ (sym (is_file-file_cmp a.file b.file)) (then_eq _ _ _ _ (unsigned_tied a.object b.object) (same_stamp a.version b.version))
    ∙ regroup (is_file a.file b.file) (a.object == b.object) (is_stamp a.version b.version)
  where
    regroup : (a b c : Bool) → (a && (b && c)) ≡ (a && b && c)
    regroup true b c = refl
    regroup false b c = refl

pub key_equal : (a b : BodyKey) → is_eq (body_cmp a b) ≡ true → a ≡ b
key_equal a b same =
    let parts = and_parts (is_file a.file b.file && (a.object == b.object)) (is_stamp a.version b.version) (sym (same_key a b) ∙ same) in
    let fronts = and_parts (is_file a.file b.file) (a.object == b.object) parts.0 in
    let files = file-equal a.file b.file fronts.0 in
    let objects = eqb-true a.object b.object fronts.1 in
    let versions = stamp-equal a.version b.version parts.1 in
    λ i. record { file = files i; object = objects i; version = versions i }

-- what a record puts for a key
abbrev pub put_for : Option BodyKey → BodyKey → List ℕ → Option (List ℕ)
put_for None q bytes = None
put_for (Some key) q bytes = if is_eq (body_cmp key q) then Some bytes else None

-- an update, and a staged body, for a key
update_put : (file : FileId) (update : Update) (q : BodyKey)
    → (if is_file file q.file && makes_body update q.object q.version then Some update.body else None)
    ≡ put_for (key_made file update) q update.body
update_put file update q = at (update.object == NO_OBJECT)
  where
    key : BodyKey
    key = record { file = file; object = update.object; version = update.stamp }

    none : (f : Bool) → (if f && false then Some update.body else None) ≡ None
    none true = refl
    none false = refl

    regrouped : (f o s : Bool) → (f && (true && o && s)) ≡ (f && o && s)
    regrouped true o s = refl
    regrouped false o s = refl

    at : (empty : Bool)
        → (if is_file file q.file && (not empty && (update.object == q.object) && is_stamp update.stamp q.version) then Some update.body else None)
        ≡ put_for (if empty then None else Some key) q update.body
    at true = none (is_file file q.file)
    at false =
        ap (λ (t : Bool). if t then Some update.body else None)
        (regrouped (is_file file q.file) (update.object == q.object) (is_stamp update.stamp q.version) ∙ sym (same_key key q))

stage_put : (file : FileId) (object : ℕ) (version : Stamp) (bytes : List ℕ) (q : BodyKey)
    → (if is_file file q.file && (object == q.object) && is_stamp version q.version then Some bytes else None)
    ≡ put_for (Some (record { file = file; object = object; version = version })) q bytes
stage_put file object version bytes q =
    ap (λ t. if t then Some bytes else None) (sym (same_key (record { file = file; object = object; version = version }) q))

pub put_is : (rec : Record) (q : BodyKey) → body_put q.file q.object q.version rec ≡ put_for (key_put rec) q (body_in rec)
put_is (kept.Update file update) q = update_put file update q
put_is (kept.OldUpdate file update) q = update_put file update q
put_is (kept.Stage file object version bytes) q = stage_put file object version bytes q
put_is (kept.OldStage file object version bytes) q = stage_put file object version bytes q
put_is _ q = refl

kept_after : (records : List Record) (rec : Record) (q : BodyKey)
    → body_kept (records ++ rec ∷ []) q.file q.object q.version ≡ newer (body_kept records q.file q.object q.version) (put_for (key_put rec) q (body_in rec))
kept_after records rec q =
    body_kept-push records rec q.file q.object q.version ∙ ap (newer (body_kept records q.file q.object q.version)) (put_is rec q)

-- ---- places

at_end : (records : List Record) (rec : Record) → body_at (records ++ rec ∷ []) (length records) ≡ body_in rec
at_end records rec =
    ap (λ r. unwrap_or (option_map body_in r) [])
    (slice_get-get_or (records ++ rec ∷ []) (length records) rec (omega (arith, length_push records rec))
    ∙ ap Some (get_or-append_seam records rec [] rec))

before_end : (records : List Record) (rec : Record) (place : ℕ) → place < length records → body_at (records ++ rec ∷ []) place ≡ body_at records place
before_end records rec place inside =
    ap (λ r. unwrap_or (option_map body_in r) [])
    (slice_get-get_or (records ++ rec ∷ []) place rec (omega (arith, length_push records rec))
    ∙ ap Some (get_or_append_left records (rec ∷ []) rec place inside)
    ∙ sym (slice_get-get_or records place rec inside))

all_before : (records : List Record) (rec : Record) (at : Option ℕ) → ((place : ℕ) → at ≡ Some place → place < length records)
    → option_map (body_at (records ++ rec ∷ [])) at ≡ option_map (body_at records) at
all_before records rec None inside = refl
all_before records rec (Some place) inside = ap Some (before_end records rec place (inside place refl))

place_if : (tied : Bool) (put : Option ℕ) (at : Option (Option ℕ)) → unwrap_or (cond tied (Some put) at) None ≡ cond tied put (unwrap_or at None)
place_if true put at = refl
place_if false put at = refl

-- a place after the others
module _ (records : List Record) (rec : Record) where
  inside_if : (tied : Bool) (at : Option ℕ) → ((place : ℕ) → at ≡ Some place → place < length records)
      → (place : ℕ) → cond tied (Some (length records)) at ≡ Some place → place < length (records ++ rec ∷ [])
  inside_if true at inside place is =
      let same : length records ≡ place = cc in
      omega (arith, length_push records rec)
  inside_if false at inside place is = omega (arith, inside place is, length_push records rec)

  found_if : (tied : Bool) (at : Option ℕ) (before : Option (List ℕ)) → ((place : ℕ) → at ≡ Some place → place < length records)
      → option_map (body_at records) at ≡ before
      → option_map (body_at (records ++ rec ∷ [])) (cond tied (Some (length records)) at) ≡ newer before (if tied then Some (body_in rec) else None)
  found_if true at before inside found = ap Some (at_end records rec)
  found_if false at before inside found = all_before records rec at inside ∙ found

  pub with_place : (old new : Places) (key : BodyKey) → key_put rec ≡ Some key → Updates body_cmp old.places new.places key (Some (Some (length records)))
      → ArePlacesIn old records → ArePlacesIn new (records ++ rec ∷ [])
  with_place old new key puts updates are = record {
    inside = λ q place is.
        inside_if (is_eq (body_cmp key q)) (place_in old q) (are.inside q) place (sym (now q) ∙ is);
    found = λ q.
        ap (option_map (body_at (records ++ rec ∷ []))) (now q)
        ∙ found_if (is_eq (body_cmp key q)) (place_in old q) _ (are.inside q) (are.found q)
        ∙ ap (λ k. newer (body_kept records q.file q.object q.version) (put_for k q (body_in rec))) (sym puts)
        ∙ sym (kept_after records rec q);
  }
    where
      now : (q : BodyKey) → place_in new q ≡ cond (is_eq (body_cmp key q)) (Some (length records)) (place_in old q)
      now q = ap (λ p. unwrap_or p None) (updates.0 q) ∙ place_if (is_eq (body_cmp key q)) (Some (length records)) (get body_cmp old.places q)

  -- a record that puts no body
  pub with_none : (places : Places) → key_put rec ≡ None → ArePlacesIn places records → ArePlacesIn places (records ++ rec ∷ [])
  with_none places puts are = record {
    inside = λ q place is. omega (arith, are.inside q place is, length_push records rec);
    found = λ q.
        all_before records rec (place_in places q) (are.inside q) ∙ are.found q
        ∙ ap (λ k. newer (body_kept records q.file q.object q.version) (put_for k q (body_in rec))) (sym puts)
        ∙ sym (kept_after records rec q);
  }

-- ---- room

no_place : (tied : Bool) (at : Option (Option ℕ)) → (tied ≡ true → at ≡ None) → unwrap_or (cond tied (Some None) at) None ≡ unwrap_or at None
no_place true at none = sym (ap (λ p. unwrap_or p None) (none refl))
no_place false at none = refl

-- room where there was no key leaves the places
pub with_room : (old new : Places) (key : BodyKey) → get body_cmp old.places key ≡ None → Updates body_cmp old.places new.places key (Some None)
    → (records : List Record) → ArePlacesIn old records → ArePlacesIn new records
with_room old new key absent updates records are = record {
  inside = λ q place is. are.inside q place (sym (now q) ∙ is);
  found = λ q. ap (option_map (body_at records)) (now q) ∙ are.found q;
}
  where
    now : (q : BodyKey) → place_in new q ≡ place_in old q
    now q =
        ap (λ p. unwrap_or p None) (updates.0 q)
        ∙ no_place (is_eq (body_cmp key q)) (get body_cmp old.places q)
        (λ tied. ap (get body_cmp old.places) (sym (key_equal key q tied)) ∙ absent)

pub places_of_none : (places : Places) → IsEmpty places.places → ArePlacesIn places []
places_of_none places empty = record {
  inside = λ q place is. absurd (let none : place_in places q ≡ None = nowhere q in cc);
  found = λ q. ap (option_map (body_at [])) (nowhere q) ∙ sym (body_kept-nothing q.file q.object q.version);
}
  where
    nowhere : (q : BodyKey) → place_in places q ≡ None
    nowhere q = ap (λ entries. unwrap_or (lookup (λ k. is_eq (body_cmp q k)) entries) None) empty

-- ---- facts from what a call answered

pub none_of : {A : Type 0} (o : Option A) → is_some o ≡ false → o ≡ None
none_of None is = refl
none_of (Some x) is = absurd (let no_way : true ≡ false = is in cc)

pub ok_of : {T E P : Type 0} (r : Result T E) → OnErr r P → (P → ⊥) → IsOk r
ok_of (Ok x) absent present = refl
ok_of (Err e) absent present = absurd (present absent)

pub at_ok : {T E Q : Type 0} (r : Result T E) → IsOk r → OnOk r Q → Q
at_ok (Ok x) is q = q
at_ok (Err e) is q = absurd (let no_way : false ≡ true = is in cc)
