-- What is known of records on a disk says what they say, stands in the same places and is as long. Where the disk's contents are known, it is these
-- very records.
use Rattle.std.proofs.Common.{◌≡◌, ◌==◌, ℕ, suc, Bool, true, false, cond, List, [], ◌∷◌, ◌++◌, length, map, replicate, Option, Some, None, unwrap_or, refl, ap, sym, subst, ◌∙◌, zero, arith}
use Rattle.std.specs.Prelude.{◌<◌, filter, flat_map, slice_index}
use Rattle.std.specs.List.{fold}
use Rattle.std.specs.Option.{option_map}
use Rattle.std.specs.Ordering.{is_eq}
use Rattle.std.proofs.lemmas.List.{length-append, length-map, length-replicate, map-append}
use Rattle.std.proofs.lemmas.List.Elements.{All-push}
use Rattle.xt_base.specs.FieldLimits.{AreBytes}
use Rattle.xt_base.specs.declared.ids.FileId.{FileId}
use Rattle.xt_base.specs.declared.ids.Stamp.{Stamp}
use Rattle.xt_messages.specs.Limits.{FitsUpdate, FitsRecord}
use Rattle.xt_messages.specs.declared.file.Location.{Location}
use Rattle.xt_messages.specs.declared.file.ObjectVersion.{ObjectVersion}
use Rattle.xt_messages.specs.declared.file.Update.{Update}
use Rattle.xt_messages.specs.declared.record.FileRow.{FileRow}
use Rattle.xt_messages.specs.declared.record.Folded.{Folded}
use Rattle.xt_messages.specs.declared.record.KeepBody.{KeepBody}
use Rattle.xt_messages.specs.declared.record.Record.{Record}
use Rattle.xt_messages.specs.declared.record.Record.TheVariants as kept
use Rattle.xt_protocol.specs.Folds.{folded_after, nothing_kept, fold_of, is_logged, logged_of, widened, IsInPlace, AreInPlace, body_put, newer, body_after, body_kept, digests_after, digests_kept}
use Rattle.xt_protocol.proofs.Folds.{logged_widened}
use Rattle.xt_protocol.specs.Forgetting.{row_without, view_of, close_of, stage_of, seals_of, sealed_stage_of, records_of_row, records_of_rows, rewritten}
use Rattle.xt_protocol.specs.SeenBodies.{body_by}
use Rattle.replica_records.specs.RecordText.{record_text}
use Rattle.replica_records.specs.declared.places.BodyKey.{BodyKey}
use Rattle.replica_records.specs.Bare.{body_in, with_body}
use Rattle.replica_records.specs.Fronts.{front_text}
use Rattle.replica_records.specs.Places.{body_cmp, key_put}
use Rattle.replica_records.specs.Known.{without_body, as_known, known_of, Sees}
use Rattle.replica_records.proofs.BodyLaws.{digests_set, fold_map, folded_set, get_made, in_place_set, key_set, of_requests, put_back, requests_of, set_back, set_set}
use Rattle.replica_records.proofs.FrontText.{front_and_own, front_then_body}
use Rattle.replica_records.proofs.Placing.{put_for, put_is}

-- ---- zeros in place of bytes

abbrev zeros : List ℕ → List ℕ
zeros bytes = replicate (length bytes) 0

zeros_length : (bytes : List ℕ) → length (zeros bytes) ≡ length bytes
zeros_length bytes = length-replicate (length bytes) 0

zeros_again : (bytes : List ℕ) → zeros (zeros bytes) ≡ zeros bytes
zeros_again bytes = ap (λ n. replicate n 0) (zeros_length bytes)

-- ---- lists

pub known_told : (records : List Record) → known_of true records ≡ records
known_told [] = refl
known_told (r ∷ rs) = ap (λ l. r ∷ l) (known_told rs)

pub known_append : (told : Bool) (xs ys : List Record) → known_of told (xs ++ ys) ≡ known_of told xs ++ known_of told ys
known_append told xs ys = map-append (as_known told) xs ys

pub known_length : (told : Bool) (records : List Record) → length (known_of told records) ≡ length records
known_length told records = length-map records (as_known told)

-- as many zeros are in it
zeros_in : (rec : Record) → body_in (without_body rec) ≡ zeros (body_in rec)
zeros_in = get_made zeros refl

without_again : (rec : Record) → without_body (without_body rec) ≡ without_body rec
without_again rec =
    set_set (zeros (body_in (without_body rec))) (zeros (body_in rec)) rec
    ∙ ap (λ (b : List ℕ). with_body b rec) (ap zeros (zeros_in rec) ∙ zeros_again (body_in rec))

pub as_known_again : (told : Bool) (rec : Record) → as_known told (as_known told rec) ≡ as_known told rec
as_known_again true rec = refl
as_known_again false rec = without_again rec

pub known_again : (told : Bool) (records : List Record) → known_of told (known_of told records) ≡ known_of told records
known_again told [] = refl
known_again told (r ∷ rs) = λ i. as_known_again told r i ∷ known_again told rs i

-- ---- what they say

folded_known : (told : Bool) (folded : Folded) (rec : Record) → folded_after folded (as_known told rec) ≡ folded_after folded rec
folded_known true folded rec = refl
folded_known false folded rec = folded_set folded (zeros (body_in rec)) rec

pub fold_known : (told : Bool) (records : List Record) → fold_of (known_of told records) ≡ fold_of records
unfolding fold_of
fold_known told records = fold_map folded_after (as_known told) (folded_known told) nothing_kept records

pub logged_known : (told : Bool) (records : List Record) → logged_of (known_of told records) ≡ logged_of records
unfolding logged_of
logged_known true records = ap (filter is_logged) (known_told records)
logged_known false records = requests_of (λ rec. zeros (body_in rec)) records

-- records of requests are known in full
pub known_logged : (told : Bool) (records : List Record) → known_of told (logged_of records) ≡ logged_of records
unfolding logged_of
known_logged true records = known_told (filter is_logged records)
known_logged false records = of_requests (λ rec. zeros (body_in rec)) records

-- and so they are where they are widened
known_widened : (records : List Record) → known_of false (map widened (logged_of records)) ≡ map widened (logged_of records)
known_widened records = ap (known_of false) (sym (logged_widened records)) ∙ known_logged false (map widened records) ∙ logged_widened records

-- ---- their places and limits

pub in_place_known : (told : Bool) (folded : Folded) (rec : Record) → IsInPlace folded rec → IsInPlace folded (as_known told rec)
in_place_known true folded rec is = is
in_place_known false folded rec is = in_place_set folded (zeros (body_in rec)) rec is

pub known_in_place : (told : Bool) (folded : Folded) (rec : Record) → IsInPlace folded (as_known told rec) → IsInPlace folded rec
known_in_place true folded rec is = is
known_in_place false folded rec is = put_back (IsInPlace folded) (in_place_set folded) (zeros (body_in rec)) rec is

pub are_in_place_known : (told : Bool) (folded : Folded) (records : List Record) → AreInPlace folded records → AreInPlace folded (known_of told records)
are_in_place_known told folded [] are = tt
are_in_place_known told folded (r ∷ rs) are = (
  in_place_known told folded r are.0,
  subst (λ (f : Folded). AreInPlace f (known_of told rs)) (sym (folded_known told folded r)) (are_in_place_known told (folded_after folded r) rs are.1),
)

pub known_are_in_place : (told : Bool) (folded : Folded) (records : List Record) → AreInPlace folded (known_of told records) → AreInPlace folded records
known_are_in_place told folded [] are = tt
known_are_in_place told folded (r ∷ rs) are = (
  known_in_place told folded r are.0,
  known_are_in_place told (folded_after folded r) rs (subst (λ (f : Folded). AreInPlace f (known_of told rs)) (folded_known told folded r) are.1),
)

zero_bytes : (n i : ℕ) → slice_index (replicate n 0) i < 256
zero_bytes zero i = omega arith
zero_bytes (suc n) zero = omega arith
zero_bytes (suc n) (suc i) = zero_bytes n i

update_fits_set : (body : List ℕ) (update : Update) → AreBytes body → length body ≡ length update.body → FitsUpdate update → FitsUpdate (record update { body = body })
update_fits_set body update all size fits = record {
  place = fits.place;
  operation = fits.operation;
  after = fits.after;
  drops = fits.drops;
  gets = fits.gets;
  bytes = record { all = all; few = omega (arith, size, fits.bytes.few) };
  empty = ap (λ n. n == 0) size ∙ fits.empty;
}

-- a record fits with any bytes of the number of its own
pub fits_set : (body : List ℕ) (rec : Record) → AreBytes body → length body ≡ length (body_in rec) → FitsRecord rec → FitsRecord (with_body body rec)
fits_set body (kept.Update file update) all size fits = (fits.0, update_fits_set body update all size fits.1)
fits_set body (kept.Stage file object version bytes) all size fits = (fits.0, fits.1, fits.2, record { all = all; few = omega (arith, size, fits.3.few) })
fits_set body (kept.OldUpdate file update) all size fits =
    (fits.0, record { fits = update_fits_set body update all size fits.1.fits; drops = fits.1.drops; gets = fits.1.gets })
fits_set body (kept.OldStage file object version bytes) all size fits = (fits.0, fits.1, fits.2, record { all = all; few = omega (arith, size, fits.3.few) })
fits_set body rec all size fits = fits

fits_without : (rec : Record) → FitsRecord rec → FitsRecord (without_body rec)
fits_without rec fits = fits_set (zeros (body_in rec)) rec (zero_bytes (length (body_in rec))) (zeros_length (body_in rec)) fits

pub fits_known : (told : Bool) (rec : Record) → FitsRecord rec → FitsRecord (as_known told rec)
fits_known true rec fits = fits
fits_known false rec fits = fits_without rec fits

-- a record fits whose body's bytes are bytes, where what is known of it fits
fits_with : (rec : Record) → AreBytes (body_in rec) → FitsRecord (without_body rec) → FitsRecord rec
fits_with rec all fits =
    let size : length (body_in rec) ≡ length (body_in (without_body rec)) = sym (ap length (zeros_in rec) ∙ zeros_length (body_in rec)) in
    subst FitsRecord (set_back (zeros (body_in rec)) rec) (fits_set (body_in rec) (without_body rec) all size fits)

pub known_fits : (told : Bool) (rec : Record) → AreBytes (body_in rec) → FitsRecord (as_known told rec) → FitsRecord rec
known_fits true rec all fits = fits
known_fits false rec all fits = fits_with rec all fits

-- ---- their lengths

-- a record with its own body or another as long
pub text_set : (body : List ℕ) (rec : Record) → body_in (with_body body rec) ≡ body → length body ≡ length (body_in rec) → length (record_text (with_body body rec)) ≡ length (record_text rec)
text_set body rec puts size =
    omega (
      arith,
      ap length (front_then_body (length (body_in rec)) rec body size puts),
      length-append (front_text (length (body_in rec)) rec) body,
      ap length (front_and_own rec),
      length-append (front_text (length (body_in rec)) rec) (body_in rec),
      size,
    )

text_without : (rec : Record) → length (record_text (without_body rec)) ≡ length (record_text rec)
text_without rec = text_set (zeros (body_in rec)) rec (zeros_in rec) (zeros_length (body_in rec))

pub text_known : (told : Bool) (rec : Record) → length (record_text (as_known told rec)) ≡ length (record_text rec)
text_known true rec = refl
text_known false rec = text_without rec

-- ---- bodies

module _ (file : FileId) (object : ℕ) (version : Stamp) where
  put_zeros : (key : Option BodyKey) (q : BodyKey) (bytes : List ℕ) → put_for key q (zeros bytes) ≡ option_map zeros (put_for key q bytes)
  put_zeros None q bytes = refl
  put_zeros (Some key) q bytes = at (is_eq (body_cmp key q))
    where
      at : (tied : Bool) → cond tied (Some (zeros bytes)) None ≡ option_map zeros (cond tied (Some bytes) None)
      at true = refl
      at false = refl

  put_without : (rec : Record) → body_put file object version (without_body rec) ≡ option_map zeros (body_put file object version rec)
  put_without rec =
      let q : BodyKey = record { file = file; object = object; version = version } in
      put_is (without_body rec) q
      ∙ ap (λ (k : Option BodyKey). put_for k q (body_in (without_body rec))) (key_set (zeros (body_in rec)) rec)
      ∙ ap (put_for (key_put rec) q) (zeros_in rec)
      ∙ put_zeros (key_put rec) q (body_in rec)
      ∙ ap (option_map zeros) (sym (put_is rec q))

  newer_zeros : (before put : Option (List ℕ)) → newer (option_map zeros before) (option_map zeros put) ≡ option_map zeros (newer before put)
  newer_zeros before None = refl
  newer_zeros before (Some bytes) = refl

  kept_from : (before : Option (List ℕ)) (records : List Record)
      → fold (body_after file object version) (option_map zeros before) (known_of false records)
      ≡ option_map zeros (fold (body_after file object version) before records)
  kept_from before [] = refl
  kept_from before (r ∷ rs) =
      ap (λ b. fold (body_after file object version) b (known_of false rs))
      (ap (newer (option_map zeros before)) (put_without r) ∙ newer_zeros before (body_put file object version r))
      ∙ kept_from (body_after file object version before r) rs

  -- as many zeros are kept where the bytes aren't known
  pub body_without : (records : List Record)
      → body_kept (known_of false records) file object version ≡ option_map (λ bytes. replicate (length bytes) 0) (body_kept records file object version)
  unfolding body_kept
  body_without records = kept_from None records

  length_of_zeros : (body : Option (List ℕ)) → option_map length (option_map zeros body) ≡ option_map length body
  length_of_zeros None = refl
  length_of_zeros (Some bytes) = ap Some (zeros_length bytes)

  length_of_known : (told : Bool) (records : List Record)
      → option_map length (body_kept (known_of told records) file object version) ≡ option_map length (body_kept records file object version)
  length_of_known true records = ap (λ rs. option_map length (body_kept rs file object version)) (known_told records)
  length_of_known false records = ap (option_map length) (body_without records) ∙ length_of_zeros (body_kept records file object version)

  or_empty : (body : Option (List ℕ)) → unwrap_or (option_map zeros body) [] ≡ zeros (unwrap_or body [])
  or_empty None = refl
  or_empty (Some bytes) = refl

  body_by_without : (records : List Record) → body_by (known_of false records) file object version ≡ zeros (body_by records file object version)
  body_by_without records = ap (λ body. unwrap_or body []) (body_without records) ∙ or_empty (body_kept records file object version)

pub length_known : (told : Bool) (records : List Record) (file : FileId) (object : ℕ) (version : Stamp)
    → option_map length (body_kept (known_of told records) file object version) ≡ option_map length (body_kept records file object version)
length_known told records file object version = length_of_known file object version told records

-- ---- digests

-- they don't depend on bodies
digests_without : (records : List Record) → digests_kept (known_of false records) ≡ digests_kept records
unfolding digests_kept
digests_without records = λ i file object version.
    fold_map (digests_after file object version) (as_known false) (λ digests rec. digests_set file object version digests (zeros (body_in rec)) rec) [] records i

-- ---- other records that say what they say

view_without : (file : FileId) (location : Option Location) → known_of false (view_of file location) ≡ view_of file location
view_without file None = refl
view_without file (Some location) = refl

close_without : (file : FileId) (closed : Option ℕ) → known_of false (close_of file closed) ≡ close_of file closed
close_without file None = refl
close_without file (Some version) = refl

seals_without : (digests : FileId → ℕ → Stamp → List (List ℕ)) (file : FileId) (v : ObjectVersion) → known_of false (seals_of digests file v) ≡ seals_of digests file v
seals_without digests file v = at (digests file v.object v.version)
  where
    at : (ds : List (List ℕ))
        → known_of false (map (λ digest. kept.Seal file v.object v.version digest) ds) ≡ map (λ digest. kept.Seal file v.object v.version digest) ds
    at [] = refl
    at (d ∷ ds) = λ i. kept.Seal file v.object v.version d ∷ at ds i

module _ (records : List Record) (digests : FileId → ℕ → Stamp → List (List ℕ)) where
  -- the bodies with zeros for their bytes
  abbrev zeroed : FileId → ℕ → Stamp → List ℕ
  zeroed = body_by (known_of false records)

  stages_without : (file : FileId) (held : List ObjectVersion)
      → known_of false (flat_map (sealed_stage_of (body_by records) digests file) held) ≡ flat_map (sealed_stage_of zeroed digests file) held
  stages_without file [] = refl
  stages_without file (v ∷ vs) =
      let after = flat_map (sealed_stage_of (body_by records) digests file) vs in
      let begun : known_of false (sealed_stage_of (body_by records) digests file v ++ after) ≡ stage_of zeroed file v ∷ known_of false (seals_of digests file v) ++ known_of false after =
      λ i. kept.Stage file v.object v.version (sym (body_by_without file v.object v.version records) i) ∷ map-append without_body (seals_of digests file v) after i
      in
      begun
      ∙ ap (λ l. stage_of zeroed file v ∷ l ++ known_of false after) (seals_without digests file v)
      ∙ ap (λ l. sealed_stage_of zeroed digests file v ++ l) (stages_without file vs)

  row_without_bodies : (row : FileRow) → known_of false (records_of_row (body_by records) digests row) ≡ records_of_row zeroed digests row
  row_without_bodies row =
      let view = view_of row.file row.location in
      let close = close_of row.file row.closed in
      let stages = flat_map (sealed_stage_of (body_by records) digests row.file) row.held in
      let end = kept.Head row.file row.head ∷ [] in
      map-append without_body (view ++ close ++ stages) end
      ∙ ap (λ l. l ++ end) (map-append without_body (view ++ close) stages)
      ∙ ap (λ l. l ++ known_of false stages ++ end) (map-append without_body view close)
      ∙ ap (λ l. l ++ known_of false close ++ known_of false stages ++ end) (view_without row.file row.location)
      ∙ ap (λ l. view ++ l ++ known_of false stages ++ end) (close_without row.file row.closed)
      ∙ ap (λ l. view ++ close ++ l ++ end) (stages_without row.file row.held)

  rows_without_bodies : (rows : List FileRow)
      → known_of false (records_of_rows (body_by records) digests rows) ≡ records_of_rows zeroed digests rows
  rows_without_bodies [] = refl
  rows_without_bodies (row ∷ rows) =
      map-append without_body (records_of_row (body_by records) digests row) (records_of_rows (body_by records) digests rows)
      ∙ ap (λ l. l ++ known_of false (records_of_rows (body_by records) digests rows)) (row_without_bodies row)
      ∙ ap (λ l. records_of_row zeroed digests row ++ l) (rows_without_bodies rows)

rewritten_without : (keep : List KeepBody) (records : List Record) → known_of false (rewritten keep records) ≡ rewritten keep (known_of false records)
unfolding rewritten
rewritten_without keep records =
    let unknown = known_of false records in
    let rows = map (row_without keep) (fold_of records).files in
    let said : Folded → List Record → (FileId → ℕ → Stamp → List (List ℕ)) → List Record = λ folded logged digests.
    kept.Boot folded.boot ∷ map widened logged ++ records_of_rows (body_by unknown) digests (map (row_without keep) folded.files)
    in
    ap (λ l. kept.Boot (fold_of records).boot ∷ l)
    (map-append without_body (map widened (logged_of records)) (records_of_rows (body_by records) (digests_kept records) rows)
    ∙ ap (λ l. l ++ known_of false (records_of_rows (body_by records) (digests_kept records) rows)) (known_widened records)
    ∙ ap (λ l. map widened (logged_of records) ++ l) (rows_without_bodies records (digests_kept records) rows))
    ∙ sym (ap (λ f. said f (logged_of unknown) (digests_kept unknown)) (fold_known false records)
    ∙ ap (λ logged. said (fold_of records) logged (digests_kept unknown)) (logged_known false records)
    ∙ ap (said (fold_of records) (logged_of records)) (digests_without records))

-- the records that say the same are known as much as these
pub rewritten_known : (told : Bool) (keep : List KeepBody) (records : List Record)
    → known_of told (rewritten keep records) ≡ rewritten keep (known_of told records)
rewritten_known true keep records = known_told (rewritten keep records) ∙ ap (rewritten keep) (sym (known_told records))
rewritten_known false keep records = rewritten_without keep records

-- ---- what somebody sees of them

-- all, where the disk's contents are known
pub sees_told : (known seen : List Record) → Sees true known seen → seen ≡ known
sees_told known seen sees = sym (known_told seen) ∙ sees.same

-- a record more
pub sees_push : (told : Bool) (known seen : List Record) (rec : Record) → Sees told known seen → FitsRecord rec
    → Sees told (known ++ as_known told rec ∷ []) (seen ++ rec ∷ [])
sees_push told known seen rec sees fits = record {
  same = known_append told seen (rec ∷ []) ∙ ap (λ l. l ++ as_known told rec ∷ []) sees.same;
  fit = All-push FitsRecord seen rec sees.fit fits;
}
