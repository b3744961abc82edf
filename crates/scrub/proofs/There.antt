-- what records say is held, one of them has put
use Rattle.std.proofs.Common.{◌≡◌, ◌==◌, ◌&&◌, ◌||◌, ◌⊎◌, inl, inr, ℕ, zero, suc, Bool, true, false, not, cond, List, [], ◌∷◌, Option, Some, None, unwrap_or, refl, ap, sym, subst, ◌∙◌, map, arith}
use Rattle.std.specs.Prelude.{Contains, flat_map}
use Rattle.std.specs.List.{fold, All, AllByRecursion}
use Rattle.std.proofs.lemmas.Bool.{and_parts, and_from}
use Rattle.std.proofs.lemmas.List.Elements.{All-nil, All-cons, All-append, All-weaker}
use Rattle.xt_base.specs.declared.TheConstants.{NO_OBJECT}
use Rattle.xt_base.specs.declared.ids.FileId.{FileId}
use Rattle.xt_base.specs.declared.ids.Stamp.{Stamp}
use Rattle.xt_messages.specs.declared.file.ObjectVersion.{ObjectVersion}
use Rattle.xt_messages.specs.declared.file.Update.{Update}
use Rattle.xt_messages.specs.declared.record.FileRow.{FileRow}
use Rattle.xt_messages.specs.declared.record.Folded.{Folded}
use Rattle.xt_messages.specs.declared.record.Record.{Record}
use Rattle.xt_messages.specs.declared.record.Record.TheVariants as kept
use Rattle.xt_protocol.specs.FileIds.{is_file, is_before, file_cmp}
use Rattle.xt_protocol.specs.Folds.{row_in, row_after, rows_after, file_of, folded_after, nothing_kept, fold_of, body_of, held_after, body_put, body_after, body_kept, newer, makes_body, AreInPlace}
use Rattle.xt_protocol.specs.Stamps.{is_stamp, is_version, has_version, with_held}
use Rattle.xt_protocol.proofs.Folds.{file-equal, file-itself, row_in-rows_after}
use Rattle.xt_protocol.proofs.FileRows.{FilesRise, less, read_behind}
use Rattle.xt_protocol.proofs.Sorts.{Rests, Changes, sort_of}
use Rattle.xt_protocol.proofs.Stamps.{version-equal, version-itself, has_version-with_held}
use Rattle.forgetting.proofs.Named.{names_held}
use Rattle.forgetting.proofs.Folded.{folds_rise}
use Rattle.scrub.specs.declared.listing.Item.{Item}
use Rattle.scrub.specs.Items.{item_of, items_of_row, items_of}
use Rattle.scrub.specs.Laws.{BodiesAreThere}
use Rattle.scrub.specs.Reading.{HasBody}

-- ---- one record

abbrev IsHeld : FileRow → ObjectVersion → Type 0
IsHeld row v = has_version row.held v ≡ true

abbrev IsPut : Record → FileId → ObjectVersion → Type 0
IsPut rec file v = (body : List ℕ) × (body_put file v.object v.version rec ≡ Some body)

put_stage : (file : FileId) (object : ℕ) (version : Stamp) (bytes : List ℕ)
    → cond (is_file file file && (object == object) && is_stamp version version) (Some bytes) None ≡ Some bytes
put_stage file object version bytes =
    let parts = and_parts (object == object) (is_stamp version version) (version-itself (body_of object version)) in
    ap (λ (t : Bool). cond t (Some bytes) None)
    (and_from (is_file file file && (object == object)) (is_stamp version version) (and_from (is_file file file) (object == object) (file-itself file) parts.0) parts.1)

put_update : (file : FileId) (update : Update) → (update.object == NO_OBJECT) ≡ false
    → cond (is_file file file && makes_body update update.object update.stamp) (Some update.body) None ≡ Some update.body
put_update file update some =
    let parts = and_parts (update.object == update.object) (is_stamp update.stamp update.stamp) (version-itself (body_of update.object update.stamp)) in
    ap (λ (t : Bool). cond t (Some update.body) None)
    (and_from (is_file file file) (makes_body update update.object update.stamp) (file-itself file)
    (and_from (not (update.object == NO_OBJECT) && (update.object == update.object)) (is_stamp update.stamp update.stamp)
    (and_from (not (update.object == NO_OBJECT)) (update.object == update.object) (ap not some) parts.0) parts.1))

-- a version that is held once one more is: it is that one, or it was held
one_more : (held : List ObjectVersion) (v w : ObjectVersion) → has_version (with_held held v) w ≡ true → (w ≡ v) ⊎ (has_version held w ≡ true)
one_more held v w is = at (is_version w v) refl (sym (has_version-with_held held v w) ∙ is)
  where
    at : (b : Bool) → is_version w v ≡ b → (b || has_version held w) ≡ true → (w ≡ v) ⊎ (has_version held w ≡ true)
    at true same all = inl (version-equal w v same)
    at false other all = inr all

-- it was held before, or the record puts it, of whichever file it is
abbrev WasOrIsPut : List ObjectVersion → Record → ObjectVersion → Type 0
WasOrIsPut held rec v = (has_version held v ≡ true) ⊎ ((file : FileId) → file_of rec ≡ Some file → IsPut rec file v)

put_one : (held : List ObjectVersion) (w v : ObjectVersion) (rec : Record) (k : FileId) → file_of rec ≡ Some k → IsPut rec k w
    → has_version (with_held held w) v ≡ true → WasOrIsPut held rec v
put_one held w v rec k own put is = at (one_more held w v is)
  where
    at : (v ≡ w) ⊎ (has_version held v ≡ true) → WasOrIsPut held rec v
    at (inr was) = inl was
    at (inl new) = inr (λ file of.
        let same : k ≡ file = ap (λ (o : Option FileId). unwrap_or o k) (sym own ∙ of) in
        subst (λ (x : FileId). IsPut rec x v) same (subst (λ (x : ObjectVersion). IsPut rec k x) (sym new) put))

put_made : (held : List ObjectVersion) (update : Update) (v : ObjectVersion) (rec : Record) (k : FileId) → file_of rec ≡ Some k
    → ((update.object == NO_OBJECT) ≡ false → IsPut rec k (body_of update.object update.stamp)) → has_version (held_after held update) v ≡ true → WasOrIsPut held rec v
put_made held update v rec k own put is = at (update.object == NO_OBJECT) refl is
  where
    at : (none : Bool) → (update.object == NO_OBJECT) ≡ none → has_version (cond none held (with_held held (body_of update.object update.stamp))) v ≡ true → WasOrIsPut held rec v
    at true empty was = inl was
    at false some now = put_one held (body_of update.object update.stamp) v rec k own (put some) now

-- what a row holds after a record
row_holds : (row : FileRow) (rec : Record) (v : ObjectVersion) → IsHeld (row_after row rec) v → WasOrIsPut row.held rec v
row_holds row (kept.Update k update) v held =
    put_made row.held update v (kept.Update k update) k refl (λ some. (update.body, put_update k update some)) held
row_holds row (kept.OldUpdate k update) v held =
    put_made row.held update v (kept.OldUpdate k update) k refl (λ some. (update.body, put_update k update some)) held
row_holds row (kept.Stage k object version bytes) v held =
    put_one row.held (body_of object version) v (kept.Stage k object version bytes) k refl (bytes, put_stage k object version bytes) held
row_holds row (kept.OldStage k object version bytes) v held =
    put_one row.held (body_of object version) v (kept.OldStage k object version bytes) k refl (bytes, put_stage k object version bytes) held
row_holds row (kept.Forget k) v held = absurd (let no_way : false ≡ true = held in cc)
row_holds row _ v held = inl held

-- what is held of a file after a record
next_held : (f : Folded) (rec : Record) (file : FileId) (v : ObjectVersion) → IsHeld (row_in (folded_after f rec).files file) v
    → IsHeld (row_in f.files file) v ⊎ IsPut rec file v
next_held f rec file v held = at (sort_of rec)
  where
    of_none : file_of rec ≡ None → IsHeld (row_in f.files file) v
    of_none of = subst (λ (o : Option FileId). IsHeld (row_in (rows_after f.files rec o) file) v) of held

    at : Rests false rec ⊎ (Rests true rec ⊎ Changes rec) → IsHeld (row_in f.files file) v ⊎ IsPut rec file v
    at (inl rests) = inl (of_none rests.of)
    at (inr (inl rests)) = inl (of_none rests.of)
    at (inr (inr changes)) =
        its (is_file changes.file file) refl
        (subst (λ (row : FileRow). IsHeld row v) (row_in-rows_after f.files rec changes.file file)
        (subst (λ (o : Option FileId). IsHeld (row_in (rows_after f.files rec o) file) v) changes.of held))
      where
        put : changes.file ≡ file → WasOrIsPut (row_in f.files changes.file).held rec v → IsHeld (row_in f.files file) v ⊎ IsPut rec file v
        put same (inl was) = inl (subst (λ (x : FileId). IsHeld (row_in f.files x) v) same was)
        put same (inr puts) = inr (puts file (changes.of ∙ ap Some same))

        its : (b : Bool) → is_file changes.file file ≡ b → IsHeld (cond b (row_after (row_in f.files changes.file) rec) (row_in f.files file)) v
            → IsHeld (row_in f.files file) v ⊎ IsPut rec file v
        its true same now = put (file-equal changes.file file same) (row_holds (row_in f.files changes.file) rec v now)
        its false other now = inl now

-- ---- all records

abbrev ArePut : Folded → (FileId → ObjectVersion → Option (List ℕ)) → Type 0
ArePut f body = (file : FileId) (v : ObjectVersion) → IsHeld (row_in f.files file) v → (bytes : List ℕ) × (body file v ≡ Some bytes)

abbrev body_next : (FileId → ObjectVersion → Option (List ℕ)) → Record → FileId → ObjectVersion → Option (List ℕ)
body_next body rec file v = body_after file v.object v.version (body file v) rec

still : (before put : Option (List ℕ)) (bytes : List ℕ) → before ≡ Some bytes → (now : List ℕ) × (newer before put ≡ Some now)
still before None bytes is = (bytes, is)
still before (Some now) bytes is = (now, refl)

newly : (before put : Option (List ℕ)) (bytes : List ℕ) → put ≡ Some bytes → newer before put ≡ Some bytes
newly before put bytes is = ap (newer before) is

next_put : (f : Folded) (body : FileId → ObjectVersion → Option (List ℕ)) (rec : Record) → ArePut f body → ArePut (folded_after f rec) (body_next body rec)
next_put f body rec are file v held = at (next_held f rec file v held)
  where
    at : IsHeld (row_in f.files file) v ⊎ IsPut rec file v → (bytes : List ℕ) × (body_next body rec file v ≡ Some bytes)
    at (inl was) = still (body file v) (body_put file v.object v.version rec) (are file v was).0 (are file v was).1
    at (inr put) = (put.0, newly (body file v) (body_put file v.object v.version rec) put.0 put.1)

all_put : (records : List Record) (f : Folded) (body : FileId → ObjectVersion → Option (List ℕ)) → ArePut f body
    → (file : FileId) (v : ObjectVersion) → IsHeld (row_in (fold folded_after f records).files file) v
    → (bytes : List ℕ) × (fold (body_after file v.object v.version) (body file v) records ≡ Some bytes)
all_put [] f body are file v held = are file v held
all_put (rec ∷ recs) f body are file v held = all_put recs (folded_after f rec) (body_next body rec) (next_put f body rec are) file v held

nothing_put : ArePut nothing_kept (λ file v. None)
unfolding row_in
nothing_put file v held = absurd (let no_way : false ≡ true = held in cc)

-- What records say is held of a file, one of them has put.
pub held_is_put : (records : List Record) (file : FileId) (v : ObjectVersion) → IsHeld (row_in (fold_of records).files file) v
    → (bytes : List ℕ) × (body_kept records file v.object v.version ≡ Some bytes)
unfolding fold_of body_kept
held_is_put records file v held = all_put records nothing_kept (λ file v. None) nothing_put file v held

-- ---- items

-- rows that rise: that of its file is this one
row_there : (rows : List FileRow) → FilesRise rows → (row : FileRow) → Contains rows row → row_in rows row.file ≡ row
unfolding row_in
row_there [] rise row (k, lt, is) = absurd (omega arith)
row_there (r ∷ rs) rise row (zero, lt, is) =
    subst (λ (x : FileRow). row_in (r ∷ rs) x.file ≡ x) is (ap (λ (t : Bool). cond t r (row_in rs r.file)) (file-itself r.file))
row_there (r ∷ rs) rise row (suc k, lt, is) =
    read_behind r rs row.file (less (file_cmp r.file row.file) (before rs rise.0 (k, omega arith, is))) ∙ row_there rs rise.1 row (k, omega arith, is)
  where
    before : (rows : List FileRow) → AllByRecursion (λ later. is_before r.file later.file ≡ true) rows → Contains rows row → is_before r.file row.file ≡ true
    before [] all (k, lt, is) = absurd (omega arith)
    before (x ∷ xs) all (zero, lt, is) = subst (λ (y : FileRow). is_before r.file y.file ≡ true) is all.0
    before (x ∷ xs) all (suc k, lt, is) = before xs all.1 (k, omega arith, is)

-- what holds of each version that a head names, holds of each item
module _ (records : List Record) (P : Item → Type 0) where
  of_versions : (file : FileId) (versions : List ObjectVersion) → ((v : ObjectVersion) → Contains versions v → P (item_of records file v))
      → All P (map (item_of records file) versions)
  of_versions file [] each = All-nil P
  of_versions file (v ∷ vs) each =
      All-cons P (item_of records file v) (map (item_of records file) vs) (each v (0, omega arith, refl))
      (of_versions file vs (λ w (k, lt, is). each w (suc k, omega arith, is)))

  pub each_item : (rows : List FileRow) → ((row : FileRow) → Contains rows row → (v : ObjectVersion) → Contains row.head.versions v → P (item_of records row.file v))
      → All P (flat_map (items_of_row records) rows)
  each_item [] each = All-nil P
  each_item (r ∷ rs) each =
      All-append P (items_of_row records r) (flat_map (items_of_row records) rs) (of_versions r.file r.head.versions (each r (0, omega arith, refl)))
      (each_item rs (λ row (k, lt, is). each row (suc k, omega arith, is)))

-- the body of an item is held
abbrev pub HoldsItem : List FileRow → Item → Type 0
HoldsItem rows item = has_version (row_in rows item.file).held (body_of item.object item.version) ≡ true

pub items_are_held : (records : List Record) → AreInPlace nothing_kept records → All (HoldsItem (fold_of records).files) (items_of (fold_of records) records)
unfolding items_of
items_are_held records placed =
    each_item records (HoldsItem (fold_of records).files) (fold_of records).files
    (λ row among v named.
    let held : IsHeld row v = names_held records placed row among v named in
    let there : row_in (fold_of records).files row.file ≡ row = row_there (fold_of records).files (folds_rise records).files row among in
    subst (λ (x : FileRow). IsHeld x v) (sym there) held)

pub bodies_are_there : BodiesAreThere
bodies_are_there records placed =
    let items = items_of (fold_of records) records in
    All-weaker (HoldsItem (fold_of records).files) (HasBody records)
    (λ item held.
    let put : (bytes : List ℕ) × (body_kept records item.file item.object item.version ≡ Some bytes) =
    held_is_put records item.file (body_of item.object item.version) held
    in
    record { body = put.0; kept = put.1 }) items (items_are_held records placed)
