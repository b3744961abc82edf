-- The rewritten records keep the digests of the bodies that are kept, in their order, and no other ones.
use Rattle.std.proofs.Common.{◌≡◌, ◌==◌, ◌&&◌, ◌||◌, ℕ, Bool, true, false, cond, List, [], ◌∷◌, ◌++◌, Option, Some, None, refl, ap, sym, subst, ◌∙◌, map, append_assoc, append-nil}
use Rattle.std.specs.Prelude.{flat_map}
use Rattle.std.specs.List.{fold, AllByRecursion}
use Rattle.std.specs.Ordering.{is_eq}
use Rattle.std.specs.declared.cmp.Ordering.TheVariants.{Less}
use Rattle.std.proofs.lemmas.List.Sums.{fold-append}
use Rattle.xt_base.specs.FieldLimits.{FitsTag}
use Rattle.xt_base.specs.declared.ids.FileId.{FileId}
use Rattle.xt_base.specs.declared.ids.Stamp.{Stamp}
use Rattle.xt_messages.specs.Limits.{FitsRecord}
use Rattle.xt_messages.specs.declared.file.Location.{Location}
use Rattle.xt_messages.specs.declared.file.ObjectVersion.{ObjectVersion}
use Rattle.xt_messages.specs.declared.record.FileRow.{FileRow}
use Rattle.xt_messages.specs.declared.record.KeepBody.{KeepBody}
use Rattle.xt_messages.specs.declared.record.Record.{Record}
use Rattle.xt_messages.specs.declared.record.Record.TheVariants as kept
use Rattle.xt_protocol.specs.FileIds.{is_file}
use Rattle.xt_protocol.specs.Folds.{is_logged, logged_of, widened, fold_of, new_row, row_in, body_of, digests_after, digests_kept}
use Rattle.xt_protocol.specs.Forgetting.{view_of, close_of, seals_of, sealed_stage_of, records_of_row, records_of_rows, row_without, folded_without, rewritten}
use Rattle.xt_protocol.specs.SeenBodies.{body_by}
use Rattle.xt_protocol.specs.Stamps.{is_stamp, is_version, has_version}
use Rattle.xt_protocol.specs.VersionOrder.{version_cmp}
use Rattle.xt_protocol.proofs.Folds.{file-itself}
use Rattle.xt_protocol.proofs.Stamps.{is_version-cmp, version-equal, version-itself}
use Rattle.xt_protocol.proofs.FileRows.{FilesRise}
use Rattle.forgetting.specs.Rewritten.{KeepDigests, ForgetOtherDigests}
use Rattle.forgetting.proofs.Bodies.{false_true, regroup, sought_not}
use Rattle.forgetting.proofs.Folded.{RowUp, folds_rise, rise_without, up_without}
use Rattle.forgetting.proofs.Passing.{over_widened, rows_make}
use Rattle.forgetting.proofs.Rows.{Ascend, before_head}

-- a version isn't among those that come after it
pub above_none : (w : ObjectVersion) (ws : List ObjectVersion) → AllByRecursion (λ (x : ObjectVersion). version_cmp w x ≡ Less) ws → has_version ws w ≡ false
above_none w [] all = refl
above_none w (x ∷ xs) all = ap (λ (t : Bool). t || has_version xs w) (is_version-cmp w x ∙ ap is_eq all.0) ∙ above_none w xs all.1

module _ (body : FileId → ℕ → Stamp → List ℕ) (digests : FileId → ℕ → Stamp → List (List ℕ)) (f : FileId) (o : ℕ) (v : Stamp) where
  abbrev Sought : ObjectVersion
  Sought = body_of o v

  abbrev seal : List (List ℕ) → Record → List (List ℕ)
  seal = digests_after f o v

  -- the records that keep these digests of a version
  abbrev sealed : FileId → ObjectVersion → List (List ℕ) → List Record
  sealed file w each = map (λ digest. kept.Seal file w.object w.version digest) each

  -- the bodies with their digests
  abbrev staged : FileId → List ObjectVersion → List Record
  staged file held = flat_map (sealed_stage_of body digests file) held

  -- ---- the digests of one body

  one_more : (file : FileId) (w : ObjectVersion) (t : Bool) → (is_file file f && is_version w Sought) ≡ t → (ds : List (List ℕ)) (d : List ℕ)
      → seal ds (kept.Seal file w.object w.version d) ≡ cond t (ds ++ d ∷ []) ds
  one_more file w t is ds d =
      ap (λ (s : Bool). cond s (ds ++ d ∷ []) ds) (regroup (is_file file f) (w.object == o) (is_stamp w.version v)) ∙ ap (λ (s : Bool). cond s (ds ++ d ∷ []) ds) is

  -- those of the version that is sought are all kept, and those of another one aren't
  all_kept : (file : FileId) (w : ObjectVersion) → (is_file file f && is_version w Sought) ≡ true → (each ds : List (List ℕ)) → fold seal ds (sealed file w each) ≡ ds ++ each
  all_kept file w is [] ds = sym (append-nil ds)
  all_kept file w is (d ∷ each) ds =
      ap (λ (c : List (List ℕ)). fold seal c (sealed file w each)) (one_more file w true is ds d)
      ∙ all_kept file w is each (ds ++ d ∷ []) ∙ append_assoc ds (d ∷ []) each

  none_kept : (file : FileId) (w : ObjectVersion) → (is_file file f && is_version w Sought) ≡ false → (each ds : List (List ℕ)) → fold seal ds (sealed file w each) ≡ ds
  none_kept file w is [] ds = refl
  none_kept file w is (d ∷ each) ds =
      ap (λ (c : List (List ℕ)). fold seal c (sealed file w each)) (one_more file w false is ds d) ∙ none_kept file w is each ds

  -- ---- those of the bodies of a file

  -- after those of the first one
  first_then : (file : FileId) (w : ObjectVersion) (ws : List ObjectVersion) (ds cs : List (List ℕ)) → fold seal ds (seals_of digests file w) ≡ cs
      → fold seal ds (staged file (w ∷ ws)) ≡ fold seal cs (staged file ws)
  first_then file w ws ds cs is =
      fold-append seal ds (seals_of digests file w) (staged file ws) ∙ ap (λ (c : List (List ℕ)). fold seal c (staged file ws)) is

  -- whether a version of the file is the one that is sought
  own_is : (w : ObjectVersion) (t : Bool) → is_version w Sought ≡ t → (is_file f f && is_version w Sought) ≡ t
  own_is w t is = ap (λ (s : Bool). s && is_version w Sought) (file-itself f) ∙ is

  unheld_kept : (held : List ObjectVersion) (ds : List (List ℕ)) → has_version held Sought ≡ false → fold seal ds (staged f held) ≡ ds
  unheld_kept [] ds none = refl
  unheld_kept (w ∷ ws) ds none = at (is_version Sought w) refl none (unheld_kept ws ds)
    where
      at : (t : Bool) → is_version Sought w ≡ t → (t || has_version ws Sought) ≡ false → (has_version ws Sought ≡ false → fold seal ds (staged f ws) ≡ ds)
          → fold seal ds (staged f (w ∷ ws)) ≡ ds
      at true is none rest = false_true (sym none)
      at false is none rest =
          first_then f w ws ds ds (none_kept f w (own_is w false (sought_not body f o v w is)) (digests f w.object w.version) ds) ∙ rest none

  held_kept : (held : List ObjectVersion) (ds : List (List ℕ)) → Ascend held → has_version held Sought ≡ true → fold seal ds (staged f held) ≡ ds ++ digests f o v
  held_kept [] ds up has = false_true has
  held_kept (w ∷ ws) ds up has = at (is_version Sought w) refl has (held_kept ws ds up.1)
    where
      at : (t : Bool) → is_version Sought w ≡ t → (t || has_version ws Sought) ≡ true → (has_version ws Sought ≡ true → fold seal ds (staged f ws) ≡ ds ++ digests f o v)
          → fold seal ds (staged f (w ∷ ws)) ≡ ds ++ digests f o v
      at true is has rest =
          let same : w ≡ Sought = sym (version-equal Sought w is) in
          let own : is_version w Sought ≡ true = ap (λ (x : ObjectVersion). is_version x Sought) same ∙ version-itself Sought in
          first_then f w ws ds (ds ++ digests f w.object w.version) (all_kept f w (own_is w true own) (digests f w.object w.version) ds)
          ∙ unheld_kept ws (ds ++ digests f w.object w.version) (ap (has_version ws) (sym same) ∙ above_none w ws up.0)
          ∙ ap (λ (x : ObjectVersion). ds ++ digests f x.object x.version) same
      at false is has rest =
          first_then f w ws ds ds (none_kept f w (own_is w false (sought_not body f o v w is)) (digests f w.object w.version) ds) ∙ rest has

  -- those of another file
  others : (file : FileId) (held : List ObjectVersion) (ds : List (List ℕ)) → is_file file f ≡ false → fold seal ds (staged file held) ≡ ds
  others file [] ds other = refl
  others file (w ∷ ws) ds other =
      first_then file w ws ds ds (none_kept file w (ap (λ (s : Bool). s && is_version w Sought) other) (digests file w.object w.version) ds) ∙ others file ws ds other

  -- ---- those of a row

  -- the list and the head have none
  around : (row : FileRow) (ds : List (List ℕ)) → fold seal ds (records_of_row body digests row) ≡ fold seal ds (staged row.file row.held)
  around row ds =
      fold-append seal ds (before_head body digests row) (kept.Head row.file row.head ∷ [])
      ∙ fold-append seal ds (view_of row.file row.location ++ close_of row.file row.closed) (staged row.file row.held)
      ∙ ap (λ (c : List (List ℕ)). fold seal c (staged row.file row.held)) (at row.location row.closed)
    where
      at : (l : Option Location) (closed : Option ℕ) → fold seal ds (view_of row.file l ++ close_of row.file closed) ≡ ds
      at None None = refl
      at None (Some version) = refl
      at (Some l) None = refl
      at (Some l) (Some version) = refl

  -- those of the version that is held are there; where it isn't held, none are
  abbrev pub KeptBy : Bool → List (List ℕ) → Type 0
  KeptBy true ds = ds ≡ digests f o v
  KeptBy false ds = ds ≡ []

  abbrev IsKept : FileRow → List (List ℕ) → Type 0
  IsKept row ds = (t : Bool) → has_version row.held Sought ≡ t → KeptBy t ds

  none_there : IsKept (new_row f) []
  none_there true has = false_true has
  none_there false has = refl

  own_row : (row : FileRow) → row.file ≡ f → RowUp row → IsKept row (fold seal [] (records_of_row body digests row))
  own_row row same up true has = around row [] ∙ ap (λ (x : FileId). fold seal [] (staged x row.held)) same ∙ held_kept row.held [] up has
  own_row row same up false has = around row [] ∙ ap (λ (x : FileId). fold seal [] (staged x row.held)) same ∙ unheld_kept row.held [] has

  -- ---- those of all rows

  pub rows_kept : (rows : List FileRow) (t : Bool) → FilesRise rows → AllByRecursion RowUp rows → has_version (row_in rows f).held Sought ≡ t
      → KeptBy t (fold seal [] (records_of_rows body digests rows))
  rows_kept rows t rise each has =
      rows_make seal (records_of_row body digests) f (λ row ds other. around row ds ∙ others row.file row.held ds other) IsKept RowUp [] none_there own_row rows rise each t has

  -- requests have none
  pub one_request : (ds : List (List ℕ)) (rec : Record) → is_logged rec ≡ true → seal ds rec ≡ ds
  one_request ds (kept.Seal file object version digest) is = absurd cc
  one_request ds (kept.Forget file) is = absurd cc
  one_request ds _ is = refl

-- ---- the laws

all_digests : (keep : List KeepBody) (records : List Record) (file : FileId) (object : ℕ) (version : Stamp) (t : Bool)
    → has_version (row_in (folded_without keep (fold_of records)).files file).held (body_of object version) ≡ t
    → KeptBy (body_by records) (digests_kept records) file object version t (digests_kept (rewritten keep records) file object version)
unfolding rewritten digests_kept folded_without
all_digests keep records file object version t has =
    let rows = map (row_without keep) (fold_of records).files in
    let said = records_of_rows (body_by records) (digests_kept records) rows in
    let seal = digests_after file object version in
    let rise = folds_rise records in
    subst (KeptBy (body_by records) (digests_kept records) file object version t)
    (sym (fold-append seal [] (map widened (logged_of records)) said
    ∙ ap (λ (ds : List (List ℕ)). fold seal ds said) (over_widened seal (one_request (body_by records) (digests_kept records) file object version) records [])))
    (rows_kept (body_by records) (digests_kept records) file object version rows t (rise_without keep (fold_of records).files rise.files)
    (up_without keep (fold_of records).files rise.each) has)

pub keeps : KeepDigests
keeps keep records file object version held = all_digests keep records file object version true held

pub forgets : ForgetOtherDigests
forgets keep records file object version none = all_digests keep records file object version false none

-- ---- their limits

one_fits : (file : FileId) (object : ℕ) (version : Stamp) (ds : List (List ℕ)) (rec : Record) → AllByRecursion FitsTag ds → FitsRecord rec
    → AllByRecursion FitsTag (digests_after file object version ds rec)
one_fits file object version ds (kept.Seal f o v digest) all fits = at (is_file f file && (o == object) && is_stamp v version)
  where
    more : (cs : List (List ℕ)) → AllByRecursion FitsTag cs → AllByRecursion FitsTag (cs ++ digest ∷ [])
    more [] all = (fits.3, tt)
    more (c ∷ cs) all = (all.0, more cs all.1)

    at : (b : Bool) → AllByRecursion FitsTag (cond b (ds ++ digest ∷ []) ds)
    at true = more ds all
    at false = all
one_fits file object version ds (kept.Forget f) all fits = at (is_file f file)
  where
    at : (b : Bool) → AllByRecursion FitsTag (cond b [] ds)
    at true = tt
    at false = all
one_fits file object version ds _ all fits = all

all_fit : (file : FileId) (object : ℕ) (version : Stamp) (records : List Record) (ds : List (List ℕ)) → AllByRecursion FitsTag ds → AllByRecursion FitsRecord records
    → AllByRecursion FitsTag (fold (digests_after file object version) ds records)
all_fit file object version [] ds all fits = all
all_fit file object version (rec ∷ recs) ds all fits =
    all_fit file object version recs (digests_after file object version ds rec) (one_fits file object version ds rec all fits.0) fits.1

-- The digests that records within their limits keep are digests.
pub digests_fit : (records : List Record) → AllByRecursion FitsRecord records → (file : FileId) (object : ℕ) (version : Stamp)
    → AllByRecursion FitsTag (digests_kept records file object version)
unfolding digests_kept
digests_fit records fits file object version = all_fit file object version records [] tt fits

-- and so do the records that keep them again
pub seals_fit : (digests : FileId → ℕ → Stamp → List (List ℕ)) (file : FileId) (v : ObjectVersion)
    → ((digest : List ℕ) → FitsTag digest → FitsRecord (kept.Seal file v.object v.version digest)) → AllByRecursion FitsTag (digests file v.object v.version)
    → AllByRecursion FitsRecord (seals_of digests file v)
seals_fit digests file v one fits = at (digests file v.object v.version) fits
  where
    at : (ds : List (List ℕ)) → AllByRecursion FitsTag ds → AllByRecursion FitsRecord (map (λ digest. kept.Seal file v.object v.version digest) ds)
    at [] all = tt
    at (d ∷ ds) all = (one d all.0, at ds all.1)
