-- The rewritten records put the bodies that are kept, and no other one.
use Rattle.std.proofs.Common.{◌≡◌, ◌==◌, ◌&&◌, ◌||◌, ℕ, Bool, true, false, cond, List, [], ◌∷◌, ◌++◌, Option, Some, None, refl, ap, sym, subst, ◌∙◌, map}
use Rattle.std.specs.List.{fold, AllByRecursion}
use Rattle.std.proofs.lemmas.List.Sums.{fold-append}
use Rattle.xt_base.specs.declared.ids.FileId.{FileId}
use Rattle.xt_base.specs.declared.ids.Stamp.{Stamp}
use Rattle.xt_messages.specs.declared.file.Location.{Location}
use Rattle.xt_messages.specs.declared.file.ObjectVersion.{ObjectVersion}
use Rattle.xt_messages.specs.declared.record.FileRow.{FileRow}
use Rattle.xt_messages.specs.declared.record.KeepBody.{KeepBody}
use Rattle.xt_messages.specs.declared.record.Record.{Record}
use Rattle.xt_messages.specs.declared.record.Record.TheVariants as kept
use Rattle.xt_protocol.specs.FileIds.{is_file}
use Rattle.xt_protocol.specs.Folds.{is_logged, logged_of, widened, fold_of, new_row, row_in, body_of, newer, body_after, body_kept, digests_kept}
use Rattle.xt_protocol.specs.Forgetting.{view_of, close_of, stage_of, records_of_row, records_of_rows, row_without, folded_without, rewritten}
use Rattle.xt_protocol.specs.SeenBodies.{body_by}
use Rattle.xt_protocol.specs.Stamps.{is_stamp, is_version, has_version}
use Rattle.xt_protocol.proofs.Folds.{file-itself}
use Rattle.xt_protocol.proofs.Stamps.{version-equal, version-itself}
use Rattle.xt_protocol.proofs.FileRows.{FilesRise}
use Rattle.forgetting.specs.Rewritten.{KeepBodies, ForgetOthers}
use Rattle.forgetting.proofs.Folded.{RowUp, folds_rise, rise_without, up_without}
use Rattle.forgetting.proofs.Passing.{over_widened, rows_make}
use Rattle.forgetting.proofs.Rows.{over_row, unsealed}

pub false_true : {A : Type 0} → false ≡ true → A
false_true p = absurd cc

pub regroup : (a b c : Bool) → (a && b && c) ≡ (a && (b && c))
regroup true b c = refl
regroup false b c = refl

module _ (body : FileId → ℕ → Stamp → List ℕ) (f : FileId) (o : ℕ) (v : Stamp) where
  abbrev Sought : ObjectVersion
  Sought = body_of o v

  abbrev put : Option (List ℕ) → Record → Option (List ℕ)
  put = body_after f o v

  -- ---- one body

  shown : (file : FileId) (b : Option (List ℕ)) (w : ObjectVersion)
      → put b (stage_of body file w) ≡ newer b (cond (is_file file f && is_version w Sought) (Some (body file w.object w.version)) None)
  shown file b w =
      ap (λ (t : Bool). newer b (cond t (Some (body file w.object w.version)) None)) (regroup (is_file file f) (w.object == o) (is_stamp w.version v))

  -- a body of the file: it is the one that is sought, or another one
  one_is : (b : Option (List ℕ)) (w : ObjectVersion) → w ≡ Sought → put b (stage_of body f w) ≡ Some (body f o v)
  one_is b w is =
      ap (λ (x : ObjectVersion). put b (stage_of body f x)) is ∙ shown f b Sought
      ∙ ap (λ (t : Bool). newer b (cond (t && is_version Sought Sought) (Some (body f o v)) None)) (file-itself f)
      ∙ ap (λ (t : Bool). newer b (cond t (Some (body f o v)) None)) (version-itself Sought)

  one_other : (b : Option (List ℕ)) (w : ObjectVersion) → is_version w Sought ≡ false → put b (stage_of body f w) ≡ b
  one_other b w other =
      shown f b w
      ∙ ap (λ (t : Bool). newer b (cond (t && is_version w Sought) (Some (body f w.object w.version)) None)) (file-itself f)
      ∙ ap (λ (t : Bool). newer b (cond t (Some (body f w.object w.version)) None)) other

  -- ---- those of a row of the file

  -- once it is put it stays
  stays : (held : List ObjectVersion) → fold put (Some (body f o v)) (map (stage_of body f) held) ≡ Some (body f o v)
  stays [] = refl
  stays (w ∷ ws) = at (is_version w Sought) refl (stays ws)
    where
      at : (t : Bool) → is_version w Sought ≡ t → fold put (Some (body f o v)) (map (stage_of body f) ws) ≡ Some (body f o v)
          → fold put (Some (body f o v)) (map (stage_of body f) (w ∷ ws)) ≡ Some (body f o v)
      at true is rest = ap (λ (b : Option (List ℕ)). fold put b (map (stage_of body f) ws)) (one_is (Some (body f o v)) w (version-equal w Sought is)) ∙ rest
      at false other rest = ap (λ (b : Option (List ℕ)). fold put b (map (stage_of body f) ws)) (one_other (Some (body f o v)) w other) ∙ rest

  -- the other way round
  pub sought_not : (w : ObjectVersion) → is_version Sought w ≡ false → is_version w Sought ≡ false
  sought_not w is = at (is_version w Sought) refl
    where
      at : (t : Bool) → is_version w Sought ≡ t → t ≡ false
      at true e = false_true (sym is ∙ ap (λ (x : ObjectVersion). is_version Sought x) (version-equal w Sought e) ∙ version-itself Sought)
      at false e = refl

  held_put : (held : List ObjectVersion) (b : Option (List ℕ)) → has_version held Sought ≡ true → fold put b (map (stage_of body f) held) ≡ Some (body f o v)
  held_put [] b has = false_true has
  held_put (w ∷ ws) b has = at (is_version Sought w) refl has (held_put ws (put b (stage_of body f w)))
    where
      at : (t : Bool) → is_version Sought w ≡ t → (t || has_version ws Sought) ≡ true
          → (has_version ws Sought ≡ true → fold put (put b (stage_of body f w)) (map (stage_of body f) ws) ≡ Some (body f o v))
          → fold put b (map (stage_of body f) (w ∷ ws)) ≡ Some (body f o v)
      at true is has rest = ap (λ (c : Option (List ℕ)). fold put c (map (stage_of body f) ws)) (one_is b w (sym (version-equal Sought w is))) ∙ stays ws
      at false is has rest = rest has

  unheld_put : (held : List ObjectVersion) (b : Option (List ℕ)) → has_version held Sought ≡ false → fold put b (map (stage_of body f) held) ≡ b
  unheld_put [] b none = refl
  unheld_put (w ∷ ws) b none = at (is_version Sought w) refl none (unheld_put ws b)
    where
      at : (t : Bool) → is_version Sought w ≡ t → (t || has_version ws Sought) ≡ false → (has_version ws Sought ≡ false → fold put b (map (stage_of body f) ws) ≡ b)
          → fold put b (map (stage_of body f) (w ∷ ws)) ≡ b
      at true is none rest = false_true (sym none)
      at false is none rest = ap (λ (c : Option (List ℕ)). fold put c (map (stage_of body f) ws)) (one_other b w (sought_not w is)) ∙ rest none

  -- ---- those of a row

  -- digests put none
  no_body : (b : Option (List ℕ)) (file : FileId) (object : ℕ) (version : Stamp) (digest : List ℕ) → put b (kept.Seal file object version digest) ≡ b
  no_body b file object version digest = refl

  -- and neither do the list and the head
  around : (digests : FileId → ℕ → Stamp → List (List ℕ)) (row : FileRow) (b : Option (List ℕ))
      → fold put b (records_of_row body digests row) ≡ fold put b (map (stage_of body row.file) row.held)
  around digests row b =
      over_row body digests put no_body row b
      ∙ fold-append put b (unsealed body row) (kept.Head row.file row.head ∷ [])
      ∙ fold-append put b (view_of row.file row.location ++ close_of row.file row.closed) (map (stage_of body row.file) row.held)
      ∙ ap (λ (c : Option (List ℕ)). fold put c (map (stage_of body row.file) row.held)) (at row.location row.closed)
    where
      at : (l : Option Location) (closed : Option ℕ) → fold put b (view_of row.file l ++ close_of row.file closed) ≡ b
      at None None = refl
      at None (Some version) = refl
      at (Some l) None = refl
      at (Some l) (Some version) = refl

  -- another file's put none
  others : (file : FileId) (held : List ObjectVersion) (b : Option (List ℕ)) → is_file file f ≡ false → fold put b (map (stage_of body file) held) ≡ b
  others file [] b other = refl
  others file (w ∷ ws) b other =
      ap (λ (c : Option (List ℕ)). fold put c (map (stage_of body file) ws)) (shown file b w)
      ∙ ap (λ (t : Bool). fold put (newer b (cond (t && is_version w Sought) (Some (body file w.object w.version)) None)) (map (stage_of body file) ws)) other
      ∙ others file ws b other

  -- the one that is held is put; where none is held, none is
  abbrev pub PutBy : Option (List ℕ) → Bool → Option (List ℕ) → Type 0
  PutBy b true c = c ≡ Some (body f o v)
  PutBy b false c = c ≡ b

  own_row : (row : FileRow) (b : Option (List ℕ)) (t : Bool) → row.file ≡ f → has_version row.held Sought ≡ t → PutBy b t (fold put b (map (stage_of body row.file) row.held))
  own_row row b true same has = ap (λ (x : FileId). fold put b (map (stage_of body x) row.held)) same ∙ held_put row.held b has
  own_row row b false same has = ap (λ (x : FileId). fold put b (map (stage_of body x) row.held)) same ∙ unheld_put row.held b has

  -- ---- those of all rows

  -- what is put of a row's records
  abbrev IsPut : Option (List ℕ) → FileRow → Option (List ℕ) → Type 0
  IsPut b row c = (t : Bool) → has_version row.held Sought ≡ t → PutBy b t c

  none_put : (b : Option (List ℕ)) → IsPut b (new_row f) b
  none_put b true has = false_true has
  none_put b false has = refl

  pub rows_put : (digests : FileId → ℕ → Stamp → List (List ℕ)) (rows : List FileRow) (b : Option (List ℕ)) (t : Bool) → FilesRise rows → AllByRecursion RowUp rows
      → has_version (row_in rows f).held Sought ≡ t → PutBy b t (fold put b (records_of_rows body digests rows))
  rows_put digests rows b t rise each has =
      rows_make put (records_of_row body digests) f (λ row c other. around digests row c ∙ others row.file row.held c other) (IsPut b) RowUp b (none_put b)
      (λ row same up s has. subst (PutBy b s) (sym (around digests row b)) (own_row row b s same has)) rows rise each t has

  -- requests put none
  pub one_request : (b : Option (List ℕ)) (rec : Record) → is_logged rec ≡ true → put b rec ≡ b
  one_request b (kept.Update file update) is = absurd cc
  one_request b (kept.Stage file object version bytes) is = absurd cc
  one_request b (kept.OldUpdate file update) is = absurd cc
  one_request b (kept.OldStage file object version bytes) is = absurd cc
  one_request b _ is = refl

-- ---- the laws

all_put : (keep : List KeepBody) (records : List Record) (file : FileId) (object : ℕ) (version : Stamp) (t : Bool)
    → has_version (row_in (folded_without keep (fold_of records)).files file).held (body_of object version) ≡ t
    → PutBy (body_by records) file object version None t (body_kept (rewritten keep records) file object version)
unfolding rewritten body_kept folded_without
all_put keep records file object version t has =
    let rows = map (row_without keep) (fold_of records).files in
    let said = records_of_rows (body_by records) (digests_kept records) rows in
    let put = body_after file object version in
    let rise = folds_rise records in
    subst (PutBy (body_by records) file object version None t)
    (sym (fold-append put None (map widened (logged_of records)) said
    ∙ ap (λ (b : Option (List ℕ)). fold put b said) (over_widened put (one_request (body_by records) file object version) records None)))
    (rows_put (body_by records) file object version (digests_kept records) rows None t (rise_without keep (fold_of records).files rise.files)
    (up_without keep (fold_of records).files rise.each) has)

pub keeps : KeepBodies
keeps keep records file object version held = all_put keep records file object version true held

pub forgets : ForgetOthers
forgets keep records file object version none = all_put keep records file object version false none
