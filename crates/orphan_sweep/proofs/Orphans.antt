-- which files stay, where the orphans among some files are removed
use Rattle.std.proofs.Common.{◌≡◌, ◌<◌, ◌+◌, ◌||◌, ◌&&◌, ℕ, Bool, true, false, cond, not, List, [], ◌∷◌, ◌++◌, map, length, take, drop, get_or, Option, refl, sym, ◌∙◌, ap, append-nil}
use Rattle.std.specs.Prelude.{filter}
use Rattle.std.specs.List.{AllByRecursion, list_any}
use Rattle.std.proofs.lemmas.Bool.{or_left, or_right}
use Rattle.std.proofs.lemmas.Grind.{flat_map-append}
use Rattle.std.proofs.lemmas.List.{drop_more, take-append-drop, take_more}
use Rattle.xt_base.specs.TimeSettings.{TimeSettings}
use Rattle.xt_base.specs.declared.ids.FileId.{FileId}
use Rattle.xt_messages.specs.declared.record.FileRow.{FileRow}
use Rattle.xt_protocol.specs.FileIds.{is_file}
use Rattle.xt_protocol.proofs.Folds.{file-equal, file-itself}
use Rattle.orphan_sweep.specs.declared.fate.Fate.{Fate}
use Rattle.orphan_sweep.specs.Fates.{fate_at, fate_of, is_orphan, orphan_if, orphans_of}
use Rattle.orphan_sweep.specs.Laws.{OthersStay}
use Rattle.orphan_sweep.specs.Swept.{folded_but, is_among}

-- ---- lists

same_kept : (p q : FileRow → Bool) (rows : List FileRow) → AllByRecursion (λ (row : FileRow). p row ≡ q row) rows → filter (λ row. not (p row)) rows ≡ filter (λ row. not (q row)) rows
same_kept p q [] all = refl
same_kept p q (r ∷ rs) all =
    ap (λ (b : Bool). cond (not b) (r ∷ filter (λ row. not (p row)) rs) (filter (λ row. not (p row)) rs)) all.0
    ∙ ap (λ (l : List FileRow). cond (not (q r)) (r ∷ l) l) (same_kept p q rs all.1)

-- whether a file has one of these rows
abbrev has_row : List FileRow → FileId → Bool
has_row rows file = list_any (λ (row : FileRow). is_file file row.file) rows

have_more : (r : FileRow) (rows some : List FileRow) → AllByRecursion (λ (row : FileRow). has_row rows row.file ≡ true) some
    → AllByRecursion (λ (row : FileRow). has_row (r ∷ rows) row.file ≡ true) some
have_more r rows [] all = tt
have_more r rows (s ∷ ss) all = (or_right (is_file s.file r.file) (has_row rows s.file) all.0, have_more r rows ss all.1)

have_rows : (rows : List FileRow) → AllByRecursion (λ (row : FileRow). has_row rows row.file ≡ true) rows
have_rows [] = tt
have_rows (r ∷ rs) = (or_left (is_file r.file r.file) (has_row rs r.file) (file-itself r.file), have_more r rs rs (have_rows rs))

-- ---- orphans

module _ (files : List (FileId × Option ℕ)) (times : TimeSettings) (now : ℕ) where
  abbrev goes : FileId → Bool
  goes file = is_orphan (fate_of files times now file)

  abbrev gone : List FileRow → List FileId
  gone rows = orphans_of (map (fate_at files times now) rows)

  -- the orphans among the files of these rows are those of them that go
  are_those : (rows : List FileRow) (file : FileId) → is_among (gone rows) file ≡ (has_row rows file && goes file)
  are_those [] file = refl
  are_those (r ∷ rs) file = at (goes r.file) refl (is_file file r.file) refl (are_those rs file)
    where
      at : (o : Bool) → goes r.file ≡ o → (same : Bool) → is_file file r.file ≡ same → is_among (gone rs) file ≡ (has_row rs file && goes file)
          → is_among (cond o (r.file ∷ []) [] ++ gone rs) file ≡ ((same || has_row rs file) && goes file)
      at true is true same rest =
          ap (λ (b : Bool). b || is_among (gone rs) file) same ∙ sym (ap goes (file-equal file r.file same) ∙ is)
      at true is false other rest = ap (λ (b : Bool). b || is_among (gone rs) file) other ∙ rest
      at false is true same rest =
          let stays : goes file ≡ false = ap goes (file-equal file r.file same) ∙ is in
          rest ∙ ap (λ (b : Bool). has_row rs file && b) stays ∙ none (has_row rs file) ∙ sym stays
        where
          none : (b : Bool) → (b && false) ≡ false
          none true = refl
          none false = refl
      at false is false other rest = rest

  each_goes : (all rows : List FileRow) → AllByRecursion (λ (row : FileRow). has_row all row.file ≡ true) rows
      → AllByRecursion (λ (row : FileRow). is_among (gone all) row.file ≡ goes row.file) rows
  each_goes all [] have = tt
  each_goes all (r ∷ rs) have = (are_those all r.file ∙ ap (λ (b : Bool). b && goes r.file) have.0, each_goes all rs have.1)

-- ---- one fate after the other

module _ (fates : List (FileId × Fate)) (i : ℕ) (entry : FileId × Fate) (inside : i < length fates) (is : entry ≡ get_or fates i entry) where
  front : take (i + 1) fates ≡ take i fates ++ entry ∷ []
  front = take_more fates i entry inside ∙ ap (λ (e : FileId × Fate). take i fates ++ e ∷ []) (sym is)

  whole : fates ≡ take i fates ++ entry ∷ drop (i + 1) fates
  whole =
      sym (take-append-drop i fates)
      ∙ ap (λ (l : List (FileId × Fate)). take i fates ++ l) (drop_more fates i entry inside ∙ ap (λ (e : FileId × Fate). e ∷ drop (i + 1) fates) (sym is))

  -- the orphans with one fate more, by whether it is one's
  pub orphans_more : (goes : Bool) → is_orphan entry.1 ≡ goes → orphans_of (take (i + 1) fates) ≡ orphans_of (take i fates) ++ cond goes (entry.0 ∷ []) []
  orphans_more goes here =
      ap orphans_of front ∙ flat_map-append orphan_if (take i fates) (entry ∷ [])
      ∙ ap (λ (l : List FileId). orphans_of (take i fates) ++ l) (append-nil (orphan_if entry))
      ∙ ap (λ (b : Bool). orphans_of (take i fates) ++ cond b (entry.0 ∷ []) []) here

  -- all of them, where this one is an orphan's
  pub orphans_parted : is_orphan entry.1 ≡ true → orphans_of fates ≡ orphans_of (take i fates) ++ entry.0 ∷ orphans_of (drop (i + 1) fates)
  orphans_parted here =
      ap orphans_of whole ∙ flat_map-append orphan_if (take i fates) (entry ∷ drop (i + 1) fates)
      ∙ ap (λ (b : Bool). orphans_of (take i fates) ++ (cond b (entry.0 ∷ []) [] ++ orphans_of (drop (i + 1) fates))) here

pub others_stay : OthersStay
unfolding folded_but
others_stay folded files times now =
    ap (λ (rows : List FileRow). record folded { files = rows })
    (same_kept (λ row. is_among (gone files times now folded.files) row.file) (λ row. goes files times now row.file) folded.files
    (each_goes files times now folded.files folded.files (have_rows folded.files)))
