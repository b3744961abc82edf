-- Rows that rise by file: what a row that is put, or read, meets at the first of them, and that the order is kept.
use Rattle.std.proofs.Common.{◌≡◌, Bool, true, false, not, cond, List, [], ◌∷◌, refl, ap, sym, ◌∙◌, subst}
use Rattle.std.specs.List.{AllByRecursion}
use Rattle.std.specs.Ordering.{is_eq, is_lt, ordering_reverse}
use Rattle.std.specs.declared.cmp.Ordering.{Ordering}
use Rattle.std.specs.declared.cmp.Ordering.TheVariants.{Less, Equal, Greater}
use Rattle.xt_base.specs.declared.ids.FileId.{FileId}
use Rattle.xt_messages.specs.declared.record.FileRow.{FileRow}
use Rattle.xt_protocol.specs.FileIds.{is_file, is_before, file_cmp}
use Rattle.xt_protocol.specs.Folds.{row_in, with_row, without_row}
use Rattle.xt_protocol.proofs.Folds.{file-equal, is_file-file_cmp, file_cmp_total}

-- each file comes before all later ones
abbrev pub FilesRise : List FileRow → Type 0
FilesRise [] = Unit {0}
FilesRise (row ∷ rows) = AllByRecursion (λ later. is_before row.file later.file ≡ true) rows × FilesRise rows

-- ---- the order of two files

pub less : (o : Ordering) → is_lt o ≡ true → o ≡ Less
less Less h = refl
less Equal h = absurd cc
less Greater h = absurd cc

pub back : (a b : FileId) (o : Ordering) → file_cmp b a ≡ o → file_cmp a b ≡ ordering_reverse o
back a b o is = file_cmp_total.antisymm a b ∙ ap ordering_reverse is

pub equal_files : (a b : FileId) → file_cmp a b ≡ Equal → a ≡ b
equal_files a b is = file-equal a b (is_file-file_cmp a b ∙ ap is_eq is)

-- the tests that `with_row` makes at a row r for a row of file
module _ (r row : FileRow) (rest : List FileRow) where
  chosen : Bool → Bool → List FileRow
  chosen same before = cond same (row ∷ rest) (cond before (row ∷ r ∷ rest) (r ∷ with_row rest row))

  pub put_behind : file_cmp r.file row.file ≡ Less → with_row (r ∷ rest) row ≡ r ∷ with_row rest row
  unfolding with_row chosen
  put_behind is =
      ap (λ t. chosen t (is_before row.file r.file)) (is_file-file_cmp r.file row.file ∙ ap is_eq is)
      ∙ ap (chosen false) (ap is_lt (back row.file r.file Less is))

  pub put_over : file_cmp r.file row.file ≡ Equal → with_row (r ∷ rest) row ≡ row ∷ rest
  unfolding with_row chosen
  put_over is = ap (λ t. chosen t (is_before row.file r.file)) (is_file-file_cmp r.file row.file ∙ ap is_eq is)

  pub put_before : file_cmp r.file row.file ≡ Greater → with_row (r ∷ rest) row ≡ row ∷ r ∷ rest
  unfolding with_row chosen
  put_before is =
      ap (λ t. chosen t (is_before row.file r.file)) (is_file-file_cmp r.file row.file ∙ ap is_eq is)
      ∙ ap (chosen false) (ap is_lt (back row.file r.file Greater is))

module _ (r : FileRow) (rest : List FileRow) (file : FileId) where
  pub read_behind : file_cmp r.file file ≡ Less → row_in (r ∷ rest) file ≡ row_in rest file
  unfolding row_in
  read_behind is = ap (λ t. cond t r (row_in rest file)) (is_file-file_cmp r.file file ∙ ap is_eq is)

  pub read_here : file_cmp r.file file ≡ Equal → row_in (r ∷ rest) file ≡ r
  unfolding row_in
  read_here is = ap (λ t. cond t r (row_in rest file)) (is_file-file_cmp r.file file ∙ ap is_eq is)

  pub read_before : file_cmp r.file file ≡ Greater → row_in (r ∷ rest) file ≡ row_in rest file
  unfolding row_in
  read_before is = ap (λ t. cond t r (row_in rest file)) (is_file-file_cmp r.file file ∙ ap is_eq is)

-- ---- a row that is put keeps the order

still_before : (file : FileId) (rows : List FileRow) (row : FileRow) → is_before file row.file ≡ true → AllByRecursion (λ later. is_before file later.file ≡ true) rows
    → AllByRecursion (λ later. is_before file later.file ≡ true) (with_row rows row)
unfolding with_row
still_before file [] row is all = (is, tt)
still_before file (r ∷ rows) row is all = at (still_before file rows row is all.1) (is_file r.file row.file) (is_before row.file r.file)
  where
    at : AllByRecursion (λ later. is_before file later.file ≡ true) (with_row rows row) → (same before : Bool)
        → AllByRecursion (λ later. is_before file later.file ≡ true) (cond same (row ∷ rows) (cond before (row ∷ r ∷ rows) (r ∷ with_row rows row)))
    at later true before = (is, all.1)
    at later false true = (is, all)
    at later false false = (all.0, later)

all_later : (a b : FileId) (rows : List FileRow) → is_before a b ≡ true → AllByRecursion (λ later. is_before b later.file ≡ true) rows → AllByRecursion (λ later. is_before a later.file ≡ true) rows
all_later a b [] is all = tt
all_later a b (r ∷ rows) is all = (ap is_lt (file_cmp_total.trans a b r.file (less _ is) (less _ all.0)), all_later a b rows is all.1)

pub rise-with_row : (rows : List FileRow) (row : FileRow) → FilesRise rows → FilesRise (with_row rows row)
unfolding with_row
rise-with_row [] row rise = (tt, tt)
rise-with_row (r ∷ rows) row rise = at (rise-with_row rows row rise.1) (file_cmp r.file row.file) refl
  where
    at : FilesRise (with_row rows row) → (o : Ordering) → file_cmp r.file row.file ≡ o → FilesRise (with_row (r ∷ rows) row)
    at later Less is =
        subst FilesRise (sym (put_behind r row rows is)) (still_before r.file rows row (ap is_lt is) rise.0, later)
    at later Equal is =
        subst FilesRise (sym (put_over r row rows is))
        (subst (λ f. AllByRecursion (λ later. is_before f later.file ≡ true) rows) (equal_files r.file row.file is) rise.0, rise.1)
    at later Greater is =
        let first : is_before row.file r.file ≡ true = ap is_lt (back row.file r.file Greater is) in
        subst FilesRise (sym (put_before r row rows is)) ((first, all_later row.file r.file rows first rise.0), rise)

-- ---- rows that are left when some are removed

pub each-without_row : (P : FileRow → Type 0) (rows : List FileRow) (file : FileId) → AllByRecursion P rows → AllByRecursion P (without_row rows file)
unfolding without_row
each-without_row P [] file all = tt
each-without_row P (r ∷ rows) file all = at (each-without_row P rows file all.1) (not (is_file r.file file))
  where
    at : AllByRecursion P (without_row rows file) → (stays : Bool) → AllByRecursion P (cond stays (r ∷ without_row rows file) (without_row rows file))
    at later true = (all.0, later)
    at later false = later

pub rise-without_row : (rows : List FileRow) (file : FileId) → FilesRise rows → FilesRise (without_row rows file)
unfolding without_row
rise-without_row [] file rise = tt
rise-without_row (r ∷ rows) file rise = at (rise-without_row rows file rise.1) (not (is_file r.file file))
  where
    at : FilesRise (without_row rows file) → (stays : Bool) → FilesRise (cond stays (r ∷ without_row rows file) (without_row rows file))
    at later true = (each-without_row (λ x. is_before r.file x.file ≡ true) rows file rise.0, later)
    at later false = later
