-- Rows that rise by file: where a search finds a file's row.
use Rattle.std.proofs.Common.{◌≡◌, ℕ, zero, suc, ◌+◌, ◌<◌, ◌≤◌, true, not, cond, List, [], ◌∷◌, ◌++◌, length, get_or, take, drop, set, Result, Ok, Err, refl, ap, sym, subst, ◌∙◌, arith, add-one}
use Rattle.std.specs.List.{AllByRecursion, insert}
use Rattle.std.specs.List.Sorted.{IsBinarySearchResult, IsNonDecreasingBy, IsSortedBy}
use Rattle.std.specs.List.Sorted.{IsSearchInRange}
use Rattle.std.specs.Ordering.{is_eq, is_lt, ordering_index}
use Rattle.std.specs.declared.cmp.Ordering.TheVariants.{Less, Equal, Greater}
use Rattle.std.proofs.lemmas.List.Sorted.{searchable_from_sorted}
use Rattle.std.proofs.lemmas.List.{take_more}
use Rattle.xt_base.specs.declared.ids.FileId.{FileId}
use Rattle.xt_messages.specs.declared.record.FileRow.{FileRow}
use Rattle.xt_messages.specs.declared.record.Record.{Record}
use Rattle.xt_protocol.specs.FileIds.{is_before, file_cmp}
use Rattle.xt_protocol.specs.Folds.{row_in, with_row, without_row, new_row, row_after, fold_of, folded_after}
use Rattle.xt_protocol.proofs.Folds.{file_cmp_total, is_file-file_cmp, row_in-file, row_after-file, fold_of-push}
use Rattle.xt_protocol.proofs.FileRows.{less, back, equal_files, put_behind, put_over, put_before, read_behind, read_here, read_before}
use Rattle.replica_records.specs.RowPlaces.{FilesRise, IsFilePlace}

-- ---- rising rows

-- the file of a row comes before that of each later row
before_later : (file : FileId) (rows : List FileRow) (i : ℕ) (d : FileRow) → AllByRecursion (λ later. is_before file later.file ≡ true) rows → i < length rows
    → is_before file (get_or rows i d).file ≡ true
before_later file [] i d all lt = absurd (omega arith)
before_later file (r ∷ rows) zero d all lt = all.0
before_later file (r ∷ rows) (suc i) d all lt = before_later file rows i d all.1 (omega arith)

rising_pair : (rows : List FileRow) (i : ℕ) (d : FileRow) → FilesRise rows → suc i < length rows → is_before (get_or rows i d).file (get_or rows (suc i) d).file ≡ true
rising_pair [] i d rise lt = absurd (omega arith)
rising_pair (r ∷ rows) zero d rise lt = before_later r.file rows zero d rise.0 (omega arith)
rising_pair (r ∷ rows) (suc i) d rise lt = rising_pair rows i d rise.1 (omega arith)

sorted : (rows : List FileRow) → FilesRise rows → IsSortedBy (λ a b. is_lt (file_cmp a.file b.file)) rows
sorted rows rise k d low lt =
    let up : is_before (get_or rows k d).file (get_or rows (suc k) d).file ≡ true = rising_pair rows k d rise (omega arith) in
    let down : file_cmp (get_or rows (suc k) d).file (get_or rows k d).file ≡ Greater = back (get_or rows (suc k) d).file (get_or rows k d).file Less (less _ up) in
    rw add-one (ap is_lt down)

searchable : (rows : List FileRow) (file : FileId) → FilesRise rows → IsNonDecreasingBy (λ y. ordering_index (file_cmp y.file file)) rows
searchable rows file rise = searchable_from_sorted file_cmp_total (λ r. r.file) rows file (sorted rows rise)

-- ---- what a search finds

found_put : (rows : List FileRow) (i : ℕ) (row : FileRow) → FilesRise rows → i < length rows → ((d : FileRow) → file_cmp (get_or rows i d).file row.file ≡ Equal)
    → with_row rows row ≡ set rows i row
found_put [] i row rise lt here = absurd (omega arith)
found_put (r ∷ rows) zero row rise lt here = put_over r row rows (here r)
found_put (r ∷ rows) (suc i) row rise lt here =
    let same : (get_or rows i r).file ≡ row.file = equal_files _ _ (here r) in
    let behind : file_cmp r.file row.file ≡ Less = ap (file_cmp r.file) (sym same) ∙ less _ (before_later r.file rows i r rise.0 (omega arith)) in
    put_behind r row rows behind ∙ ap (λ t. r ∷ t) (found_put rows i row rise.1 (omega arith) here)

found_read : (rows : List FileRow) (i : ℕ) (file : FileId) (d : FileRow) → FilesRise rows → i < length rows → ((d : FileRow) → file_cmp (get_or rows i d).file file ≡ Equal)
    → row_in rows file ≡ get_or rows i d
found_read [] i file d rise lt here = absurd (omega arith)
found_read (r ∷ rows) zero file d rise lt here = read_here r rows file (here r)
found_read (r ∷ rows) (suc i) file d rise lt here =
    let same : (get_or rows i r).file ≡ file = equal_files _ _ (here r) in
    let behind : file_cmp r.file file ≡ Less = ap (file_cmp r.file) (sym same) ∙ less _ (before_later r.file rows i r rise.0 (omega arith)) in
    read_behind r rows file behind ∙ found_read rows i file d rise.1 (omega arith) here

abbrev Below : List FileRow → FileId → ℕ → Type 0
Below rows file i = (k : ℕ) (d : FileRow) → k < i → file_cmp (get_or rows k d).file file ≡ Less

abbrev Above : List FileRow → FileId → ℕ → Type 0
Above rows file i = (k : ℕ) (d : FileRow) → i ≤ k → k < length rows → file_cmp (get_or rows k d).file file ≡ Greater

missing_put : (rows : List FileRow) (i : ℕ) (row : FileRow) → i ≤ length rows → Below rows row.file i → Above rows row.file i → with_row rows row ≡ insert rows i row
unfolding with_row
missing_put [] zero row le below above = refl
missing_put [] (suc i) row le below above = absurd (omega arith)
missing_put (r ∷ rows) zero row le below above = put_before r row rows (above 0 r (omega arith) (omega arith))
missing_put (r ∷ rows) (suc i) row le below above =
    put_behind r row rows (below 0 r (omega arith))
    ∙ ap (λ t. r ∷ t) (missing_put rows i row (omega arith) (λ k d lt. below (suc k) d (omega arith)) (λ k d ge lt. above (suc k) d (omega arith) (omega arith)))

missing_read : (rows : List FileRow) (i : ℕ) (file : FileId) → i ≤ length rows → Below rows file i → Above rows file i → row_in rows file ≡ new_row file
unfolding row_in
missing_read [] i file le below above = refl
missing_read (r ∷ rows) zero file le below above =
    read_before r rows file (above 0 r (omega arith) (omega arith))
    ∙ missing_read rows zero file (omega arith) (λ k d lt. absurd (omega arith)) (λ k d ge lt. above (suc k) d (omega arith) (omega arith))
missing_read (r ∷ rows) (suc i) file le below above =
    read_behind r rows file (below 0 r (omega arith))
    ∙ missing_read rows i file (omega arith) (λ k d lt. below (suc k) d (omega arith)) (λ k d ge lt. above (suc k) d (omega arith) (omega arith))

-- ---- what is left when a file's row is removed

-- the tests that `without_row` makes at a row
module _ (r : FileRow) (rest : List FileRow) (file : FileId) where
  goes : file_cmp r.file file ≡ Equal → without_row (r ∷ rest) file ≡ without_row rest file
  unfolding without_row
  goes is = ap (λ t. cond (not t) (r ∷ without_row rest file) (without_row rest file)) (is_file-file_cmp r.file file ∙ ap is_eq is)

  stays_before : file_cmp r.file file ≡ Less → without_row (r ∷ rest) file ≡ r ∷ without_row rest file
  unfolding without_row
  stays_before is = ap (λ t. cond (not t) (r ∷ without_row rest file) (without_row rest file)) (is_file-file_cmp r.file file ∙ ap is_eq is)

  stays_behind : file_cmp r.file file ≡ Greater → without_row (r ∷ rest) file ≡ r ∷ without_row rest file
  unfolding without_row
  stays_behind is = ap (λ t. cond (not t) (r ∷ without_row rest file) (without_row rest file)) (is_file-file_cmp r.file file ∙ ap is_eq is)

all_behind : (file : FileId) (rows : List FileRow) → AllByRecursion (λ later. is_before file later.file ≡ true) rows → without_row rows file ≡ rows
unfolding without_row
all_behind file [] all = refl
all_behind file (r ∷ rows) all =
    stays_behind r rows file (back r.file file Less (less _ all.0)) ∙ ap (λ t. r ∷ t) (all_behind file rows all.1)

found_rest : (rows : List FileRow) (i : ℕ) (file : FileId) → FilesRise rows → i < length rows → ((d : FileRow) → file_cmp (get_or rows i d).file file ≡ Equal)
    → without_row rows file ≡ take i rows ++ drop (suc i) rows
found_rest [] i file rise lt here = absurd (omega arith)
found_rest (r ∷ rows) zero file rise lt here =
    let same : r.file ≡ file = equal_files _ _ (here r) in
    goes r rows file (here r) ∙ all_behind file rows (subst (λ f. AllByRecursion (λ later. is_before f later.file ≡ true) rows) same rise.0)
found_rest (r ∷ rows) (suc i) file rise lt here =
    let same : (get_or rows i r).file ≡ file = equal_files _ _ (here r) in
    let behind : file_cmp r.file file ≡ Less = ap (file_cmp r.file) (sym same) ∙ less _ (before_later r.file rows i r rise.0 (omega arith)) in
    stays_before r rows file behind ∙ ap (λ t. r ∷ t) (found_rest rows i file rise.1 (omega arith) here)

found_out : (rows : List FileRow) (i : ℕ) (file : FileId) → FilesRise rows → i < length rows → ((d : FileRow) → file_cmp (get_or rows i d).file file ≡ Equal)
    → without_row rows file ≡ take i rows ++ drop (i + 1) rows
found_out rows i file rise lt here = rw add-one (found_rest rows i file rise lt here)

missing_out : (rows : List FileRow) (i : ℕ) (file : FileId) → i ≤ length rows → Below rows file i → Above rows file i → without_row rows file ≡ rows
unfolding without_row
missing_out [] i file le below above = refl
missing_out (r ∷ rows) zero file le below above =
    stays_behind r rows file (above 0 r (omega arith) (omega arith))
    ∙ ap (λ t. r ∷ t) (missing_out rows zero file (omega arith) (λ k d lt. absurd (omega arith)) (λ k d ge lt. above (suc k) d (omega arith) (omega arith)))
missing_out (r ∷ rows) (suc i) file le below above =
    stays_before r rows file (below 0 r (omega arith))
    ∙ ap (λ t. r ∷ t) (missing_out rows i file (omega arith) (λ k d lt. below (suc k) d (omega arith)) (λ k d ge lt. above (suc k) d (omega arith) (omega arith)))

-- what the search of a list that rises answers
pub searched : (rows : List FileRow) (file : FileId) (r : Result ℕ ℕ) → FilesRise rows → IsBinarySearchResult (λ y. file_cmp y.file file) rows r
    → IsSearchInRange r (length rows) → IsFilePlace rows file r
searched rows file (Ok i) rise here bound = (
  bound,
  λ d. found_read rows i file d rise bound here,
  λ row same. found_put rows i row rise bound (λ d. ap (file_cmp (get_or rows i d).file) same ∙ here d),
  found_out rows i file rise bound here,
)
searched rows file (Err i) rise there bound =
    let parts = there (searchable rows file rise) in
    let below : Below rows file i = λ k d lt. parts.0 k d (omega arith) lt in
    let above : Above rows file i = λ k d ge lt. parts.1 k d ge lt in (
      bound,
      missing_read rows i file bound below above,
      λ row same. missing_put rows i row bound (λ k d lt. ap (file_cmp (get_or rows k d).file) same ∙ below k d lt) (λ k d ge lt. ap (file_cmp (get_or rows k d).file) same ∙ above k d ge lt),
      missing_out rows i file bound below above,
    )

-- ---- the row that stands at a place, changed

pub changed_put : (rows : List FileRow) (file : FileId) (i : ℕ) (old new : FileRow) → IsFilePlace rows file (Ok i) → old ≡ get_or rows i old → new.file ≡ old.file → with_row rows new ≡ set rows i new
changed_put rows file i old new place stood same =
    let read : row_in rows file ≡ old = place.1 old ∙ sym stood in
    place.2 new (same ∙ ap (λ (r : FileRow). r.file) (sym read) ∙ row_in-file rows file)

pub changed_after : (rows : List FileRow) (file : FileId) (rec : Record) (i : ℕ) (old new : FileRow) → IsFilePlace rows file (Ok i) → old ≡ get_or rows i old → new ≡ row_after old rec
    → set rows i new ≡ with_row rows (row_after (row_in rows file) rec)
changed_after rows file rec i old new place stood is =
    let same : new.file ≡ old.file = ap (λ (r : FileRow). r.file) is ∙ row_after-file old rec in
    let read : row_in rows file ≡ old = place.1 old ∙ sym stood in
    sym (changed_put rows file i old new place stood same) ∙ ap (with_row rows) (is ∙ ap (λ r. row_after r rec) (sym read))

-- the same, where the rows are seen as a slice and as the inside of a list
module _ (rows slice inside : List FileRow) (file : FileId) (i : ℕ) (seen : slice ≡ rows) (held : inside ≡ rows) where
  pub set_after : (rec : Record) (old new : FileRow) → IsFilePlace slice file (Ok i) → old ≡ get_or inside i old → new ≡ row_after old rec
      → set inside i new ≡ with_row rows (row_after (row_in rows file) rec)
  set_after rec old new place stood is =
      ap (λ r. set r i new) held
      ∙ changed_after rows file rec i old new (subst (λ r. IsFilePlace r file (Ok i)) seen place) (subst (λ r. old ≡ get_or r i old) held stood) is

-- ---- one more record of a list

pub fold_more : (records : List Record) (i : ℕ) (rec : Record) → i < length records → rec ≡ get_or records i rec
    → folded_after (fold_of (take i records)) rec ≡ fold_of (take (i + 1) records)
fold_more records i rec lt is =
    sym (ap fold_of (take_more records i rec lt ∙ ap (λ r. take i records ++ r ∷ []) (sym is)) ∙ fold_of-push (take i records) rec)
