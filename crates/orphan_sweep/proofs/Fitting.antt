-- the files that records speak of can be named in records
use Rattle.std.proofs.Common.{◌∙◌, Bool, true, false, cond, List, [], ◌∷◌, ◌++◌, Option, None, Some, sym, subst}
use Rattle.std.specs.List.{All, AllByRecursion, fold}
use Rattle.std.specs.Option.{IfSome}
use Rattle.std.proofs.lemmas.List.Elements.{All-from_recursion, All-map, recursion_from_All}
use Rattle.xt_base.specs.declared.ids.FileId.{FileId}
use Rattle.xt_messages.specs.Limits.{FitsFile, FitsRecord}
use Rattle.xt_messages.specs.declared.record.FileRow.{FileRow}
use Rattle.xt_messages.specs.declared.record.Folded.{Folded}
use Rattle.xt_messages.specs.declared.record.Record.{Record}
use Rattle.xt_messages.specs.declared.record.Record.TheVariants as kept
use Rattle.xt_protocol.specs.FileIds.{is_before, is_file}
use Rattle.xt_protocol.specs.Folds.{AreInPlace, file_of, fold_of, folded_after, forgets, nothing_kept, row_after, row_in, rows_after, with_row, without_row}
use Rattle.xt_protocol.proofs.FileRows.{each-without_row}
use Rattle.xt_protocol.proofs.Folds.{row_after-file, row_in-file}
use Rattle.object_store.specs.Texts.{AreRecords}
use Rattle.object_store.proofs.Reading.{are-append}
use Rattle.orphan_sweep.specs.declared.fate.Fate.{Fate}
use Rattle.orphan_sweep.specs.Fates.{FitsFate, fate_at, is_orphan, orphans_of}
use Rattle.orphan_sweep.specs.Laws.{FilesFit}
use Rattle.orphan_sweep.specs.Swept.{removals, removed}

-- a record that is within its limits names such a file
named_fits : (rec : Record) → FitsRecord rec → IfSome (file_of rec) FitsFile
named_fits (kept.Promise file epoch) fits = fits.0
named_fits (kept.Update file update) fits = fits.0
named_fits (kept.Stage file object version bytes) fits = fits.0
named_fits (kept.Head file head) fits = fits.0
named_fits (kept.View file location) fits = fits.0
named_fits (kept.Close file version) fits = fits.0
named_fits (kept.Install file location head) fits = fits.0
named_fits (kept.Forget file) fits = fits
named_fits (kept.OldUpdate file update) fits = fits.0
named_fits (kept.OldStage file object version bytes) fits = fits.0
named_fits (kept.OldHead file head) fits = fits.0
named_fits (kept.OldInstall file location head) fits = fits.0
named_fits _ fits = tt

abbrev RowFits : FileRow → Type 0
RowFits row = FitsFile row.file

put_fits : (rows : List FileRow) (row : FileRow) → AllByRecursion RowFits rows → FitsFile row.file → AllByRecursion RowFits (with_row rows row)
unfolding with_row
put_fits [] row all is = (is, tt)
put_fits (r ∷ rs) row all is = at (is_file r.file row.file) (is_before row.file r.file) (put_fits rs row all.1 is)
  where
    at : (same before : Bool) → AllByRecursion RowFits (with_row rs row)
        → AllByRecursion RowFits (cond same (row ∷ rs) (cond before (row ∷ r ∷ rs) (r ∷ with_row rs row)))
    at true before rest = (is, all.1)
    at false true rest = (is, all)
    at false false rest = (all.0, rest)

more_fits : (rows : List FileRow) (rec : Record) (o : Option FileId) → IfSome o FitsFile → AllByRecursion RowFits rows → AllByRecursion RowFits (rows_after rows rec o)
more_fits rows rec None named all = all
more_fits rows rec (Some file) named all = at (forgets rec)
  where
    at : (gone : Bool) → AllByRecursion RowFits (cond gone (without_row rows file) (with_row rows (row_after (row_in rows file) rec)))
    at true = each-without_row RowFits rows file all
    at false =
        put_fits rows (row_after (row_in rows file) rec) all
        (subst FitsFile (sym (row_after-file (row_in rows file) rec ∙ row_in-file rows file)) named)

all_fit : (records : List Record) (folded : Folded) → AllByRecursion RowFits folded.files → AllByRecursion FitsRecord records
    → AllByRecursion RowFits (fold folded_after folded records).files
all_fit [] folded all fit = all
all_fit (rec ∷ records) folded all fit =
    all_fit records (folded_after folded rec) (more_fits folded.files rec (file_of rec) (named_fits rec fit.0) all) fit.1

rows_fit : (records : List Record) → All FitsRecord records → AllByRecursion RowFits (fold_of records).files
unfolding fold_of
rows_fit records fit = all_fit records nothing_kept tt (recursion_from_All FitsRecord records fit)

pub files_fit : FilesFit
files_fit records are files times now =
    let rows = All-from_recursion RowFits (fold_of records).files (rows_fit records are.fit) in
    All-map FitsFate (fate_at files times now) (fold_of records).files rows

-- ---- records with which files are removed

orphans_fit : (fates : List (FileId × Fate)) → AllByRecursion FitsFate fates → AllByRecursion FitsFile (orphans_of fates)
orphans_fit [] all = tt
orphans_fit (f ∷ fs) all = at (is_orphan f.1) (orphans_fit fs all.1)
  where
    at : (goes : Bool) → AllByRecursion FitsFile (orphans_of fs) → AllByRecursion FitsFile (cond goes (f.0 ∷ []) [] ++ orphans_of fs)
    at true rest = (all.0, rest)
    at false rest = rest

removals_placed : (folded : Folded) (files : List FileId) → AreInPlace folded (removals files)
removals_placed folded [] = tt
removals_placed folded (file ∷ files) = (tt, removals_placed (folded_after folded (kept.Forget file)) files)

-- they are within their limits and in their places, after those that are
pub removed_are : (records : List Record) (fates : List (FileId × Fate)) → AreRecords records → All FitsFate fates → AreRecords (removed records (orphans_of fates))
removed_are records fates are fit =
    let files = All-from_recursion FitsFile (orphans_of fates) (orphans_fit fates (recursion_from_All FitsFate fates fit)) in
    are-append records (removals (orphans_of fates)) are
    (All-map FitsRecord (λ (file : FileId). kept.Forget file) (orphans_of fates) files)
    (removals_placed (fold_of records) (orphans_of fates))
