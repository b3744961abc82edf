-- What records fold to rises, file by file and version by version, and goes on to where some are forgotten.
use Rattle.std.proofs.Common.{◌≡◌, ◌==◌, ◌⊎◌, inl, inr, Bool, true, false, cond, List, [], ◌∷◌, Option, Some, None, refl, sym, subst, map}
use Rattle.std.specs.Prelude.{filter}
use Rattle.std.specs.List.{fold, AllByRecursion}
use Rattle.std.specs.declared.cmp.Ordering.{Ordering}
use Rattle.std.specs.declared.cmp.Ordering.TheVariants.{Less, Equal, Greater}
use Rattle.xt_base.specs.declared.TheConstants.{NO_OBJECT}
use Rattle.xt_base.specs.declared.ids.FileId.{FileId}
use Rattle.xt_messages.specs.declared.file.ObjectVersion.{ObjectVersion}
use Rattle.xt_messages.specs.declared.record.FileRow.{FileRow}
use Rattle.xt_messages.specs.declared.record.Folded.{Folded}
use Rattle.xt_messages.specs.declared.record.KeepBody.{KeepBody}
use Rattle.xt_messages.specs.declared.record.Record.{Record}
use Rattle.xt_protocol.specs.FileIds.{is_file, is_before}
use Rattle.xt_protocol.specs.Folds.{row_in, with_row, without_row, row_after, rows_after, file_of, forgets, folded_after, nothing_kept, body_of, fold_of}
use Rattle.xt_protocol.specs.Forgetting.{is_kept, row_without}
use Rattle.xt_protocol.specs.Stamps.{with_held}
use Rattle.xt_protocol.specs.VersionOrder.{version_cmp}
use Rattle.xt_protocol.proofs.Stamps.{version_cmp_total, version-back, held-behind, held-here, held-before, held-alone}
use Rattle.xt_protocol.proofs.FileRows.{FilesRise, rise-with_row, rise-without_row, each-without_row}
use Rattle.xt_protocol.proofs.Sorts.{Change, Updated, Staged, Removed, row_by, Rests, Changes, sort_of}
use Rattle.forgetting.proofs.Rows.{Ascend}

-- ---- held versions

abbrev pub AreAbove : ObjectVersion → List ObjectVersion → Type 0
AreAbove v versions = AllByRecursion (λ (w : ObjectVersion). version_cmp v w ≡ Less) versions

above_put : (h v : ObjectVersion) (hs : List ObjectVersion) → version_cmp h v ≡ Less → AreAbove h hs → AreAbove h (with_held hs v)
above_put h v [] is all = subst (AreAbove h) (sym (held-alone v)) (is, tt)
above_put h v (x ∷ xs) is all = at (version_cmp x v) refl (above_put h v xs is all.1)
  where
    at : (o : Ordering) → version_cmp x v ≡ o → AreAbove h (with_held xs v) → AreAbove h (with_held (x ∷ xs) v)
    at Less e rest = subst (AreAbove h) (sym (held-behind x v xs e)) (all.0, rest)
    at Equal e rest = subst (AreAbove h) (sym (held-here x v xs e)) all
    at Greater e rest = subst (AreAbove h) (sym (held-before x v xs e)) (is, all)

pub above_all : (v h : ObjectVersion) (hs : List ObjectVersion) → version_cmp v h ≡ Less → AreAbove h hs → AreAbove v hs
above_all v h [] is all = tt
above_all v h (x ∷ xs) is all = (version_cmp_total.trans v h x is all.0, above_all v h xs is all.1)

pub ascend_put : (hs : List ObjectVersion) (v : ObjectVersion) → Ascend hs → Ascend (with_held hs v)
ascend_put [] v up = subst Ascend (sym (held-alone v)) (tt, tt)
ascend_put (x ∷ xs) v up = at (version_cmp x v) refl (ascend_put xs v up.1)
  where
    at : (o : Ordering) → version_cmp x v ≡ o → Ascend (with_held xs v) → Ascend (with_held (x ∷ xs) v)
    at Less e rest = subst Ascend (sym (held-behind x v xs e)) (above_put x v xs e up.0, rest)
    at Equal e rest = subst Ascend (sym (held-here x v xs e)) up
    at Greater e rest =
        let first : version_cmp v x ≡ Less = version-back x v Greater e in
        subst Ascend (sym (held-before x v xs e)) ((first, above_all v x xs first up.0), up)

left_above : (test : ObjectVersion → Bool) (v : ObjectVersion) (hs : List ObjectVersion) → AreAbove v hs → AreAbove v (filter test hs)
left_above test v [] all = tt
left_above test v (x ∷ xs) all = at (test x) (left_above test v xs all.1)
  where
    at : (b : Bool) → AreAbove v (filter test xs) → AreAbove v (cond b (x ∷ filter test xs) (filter test xs))
    at true rest = (all.0, rest)
    at false rest = rest

pub left_ascend : (test : ObjectVersion → Bool) (hs : List ObjectVersion) → Ascend hs → Ascend (filter test hs)
left_ascend test [] up = tt
left_ascend test (x ∷ xs) up = at (test x) (left_ascend test xs up.1)
  where
    at : (b : Bool) → Ascend (filter test xs) → Ascend (cond b (x ∷ filter test xs) (filter test xs))
    at true rest = (left_above test x xs up.0, rest)
    at false rest = rest

-- ---- the rows of a fold

abbrev pub RowUp : FileRow → Type 0
RowUp r = Ascend r.held

pub record RowsRise (rows : List FileRow) : Type 0 where
  pub files : FilesRise rows
  pub each : AllByRecursion RowUp rows

pub row_up : (rows : List FileRow) (file : FileId) → AllByRecursion RowUp rows → RowUp (row_in rows file)
unfolding row_in
row_up [] file all = tt
row_up (r ∷ rs) file all = at (is_file r.file file) (row_up rs file all.1)
  where
    at : (b : Bool) → RowUp (row_in rs file) → RowUp (cond b r (row_in rs file))
    at true rest = all.0
    at false rest = rest

put_up : (rows : List FileRow) (row : FileRow) → AllByRecursion RowUp rows → RowUp row → AllByRecursion RowUp (with_row rows row)
unfolding with_row
put_up [] row all is = (is, tt)
put_up (r ∷ rs) row all is = at (is_file r.file row.file) (is_before row.file r.file) (put_up rs row all.1 is)
  where
    at : (same before : Bool) → AllByRecursion RowUp (with_row rs row) → AllByRecursion RowUp (cond same (row ∷ rs) (cond before (row ∷ r ∷ rs) (r ∷ with_row rs row)))
    at true before rest = (is, all.1)
    at false true rest = (is, all)
    at false false rest = (all.0, rest)

-- whatever a record changes in a row
changed_up : (row : FileRow) (change : Change) → RowUp row → RowUp (row_by row change)
changed_up row (Updated u) up = at (u.object == NO_OBJECT)
  where
    at : (b : Bool) → Ascend (cond b row.held (with_held row.held (body_of u.object u.stamp)))
    at true = up
    at false = ascend_put row.held (body_of u.object u.stamp) up
changed_up row (Staged object version) up = ascend_put row.held (body_of object version) up
changed_up row Removed up = tt
changed_up row _ up = up

after_up : (row : FileRow) (rec : Record) → RowUp row → RowUp (row_after row rec)
after_up row rec up = at (sort_of rec)
  where
    at : Rests false rec ⊎ (Rests true rec ⊎ Changes rec) → RowUp (row_after row rec)
    at (inl rests) = subst RowUp (sym (rests.row row)) up
    at (inr (inl rests)) = subst RowUp (sym (rests.row row)) up
    at (inr (inr of)) = subst RowUp (sym (of.row row)) (changed_up row of.change up)

rise_next : (rows : List FileRow) (rec : Record) (o : Option FileId) → RowsRise rows → RowsRise (rows_after rows rec o)
rise_next rows rec None rise = rise
rise_next rows rec (Some file) rise = at (forgets rec)
  where
    at : (gone : Bool) → RowsRise (cond gone (without_row rows file) (with_row rows (row_after (row_in rows file) rec)))
    at true = record { files = rise-without_row rows file rise.files; each = each-without_row RowUp rows file rise.each }
    at false = record {
      files = rise-with_row rows (row_after (row_in rows file) rec) rise.files;
      each = put_up rows (row_after (row_in rows file) rec) rise.each (after_up (row_in rows file) rec (row_up rows file rise.each));
    }

rise_all : (records : List Record) (f : Folded) → RowsRise f.files → RowsRise (fold folded_after f records).files
rise_all [] f rise = rise
rise_all (rec ∷ recs) f rise = rise_all recs (folded_after f rec) (rise_next f.files rec (file_of rec) rise)

-- The rows of a fold rise, and so do the held versions of each.
pub folds_rise : (records : List Record) → RowsRise (fold_of records).files
unfolding fold_of
folds_rise records = rise_all records nothing_kept (record { files = tt; each = tt })

-- ---- once some are forgotten

files_without : (keep : List KeepBody) (file : FileId) (rows : List FileRow) → AllByRecursion (λ (later : FileRow). is_before file later.file ≡ true) rows
    → AllByRecursion (λ (later : FileRow). is_before file later.file ≡ true) (map (row_without keep) rows)
files_without keep file [] all = tt
files_without keep file (r ∷ rs) all = (all.0, files_without keep file rs all.1)

pub rise_without : (keep : List KeepBody) (rows : List FileRow) → FilesRise rows → FilesRise (map (row_without keep) rows)
rise_without keep [] rise = tt
rise_without keep (r ∷ rs) rise = (files_without keep r.file rs rise.0, rise_without keep rs rise.1)

pub up_without : (keep : List KeepBody) (rows : List FileRow) → AllByRecursion RowUp rows → AllByRecursion RowUp (map (row_without keep) rows)
up_without keep [] all = tt
up_without keep (r ∷ rs) all = (left_ascend (is_kept keep r.file) r.held all.0, up_without keep rs all.1)
