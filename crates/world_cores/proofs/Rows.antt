-- what records within their limits and in their places say of files
use Rattle.std.proofs.Common.{◌≡◌, Bool, true, false, cond, List, [], ◌∷◌, Option, Some, None, refl, arith, ap, sym, ◌∙◌, subst}
use Rattle.std.specs.List.{fold, AllByRecursion}
use Rattle.std.proofs.lemmas.Bool.Decides.{nat_tests}
use Rattle.xt_messages.specs.Limits.{FitsEpoch, FitsHead, FitsRecord, is_at_most}
use Rattle.xt_base.specs.declared.ids.FileId.{FileId}
use Rattle.xt_base.specs.declared.ids.Epoch.{Epoch}
use Rattle.xt_messages.specs.declared.file.FileHead.{FileHead}
use Rattle.xt_messages.specs.declared.file.Update.{Update}
use Rattle.xt_messages.specs.declared.record.FileRow.{FileRow}
use Rattle.xt_messages.specs.declared.record.Folded.{Folded}
use Rattle.xt_messages.specs.declared.record.Record.{Record}
use Rattle.xt_messages.specs.declared.record.Record.TheVariants as kept
use Rattle.xt_protocol.specs.FileIds.{is_file, is_before}
use Rattle.xt_protocol.specs.Heads.{new_head, later_epoch, head_installed, head_after}
use Rattle.xt_protocol.specs.Folds.{row_in, with_row, without_row, new_row, row_after, file_of, forgets, rows_after, folded_after, nothing_kept, fold_of, FollowsHead, IsInPlace, AreInPlace}
use Rattle.xt_protocol.proofs.FileRows.{rise-with_row, rise-without_row, each-without_row}
use Rattle.osd_files.specs.Whole.{RowRises}
use Rattle.osd_core.specs.Slots.{AreRows}
use Rattle.world_host.specs.Cores.{MayBeKept}

new_fits : FitsHead new_head
new_fits = record {
  promise = record { place = omega arith; primary = omega arith };
  place = record { tenure = record { place = omega arith; primary = omega arith }; writes = omega arith };
  operation = record { who = omega arith; operation = omega arith };
  after = record { truncation = omega arith; bytes = omega arith };
  objects = record { few = omega arith; each = tt; rising = refl };
  clients = record { few = omega arith; each = tt; rising = refl };
  kept = refl;
}

new_rises : (file : FileId) → RowRises (new_row file)
new_rises file = record { head = new_fits; list = tt }

row_rises : (rows : List FileRow) (file : FileId) → AllByRecursion RowRises rows → RowRises (row_in rows file)
unfolding row_in
row_rises [] file all = new_rises file
row_rises (r ∷ rs) file all = at (row_rises rs file all.1) (is_file r.file file)
  where
    at : RowRises (row_in rs file) → (same : Bool) → RowRises (cond same r (row_in rs file))
    at later true = all.0
    at later false = later

with_row_rises : (rows : List FileRow) (row : FileRow) → AllByRecursion RowRises rows → RowRises row → AllByRecursion RowRises (with_row rows row)
unfolding with_row
with_row_rises [] row all is = (is, tt)
with_row_rises (r ∷ rs) row all is = at (with_row_rises rs row all.1 is) (is_file r.file row.file) (is_before row.file r.file)
  where
    at : AllByRecursion RowRises (with_row rs row) → (same before : Bool) → AllByRecursion RowRises (cond same (row ∷ rs) (cond before (row ∷ r ∷ rs) (r ∷ with_row rs row)))
    at later true before = (is, all.1)
    at later false true = (is, all)
    at later false false = (all.0, later)

at_most_again : (a b c : Epoch) → is_at_most a b ≡ true → is_at_most b c ≡ true → is_at_most a c ≡ true
at_most_again a b c one two = grind (arith, nat_tests)

-- a head that follows one in its place
update_rises : (row : FileRow) (update : Update) (folded : Folded) (f file : FileId) → row ≡ row_in folded.files file → f ≡ file → FollowsHead (row_in folded.files f).head update
    → FitsHead (head_after row.head update)
update_rises row update folded f file is here place =
    subst (λ (r : FileRow). FitsHead (head_after r.head update)) (sym (is ∙ ap (row_in folded.files) (sym here))) place.2

-- the later of two epochs
later_fits : (a b : Epoch) → FitsEpoch a → FitsEpoch b → FitsEpoch (later_epoch a b)
later_fits a b own other = at (is_at_most a b)
  where
    at : (later : Bool) → FitsEpoch (cond later b a)
    at true = other
    at false = own

later_at_least : (own other before : Epoch) → is_at_most before other ≡ true → is_at_most before (later_epoch own other) ≡ true
later_at_least own other before le = at (is_at_most own other) refl
  where
    at : (later : Bool) → is_at_most own other ≡ later → is_at_most before (cond later other own) ≡ true
    at true is = le
    at false is = grind (arith, nat_tests)

-- a head that a later list begins with
installed_fits : (own head : FileHead) → FitsHead own → FitsHead head → FitsHead (head_installed own head)
installed_fits own head before fits = record {
  promise = later_fits own.promised head.promised before.promise fits.promise;
  place = fits.place;
  operation = fits.operation;
  after = fits.after;
  objects = fits.objects;
  clients = fits.clients;
  kept = later_at_least own.promised head.promised head.stamp.epoch fits.kept;
}

record_rises : (row : FileRow) (rec : Record) (folded : Folded) (file : FileId) → row ≡ row_in folded.files file → file_of rec ≡ Some file → RowRises row → FitsRecord rec → IsInPlace folded rec → RowRises (row_after row rec)
record_rises row (kept.Promise f epoch) folded file is of_it rises fits place =
    let here : f ≡ file = cc in
    let before : is_at_most row.head.promised epoch ≡ true =
    ap (λ (r : FileRow). is_at_most r.head.promised epoch) (is_row here) ∙ place in
    record {
      list = rises.list;
      head = record {
        promise = fits.1;
        place = rises.head.place;
        operation = rises.head.operation;
        after = rises.head.after;
        objects = rises.head.objects;
        clients = rises.head.clients;
        kept = at_most_again row.head.stamp.epoch row.head.promised epoch rises.head.kept before;
      };
    }
  where
    is_row : f ≡ file → row ≡ row_in folded.files f
    is_row here = is ∙ ap (row_in folded.files) (sym here)
record_rises row (kept.Update f update) folded file is of_it rises fits place =
    let here : f ≡ file = cc in
    record { head = update_rises row update folded f file is here place; list = rises.list }
record_rises row (kept.OldUpdate f update) folded file is of_it rises fits place =
    let here : f ≡ file = cc in
    record { head = update_rises row update folded f file is here place; list = rises.list }
record_rises row (kept.Stage f object version bytes) folded file is of_it rises fits place =
    record { head = rises.head; list = rises.list }
record_rises row (kept.OldStage f object version bytes) folded file is of_it rises fits place =
    record { head = rises.head; list = rises.list }
record_rises row (kept.Close f version) folded file is of_it rises fits place =
    record { head = rises.head; list = rises.list }
record_rises row (kept.OldHead f head) folded file is of_it rises fits place =
    record { head = fits.1.fits; list = rises.list }
record_rises row (kept.Head f head) folded file is of_it rises fits place =
    record { head = fits.1; list = rises.list }
record_rises row (kept.View f location) folded file is of_it rises fits place =
    record { head = rises.head; list = fits.1.size }
record_rises row (kept.Install f location head) folded file is of_it rises fits place =
    record { head = installed_fits row.head head rises.head fits.2; list = fits.1.size }
record_rises row (kept.OldInstall f location head) folded file is of_it rises fits place =
    record { head = installed_fits row.head head rises.head fits.2.fits; list = fits.1.size }
record_rises row (kept.Forget f) folded file is of_it rises fits place = new_rises row.file
record_rises row _ folded file is of_it rises fits place = absurd (cc)

one_more : (folded : Folded) (rec : Record) → AreRows folded.files → FitsRecord rec → IsInPlace folded rec → AreRows (folded_after folded rec).files
one_more folded rec rows fits place = at (file_of rec) refl
  where
    at : (of_it : Option FileId) → file_of rec ≡ of_it → AreRows (rows_after folded.files rec of_it)
    at None is = rows
    at (Some file) is = kept_or_gone (forgets rec)
      where
        row : FileRow
        row = row_in folded.files file

        kept_or_gone : (gone : Bool) → AreRows (cond gone (without_row folded.files file) (with_row folded.files (row_after row rec)))
        kept_or_gone true = record { files = rise-without_row folded.files file rows.files; each = each-without_row RowRises folded.files file rows.each }
        kept_or_gone false =
            record {
              files = rise-with_row folded.files (row_after row rec) rows.files;
              each =
                  with_row_rises folded.files (row_after row rec) rows.each
                  (record_rises row rec folded file refl is (row_rises folded.files file rows.each) fits place);
            }

all_more : (folded : Folded) (records : List Record) → AreRows folded.files → AllByRecursion FitsRecord records → AreInPlace folded records → AreRows (fold folded_after folded records).files
all_more folded [] rows fits places = rows
all_more folded (rec ∷ recs) rows fits places = all_more (folded_after folded rec) recs (one_more folded rec rows fits.0 places.0) fits.1 places.1

-- the files of such records rise, and what is said of each is within its limits
pub rows_are : (records : List Record) → MayBeKept records → AreRows (fold_of records).files
unfolding fold_of
rows_are records fits = all_more nothing_kept records (record { files = tt; each = tt }) fits.0 fits.1
