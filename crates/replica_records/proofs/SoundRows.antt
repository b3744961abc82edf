-- what a folding knows of its rows, after a record
use Rattle.std.proofs.Common.{◌↔◌, zero, suc, Bool, true, false, cond, IsTrue, List, [], ◌∷◌, Option, Some, None, refl, subst, arith}
use Rattle.std.specs.List.{AllByRecursion, Contains}
use Rattle.xt_base.specs.declared.ids.Epoch.{Epoch}
use Rattle.xt_messages.specs.Limits.{FitsEpoch, FitsStamp, FitsOpId, FitsHead, IsObject, is_at_most}
use Rattle.xt_base.specs.declared.ids.FileId.{FileId}
use Rattle.xt_messages.specs.declared.file.FileHead.{FileHead}
use Rattle.xt_messages.specs.declared.file.Update.{Update}
use Rattle.xt_messages.specs.declared.record.FileRow.{FileRow}
use Rattle.xt_messages.specs.declared.record.Record.{Record}
use Rattle.xt_messages.specs.declared.record.Record.TheVariants as kept
use Rattle.xt_protocol.specs.FileIds.{is_file, is_before}
use Rattle.xt_protocol.specs.Folds.{row_in, with_row, without_row, new_row, row_after, file_of, forgets, rows_after}
use Rattle.xt_protocol.specs.Heads.{later_epoch, head_installed, head_after}
use Rattle.replica_records.specs.Sound.{FitsLists, FitsFold, IsSoundRow, AreSoundRows}
use Rattle.xt_protocol.proofs.FileRows.{rise-with_row, each-without_row, rise-without_row}
use Rattle.replica_records.proofs.AfterUpdate.{lists_after}

pub new_sound : (within : Bool) (file : FileId) → IsSoundRow within (new_row file)
new_sound within file ok =
    record { promise = record { place = omega arith; primary = omega arith }; objects = tt; clients = tt; rising = record { versions = refl; sessions = refl } }

-- ---- the row of a file

pub row_sound : (P : FileRow → Type 0) (rows : List FileRow) (row : FileRow) → AllByRecursion P rows → Contains rows row → P row
row_sound P [] row all (k, lt, is) = absurd (omega arith)
row_sound P (r ∷ rs) row all (zero, lt, is) = subst P is all.0
row_sound P (r ∷ rs) row all (suc k, lt, is) = row_sound P rs row all.1 (k, omega arith, is)

row_in_sound : (within : Bool) (rows : List FileRow) (file : FileId) → AllByRecursion (IsSoundRow within) rows → IsSoundRow within (row_in rows file)
unfolding row_in
row_in_sound within [] file all = new_sound within file
row_in_sound within (r ∷ rs) file all = at (row_in_sound within rs file all.1) (is_file r.file file)
  where
    at : IsSoundRow within (row_in rs file) → (same : Bool) → IsSoundRow within (cond same r (row_in rs file))
    at later true = all.0
    at later false = later

with_row_each : (P : FileRow → Type 0) (rows : List FileRow) (row : FileRow) → AllByRecursion P rows → P row → AllByRecursion P (with_row rows row)
unfolding with_row
with_row_each P [] row all is = (is, tt)
with_row_each P (r ∷ rs) row all is = at (with_row_each P rs row all.1 is) (is_file r.file row.file) (is_before row.file r.file)
  where
    at : AllByRecursion P (with_row rs row) → (same before : Bool) → AllByRecursion P (cond same (row ∷ rs) (cond before (row ∷ r ∷ rs) (r ∷ with_row rs row)))
    at later true before = (is, all.1)
    at later false true = (is, all)
    at later false false = (all.0, later)

-- ---- a record more

of_head : (head : FileHead) → FitsHead head → FitsLists head
of_head head fits = record {
  promise = fits.promise;
  objects = fits.objects.each;
  clients = fits.clients.each;
  rising = record { versions = fits.objects.rising; sessions = fits.clients.rising };
}

later_fits : (a b : Epoch) → FitsEpoch a → FitsEpoch b → FitsEpoch (later_epoch a b)
later_fits a b first second = at (is_at_most a b)
  where
    at : (most : Bool) → FitsEpoch (cond most b a)
    at true = second
    at false = first

update_sound : (row : FileRow) (update : Update) → FitsLists row.head → FitsStamp update.stamp × FitsOpId update.id × IsObject update.object
    → FitsLists (head_after row.head update)
update_sound row update sound facts = lists_after row.head update sound facts.0 facts.1 facts.2

install_sound : (row : FileRow) (head : FileHead) → FitsLists row.head → FitsLists head → FitsLists (head_installed row.head head)
install_sound row head own new = record {
  promise = later_fits row.head.promised head.promised own.promise new.promise;
  objects = new.objects;
  clients = new.clients;
  rising = record { versions = new.rising.versions; sessions = new.rising.sessions };
}

module _ (within after : Bool) (still : IsTrue after → IsTrue within) where
  weaker : (row : FileRow) → IsSoundRow within row → IsSoundRow after row
  weaker row sound ok = sound (still ok)

  each_weaker : (rows : List FileRow) → AllByRecursion (IsSoundRow within) rows → AllByRecursion (IsSoundRow after) rows
  each_weaker [] all = tt
  each_weaker (r ∷ rs) all = (weaker r all.0, each_weaker rs all.1)

  row_after_sound : (row : FileRow) (rec : Record) → IsSoundRow within row → (IsTrue after → FitsFold rec) → IsSoundRow after (row_after row rec)
  row_after_sound row (kept.Promise file epoch) sound fit ok =
      let old = sound (still ok) in
      record {
        promise = fit ok;
        objects = old.objects;
        clients = old.clients;
        rising = record { versions = old.rising.versions; sessions = old.rising.sessions };
      }
  row_after_sound row (kept.Update file update) sound fit ok = update_sound row update (sound (still ok)) (fit ok)
  row_after_sound row (kept.OldUpdate file update) sound fit ok = update_sound row update (sound (still ok)) (fit ok)
  row_after_sound row (kept.Head file head) sound fit ok = of_head head (fit ok)
  row_after_sound row (kept.OldHead file head) sound fit ok = of_head head (fit ok)
  row_after_sound row (kept.Install file location head) sound fit ok = install_sound row head (sound (still ok)) (of_head head (fit ok))
  row_after_sound row (kept.OldInstall file location head) sound fit ok = install_sound row head (sound (still ok)) (of_head head (fit ok))
  row_after_sound row (kept.Forget file) sound fit ok = new_sound after row.file ok
  row_after_sound row _ sound fit ok = sound (still ok)

  of_file : (rows : List FileRow) (rec : Record) (file : Option FileId) → AreSoundRows within rows → (IsTrue after → FitsFold rec)
      → AreSoundRows after (rows_after rows rec file)
  of_file rows rec None sound fit = record { files = sound.files; each = each_weaker rows sound.each }
  of_file rows rec (Some file) sound fit = at (forgets rec)
    where
      put : AreSoundRows after (with_row rows (row_after (row_in rows file) rec))
      put = record {
        files = rise-with_row rows (row_after (row_in rows file) rec) sound.files;
        each =
            with_row_each (IsSoundRow after) rows (row_after (row_in rows file) rec) (each_weaker rows sound.each)
            (row_after_sound (row_in rows file) rec (row_in_sound within rows file sound.each) fit);
      }

      out : AreSoundRows after (without_row rows file)
      out = record {
        files = rise-without_row rows file sound.files;
        each = each-without_row (IsSoundRow after) rows file (each_weaker rows sound.each);
      }

      at : (gone : Bool) → AreSoundRows after (cond gone (without_row rows file) (with_row rows (row_after (row_in rows file) rec)))
      at true = out
      at false = put

-- the rows after a record are sound, within the limits where all records were
pub sound_after : (within after : Bool) (rows : List FileRow) (rec : Record) → (IsTrue after ↔ (IsTrue within × FitsFold rec)) → AreSoundRows within rows
    → AreSoundRows after (rows_after rows rec (file_of rec))
sound_after within after rows rec still sound =
    of_file within after (λ ok. (still.0 ok).0) rows rec (file_of rec) sound (λ ok. (still.0 ok).1)
