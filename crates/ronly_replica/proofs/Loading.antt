-- what a store's records say of its pins is within their limits
use Rattle.std.proofs.Common.{◌≡◌, ◌≢◌, List, [], ◌∷◌, length, refl, ap, subst, arith, Option, Some, None}
use Rattle.std.specs.Option.{IfSome}
use Rattle.std.specs.List.{AllByRecursion, cons_option, fold}
use Rattle.std.proofs.Math.Logic.{∥∥₁_elim}
use Rattle.std.proofs.lemmas.List.Elements.{recursion_from_All}
use Rattle.xt_base.specs.FieldLimits.{IsCount}
use Rattle.xt_base.specs.declared.ids.FileId.{FileId}
use Rattle.xt_messages.specs.declared.file.Location.{Location}
use Rattle.xt_messages.specs.declared.record.Record.{Record}
use Rattle.xt_messages.specs.declared.record.Record.TheVariants as kept
use Rattle.xt_messages.specs.declared.record.FileRow.{FileRow}
use Rattle.xt_messages.specs.declared.record.Folded.{Folded}
use Rattle.xt_messages.specs.Limits.{FitsRecord, FitsFile, FitsLocation}
use Rattle.xt_protocol.specs.FileIds.{is_file, is_before}
use Rattle.xt_protocol.specs.Folds.{row_in, with_row, without_row, row_after, rows_after, file_of, forgets, folded_after, nothing_kept, fold_of}
use Rattle.xt_protocol.proofs.FileRows.{each-without_row}
use Rattle.object_versions.proofs.HeadLimits.{either}
use Rattle.object_store.specs.Texts.{AreRecords}
use Rattle.ronly_replica.specs.declared.pin.Pin.{Pin}
use Rattle.ronly_replica.specs.Pins.{IsPinned, pinned_prop, pin_at, pins_of, last_from, last_of}
use Rattle.ronly_replica.specs.Making.{pins_in}

-- ---- rows

-- what a row says of its file's pin is within the limits
record RowFits (row : FileRow) : Type 0 where
  pub which : FitsFile row.file
  pub writes : IsCount row.head.stamp.count
  pub place : IfSome row.location FitsLocation

-- after a record of it too
row_fits : (row : FileRow) (rec : Record) → RowFits row → FitsRecord rec → RowFits (row_after row rec)
row_fits row (kept.Promise file epoch) is fits = record { which = is.which; writes = is.writes; place = is.place }
row_fits row (kept.Update file update) is fits = record { which = is.which; writes = fits.1.place.writes; place = is.place }
row_fits row (kept.Stage file object version bytes) is fits = record { which = is.which; writes = is.writes; place = is.place }
row_fits row (kept.Head file head) is fits = record { which = is.which; writes = fits.1.place.writes; place = is.place }
row_fits row (kept.View file location) is fits = record { which = is.which; writes = is.writes; place = fits.1 }
row_fits row (kept.Boot boot) is fits = is
row_fits row (kept.Meta from number now nodes request) is fits = is
row_fits row (kept.Close file version) is fits = record { which = is.which; writes = is.writes; place = is.place }
row_fits row (kept.Install file location head) is fits = record { which = is.which; writes = fits.2.place.writes; place = fits.1 }
row_fits row (kept.Choice file location head source) is fits = is
row_fits row (kept.Listed file version) is fits = is
row_fits row (kept.Seal file object version digest) is fits = is
row_fits row (kept.Forget file) is fits = record { which = is.which; writes = omega arith; place = tt }
row_fits row (kept.OldUpdate file update) is fits = record { which = is.which; writes = fits.1.fits.place.writes; place = is.place }
row_fits row (kept.OldStage file object version bytes) is fits = record { which = is.which; writes = is.writes; place = is.place }
row_fits row (kept.OldHead file head) is fits = record { which = is.which; writes = fits.1.fits.place.writes; place = is.place }
row_fits row (kept.OldInstall file location head) is fits = record { which = is.which; writes = fits.2.fits.place.writes; place = fits.1 }
row_fits row (kept.OldChoice file location head source) is fits = is

-- the file that a record is of
file_fits : (rec : Record) → FitsRecord rec → IfSome (file_of rec) FitsFile
file_fits (kept.Promise file epoch) fits = fits.0
file_fits (kept.Update file update) fits = fits.0
file_fits (kept.Stage file object version bytes) fits = fits.0
file_fits (kept.Head file head) fits = fits.0
file_fits (kept.View file location) fits = fits.0
file_fits (kept.Boot boot) fits = tt
file_fits (kept.Meta from number now nodes request) fits = tt
file_fits (kept.Close file version) fits = fits.0
file_fits (kept.Install file location head) fits = fits.0
file_fits (kept.Choice file location head source) fits = tt
file_fits (kept.Listed file version) fits = tt
file_fits (kept.Seal file object version digest) fits = tt
file_fits (kept.Forget file) fits = fits
file_fits (kept.OldUpdate file update) fits = fits.0
file_fits (kept.OldStage file object version bytes) fits = fits.0
file_fits (kept.OldHead file head) fits = fits.0
file_fits (kept.OldInstall file location head) fits = fits.0
file_fits (kept.OldChoice file location head source) fits = tt

read_row : (rows : List FileRow) (file : FileId) → FitsFile file → AllByRecursion RowFits rows → RowFits (row_in rows file)
unfolding row_in
read_row [] file which all = record { which = which; writes = omega arith; place = tt }
read_row (r ∷ rs) file which all = either RowFits (is_file r.file file) r (row_in rs file) all.0 (read_row rs file which all.1)

put_row : (rows : List FileRow) (row : FileRow) → AllByRecursion RowFits rows → RowFits row → AllByRecursion RowFits (with_row rows row)
unfolding with_row
put_row [] row all is = (is, tt)
put_row (r ∷ rs) row all is =
    either (AllByRecursion RowFits) (is_file r.file row.file) _ _ (is, all.1)
    (either (AllByRecursion RowFits) (is_before row.file r.file) (row ∷ r ∷ rs) (r ∷ with_row rs row) (is, all) (all.0, put_row rs row all.1 is))

rows_fit : (rows : List FileRow) (rec : Record) → AllByRecursion RowFits rows → FitsRecord rec → AllByRecursion RowFits (rows_after rows rec (file_of rec))
rows_fit rows rec all fits = at (file_of rec) (file_fits rec fits)
  where
    at : (o : Option FileId) → IfSome o FitsFile → AllByRecursion RowFits (rows_after rows rec o)
    at None which = all
    at (Some file) which =
        either (AllByRecursion RowFits) (forgets rec) (without_row rows file) (with_row rows (row_after (row_in rows file) rec)) (each-without_row RowFits rows file all)
        (put_row rows (row_after (row_in rows file) rec) all (row_fits (row_in rows file) rec (read_row rows file which all) fits))

all_fit : (records : List Record) (folded : Folded) → AllByRecursion RowFits folded.files → AllByRecursion FitsRecord records → AllByRecursion RowFits (fold folded_after folded records).files
all_fit [] folded all limits = all
all_fit (r ∷ rs) folded all limits = all_fit rs (folded_after folded r) (rows_fit folded.files r all limits.0) limits.1

folds_fit : (records : List Record) → AllByRecursion FitsRecord records → AllByRecursion RowFits (fold_of records).files
unfolding fold_of
folds_fit records limits = all_fit records nothing_kept tt limits

-- ---- pins

one_pinned : (row : FileRow) (o : Option Location) (rest : List Pin) → RowFits row → IfSome o FitsLocation → AllByRecursion IsPinned rest → AllByRecursion IsPinned (cons_option (pin_at row o) rest)
one_pinned row None rest fits place all = all
one_pinned row (Some location) rest fits place all =
    (record { subject = fits.which; size = place.size; writes = fits.writes }, all)

all_pinned : (rows : List FileRow) → AllByRecursion RowFits rows → AllByRecursion IsPinned (pins_of rows)
all_pinned [] fits = tt
all_pinned (r ∷ rs) fits = let row : RowFits r = fits.0 in one_pinned r r.location (pins_of rs) row row.place (all_pinned rs fits.1)

pub loaded_pinned : (records : List Record) (pin : Pin) → ∥ AreRecords records ∥₁ → pins_in records ≡ pin ∷ [] → IsPinned pin
loaded_pinned records pin sound is =
    ∥∥₁_elim sound (pinned_prop pin)
    (λ are.
    let fits = folds_fit records (recursion_from_All FitsRecord records are.fit) in
    let all : AllByRecursion IsPinned (pin ∷ []) = subst (AllByRecursion IsPinned) is (all_pinned (fold_of records).files fits) in
    all.0)

-- one pin, which is the last one
pub the_pin : (pins : List Pin) (pin : Pin) → length pins ≡ 1 → last_of pins ≡ Some pin → pins ≡ pin ∷ []
the_pin [] pin one last = absurd cc
the_pin (p ∷ []) pin one last = let same : p ≡ pin = cc in ap (λ q. q ∷ []) same
the_pin (p ∷ q ∷ ps) pin one last = absurd (omega arith)

-- no last one
last_some : (p : Pin) (pins : List Pin) → last_from (Some p) pins ≡ None → ⊥
last_some p [] none = cc
last_some p (q ∷ qs) none = last_some q qs none

pub no_pin : (pins : List Pin) → last_of pins ≡ None → length pins ≢ 1
no_pin [] none one = cc
no_pin (p ∷ ps) none one = last_some p ps none

-- none
pub no_pins : (pins : List Pin) → length pins ≡ 0 → pins ≡ []
no_pins [] none = refl
no_pins (p ∷ ps) none = absurd (omega arith)
