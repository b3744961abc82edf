-- what a node keeps: records within the limits, each in its place, and what they say of each file and each body
use Rattle.std.proofs.Common.{◌≡◌, ◌==◌, ◌&&◌, ◌∙◌, ℕ, Bool, true, false, List, [], ◌∷◌, ◌++◌, refl, sym, ap, subst, Option, Some, None, unwrap_or}
use Rattle.std.specs.Option.{IfSome}
use Rattle.std.specs.List.{All, AllByRecursion, fold}
use Rattle.std.specs.Prelude.{cond, Contains}
use Rattle.xt_base.specs.declared.ids.Boot.{Boot}
use Rattle.xt_base.specs.declared.ids.FileId.{FileId}
use Rattle.xt_base.specs.declared.ids.Stamp.{Stamp}
use Rattle.xt_messages.specs.declared.record.FileRow.{FileRow}
use Rattle.xt_messages.specs.declared.record.Folded.{Folded}
use Rattle.xt_messages.specs.declared.record.Record.{Record}
use Rattle.xt_messages.specs.declared.record.Record.TheVariants as kept
use Rattle.xt_base.specs.FieldLimits.{FitsBytes}
use Rattle.xt_messages.specs.Limits.{FitsBoot, FitsFile, FitsRecord, is_at_most}
use Rattle.xt_protocol.specs.FileIds.{is_file, is_before}
use Rattle.xt_protocol.specs.Folds.{row_in, row_after, with_row, without_row, rows_after, file_of, forgets, folded_after, nothing_kept, fold_of, FollowsHead, IsInPlace, AreInPlace, makes_body, body_put, newer, body_after, body_kept}
use Rattle.xt_protocol.specs.SeenBodies.{body_by}
use Rattle.xt_protocol.specs.Stamps.{is_stamp}
use Rattle.xt_protocol.proofs.FileRows.{each-without_row}
use Rattle.xt_protocol.proofs.Folds.{fold_of-push, row_in-file}
use Rattle.object_versions.proofs.HeadLimits.{either}
use Rattle.world_limits.specs.Fits.{FitsNext, FitsKept}
use Rattle.world_limits.proofs.Lists.{all_append}
use Rattle.world_limits.specs.States.{RowIs, RecordIs, PlacedOn, AreBodies, KeptIs}
use Rattle.world_limits.proofs.Replica.{new_row_is, row_is}
use Rattle.world_limits.proofs.Updates.{no_bytes}

-- a record more: it is of a file, and in its place on the file's row
abbrev pub NextOf : List Record → Option Record → Type 0
NextOf records rec = IfSome rec (λ r. (file : FileId) × RecordIs (row_in (fold_of records).files file) r)

-- ---- places

both : (P : FileId → Type 0) (a b : FileId) → Some a ≡ Some b → (P a → P b) × (P b → P a)
both P a b e = (let same : a ≡ b = cc in (subst P same, subst P (sym same)))

-- a record of a file is in its place after others where it is so on the row that they say of the file
same_place : (folded : Folded) (file : FileId) (rec : Record) → file_of rec ≡ Some file
    → (IsInPlace folded rec → PlacedOn (row_in folded.files file) rec) × (PlacedOn (row_in folded.files file) rec → IsInPlace folded rec)
same_place folded file (kept.Promise f epoch) own = both (λ (g : FileId). is_at_most (row_in folded.files g).head.promised epoch ≡ true) f file own
same_place folded file (kept.Update f update) own = both (λ (g : FileId). FollowsHead (row_in folded.files g).head update) f file own
same_place folded file (kept.OldUpdate f update) own = both (λ (g : FileId). FollowsHead (row_in folded.files g).head update) f file own
same_place folded file (kept.Head f head) own = both (λ (g : FileId). All (Contains (row_in folded.files g).held) head.versions) f file own
same_place folded file (kept.OldHead f head) own = both (λ (g : FileId). All (Contains (row_in folded.files g).held) head.versions) f file own
same_place folded file (kept.Install f location head) own = both (λ (g : FileId). All (Contains (row_in folded.files g).held) head.versions) f file own
same_place folded file (kept.OldInstall f location head) own = both (λ (g : FileId). All (Contains (row_in folded.files g).held) head.versions) f file own
same_place folded file _ own = (λ place. tt, λ place. tt)

place_is : (folded : Folded) (row : FileRow) (rec : Record) → row_in folded.files row.file ≡ row → RecordIs row rec → IsInPlace folded rec
place_is folded row rec said is = (same_place folded row.file rec is.own).1 (subst (λ (r : FileRow). PlacedOn r rec) (sym said) is.place)

row_again : (rows : List FileRow) (file : FileId) → row_in rows (row_in rows file).file ≡ row_in rows file
row_again rows file = ap (row_in rows) (row_in-file rows file)

pub next_is : (records : List Record) (rec : Option Record) → NextOf records rec → FitsNext records rec
next_is records None next = tt
next_is records (Some rec) next = (next.1.limits, place_is (fold_of records) (row_in (fold_of records).files next.0) rec (row_again (fold_of records).files next.0) next.1)

places_push : (folded : Folded) (records : List Record) (rec : Record) → AreInPlace folded records → IsInPlace (fold folded_after folded records) rec → AreInPlace folded (records ++ rec ∷ [])
places_push folded [] rec before new = (new, tt)
places_push folded (r ∷ rs) rec before new = (before.0, places_push (folded_after folded r) rs rec before.1 new)

in_place : (records : List Record) (rec : Record) → AreInPlace nothing_kept records → IsInPlace (fold_of records) rec → AreInPlace nothing_kept (records ++ rec ∷ [])
unfolding fold_of
in_place records rec before new = places_push nothing_kept records rec before new

-- ---- rows

put_row : (rows : List FileRow) (row : FileRow) → AllByRecursion RowIs rows → RowIs row → AllByRecursion RowIs (with_row rows row)
unfolding with_row
put_row [] row all is = (is, tt)
put_row (r ∷ rs) row all is =
    either (AllByRecursion RowIs) (is_file r.file row.file) _ _ (is, all.1)
    (either (AllByRecursion RowIs) (is_before row.file r.file) (row ∷ r ∷ rs) (r ∷ with_row rs row) (is, all) (all.0, put_row rs row all.1 is))

-- the row of a file
row_known : (rows : List FileRow) (file : FileId) → FitsFile file → AllByRecursion RowIs rows → RowIs (row_in rows file)
unfolding row_in
row_known [] file which all = new_row_is file which
row_known (r ∷ rs) file which all = either RowIs (is_file r.file file) r (row_in rs file) all.0 (row_known rs file which all.1)

record_file : (rec : Record) → FitsRecord rec → IfSome (file_of rec) FitsFile
record_file (kept.Boot boot) fits = tt
record_file (kept.Meta from number now nodes request) fits = tt
record_file (kept.Choice file location head source) fits = tt
record_file (kept.OldChoice file location head source) fits = tt
record_file (kept.Listed file version) fits = tt
record_file (kept.Seal file object version digest) fits = tt
record_file (kept.Forget file) fits = fits
record_file _ fits = fits.0

-- ---- a record more

pub none_is : KeptIs []
unfolding fold_of
none_is = record { limits = tt; places = tt; rows = tt }

pub start_is : (records : List Record) (boot : Boot) → KeptIs records → FitsBoot boot → KeptIs (records ++ kept.Boot boot ∷ [])
start_is records boot is fits = record {
  limits = all_append FitsRecord records (kept.Boot boot ∷ []) is.limits (fits, tt);
  places = in_place records (kept.Boot boot) is.places tt;
  rows = subst (λ (f : Folded). AllByRecursion RowIs f.files) (sym (fold_of-push records (kept.Boot boot))) is.rows;
}

-- ---- records from outside

-- A record within its limits, in its place: the rows after it are within theirs.
rows_more : (folded : Folded) (rec : Record) → AllByRecursion RowIs folded.files → FitsRecord rec → IsInPlace folded rec → AllByRecursion RowIs (folded_after folded rec).files
rows_more folded rec rows limits place = at (file_of rec) refl
  where
    put : (file : FileId) → file_of rec ≡ Some file → AllByRecursion RowIs (with_row folded.files (row_after (row_in folded.files file) rec))
    put file own =
        let row = row_in folded.files file in
        let which : FitsFile file = subst (λ (o : Option FileId). IfSome o FitsFile) own (record_file rec limits) in
        put_row folded.files (row_after row rec) rows
        (row_is row rec (row_known folded.files file which rows)
        (record { limits = limits; own = own ∙ ap (λ (f : FileId). Some f) (sym (row_in-file folded.files file)); place = (same_place folded file rec own).0 place }))

    left : (file : FileId) (gone : Bool) → AllByRecursion RowIs (with_row folded.files (row_after (row_in folded.files file) rec))
        → AllByRecursion RowIs (cond gone (without_row folded.files file) (with_row folded.files (row_after (row_in folded.files file) rec)))
    left file true all = each-without_row RowIs folded.files file rows
    left file false all = all

    at : (o : Option FileId) → file_of rec ≡ o → AllByRecursion RowIs (rows_after folded.files rec o)
    at None own = rows
    at (Some file) own = left file (forgets rec) (put file own)

all_rows : (records : List Record) (folded : Folded) → AllByRecursion RowIs folded.files → AllByRecursion FitsRecord records → AreInPlace folded records → AllByRecursion RowIs (fold folded_after folded records).files
all_rows [] folded rows limits places = rows
all_rows (r ∷ rs) folded rows limits places = all_rows rs (folded_after folded r) (rows_more folded r rows limits.0 places.0) limits.1 places.1

-- Records within their limits, each in its place.
pub kept_so : (records : List Record) → FitsKept records → KeptIs records
unfolding fold_of
kept_so records fits = record { limits = fits.limits; places = fits.places; rows = all_rows records nothing_kept tt fits.limits fits.places }

-- A record more that may be kept after these, of a file or not.
pub follows_is : (records : List Record) (rec : Record) → KeptIs records → FitsRecord rec × IsInPlace (fold_of records) rec → KeptIs (records ++ rec ∷ [])
follows_is records rec is next =
    kept_so (records ++ rec ∷ []) (record { limits = all_append FitsRecord records (rec ∷ []) is.limits (next.0, tt); places = in_place records rec is.places next.1 })

pub more_is : (records : List Record) (rec : Record) → KeptIs records → NextOf records (Some rec) → KeptIs (records ++ rec ∷ [])
more_is records rec is next = follows_is records rec is (next_is records (Some rec) next)

-- ---- bodies

puts_is : (file : FileId) (object : ℕ) (version : Stamp) (rec : Record) → FitsRecord rec → IfSome (body_put file object version rec) FitsBytes
puts_is file object version (kept.Update f update) fits = either (λ (b : Option (List ℕ)). IfSome b FitsBytes) (is_file f file && makes_body update object version) (Some update.body) None fits.1.bytes tt
puts_is file object version (kept.OldUpdate f update) fits = either (λ (b : Option (List ℕ)). IfSome b FitsBytes) (is_file f file && makes_body update object version) (Some update.body) None fits.1.fits.bytes tt
puts_is file object version (kept.Stage f o v bytes) fits = either (λ (b : Option (List ℕ)). IfSome b FitsBytes) (is_file f file && (o == object) && is_stamp v version) (Some bytes) None fits.3 tt
puts_is file object version (kept.OldStage f o v bytes) fits = either (λ (b : Option (List ℕ)). IfSome b FitsBytes) (is_file f file && (o == object) && is_stamp v version) (Some bytes) None fits.3 tt
puts_is file object version _ fits = tt

newer_is : (before put : Option (List ℕ)) → IfSome before FitsBytes → IfSome put FitsBytes → IfSome (newer before put) FitsBytes
newer_is before None old new = old
newer_is before (Some bytes) old new = new

folded_is : (file : FileId) (object : ℕ) (version : Stamp) (records : List Record) (before : Option (List ℕ)) → IfSome before FitsBytes → AllByRecursion FitsRecord records → IfSome (fold (body_after file object version) before records) FitsBytes
folded_is file object version [] before old all = old
folded_is file object version (r ∷ rs) before old all =
    folded_is file object version rs (body_after file object version before r) (newer_is before (body_put file object version r) old (puts_is file object version r all.0)) all.1

pub bodies_are : (records : List Record) (file : FileId) → AllByRecursion FitsRecord records → AreBodies (body_by records file)
unfolding body_kept
bodies_are records file all object version = at (body_kept records file object version) (folded_is file object version records None tt all)
  where
    at : (o : Option (List ℕ)) → IfSome o FitsBytes → FitsBytes (unwrap_or o [])
    at None is = no_bytes
    at (Some bytes) is = is
