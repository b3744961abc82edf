-- Rewritten records are within their limits, where the old ones are, each in its place.
use Rattle.std.proofs.Common.{◌≡◌, ◌==◌, ◌&&◌, ◌<◌, ◌-◌, ◌^◌, ◌⊎◌, inl, inr, ℕ, Bool, true, false, cond, List, [], ◌∷◌, ◌++◌, map, refl, Option, Some, None, unwrap_or, arith}
use Rattle.std.specs.Option.{IfSome}
use Rattle.std.specs.List.{All, AllByRecursion, fold}
use Rattle.std.specs.Prelude.{filter, flat_map}
use Rattle.std.proofs.lemmas.Bool.Decides.{nat_tests}
use Rattle.std.proofs.lemmas.List.Elements.{All-from_recursion, recursion_from_All, All-nil, All-cons, All-append, All-map, All-weaker, All-filter}
use Rattle.xt_base.specs.FieldLimits.{FitsBytes}
use Rattle.xt_base.specs.declared.TheConstants.{NO_OBJECT}
use Rattle.xt_base.specs.declared.ids.Epoch.{Epoch}
use Rattle.xt_base.specs.declared.ids.FileId.{FileId}
use Rattle.xt_base.specs.declared.ids.Stamp.{Stamp}
use Rattle.xt_messages.specs.declared.file.FileHead.{FileHead}
use Rattle.xt_messages.specs.declared.file.Location.{Location}
use Rattle.xt_messages.specs.declared.file.ObjectVersion.{ObjectVersion}
use Rattle.xt_messages.specs.declared.file.Update.{Update}
use Rattle.xt_messages.specs.declared.record.FileRow.{FileRow}
use Rattle.xt_messages.specs.declared.record.Folded.{Folded}
use Rattle.xt_messages.specs.declared.record.KeepBody.{KeepBody}
use Rattle.xt_messages.specs.declared.record.Record.{Record}
use Rattle.xt_messages.specs.declared.record.Record.TheVariants as kept
use Rattle.xt_messages.specs.Limits.{FitsBoot, FitsEpoch, FitsFile, FitsHead, FitsLocation, FitsRecord, FitsStamp, FitsUpdate, FitsVersion, IsObject, IsVersion, is_at_most}
use Rattle.xt_protocol.specs.FileIds.{is_file, is_before}
use Rattle.xt_protocol.specs.Folds.{row_in, with_row, folded_after, nothing_kept, fold_of, is_logged, logged_of, widened, body_of, held_after, FollowsHead, body_put, newer, body_after, body_kept, digests_kept, makes_body, IsInPlace, AreInPlace}
use Rattle.xt_protocol.specs.Forgetting.{is_kept, row_without, view_of, close_of, sealed_stage_of, records_of_row, records_of_rows, rewritten}
use Rattle.xt_protocol.specs.Heads.{new_head, head_after, head_installed, later_epoch}
use Rattle.xt_protocol.specs.SeenBodies.{body_by}
use Rattle.xt_protocol.specs.Stamps.{is_stamp, is_version, comes_before, with_held}
use Rattle.xt_protocol.proofs.FileRows.{each-without_row}
use Rattle.object_versions.proofs.HeadLimits.{either, when}
use Rattle.replica_records.proofs.OldLaws.{widened_fits}
use Rattle.forgetting.proofs.Digests.{digests_fit, seals_fit}
use Rattle.forgetting.proofs.Places as places
use Rattle.forgetting.proofs.Rows.{each_sealed}
use Rattle.store_compact.specs.Rewriting.{StayKept}

-- ---- what records say is within the limits

-- what is written of a file is
record RowFits (row : FileRow) : Type 0 where
  pub which : FitsFile row.file
  pub stands : FitsHead row.head
  pub place : IfSome row.location FitsLocation
  pub closes : IfSome row.closed IsVersion
  pub held : AllByRecursion FitsVersion row.held

record FoldFits (folded : Folded) : Type 0 where
  pub start : FitsBoot folded.boot
  pub rows : AllByRecursion RowFits folded.files

new_head_fits : FitsHead new_head
new_head_fits = record {
  promise = record { place = omega arith; primary = omega arith };
  place = record { tenure = record { place = omega arith; primary = omega arith }; writes = omega arith };
  operation = record { who = omega arith; operation = omega arith };
  after = record { truncation = omega arith; bytes = omega arith };
  objects = record { few = omega arith; each = tt; rising = refl };
  clients = record { few = omega arith; each = tt; rising = refl };
  kept = refl;
}

-- the row of a file among the others
read_row : (rows : List FileRow) (file : FileId) → FitsFile file → AllByRecursion RowFits rows → RowFits (row_in rows file)
unfolding row_in
read_row [] file which all = record { which = which; stands = new_head_fits; place = tt; closes = tt; held = tt }
read_row (r ∷ rs) file which all = either RowFits (is_file r.file file) r (row_in rs file) all.0 (read_row rs file which all.1)

put_row : (rows : List FileRow) (row : FileRow) → AllByRecursion RowFits rows → RowFits row → AllByRecursion RowFits (with_row rows row)
unfolding with_row
put_row [] row all is = (is, tt)
put_row (r ∷ rs) row all is =
    either (AllByRecursion RowFits) (is_file r.file row.file) _ _ (is, all.1)
    (either (AllByRecursion RowFits) (is_before row.file r.file) (row ∷ r ∷ rs) (r ∷ with_row rs row) (is, all) (all.0, put_row rs row all.1 is))

put_held : (held : List ObjectVersion) (v : ObjectVersion) → AllByRecursion FitsVersion held → FitsVersion v → AllByRecursion FitsVersion (with_held held v)
unfolding with_held
put_held [] v all is = (is, tt)
put_held (h ∷ hs) v all is =
    either (AllByRecursion FitsVersion) (is_version h v) _ _ all
    (either (AllByRecursion FitsVersion) (comes_before v h) (v ∷ h ∷ hs) (h ∷ with_held hs v) (is, all) (all.0, put_held hs v all.1 is))

-- an object that isn't none
meant_object : (object : ℕ) → (object < 2 ^ 64 - 1) ⊎ (object ≡ NO_OBJECT) → (object == NO_OBJECT) ≡ false → IsObject object
meant_object object (inl low) some = omega (arith, low)
meant_object object (inr none) some = absurd (grind (arith, nat_tests))

at_most_along : (a b c : Epoch) → is_at_most a b ≡ true → is_at_most b c ≡ true → is_at_most a c ≡ true
at_most_along a b c first second = grind (arith, nat_tests)

-- a head under a later promise
promised_fits : (head : FileHead) (epoch : Epoch) → FitsHead head → FitsEpoch epoch → is_at_most head.promised epoch ≡ true → FitsHead (record head { promised = epoch })
promised_fits head epoch is fits above = record {
  promise = fits;
  place = is.place;
  operation = is.operation;
  after = is.after;
  objects = is.objects;
  clients = is.clients;
  kept = at_most_along head.stamp.epoch head.promised epoch is.kept above;
}

-- the held bodies after an update
held_fits : (held : List ObjectVersion) (object : ℕ) (version : Stamp) → AllByRecursion FitsVersion held → (object < 2 ^ 64 - 1) ⊎ (object ≡ NO_OBJECT) → FitsStamp version
    → AllByRecursion FitsVersion (cond (object == NO_OBJECT) held (with_held held (body_of object version)))
held_fits held object version are gets writes =
    when (AllByRecursion FitsVersion) (object == NO_OBJECT) held (with_held held (body_of object version)) (λ _. are)
    (λ some. put_held held (body_of object version) are (record { which = meant_object object gets some; write = writes }))

-- a promise stays where a later list begins
later_above : (own new : Epoch) → is_at_most new (later_epoch own new) ≡ true
later_above own new = at (is_at_most own new) refl
  where
    at : (least : Bool) → is_at_most own new ≡ least → is_at_most new (cond least new own) ≡ true
    at true is = grind (arith, nat_tests)
    at false is = grind (arith, nat_tests)

-- ---- what a record changes in a row

module _ (row : FileRow) (was : RowFits row) where
  updated : (update : Update) → FitsUpdate update → FollowsHead row.head update → RowFits (record row { head = head_after row.head update; held = held_after row.held update })
  updated update fits follows = record {
    which = was.which;
    stands = follows.2;
    place = was.place;
    closes = was.closes;
    held = held_fits row.held update.object update.stamp was.held fits.gets fits.place;
  }

  staged : (object : ℕ) (version : Stamp) → IsObject object → FitsStamp version → RowFits (record row { held = with_held row.held (body_of object version) })
  staged object version meant writes = record {
    which = was.which;
    stands = was.stands;
    place = was.place;
    closes = was.closes;
    held = put_held row.held (body_of object version) was.held (record { which = meant; write = writes });
  }

  took : (head : FileHead) → FitsHead head → RowFits (record row { head = head })
  took head fits = record { which = was.which; stands = fits; place = was.place; closes = was.closes; held = was.held }

  installed : (location : Location) (head : FileHead) → FitsLocation location → FitsHead head → RowFits (record row { head = head_installed row.head head; location = Some location })
  installed location head placed fits =
      let epoch = later_epoch row.head.promised head.promised in
      record {
        which = was.which;
        stands = promised_fits head epoch fits (either FitsEpoch (is_at_most row.head.promised head.promised) head.promised row.head.promised fits.promise was.stands.promise)
            (later_above row.head.promised head.promised);
        place = placed;
        closes = was.closes;
        held = was.held;
      }

-- ---- a record more

module _ (folded : Folded) (is : FoldFits folded) where
  -- a row more, or in the place of its file's
  row_more : (row : FileRow) → RowFits row → FoldFits (record { boot = record { 0 = folded.boot.0 }; files = with_row folded.files row })
  row_more row fits = record { start = is.start; rows = put_row folded.files row is.rows fits }

  was : (file : FileId) → FitsFile file → RowFits (row_in folded.files file)
  was file which = read_row folded.files file which is.rows

  one_fits : (rec : Record) → FitsRecord rec → IsInPlace folded rec → FoldFits (folded_after folded rec)
  one_fits (kept.Boot boot) fits place = record { start = fits; rows = is.rows }
  one_fits (kept.Promise file epoch) fits place =
      let own = was file fits.0 in
      row_more _ (took (row_in folded.files file) own (record (row_in folded.files file).head { promised = epoch }) (promised_fits _ epoch own.stands fits.1 place))
  one_fits (kept.Update file update) fits place = row_more _ (updated (row_in folded.files file) (was file fits.0) update fits.1 place)
  one_fits (kept.OldUpdate file update) fits place = row_more _ (updated (row_in folded.files file) (was file fits.0) update fits.1.fits place)
  one_fits (kept.Stage file object version bytes) fits place = row_more _ (staged (row_in folded.files file) (was file fits.0) object version fits.1 fits.2)
  one_fits (kept.OldStage file object version bytes) fits place =
      let small = fits.1 in row_more _ (staged (row_in folded.files file) (was file fits.0) object version (omega arith) fits.2)
  one_fits (kept.Head file head) fits place = row_more _ (took (row_in folded.files file) (was file fits.0) head fits.1)
  one_fits (kept.OldHead file head) fits place = row_more _ (took (row_in folded.files file) (was file fits.0) head fits.1.fits)
  one_fits (kept.View file location) fits place =
      let own = was file fits.0 in
      row_more (record (row_in folded.files file) { location = Some location })
      (record { which = own.which; stands = own.stands; place = fits.1; closes = own.closes; held = own.held })
  one_fits (kept.Close file version) fits place =
      let own = was file fits.0 in
      row_more (record (row_in folded.files file) { closed = Some version })
      (record { which = own.which; stands = own.stands; place = own.place; closes = fits.1; held = own.held })
  one_fits (kept.Install file location head) fits place = row_more _ (installed (row_in folded.files file) (was file fits.0) location head fits.1 fits.2)
  one_fits (kept.OldInstall file location head) fits place = row_more _ (installed (row_in folded.files file) (was file fits.0) location head fits.1 fits.2.fits)
  one_fits (kept.Forget file) fits place = record { start = is.start; rows = each-without_row RowFits folded.files file is.rows }
  one_fits _ fits place = record { start = is.start; rows = is.rows }

all_fit : (records : List Record) (folded : Folded) → FoldFits folded → AllByRecursion FitsRecord records → AreInPlace folded records → FoldFits (fold folded_after folded records)
all_fit [] folded is limits placed = is
all_fit (r ∷ rs) folded is limits placed = all_fit rs (folded_after folded r) (one_fits folded is r limits.0 placed.0) limits.1 placed.1

folds_fit : (records : List Record) → AllByRecursion FitsRecord records → AreInPlace nothing_kept records → FoldFits (fold_of records)
unfolding fold_of
folds_fit records limits placed = all_fit records nothing_kept (record { start = omega arith; rows = tt }) limits placed

-- ---- bodies

put_fits : (file : FileId) (object : ℕ) (version : Stamp) (rec : Record) → FitsRecord rec → IfSome (body_put file object version rec) FitsBytes
put_fits file object version (kept.Update f update) fits =
    either (λ (b : Option (List ℕ)). IfSome b FitsBytes) (is_file f file && makes_body update object version) (Some update.body) None fits.1.bytes tt
put_fits file object version (kept.Stage f o v bytes) fits =
    either (λ (b : Option (List ℕ)). IfSome b FitsBytes) (is_file f file && (o == object) && is_stamp v version) (Some bytes) None fits.3 tt
put_fits file object version (kept.OldUpdate f update) fits =
    either (λ (b : Option (List ℕ)). IfSome b FitsBytes) (is_file f file && makes_body update object version) (Some update.body) None fits.1.fits.bytes tt
put_fits file object version (kept.OldStage f o v bytes) fits =
    either (λ (b : Option (List ℕ)). IfSome b FitsBytes) (is_file f file && (o == object) && is_stamp v version) (Some bytes) None fits.3 tt
put_fits file object version _ fits = tt

newer_fits : (before put : Option (List ℕ)) → IfSome before FitsBytes → IfSome put FitsBytes → IfSome (newer before put) FitsBytes
newer_fits before None old new = old
newer_fits before (Some bytes) old new = new

last_fits : (file : FileId) (object : ℕ) (version : Stamp) (records : List Record) (before : Option (List ℕ)) → IfSome before FitsBytes → AllByRecursion FitsRecord records
    → IfSome (fold (body_after file object version) before records) FitsBytes
last_fits file object version [] before old all = old
last_fits file object version (r ∷ rs) before old all =
    last_fits file object version rs (body_after file object version before r) (newer_fits before (body_put file object version r) old (put_fits file object version r all.0)) all.1

body_fits : (records : List Record) (file : FileId) (v : ObjectVersion) → AllByRecursion FitsRecord records → FitsBytes (body_by records file v.object v.version)
unfolding body_kept
body_fits records file v all = at (body_kept records file v.object v.version) (last_fits file v.object v.version records None tt all)
  where
    at : (o : Option (List ℕ)) → IfSome o FitsBytes → FitsBytes (unwrap_or o [])
    at None is = record { all = λ i. omega arith; few = omega arith }
    at (Some bytes) is = is

-- ---- the rewritten records

view_limits : (file : FileId) (location : Option Location) → FitsFile file → IfSome location FitsLocation → All FitsRecord (view_of file location)
view_limits file None which is = All-nil FitsRecord
view_limits file (Some l) which is = All-cons FitsRecord (kept.View file l) [] (which, is) (All-nil FitsRecord)

close_limits : (file : FileId) (closed : Option ℕ) → FitsFile file → IfSome closed IsVersion → All FitsRecord (close_of file closed)
close_limits file None which is = All-nil FitsRecord
close_limits file (Some version) which is = All-cons FitsRecord (kept.Close file version) [] (which, is) (All-nil FitsRecord)

module _ (keep : List KeepBody) (records : List Record) (all : AllByRecursion FitsRecord records) where
  bodies_limits : (file : FileId) → FitsFile file → (held : List ObjectVersion) → AllByRecursion FitsVersion held
      → AllByRecursion FitsRecord (flat_map (sealed_stage_of (body_by records) (digests_kept records) file) held)
  bodies_limits file which held fits =
      each_sealed (body_by records) (digests_kept records) FitsRecord FitsVersion file (λ v fits. (which, fits.which, fits.write, body_fits records file v all))
      (λ v fits. seals_fit (digests_kept records) file v (λ digest tag. (which, fits.which, fits.write, tag)) (digests_fit records all file v.object v.version)) held fits

  row_limits : (row : FileRow) → RowFits row → All FitsRecord (records_of_row (body_by records) (digests_kept records) (row_without keep row))
  row_limits row is =
      let held = filter (is_kept keep row.file) row.held in
      let lists = view_of row.file row.location ++ close_of row.file row.closed in
      let bodies = flat_map (sealed_stage_of (body_by records) (digests_kept records) row.file) held in
      let held_fit = recursion_from_All FitsVersion held (All-filter (is_kept keep row.file) FitsVersion row.held (All-from_recursion FitsVersion row.held is.held)) in
      All-append FitsRecord (lists ++ bodies) (kept.Head row.file row.head ∷ [])
      (All-append FitsRecord lists bodies
      (All-append FitsRecord (view_of row.file row.location) (close_of row.file row.closed)
      (view_limits row.file row.location is.which is.place) (close_limits row.file row.closed is.which is.closes))
      (All-from_recursion FitsRecord bodies (bodies_limits row.file is.which held held_fit)))
      (All-cons FitsRecord (kept.Head row.file row.head) [] (is.which, is.stands) (All-nil FitsRecord))

  rows_limits : (rows : List FileRow) → AllByRecursion RowFits rows → All FitsRecord (records_of_rows (body_by records) (digests_kept records) (map (row_without keep) rows))
  rows_limits [] are = All-nil FitsRecord
  rows_limits (r ∷ rs) are =
      All-append FitsRecord (records_of_row (body_by records) (digests_kept records) (row_without keep r)) (records_of_rows (body_by records) (digests_kept records) (map (row_without keep) rs)) (row_limits r are.0)
      (rows_limits rs are.1)

  logged_limits : All FitsRecord (map widened (logged_of records))
  unfolding logged_of
  logged_limits =
      All-map FitsRecord widened (filter is_logged records)
      (All-weaker FitsRecord (λ (rec : Record). FitsRecord (widened rec)) widened_fits (filter is_logged records)
      (All-filter is_logged FitsRecord records (All-from_recursion FitsRecord records all)))

  limits_then : FoldFits (fold_of records) → All FitsRecord (rewritten keep records)
  unfolding rewritten
  limits_then is =
      let rest = records_of_rows (body_by records) (digests_kept records) (map (row_without keep) (fold_of records).files) in
      All-cons FitsRecord (kept.Boot (fold_of records).boot) (map widened (logged_of records) ++ rest) is.start
      (All-append FitsRecord (map widened (logged_of records)) rest logged_limits (rows_limits (fold_of records).files is.rows))

pub stay_kept : StayKept
stay_kept keep records are named =
    let all = recursion_from_All FitsRecord records are.fit in
    record {
      fit = limits_then keep records all (folds_fit records all are.placed);
      placed = places.there keep records named;
    }
