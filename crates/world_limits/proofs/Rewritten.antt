-- Rewritten records are within the limits, and each is in its place.
use Rattle.std.proofs.Common.{◌≡◌, ◌==◌, ◌⊎◌, inl, inr, ℕ, zero, suc, Bool, true, false, cond, List, [], ◌∷◌, ◌++◌, map, refl, sym, ap, subst, ◌∙◌, Option, Some, None, arith}
use Rattle.std.specs.Option.{IfSome}
use Rattle.std.specs.List.{AllByRecursion, fold}
use Rattle.std.specs.Ordering.{is_eq}
use Rattle.std.specs.Prelude.{Contains, filter, flat_map}
use Rattle.std.proofs.lemmas.Bool.Decides.{nat_tests}
use Rattle.std.proofs.lemmas.List.Elements.{All-from_recursion}
use Rattle.xt_base.specs.FieldLimits.{FitsTag}
use Rattle.xt_base.specs.declared.TheConstants.{NO_OBJECT}
use Rattle.xt_base.specs.declared.ids.FileId.{FileId}
use Rattle.xt_base.specs.declared.ids.Stamp.{Stamp}
use Rattle.xt_messages.specs.declared.file.Location.{Location}
use Rattle.xt_messages.specs.declared.file.ObjectVersion.{ObjectVersion}
use Rattle.xt_messages.specs.declared.file.Update.{Update}
use Rattle.xt_messages.specs.declared.record.FileRow.{FileRow}
use Rattle.xt_messages.specs.declared.record.Folded.{Folded}
use Rattle.xt_messages.specs.declared.record.KeepBody.{KeepBody}
use Rattle.xt_messages.specs.declared.record.Record.{Record}
use Rattle.xt_messages.specs.declared.record.Record.TheVariants as kept
use Rattle.xt_messages.specs.Limits.{FitsBoot, FitsFile, FitsLocation, FitsUpdate, FitsVersion, FitsRecord, IsObject, IsObjectOrNone, IsVersion}
use Rattle.xt_protocol.specs.FileIds.{is_file, is_before, file_cmp}
use Rattle.xt_protocol.specs.FileStates.{FileState}
use Rattle.xt_protocol.specs.Folds.{row_in, row_after, with_row, rows_after, file_of, forgets, folded_after, nothing_kept, fold_of, digests_kept, is_logged, logged_of, widened, body_of, held_after}
use Rattle.xt_protocol.specs.Forgetting.{keep_of, is_needed, is_kept, row_without, file_without, osd_without, view_of, close_of, sealed_stage_of, records_of_row, records_of_rows, rewritten}
use Rattle.xt_protocol.specs.OsdSteps.{OsdState, file_at}
use Rattle.xt_protocol.specs.SeenBodies.{body_by}
use Rattle.xt_protocol.specs.Stamps.{is_version, comes_before, has_version, with_held}
use Rattle.xt_protocol.proofs.Folds.{file-itself, is_file-file_cmp}
use Rattle.world_runs.specs.View.{awake_as}
use Rattle.world_runs.specs.Worlds.{Agrees}
use Rattle.world_runs.proofs.Forgotten.{rows_then}
use Rattle.object_versions.proofs.HeadLimits.{either}
use Rattle.replica_records.proofs.Held.{is_among}
use Rattle.replica_records.proofs.OldLaws.{widened_fits}
use Rattle.forgetting.proofs.Digests.{digests_fit, seals_fit}
use Rattle.forgetting.proofs.Folded.{folds_rise}
use Rattle.forgetting.proofs.Held.{met}
use Rattle.forgetting.proofs.Named as named
use Rattle.forgetting.proofs.Rows.{each_sealed}
use Rattle.xt_protocol.proofs.FileRows.{FilesRise, less, each-without_row}
use Rattle.forgetting.proofs.Places as places
use Rattle.world_limits.specs.States.{AreBodies, FileIs, KeptIs, OsdIs, RowIs}
use Rattle.world_limits.proofs.Kept.{bodies_are}
use Rattle.client_limits.proofs.Lists.{all_filter}
use Rattle.world_limits.proofs.Lists.{all_append, all_map, all_weaker}

-- ---- what is held is within the limits

-- what a row holds, and the list of it that was closed
pub record HeldFits (row : FileRow) : Type 0 where
  pub held : AllByRecursion FitsVersion row.held
  pub closed : IfSome row.closed IsVersion

put_held : (held : List ObjectVersion) (v : ObjectVersion) → AllByRecursion FitsVersion held → FitsVersion v → AllByRecursion FitsVersion (with_held held v)
unfolding with_held
put_held [] v all is = (is, tt)
put_held (h ∷ hs) v all is =
    either (AllByRecursion FitsVersion) (is_version h v) _ _ all
    (either (AllByRecursion FitsVersion) (comes_before v h) (v ∷ h ∷ hs) (h ∷ with_held hs v) (is, all) (all.0, put_held hs v all.1 is))

held_then : (held : List ObjectVersion) (u : Update) → AllByRecursion FitsVersion held → FitsUpdate u → AllByRecursion FitsVersion (held_after held u)
held_then held u all fits = at (u.object == NO_OBJECT) refl
  where
    meant : IsObjectOrNone u.object → (u.object == NO_OBJECT) ≡ false → IsObject u.object
    meant (inl low) none = omega (arith, low)
    meant (inr e) none = absurd (grind (arith, nat_tests))

    at : (b : Bool) → (u.object == NO_OBJECT) ≡ b → AllByRecursion FitsVersion (cond b held (with_held held (body_of u.object u.stamp)))
    at true none = all
    at false some = put_held held (body_of u.object u.stamp) all (record { which = meant fits.gets some; write = fits.place })

row_held : (row : FileRow) (rec : Record) → HeldFits row → FitsRecord rec → HeldFits (row_after row rec)
row_held row (kept.Update file u) is fits = record { held = held_then row.held u is.held fits.1; closed = is.closed }
row_held row (kept.OldUpdate file u) is fits = record { held = held_then row.held u is.held fits.1.fits; closed = is.closed }
row_held row (kept.Stage file object version bytes) is fits =
    record { held = put_held row.held (body_of object version) is.held (record { which = fits.1; write = fits.2 }); closed = is.closed }
row_held row (kept.OldStage file object version bytes) is fits =
    let wide = widened_fits (kept.OldStage file object version bytes) fits in
    record { held = put_held row.held (body_of object version) is.held (record { which = wide.1; write = wide.2 }); closed = is.closed }
row_held row (kept.Close file version) is fits = record { held = is.held; closed = fits.1 }
row_held row (kept.Forget file) is fits = record { held = tt; closed = tt }
row_held row _ is fits = record { held = is.held; closed = is.closed }

put_rows : (rows : List FileRow) (row : FileRow) → AllByRecursion HeldFits rows → HeldFits row → AllByRecursion HeldFits (with_row rows row)
unfolding with_row
put_rows [] row all is = (is, tt)
put_rows (r ∷ rs) row all is =
    either (AllByRecursion HeldFits) (is_file r.file row.file) _ _ (is, all.1)
    (either (AllByRecursion HeldFits) (is_before row.file r.file) (row ∷ r ∷ rs) (r ∷ with_row rs row) (is, all) (all.0, put_rows rs row all.1 is))

read_held : (rows : List FileRow) (file : FileId) → AllByRecursion HeldFits rows → HeldFits (row_in rows file)
unfolding row_in
read_held [] file all = record { held = tt; closed = tt }
read_held (r ∷ rs) file all = either HeldFits (is_file r.file file) r (row_in rs file) all.0 (read_held rs file all.1)

rows_held : (rows : List FileRow) (rec : Record) (o : Option FileId) → AllByRecursion HeldFits rows → FitsRecord rec → AllByRecursion HeldFits (rows_after rows rec o)
rows_held rows rec None all fits = all
rows_held rows rec (Some file) all fits =
    either (AllByRecursion HeldFits) (forgets rec) _ _ (each-without_row HeldFits rows file all)
    (put_rows rows (row_after (row_in rows file) rec) all (row_held (row_in rows file) rec (read_held rows file all) fits))

boot_fits : (f : Folded) (rec : Record) → FitsBoot f.boot → FitsRecord rec → FitsBoot (folded_after f rec).boot
boot_fits f (kept.Boot boot) is fits = fits
boot_fits f _ is fits = is

abbrev FoldFits : Folded → Type 0
FoldFits f = FitsBoot f.boot × AllByRecursion HeldFits f.files

all_held : (records : List Record) (f : Folded) → AllByRecursion FitsRecord records → FoldFits f → FoldFits (fold folded_after f records)
all_held [] f all is = is
all_held (r ∷ rs) f all is = all_held rs (folded_after f r) all.1 (boot_fits f r is.0 all.0, rows_held f.files r (file_of r) is.1 all.0)

pub folds_fit : (records : List Record) → AllByRecursion FitsRecord records → FoldFits (fold_of records)
unfolding fold_of
folds_fit records all = all_held records nothing_kept all (omega arith, tt)

-- ---- the limits

view_limits : (file : FileId) (o : Option Location) → FitsFile file → IfSome o FitsLocation → AllByRecursion FitsRecord (view_of file o)
view_limits file None which is = tt
view_limits file (Some l) which is = ((which, is), tt)

close_limits : (file : FileId) (o : Option ℕ) → FitsFile file → IfSome o IsVersion → AllByRecursion FitsRecord (close_of file o)
close_limits file None which is = tt
close_limits file (Some version) which is = ((which, is), tt)

module _ (body : FileId → ℕ → Stamp → List ℕ) (digests : FileId → ℕ → Stamp → List (List ℕ)) (bodies : (file : FileId) → AreBodies (body file))
    (sealed : (file : FileId) (object : ℕ) (version : Stamp) → AllByRecursion FitsTag (digests file object version)) where
  row_limits : (row : FileRow) → RowIs row → HeldFits row → AllByRecursion FitsRecord (records_of_row body digests row)
  row_limits row is fits =
      let lists = view_of row.file row.location ++ close_of row.file row.closed in
      let staged = flat_map (sealed_stage_of body digests row.file) row.held in
      all_append FitsRecord (lists ++ staged) (kept.Head row.file row.head ∷ [])
      (all_append FitsRecord lists staged
      (all_append FitsRecord (view_of row.file row.location) (close_of row.file row.closed) (view_limits row.file row.location is.which is.place) (close_limits row.file row.closed is.which fits.closed))
      (each_sealed body digests FitsRecord FitsVersion row.file (λ v fits. (is.which, fits.which, fits.write, bodies row.file v.object v.version))
      (λ v fits. seals_fit digests row.file v (λ digest tag. (is.which, fits.which, fits.write, tag)) (sealed row.file v.object v.version)) row.held fits.held))
      ((is.which, is.stands), tt)

  rows_limits : (keep : List KeepBody) (rows : List FileRow) → AllByRecursion RowIs rows → AllByRecursion HeldFits rows
      → AllByRecursion FitsRecord (records_of_rows body digests (map (row_without keep) rows))
  rows_limits keep [] are held = tt
  rows_limits keep (r ∷ rs) are held =
      all_append FitsRecord (records_of_row body digests (row_without keep r)) (records_of_rows body digests (map (row_without keep) rs))
      (row_limits (row_without keep r) (record { which = are.0.which; stands = are.0.stands; place = are.0.place }) (record { held = all_filter FitsVersion (is_kept keep r.file) r.held held.0.held; closed = held.0.closed }))
      (rows_limits keep rs are.1 held.1)

limits_then : (keep : List KeepBody) (records : List Record) → KeptIs records → AllByRecursion FitsRecord (rewritten keep records)
unfolding rewritten logged_of
limits_then keep records is =
    let fits = folds_fit records is.limits in (
      fits.0,
      all_append FitsRecord (map widened (filter is_logged records)) (records_of_rows (body_by records) (digests_kept records) (map (row_without keep) (fold_of records).files))
          (all_map FitsRecord widened (filter is_logged records)
          (all_weaker FitsRecord (λ (rec : Record). FitsRecord (widened rec)) (filter is_logged records) widened_fits (all_filter FitsRecord is_logged records is.limits)))
          (rows_limits (body_by records) (digests_kept records) (λ file. bodies_are records file is.limits) (digests_fit records is.limits) keep (fold_of records).files is.rows fits.1),
    )

-- ---- the places

-- a row is found under its file
found_row : (rows : List FileRow) (row : FileRow) → FilesRise rows → Contains rows row → row_in rows row.file ≡ row
unfolding row_in
found_row [] row rise (k, lt, is) = absurd (omega arith)
found_row (r ∷ rs) row rise (zero, lt, is) = ap (λ (x : FileRow). cond (is_file r.file x.file) r (row_in rs x.file)) (sym is) ∙ ap (λ (b : Bool). cond b r (row_in rs r.file)) (file-itself r.file) ∙ is
found_row (r ∷ rs) row rise (suc k, lt, is) =
    ap (λ (b : Bool). cond b r (row_in rs row.file)) (later rs row (k, omega (arith, lt), is) rise.0) ∙ found_row rs row rise.1 (k, omega (arith, lt), is)
  where
    later : (rs : List FileRow) (row : FileRow) → Contains rs row → AllByRecursion (λ (x : FileRow). is_before r.file x.file ≡ true) rs → is_file r.file row.file ≡ false
    later [] row (k, lt, is) all = absurd (omega arith)
    later (x ∷ xs) row (zero, lt, is) all = ap (λ (y : FileRow). is_file r.file y.file) (sym is) ∙ is_file-file_cmp r.file x.file ∙ ap is_eq (less (file_cmp r.file x.file) all.0)
    later (x ∷ xs) row (suc k, lt, is) all = later xs row (k, omega (arith, lt), is) all.1

each_among : (held vs : List ObjectVersion) → ((v : ObjectVersion) → Contains vs v → has_version held v ≡ true) → AllByRecursion (Contains held) vs
each_among held [] each = tt
each_among held (v ∷ vs) each = ((is_among held v true (sym (each v (0, omega arith, refl)))).0 refl, each_among held vs (λ x has. each x (suc has.0, omega (arith, has.1), has.2)))

module _ (records : List Record) (s : OsdState) (is : KeptIs records) (agrees : Agrees records s) where
  -- a version that the head of a row names is kept
  named_kept : (row : FileRow) → Contains (fold_of records).files row → (v : ObjectVersion) → Contains row.head.versions v → has_version (row_without (keep_of s) row).held v ≡ true
  named_kept row has v names = by_met (met (awake_as s.started) s.files row.file)
    where
      f : FileState
      f = file_at (awake_as s.started) s.files row.file

      same : (file_at (awake_as s.started) s.files row.file).kept ≡ row
      same = agrees row.file ∙ found_row (fold_of records).files row (folds_rise records).files has

      held : has_version (file_at (awake_as s.started) s.files row.file).kept.held v ≡ true
      held = ap (λ (x : FileRow). has_version x.held v) same ∙ named.names_held records is.places row has v names

      need : is_needed s.started.node (file_at (awake_as s.started) s.files row.file) v ≡ true
      need = named.or_left _ _ (named.or_left _ _ (ap (λ (x : FileRow). has_version x.head.versions v) same ∙ named.contained row.head.versions v names))

      by_met : Contains s.files (file_at (awake_as s.started) s.files row.file) ⊎ ((file_at (awake_as s.started) s.files row.file).kept.held ≡ []) → has_version (row_without (keep_of s) row).held v ≡ true
      by_met (inl listed) =
          ap (λ (x : FileRow). has_version (row_without (keep_of s) x).held v) (sym same)
          ∙ named.needed_kept s (file_at (awake_as s.started) s.files row.file) v listed held need
      by_met (inr none) = absurd (let no : false ≡ true = sym (ap (λ (vs : List ObjectVersion). has_version vs v) none) ∙ held in cc no)

  -- ---- what is kept then

  pub rewritten_is : KeptIs (rewritten (keep_of s) records)
  rewritten_is = record {
    limits = limits_then (keep_of s) records is;
    places = places.there (keep_of s) records (λ row has. All-from_recursion (Contains (row_without (keep_of s) row).held) row.head.versions
        (each_among (row_without (keep_of s) row).held row.head.versions (λ v names. named_kept row has v names)));
    rows = subst (AllByRecursion RowIs) (sym (rows_then (keep_of s) records)) (all_map RowIs (row_without (keep_of s)) (fold_of records).files
        (all_weaker RowIs (λ (r : FileRow). RowIs (row_without (keep_of s) r)) (fold_of records).files (λ r fits. record { which = fits.which; stands = fits.stands; place = fits.place }) is.rows));
  }

-- an OSD that has forgotten is within the limits
pub osd_then : (keep : List KeepBody) (s : OsdState) → OsdIs s → OsdIs (osd_without keep s)
unfolding osd_without
osd_then keep s is = record {
  who = is.who;
  start = is.start;
  short = is.short;
  clock = is.clock;
  each = all_map FileIs (file_without keep) s.files (all_weaker FileIs (λ (f : FileState). FileIs (file_without keep f)) s.files
      (λ f fits. record {
        row = record { which = fits.row.which; stands = fits.row.stands; place = fits.row.place };
        register = fits.register;
        leases = fits.leases;
        clock = fits.clock;
        leads = fits.leads;
        waits = fits.waits;
      }) is.each);
}
