-- what a request does to the numbers in the rows
use Rattle.std.proofs.Common.{◌≡◌, ℕ, ◌+◌, ◌≤◌, refl, sym, ap, subst, Bool, true, false, cond, arith}
use Rattle.std.specs.Prelude.{Option, Some, None, List, [], ◌∷◌, ◌==◌, filter, not}
use Rattle.std.proofs.lemmas.Bool.{eqb-true}
use Rattle.xt_base.specs.declared.ids.NodeId.{NodeId}
use Rattle.xt_messages.specs.declared.meta.MetaReq.{MetaReq}
use Rattle.xt_messages.specs.declared.meta.MetaReq.TheVariants as ask
use Rattle.xt_messages.specs.declared.meta.MetaRefusal.{MetaRefusal}
use Rattle.xt_messages.specs.declared.meta.MetaAnswer.TheVariants as answer
use Rattle.volume_rows.specs.declared.Asker.{Asker}
use Rattle.volume_rows.specs.declared.Entry.{Entry}
use Rattle.volume_rows.specs.declared.Stored.{Stored}
use Rattle.volume_rows.specs.declared.Content.TheVariants as content
use Rattle.volume_rows.specs.declared.Picked.{Picked}
use Rattle.volume_rows.specs.declared.Picked.TheVariants as place
use Rattle.volume_rows.specs.Paths.{Name, Path, path_in, same_path}
use Rattle.volume_rows.specs.Rows.{Row, Volumes, entry_at, with_row, without_row, renamed, root, page_of}
use Rattle.volume_rows.specs.Rights.{ancestors, absent, allowed, directory, empty, file, first_of, outside, owned, parent_writable, reading, rule_of_read, same_volume, there}
use Rattle.volume_rows.specs.Grants.{stored_in}
use Rattle.volume_rows.specs.Requests.{Outcome, done, tells, after_tests, has_names, on_path, on_paths, made, new_file, file_placed, row_told, mode_put, directory_made, file_made, path_renamed, file_unlinked, directory_removed, entry_told, names_listed, mode_set}
use Rattle.server_rows.specs.declared.NewSizes.{NewSizes}
use Rattle.server_rows.specs.Requests.{Settlement, settled, grant_settled, grant_at, reported, place_of, is_done, with_sizes as with_new_sizes}
use Rattle.change_rows.specs.Coordinating.{Running}
use Rattle.list_changes.specs.Lists.{with_list}
use Rattle.list_changes.specs.Requests.{outcome_with}
use Rattle.file_numbers.specs.Numbers.{is_numbered, rows_numbered, PathsRise, NumbersFit}
use Rattle.file_numbers.proofs.Rows.{rise_put, rise_left, rise_renamed, rise_sized, count_put, count_left, count_renamed, count_sized, count_replaced, count_gone, numbered_there}

-- ---- what a request may do

-- of no number are there more rows; or one row more is there, of the next number
pub data Goes (old new : Volumes) : Type 0 where
  fewer : new.next ≡ old.next → PathsRise new.rows → ((number : ℕ) → rows_numbered number new.rows ≤ rows_numbered number old.rows) → Goes old new
  one_more : new.next ≡ old.next + 1 → PathsRise new.rows
      → ((number : ℕ) → rows_numbered number new.rows ≤ rows_numbered number old.rows + cond (old.next == number) 1 0) → Goes old new

no_more : (b : Bool) → b ≡ false → (let more : ℕ = cond b 1 0 in more ≡ 0)
no_more b not = ap (λ (t : Bool). (let more : ℕ = cond t 1 0 in more)) not

-- the rows of another number than the next one
pub goes_fewer : (old new : Volumes) (number : ℕ) → Goes old new → (old.next == number) ≡ false → rows_numbered number new.rows ≤ rows_numbered number old.rows
goes_fewer old new number (fewer next rise counts) other = counts number
goes_fewer old new number (one_more next rise counts) other =
    let here = counts number in let none = no_more (old.next == number) other in omega (arith, here, none)

pub goes_fit : (old new : Volumes) → NumbersFit old → Goes old new → NumbersFit new
goes_fit old new fit (fewer next rise counts) =
    record {
      rise = rise;
      once = λ number. (let a = counts number in let b = fit.once number in omega (arith, a, b));
      below = λ number least. (let a = counts number in let b = fit.below number (omega (arith, next, least)) in omega (arith, a, b));
    }
goes_fit old new fit (one_more next rise counts) =
    record {
      rise = rise;
      once = once;
      below = λ number least. by number (old.next == number) refl least (counts number);
    }
  where
    once : (number : ℕ) → rows_numbered number new.rows ≤ 1
    once number = at (old.next == number) refl (counts number)
      where
        at : (b : Bool) → (old.next == number) ≡ b → rows_numbered number new.rows ≤ rows_numbered number old.rows + cond b 1 0 → rows_numbered number new.rows ≤ 1
        at true same h =
            (let is : old.next ≡ number = eqb-true old.next number same in
            let none = fit.below number (omega (arith, is)) in
            omega (arith, h, none))
        at false differ h = (let one = fit.once number in omega (arith, h, one))

    by : (number : ℕ) (b : Bool) → (old.next == number) ≡ b → new.next ≤ number → rows_numbered number new.rows ≤ rows_numbered number old.rows + cond b 1 0
        → rows_numbered number new.rows ≡ 0
    by number true same least h = absurd (let is : old.next ≡ number = eqb-true old.next number same in omega (arith, next, least, is))
    by number false differ least h = (let none = fit.below number (omega (arith, next, least)) in omega (arith, h, none))

-- ---- each request

module _ (volumes : Volumes) (fit : NumbersFit volumes) where
  abbrev GoesTo : Outcome → Type 0
  GoesTo o = Goes volumes o.volumes

  rests : Goes volumes volumes
  rests = fewer refl fit.rise (λ number. omega arith)

  tested : (test : Option MetaRefusal) (passed : Outcome) → GoesTo passed → GoesTo (after_tests volumes test passed)
  tested (Some why) passed goes = rests
  tested None passed goes = goes

  at_path : (path : Option Path) (on : Path → Outcome) → ((p : Path) → GoesTo (on p)) → GoesTo (on_path volumes path on)
  at_path None on each = rests
  at_path (Some path) on each = each path

  at_paths : (from to : Option Path) (on : Path → Path → Outcome) → ((p q : Path) → GoesTo (on p q)) → GoesTo (on_paths volumes from to on)
  at_paths (Some from) (Some to) on each = each from to
  at_paths (Some from) None on each = rests
  at_paths None to on each = rests

  -- a row that is no file's is put
  put_other : (row : Row) → ((number : ℕ) → is_numbered number row ≡ false) → Goes volumes (record volumes { rows = with_row volumes.rows row })
  put_other row other =
      fewer refl (rise_put volumes.rows row fit.rise)
      (λ number.
      let put = count_put number volumes.rows row in
      let none = no_more (is_numbered number row) (other number) in
      omega (arith, put, none))

  leaves : (keeps : Row → Bool) (rows : List Row) → rows ≡ filter keeps volumes.rows → Goes volumes (record volumes { rows = rows })
  leaves keeps rows is =
      fewer refl (subst PathsRise (sym is) (rise_left keeps volumes.rows fit.rise))
      (λ number. subst (λ (rs : List Row). rows_numbered number rs ≤ rows_numbered number volumes.rows) (sym is) (count_left number keeps volumes.rows))

  mkdir_goes : (who : Asker) (mode : ℕ) (path : Path) → GoesTo (directory_made volumes who mode path)
  mkdir_goes who mode path =
      tested (first_of (ancestors who volumes.rows path ∷ absent (entry_at volumes.rows path) ∷ parent_writable who volumes.rows path ∷ []))
      (done volumes (with_row volumes.rows (made who mode content.Directory path)))
      (put_other (made who mode content.Directory path) (λ number. refl))

  placed_goes : (who : Asker) (mode : ℕ) (path : Path) (pick : Picked) → GoesTo (file_placed volumes who mode path pick)
  placed_goes who mode path (place.TooFew have) = rests
  placed_goes who mode path (place.On location) =
      let row = made who mode (new_file volumes.next location) path in
      one_more refl (rise_put volumes.rows row fit.rise) (λ number. count_put number volumes.rows row)

  create_goes : (who : Asker) (mode : ℕ) (pick : Picked) (path : Path) → GoesTo (file_made volumes who mode pick path)
  create_goes who mode pick path =
      tested (first_of (ancestors who volumes.rows path ∷ absent (entry_at volumes.rows path) ∷ parent_writable who volumes.rows path ∷ []))
      (file_placed volumes who mode path pick)
      (placed_goes who mode path pick)

  rename_goes : (who : Asker) (from to : Path) → GoesTo (path_renamed volumes who from to)
  rename_goes who from to =
      tested
      (first_of
      (ancestors who volumes.rows from ∷ same_volume from to ∷ there (entry_at volumes.rows from) ∷ outside from to ∷ ancestors who volumes.rows to
      ∷ absent (entry_at volumes.rows to)
      ∷ parent_writable who volumes.rows from
      ∷ parent_writable who volumes.rows to
      ∷ []))
      (done volumes (renamed volumes.rows from to))
      (fewer refl (rise_renamed volumes.rows from to fit.rise) (λ number. count_renamed number volumes.rows from to))

  unlink_goes : (who : Asker) (path : Path) → GoesTo (file_unlinked volumes who path)
  unlink_goes who path =
      tested (first_of (ancestors who volumes.rows path ∷ there (entry_at volumes.rows path) ∷ file (entry_at volumes.rows path) ∷ parent_writable who volumes.rows path ∷ []))
      (done volumes (without_row volumes.rows path))
      (leaves (λ r. not (same_path r.path path)) (without_row volumes.rows path) refl)

  rmdir_goes : (who : Asker) (path : Path) → GoesTo (directory_removed volumes who path)
  rmdir_goes who path =
      tested
      (first_of
      (ancestors who volumes.rows path ∷ there (entry_at volumes.rows path) ∷ directory (entry_at volumes.rows path) ∷ empty volumes.rows path
      ∷ parent_writable who volumes.rows path
      ∷ []))
      (done volumes (without_row volumes.rows path))
      (leaves (λ r. not (same_path r.path path)) (without_row volumes.rows path) refl)

  list_goes : (who : Asker) (after : Name) (path : Path) → GoesTo (names_listed volumes who after path)
  list_goes who after path =
      tested
      (first_of
      (ancestors who volumes.rows path ∷ there (entry_at volumes.rows path) ∷ directory (entry_at volumes.rows path)
      ∷ allowed who reading rule_of_read (entry_at volumes.rows path)
      ∷ []))
      (tells volumes (answer.Names (page_of volumes.rows path after)))
      rests

  row_goes : (entry : Option Entry) → GoesTo (row_told volumes entry)
  row_goes None = rests
  row_goes (Some entry) = rests

  stat_goes : (who : Asker) (path : Path) → GoesTo (entry_told volumes who path)
  stat_goes who path = tested (ancestors who volumes.rows path) (row_told volumes (entry_at volumes.rows path)) (row_goes (entry_at volumes.rows path))

  -- the mode of what is there: its row stays in its place
  mode_goes : (path : Path) (mode : ℕ) (o : Option Entry) → entry_at volumes.rows path ≡ o → GoesTo (mode_put volumes path mode o)
  mode_goes path mode None is = rests
  mode_goes [] mode (Some entry) is =
      (let same : root ≡ entry = cc in
      subst (λ (e : Entry). GoesTo (mode_put volumes [] mode (Some e))) same (put_other (record { path = []; entry = record root { mode = mode } }) (λ number. refl)))
  mode_goes (name ∷ names) mode (Some entry) is =
      let path = name ∷ names in
      let new : Entry = record entry { mode = mode } in
      fewer refl (rise_put volumes.rows (record { path = path; entry = new }) fit.rise)
      (λ number. (let same = count_replaced number volumes.rows path entry new fit.rise is refl in omega (arith, same)))

  chmod_goes : (who : Asker) (mode : ℕ) (path : Path) → GoesTo (mode_set volumes who mode path)
  chmod_goes who mode path =
      tested (first_of (ancestors who volumes.rows path ∷ there (entry_at volumes.rows path) ∷ owned who (entry_at volumes.rows path) ∷ []))
      (mode_put volumes path mode (entry_at volumes.rows path))
      (mode_goes path mode (entry_at volumes.rows path) refl)

  sizes_goes : (sets : Option NewSizes) → Goes volumes (with_new_sizes volumes sets)
  sizes_goes None = rests
  sizes_goes (Some sizes) =
      fewer refl (rise_sized sizes.file sizes.epoch sizes.mark volumes.rows fit.rise)
      (λ number. (let same = count_sized number sizes.file sizes.epoch sizes.mark volumes.rows in omega (arith, same)))

  settled_goes : (settlement : Settlement) → GoesTo (settled volumes settlement)
  settled_goes settlement = sizes_goes settlement.sets

  -- whatever is asked
  pub request_goes : (key : List ℕ) (rs : List Running) (who : Asker) (now : ℕ) (nodes : Option (List NodeId)) (request : MetaReq)
      → Goes volumes (outcome_with key volumes rs who now nodes request).volumes
  request_goes key rs who now nodes (ask.Mkdir path mode) = at_path (has_names 1 (path_in path)) (directory_made volumes who mode) (mkdir_goes who mode)
  request_goes key rs who now nodes (ask.Create path mode kind n stripe) =
      at_path (has_names 2 (path_in path)) (file_made volumes who mode (place_of nodes (ask.Create path mode kind n stripe)))
      (create_goes who mode (place_of nodes (ask.Create path mode kind n stripe)))
  request_goes key rs who now nodes (ask.Rename from to) = at_paths (has_names 1 (path_in from)) (has_names 1 (path_in to)) (path_renamed volumes who) (rename_goes who)
  request_goes key rs who now nodes (ask.Unlink path) = at_path (has_names 1 (path_in path)) (file_unlinked volumes who) (unlink_goes who)
  request_goes key rs who now nodes (ask.Rmdir path) = at_path (has_names 1 (path_in path)) (directory_removed volumes who) (rmdir_goes who)
  request_goes key rs who now nodes (ask.List path after) = at_path (path_in path) (names_listed volumes who after) (list_goes who after)
  request_goes key rs who now nodes (ask.Stat path) = at_path (has_names 1 (path_in path)) (entry_told volumes who) (stat_goes who)
  request_goes key rs who now nodes (ask.Chmod path mode) = at_path (has_names 1 (path_in path)) (mode_set volumes who mode) (chmod_goes who mode)
  request_goes key rs who now nodes (ask.Grant path want) = settled_goes (grant_settled key now want (with_list rs (grant_at volumes who want path)))
  request_goes key rs who now nodes (ask.Report capability mark) = settled_goes (reported key volumes now capability mark)
  request_goes key rs who now nodes (ask.Change path next) = rests
  request_goes key rs who now nodes (ask.Locate path) = rests

  -- ---- a file that is unlinked

  -- no row is of its number any more
  gone : (path : Path) (stored : Stored) → stored_in (entry_at volumes.rows path) ≡ Some stored → rows_numbered stored.number (without_row volumes.rows path) ≡ 0
  gone path stored is =
      let at = numbered_there volumes.rows path stored is in
      let left = count_gone stored.number volumes.rows path at.0 at.1 at.2 in
      let once = fit.once stored.number in
      omega (arith, left, once)

  pub unlinked_gone : (who : Asker) (path : Path) (stored : Stored) → stored_in (entry_at volumes.rows path) ≡ Some stored → is_done (file_unlinked volumes who path).answer ≡ true
      → rows_numbered stored.number (file_unlinked volumes who path).volumes.rows ≡ 0
  unlinked_gone who path stored is ended =
      by (first_of (ancestors who volumes.rows path ∷ there (entry_at volumes.rows path) ∷ file (entry_at volumes.rows path) ∷ parent_writable who volumes.rows path ∷ [])) ended
    where
      by : (test : Option MetaRefusal) → is_done (after_tests volumes test (done volumes (without_row volumes.rows path))).answer ≡ true
          → rows_numbered stored.number (after_tests volumes test (done volumes (without_row volumes.rows path))).volumes.rows ≡ 0
      by (Some why) ended = absurd (cc)
      by None ended = gone path stored is
