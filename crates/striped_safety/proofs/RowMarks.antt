-- what a metadata server keeps and grants of the sizes of files was reported to it
use Rattle.std.proofs.Common.{◌≡◌, ◌∙◌, ℕ, inl, inr, refl, sym, ap, subst, Bool, true, false, cond}
use Rattle.std.specs.Prelude.{Option, Some, None, Result, Ok, Err, List, [], ◌∷◌, ◌++◌, ◌&&◌, map, filter, fold, nat_eq, nat_lt, length, drop, not, max}
use Rattle.std.specs.Ordering.{is_lt}
use Rattle.std.specs.Str.{bytes_eq}
use Rattle.std.specs.Map.{lookup}
use Rattle.std.proofs.lemmas.Slice.Eq.{bytes_eq-Decides}
use Rattle.indexmap.specs.IndexMap.{insert_entry}
use Rattle.xt_base.specs.declared.ids.NodeId.{NodeId}
use Rattle.xt_base.specs.declared.ids.FileId.{FileId}
use Rattle.xt_base.specs.declared.ids.SizeMark.{SizeMark}
use Rattle.xt_messages.specs.declared.file.Kind.{Kind}
use Rattle.xt_messages.specs.declared.file.Kind.TheVariants as kind
use Rattle.xt_messages.specs.declared.reply.Denial.{Denial}
use Rattle.xt_messages.specs.declared.meta.MetaReq.{MetaReq}
use Rattle.xt_messages.specs.declared.meta.MetaReq.TheVariants as ask
use Rattle.xt_messages.specs.declared.meta.MetaRefusal.{MetaRefusal}
use Rattle.xt_messages.specs.declared.meta.MetaRefusal.TheVariants as refusal
use Rattle.xt_messages.specs.declared.meta.MetaAnswer.{MetaAnswer}
use Rattle.xt_messages.specs.declared.meta.MetaAnswer.TheVariants as answer
use Rattle.xt_messages.specs.declared.message.Msg.{Msg}
use Rattle.xt_messages.specs.declared.message.Payload.{Payload}
use Rattle.xt_messages.specs.declared.message.Payload.TheVariants as payload
use Rattle.xt_messages.specs.declared.registry.RegistryRow.{RegistryRow}
use Rattle.xt_messages.specs.declared.registry.RegistryAnswer.{RegistryAnswer}
use Rattle.xt_messages.specs.declared.registry.RegistryAnswer.TheVariants as told
use Rattle.xt_messages.specs.declared.event.Event.{Event}
use Rattle.xt_messages.specs.declared.event.Event.TheVariants as event
use Rattle.xt_protocol.specs.FileIds.{is_file}
use Rattle.xt_protocol.proofs.Folds.{file-equal}
use Rattle.truncate_epochs.specs.SizeMarks.{is_smaller, merged}
use Rattle.lease_safety.specs.State.{Has}
use Rattle.reply_cache.specs.declared.Kept.{Kept}
use Rattle.reply_cache.specs.declared.Standing.{Standing}
use Rattle.reply_cache.specs.declared.Standing.TheVariants as standing
use Rattle.reply_cache.specs.Standings.{compared, standing_of}
use Rattle.volume_rows.specs.declared.Asker.{Asker}
use Rattle.volume_rows.specs.declared.Entry.{Entry}
use Rattle.volume_rows.specs.declared.Stored.{Stored}
use Rattle.volume_rows.specs.declared.Content.{Content}
use Rattle.volume_rows.specs.declared.Content.TheVariants as content
use Rattle.volume_rows.specs.declared.Granting.{Granting}
use Rattle.volume_rows.specs.declared.Picked.{Picked}
use Rattle.volume_rows.specs.declared.Picked.TheVariants as place
use Rattle.volume_rows.specs.Paths.{Name, Path, path_in, same_path, path_cmp, is_within}
use Rattle.volume_rows.specs.Rows.{Row, Volumes, entry_in, entry_at, with_row, without_row, rows_within, rows_outside, moved, renamed, page_of}
use Rattle.volume_rows.specs.Rights.{ancestors, absent, allowed, directory, empty, file, first_of, outside, owned, parent_writable, reading, rule_of_read, same_volume, there}
use Rattle.volume_rows.specs.Grants.{volume_id, volume_of, file_id, stored_of, stored_in, holds_file, with_sizes, sizes_of, sizes_set, sizes_in, granted, granted_of, located_as, located, unless_refused, wanted}
use Rattle.volume_rows.specs.Requests.{Outcome, done, tells, refused, after_tests, has_names, on_path, on_paths, made, new_file, file_placed, row_told, mode_put, directory_made, file_made, path_renamed, file_unlinked, directory_removed, entry_told, names_listed, mode_set}
use Rattle.capabilities.specs.Denials.{denial_of}
use Rattle.server_rows.specs.declared.NewSizes.{NewSizes}
use Rattle.server_rows.specs.Requests.{outcome_of, place_of, settled, grant_settled, report_settled, grant_at, is_recorded, is_spent, nodes_for}
use Rattle.server_rows.specs.Requests as rows
use Rattle.server_rows.specs.Metadata.{Catalogue, MrcState, MrcStep, nothing, answered, recorded, fresh, by_standing, rows_heard, nodes_of, is_dir, told_by, handled, step_of_mrc}
use Rattle.server_rows.proofs.Taking.{taken_or_not}

-- ---- marks that are as they should be

module _ (Is : FileId → SizeMark → Type 0) where
  -- the mark of what stands at a path
  abbrev pub IsMarked : Path → Content → Type 0
  IsMarked path content.Directory = Unit {0}
  IsMarked path (content.File stored) = Is (file_id path stored) stored.mark

  abbrev pub AreMarked : List Row → Type 0
  AreMarked [] = Unit {0}
  AreMarked (row ∷ rows) = IsMarked row.path row.entry.content × AreMarked rows

  -- a mark that is granted, and one that is reported
  abbrev pub AnswerMarked : MetaAnswer → Type 0
  AnswerMarked (answer.Granted capability mark) = Is capability.file mark
  AnswerMarked _ = Unit {0}

  abbrev pub ReportMarked : MetaReq → Type 0
  ReportMarked (ask.Report capability mark) = Is capability.file mark
  ReportMarked _ = Unit {0}

  abbrev pub PayloadMarked : Payload → Type 0
  PayloadMarked (payload.Meta number user group wanted) = ReportMarked wanted
  PayloadMarked (payload.MetaReply number what) = AnswerMarked what
  PayloadMarked _ = Unit {0}

  abbrev pub EventMarked : Event → Type 0
  EventMarked (event.Deliver msg) = PayloadMarked msg.payload
  EventMarked event.Wake = Unit {0}
  EventMarked (event.Call call) = Unit {0}

  -- what clients were answered last
  abbrev pub AnswersMarked : List (ℕ × Kept MetaAnswer) → Type 0
  AnswersMarked [] = Unit {0}
  AnswersMarked (last ∷ others) = AnswerMarked last.1.answer × AnswersMarked others

  pub record Marked (catalogue : Catalogue) : Type 0 where
    pub rows : AreMarked catalogue.volumes.rows
    pub answers : AnswersMarked catalogue.clients

same_is : (a b : Path) → same_path a b ≡ true → a ≡ b
same_is [] [] same = refl
same_is [] (m ∷ ms) same = absurd (cc)
same_is (n ∷ ns) [] same = absurd (cc)
same_is (n ∷ ns) (m ∷ ms) same = go (bytes_eq n m) refl same (same_is ns ms) where
  go : (b : Bool) → bytes_eq n m ≡ b → (b && same_path ns ms) ≡ true → (same_path ns ms ≡ true → ns ≡ ms) → n ∷ ns ≡ m ∷ ms
  go true e h later = ap (λ (x : Name). x ∷ ns) ((bytes_eq-Decides n m).0 e) ∙ ap (λ (xs : Path). m ∷ xs) (later h)
  go false e h later = absurd (cc)

-- a row that is moved in its volume keeps it
volume_moved : (from to p : Path) → same_volume from to ≡ None → is_within from p ≡ true → volume_of (to ++ drop (length from) p) ≡ volume_of p
volume_moved [] to p same inside = absurd (cc)
volume_moved (v ∷ []) to p same inside = absurd (cc)
volume_moved (v ∷ n ∷ ns) [] p same inside = absurd (cc)
volume_moved (v ∷ n ∷ ns) (w ∷ []) p same inside = absurd (cc)
volume_moved (v ∷ n ∷ ns) (w ∷ m ∷ ms) [] same inside = absurd (cc)
volume_moved (v ∷ n ∷ ns) (w ∷ m ∷ ms) (x ∷ p) same inside = go (bytes_eq v w) refl same (bytes_eq v x) refl inside where
  go : (a : Bool) → bytes_eq v w ≡ a → cond a None (Some refusal.OtherVolume) ≡ None → (b : Bool) → bytes_eq v x ≡ b → (b && is_within (n ∷ ns) p) ≡ true → volume_id w ≡ volume_id x
  go false e h b f i = absurd (cc)
  go true e h false f i = absurd (cc)
  go true e h true f i = ap volume_id (sym ((bytes_eq-Decides v w).0 e) ∙ (bytes_eq-Decides v x).0 f)

second_none : (a b : Option MetaRefusal) (rest : List (Option MetaRefusal)) → first_of (a ∷ b ∷ rest) ≡ None → b ≡ None
second_none (Some why) b rest h = absurd (cc)
second_none None (Some why) rest h = absurd (cc)
second_none None None rest h = refl

module _ (Is : FileId → SizeMark → Type 0) (none_written : (f : FileId) → Is f (record { epoch = 0; size = 0 })) where
  -- ---- rows

  abbrev MarkedAt : Path → Option Entry → Type 0
  MarkedAt path None = Unit {0}
  MarkedAt path (Some entry) = IsMarked Is path entry.content

  marked_in : (rs : List Row) (path : Path) → AreMarked Is rs → MarkedAt path (entry_in rs path)
  marked_in [] path are = tt
  marked_in (r ∷ rs) path are = go (same_path r.path path) refl (marked_in rs path are.1) where
    go : (b : Bool) → same_path r.path path ≡ b → MarkedAt path (entry_in rs path) → MarkedAt path (cond b (Some r.entry) (entry_in rs path))
    go true same later = subst (λ (p : Path). IsMarked Is p r.entry.content) (same_is r.path path same) are.0
    go false same later = later

  marked_at : (rs : List Row) (path : Path) → AreMarked Is rs → MarkedAt path (entry_at rs path)
  marked_at rs [] are = tt
  marked_at rs (name ∷ names) are = marked_in rs (name ∷ names) are

  marked_put : (rs : List Row) (row : Row) → IsMarked Is row.path row.entry.content → AreMarked Is rs → AreMarked Is (with_row rs row)
  marked_put [] row new are = (new, tt)
  marked_put (r ∷ rs) row new are = go (same_path r.path row.path) (is_lt (path_cmp row.path r.path)) (marked_put rs row new are.1) where
    go : (a b : Bool) → AreMarked Is (with_row rs row) → AreMarked Is (cond a (row ∷ rs) (cond b (row ∷ r ∷ rs) (r ∷ with_row rs row)))
    go true b later = (new, are.1)
    go false true later = (new, are)
    go false false later = (are.0, later)

  marked_left : (keeps : Row → Bool) (rs : List Row) → AreMarked Is rs → AreMarked Is (filter keeps rs)
  marked_left keeps [] are = tt
  marked_left keeps (r ∷ rs) are = go (keeps r) (marked_left keeps rs are.1) where
    go : (b : Bool) → AreMarked Is (filter keeps rs) → AreMarked Is (cond b (r ∷ filter keeps rs) (filter keeps rs))
    go true later = (are.0, later)
    go false later = later

  moved_marked : (from to path : Path) (what : Content) → same_volume from to ≡ None → is_within from path ≡ true → IsMarked Is path what → IsMarked Is (to ++ drop (length from) path) what
  moved_marked from to path content.Directory same inside is = tt
  moved_marked from to path (content.File stored) same inside is =
      subst (λ (v : List ℕ). Is (record { volume = v; number = stored.number }) stored.mark) (sym (volume_moved from to path same inside)) is

  marked_moved : (from to : Path) (rs : List Row) → same_volume from to ≡ None → AreMarked Is rs → AreMarked Is (map (moved from to) (rows_within from rs))
  marked_moved from to [] same are = tt
  marked_moved from to (r ∷ rs) same are = go (is_within from r.path) refl (marked_moved from to rs same are.1) where
    go : (b : Bool) → is_within from r.path ≡ b → AreMarked Is (map (moved from to) (rows_within from rs)) → AreMarked Is (map (moved from to) (cond b (r ∷ rows_within from rs) (rows_within from rs)))
    go true inside later = (moved_marked from to r.path r.entry.content same inside are.0, later)
    go false inside later = later

  marked_all_put : (rs new : List Row) → AreMarked Is new → AreMarked Is rs → AreMarked Is (fold with_row rs new)
  marked_all_put rs [] new are = are
  marked_all_put rs (r ∷ more) new are = marked_all_put (with_row rs r) more new.1 (marked_put rs r new.0 are)

  marked_renamed : (rs : List Row) (from to : Path) → same_volume from to ≡ None → AreMarked Is rs → AreMarked Is (renamed rs from to)
  marked_renamed rs from to same are =
      marked_all_put (rows_outside from rs) (map (moved from to) (rows_within from rs)) (marked_moved from to rs same are)
      (marked_left (λ r. not (is_within from r.path)) rs are)

  sized_marked : (f : FileId) (path : Path) (epoch : ℕ) (mark : SizeMark) (what : Content) (entry : Entry) → entry.content ≡ what → holds_file f (record { path = path; entry = entry }) ≡ true → Is f mark → IsMarked Is path (with_sizes epoch mark what)
  sized_marked f path epoch mark content.Directory entry is same new = tt
  sized_marked f path epoch mark (content.File stored) entry is same new =
      let its : is_file (file_id path stored) f ≡ true = sym (ap (λ (c : Content). holds_file f (record { path = path; entry = record entry { content = c } })) is) ∙ same in
      subst (λ (g : FileId). Is g mark) (sym (file-equal (file_id path stored) f its)) new

  abbrev HasMark : Row → Type 0
  HasMark row = IsMarked Is row.path row.entry.content

  marked_sizes : (f : FileId) (epoch : ℕ) (mark : SizeMark) (rs : List Row) → Is f mark → AreMarked Is rs → AreMarked Is (sizes_set f epoch mark rs)
  marked_sizes f epoch mark [] new are = tt
  marked_sizes f epoch mark (r ∷ rs) new are = (go (holds_file f r) refl, marked_sizes f epoch mark rs new are.1) where
    go : (b : Bool) → holds_file f r ≡ b → HasMark (cond b (record { path = r.path; entry = record r.entry { content = with_sizes epoch mark r.entry.content } }) r)
    go true same = sized_marked f r.path epoch mark r.entry.content r.entry refl same new
    go false same = are.0

  -- the mark that is found of a file
  sizes_marked : (f : FileId) (rs : List Row) (sizes : ℕ × SizeMark) → AreMarked Is rs → sizes_in rs f ≡ Some sizes → Is f sizes.1
  sizes_marked f [] sizes are is = absurd (cc)
  sizes_marked f (r ∷ rs) sizes are is = go (holds_file f r) refl (sizes_marked f rs sizes are.1) is where
    found : (what : Content) → r.entry.content ≡ what → holds_file f r ≡ true → sizes_of (stored_of what) ≡ Some sizes → Is f sizes.1
    found content.Directory at same h = absurd (cc)
    found (content.File stored) at same h =
        let its : is_file (file_id r.path stored) f ≡ true = sym (ap (λ (c : Content). holds_file f (record { path = r.path; entry = record r.entry { content = c } })) at) ∙ same in
        let named : Is (file_id r.path stored) stored.mark = subst (IsMarked Is r.path) at are.0 in
        let pair : (stored.epoch, stored.mark) ≡ sizes = cc in
        subst (λ (p : ℕ × SizeMark). Is f p.1) pair (subst (λ (g : FileId). Is g stored.mark) (file-equal (file_id r.path stored) f its) named)

    go : (b : Bool) → holds_file f r ≡ b → (sizes_in rs f ≡ Some sizes → Is f sizes.1) → cond b (sizes_of (stored_of r.entry.content)) (sizes_in rs f) ≡ Some sizes → Is f sizes.1
    go true same later h = found r.entry.content refl same h
    go false same later h = later h

  -- ---- each request

  record Good (o : Outcome) : Type 0 where
    rows : AreMarked Is o.volumes.rows
    told : AnswerMarked Is o.answer

  refused_good : (volumes : Volumes) (why : MetaRefusal) → AreMarked Is volumes.rows → Good (refused volumes why)
  refused_good volumes why are = record { rows = are; told = tt }

  path_good : (volumes : Volumes) (path : Option Path) (on : Path → Outcome) → AreMarked Is volumes.rows → ((p : Path) → Good (on p)) → Good (on_path volumes path on)
  path_good volumes None on are each = refused_good volumes refusal.NameBad are
  path_good volumes (Some path) on are each = each path

  tests_good : (volumes : Volumes) (test : Option MetaRefusal) (passed : Outcome) → AreMarked Is volumes.rows → (test ≡ None → Good passed) → Good (after_tests volumes test passed)
  tests_good volumes (Some why) passed are after = refused_good volumes why are
  tests_good volumes None passed are after = after refl

  paths_good : (volumes : Volumes) (from to : Option Path) (on : Path → Path → Outcome) → AreMarked Is volumes.rows → ((p q : Path) → Good (on p q)) → Good (on_paths volumes from to on)
  paths_good volumes (Some from) (Some to) on are each = each from to
  paths_good volumes (Some from) None on are each = refused_good volumes refusal.NameBad are
  paths_good volumes None to on are each = refused_good volumes refusal.NameBad are

  done_good : (volumes : Volumes) (rs : List Row) → AreMarked Is rs → Good (done volumes rs)
  done_good volumes rs are = record { rows = are; told = tt }

  mkdir_good : (volumes : Volumes) (who : Asker) (mode : ℕ) (path : Path) → AreMarked Is volumes.rows → Good (directory_made volumes who mode path)
  mkdir_good volumes who mode path are =
      tests_good volumes (first_of (ancestors who volumes.rows path ∷ absent (entry_at volumes.rows path) ∷ parent_writable who volumes.rows path ∷ []))
      (done volumes (with_row volumes.rows (made who mode content.Directory path))) are
      (λ h. done_good volumes (with_row volumes.rows (made who mode content.Directory path)) (marked_put volumes.rows (made who mode content.Directory path) tt are))

  rename_good : (volumes : Volumes) (who : Asker) (from to : Path) → AreMarked Is volumes.rows → Good (path_renamed volumes who from to)
  rename_good volumes who from to are =
      let rs = volumes.rows in
      let later = there (entry_at rs from) ∷ outside from to ∷ ancestors who rs to ∷ absent (entry_at rs to) ∷ parent_writable who rs from ∷ parent_writable who rs to ∷ [] in
      tests_good volumes (first_of (ancestors who rs from ∷ same_volume from to ∷ later)) (done volumes (renamed rs from to)) are
      (λ h. done_good volumes (renamed rs from to) (marked_renamed rs from to (second_none (ancestors who rs from) (same_volume from to) later h) are))

  rmdir_good : (volumes : Volumes) (who : Asker) (path : Path) → AreMarked Is volumes.rows → Good (directory_removed volumes who path)
  rmdir_good volumes who path are =
      tests_good volumes (first_of (ancestors who volumes.rows path ∷ there (entry_at volumes.rows path) ∷ directory (entry_at volumes.rows path) ∷ empty volumes.rows path ∷ parent_writable who volumes.rows path ∷ []))
      (done volumes (without_row volumes.rows path)) are
      (λ h. done_good volumes (without_row volumes.rows path) (marked_left (λ r. not (same_path r.path path)) volumes.rows are))

  unlink_good : (volumes : Volumes) (who : Asker) (path : Path) → AreMarked Is volumes.rows → Good (file_unlinked volumes who path)
  unlink_good volumes who path are =
      tests_good volumes (first_of (ancestors who volumes.rows path ∷ there (entry_at volumes.rows path) ∷ file (entry_at volumes.rows path) ∷ parent_writable who volumes.rows path ∷ []))
      (done volumes (without_row volumes.rows path)) are
      (λ h. done_good volumes (without_row volumes.rows path) (marked_left (λ r. not (same_path r.path path)) volumes.rows are))

  placed_good : (volumes : Volumes) (who : Asker) (mode : ℕ) (path : Path) (pick : Picked) → AreMarked Is volumes.rows → Good (file_placed volumes who mode path pick)
  placed_good volumes who mode path (place.TooFew have) are = record { rows = are; told = tt }
  placed_good volumes who mode path (place.On location) are =
      record { rows = marked_put volumes.rows (made who mode (new_file volumes.next location) path) (none_written (record { volume = volume_of path; number = volumes.next })) are; told = tt }

  create_good : (volumes : Volumes) (who : Asker) (mode : ℕ) (pick : Picked) (path : Path) → AreMarked Is volumes.rows → Good (file_made volumes who mode pick path)
  create_good volumes who mode pick path are =
      tests_good volumes (first_of (ancestors who volumes.rows path ∷ absent (entry_at volumes.rows path) ∷ parent_writable who volumes.rows path ∷ []))
      (file_placed volumes who mode path pick) are (λ h. placed_good volumes who mode path pick are)

  mode_good : (volumes : Volumes) (path : Path) (mode : ℕ) (entry : Option Entry) → AreMarked Is volumes.rows → MarkedAt path entry → Good (mode_put volumes path mode entry)
  mode_good volumes path mode None are is = refused_good volumes refusal.NotFound are
  mode_good volumes path mode (Some entry) are is =
      let row : Row = record { path = path; entry = record entry { mode = mode } } in
      done_good volumes (with_row volumes.rows row) (marked_put volumes.rows row is are)

  chmod_good : (volumes : Volumes) (who : Asker) (mode : ℕ) (path : Path) → AreMarked Is volumes.rows → Good (mode_set volumes who mode path)
  chmod_good volumes who mode path are =
      tests_good volumes (first_of (ancestors who volumes.rows path ∷ there (entry_at volumes.rows path) ∷ owned who (entry_at volumes.rows path) ∷ []))
      (mode_put volumes path mode (entry_at volumes.rows path)) are
      (λ h. mode_good volumes path mode (entry_at volumes.rows path) are (marked_at volumes.rows path are))

  row_good : (volumes : Volumes) (entry : Option Entry) → AreMarked Is volumes.rows → Good (row_told volumes entry)
  row_good volumes None are = refused_good volumes refusal.NotFound are
  row_good volumes (Some entry) are = record { rows = are; told = tt }

  stat_good : (volumes : Volumes) (who : Asker) (path : Path) → AreMarked Is volumes.rows → Good (entry_told volumes who path)
  stat_good volumes who path are =
      tests_good volumes (ancestors who volumes.rows path) (row_told volumes (entry_at volumes.rows path)) are (λ h. row_good volumes (entry_at volumes.rows path) are)

  list_good : (volumes : Volumes) (who : Asker) (after : List ℕ) (path : Path) → AreMarked Is volumes.rows → Good (names_listed volumes who after path)
  list_good volumes who after path are =
      tests_good volumes
      (first_of (ancestors who volumes.rows path ∷ there (entry_at volumes.rows path) ∷ directory (entry_at volumes.rows path) ∷ allowed who reading rule_of_read (entry_at volumes.rows path) ∷ []))
      (tells volumes (answer.Names (page_of volumes.rows path after))) are (λ h. record { rows = are; told = tt })

  -- ---- grants and reports

  abbrev SetsMarked : Option NewSizes → Type 0
  SetsMarked None = Unit {0}
  SetsMarked (Some sizes) = Is sizes.file sizes.mark

  sets_good : (volumes : Volumes) (sets : Option NewSizes) → AreMarked Is volumes.rows → SetsMarked sets → AreMarked Is (rows.with_sizes volumes sets).rows
  sets_good volumes None are new = are
  sets_good volumes (Some sizes) are new = marked_sizes sizes.file sizes.epoch sizes.mark volumes.rows new are

  abbrev GrantMarked : Result Granting MetaRefusal → Type 0
  GrantMarked (Err why) = Unit {0}
  GrantMarked (Ok grant) = Is grant.file grant.mark

  abbrev StoredMarked : Path → Option Stored → Type 0
  StoredMarked path None = Unit {0}
  StoredMarked path (Some stored) = Is (file_id path stored) stored.mark

  content_stored : (path : Path) (what : Content) → IsMarked Is path what → StoredMarked path (stored_of what)
  content_stored path content.Directory is = tt
  content_stored path (content.File stored) is = is

  entry_stored : (path : Path) (entry : Option Entry) → MarkedAt path entry → StoredMarked path (stored_in entry)
  entry_stored path None is = tt
  entry_stored path (Some entry) is = content_stored path entry.content is

  granted_marked : (path : Path) (want : ℕ) (o : Option Stored) → StoredMarked path o → GrantMarked (granted_of path want o)
  granted_marked path want None is = tt
  granted_marked path want (Some stored) is = is

  unless_marked : (why : Option MetaRefusal) (grant : Result Granting MetaRefusal) → GrantMarked grant → GrantMarked (unless_refused why grant)
  unless_marked (Some why) grant is = tt
  unless_marked None grant is = is

  grant_marked : (volumes : Volumes) (who : Asker) (want : ℕ) (path : Option Path) → AreMarked Is volumes.rows → GrantMarked (granted volumes who want path)
  grant_marked volumes who want None are = tt
  grant_marked volumes who want (Some path) are =
      let entry = entry_at volumes.rows path in
      unless_marked (first_of (ancestors who volumes.rows path ∷ there entry ∷ file entry ∷ wanted who want entry ∷ [])) (granted_of path want (stored_in entry))
      (granted_marked path want (stored_in entry) (entry_stored path entry (marked_at volumes.rows path are)))

  granting_sets : (want : ℕ) (grant : Granting) → Is grant.file grant.mark → SetsMarked (rows.sizes_granted want grant)
  granting_sets want grant is = go (rows.wants_truncating want) where
    go : (b : Bool) → SetsMarked (cond b (Some (record { file = grant.file; epoch = grant.epoch; mark = grant.mark })) None)
    go true = is
    go false = tt

  grant_good : (key : List ℕ) (volumes : Volumes) (now want : ℕ) (grant : Result Granting MetaRefusal) → AreMarked Is volumes.rows → GrantMarked grant → Good (settled volumes (grant_settled key now want grant))
  grant_good key volumes now want (Err why) are is = record { rows = are; told = tt }
  grant_good key volumes now want (Ok grant) are is = record { rows = sets_good volumes (rows.sizes_granted want grant) are (granting_sets want grant is); told = is }

  merging_sets : (f : FileId) (sizes : ℕ × SizeMark) (mark : SizeMark) → Is f sizes.1 → Is f mark → SetsMarked (rows.sizes_merged f sizes mark)
  merging_sets f sizes mark old new = go (is_smaller sizes.1 mark) where
    both : (b : Bool) → Is f (cond b mark sizes.1)
    both true = new
    both false = old

    go : (b : Bool) → SetsMarked (cond b (Some (record { file = f; epoch = sizes.0; mark = merged sizes.1 mark })) None)
    go true = both (is_smaller sizes.1 mark)
    go false = tt

  report_good : (volumes : Volumes) (f : FileId) (denial : Option Denial) (sizes : Option (ℕ × SizeMark)) (mark : SizeMark) → sizes_in volumes.rows f ≡ sizes → AreMarked Is volumes.rows → Is f mark
      → Good (settled volumes (report_settled f denial sizes mark))
  report_good volumes f (Some rule) sizes mark found are new = record { rows = are; told = tt }
  report_good volumes f None None mark found are new = record { rows = are; told = tt }
  report_good volumes f None (Some sizes) mark found are new =
      record { rows = sets_good volumes (rows.sizes_merged f sizes mark) are (merging_sets f sizes mark (sizes_marked f volumes.rows sizes are found) new); told = tt }

  -- where a file is grants nothing
  located_told : (found : Result Granting MetaRefusal) → AnswerMarked Is (located found)
  located_told (Err why) = tt
  located_told (Ok grant) = at grant.location.kind
    where
      at : (k : Kind) → AnswerMarked Is (located_as k grant.location)
      at kind.Replicated = tt
      at kind.Striped = tt

  request_good : (key : List ℕ) (volumes : Volumes) (who : Asker) (now : ℕ) (nodes : Option (List NodeId)) (request : MetaReq) → AreMarked Is volumes.rows → ReportMarked Is request → Good (outcome_of key volumes who now nodes request)
  request_good key volumes who now nodes (ask.Mkdir path mode) are new = path_good volumes (has_names 1 (path_in path)) (directory_made volumes who mode) are (λ p. mkdir_good volumes who mode p are)
  request_good key volumes who now nodes (ask.Create path mode kind n stripe) are new =
      path_good volumes (has_names 2 (path_in path)) (file_made volumes who mode (place_of nodes (ask.Create path mode kind n stripe))) are (λ p. create_good volumes who mode (place_of nodes (ask.Create path mode kind n stripe)) p are)
  request_good key volumes who now nodes (ask.Rename from to) are new =
      paths_good volumes (has_names 1 (path_in from)) (has_names 1 (path_in to)) (path_renamed volumes who) are (λ p q. rename_good volumes who p q are)
  request_good key volumes who now nodes (ask.Unlink path) are new = path_good volumes (has_names 1 (path_in path)) (file_unlinked volumes who) are (λ p. unlink_good volumes who p are)
  request_good key volumes who now nodes (ask.Rmdir path) are new = path_good volumes (has_names 1 (path_in path)) (directory_removed volumes who) are (λ p. rmdir_good volumes who p are)
  request_good key volumes who now nodes (ask.List path after) are new = path_good volumes (path_in path) (names_listed volumes who after) are (λ p. list_good volumes who after p are)
  request_good key volumes who now nodes (ask.Stat path) are new = path_good volumes (has_names 1 (path_in path)) (entry_told volumes who) are (λ p. stat_good volumes who p are)
  request_good key volumes who now nodes (ask.Chmod path mode) are new = path_good volumes (has_names 1 (path_in path)) (mode_set volumes who mode) are (λ p. chmod_good volumes who mode p are)
  request_good key volumes who now nodes (ask.Grant path want) are new =
      grant_good key volumes now want (grant_at volumes who want path) are (grant_marked volumes who want (has_names 1 (path_in path)) are)
  request_good key volumes who now nodes (ask.Report capability mark) are new =
      report_good volumes capability.file (denial_of key capability capability.file now true) (sizes_in volumes.rows capability.file) mark refl are new
  request_good key volumes who now nodes (ask.Locate path) are new = record { rows = are; told = located_told (grant_at volumes who 1 path) }
  request_good key volumes who now nodes (ask.Change path members) are new = record { rows = are; told = tt }

  -- ---- steps

  answers_put : (clients : List (ℕ × Kept MetaAnswer)) (client : ℕ) (last : Kept MetaAnswer) → AnswerMarked Is last.answer → AnswersMarked Is clients → AnswersMarked Is (insert_entry nat_eq clients client last)
  answers_put [] client last new are = (new, tt)
  answers_put (c ∷ cs) client last new are = go (nat_eq client c.0) (answers_put cs client last new are.1) where
    go : (b : Bool) → AnswersMarked Is (insert_entry nat_eq cs client last) → AnswersMarked Is (cond b ((c.0, last) ∷ cs) (c ∷ insert_entry nat_eq cs client last))
    go true later = (new, are.1)
    go false later = (are.0, later)

  abbrev StandsMarked : Standing MetaAnswer → Type 0
  StandsMarked standing.Fresh = Unit {0}
  StandsMarked standing.Older = Unit {0}
  StandsMarked (standing.Again what) = AnswerMarked Is what

  compared_marked : (number : ℕ) (last : Kept MetaAnswer) → AnswerMarked Is last.answer → StandsMarked (compared number (Some last))
  compared_marked number last is = go (nat_eq number last.number) (nat_lt number last.number) where
    go : (a b : Bool) → StandsMarked (cond a (standing.Again last.answer) (cond b standing.Older standing.Fresh))
    go true b = is
    go false true = tt
    go false false = tt

  standing_marked : (clients : List (ℕ × Kept MetaAnswer)) (client : NodeId) (number : ℕ) → AnswersMarked Is clients → StandsMarked (standing_of clients client number)
  standing_marked [] client number are = tt
  standing_marked (c ∷ cs) client number are = go (nat_eq client.0 c.0) (standing_marked cs client number are.1) where
    go : (b : Bool) → StandsMarked (compared number (lookup (nat_eq client.0) cs)) → StandsMarked (compared number (cond b (Some c.1) (lookup (nat_eq client.0) cs)))
    go true later = compared_marked number c.1 are.0
    go false later = later

  -- what comes of an event at a server: its marks are as they should be, and so are those that it grants
  pub record StepMarked (step : MrcStep) : Type 0 where
    pub marked : Marked Is step.mrc.catalogue
    pub grants : (m : Msg) → Has m step.turned.outs → PayloadMarked Is m.payload

  rests : (mrc : MrcState) (osds : List NodeId) → Marked Is mrc.catalogue → StepMarked (nothing (record mrc { osds = osds }))
  rests mrc osds is = record { marked = is; grants = λ m h. absurd h }

  one_sent : (x : Msg) → PayloadMarked Is x.payload → (m : Msg) → Has m (x ∷ []) → PayloadMarked Is m.payload
  one_sent x is m (inl e) = subst (λ (y : Msg). PayloadMarked Is y.payload) (sym e) is
  one_sent x is m (inr h) = absurd h

  answered_steps : (mrc : MrcState) (client : NodeId) (number : ℕ) (what : MetaAnswer) → Marked Is mrc.catalogue → AnswerMarked Is what → StepMarked (answered mrc client number what)
  answered_steps mrc client number what is new = record { marked = is; grants = one_sent _ new }

  fresh_steps : (key : List ℕ) (mrc : MrcState) (client : NodeId) (number : ℕ) (who : Asker) (request : MetaReq) → Marked Is mrc.catalogue → ReportMarked Is request → StepMarked (fresh key mrc client number who request)
  fresh_steps key mrc client number who request is new = go (is_spent mrc.catalogue.volumes who request) (is_recorded key mrc.catalogue.volumes mrc.last request) where
    nodes : Option (List NodeId)
    nodes = nodes_for mrc.osds mrc.catalogue.volumes.next request

    go : (spent records : Bool)
        → StepMarked (cond spent (nothing mrc) (cond records (recorded key mrc client number who request) (answered mrc client number (outcome_of key mrc.catalogue.volumes who mrc.last None request).answer)))
    go true records = rests mrc mrc.osds is
    go false true =
        let good = request_good key mrc.catalogue.volumes who mrc.last nodes request is.rows new in
        let o = outcome_of key mrc.catalogue.volumes who mrc.last nodes request in
        record { marked = record { rows = good.rows; answers = answers_put mrc.catalogue.clients client.0 (record { number = number; answer = o.answer }) good.told is.answers }; grants = one_sent _ good.told }
    go false false = answered_steps mrc client number (outcome_of key mrc.catalogue.volumes who mrc.last None request).answer is (request_good key mrc.catalogue.volumes who mrc.last None request is.rows new).told

  stands_steps : (key : List ℕ) (mrc : MrcState) (client : NodeId) (number : ℕ) (who : Asker) (request : MetaReq) (how : Standing MetaAnswer) → Marked Is mrc.catalogue → ReportMarked Is request → StandsMarked how
      → StepMarked (by_standing key mrc client number who request how)
  stands_steps key mrc client number who request standing.Fresh is new kept = fresh_steps key mrc client number who request is new
  stands_steps key mrc client number who request (standing.Again what) is new kept = answered_steps mrc client number what is kept
  stands_steps key mrc client number who request standing.Older is new kept = rests mrc mrc.osds is

  heard_steps : (mrc : MrcState) (from : NodeId) (rs : List RegistryRow) → Marked Is mrc.catalogue → StepMarked (rows_heard mrc from rs)
  heard_steps mrc from rs is = go (is_dir from) where
    go : (b : Bool) → StepMarked (cond b (nothing (record mrc { osds = nodes_of rs })) (nothing mrc))
    go true = rests mrc (nodes_of rs) is
    go false = rests mrc mrc.osds is

  registry_steps : (key : List ℕ) (mrc : MrcState) (from : NodeId) (number : ℕ) (what : RegistryAnswer) → Marked Is mrc.catalogue → StepMarked (told_by key mrc from (payload.RegistryReply number what))
  registry_steps key mrc from number (told.Rows rs) is = heard_steps mrc from rs is
  registry_steps key mrc from number _ is = rests mrc mrc.osds is

  told_steps : (key : List ℕ) (mrc : MrcState) (from : NodeId) (content : Payload) → Marked Is mrc.catalogue → PayloadMarked Is content → StepMarked (told_by key mrc from content)
  told_steps key mrc from (payload.Meta number user group request) is new =
      taken_or_not StepMarked key mrc from number (record { user = user; group = group }) request
      (stands_steps key mrc from number (record { user = user; group = group }) request (standing_of mrc.catalogue.clients from number) is new (standing_marked mrc.catalogue.clients from number is.answers)) (rests mrc mrc.osds is)
  told_steps key mrc from (payload.RegistryReply number what) is new = registry_steps key mrc from number what is
  told_steps key mrc from _ is new = rests mrc mrc.osds is

  handled_steps : (key : List ℕ) (mrc : MrcState) (happens : Event) → Marked Is mrc.catalogue → EventMarked Is happens → StepMarked (handled key mrc happens)
  handled_steps key mrc (event.Deliver msg) is new = told_steps key mrc msg.from msg.payload is new
  handled_steps key mrc event.Wake is new = record { marked = is; grants = one_sent _ tt }
  handled_steps key mrc (event.Call call) is new = rests mrc mrc.osds is

  pub step_marked : (key : List ℕ) (mrc : MrcState) (reading : ℕ) (happens : Event) → Marked Is mrc.catalogue → EventMarked Is happens → StepMarked (step_of_mrc key mrc reading happens)
  unfolding step_of_mrc
  step_marked key mrc reading happens is new = handled_steps key (record mrc { last = max reading mrc.last }) happens is new
