-- records that are put after others, with bodies that are copied from a store
use Rattle.std.proofs.Common.{◌≡◌, ◌+◌, ◌<◌, ℕ, true, false, cond, Bool, inl, List, [], ◌∷◌, ◌++◌, length, map, take, get_or, Option, Some, None, refl, sym, ◌∙◌, ap, subst, append_assoc}
use Rattle.std.specs.Prelude.{filter, flat_map}
use Rattle.std.specs.List.{All, AllByRecursion}
use Rattle.std.proofs.lemmas.Bool.{cond-true}
use Rattle.std.proofs.lemmas.List.{flat_map_more, map-append, take_more}
use Rattle.std.proofs.lemmas.List.Elements.{All-append, All-from_recursion, All-nil, All-push}
use Rattle.disk_model.specs.declared.disk.Disk.{Ghosts}
use Rattle.xt_base.specs.declared.ids.FileId.{FileId}
use Rattle.xt_base.specs.declared.ids.Stamp.{Stamp}
use Rattle.xt_messages.specs.declared.file.Location.{Location}
use Rattle.xt_messages.specs.declared.file.ObjectVersion.{ObjectVersion}
use Rattle.xt_messages.specs.declared.record.FileRow.{FileRow}
use Rattle.xt_messages.specs.declared.record.Folded.{Folded}
use Rattle.xt_messages.specs.declared.record.KeepBody.{KeepBody}
use Rattle.xt_messages.specs.declared.record.Record.{Record}
use Rattle.xt_messages.specs.declared.record.Record.TheVariants as kept
use Rattle.xt_protocol.specs.Folds.{digests_after, digests_kept, fold_of, is_logged, logged_of, widened}
use Rattle.xt_protocol.proofs.Folds.{logged_widened}
use Rattle.xt_protocol.specs.Forgetting.{close_of, records_of_row, records_of_rows, rewritten, row_without, view_of}
use Rattle.xt_protocol.specs.SeenBodies.{body_by}
use Rattle.object_store.specs.declared.copied.Copied.{Copied}
use Rattle.object_store.specs.declared.store.Store.{Store}
use Rattle.object_store.specs.Access.{disk_of, records_of}
use Rattle.object_store.specs.Bare.{bare_of}
use Rattle.object_store.specs.Places.{bytes_at}
use Rattle.body_digests.specs.declared.digests.Digests.{Digests}
use Rattle.body_digests.specs.Digests.{AreDigestsIn}
use Rattle.replica_records.proofs.BodyLaws.{PutsNone, digests_set, request_none}
use Rattle.object_store.proofs.BareFolds.{fold_bare, fold_of_bare, logged_bare}
use Rattle.object_store.proofs.Filled.{pair_of_none}
use Rattle.store_compact.specs.Adding.{AreAdded, IsOf, all_copied_of, copied_of, plain}

pub nothing_there : (told : Bool) (read : List ℕ) → bytes_at told read (record { at = 0; len = 0 }) ≡ []
nothing_there true read = refl
nothing_there false read = refl

-- records of requests put none
requests_none : (records : List Record) → AllByRecursion PutsNone (logged_of records)
unfolding logged_of
requests_none [] = tt
requests_none (rec ∷ recs) = at (is_logged rec) refl (requests_none recs)
  where
    at : (b : Bool) → is_logged rec ≡ b → AllByRecursion PutsNone (filter is_logged recs) → AllByRecursion PutsNone (cond b (rec ∷ filter is_logged recs) (filter is_logged recs))
    at true is rest = (request_none rec is, rest)
    at false is rest = rest

module _ {D : Type 0} {g : Ghosts D} (store : Store D g) where
  -- ---- records after others

  pub added_then : (a b c : List Copied) (x y : List Record) → AreAdded store a b x → AreAdded store b c y → AreAdded store a c (x ++ y)
  added_then a b c x y first second = record {
    are = second.are ∙ ap (λ (l : List Record). l ++ y) first.are ∙ append_assoc (all_copied_of store a) x y;
    of = λ all. second.of (first.of all);
  }

  added_all : (old new more : List Copied) (added : List Record) → new ≡ old ++ more → all_copied_of store more ≡ added → All (IsOf store) more → AreAdded store old new added
  added_all old new more added is are of = record {
    are = ap (all_copied_of store) is ∙ map-append (copied_of store) old more ∙ ap (λ (l : List Record). all_copied_of store old ++ l) are;
    of = λ all. subst (All (IsOf store)) (sym is) (All-append (IsOf store) old more all of);
  }

  -- ---- records without bodies

  pub one_added : (old new : List Copied) (rec : Record) → new ≡ old ++ plain rec ∷ [] → PutsNone rec → AreAdded store old new (rec ∷ [])
  one_added old new rec is none =
      added_all old new (plain rec ∷ []) (rec ∷ []) is
      (ap (λ (r : Record). r ∷ []) (none.stays (bytes_at g.is_told (g.kept (disk_of store)).read (record { at = 0; len = 0 }))))
      (All-push (IsOf store) [] (plain rec) (All-nil (IsOf store)) (record { pair = pair_of_none rec (record { at = 0; len = 0 }) none refl; place = inl refl }))

  pub view_added : (old new : List Copied) (file : FileId) (location : Option Location) → new ≡ old ++ map plain (view_of file location) → AreAdded store old new (view_of file location)
  view_added old new file None is = added_all old new [] [] is refl (All-nil (IsOf store))
  view_added old new file (Some location) is = one_added old new (kept.View file location) is (record { none = refl; stays = λ body. refl; key = refl })

  pub close_added : (old new : List Copied) (file : FileId) (closed : Option ℕ) → new ≡ old ++ map plain (close_of file closed) → AreAdded store old new (close_of file closed)
  close_added old new file None is = added_all old new [] [] is refl (All-nil (IsOf store))
  close_added old new file (Some version) is = one_added old new (kept.Close file version) is (record { none = refl; stays = λ body. refl; key = refl })

  plain_are : (records : List Record) → AllByRecursion PutsNone records → all_copied_of store (map plain records) ≡ records
  plain_are [] none = refl
  plain_are (r ∷ rs) none = λ i. none.0.stays (bytes_at g.is_told (g.kept (disk_of store)).read (record { at = 0; len = 0 })) i ∷ plain_are rs none.1 i

  plain_of : (records : List Record) → AllByRecursion PutsNone records → AllByRecursion (IsOf store) (map plain records)
  plain_of [] none = tt
  plain_of (r ∷ rs) none = (record { pair = pair_of_none r (record { at = 0; len = 0 }) none.0 refl; place = inl refl }, plain_of rs none.1)

  plain_added : (old new : List Copied) (records : List Record) → new ≡ old ++ map plain records → AllByRecursion PutsNone records → AreAdded store old new records
  plain_added old new records is none =
      added_all old new (map plain records) records is (plain_are records none) (All-from_recursion (IsOf store) (map plain records) (plain_of records none))

  logged_added : (old new : List Copied) (records : List Record) → new ≡ old ++ map plain (map widened (logged_of records)) → AreAdded store old new (map widened (logged_of records))
  logged_added old new records is =
      plain_added old new (map widened (logged_of records)) is (subst (AllByRecursion PutsNone) (logged_widened records) (requests_none (map widened records)))

  -- ---- bodies

  pub body_added : (old new : List Copied) (next : Copied) (rec : Record) → new ≡ old ++ next ∷ [] → copied_of store next ≡ rec → IsOf store next → AreAdded store old new (rec ∷ [])
  body_added old new next rec is same of =
      added_all old new (next ∷ []) (rec ∷ []) is (ap (λ (r : Record). r ∷ []) same) (All-push (IsOf store) [] next (All-nil (IsOf store)) of)

  seals_none : (file : FileId) (v : ObjectVersion) (digests : List (List ℕ)) → AllByRecursion PutsNone (map (λ digest. kept.Seal file v.object v.version digest) digests)
  seals_none file v [] = tt
  seals_none file v (d ∷ ds) = (record { none = refl; stays = λ body. refl; key = refl }, seals_none file v ds)

  pub seals_added : (old new : List Copied) (file : FileId) (v : ObjectVersion) (told digests : List (List ℕ))
      → new ≡ old ++ map plain (map (λ digest. kept.Seal file v.object v.version digest) told) → told ≡ digests
      → AreAdded store old new (map (λ digest. kept.Seal file v.object v.version digest) digests)
  seals_added old new file v told digests is same =
      plain_added old new (map (λ digest. kept.Seal file v.object v.version digest) digests)
      (is ∙ ap (λ (ds : List (List ℕ)). old ++ map plain (map (λ digest. kept.Seal file v.object v.version digest) ds)) same) (seals_none file v digests)

  -- what is put of a version, and then of those that are left
  pub versions_more : (said : ObjectVersion → List Record) (chosen : ObjectVersion → Bool) (made new : List Copied) (whole : List Record) (v : ObjectVersion)
      (left rest : List ObjectVersion) → left ≡ v ∷ rest → chosen v ≡ true → AreAdded store made new (said v)
      → all_copied_of store made ++ flat_map said (filter chosen left) ≡ whole → all_copied_of store new ++ flat_map said (filter chosen rest) ≡ whole
  versions_more said chosen made new whole v left rest is keeps added before =
      let later : filter chosen left ≡ v ∷ filter chosen rest =
      ap (filter chosen) is ∙ cond-true (chosen v) (v ∷ filter chosen rest) (filter chosen rest) keeps in
      ap (λ (l : List Record). l ++ flat_map said (filter chosen rest)) added.are
      ∙ append_assoc (all_copied_of store made) (said v) (flat_map said (filter chosen rest))
      ∙ ap (λ (vs : List ObjectVersion). all_copied_of store made ++ flat_map said vs) (sym later)
      ∙ before

-- ---- digests

-- those of the records without their bodies are theirs
digests_bare : (records : List Record) (file : FileId) (object : ℕ) (version : Stamp) → digests_kept (bare_of records) file object version ≡ digests_kept records file object version
unfolding digests_kept
digests_bare records file object version =
    fold_of_bare (digests_after file object version) (λ digests rec. digests_set file object version digests [] rec) [] records

pub digests_there : (digests : Digests) (slice records : List Record) → slice ≡ bare_of records → AreDigestsIn digests slice → AreDigestsIn digests records
digests_there digests slice records is are = record {
  each = λ file object version.
      are.each file object version ∙ ap (λ (rs : List Record). digests_kept rs file object version) is ∙ digests_bare records file object version;
}

-- ---- what is said of files

pub rows_more : (body : FileId → ℕ → Stamp → List ℕ) (digests : FileId → ℕ → Stamp → List (List ℕ)) (keep : List KeepBody) (rows : List FileRow) (i : ℕ) (row : FileRow)
    → i < length rows → row ≡ get_or rows i row
    → records_of_rows body digests (map (row_without keep) (take i rows)) ++ records_of_row body digests (row_without keep row)
    ≡ records_of_rows body digests (map (row_without keep) (take (i + 1) rows))
rows_more body digests keep rows i row inside is =
    flat_map_more (records_of_row body digests) [] (map (row_without keep) (take i rows)) (row_without keep row)
    ∙ ap (records_of_rows body digests)
    (sym (map-append (row_without keep) (take i rows) (row ∷ []))
    ∙ ap (map (row_without keep)) (ap (λ (r : FileRow). take i rows ++ r ∷ []) is ∙ sym (take_more rows i row inside)))

-- ---- all of it

module _ {D : Type 0} {g : Ghosts D} (store : Store D g) (keep : List KeepBody) where
  pub record Whole (made : List Copied) : Type 0 where
    pub are : all_copied_of store made ≡ rewritten keep (records_of store)
    pub of : All (IsOf store) made

  pub whole_added : (none one two made : List Copied) (slice : List Record) (folded : Folded) (files : List FileRow) (sought : List KeepBody) → none ≡ []
      → one ≡ none ++ plain (kept.Boot folded.boot) ∷ [] → two ≡ one ++ map plain (map widened (logged_of slice)) → slice ≡ bare_of (records_of store) → folded ≡ fold_of slice
      → files ≡ folded.files → sought ≡ keep
      → AreAdded store two made (records_of_rows (body_by (records_of store)) (digests_kept (records_of store)) (map (row_without sought) files)) → Whole made
  unfolding rewritten
  whole_added none one two made slice folded files sought nothing first second is_slice is_folded is_files is_sought third =
      let records = records_of store in
      let fold : folded ≡ fold_of records = is_folded ∙ ap fold_of is_slice ∙ fold_bare records in
      let boot : Record = kept.Boot (fold_of records).boot in
      let begun : AreAdded store [] one (boot ∷ []) =
      one_added store [] one boot (first ∙ ap (λ (l : List Copied). l ++ plain (kept.Boot folded.boot) ∷ []) nothing ∙ ap (λ (f : Folded). plain (kept.Boot f.boot) ∷ []) fold) (record { none = refl; stays = λ body. refl; key = refl }) in
      let asked : AreAdded store one two (map widened (logged_of records)) =
      logged_added store one two records (second ∙ ap (λ (l : List Record). one ++ map plain (map widened l)) (ap logged_of is_slice ∙ logged_bare records)) in
      let said : AreAdded store two made (records_of_rows (body_by records) (digests_kept records) (map (row_without keep) (fold_of records).files)) =
      subst (λ (k : List KeepBody). AreAdded store two made (records_of_rows (body_by records) (digests_kept records) (map (row_without k) (fold_of records).files))) is_sought
      (subst (λ (rows : List FileRow). AreAdded store two made (records_of_rows (body_by records) (digests_kept records) (map (row_without sought) rows))) (is_files ∙ ap (λ (f : Folded). f.files) fold) third) in
      let all = added_then store [] two made _ _ (added_then store [] one two _ _ begun asked) said in
      record { are = all.are; of = all.of (All-nil (IsOf store)) }
