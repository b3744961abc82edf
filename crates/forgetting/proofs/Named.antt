-- Heads name bodies that are held, and an OSD that forgets keeps those that it needs.
use Rattle.std.proofs.Common.{◌≡◌, ◌==◌, ◌&&◌, ◌||◌, ℕ, zero, suc, Bool, true, false, cond, List, [], ◌∷◌, ◌++◌, Option, Some, None, refl, ap, sym, subst, ◌∙◌, map, arith}
use Rattle.std.specs.Prelude.{filter, flat_map, Contains, nat_lt}
use Rattle.std.specs.List.{fold, All, AllByRecursion, list_any}
use Rattle.xt_base.specs.declared.TheConstants.{NO_OBJECT}
use Rattle.xt_base.specs.declared.ids.FileId.{FileId}
use Rattle.xt_base.specs.declared.ids.NodeId.{NodeId}
use Rattle.xt_base.specs.declared.ids.Stamp.{Stamp}
use Rattle.xt_messages.specs.declared.file.ObjectVersion.{ObjectVersion}
use Rattle.xt_messages.specs.declared.file.Update.{Update}
use Rattle.xt_messages.specs.declared.record.FileRow.{FileRow}
use Rattle.xt_messages.specs.declared.record.Folded.{Folded}
use Rattle.xt_messages.specs.declared.record.KeepBody.{KeepBody}
use Rattle.xt_messages.specs.declared.record.Record.{Record}
use Rattle.xt_messages.specs.declared.record.Record.TheVariants as kept
use Rattle.xt_protocol.specs.FileIds.{is_file, is_before}
use Rattle.xt_protocol.specs.FileStates.{FileState}
use Rattle.xt_protocol.specs.Folds.{row_in, with_row, without_row, row_after, rows_after, file_of, forgets, folded_after, nothing_kept, body_of, held_after, fold_of, IsInPlace, AreInPlace}
use Rattle.xt_protocol.specs.Forgetting.{is_needed, needed_of, keep_of, is_kept}
use Rattle.xt_protocol.specs.Heads.{head_after, versions_below, with_version}
use Rattle.xt_protocol.specs.Stamps.{is_version, has_version, with_held}
use Rattle.xt_protocol.proofs.FileRows.{each-without_row}
use Rattle.xt_protocol.proofs.Folds.{file-itself}
use Rattle.xt_protocol.proofs.Stamps.{version-equal, version-itself, has_version-with_held}
use Rattle.forgetting.specs.Rewritten.{NamesAreHeld, NeededAreKept}

-- ---- versions

abbrev Names : List ObjectVersion → List ObjectVersion → Type 0
Names held versions = AllByRecursion (λ (v : ObjectVersion). has_version held v ≡ true) versions

pub or_right : (a b : Bool) → b ≡ true → (a || b) ≡ true
or_right true b is = refl
or_right false b is = is

pub or_left : (a b : Bool) → a ≡ true → (a || b) ≡ true
or_left true b is = refl
or_left false b is = absurd cc

grows : (held : List ObjectVersion) (v : ObjectVersion) (versions : List ObjectVersion) → Names held versions → Names (with_held held v) versions
grows held v [] all = tt
grows held v (w ∷ ws) all = (has_version-with_held held v w ∙ or_right (is_version w v) (has_version held w) all.0, grows held v ws all.1)

fewer : (test : ObjectVersion → Bool) (held versions : List ObjectVersion) → Names held versions → Names held (filter test versions)
fewer test held [] all = tt
fewer test held (w ∷ ws) all = at (test w) (fewer test held ws all.1)
  where
    at : (b : Bool) → Names held (filter test ws) → Names held (cond b (w ∷ filter test ws) (filter test ws))
    at true rest = (all.0, rest)
    at false rest = rest

one_more : (held versions : List ObjectVersion) (object : ℕ) (version : Stamp) → has_version held (body_of object version) ≡ true → Names held versions → Names held (with_version versions object version)
one_more held [] object version here all = (here, tt)
one_more held (w ∷ ws) object version here all = at (w.object == object) (nat_lt object w.object) (one_more held ws object version here all.1)
  where
    at : (same before : Bool) → Names held (with_version ws object version)
        → Names held (cond same (body_of object version ∷ ws) (cond before (body_of object version ∷ w ∷ ws) (w ∷ with_version ws object version)))
    at true before rest = (here, all.1)
    at false true rest = (here, all)
    at false false rest = (all.0, rest)

pub contained : (held : List ObjectVersion) (v : ObjectVersion) → Contains held v → has_version held v ≡ true
contained [] v (k, lt, is) = absurd (omega arith)
contained (h ∷ hs) v (zero, lt, is) = or_left (is_version v h) (has_version hs v) (subst (λ (x : ObjectVersion). is_version v x ≡ true) (sym is) (version-itself v))
contained (h ∷ hs) v (suc k, lt, is) = or_right (is_version v h) (has_version hs v) (contained hs v (k, omega arith, is))

all_contained : (held versions : List ObjectVersion) → All (Contains held) versions → Names held versions
all_contained held [] all = tt
all_contained held (v ∷ vs) all = (contained held v (all 0 v (omega arith)), all_contained held vs (λ k d lt. all (suc k) d (omega arith)))

-- ---- rows

abbrev NamesRow : FileRow → Type 0
NamesRow row = Names row.held row.head.versions

-- a record that is in its place on a row
abbrev IsOn : FileRow → Record → Type 0
IsOn row (kept.Head file head) = All (Contains row.held) head.versions
IsOn row (kept.Install file location head) = All (Contains row.held) head.versions
IsOn row (kept.OldHead file head) = All (Contains row.held) head.versions
IsOn row (kept.OldInstall file location head) = All (Contains row.held) head.versions
IsOn row _ = Unit {0}

update_names : (row : FileRow) (u : Update) → NamesRow row → Names (held_after row.held u) (head_after row.head u).versions
update_names row u names = at (u.object == NO_OBJECT)
  where
    at : (b : Bool) → Names (cond b row.held (with_held row.held (body_of u.object u.stamp)))
        (cond b (versions_below row.head.versions u.drop_from) (with_version (versions_below row.head.versions u.drop_from) u.object u.stamp))
    at true = fewer (λ (v : ObjectVersion). nat_lt v.object u.drop_from) row.held row.head.versions names
    at false =
        one_more (with_held row.held (body_of u.object u.stamp)) (versions_below row.head.versions u.drop_from) u.object u.stamp
        (has_version-with_held row.held (body_of u.object u.stamp) (body_of u.object u.stamp) ∙ or_left (is_version (body_of u.object u.stamp) (body_of u.object u.stamp)) _ (version-itself (body_of u.object u.stamp)))
        (grows row.held (body_of u.object u.stamp) (versions_below row.head.versions u.drop_from) (fewer (λ (v : ObjectVersion). nat_lt v.object u.drop_from) row.held row.head.versions names))

row_names : (row : FileRow) (rec : Record) → NamesRow row → IsOn row rec → NamesRow (row_after row rec)
row_names row (kept.Update file u) names on = update_names row u names
row_names row (kept.OldUpdate file u) names on = update_names row u names
row_names row (kept.Stage file object version bytes) names on = grows row.held (body_of object version) row.head.versions names
row_names row (kept.OldStage file object version bytes) names on = grows row.held (body_of object version) row.head.versions names
row_names row (kept.Head file head) names on = all_contained row.held head.versions on
row_names row (kept.OldHead file head) names on = all_contained row.held head.versions on
row_names row (kept.Install file location head) names on = all_contained row.held head.versions on
row_names row (kept.OldInstall file location head) names on = all_contained row.held head.versions on
row_names row (kept.Forget file) names on = tt
row_names row _ names on = names

read_names : (rows : List FileRow) (file : FileId) → AllByRecursion NamesRow rows → NamesRow (row_in rows file)
unfolding row_in
read_names [] file all = tt
read_names (r ∷ rs) file all = at (is_file r.file file) (read_names rs file all.1)
  where
    at : (b : Bool) → NamesRow (row_in rs file) → NamesRow (cond b r (row_in rs file))
    at true rest = all.0
    at false rest = rest

put_names : (rows : List FileRow) (row : FileRow) → AllByRecursion NamesRow rows → NamesRow row → AllByRecursion NamesRow (with_row rows row)
unfolding with_row
put_names [] row all is = (is, tt)
put_names (r ∷ rs) row all is = at (is_file r.file row.file) (is_before row.file r.file) (put_names rs row all.1 is)
  where
    at : (same before : Bool) → AllByRecursion NamesRow (with_row rs row) → AllByRecursion NamesRow (cond same (row ∷ rs) (cond before (row ∷ r ∷ rs) (r ∷ with_row rs row)))
    at true before rest = (is, all.1)
    at false true rest = (is, all)
    at false false rest = (all.0, rest)

some_file : {a b : FileId} → Some a ≡ Some b → a ≡ b
some_file p = cc

on_row : (f : Folded) (rec : Record) (file : FileId) → file_of rec ≡ Some file → IsInPlace f rec → IsOn (row_in f.files file) rec
on_row f (kept.Head k head) file of placed = subst (λ (x : FileId). All (Contains (row_in f.files x).held) head.versions) (some_file of) placed
on_row f (kept.Install k location head) file of placed = subst (λ (x : FileId). All (Contains (row_in f.files x).held) head.versions) (some_file of) placed
on_row f (kept.OldHead k head) file of placed = subst (λ (x : FileId). All (Contains (row_in f.files x).held) head.versions) (some_file of) placed
on_row f (kept.OldInstall k location head) file of placed = subst (λ (x : FileId). All (Contains (row_in f.files x).held) head.versions) (some_file of) placed
on_row f _ file of placed = tt

next_names : (f : Folded) (rec : Record) (o : Option FileId) → file_of rec ≡ o → IsInPlace f rec → AllByRecursion NamesRow f.files → AllByRecursion NamesRow (rows_after f.files rec o)
next_names f rec None of placed all = all
next_names f rec (Some file) of placed all = at (forgets rec)
  where
    at : (gone : Bool) → AllByRecursion NamesRow (cond gone (without_row f.files file) (with_row f.files (row_after (row_in f.files file) rec)))
    at true = each-without_row NamesRow f.files file all
    at false = put_names f.files (row_after (row_in f.files file) rec) all (row_names (row_in f.files file) rec (read_names f.files file all) (on_row f rec file of placed))

all_names : (records : List Record) (f : Folded) → AreInPlace f records → AllByRecursion NamesRow f.files → AllByRecursion NamesRow (fold folded_after f records).files
all_names [] f placed all = all
all_names (rec ∷ recs) f placed all = all_names recs (folded_after f rec) placed.1 (next_names f rec (file_of rec) refl placed.0 all)

at_row : (P : FileRow → Type 0) (rows : List FileRow) (row : FileRow) → AllByRecursion P rows → Contains rows row → P row
at_row P [] row all (k, lt, is) = absurd (omega arith)
at_row P (r ∷ rs) row all (zero, lt, is) = subst P is all.0
at_row P (r ∷ rs) row all (suc k, lt, is) = at_row P rs row all.1 (k, omega arith, is)

at_version : (P : ObjectVersion → Type 0) (vs : List ObjectVersion) (v : ObjectVersion) → AllByRecursion P vs → Contains vs v → P v
at_version P [] v all (k, lt, is) = absurd (omega arith)
at_version P (w ∷ ws) v all (zero, lt, is) = subst P is all.0
at_version P (w ∷ ws) v all (suc k, lt, is) = at_version P ws v all.1 (k, omega arith, is)

pub names_held : NamesAreHeld
unfolding fold_of
names_held records placed row has v named =
    at_version (λ (w : ObjectVersion). has_version row.held w ≡ true) row.head.versions v (at_row NamesRow (fold folded_after nothing_kept records).files row (all_names records nothing_kept placed tt) has) named

-- ---- what is needed

any_left : {A : Type 0} (test : A → Bool) (xs ys : List A) → list_any test xs ≡ true → list_any test (xs ++ ys) ≡ true
any_left test [] ys is = absurd cc
any_left test (x ∷ xs) ys is = at (test x) is (any_left test xs ys)
  where
    at : (b : Bool) → (b || list_any test xs) ≡ true → (list_any test xs ≡ true → list_any test (xs ++ ys) ≡ true) → (b || list_any test (xs ++ ys)) ≡ true
    at true is rest = refl
    at false is rest = rest is

any_right : {A : Type 0} (test : A → Bool) (xs ys : List A) → list_any test ys ≡ true → list_any test (xs ++ ys) ≡ true
any_right test [] ys is = is
any_right test (x ∷ xs) ys is = or_right (test x) (list_any test (xs ++ ys)) (any_right test xs ys is)

-- a needed body of a file is among those that are kept
one_kept : (n : NodeId) (f : FileState) (v : ObjectVersion) → (vs : List ObjectVersion) → has_version vs v ≡ true → is_needed n f v ≡ true
    → is_kept (map (λ (w : ObjectVersion). record { file = f.kept.file; object = w.object; version = w.version }) (filter (is_needed n f) vs)) f.kept.file v ≡ true
one_kept n f v [] has need = absurd cc
one_kept n f v (w ∷ ws) has need = at (is_version v w) refl has (one_kept n f v ws)
  where
    body : ObjectVersion → KeepBody
    body x = record { file = f.kept.file; object = x.object; version = x.version }

    Kept : List ObjectVersion → Type 0
    Kept xs = is_kept (map body (filter (is_needed n f) xs)) f.kept.file v ≡ true

    skip : (b : Bool) → Kept ws → is_kept (map body (cond b (w ∷ filter (is_needed n f) ws) (filter (is_needed n f) ws))) f.kept.file v ≡ true
    skip true rest = or_right (is_file f.kept.file f.kept.file && is_version w v) (is_kept (map body (filter (is_needed n f) ws)) f.kept.file v) rest
    skip false rest = rest

    both : (a b : Bool) → a ≡ true → b ≡ true → (a && b) ≡ true
    both true b p q = q
    both false b p q = absurd cc

    this : w ≡ v → (b : Bool) → is_needed n f w ≡ b → is_kept (map body (cond b (w ∷ filter (is_needed n f) ws) (filter (is_needed n f) ws))) f.kept.file v ≡ true
    this same true is =
        or_left (is_file f.kept.file f.kept.file && is_version w v) (is_kept (map body (filter (is_needed n f) ws)) f.kept.file v)
        (both (is_file f.kept.file f.kept.file) (is_version w v) (file-itself f.kept.file) (subst (λ (x : ObjectVersion). is_version w x ≡ true) same (version-itself w)))
    this same false is = absurd (let no : true ≡ false = sym need ∙ ap (is_needed n f) (sym same) ∙ is in cc no)

    at : (b : Bool) → is_version v w ≡ b → (b || has_version ws v) ≡ true → (has_version ws v ≡ true → is_needed n f v ≡ true → Kept ws) → Kept (w ∷ ws)
    at true is has rest = this (sym (version-equal v w is)) (is_needed n f w) refl
    at false is has rest = skip (is_needed n f w) (rest has need)

in_all : (n : NodeId) (files : List FileState) (f : FileState) (v : ObjectVersion) → Contains files f → is_kept (needed_of n f) f.kept.file v ≡ true → is_kept (flat_map (needed_of n) files) f.kept.file v ≡ true
in_all n [] f v (k, lt, is) here = absurd (omega arith)
in_all n (x ∷ xs) f v (zero, lt, is) here =
    any_left (λ (k : KeepBody). is_file k.file f.kept.file && is_version (body_of k.object k.version) v) (needed_of n x) (flat_map (needed_of n) xs)
    (subst (λ (y : FileState). is_kept (needed_of n y) f.kept.file v ≡ true) (sym is) here)
in_all n (x ∷ xs) f v (suc k, lt, is) here =
    any_right (λ (k : KeepBody). is_file k.file f.kept.file && is_version (body_of k.object k.version) v) (needed_of n x) (flat_map (needed_of n) xs)
    (in_all n xs f v (k, omega arith, is) here)

still_has : (test : ObjectVersion → Bool) (held : List ObjectVersion) (v : ObjectVersion) → has_version held v ≡ true → test v ≡ true → has_version (filter test held) v ≡ true
still_has test [] v has is = absurd cc
still_has test (h ∷ hs) v has is = at (is_version v h) refl has (λ k. still_has test hs v k is)
  where
    skip : (b : Bool) → has_version (filter test hs) v ≡ true → has_version (cond b (h ∷ filter test hs) (filter test hs)) v ≡ true
    skip true rest = or_right (is_version v h) (has_version (filter test hs) v) rest
    skip false rest = rest

    this : h ≡ v → (b : Bool) → test h ≡ b → has_version (cond b (h ∷ filter test hs) (filter test hs)) v ≡ true
    this same true e = or_left (is_version v h) (has_version (filter test hs) v) (subst (λ (x : ObjectVersion). is_version x h ≡ true) same (version-itself h))
    this same false e = absurd (let no : true ≡ false = sym is ∙ ap test (sym same) ∙ e in cc no)

    at : (b : Bool) → is_version v h ≡ b → (b || has_version hs v) ≡ true → (has_version hs v ≡ true → has_version (filter test hs) v ≡ true) → has_version (cond (test h) (h ∷ filter test hs) (filter test hs)) v ≡ true
    at true e has rest = this (sym (version-equal v h e)) (test h) refl
    at false e has rest = skip (test h) (rest has)

pub needed_kept : NeededAreKept
unfolding keep_of
needed_kept s f v has held need =
    still_has (is_kept (flat_map (needed_of s.started.node) s.files) f.kept.file) f.kept.held v held
    (in_all s.started.node s.files f v has (one_kept s.started.node f v f.kept.held held need))
