-- what stands at paths stays within the limits, and what a request to the metadata server comes to is within them
use Rattle.std.proofs.Common.{◌≡◌, ℕ, zero, suc, ◌+◌, ◌<◌, ◌≤◌, ◌^◌, refl, sym, subst, Bool, true, false, cond, arith}
use Rattle.std.specs.Prelude.{Option, Some, None, Result, Ok, Err, List, [], ◌∷◌, ◌++◌, ◌&&◌, ◌==◌, map, filter, fold, take, drop, nat_lt, nat_le, length, not, IfSome, replicate, IsTrue}
use Rattle.std.specs.List.{AllByRecursion, cons_option}
use Rattle.std.specs.Ordering.{is_lt, nat_cmp}
use Rattle.std.specs.Cmp.Lexicographic.{slice_cmp}
use Rattle.std.specs.Str.{bytes_eq}
use Rattle.std.proofs.lemmas.Bool.{leb-true, leb-false, ltb-false}
use Rattle.std.proofs.lemmas.List.{length-take}
use Rattle.xt_base.specs.declared.TheConstants.{COUNTS}
use Rattle.xt_base.specs.MemberList.{are_members, are_distinct}
use Rattle.xt_base.specs.FieldLimits.{IsCount, FitsName}
use Rattle.xt_base.specs.declared.ids.NodeId.{NodeId}
use Rattle.xt_base.specs.declared.ids.FileId.{FileId}
use Rattle.xt_base.specs.declared.ids.SizeMark.{SizeMark}
use Rattle.xt_messages.specs.Limits.{FitsFile, FitsMark, FitsLocation, FitsStripe, FitsMembers, FitsMetaReq, FitsMetaRefusal, FitsMetaAnswer, FitsNames}
use Rattle.xt_messages.specs.declared.file.Kind.{Kind}
use Rattle.xt_messages.specs.declared.file.Kind.TheVariants as kind
use Rattle.xt_messages.specs.declared.file.Capability.{Capability}
use Rattle.xt_messages.specs.declared.reply.Denial.{Denial}
use Rattle.xt_messages.specs.declared.meta.MetaReq.{MetaReq}
use Rattle.xt_messages.specs.declared.meta.MetaReq.TheVariants as ask
use Rattle.xt_messages.specs.declared.meta.MetaRefusal.{MetaRefusal}
use Rattle.xt_messages.specs.declared.meta.MetaRefusal.TheVariants as refusal
use Rattle.xt_messages.specs.declared.meta.MetaAnswer.TheVariants as answer
use Rattle.capabilities.specs.Denials.{denial_of}
use Rattle.truncate_epochs.specs.SizeMarks.{is_smaller}
use Rattle.volume_rows.specs.declared.Asker.{Asker}
use Rattle.volume_rows.specs.declared.Entry.{Entry}
use Rattle.volume_rows.specs.declared.Stored.{Stored}
use Rattle.volume_rows.specs.declared.Content.{Content}
use Rattle.volume_rows.specs.declared.Content.TheVariants as content
use Rattle.volume_rows.specs.declared.Granting.{Granting}
use Rattle.volume_rows.specs.declared.Picked.{Picked}
use Rattle.volume_rows.specs.declared.Picked.TheVariants as place
use Rattle.volume_rows.specs.Paths.{Name, Path, path_in, name_in, parent_of, same_path, path_cmp, is_within}
use Rattle.volume_rows.specs.Rows.{Row, Volumes, mark_of, entry_in, entry_at, with_row, without_row, rows_within, rows_outside, moved, renamed, names_in, page_of}
use Rattle.volume_rows.specs.Rights.{passes, unless, is_directory, allows, searching, writing, reading, rule_of_read, rule_of_write, rule_of_owner, rule_of_search, ancestors_from, ancestors, absent, allowed, directory, empty, file, first_of, outside, owned, parent_writable, same_volume, there}
use Rattle.volume_rows.specs.Grants.{stored_of, stored_in, holds_file, with_sizes, sizes_of, sizes_set, sizes_in, wants_reading, granted, granted_of, located, located_as, unless_refused, next_epoch, wanted}
use Rattle.volume_rows.specs.Requests.{Outcome, done, tells, refused, after_tests, has_names, on_path, on_paths, made, new_file, file_placed, row_told, mode_put, directory_made, file_made, path_renamed, file_unlinked, directory_removed, entry_told, names_listed, mode_set}
use Rattle.server_rows.specs.declared.TheConstants.{LIFE}
use Rattle.server_rows.specs.declared.NewSizes.{NewSizes}
use Rattle.server_rows.specs.Requests as rows
use Rattle.server_rows.specs.Requests.{outcome_of, place_of, placed, location_on, nodes_in, settled, grant_settled, report_settled, grant_at, wants_truncating, capability_of, is_last_epoch, is_spent}
use Rattle.server_limits.specs.Limits.{FitsStored, FitsContent, FitsEntry, FitsPlace, FitsVolumes}
use Rattle.client_limits.proofs.Tags.{tag_fits}
use Rattle.server_limits.proofs.Bytes.{volume_bytes, volume_length}
use Rattle.server_limits.proofs.Texts.{PathFits, path_fits}

abbrev Names : Path → Type 0
Names path = AllByRecursion FitsName path

abbrev Rows : List Row → Type 0
Rows rs = AllByRecursion FitsPlace rs

-- ---- refusals

abbrev TestFits : Option MetaRefusal → Type 0
TestFits None = Unit {0}
TestFits (Some why) = FitsMetaRefusal why

unless_fits : (passed : Bool) (why : MetaRefusal) → FitsMetaRefusal why → TestFits (unless passed why)
unless_fits true why fits = tt
unless_fits false why fits = fits

first_fits : (tests : List (Option MetaRefusal)) → AllByRecursion TestFits tests → TestFits (first_of tests)
first_fits [] fits = tt
first_fits (Some why ∷ tests) fits = fits.0
first_fits (None ∷ tests) fits = first_fits tests fits.1

rule_fits : (rule : ℕ) → 1 ≤ rule → rule ≤ 4 → FitsMetaRefusal (refusal.Forbidden rule)
rule_fits rule low high = (low, high)

search_fits : FitsMetaRefusal rule_of_search
search_fits = rule_fits 1 (omega arith) (omega arith)

write_fits : FitsMetaRefusal rule_of_write
write_fits = rule_fits 2 (omega arith) (omega arith)

read_fits : FitsMetaRefusal rule_of_read
read_fits = rule_fits 3 (omega arith) (omega arith)

owner_fits : FitsMetaRefusal rule_of_owner
owner_fits = rule_fits 4 (omega arith) (omega arith)

passes_fit : (who : Asker) (entry : Option Entry) → TestFits (passes who entry)
passes_fit who None = tt
passes_fit who (Some entry) =
    first_fits (unless (is_directory entry.content) refusal.NotDir ∷ unless (allows who searching entry) rule_of_search ∷ [])
    (unless_fits (is_directory entry.content) refusal.NotDir tt, (unless_fits (allows who searching entry) rule_of_search search_fits, tt))

ancestors_from_fit : (who : Asker) (rs : List Row) (above path : Path) → TestFits (ancestors_from who rs above path)
ancestors_from_fit who rs above [] = tt
ancestors_from_fit who rs above (name ∷ []) = tt
ancestors_from_fit who rs above (name ∷ next ∷ names) =
    first_fits (passes who (entry_at rs (above ++ name ∷ [])) ∷ ancestors_from who rs (above ++ name ∷ []) (next ∷ names) ∷ [])
    (passes_fit who (entry_at rs (above ++ name ∷ [])), (ancestors_from_fit who rs (above ++ name ∷ []) (next ∷ names), tt))

ancestors_fit : (who : Asker) (rs : List Row) (path : Path) → TestFits (ancestors who rs path)
ancestors_fit who rs path = ancestors_from_fit who rs [] path

there_fits : (entry : Option Entry) → TestFits (there entry)
there_fits None = tt
there_fits (Some entry) = tt

absent_fits : (entry : Option Entry) → TestFits (absent entry)
absent_fits None = tt
absent_fits (Some entry) = tt

directory_fits : (entry : Option Entry) → TestFits (directory entry)
directory_fits None = tt
directory_fits (Some entry) = unless_fits (is_directory entry.content) refusal.NotDir tt

file_fits : (entry : Option Entry) → TestFits (file entry)
file_fits None = tt
file_fits (Some entry) = unless_fits (not (is_directory entry.content)) refusal.IsDir tt

allowed_fits : (who : Asker) (right : ℕ) (rule : MetaRefusal) (entry : Option Entry) → FitsMetaRefusal rule → TestFits (allowed who right rule entry)
allowed_fits who right rule None fits = tt
allowed_fits who right rule (Some entry) fits = unless_fits (allows who right entry) rule fits

owned_fits : (who : Asker) (entry : Option Entry) → TestFits (owned who entry)
owned_fits who None = tt
owned_fits who (Some entry) = unless_fits (who.user == entry.owner) rule_of_owner owner_fits

parent_fits : (who : Asker) (rs : List Row) (path : Path) → TestFits (parent_writable who rs path)
parent_fits who rs path = allowed_fits who writing rule_of_write (entry_at rs (parent_of path)) write_fits

empty_fits : (rs : List Row) (path : Path) → TestFits (empty rs path)
empty_fits rs path = unless_fits (length (names_in rs path) == 0) refusal.NotEmpty tt

same_fits : (from to : Path) → TestFits (same_volume from to)
same_fits (v ∷ n ∷ ns) (w ∷ m ∷ ms) = unless_fits (bytes_eq v w) refusal.OtherVolume tt
same_fits [] to = tt
same_fits (v ∷ []) to = tt
same_fits (v ∷ n ∷ ns) [] = tt
same_fits (v ∷ n ∷ ns) (w ∷ []) = tt

outside_fits : (from to : Path) → TestFits (outside from to)
outside_fits from to = unless_fits (not (is_within from to)) refusal.IntoSelf tt

wanted_fits : (who : Asker) (want : ℕ) (entry : Option Entry) → TestFits (wanted who want entry)
wanted_fits who want entry = go (wants_reading want) where
  go : (b : Bool) → TestFits (cond b (allowed who reading rule_of_read entry) (allowed who writing rule_of_write entry))
  go true = allowed_fits who reading rule_of_read entry read_fits
  go false = allowed_fits who writing rule_of_write entry write_fits

-- ---- rows

abbrev EntryIs : Option Entry → Type 0
EntryIs None = Unit {0}
EntryIs (Some entry) = FitsEntry entry

entry_in_is : (rs : List Row) (path : Path) → Rows rs → EntryIs (entry_in rs path)
entry_in_is [] path fits = tt
entry_in_is (r ∷ rs) path fits = go (same_path r.path path) (entry_in_is rs path fits.1) where
  go : (b : Bool) → EntryIs (entry_in rs path) → EntryIs (cond b (Some r.entry) (entry_in rs path))
  go true later = fits.0.stands
  go false later = later

entry_is : (rs : List Row) (path : Path) → Rows rs → EntryIs (entry_at rs path)
entry_is rs [] fits = record { user = omega arith; users = omega arith; rights = omega arith; what = tt }
entry_is rs (name ∷ names) fits = entry_in_is rs (name ∷ names) fits

row_put : (rs : List Row) (row : Row) → FitsPlace row → Rows rs → Rows (with_row rs row)
row_put [] row new fits = (new, tt)
row_put (r ∷ rs) row new fits = go (same_path r.path row.path) (is_lt (path_cmp row.path r.path)) (row_put rs row new fits.1) where
  go : (a b : Bool) → Rows (with_row rs row) → Rows (cond a (row ∷ rs) (cond b (row ∷ r ∷ rs) (r ∷ with_row rs row)))
  go true b later = (new, fits.1)
  go false true later = (new, fits)
  go false false later = (fits.0, later)

rows_left : (keeps : Row → Bool) (rs : List Row) → Rows rs → Rows (filter keeps rs)
rows_left keeps [] fits = tt
rows_left keeps (r ∷ rs) fits = go (keeps r) (rows_left keeps rs fits.1) where
  go : (b : Bool) → Rows (filter keeps rs) → Rows (cond b (r ∷ filter keeps rs) (filter keeps rs))
  go true later = (fits.0, later)
  go false later = later

names-append : (p q : Path) → Names p → Names q → Names (p ++ q)
names-append [] q first second = second
names-append (n ∷ p) q first second = (first.0, names-append p q first.1 second)

names-drop : (k : ℕ) (p : Path) → Names p → Names (drop k p)
names-drop zero p fits = fits
names-drop (suc k) [] fits = tt
names-drop (suc k) (n ∷ p) fits = names-drop k p fits.1

rows_moved : (from to : Path) (rs : List Row) → Names to → Rows rs → Rows (map (moved from to) rs)
rows_moved from to [] target fits = tt
rows_moved from to (r ∷ rs) target fits =
    (record { names = names-append to (drop (length from) r.path) target (names-drop (length from) r.path fits.0.names); stands = fits.0.stands }, rows_moved from to rs target fits.1)

all_put : (rs new : List Row) → Rows new → Rows rs → Rows (fold with_row rs new)
all_put rs [] new fits = fits
all_put rs (r ∷ more) new fits = all_put (with_row rs r) more new.1 (row_put rs r new.0 fits)

rows_renamed : (rs : List Row) (from to : Path) → Names to → Rows rs → Rows (renamed rs from to)
rows_renamed rs from to target fits =
    all_put (rows_outside from rs) (map (moved from to) (rows_within from rs))
    (rows_moved from to (rows_within from rs) target (rows_left (λ r. is_within from r.path) rs fits))
    (rows_left (λ r. not (is_within from r.path)) rs fits)

sized_is : (epoch : ℕ) (mark : SizeMark) (what : Content) → IsCount epoch → FitsMark mark → FitsContent what → FitsContent (with_sizes epoch mark what)
sized_is epoch mark content.Directory issued size fits = tt
sized_is epoch mark (content.File stored) issued size fits = record { own = fits.own; place = fits.place; issued = issued; size = size }

rows_sized : (file : FileId) (epoch : ℕ) (mark : SizeMark) (rs : List Row) → IsCount epoch → FitsMark mark → Rows rs → Rows (sizes_set file epoch mark rs)
rows_sized file epoch mark [] issued size fits = tt
rows_sized file epoch mark (r ∷ rs) issued size fits = (go (holds_file file r), rows_sized file epoch mark rs issued size fits.1) where
  go : (b : Bool) → FitsPlace (cond b (record { path = r.path; entry = record r.entry { content = with_sizes epoch mark r.entry.content } }) r)
  go true =
      record {
        names = fits.0.names;
        stands = record { user = fits.0.stands.user; users = fits.0.stands.users; rights = fits.0.stands.rights; what = sized_is epoch mark r.entry.content issued size fits.0.stands.what };
      }
  go false = fits.0

-- ---- names in a directory

abbrev NameIs : Option Name → Type 0
NameIs None = Unit {0}
NameIs (Some name) = FitsName name

name_is : (above path : Path) → Names path → NameIs (name_in above path)
name_is [] [] fits = tt
name_is [] (name ∷ []) fits = fits.0
name_is [] (name ∷ below ∷ names) fits = tt
name_is (outer ∷ outers) [] fits = tt
name_is (outer ∷ outers) (name ∷ names) fits = go (bytes_eq outer name) (name_is outers names fits.1) where
  go : (b : Bool) → NameIs (name_in outers names) → NameIs (cond b (name_in outers names) None)
  go true later = later
  go false later = tt

names_are : (rs : List Row) (path : Path) → Rows rs → Names (names_in rs path)
names_are [] path fits = tt
names_are (r ∷ rs) path fits = go (name_in path r.path) (name_is path r.path fits.0.names) (names_are rs path fits.1) where
  go : (o : Option Name) → NameIs o → Names (names_in rs path) → Names (cons_option o (names_in rs path))
  go None one later = later
  go (Some name) one later = (one, later)

some_left : (keeps : Name → Bool) (names : List Name) → Names names → Names (filter keeps names)
some_left keeps [] fits = tt
some_left keeps (n ∷ ns) fits = go (keeps n) (some_left keeps ns fits.1) where
  go : (b : Bool) → Names (filter keeps ns) → Names (cond b (n ∷ filter keeps ns) (filter keeps ns))
  go true later = (fits.0, later)
  go false later = later

some_first : (n : ℕ) (names : List Name) → Names names → Names (take n names)
some_first zero names fits = tt
some_first (suc n) [] fits = tt
some_first (suc n) (name ∷ names) fits = (fits.0, some_first n names fits.1)

page_fits : (rs : List Row) (path : Path) (after : Name) → Rows rs → FitsNames (page_of rs path after)
page_fits rs path after fits =
    let all = filter (λ name. is_lt (slice_cmp nat_cmp after name)) (names_in rs path) in
    let many = length-take 512 all in
    record { few = omega (arith, many); each = some_first 512 all (some_left (λ name. is_lt (slice_cmp nat_cmp after name)) (names_in rs path) (names_are rs path fits)) }

-- ---- each request

pub record Good (o : Outcome) : Type 0 where
  pub volumes : FitsVolumes o.volumes
  pub told : FitsMetaAnswer o.answer

pub record Asks (who : Asker) : Type 0 where
  pub user : who.user < 2 ^ 32
  pub users : who.group < 2 ^ 32

refused_good : (volumes : Volumes) (why : MetaRefusal) → FitsVolumes volumes → FitsMetaRefusal why → Good (refused volumes why)
refused_good volumes why fits is = record { volumes = fits; told = is }

path_good : (volumes : Volumes) (path : Option Path) (on : Path → Outcome) → FitsVolumes volumes → PathFits path → ((p : Path) → Names p → Good (on p)) → Good (on_path volumes path on)
path_good volumes None on fits is each = refused_good volumes refusal.NameBad fits tt
path_good volumes (Some path) on fits is each = each path is

tests_good : (volumes : Volumes) (test : Option MetaRefusal) (passed : Outcome) → FitsVolumes volumes → TestFits test → Good passed → Good (after_tests volumes test passed)
tests_good volumes (Some why) passed fits is after = refused_good volumes why fits is
tests_good volumes None passed fits is after = after

paths_good : (volumes : Volumes) (from to : Option Path) (on : Path → Path → Outcome) → FitsVolumes volumes → PathFits to → ((p q : Path) → Names q → Good (on p q)) → Good (on_paths volumes from to on)
paths_good volumes (Some from) (Some to) on fits is each = each from to is
paths_good volumes (Some from) None on fits is each = refused_good volumes refusal.NameBad fits tt
paths_good volumes None to on fits is each = refused_good volumes refusal.NameBad fits tt

named_fit : (least : ℕ) (path : Option Path) → PathFits path → PathFits (has_names least path)
named_fit least None fits = tt
named_fit least (Some path) fits = go (nat_le least (length path)) where
  go : (b : Bool) → PathFits (cond b (Some path) None)
  go true = fits
  go false = tt

done_good : (volumes : Volumes) (rs : List Row) → FitsVolumes volumes → Rows rs → Good (done volumes rs)
done_good volumes rs fits new = record { volumes = record { rows = new; least = fits.least; most = fits.most }; told = tt }

mkdir_good : (volumes : Volumes) (who : Asker) (mode : ℕ) (path : Path) → FitsVolumes volumes → Asks who → mode < 2 ^ 16 → Names path → Good (directory_made volumes who mode path)
mkdir_good volumes who mode path fits asks rights names =
    let rs = volumes.rows in
    let row : Row = made who mode content.Directory path in
    tests_good volumes (first_of (ancestors who rs path ∷ absent (entry_at rs path) ∷ parent_writable who rs path ∷ [])) (done volumes (with_row rs row)) fits
    (first_fits (ancestors who rs path ∷ absent (entry_at rs path) ∷ parent_writable who rs path ∷ []) (ancestors_fit who rs path, (absent_fits (entry_at rs path), (parent_fits who rs path, tt))))
    (done_good volumes (with_row rs row) fits (row_put rs row (record { names = names; stands = record { user = asks.user; users = asks.users; rights = rights; what = tt } }) fits.rows))

-- where a new file goes
abbrev pub PickFits : Picked → Type 0
PickFits (place.On location) = FitsLocation location
PickFits (place.TooFew have) = have < 2 ^ 8

placed_good : (volumes : Volumes) (who : Asker) (mode : ℕ) (path : Path) (pick : Picked) → FitsVolumes volumes → volumes.next < 2 ^ 62 → Asks who → mode < 2 ^ 16 → Names path → PickFits pick → Good (file_placed volumes who mode path pick)
placed_good volumes who mode path (place.TooFew have) fits left asks rights names picks = refused_good volumes (refusal.TooFew have) fits picks
placed_good volumes who mode path (place.On location) fits left asks rights names picks =
    let low = fits.least in
    let zero_is : 0 < 2 ^ 62 = omega arith in
    let none_is : 0 < 2 ^ 64 = omega arith in
    record {
      volumes =
          record {
            rows =
                row_put volumes.rows (made who mode (new_file volumes.next location) path)
                (record {
                  names = names;
                  stands =
                      record {
                        user = asks.user;
                        users = asks.users;
                        rights = rights;
                        what = record { own = left; place = picks; issued = zero_is; size = record { truncation = zero_is; bytes = none_is } };
                      };
                })
                fits.rows;
            least = omega (arith, low);
            most = omega (arith, left);
          };
      told = tt;
    }

create_good : (volumes : Volumes) (who : Asker) (mode : ℕ) (pick : Picked) (path : Path) → FitsVolumes volumes → volumes.next < 2 ^ 62 → Asks who → mode < 2 ^ 16 → Names path → PickFits pick → Good (file_made volumes who mode pick path)
create_good volumes who mode pick path fits left asks rights names picks =
    let rs = volumes.rows in
    tests_good volumes (first_of (ancestors who rs path ∷ absent (entry_at rs path) ∷ parent_writable who rs path ∷ [])) (file_placed volumes who mode path pick) fits
    (first_fits (ancestors who rs path ∷ absent (entry_at rs path) ∷ parent_writable who rs path ∷ []) (ancestors_fit who rs path, (absent_fits (entry_at rs path), (parent_fits who rs path, tt))))
    (placed_good volumes who mode path pick fits left asks rights names picks)

rename_good : (volumes : Volumes) (who : Asker) (from to : Path) → FitsVolumes volumes → Names to → Good (path_renamed volumes who from to)
rename_good volumes who from to fits names =
    let rs = volumes.rows in
    let tests =
    ancestors who rs from ∷ same_volume from to ∷ there (entry_at rs from) ∷ outside from to ∷ ancestors who rs to ∷ absent (entry_at rs to) ∷ parent_writable who rs from ∷ parent_writable who rs to
    ∷ []
    in
    tests_good volumes (first_of tests) (done volumes (renamed rs from to)) fits
    (first_fits tests
    (ancestors_fit who rs from, (same_fits from to, (there_fits (entry_at rs from), (outside_fits from to, (ancestors_fit who rs to, (absent_fits (entry_at rs to), (parent_fits who rs from, (parent_fits who rs to, tt)))))))))
    (done_good volumes (renamed rs from to) fits (rows_renamed rs from to names fits.rows))

unlink_good : (volumes : Volumes) (who : Asker) (path : Path) → FitsVolumes volumes → Good (file_unlinked volumes who path)
unlink_good volumes who path fits =
    let rs = volumes.rows in
    let tests = ancestors who rs path ∷ there (entry_at rs path) ∷ file (entry_at rs path) ∷ parent_writable who rs path ∷ [] in
    tests_good volumes (first_of tests) (done volumes (without_row rs path)) fits
    (first_fits tests (ancestors_fit who rs path, (there_fits (entry_at rs path), (file_fits (entry_at rs path), (parent_fits who rs path, tt)))))
    (done_good volumes (without_row rs path) fits (rows_left (λ r. not (same_path r.path path)) rs fits.rows))

rmdir_good : (volumes : Volumes) (who : Asker) (path : Path) → FitsVolumes volumes → Good (directory_removed volumes who path)
rmdir_good volumes who path fits =
    let rs = volumes.rows in
    let tests = ancestors who rs path ∷ there (entry_at rs path) ∷ directory (entry_at rs path) ∷ empty rs path ∷ parent_writable who rs path ∷ [] in
    tests_good volumes (first_of tests) (done volumes (without_row rs path)) fits
    (first_fits tests (ancestors_fit who rs path, (there_fits (entry_at rs path), (directory_fits (entry_at rs path), (empty_fits rs path, (parent_fits who rs path, tt))))))
    (done_good volumes (without_row rs path) fits (rows_left (λ r. not (same_path r.path path)) rs fits.rows))

list_good : (volumes : Volumes) (who : Asker) (after : List ℕ) (path : Path) → FitsVolumes volumes → Good (names_listed volumes who after path)
list_good volumes who after path fits =
    let rs = volumes.rows in
    let tests = ancestors who rs path ∷ there (entry_at rs path) ∷ directory (entry_at rs path) ∷ allowed who reading rule_of_read (entry_at rs path) ∷ [] in
    tests_good volumes (first_of tests) (tells volumes (answer.Names (page_of rs path after))) fits
    (first_fits tests (ancestors_fit who rs path, (there_fits (entry_at rs path), (directory_fits (entry_at rs path), (allowed_fits who reading rule_of_read (entry_at rs path) read_fits, tt)))))
    (record { volumes = fits; told = page_fits rs path after fits.rows })

mark_is : (what : Content) → FitsContent what → FitsMark (mark_of what)
mark_is content.Directory fits = record { truncation = omega arith; bytes = omega arith }
mark_is (content.File stored) fits = fits.size

row_good : (volumes : Volumes) (entry : Option Entry) → FitsVolumes volumes → EntryIs entry → Good (row_told volumes entry)
row_good volumes None fits is = refused_good volumes refusal.NotFound fits tt
row_good volumes (Some entry) fits is = record { volumes = fits; told = (is.user, is.users, is.rights, mark_is entry.content is.what) }

stat_good : (volumes : Volumes) (who : Asker) (path : Path) → FitsVolumes volumes → Good (entry_told volumes who path)
stat_good volumes who path fits =
    tests_good volumes (ancestors who volumes.rows path) (row_told volumes (entry_at volumes.rows path)) fits (ancestors_fit who volumes.rows path)
    (row_good volumes (entry_at volumes.rows path) fits (entry_is volumes.rows path fits.rows))

mode_good : (volumes : Volumes) (path : Path) (mode : ℕ) (entry : Option Entry) → FitsVolumes volumes → Names path → mode < 2 ^ 16 → EntryIs entry → Good (mode_put volumes path mode entry)
mode_good volumes path mode None fits names rights is = refused_good volumes refusal.NotFound fits tt
mode_good volumes path mode (Some entry) fits names rights is =
    let row : Row = record { path = path; entry = record entry { mode = mode } } in
    done_good volumes (with_row volumes.rows row) fits (row_put volumes.rows row (record { names = names; stands = record { user = is.user; users = is.users; rights = rights; what = is.what } }) fits.rows)

chmod_good : (volumes : Volumes) (who : Asker) (mode : ℕ) (path : Path) → FitsVolumes volumes → Names path → mode < 2 ^ 16 → Good (mode_set volumes who mode path)
chmod_good volumes who mode path fits names rights =
    let rs = volumes.rows in
    let tests = ancestors who rs path ∷ there (entry_at rs path) ∷ owned who (entry_at rs path) ∷ [] in
    tests_good volumes (first_of tests) (mode_put volumes path mode (entry_at rs path)) fits
    (first_fits tests (ancestors_fit who rs path, (there_fits (entry_at rs path), (owned_fits who (entry_at rs path), tt))))
    (mode_good volumes path mode (entry_at rs path) fits names rights (entry_is rs path fits.rows))

-- ---- grants and reports

abbrev SetsFit : Option NewSizes → Type 0
SetsFit None = Unit {0}
SetsFit (Some sizes) = IsCount sizes.epoch × FitsMark sizes.mark

sizes_good : (volumes : Volumes) (sets : Option NewSizes) → FitsVolumes volumes → SetsFit sets → FitsVolumes (rows.with_sizes volumes sets)
sizes_good volumes None fits new = fits
sizes_good volumes (Some sizes) fits new = record { rows = rows_sized sizes.file sizes.epoch sizes.mark volumes.rows new.0 new.1 fits.rows; least = fits.least; most = fits.most }

-- what is granted of a file, whose epoch may be past the last one only where a truncation is wanted
record Grants (want : ℕ) (grant : Granting) : Type 0 where
  subject : FitsFile grant.file
  place : FitsLocation grant.location
  size : FitsMark grant.mark
  issued : wants_truncating want ≡ false → IsCount grant.epoch

abbrev GrantIs : ℕ → Result Granting MetaRefusal → Type 0
GrantIs want (Err why) = FitsMetaRefusal why
GrantIs want (Ok grant) = Grants want grant

abbrev StoredIs : Option Stored → Type 0
StoredIs None = Unit {0}
StoredIs (Some stored) = FitsStored stored

content_stored : (what : Content) → FitsContent what → StoredIs (stored_of what)
content_stored content.Directory fits = tt
content_stored (content.File stored) fits = fits

-- no file stands at the path of no names
entry_stored : (rs : List Row) (name : Name) (names : Path) → Rows rs → StoredIs (stored_in (entry_at rs (name ∷ names)))
entry_stored rs name names fits = go (entry_at rs (name ∷ names)) (entry_is rs (name ∷ names) fits) where
  go : (entry : Option Entry) → EntryIs entry → StoredIs (stored_in entry)
  go None is = tt
  go (Some entry) is = content_stored entry.content is.what

granted_is : (want : ℕ) (name : Name) (names : Path) (stored : Option Stored) → StoredIs stored → GrantIs want (granted_of (name ∷ names) want stored)
granted_is want name names None fits = tt
granted_is want name names (Some stored) fits =
    let own = fits.own in
    let issued = fits.issued in
    record {
      subject = record { all = volume_bytes name; whole = volume_length name; own = omega (arith, own) };
      place = fits.place;
      size = fits.size;
      issued = λ other. subst (λ (b : Bool). IsCount (cond b (next_epoch stored.epoch) stored.epoch)) (sym other) issued;
    }

unless_is : (want : ℕ) (why : Option MetaRefusal) (grant : Result Granting MetaRefusal) → TestFits why → GrantIs want grant → GrantIs want (unless_refused why grant)
unless_is want (Some why) grant test is = test
unless_is want None grant test is = is

path_granted : (volumes : Volumes) (who : Asker) (want : ℕ) (name : Name) (names : Path) → FitsVolumes volumes → GrantIs want (granted volumes who want (Some (name ∷ names)))
path_granted volumes who want name names fits =
    let path = name ∷ names in
    let entry = entry_at volumes.rows path in
    let tests = ancestors who volumes.rows path ∷ there entry ∷ file entry ∷ wanted who want entry ∷ [] in
    unless_is want (first_of tests) (granted_of path want (stored_in entry))
    (first_fits tests (ancestors_fit who volumes.rows path, (there_fits entry, (file_fits entry, (wanted_fits who want entry, tt)))))
    (granted_is want name names (stored_in entry) (entry_stored volumes.rows name names fits.rows))

grant_is : (volumes : Volumes) (who : Asker) (want : ℕ) (path : Option Path) → FitsVolumes volumes → GrantIs want (granted volumes who want (has_names 1 path))
grant_is volumes who want None fits = tt
grant_is volumes who want (Some []) fits = tt
grant_is volumes who want (Some (name ∷ names)) fits = go (nat_le 1 (length (name ∷ names))) where
  go : (b : Bool) → GrantIs want (granted volumes who want (cond b (Some (name ∷ names)) None))
  go true = path_granted volumes who want name names fits
  go false = tt

located_fits : (grant : Result Granting MetaRefusal) → GrantIs 1 grant → FitsMetaAnswer (located grant)
located_fits (Err why) is = is
located_fits (Ok grant) is = go grant.location.kind where
  go : (k : Kind) → FitsMetaAnswer (located_as k grant.location)
  go kind.Replicated = is.place
  go kind.Striped = tt

mode_low : (b : Bool) → 1 ≤ cond b 1 2
mode_low true = omega arith
mode_low false = omega arith

mode_high : (b : Bool) → cond b 1 2 ≤ 2
mode_high true = omega arith
mode_high false = omega arith

epoch_left : (want : ℕ) (grant : Granting) → Grants want grant → (wants_truncating want && nat_le COUNTS grant.epoch) ≡ false → IsCount grant.epoch
epoch_left want grant is unspent = go (wants_truncating want) refl unspent where
  go : (b : Bool) → wants_truncating want ≡ b → (b && nat_le COUNTS grant.epoch) ≡ false → IsCount grant.epoch
  go true at h = leb-false COUNTS grant.epoch h
  go false at h = is.issued at

grant_good : (key : List ℕ) (volumes : Volumes) (now want : ℕ) (grant : Result Granting MetaRefusal) → FitsVolumes volumes → now < 2 ^ 62 → GrantIs want grant → (wants_truncating want && is_last_epoch grant) ≡ false
    → Good (settled volumes (grant_settled key now want grant))
grant_good key volumes now want (Err why) fits clock is unspent = record { volumes = fits; told = is }
grant_good key volumes now want (Ok grant) fits clock is unspent =
    let issued = epoch_left want grant is unspent in
    let bare : Capability = record {
      file = grant.file;
      mode = cond (wants_reading want) 1 2;
      expiry = now + LIFE;
      epoch = grant.epoch;
      location = grant.location;
      tag = replicate 32 0;
    }
    in
    record {
      volumes = sizes_good volumes (rows.sizes_granted want grant) fits (sets (wants_truncating want) issued);
      told = (
        record {
          subject = is.subject;
          low = mode_low (wants_reading want);
          high = mode_high (wants_reading want);
          clock = omega (arith, clock);
          truncation = issued;
          place = is.place;
          seal = tag_fits key bare;
        },
        is.size,
      );
    }
  where
    sets : (b : Bool) → IsCount grant.epoch → SetsFit (cond b (Some (record { file = grant.file; epoch = grant.epoch; mark = grant.mark })) None)
    sets true issued = (issued, is.size)
    sets false issued = tt

abbrev SizesAre : Option (ℕ × SizeMark) → Type 0
SizesAre None = Unit {0}
SizesAre (Some sizes) = IsCount sizes.0 × FitsMark sizes.1

sizes_are : (rs : List Row) (file : FileId) → Rows rs → SizesAre (sizes_in rs file)
sizes_are [] file fits = tt
sizes_are (r ∷ rs) file fits = go (holds_file file r) (content_stored r.entry.content fits.0.stands.what) (sizes_are rs file fits.1) where
  of_stored : (stored : Option Stored) → StoredIs stored → SizesAre (sizes_of stored)
  of_stored None is = tt
  of_stored (Some stored) is = (is.issued, is.size)

  go : (b : Bool) → StoredIs (stored_of r.entry.content) → SizesAre (sizes_in rs file) → SizesAre (cond b (sizes_of (stored_of r.entry.content)) (sizes_in rs file))
  go true is later = of_stored (stored_of r.entry.content) is
  go false is later = later

merged_sets : (file : FileId) (sizes : ℕ × SizeMark) (mark : SizeMark) → IsCount sizes.0 → FitsMark sizes.1 → FitsMark mark → SetsFit (rows.sizes_merged file sizes mark)
merged_sets file sizes mark issued size new = go (is_smaller sizes.1 mark) where
  go : (b : Bool) → SetsFit (cond b (Some (record { file = file; epoch = sizes.0; mark = cond b mark sizes.1 })) None)
  go true = (issued, new)
  go false = tt

report_good : (volumes : Volumes) (file : FileId) (denial : Option Denial) (sizes : Option (ℕ × SizeMark)) (mark : SizeMark) → FitsVolumes volumes → SizesAre sizes → FitsMark mark → Good (settled volumes (report_settled file denial sizes mark))
report_good volumes file (Some rule) sizes mark fits are new = record { volumes = fits; told = tt }
report_good volumes file None None mark fits are new = record { volumes = fits; told = tt }
report_good volumes file None (Some sizes) mark fits are new =
    record { volumes = sizes_good volumes (rows.sizes_merged file sizes mark) fits (merged_sets file sizes mark are.0 are.1 new); told = tt }

-- ---- any request

few_members : (nodes : List NodeId) → IsTrue (are_members nodes) → length nodes ≤ 9
few_members nodes is = go (nat_le 1 (length nodes)) (nat_le (length nodes) 9) (are_distinct nodes) refl is where
  go : (a b c : Bool) → nat_le (length nodes) 9 ≡ b → IsTrue (a && b && c) → length nodes ≤ 9
  go a true c at h = leb-true (length nodes) 9 at
  go true false c at h = absurd (cc)
  go false false c at h = absurd (cc)

pub placed_fits : (kind : Kind) (n stripe : ℕ) (nodes : Option (List NodeId)) → 1 ≤ n → FitsStripe stripe → IfSome nodes FitsMembers → PickFits (placed kind n stripe (nodes_in nodes))
placed_fits kind n stripe None some size fits = go (nat_lt 0 n) refl where
  go : (b : Bool) → nat_lt 0 n ≡ b → PickFits (cond b (place.TooFew 0) (place.On (location_on kind stripe [])))
  go true is = omega arith
  go false is = let none = ltb-false 0 n is in absurd (omega (arith, none, some))
placed_fits kind n stripe (Some nodes) some size fits = go (nat_lt (length nodes) n) where
  few : length nodes < 2 ^ 8
  few = let most = few_members nodes fits.different in omega (arith, most)

  go : (b : Bool) → PickFits (cond b (place.TooFew (length nodes)) (place.On (location_on kind stripe nodes)))
  go true = few
  go false = record { changes = omega arith; size = size; nodes = fits }

pub request_good : (key : List ℕ) (volumes : Volumes) (who : Asker) (now : ℕ) (nodes : Option (List NodeId)) (request : MetaReq) → FitsVolumes volumes → Asks who → now < 2 ^ 62 → IfSome nodes FitsMembers → FitsMetaReq request
    → is_spent volumes who request ≡ false → Good (outcome_of key volumes who now nodes request)
request_good key volumes who now nodes (ask.Mkdir path mode) fits asks clock members asked unspent =
    path_good volumes (has_names 1 (path_in path)) (directory_made volumes who mode) fits (named_fit 1 (path_in path) (path_fits path asked.0)) (λ p names. mkdir_good volumes who mode p fits asks asked.1 names)
request_good key volumes who now nodes (ask.Create path mode kind n stripe) fits asks clock members asked unspent =
    let pick = place_of nodes (ask.Create path mode kind n stripe) in
    path_good volumes (has_names 2 (path_in path)) (file_made volumes who mode pick) fits (named_fit 2 (path_in path) (path_fits path asked.0))
    (λ p names. create_good volumes who mode pick p fits (leb-false COUNTS volumes.next unspent) asks asked.1 names (placed_fits kind n stripe nodes asked.2 asked.4 members))
request_good key volumes who now nodes (ask.Rename from to) fits asks clock members asked unspent =
    paths_good volumes (has_names 1 (path_in from)) (has_names 1 (path_in to)) (path_renamed volumes who) fits (named_fit 1 (path_in to) (path_fits to asked.1)) (λ p q names. rename_good volumes who p q fits names)
request_good key volumes who now nodes (ask.Unlink path) fits asks clock members asked unspent =
    path_good volumes (has_names 1 (path_in path)) (file_unlinked volumes who) fits (named_fit 1 (path_in path) (path_fits path asked)) (λ p names. unlink_good volumes who p fits)
request_good key volumes who now nodes (ask.Rmdir path) fits asks clock members asked unspent =
    path_good volumes (has_names 1 (path_in path)) (directory_removed volumes who) fits (named_fit 1 (path_in path) (path_fits path asked)) (λ p names. rmdir_good volumes who p fits)
request_good key volumes who now nodes (ask.List path after) fits asks clock members asked unspent =
    path_good volumes (path_in path) (names_listed volumes who after) fits (path_fits path asked.0) (λ p names. list_good volumes who after p fits)
request_good key volumes who now nodes (ask.Stat path) fits asks clock members asked unspent =
    path_good volumes (has_names 1 (path_in path)) (entry_told volumes who) fits (named_fit 1 (path_in path) (path_fits path asked)) (λ p names. stat_good volumes who p fits)
request_good key volumes who now nodes (ask.Chmod path mode) fits asks clock members asked unspent =
    path_good volumes (has_names 1 (path_in path)) (mode_set volumes who mode) fits (named_fit 1 (path_in path) (path_fits path asked.0)) (λ p names. chmod_good volumes who mode p fits names asked.1)
request_good key volumes who now nodes (ask.Grant path want) fits asks clock members asked unspent =
    grant_good key volumes now want (grant_at volumes who want path) fits clock (grant_is volumes who want (path_in path) fits) unspent
request_good key volumes who now nodes (ask.Report capability mark) fits asks clock members asked unspent =
    report_good volumes capability.file (denial_of key capability capability.file now true) (sizes_in volumes.rows capability.file) mark fits (sizes_are volumes.rows capability.file fits.rows) asked.1
request_good key volumes who now nodes (ask.Change path list) fits asks clock members asked unspent = record { volumes = fits; told = tt }
request_good key volumes who now nodes (ask.Locate path) fits asks clock members asked unspent =
    record { volumes = fits; told = located_fits (grant_at volumes who 1 path) (grant_is volumes who 1 (path_in path) fits) }
