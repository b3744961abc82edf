-- which files are one; and what the records of a node say, one record after the other
use Rattle.std.proofs.Common.{◌≡◌, ◌==◌, ◌&&◌, ℕ, Bool, true, false, not, List, [], ◌∷◌, ◌++◌, map, Some, None, refl, ap, sym, ◌∙◌, cond, eq-eqb, arith}
use Rattle.std.specs.Prelude.{filter}
use Rattle.std.proofs.lemmas.Bool.{and_parts, and_from, eqb-true}
use Rattle.std.proofs.lemmas.Bool.Decides.{nat_tests}
use Rattle.std.proofs.lemmas.List.Elements.{filter-append}
use Rattle.std.proofs.lemmas.List.Sums.{fold-append}
use Rattle.std.proofs.lemmas.Cmp.{nat_cmp_total, nat_list_cmp_total, then_total, on_total}
use Rattle.std.proofs.lemmas.Slice.Eq.{bytes_eq-Decides}
use Rattle.std.proofs.lemmas.Map.Text.{is_eq-slice_cmp}
use Rattle.std.specs.Ordering.{is_eq, nat_cmp, ordering_then}
use Rattle.std.specs.Cmp.{IsTotalOrder}
use Rattle.std.specs.Cmp.Lexicographic.{slice_cmp}
use Rattle.std.specs.Str.{bytes_eq}
use Rattle.std.specs.List.{fold}
use Rattle.std.specs.declared.cmp.Ordering.{Ordering}
use Rattle.std.specs.declared.cmp.Ordering.TheVariants.{Less, Equal, Greater}
use Rattle.xt_base.specs.declared.ids.FileId.{FileId}
use Rattle.xt_base.specs.declared.ids.Stamp.{Stamp}
use Rattle.xt_messages.specs.declared.record.Record.{Record}
use Rattle.xt_messages.specs.declared.record.Record.TheVariants as kept
use Rattle.xt_messages.specs.declared.record.FileRow.{FileRow}
use Rattle.xt_messages.specs.declared.record.Folded.{Folded}
use Rattle.xt_protocol.specs.FileIds.{is_file, is_before, file_cmp}
use Rattle.xt_protocol.specs.Folds.{new_row, row_in, with_row, without_row, row_after, rows_after, folded_after, nothing_kept, fold_of, is_logged, logged_of, widened, body_after, body_kept, digests_after, digests_kept}

-- ---- which files are one

-- the same volume and the same number are the same file
pub file-equal : (a b : FileId) → is_file a b ≡ true → a ≡ b
file-equal a b same =
    let parts = and_parts (bytes_eq a.volume b.volume) (a.number == b.number) same in
    let of : List ℕ → ℕ → FileId = λ volume number. record { volume = volume; number = number } in
    ap (λ v. of v a.number) ((bytes_eq-Decides a.volume b.volume).0 parts.0)
    ∙ ap (λ n. of b.volume n) (eqb-true a.number b.number parts.1)

pub file-itself : (a : FileId) → is_file a a ≡ true
file-itself a =
    and_from _ _ ((bytes_eq-Decides a.volume a.volume).1 refl) (eq-eqb a.number a.number refl)

pub file-back : (a b : FileId) → is_file a b ≡ true → is_file b a ≡ true
file-back a b same = ap (λ f. is_file b f) (file-equal a b same) ∙ file-itself b

pub file-along : (a b c : FileId) → is_file a b ≡ true → is_file b c ≡ true → is_file a c ≡ true
file-along a b c first second = ap (λ f. is_file f c) (file-equal a b first) ∙ second

pub file-other : (a b : FileId) → is_file a b ≡ false → is_file b a ≡ false
file-other a b differs = at (is_file b a) refl
  where
    at : (c : Bool) → is_file b a ≡ c → is_file b a ≡ false
    at true same =
        let there : is_file a b ≡ true = file-back b a same in cc
    at false same = same

-- both ways are one test
pub file-symmetric : (a b : FileId) → is_file a b ≡ is_file b a
file-symmetric a b = at (is_file a b) refl
  where
    at : (c : Bool) → is_file a b ≡ c → is_file a b ≡ is_file b a
    at true same = same ∙ sym (file-back a b same)
    at false differs = differs ∙ sym (file-other a b differs)

is_eq-then : (o p : Ordering) → is_eq (ordering_then o p) ≡ (is_eq o && is_eq p)
is_eq-then Less p = refl
is_eq-then Equal p = refl
is_eq-then Greater p = refl

is_eq-nat_cmp : (m n : ℕ) → is_eq (nat_cmp m n) ≡ (m == n)
is_eq-nat_cmp m n = grind (arith, nat_tests)

-- one file is one in the order
pub is_file-file_cmp : (a b : FileId) → is_file a b ≡ is_eq (file_cmp a b)
is_file-file_cmp a b =
    sym (is_eq-then (slice_cmp nat_cmp a.volume b.volume) (nat_cmp a.number b.number)
    ∙ ap (λ t. t && is_eq (nat_cmp a.number b.number)) (is_eq-slice_cmp a.volume b.volume)
    ∙ ap (λ t. bytes_eq a.volume b.volume && t) (is_eq-nat_cmp a.number b.number))

-- the order of the files is a total one
pub file_cmp_total : IsTotalOrder file_cmp
file_cmp_total = then_total (on_total (λ f. f.volume) nat_list_cmp_total) (on_total (λ f. f.number) nat_cmp_total)

-- ---- rows

-- two rows in a row are looked through in either order, where they are of different files
apart : (r row other : FileRow) (file : FileId) (a b : Bool) → is_file r.file file ≡ a → is_file row.file file ≡ b → is_file r.file row.file ≡ false
    → cond a r (cond b row other) ≡ cond b row (cond a r other)
apart r row other file true true first second differ =
    absurd (let same : is_file r.file row.file ≡ true = file-along r.file file row.file first (file-back row.file file second) in cc (same, differ))
apart r row other file true false first second differ = refl
apart r row other file false b first second differ = refl

-- a row that is put over one of its file hides it
over : (r row other : FileRow) (file : FileId) → is_file r.file row.file ≡ true
    → cond (is_file row.file file) row other ≡ cond (is_file row.file file) row (cond (is_file r.file file) r other)
over r row other file same =
    sym (ap (λ f. cond (is_file row.file file) row (cond (is_file f file) r other)) (file-equal r.file row.file same)
    ∙ hides (is_file row.file file))
  where
    hides : (t : Bool) → cond t row (cond t r other) ≡ cond t row other
    hides true = refl
    hides false = refl

-- the row of a file after a row was put: that row where it is the file's, else the one before
pub row_in-with_row : (rows : List FileRow) (row : FileRow) (file : FileId)
    → row_in (with_row rows row) file ≡ cond (is_file row.file file) row (row_in rows file)
unfolding row_in with_row
row_in-with_row [] row file = refl
row_in-with_row (r ∷ rs) row file = at (row_in-with_row rs row file) (is_file r.file row.file) (is_before row.file r.file) refl
  where
    at : row_in (with_row rs row) file ≡ cond (is_file row.file file) row (row_in rs file) → (same before : Bool) → is_file r.file row.file ≡ same
        → row_in (cond same (row ∷ rs) (cond before (row ∷ r ∷ rs) (r ∷ with_row rs row))) file
        ≡ cond (is_file row.file file) row (cond (is_file r.file file) r (row_in rs file))
    at later true before same = over r row (row_in rs file) file same
    at later false true differ = refl
    at later false false differ =
        ap (λ other. cond (is_file r.file file) r other) later
        ∙ apart r row (row_in rs file) file (is_file r.file file) (is_file row.file file) refl refl differ

-- the row of a file is of that file
pub row_in-file : (rows : List FileRow) (file : FileId) → (row_in rows file).file ≡ file
unfolding row_in
row_in-file [] file = refl
row_in-file (r ∷ rs) file = at (row_in-file rs file) (is_file r.file file) refl
  where
    at : (row_in rs file).file ≡ file → (same : Bool) → is_file r.file file ≡ same → (cond same r (row_in rs file)).file ≡ file
    at later true same = file-equal r.file file same
    at later false differ = later

-- a record leaves the row's file
pub row_after-file : (row : FileRow) (rec : Record) → (row_after row rec).file ≡ row.file
row_after-file row (kept.Promise file epoch) = refl
row_after-file row (kept.Update file update) = refl
row_after-file row (kept.Stage file object version bytes) = refl
row_after-file row (kept.Head file head) = refl
row_after-file row (kept.View file location) = refl
row_after-file row (kept.Boot boot) = refl
row_after-file row (kept.Meta from number now nodes request) = refl
row_after-file row (kept.Close file version) = refl
row_after-file row (kept.Install file location head) = refl
row_after-file row (kept.Choice file location head source) = refl
row_after-file row (kept.Listed file version) = refl
row_after-file row (kept.Seal file object version digest) = refl
row_after-file row (kept.Forget file) = refl
row_after-file row (kept.OldUpdate file update) = refl
row_after-file row (kept.OldStage file object version bytes) = refl
row_after-file row (kept.OldHead file head) = refl
row_after-file row (kept.OldInstall file location head) = refl
row_after-file row (kept.OldChoice file location head source) = refl

-- a file that is this row's, where another is not
other_row : (row gone file : FileId) → is_file row gone ≡ false → is_file row file ≡ true → is_file gone file ≡ false
other_row row gone file out here = at (is_file gone file) refl
  where
    at : (c : Bool) → is_file gone file ≡ c → is_file gone file ≡ false
    at true same =
        let there : is_file row gone ≡ true = file-along row file gone here (file-back gone file same) in cc
    at false differs = differs

-- the row of a file after the rows of a file were removed: a new one where it is that file, else the one before
pub row_in-without_row : (rows : List FileRow) (gone file : FileId)
    → row_in (without_row rows gone) file ≡ cond (is_file gone file) (new_row file) (row_in rows file)
unfolding row_in without_row
row_in-without_row [] gone file = at (is_file gone file)
  where
    at : (same : Bool) → new_row file ≡ cond same (new_row file) (new_row file)
    at true = refl
    at false = refl
row_in-without_row (r ∷ rs) gone file = at (row_in-without_row rs gone file) (is_file r.file gone) refl (is_file r.file file) refl
  where
    at : row_in (without_row rs gone) file ≡ cond (is_file gone file) (new_row file) (row_in rs file)
        → (out : Bool) → is_file r.file gone ≡ out → (here : Bool) → is_file r.file file ≡ here
        → row_in (cond (not out) (r ∷ without_row rs gone) (without_row rs gone)) file
        ≡ cond (is_file gone file) (new_row file) (cond here r (row_in rs file))
    at later true out true here =
        let same : is_file gone file ≡ true = file-along gone r.file file (file-back r.file gone out) here in
        later
        ∙ ap (λ t. cond t (new_row file) (row_in rs file)) same
        ∙ sym (ap (λ t. cond t (new_row file) r) same)
    at later true out false here = later
    at later false out true here =
        let other : is_file gone file ≡ false = other_row r.file gone file out here in
        ap (λ t. cond t r (row_in (without_row rs gone) file)) here ∙ sym (ap (λ t. cond t (new_row file) r) other)
    at later false out false here = ap (λ t. cond t r (row_in (without_row rs gone) file)) here ∙ later

-- the row of a file after a record of a file: what the record makes of that file's row, or the one before
pub row_in-rows_after : (rows : List FileRow) (rec : Record) (its file : FileId)
    → row_in (rows_after rows rec (Some its)) file ≡ cond (is_file its file) (row_after (row_in rows its) rec) (row_in rows file)
row_in-rows_after rows rec its file = at rec
  where
    put : (r : Record) → row_in (with_row rows (row_after (row_in rows its) r)) file ≡ cond (is_file its file) (row_after (row_in rows its) r) (row_in rows file)
    put r =
        row_in-with_row rows (row_after (row_in rows its) r) file
        ∙ ap (λ f. cond (is_file f file) (row_after (row_in rows its) r) (row_in rows file)) (row_after-file (row_in rows its) r ∙ row_in-file rows its)

    gone : (same : Bool) → is_file its file ≡ same → cond same (new_row file) (row_in rows file) ≡ cond same (new_row (row_in rows its).file) (row_in rows file)
    gone true same = ap new_row (sym (row_in-file rows its ∙ file-equal its file same))
    gone false differ = refl

    at : (r : Record) → row_in (rows_after rows r (Some its)) file ≡ cond (is_file its file) (row_after (row_in rows its) r) (row_in rows file)
    at (kept.Promise f epoch) = put (kept.Promise f epoch)
    at (kept.Update f update) = put (kept.Update f update)
    at (kept.Stage f object version bytes) = put (kept.Stage f object version bytes)
    at (kept.Head f head) = put (kept.Head f head)
    at (kept.View f location) = put (kept.View f location)
    at (kept.Boot boot) = put (kept.Boot boot)
    at (kept.Meta from number now nodes request) = put (kept.Meta from number now nodes request)
    at (kept.Close f version) = put (kept.Close f version)
    at (kept.Install f location head) = put (kept.Install f location head)
    at (kept.Choice f location head source) = put (kept.Choice f location head source)
    at (kept.Listed f version) = put (kept.Listed f version)
    at (kept.Seal f object version digest) = put (kept.Seal f object version digest)
    at (kept.Forget f) = row_in-without_row rows its file ∙ gone (is_file its file) refl
    at (kept.OldUpdate f update) = put (kept.OldUpdate f update)
    at (kept.OldStage f object version bytes) = put (kept.OldStage f object version bytes)
    at (kept.OldHead f head) = put (kept.OldHead f head)
    at (kept.OldInstall f location head) = put (kept.OldInstall f location head)
    at (kept.OldChoice f location head source) = put (kept.OldChoice f location head source)

-- ---- one more record

pub fold_of-nothing : fold_of [] ≡ nothing_kept
unfolding fold_of
fold_of-nothing = refl

pub fold_of-push : (records : List Record) (rec : Record) → fold_of (records ++ rec ∷ []) ≡ folded_after (fold_of records) rec
unfolding fold_of
fold_of-push records rec = fold-append folded_after nothing_kept records (rec ∷ [])

pub fold_of-append : (records later : List Record) → fold_of (records ++ later) ≡ fold folded_after (fold_of records) later
unfolding fold_of
fold_of-append records later = fold-append folded_after nothing_kept records later

pub body_kept-nothing : (file : FileId) (object : ℕ) (version : Stamp) → body_kept [] file object version ≡ None
unfolding body_kept
body_kept-nothing file object version = refl

pub body_kept-push : (records : List Record) (rec : Record) (file : FileId) (object : ℕ) (version : Stamp)
    → body_kept (records ++ rec ∷ []) file object version ≡ body_after file object version (body_kept records file object version) rec
unfolding body_kept
body_kept-push records rec file object version = fold-append (body_after file object version) None records (rec ∷ [])

pub body_kept-append : (records later : List Record) (file : FileId) (object : ℕ) (version : Stamp)
    → body_kept (records ++ later) file object version ≡ fold (body_after file object version) (body_kept records file object version) later
unfolding body_kept
body_kept-append records later file object version = fold-append (body_after file object version) None records later

pub digests_kept-push : (records : List Record) (rec : Record) (file : FileId) (object : ℕ) (version : Stamp)
    → digests_kept (records ++ rec ∷ []) file object version ≡ digests_after file object version (digests_kept records file object version) rec
unfolding digests_kept
digests_kept-push records rec file object version = fold-append (digests_after file object version) [] records (rec ∷ [])

-- ---- old kinds say what the present ones say

widened_after : (folded : Folded) (rec : Record) → folded_after folded (widened rec) ≡ folded_after folded rec
widened_after folded (kept.Boot boot) = refl
widened_after folded (kept.Promise file epoch) = refl
widened_after folded (kept.Update file update) = refl
widened_after folded (kept.Stage file object version bytes) = refl
widened_after folded (kept.Head file head) = refl
widened_after folded (kept.View file location) = refl
widened_after folded (kept.Meta from number now nodes request) = refl
widened_after folded (kept.Close file version) = refl
widened_after folded (kept.Install file location head) = refl
widened_after folded (kept.Choice file location head source) = refl
widened_after folded (kept.Listed file version) = refl
widened_after folded (kept.Seal file object version digest) = refl
widened_after folded (kept.Forget file) = refl
widened_after folded (kept.OldUpdate file update) = refl
widened_after folded (kept.OldStage file object version bytes) = refl
widened_after folded (kept.OldHead file head) = refl
widened_after folded (kept.OldInstall file location head) = refl
widened_after folded (kept.OldChoice file location head source) = refl

widened_from : (folded : Folded) (records : List Record) → fold folded_after folded (map widened records) ≡ fold folded_after folded records
widened_from folded [] = refl
widened_from folded (rec ∷ records) =
    ap (λ f. fold folded_after f (map widened records)) (widened_after folded rec) ∙ widened_from (folded_after folded rec) records

-- the fold of records is that of the same records with each old kind widened
pub fold_widened : (records : List Record) → fold_of (map widened records) ≡ fold_of records
unfolding fold_of
fold_widened records = widened_from nothing_kept records

widened_logged : (rec : Record) → is_logged (widened rec) ≡ is_logged rec
widened_logged (kept.Boot boot) = refl
widened_logged (kept.Promise file epoch) = refl
widened_logged (kept.Update file update) = refl
widened_logged (kept.Stage file object version bytes) = refl
widened_logged (kept.Head file head) = refl
widened_logged (kept.View file location) = refl
widened_logged (kept.Meta from number now nodes request) = refl
widened_logged (kept.Close file version) = refl
widened_logged (kept.Install file location head) = refl
widened_logged (kept.Choice file location head source) = refl
widened_logged (kept.Listed file version) = refl
widened_logged (kept.Seal file object version digest) = refl
widened_logged (kept.Forget file) = refl
widened_logged (kept.OldUpdate file update) = refl
widened_logged (kept.OldStage file object version bytes) = refl
widened_logged (kept.OldHead file head) = refl
widened_logged (kept.OldInstall file location head) = refl
widened_logged (kept.OldChoice file location head source) = refl

-- and the recorded requests are the same, widened
pub logged_widened : (records : List Record) → logged_of (map widened records) ≡ map widened (logged_of records)
unfolding logged_of
logged_widened [] = refl
logged_widened (rec ∷ records) = at (is_logged rec) (logged_widened records) (widened_logged rec)
  where
    at : (logged : Bool) → filter is_logged (map widened records) ≡ map widened (filter is_logged records) → is_logged (widened rec) ≡ logged
        → cond (is_logged (widened rec)) (widened rec ∷ filter is_logged (map widened records)) (filter is_logged (map widened records))
        ≡ map widened (cond logged (rec ∷ filter is_logged records) (filter is_logged records))
    at true later same =
        ap (λ t. cond t (widened rec ∷ filter is_logged (map widened records)) (filter is_logged (map widened records))) same
        ∙ ap (λ l. widened rec ∷ l) later
    at false later same =
        ap (λ t. cond t (widened rec ∷ filter is_logged (map widened records)) (filter is_logged (map widened records))) same ∙ later

-- ---- recorded requests

pub logged_of-nothing : logged_of [] ≡ []
unfolding logged_of
logged_of-nothing = refl

pub logged_of-append : (records later : List Record) → logged_of (records ++ later) ≡ logged_of records ++ logged_of later
unfolding logged_of
logged_of-append records later = filter-append is_logged records later
