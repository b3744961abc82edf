-- The records of some rows fold to these rows.
use Rattle.std.proofs.Common.{◌≡◌, ℕ, Bool, true, false, cond, List, [], ◌∷◌, ◌++◌, Option, Some, None, refl, ap, sym, subst, ◌∙◌, map, append_assoc, append-nil}
use Rattle.std.proofs.lemmas.List.Sums.{fold-append}
use Rattle.std.specs.List.{fold, AllByRecursion}
use Rattle.std.specs.Prelude.{flat_map}
use Rattle.std.specs.Ordering.{is_eq, is_lt}
use Rattle.std.specs.declared.cmp.Ordering.{Ordering}
use Rattle.std.specs.declared.cmp.Ordering.TheVariants.{Less, Equal, Greater}
use Rattle.xt_base.specs.declared.ids.Boot.{Boot}
use Rattle.xt_base.specs.declared.ids.FileId.{FileId}
use Rattle.xt_base.specs.declared.ids.Stamp.{Stamp}
use Rattle.xt_messages.specs.declared.file.FileHead.{FileHead}
use Rattle.xt_messages.specs.declared.file.Location.{Location}
use Rattle.xt_messages.specs.declared.file.ObjectVersion.{ObjectVersion}
use Rattle.xt_messages.specs.declared.record.FileRow.{FileRow}
use Rattle.xt_messages.specs.declared.record.Folded.{Folded}
use Rattle.xt_messages.specs.declared.record.Record.{Record}
use Rattle.xt_messages.specs.declared.record.Record.TheVariants as kept
use Rattle.xt_protocol.specs.FileIds.{is_before, file_cmp}
use Rattle.xt_protocol.specs.Folds.{new_row, row_in, with_row, without_row, row_after, rows_after, file_of, forgets, folded_after}
use Rattle.xt_protocol.specs.Heads.{new_head}
use Rattle.xt_protocol.specs.Forgetting.{view_of, close_of, stage_of, seals_of, sealed_stage_of, records_of_row, records_of_rows}
use Rattle.xt_protocol.specs.Stamps.{with_held}
use Rattle.xt_protocol.specs.VersionOrder.{version_cmp}
use Rattle.xt_protocol.proofs.Folds.{file-itself, is_file-file_cmp, row_after-file}
use Rattle.xt_protocol.proofs.Sorts.{no_boot}
use Rattle.xt_protocol.proofs.Stamps.{held-alone, held-behind}
use Rattle.xt_protocol.proofs.FileRows.{FilesRise, put_behind, put_over, read_behind, read_here}
use Rattle.forgetting.proofs.Passing.{over_digests}

pub is_less : (o : Ordering) → is_lt o ≡ true → o ≡ Less
is_less Less h = refl
is_less Equal h = absurd cc
is_less Greater h = absurd cc

is_equal : (o : Ordering) → is_eq o ≡ true → o ≡ Equal
is_equal Less h = absurd cc
is_equal Equal h = refl
is_equal Greater h = absurd cc

-- a file is one with itself in the order
same_file : (a : FileId) → file_cmp a a ≡ Equal
same_file a = is_equal (file_cmp a a) (sym (is_file-file_cmp a a) ∙ file-itself a)

-- ---- a row after all others

abbrev pub AreBefore : FileId → List FileRow → Type 0
AreBefore file rows = AllByRecursion (λ (r : FileRow). file_cmp r.file file ≡ Less) rows

pub read_new : (pre : List FileRow) (file : FileId) → AreBefore file pre → row_in pre file ≡ new_row file
unfolding row_in
read_new [] file all = refl
read_new (r ∷ rs) file all = read_behind r rs file all.0 ∙ read_new rs file all.1

put_new : (pre : List FileRow) (b : FileRow) → AreBefore b.file pre → with_row pre b ≡ pre ++ b ∷ []
unfolding with_row
put_new [] b all = refl
put_new (r ∷ rs) b all = put_behind r b rs all.0 ∙ ap (λ (t : List FileRow). r ∷ t) (put_new rs b all.1)

pub read_last : (pre : List FileRow) (a : FileRow) → AreBefore a.file pre → row_in (pre ++ a ∷ []) a.file ≡ a
read_last [] a all = read_here a [] a.file (same_file a.file)
read_last (r ∷ rs) a all = read_behind r (rs ++ a ∷ []) a.file all.0 ∙ read_last rs a all.1

put_last : (pre : List FileRow) (a b : FileRow) → b.file ≡ a.file → AreBefore a.file pre → with_row (pre ++ a ∷ []) b ≡ pre ++ b ∷ []
put_last [] a b same all = put_over a b [] (ap (file_cmp a.file) same ∙ same_file a.file)
put_last (r ∷ rs) a b same all = put_behind r b (rs ++ a ∷ []) (ap (file_cmp r.file) same ∙ all.0) ∙ ap (λ (t : List FileRow). r ∷ t) (put_last rs a b same all.1)

-- the rows after which this row of its file comes last: it is there, or a new one would be
pub record ComesLast (files pre : List FileRow) (a : FileRow) : Type 0 where
  pub reads : row_in files a.file ≡ a
  pub puts : (b : FileRow) → b.file ≡ a.file → with_row files b ≡ pre ++ b ∷ []

pub last_new : (pre : List FileRow) (file : FileId) → AreBefore file pre → ComesLast pre pre (new_row file)
last_new pre file all = record {
  reads = read_new pre file all;
  puts = λ b same. put_new pre b (subst (λ (f : FileId). AreBefore f pre) (sym same) all);
}

last_there : (pre : List FileRow) (a : FileRow) → AreBefore a.file pre → ComesLast (pre ++ a ∷ []) pre a
last_there pre a all = record { reads = read_last pre a all; puts = λ b same. put_last pre a b same all }

-- ---- lists

pub all_append : (P : Record → Type 0) (xs ys : List Record) → AllByRecursion P xs → AllByRecursion P ys → AllByRecursion P (xs ++ ys)
all_append P [] ys here there = there
all_append P (x ∷ xs) ys here there = (here.0, all_append P xs ys here.1 there)

-- ---- records of one file

-- it is of this file, and leaves it a row
abbrev pub IsOf : FileId → Record → Type 0
IsOf file rec = (file_of rec ≡ Some file) × (forgets rec ≡ false)

abbrev pub AreOf : FileId → List Record → Type 0
AreOf file recs = AllByRecursion (IsOf file) recs

one_record : (boot : Boot) (files pre : List FileRow) (a : FileRow) (rec : Record) → IsOf a.file rec → ComesLast files pre a
    → folded_after (record { boot = boot; files = files }) rec ≡ record { boot = boot; files = pre ++ row_after a rec ∷ [] }
one_record boot files pre a rec of last =
    ap (λ (n : ℕ). record { boot = record { 0 = n }; files = rows_after files rec (file_of rec) }) (no_boot boot.0 rec a.file of.0)
    ∙ ap (λ (o : Option FileId). record { boot = boot; files = rows_after files rec o }) of.0
    ∙ ap (λ (gone : Bool). record { boot = boot; files = cond gone (without_row files a.file) (with_row files (row_after (row_in files a.file) rec)) }) of.1
    ∙ ap (λ (r : FileRow). record { boot = boot; files = with_row files (row_after r rec) }) last.reads
    ∙ ap (λ (fs : List FileRow). record { boot = boot; files = fs }) (last.puts (row_after a rec) (row_after-file a rec))

pub some_records : (recs : List Record) (boot : Boot) (files pre : List FileRow) (a : FileRow) (rec : Record) → IsOf a.file rec → AreOf a.file recs
    → AreBefore a.file pre → ComesLast files pre a
    → fold folded_after (record { boot = boot; files = files }) (rec ∷ recs) ≡ record { boot = boot; files = pre ++ fold row_after a (rec ∷ recs) ∷ [] }
some_records [] boot files pre a rec of all before last = one_record boot files pre a rec of last
some_records (x ∷ xs) boot files pre a rec of all before last =
    ap (λ (f : Folded). fold folded_after f (x ∷ xs)) (one_record boot files pre a rec of last)
    ∙ some_records xs boot (pre ++ row_after a rec ∷ []) pre (row_after a rec) x (subst (λ (f : FileId). IsOf f x) (sym same) all.0) (subst (λ (f : FileId). AreOf f xs) (sym same) all.1)
    (subst (λ (f : FileId). AreBefore f pre) (sym same) before) (last_there pre (row_after a rec) (subst (λ (f : FileId). AreBefore f pre) (sym same) before))
  where
    same : (row_after a rec).file ≡ a.file
    same = row_after-file a rec

-- the same from no row on, where a record of the file ends them
ending : (boot : Boot) (pre : List FileRow) (file : FileId) (xs : List Record) (rec : Record) → AreOf file xs → IsOf file rec → AreBefore file pre
    → fold folded_after (record { boot = boot; files = pre }) (xs ++ rec ∷ []) ≡ record { boot = boot; files = pre ++ fold row_after (new_row file) (xs ++ rec ∷ []) ∷ [] }
ending boot pre file [] rec all of before = some_records [] boot pre pre (new_row file) rec of tt before (last_new pre file before)
ending boot pre file (x ∷ xs) rec all of before =
    some_records (xs ++ rec ∷ []) boot pre pre (new_row file) x all.0 (all_append (IsOf file) xs (rec ∷ []) all.1 (of, tt)) before (last_new pre file before)

-- ---- held versions, one after the other

abbrev pub AreBelow : List ObjectVersion → ObjectVersion → Type 0
AreBelow versions v = AllByRecursion (λ (h : ObjectVersion). version_cmp h v ≡ Less) versions

-- each version comes before all after it
abbrev pub Ascend : List ObjectVersion → Type 0
Ascend [] = Unit {0}
Ascend (v ∷ vs) = AllByRecursion (λ (w : ObjectVersion). version_cmp v w ≡ Less) vs × Ascend vs

put_held : (pre : List ObjectVersion) (v : ObjectVersion) → AreBelow pre v → with_held pre v ≡ pre ++ v ∷ []
put_held [] v all = held-alone v
put_held (h ∷ hs) v all = held-behind h v hs all.0 ∙ ap (λ (t : List ObjectVersion). h ∷ t) (put_held hs v all.1)

below_more : (pre : List ObjectVersion) (v w : ObjectVersion) → AreBelow pre w → version_cmp v w ≡ Less → AreBelow (pre ++ v ∷ []) w
below_more [] v w all is = (is, tt)
below_more (h ∷ hs) v w all is = (all.0, below_more hs v w all.1 is)

each_more : (pre : List ObjectVersion) (v : ObjectVersion) (vs : List ObjectVersion) → AllByRecursion (AreBelow pre) vs → AllByRecursion (λ (w : ObjectVersion). version_cmp v w ≡ Less) vs
    → AllByRecursion (AreBelow (pre ++ v ∷ [])) vs
each_more pre v [] all first = tt
each_more pre v (w ∷ ws) all first = (below_more pre v w all.0 first.0, each_more pre v ws all.1 first.1)

module _ (body : FileId → ℕ → Stamp → List ℕ) where
  pub staged_all : (a : FileRow) (pre held : List ObjectVersion) → AllByRecursion (AreBelow pre) held → Ascend held
      → fold row_after (record a { held = pre }) (map (stage_of body a.file) held) ≡ record a { held = pre ++ held }
  staged_all a pre [] all up = ap (λ (hs : List ObjectVersion). record a { held = hs }) (sym (append-nil pre))
  staged_all a pre (v ∷ vs) all up =
      ap (λ (hs : List ObjectVersion). fold row_after (record a { held = hs }) (map (stage_of body a.file) vs)) (put_held pre v all.0)
      ∙ staged_all a (pre ++ v ∷ []) vs (each_more pre v vs all.1 up.0) up.1
      ∙ ap (λ (hs : List ObjectVersion). record a { held = hs }) (append_assoc pre (v ∷ []) vs)

  pub all_below_none : (vs : List ObjectVersion) → AllByRecursion (AreBelow []) vs
  all_below_none [] = tt
  all_below_none (v ∷ vs) = (tt, all_below_none vs)

  -- the list, which list is closed, and the bodies of a row, without their digests
  abbrev pub unsealed : FileRow → List Record
  unsealed row = view_of row.file row.location ++ close_of row.file row.closed ++ map (stage_of body row.file) row.held

  -- what holds of a record of each of these kinds, holds of them
  listed_each : (P : Record → Type 0) (row : FileRow) → ((location : Location) → P (kept.View row.file location)) → ((version : ℕ) → P (kept.Close row.file version))
      → AllByRecursion P (view_of row.file row.location ++ close_of row.file row.closed)
  listed_each P row view close = all_append P (view_of row.file row.location) (close_of row.file row.closed) (viewed row.location) (closed row.closed)
    where
      viewed : (o : Option Location) → AllByRecursion P (view_of row.file o)
      viewed None = tt
      viewed (Some location) = (view location, tt)

      closed : (o : Option ℕ) → AllByRecursion P (close_of row.file o)
      closed None = tt
      closed (Some version) = (close version, tt)

  pub unsealed_are : (row : FileRow) → AreOf row.file (unsealed row)
  unsealed_are row =
      all_append (IsOf row.file) (view_of row.file row.location ++ close_of row.file row.closed) (map (stage_of body row.file) row.held)
      (listed_each (IsOf row.file) row (λ location. (refl, refl)) (λ version. (refl, refl)))
      (staged row.held)
    where
      staged : (held : List ObjectVersion) → AllByRecursion (IsOf row.file) (map (stage_of body row.file) held)
      staged [] = tt
      staged (v ∷ vs) = ((refl, refl), staged vs)

  -- a row in which only the list is there, and which one is closed
  abbrev pub listed : FileId → Option Location → Option ℕ → FileRow
  listed file location closed = record { file = file; head = new_head; held = []; location = location; closed = closed }

  opened : (file : FileId) (location : Option Location) (closed : Option ℕ)
      → fold row_after (new_row file) (view_of file location ++ close_of file closed) ≡ listed file location closed
  opened file None None = refl
  opened file None (Some version) = refl
  opened file (Some location) None = refl
  opened file (Some location) (Some version) = refl

  -- what is there before the head
  pub unsealed_says : (row : FileRow) → Ascend row.held → fold row_after (new_row row.file) (unsealed row) ≡ record row { head = new_head }
  unsealed_says row up =
      fold-append row_after (new_row row.file) (view_of row.file row.location ++ close_of row.file row.closed) (map (stage_of body row.file) row.held)
      ∙ ap (λ (r : FileRow). fold row_after r (map (stage_of body row.file) row.held)) (opened row.file row.location row.closed)
      ∙ staged_all (listed row.file row.location row.closed) [] row.held (all_below_none row.held) up

-- ---- with the digests

-- a digest leaves what is folded
pub seal_folds : (f : Folded) (file : FileId) (object : ℕ) (version : Stamp) (digest : List ℕ) → folded_after f (kept.Seal file object version digest) ≡ f
seal_folds f file object version digest = refl

module _ (body : FileId → ℕ → Stamp → List ℕ) (digests : FileId → ℕ → Stamp → List (List ℕ)) where
  -- the list, which list is closed, and the bodies of a row, each with its digests
  abbrev pub before_head : FileRow → List Record
  before_head row = view_of row.file row.location ++ close_of row.file row.closed ++ flat_map (sealed_stage_of body digests row.file) row.held

  -- what holds of a body and of its digests where something is known of the version, holds of all where this is known of all
  pub each_sealed : (P : Record → Type 0) (Q : ObjectVersion → Type 0) (file : FileId) → ((v : ObjectVersion) → Q v → P (stage_of body file v))
      → ((v : ObjectVersion) → Q v → AllByRecursion P (seals_of digests file v)) → (held : List ObjectVersion) → AllByRecursion Q held
      → AllByRecursion P (flat_map (sealed_stage_of body digests file) held)
  each_sealed P Q file stage seals [] all = tt
  each_sealed P Q file stage seals (v ∷ vs) all =
      (stage v all.0, all_append P (seals_of digests file v) (flat_map (sealed_stage_of body digests file) vs) (seals v all.0) (each_sealed P Q file stage seals vs all.1))

  -- what holds of a record of each of these kinds, holds of what is there before the head
  pub each_before : (P : Record → Type 0) (row : FileRow)
      → ((location : Location) → P (kept.View row.file location)) → ((version : ℕ) → P (kept.Close row.file version)) → ((v : ObjectVersion) → P (stage_of body row.file v))
      → ((v : ObjectVersion) (digest : List ℕ) → P (kept.Seal row.file v.object v.version digest)) → AllByRecursion P (before_head row)
  each_before P row view close stage seal =
      all_append P (view_of row.file row.location ++ close_of row.file row.closed) (flat_map (sealed_stage_of body digests row.file) row.held)
      (listed_each body P row view close)
      (each_sealed P (λ v. Unit {0}) row.file (λ v known. stage v) (λ v known. sealed v (digests row.file v.object v.version)) row.held (nothing row.held))
    where
      sealed : (v : ObjectVersion) (each : List (List ℕ)) → AllByRecursion P (map (λ digest. kept.Seal row.file v.object v.version digest) each)
      sealed v [] = tt
      sealed v (d ∷ ds) = (seal v d, sealed v ds)

      nothing : (held : List ObjectVersion) → AllByRecursion (λ (v : ObjectVersion). Unit {0}) held
      nothing [] = tt
      nothing (v ∷ vs) = (tt, nothing vs)

  -- and of the records of rows, where it holds of a head's too
  pub each_of_rows : (P : Record → Type 0) → ((file : FileId) (location : Location) → P (kept.View file location)) → ((file : FileId) (version : ℕ) → P (kept.Close file version))
      → ((file : FileId) (v : ObjectVersion) → P (stage_of body file v)) → ((file : FileId) (v : ObjectVersion) (digest : List ℕ) → P (kept.Seal file v.object v.version digest))
      → ((file : FileId) (head : FileHead) → P (kept.Head file head)) → (rows : List FileRow) → AllByRecursion P (records_of_rows body digests rows)
  each_of_rows P view close stage seal head [] = tt
  each_of_rows P view close stage seal head (r ∷ rs) =
      all_append P (records_of_row body digests r) (records_of_rows body digests rs)
      (all_append P (before_head r) (kept.Head r.file r.head ∷ []) (each_before P r (view r.file) (close r.file) (stage r.file) (seal r.file)) (head r.file r.head, tt))
      (each_of_rows P view close stage seal head rs)

  -- a fold that passes over digests makes the same without them
  pub over_before : {A : Type 0} (step : A → Record → A)
      → ((a : A) (file : FileId) (object : ℕ) (version : Stamp) (digest : List ℕ) → step a (kept.Seal file object version digest) ≡ a)
      → (row : FileRow) (a : A) → fold step a (before_head row) ≡ fold step a (unsealed body row)
  over_before step over row a =
      let lists = view_of row.file row.location ++ close_of row.file row.closed in
      fold-append step a lists (flat_map (sealed_stage_of body digests row.file) row.held)
      ∙ over_digests step over body digests row.file row.held (fold step a lists)
      ∙ sym (fold-append step a lists (map (stage_of body row.file) row.held))

  pub over_row : {A : Type 0} (step : A → Record → A)
      → ((a : A) (file : FileId) (object : ℕ) (version : Stamp) (digest : List ℕ) → step a (kept.Seal file object version digest) ≡ a)
      → (row : FileRow) (a : A) → fold step a (records_of_row body digests row) ≡ fold step a (unsealed body row ++ kept.Head row.file row.head ∷ [])
  over_row {A} step over row a =
      fold-append step a (before_head row) (kept.Head row.file row.head ∷ [])
      ∙ ap (λ (b : A). fold step b (kept.Head row.file row.head ∷ [])) (over_before step over row a)
      ∙ sym (fold-append step a (unsealed body row) (kept.Head row.file row.head ∷ []))

  -- the records of a row fold to it, after rows that come before it
  pub row_says : (boot : Boot) (pre : List FileRow) (row : FileRow) → Ascend row.held → AreBefore row.file pre
      → fold folded_after (record { boot = boot; files = pre }) (records_of_row body digests row) ≡ record { boot = boot; files = pre ++ row ∷ [] }
  row_says boot pre row up before =
      over_row folded_after seal_folds row (record { boot = boot; files = pre })
      ∙ ending boot pre row.file (unsealed body row) (kept.Head row.file row.head) (unsealed_are body row) (refl, refl) before
      ∙ ap (λ (r : FileRow). record { boot = boot; files = pre ++ r ∷ [] })
      (fold-append row_after (new_row row.file) (unsealed body row) (kept.Head row.file row.head ∷ [])
      ∙ ap (λ (r : FileRow). record r { head = row.head }) (unsealed_says body row up))

  -- ---- all rows

  before_next : (pre : List FileRow) (r : FileRow) (file : FileId) → AreBefore file pre → file_cmp r.file file ≡ Less → AreBefore file (pre ++ r ∷ [])
  before_next [] r file all is = (is, tt)
  before_next (p ∷ ps) r file all is = (all.0, before_next ps r file all.1 is)

  abbrev pub Follow : List FileRow → List FileRow → Type 0
  Follow pre rows = AllByRecursion (λ (r : FileRow). AreBefore r.file pre) rows

  pub follow_next : (pre : List FileRow) (r : FileRow) (rows : List FileRow) → Follow pre rows → AllByRecursion (λ (later : FileRow). is_before r.file later.file ≡ true) rows → Follow (pre ++ r ∷ []) rows
  follow_next pre r [] all first = tt
  follow_next pre r (x ∷ xs) all first = (before_next pre r x.file all.0 (is_less (file_cmp r.file x.file) first.0), follow_next pre r xs all.1 first.1)

  rows_say : (boot : Boot) (pre rows : List FileRow) → FilesRise rows → AllByRecursion (λ (r : FileRow). Ascend r.held) rows → Follow pre rows
      → fold folded_after (record { boot = boot; files = pre }) (records_of_rows body digests rows) ≡ record { boot = boot; files = pre ++ rows }
  rows_say boot pre [] rise up follow = ap (λ (fs : List FileRow). record { boot = boot; files = fs }) (sym (append-nil pre))
  rows_say boot pre (r ∷ rs) rise up follow =
      fold-append folded_after (record { boot = boot; files = pre }) (records_of_row body digests r) (records_of_rows body digests rs)
      ∙ ap (λ (f : Folded). fold folded_after f (records_of_rows body digests rs)) (row_says boot pre r up.0 follow.0)
      ∙ rows_say boot (pre ++ r ∷ []) rs rise.1 up.1 (follow_next pre r rs follow.1 rise.0)
      ∙ ap (λ (fs : List FileRow). record { boot = boot; files = fs }) (append_assoc pre (r ∷ []) rs)

  pub follow_none : (rows : List FileRow) → Follow [] rows
  follow_none [] = tt
  follow_none (r ∷ rs) = (tt, follow_none rs)

  -- The records of rows that rise fold to them.
  pub all_say : (boot : Boot) (rows : List FileRow) → FilesRise rows → AllByRecursion (λ (r : FileRow). Ascend r.held) rows
      → fold folded_after (record { boot = boot; files = [] }) (records_of_rows body digests rows) ≡ record { boot = boot; files = rows }
  all_say boot rows rise up = rows_say boot [] rows rise up (follow_none rows)
