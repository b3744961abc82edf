-- Each of the rewritten records is in its place.
use Rattle.std.proofs.Common.{◌≡◌, ℕ, suc, Bool, true, false, cond, List, [], ◌∷◌, ◌++◌, refl, ap, sym, subst, ◌∙◌, map, arith}
use Rattle.std.specs.Prelude.{filter, Contains}
use Rattle.std.specs.List.{fold, All, AllByRecursion}
use Rattle.xt_base.specs.declared.ids.Boot.{Boot}
use Rattle.xt_base.specs.declared.ids.FileId.{FileId}
use Rattle.xt_base.specs.declared.ids.Stamp.{Stamp}
use Rattle.xt_messages.specs.declared.file.ObjectVersion.{ObjectVersion}
use Rattle.xt_messages.specs.declared.record.FileRow.{FileRow}
use Rattle.xt_messages.specs.declared.record.Folded.{Folded}
use Rattle.xt_messages.specs.declared.record.KeepBody.{KeepBody}
use Rattle.xt_messages.specs.declared.record.Record.{Record}
use Rattle.xt_messages.specs.declared.record.Record.TheVariants as kept
use Rattle.xt_protocol.specs.Folds.{new_row, row_in, row_after, folded_after, digests_kept, is_logged, logged_of, widened, fold_of, IsInPlace, AreInPlace}
use Rattle.xt_protocol.specs.Forgetting.{records_of_row, records_of_rows, row_without, rewritten}
use Rattle.xt_protocol.specs.SeenBodies.{body_by}
use Rattle.forgetting.specs.Rewritten.{NamedAreKept, AreInPlaceAgain}
use Rattle.xt_protocol.proofs.FileRows.{FilesRise}
use Rattle.forgetting.proofs.Rows.{Ascend, AreBefore, AreOf, some_records, last_new, read_new, read_last, unsealed, unsealed_are, unsealed_says, before_head, each_before, over_before, seal_folds, Follow, follow_next, follow_none, row_says}
use Rattle.forgetting.proofs.Folded.{folds_rise, rise_without, up_without}
use Rattle.forgetting.proofs.Said.{widened_fold}
use Rattle.xt_protocol.proofs.Folds.{logged_widened, row_after-file}

-- a record that can come at any time
abbrev pub IsEasy : Record → Type 0
IsEasy rec = (f : Folded) → IsInPlace f rec

-- records in their places, and then others
join : (f : Folded) (xs ys : List Record) → AreInPlace f xs → AreInPlace (fold folded_after f xs) ys → AreInPlace f (xs ++ ys)
join f [] ys here there = there
join f (x ∷ xs) ys here there = (here.0, join (folded_after f x) xs ys here.1 there)

easy_all : (f : Folded) (xs : List Record) → AllByRecursion IsEasy xs → AreInPlace f xs
easy_all f [] all = tt
easy_all f (x ∷ xs) all = (all.0 f, easy_all (folded_after f x) xs all.1)

easy_logged : (records : List Record) → AllByRecursion IsEasy (filter is_logged records)
easy_logged [] = tt
easy_logged (rec ∷ recs) = at (is_logged rec) refl (easy_logged recs)
  where
    one : (r : Record) → is_logged r ≡ true → IsEasy r
    one (kept.Meta from number now nodes request) is f = tt
    one (kept.Choice file location head source) is f = tt
    one (kept.OldChoice file location head source) is f = tt
    one (kept.Listed file version) is f = tt
    one _ is f = absurd cc

    at : (b : Bool) → is_logged rec ≡ b → AllByRecursion IsEasy (filter is_logged recs) → AllByRecursion IsEasy (cond b (rec ∷ filter is_logged recs) (filter is_logged recs))
    at true is rest = (one rec is, rest)
    at false is rest = rest

easy_widened : (records : List Record) → AllByRecursion IsEasy (map widened (logged_of records))
unfolding logged_of
easy_widened records = subst (AllByRecursion IsEasy) (logged_widened records) (easy_logged (map widened records))

module _ (body : FileId → ℕ → Stamp → List ℕ) (digests : FileId → ℕ → Stamp → List (List ℕ)) where
  easy_before : (row : FileRow) → AllByRecursion IsEasy (before_head body digests row)
  easy_before row = each_before body digests IsEasy row (λ location f. tt) (λ version f. tt) (λ v f. tt) (λ v digest f. tt)

  -- what some records of a file make of its row, after rows that come before it
  row_behind : (boot : Boot) (pre : List FileRow) (file : FileId) (xs : List Record) → AreBefore file pre → AreOf file xs
      → row_in (fold folded_after (record { boot = boot; files = pre }) xs).files file ≡ fold row_after (new_row file) xs
  row_behind boot pre file [] before of = read_new pre file before
  row_behind boot pre file (x ∷ xs) before of =
      ap (λ (f : Folded). row_in f.files file) (some_records xs boot pre pre (new_row file) x of.0 of.1 before (last_new pre file before)) ∙ last (fold row_after (new_row file) (x ∷ xs)) (same (x ∷ xs) (new_row file))
    where
      same : (ys : List Record) (a : FileRow) → (fold row_after a ys).file ≡ a.file
      same [] a = refl
      same (y ∷ ys) a = same ys (row_after a y) ∙ row_after-file a y

      last : (a : FileRow) → a.file ≡ file → row_in (pre ++ a ∷ []) file ≡ a
      last a is = ap (λ (k : FileId). row_in (pre ++ a ∷ []) k) (sym is) ∙ read_last pre a (subst (λ (k : FileId). AreBefore k pre) (sym is) before)

  row_there : (boot : Boot) (pre : List FileRow) (row : FileRow) → Ascend row.held → AreBefore row.file pre → All (Contains row.held) row.head.versions
      → AreInPlace (record { boot = boot; files = pre }) (records_of_row body digests row)
  row_there boot pre row up before named =
      let start : Folded = record { boot = boot; files = pre } in
      join start (before_head body digests row) (kept.Head row.file row.head ∷ []) (easy_all start (before_head body digests row) (easy_before row)) (
        subst (λ (held : List ObjectVersion). All (Contains held) row.head.versions)
            (sym (ap (λ (f : Folded). (row_in f.files row.file).held) (over_before body digests folded_after seal_folds row start)
            ∙ ap (λ (r : FileRow). r.held) (row_behind boot pre row.file (unsealed body row) before (unsealed_are body row) ∙ unsealed_says body row up))) named,
        tt,
      )

  abbrev AreNamed : List FileRow → Type 0
  AreNamed rows = AllByRecursion (λ (r : FileRow). All (Contains r.held) r.head.versions) rows

  rows_there : (boot : Boot) (pre rows : List FileRow) → FilesRise rows → AllByRecursion (λ (r : FileRow). Ascend r.held) rows → Follow body digests pre rows → AreNamed rows
      → AreInPlace (record { boot = boot; files = pre }) (records_of_rows body digests rows)
  rows_there boot pre [] rise up follow named = tt
  rows_there boot pre (r ∷ rs) rise up follow named =
      join (record { boot = boot; files = pre }) (records_of_row body digests r) (records_of_rows body digests rs) (row_there boot pre r up.0 follow.0 named.0)
      (subst (λ (f : Folded). AreInPlace f (records_of_rows body digests rs)) (sym (row_says body digests boot pre r up.0 follow.0))
      (rows_there boot (pre ++ r ∷ []) rs rise.1 up.1 (follow_next body digests pre r rs follow.1 rise.0) named.1))

  pub all_there : (boot : Boot) (rows : List FileRow) → FilesRise rows → AllByRecursion (λ (r : FileRow). Ascend r.held) rows → AreNamed rows
      → AreInPlace (record { boot = boot; files = [] }) (records_of_rows body digests rows)
  all_there boot rows rise up named = rows_there boot [] rows rise up (follow_none body digests rows) named

named_without : (keep : List KeepBody) (rows : List FileRow) → NamedAreKept keep rows → AllByRecursion (λ (r : FileRow). All (Contains r.held) r.head.versions) (map (row_without keep) rows)
named_without keep [] named = tt
named_without keep (r ∷ rs) named = (named r (0, omega arith, refl), named_without keep rs (λ row has. named row (suc has.0, omega (arith, has.1), has.2)))

pub there : AreInPlaceAgain
unfolding rewritten
there keep records named =
    let f = fold_of records in
    let start : Folded = record { boot = f.boot; files = [] } in
    let rows = map (row_without keep) f.files in
    let rise = folds_rise records in (
      tt,
      join start (map widened (logged_of records)) (records_of_rows (body_by records) (digests_kept records) rows) (easy_all start (map widened (logged_of records)) (easy_widened records))
          (subst (λ (g : Folded). AreInPlace g (records_of_rows (body_by records) (digests_kept records) rows)) (sym (widened_fold records start))
          (all_there (body_by records) (digests_kept records) f.boot rows (rise_without keep f.files rise.files) (up_without keep f.files rise.each) (named_without keep f.files named))),
    )
