-- Digests, and bodies in place of some that are held, change nothing of what records say.
use Rattle.std.proofs.Common.{◌≡◌, ◌||◌, ℕ, Bool, true, false, cond, List, [], ◌∷◌, ◌++◌, refl, ap, sym, ◌∙◌, append-nil}
use Rattle.std.specs.Prelude.{filter}
use Rattle.std.specs.List.{All, AllByRecursion, fold}
use Rattle.std.proofs.lemmas.List.Elements.{All-contains, filter-append}
use Rattle.std.specs.Ordering.{is_eq, is_lt}
use Rattle.std.specs.declared.cmp.Ordering.{Ordering}
use Rattle.std.specs.declared.cmp.Ordering.TheVariants.{Less, Equal, Greater}
use Rattle.xt_base.specs.declared.ids.FileId.{FileId}
use Rattle.xt_base.specs.declared.ids.Stamp.{Stamp}
use Rattle.xt_messages.specs.declared.file.ObjectVersion.{ObjectVersion}
use Rattle.xt_messages.specs.declared.record.FileRow.{FileRow}
use Rattle.xt_messages.specs.declared.record.Folded.{Folded}
use Rattle.xt_messages.specs.declared.record.Record.{Record}
use Rattle.xt_messages.specs.declared.record.Record.TheVariants as kept
use Rattle.xt_protocol.specs.FileIds.{is_before, file_cmp}
use Rattle.xt_protocol.specs.Folds.{new_row, row_in, with_row, folded_after, fold_of, is_logged, logged_of, body_of}
use Rattle.xt_protocol.specs.Stamps.{has_version, with_held}
use Rattle.xt_protocol.specs.VersionOrder.{version_cmp}
use Rattle.xt_protocol.proofs.Folds.{file_cmp_total, fold_of-append, row_in-file}
use Rattle.xt_protocol.proofs.FileRows.{FilesRise, back, equal_files, less, put_behind, put_over, read_before, read_behind, read_here}
use Rattle.xt_protocol.proofs.Stamps.{held-behind, held-here, is_version-cmp, version-back}
use Rattle.forgetting.proofs.Digests.{above_none}
use Rattle.forgetting.proofs.Folded.{RowsRise, above_all, folds_rise, row_up}
use Rattle.forgetting.proofs.Rows.{Ascend}
use Rattle.scrub.specs.declared.listing.Item.{Item}
use Rattle.scrub.specs.Items.{items_of}
use Rattle.scrub.specs.Laws.{IsOfItems, ScrubsSayNothing}
use Rattle.scrub.proofs.There.{HoldsItem, items_are_held}

nothing_there : {A : Type 0} → false ≡ true → A
nothing_there no_way = absurd cc

-- ---- held versions

-- one that is held already changes nothing
held_again : (hs : List ObjectVersion) (v : ObjectVersion) → Ascend hs → has_version hs v ≡ true → with_held hs v ≡ hs
held_again [] v up has = nothing_there has
held_again (h ∷ hs) v up has = at (version_cmp h v) refl (held_again hs v up.1)
  where
    other : (o : Ordering) → version_cmp v h ≡ o → is_eq o ≡ false → has_version hs v ≡ true
    other o is apart = sym (ap (λ (t : Bool). t || has_version hs v) (is_version-cmp v h ∙ ap is_eq is ∙ apart)) ∙ has

    at : (o : Ordering) → version_cmp h v ≡ o → (has_version hs v ≡ true → with_held hs v ≡ hs) → with_held (h ∷ hs) v ≡ h ∷ hs
    at Less is rest = held-behind h v hs is ∙ ap (λ (l : List ObjectVersion). h ∷ l) (rest (other Greater (version-back h v Less is) refl))
    at Equal is rest = held-here h v hs is
    at Greater is rest =
        let first : version_cmp v h ≡ Less = version-back h v Greater is in
        nothing_there (sym (above_none v hs (above_all v h hs first up.0)) ∙ other Less first refl)

-- ---- rows

-- a file that comes before all of them has no row
none_before : (rows : List FileRow) (file : FileId) → AllByRecursion (λ (r : FileRow). is_before file r.file ≡ true) rows → row_in rows file ≡ new_row file
unfolding row_in
none_before [] file all = refl
none_before (r ∷ rs) file all = read_before r rs file (back r.file file Less (less (file_cmp file r.file) all.0)) ∙ none_before rs file all.1

before_all : (file other : FileId) (rows : List FileRow) → file_cmp file other ≡ Less → AllByRecursion (λ (r : FileRow). is_before other r.file ≡ true) rows
    → AllByRecursion (λ (r : FileRow). is_before file r.file ≡ true) rows
before_all file other [] is all = tt
before_all file other (r ∷ rs) is all = (ap is_lt (file_cmp_total.trans file other r.file is (less (file_cmp other r.file) all.0)), before_all file other rs is all.1)

-- the row of a file that holds something, put again
row_again : (rows : List FileRow) (file : FileId) (v : ObjectVersion) → FilesRise rows → has_version (row_in rows file).held v ≡ true → with_row rows (row_in rows file) ≡ rows
unfolding row_in
row_again [] file v rise has = nothing_there has
row_again (r ∷ rs) file v rise has = at (file_cmp r.file file) refl (row_again rs file v rise.1)
  where
    at : (o : Ordering) → file_cmp r.file file ≡ o → (has_version (row_in rs file).held v ≡ true → with_row rs (row_in rs file) ≡ rs)
        → with_row (r ∷ rs) (row_in (r ∷ rs) file) ≡ r ∷ rs
    at Less is rest =
        let same : row_in (r ∷ rs) file ≡ row_in rs file = read_behind r rs file is in
        ap (with_row (r ∷ rs)) same
        ∙ put_behind r (row_in rs file) rs (ap (file_cmp r.file) (row_in-file rs file) ∙ is)
        ∙ ap (λ (l : List FileRow). r ∷ l) (rest (sym (ap (λ (x : FileRow). has_version x.held v) same) ∙ has))
    at Equal is rest =
        ap (with_row (r ∷ rs)) (read_here r rs file is)
        ∙ put_over r r rs (ap (file_cmp r.file) (equal_files r.file file is) ∙ is)
    at Greater is rest =
        let first : file_cmp file r.file ≡ Less = back file r.file Greater is in
        nothing_there (sym (ap (λ (x : FileRow). has_version x.held v) (read_before r rs file is ∙ none_before rs file (before_all file r.file rs first rise.0))) ∙ has)

-- ---- the law

-- bytes in place of a body that is held
staged_again : (f : Folded) (file : FileId) (object : ℕ) (version : Stamp) (bytes : List ℕ) → RowsRise f.files
    → has_version (row_in f.files file).held (body_of object version) ≡ true → folded_after f (kept.Stage file object version bytes) ≡ f
staged_again f file object version bytes rise held =
    let row = row_in f.files file in
    let same : with_held row.held (body_of object version) ≡ row.held =
    held_again row.held (body_of object version) (row_up f.files file rise.each) held
    in
    ap (λ (hs : List ObjectVersion). record { boot = record { 0 = f.boot.0 }; files = with_row f.files (record row { held = hs }) }) same
    ∙ ap (λ (rows : List FileRow). record { boot = record { 0 = f.boot.0 }; files = rows }) (row_again f.files file (body_of object version) rise.files held)

module _ (f : Folded) (rise : RowsRise f.files) (items : List Item) (held : All (HoldsItem f.files) items) where
  one_again : (rec : Record) → IsOfItems items rec → (folded_after f rec ≡ f) × (is_logged rec ≡ false)
  one_again (kept.Seal file object version digest) among = (refl, refl)
  one_again (kept.Stage file object version bytes) (seal, among) = (
    staged_again f file object version bytes rise
        (All-contains (HoldsItem f.files) items (record { file = file; object = object; version = version; seal = seal }) held among),
    refl,
  )
  one_again _ none = absurd none

  all_again : (more : List Record) → AllByRecursion (IsOfItems items) more → fold folded_after f more ≡ f
  all_again [] all = refl
  all_again (rec ∷ recs) all = ap (λ (g : Folded). fold folded_after g recs) (one_again rec all.0).0 ∙ all_again recs all.1

  none_logged : (more : List Record) → AllByRecursion (IsOfItems items) more → filter is_logged more ≡ []
  none_logged [] all = refl
  none_logged (rec ∷ recs) all =
      ap (λ (b : Bool). cond b (rec ∷ filter is_logged recs) (filter is_logged recs)) (one_again rec all.0).1 ∙ none_logged recs all.1

pub scrubs_say_nothing : ScrubsSayNothing
unfolding logged_of
scrubs_say_nothing records more placed of =
    let f = fold_of records in
    let items = items_of (fold_of records) records in
    let rise = folds_rise records in
    let held = items_are_held records placed in (
      fold_of-append records more ∙ all_again f rise items held more of,
      filter-append is_logged records more
          ∙ ap (λ (rest : List Record). filter is_logged records ++ rest) (none_logged f rise items held more of)
          ∙ append-nil (filter is_logged records),
    )
