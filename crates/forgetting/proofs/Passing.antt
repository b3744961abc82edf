-- What a fold passes over among rewritten records: recorded requests, digests, and what is of other files.
use Rattle.std.proofs.Common.{◌≡◌, ℕ, Bool, true, false, cond, List, [], ◌∷◌, refl, ap, sym, subst, ◌∙◌, map}
use Rattle.std.specs.Prelude.{filter, flat_map}
use Rattle.std.specs.List.{fold, AllByRecursion}
use Rattle.std.specs.Ordering.{is_eq}
use Rattle.std.specs.declared.cmp.Ordering.TheVariants.{Less}
use Rattle.std.proofs.lemmas.List.Sums.{fold-append}
use Rattle.xt_base.specs.declared.ids.FileId.{FileId}
use Rattle.xt_base.specs.declared.ids.Stamp.{Stamp}
use Rattle.xt_messages.specs.declared.file.ObjectVersion.{ObjectVersion}
use Rattle.xt_messages.specs.declared.record.FileRow.{FileRow}
use Rattle.xt_messages.specs.declared.record.Record.{Record}
use Rattle.xt_messages.specs.declared.record.Record.TheVariants as kept
use Rattle.xt_protocol.specs.FileIds.{is_file, is_before, file_cmp}
use Rattle.xt_protocol.specs.Folds.{new_row, row_in, is_logged, logged_of, widened}
use Rattle.xt_protocol.specs.Forgetting.{stage_of, sealed_stage_of, seals_of}
use Rattle.xt_protocol.proofs.Folds.{file-equal, is_file-file_cmp, logged_widened}
use Rattle.xt_protocol.proofs.FileRows.{FilesRise, less, back}

-- ---- requests

module _ {A : Type 0} (step : A → Record → A) (over : (a : A) (rec : Record) → is_logged rec ≡ true → step a rec ≡ a) where
  pub over_requests : (records : List Record) (a : A) → fold step a (filter is_logged records) ≡ a
  over_requests [] a = refl
  over_requests (rec ∷ recs) a = at (is_logged rec) refl (over_requests recs)
    where
      at : (b : Bool) → is_logged rec ≡ b → ((c : A) → fold step c (filter is_logged recs) ≡ c)
          → fold step a (cond b (rec ∷ filter is_logged recs) (filter is_logged recs)) ≡ a
      at true is rest = ap (λ (c : A). fold step c (filter is_logged recs)) (over a rec is) ∙ rest a
      at false is rest = rest a

  -- widened ones too
  pub over_widened : (records : List Record) (a : A) → fold step a (map widened (logged_of records)) ≡ a
  unfolding logged_of
  over_widened records a = ap (fold step a) (sym (logged_widened records)) ∙ over_requests (map widened records) a

-- ---- digests

module _ {A : Type 0} (step : A → Record → A)
    (over : (a : A) (file : FileId) (object : ℕ) (version : Stamp) (digest : List ℕ) → step a (kept.Seal file object version digest) ≡ a)
    (body : FileId → ℕ → Stamp → List ℕ) (digests : FileId → ℕ → Stamp → List (List ℕ)) where
  over_each : (file : FileId) (v : ObjectVersion) (each : List (List ℕ)) (a : A)
      → fold step a (map (λ digest. kept.Seal file v.object v.version digest) each) ≡ a
  over_each file v [] a = refl
  over_each file v (d ∷ ds) a =
      ap (λ (b : A). fold step b (map (λ digest. kept.Seal file v.object v.version digest) ds)) (over a file v.object v.version d) ∙ over_each file v ds a

  pub over_digests : (file : FileId) (held : List ObjectVersion) (a : A)
      → fold step a (flat_map (sealed_stage_of body digests file) held) ≡ fold step a (map (stage_of body file) held)
  over_digests file [] a = refl
  over_digests file (v ∷ vs) a =
      fold-append step (step a (stage_of body file v)) (seals_of digests file v) (flat_map (sealed_stage_of body digests file) vs)
      ∙ ap (λ (b : A). fold step b (flat_map (sealed_stage_of body digests file) vs)) (over_each file v (digests file v.object v.version) (step a (stage_of body file v)))
      ∙ over_digests file vs (step a (stage_of body file v))

-- ---- other files

module _ {A : Type 0} (step : A → Record → A) (records : FileRow → List Record) (f : FileId)
    (others : (row : FileRow) (a : A) → is_file row.file f ≡ false → fold step a (records row) ≡ a) where
  abbrev AreOthers : List FileRow → Type 0
  AreOthers rows = AllByRecursion (λ (r : FileRow). is_file r.file f ≡ false) rows

  other_rows : (rows : List FileRow) (a : A) → AreOthers rows → fold step a (flat_map records rows) ≡ a
  other_rows [] a all = refl
  other_rows (r ∷ rs) a all =
      fold-append step a (records r) (flat_map records rs)
      ∙ ap (λ (b : A). fold step b (flat_map records rs)) (others r a all.0) ∙ other_rows rs a all.1

  -- the files after this one are others
  later_others : (rows : List FileRow) → AllByRecursion (λ (later : FileRow). is_before f later.file ≡ true) rows → AreOthers rows
  later_others [] all = tt
  later_others (r ∷ rs) all = (is_file-file_cmp r.file f ∙ ap is_eq (back r.file f Less (less (file_cmp f r.file) all.0)), later_others rs all.1)

  -- What holds of a file's row and of what its own records make, holds of the file among all rows and of what all records make. Of
  -- each row something more may be known.
  pub rows_make : (P : FileRow → A → Type 0) (Q : FileRow → Type 0) (a : A) → P (new_row f) a
      → ((row : FileRow) → row.file ≡ f → Q row → P row (fold step a (records row)))
      → (rows : List FileRow) → FilesRise rows → AllByRecursion Q rows → P (row_in rows f) (fold step a (flat_map records rows))
  unfolding row_in
  rows_make P Q a none own [] rise each = none
  rows_make P Q a none own (r ∷ rs) rise each = at (is_file r.file f) refl (rows_make P Q a none own rs rise.1 each.1)
    where
      at : (same : Bool) → is_file r.file f ≡ same → P (row_in rs f) (fold step a (flat_map records rs))
          → P (cond same r (row_in rs f)) (fold step a (flat_map records (r ∷ rs)))
      at true is rest =
          let same : r.file ≡ f = file-equal r.file f is in
          subst (P r)
          (sym (fold-append step a (records r) (flat_map records rs)
          ∙ other_rows rs (fold step a (records r)) (later_others rs (subst (λ (x : FileId). AllByRecursion (λ (later : FileRow). is_before x later.file ≡ true) rs) same rise.0))))
          (own r same each.0)
      at false other rest =
          subst (P (row_in rs f))
          (sym (fold-append step a (records r) (flat_map records rs) ∙ ap (λ (b : A). fold step b (flat_map records rs)) (others r a other)))
          rest
