-- what records say once files are swept from them
use Rattle.std.proofs.Common.{◌≡◌, ℕ, Bool, true, false, cond, not, List, [], ◌∷◌, map, Some, unwrap_or, Option, refl, sym, ◌∙◌, ap}
use Rattle.std.specs.Prelude.{filter}
use Rattle.xt_base.specs.declared.ids.FileId.{FileId}
use Rattle.xt_base.specs.declared.ids.Stamp.{Stamp}
use Rattle.xt_messages.specs.declared.file.ObjectVersion.{ObjectVersion}
use Rattle.xt_messages.specs.declared.record.FileRow.{FileRow}
use Rattle.xt_messages.specs.declared.record.Folded.{Folded}
use Rattle.xt_messages.specs.declared.record.KeepBody.{KeepBody}
use Rattle.xt_messages.specs.declared.record.Record.{Record}
use Rattle.xt_protocol.specs.FileIds.{is_file}
use Rattle.xt_protocol.specs.Folds.{body_of, fold_of, row_in, widened}
use Rattle.xt_protocol.specs.Forgetting.{folded_without, row_without}
use Rattle.xt_protocol.specs.Stamps.{has_version}
use Rattle.xt_protocol.proofs.Folds.{file-equal}
use Rattle.forgetting.specs.Rewritten.{IsHeldStill}
use Rattle.forgetting.proofs.Bodies
use Rattle.forgetting.proofs.Digests
use Rattle.forgetting.proofs.Said
use Rattle.replica_records.specs.Heads.{heads_of}
use Rattle.orphan_sweep.specs.Swept.{SaysNamedBut, folded_but, holds, is_among, removed, swept, with_named}
use Rattle.orphan_sweep.proofs.Removed.{bodies_stay, digests_stay, folds_but, requests_stay}

-- of a file that is removed nothing is held
none_held : (keep : List KeepBody) (files : List FileId) (file : FileId) (rows : List FileRow) → is_among files file ≡ true
    → (row_in (map (row_without keep) (filter (λ row. not (is_among files row.file)) rows)) file).held ≡ []
unfolding row_in
none_held keep files file [] among = refl
none_held keep files file (r ∷ rs) among = at (is_among files r.file) refl (none_held keep files file rs among)
  where
    here : (same : Bool) → is_file r.file file ≡ same → is_among files r.file ≡ false
        → (row_in (map (row_without keep) (filter (λ row. not (is_among files row.file)) rs)) file).held ≡ []
        → (cond same (row_without keep r) (row_in (map (row_without keep) (filter (λ row. not (is_among files row.file)) rs)) file)).held ≡ []
    here true same out rest =
        absurd (let no : true ≡ false = sym among ∙ sym (ap (is_among files) (file-equal r.file file same)) ∙ out in cc no)
    here false other out rest = rest

    at : (gone : Bool) → is_among files r.file ≡ gone
        → (row_in (map (row_without keep) (filter (λ row. not (is_among files row.file)) rs)) file).held ≡ []
        → (row_in (map (row_without keep) (cond (not gone) (r ∷ filter (λ row. not (is_among files row.file)) rs) (filter (λ row. not (is_among files row.file)) rs))) file).held ≡ []
    at true is rest = rest
    at false is rest = here (is_file r.file file) refl is rest

none_left : (files : List FileId) (folded : Folded) (file : FileId) → is_among files file ≡ true
    → (row_in (with_named (folded_but files folded)).files file).held ≡ []
unfolding folded_without folded_but
none_left files folded file among = none_held (heads_of (folded_but files folded)) files file folded.files among

module _ (files : List FileId) (records : List Record) where
  abbrev rest : List Record
  rest = removed records files

  abbrev keep : List KeepBody
  keep = heads_of (fold_of rest)

  same : fold_of (swept records files) ≡ folded_without keep (fold_of rest)
  same = Said.same keep rest

  folds : fold_of (swept records files) ≡ with_named (folded_but files (fold_of records))
  folds = same ∙ ap with_named (folds_but files records)

  module _ (file : FileId) (object : ℕ) (version : Stamp) where
    abbrev held_in : Folded → Bool
    held_in folded = has_version (row_in folded.files file).held (body_of object version)

    -- a file of which a body is held isn't removed
    stays : holds (swept records files) file object version ≡ true → is_among files file ≡ false
    stays held = at (is_among files file) refl
      where
        at : (among : Bool) → is_among files file ≡ among → is_among files file ≡ false
        at true is =
            absurd (let no : true ≡ false =
            sym held ∙ ap held_in folds ∙ ap (λ (hs : List ObjectVersion). has_version hs (body_of object version)) (none_left files (fold_of records) file is) in cc no)
        at false is = is

    held_still : holds (swept records files) file object version ≡ true → IsHeldStill keep rest file object version
    held_still held = sym (ap held_in same) ∙ held

pub says_named_but : (files : List FileId) (records : List Record) → SaysNamedBut files records (swept records files)
says_named_but files records = record {
  folds = folds files records;
  requests = Said.requests (keep files records) (rest files records) ∙ ap (map widened) (requests_stay files records);
  written = Said.written (keep files records) (rest files records);
  bodies = λ file object version held.
      Bodies.keeps (keep files records) (rest files records) file object version (held_still files records file object version held)
      ∙ ap (λ (body : Option (List ℕ)). Some (unwrap_or body [])) (bodies_stay file object version files records);
  digests = λ file object version held.
      Digests.keeps (keep files records) (rest files records) file object version (held_still files records file object version held)
      ∙ digests_stay file object version files records (stays files records file object version held);
  others = λ file object version none.
      Bodies.forgets (keep files records) (rest files records) file object version (sym (ap (held_in files records file object version) (same files records)) ∙ none);
  other_digests = λ file object version none.
      Digests.forgets (keep files records) (rest files records) file object version (sym (ap (held_in files records file object version) (same files records)) ∙ none);
}
