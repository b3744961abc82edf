-- what records say once files are removed from them
use Rattle.std.proofs.Common.{◌≡◌, ◌||◌, ℕ, Bool, true, false, cond, not, List, [], ◌∷◌, ◌++◌, Option, refl, sym, ◌∙◌, ap, append-nil}
use Rattle.std.specs.Prelude.{filter}
use Rattle.std.specs.List.{fold}
use Rattle.std.proofs.lemmas.Bool.{or_parts}
use Rattle.std.proofs.lemmas.List.Elements.{filter-append}
use Rattle.std.proofs.lemmas.List.Sums.{fold-append}
use Rattle.xt_base.specs.declared.ids.FileId.{FileId}
use Rattle.xt_base.specs.declared.ids.Stamp.{Stamp}
use Rattle.xt_messages.specs.declared.record.FileRow.{FileRow}
use Rattle.xt_messages.specs.declared.record.Folded.{Folded}
use Rattle.xt_messages.specs.declared.record.Record.{Record}
use Rattle.xt_messages.specs.declared.record.Record.TheVariants as kept
use Rattle.xt_protocol.specs.FileIds.{is_file}
use Rattle.xt_protocol.specs.Folds.{body_after, body_kept, digests_after, digests_kept, fold_of, folded_after, is_logged, logged_of, without_row}
use Rattle.xt_protocol.proofs.Folds.{body_kept-append, file-symmetric, fold_of-append}
use Rattle.orphan_sweep.specs.Swept.{SaysBut, folded_but, is_among, removals, removed}

-- ---- rows

-- what fails one test and then another
failing_both : {X : Type 0} (p q : X → Bool) (xs : List X) → filter (λ x. not (p x)) (filter (λ x. not (q x)) xs) ≡ filter (λ x. not (q x || p x)) xs
failing_both p q [] = refl
failing_both {X = X} p q (x ∷ xs) = parted (q x) ∙ at (q x) (p x) (failing_both p q xs)
  where
    parted : (a : Bool)
        → filter (λ y. not (p y)) (cond (not a) (x ∷ filter (λ y. not (q y)) xs) (filter (λ y. not (q y)) xs))
        ≡ cond (not a) (filter (λ y. not (p y)) (x ∷ filter (λ y. not (q y)) xs)) (filter (λ y. not (p y)) (filter (λ y. not (q y)) xs))
    parted true = refl
    parted false = refl

    at : (a b : Bool) → filter (λ y. not (p y)) (filter (λ y. not (q y)) xs) ≡ filter (λ y. not (q y || p y)) xs
        → cond (not a) (cond (not b) (x ∷ filter (λ y. not (p y)) (filter (λ y. not (q y)) xs)) (filter (λ y. not (p y)) (filter (λ y. not (q y)) xs)))
        (filter (λ y. not (p y)) (filter (λ y. not (q y)) xs))
        ≡ cond (not (a || b)) (x ∷ filter (λ y. not (q y || p y)) xs) (filter (λ y. not (q y || p y)) xs)
    at true b rest = rest
    at false true rest = rest
    at false false rest = ap (λ (l : List X). x ∷ l) rest

-- a file is removed, and then others
one_gone : (file : FileId) (files : List FileId) (folded : Folded) → folded_but files (folded_after folded (kept.Forget file)) ≡ folded_but (file ∷ files) folded
unfolding folded_but without_row
one_gone file files folded =
    ap (λ (rows : List FileRow). record folded { files = rows }) (failing_both (λ (row : FileRow). is_among files row.file) (λ (row : FileRow). is_file row.file file) folded.files)

all_stay : (rows : List FileRow) → filter (λ row. not (is_among [] row.file)) rows ≡ rows
all_stay [] = refl
all_stay (row ∷ rows) = ap (λ (l : List FileRow). row ∷ l) (all_stay rows)

none_gone : (folded : Folded) → folded ≡ folded_but [] folded
unfolding folded_but
none_gone folded = ap (λ (rows : List FileRow). record folded { files = rows }) (sym (all_stay folded.files))

all_gone : (files : List FileId) (folded : Folded) → fold folded_after folded (removals files) ≡ folded_but files folded
all_gone [] folded = none_gone folded
all_gone (file ∷ files) folded = all_gone files (folded_after folded (kept.Forget file)) ∙ one_gone file files folded

pub folds_but : (files : List FileId) (records : List Record) → fold_of (removed records files) ≡ folded_but files (fold_of records)
folds_but files records = fold_of-append records (removals files) ∙ all_gone files (fold_of records)

-- ---- requests, bodies and digests

none_logged : (files : List FileId) → filter is_logged (removals files) ≡ []
none_logged [] = refl
none_logged (file ∷ files) = none_logged files

pub requests_stay : (files : List FileId) (records : List Record) → logged_of (removed records files) ≡ logged_of records
unfolding logged_of
requests_stay files records =
    filter-append is_logged records (removals files) ∙ ap (λ (l : List Record). filter is_logged records ++ l) (none_logged files) ∙ append-nil (filter is_logged records)

module _ (file : FileId) (object : ℕ) (version : Stamp) where
  no_body : (files : List FileId) (body : Option (List ℕ)) → fold (body_after file object version) body (removals files) ≡ body
  no_body [] body = refl
  no_body (gone ∷ files) body = no_body files body

  pub bodies_stay : (files : List FileId) (records : List Record) → body_kept (removed records files) file object version ≡ body_kept records file object version
  bodies_stay files records = body_kept-append records (removals files) file object version ∙ no_body files (body_kept records file object version)

  others_sealed : (files : List FileId) (digests : List (List ℕ)) → is_among files file ≡ false
      → fold (digests_after file object version) digests (removals files) ≡ digests
  others_sealed [] digests out = refl
  others_sealed (gone ∷ files) digests out =
      let parts = or_parts (is_file file gone) (is_among files file) out in
      let other : is_file gone file ≡ false = file-symmetric gone file ∙ parts.0 in
      ap (λ (here : Bool). fold (digests_after file object version) (cond here [] digests) (removals files)) other
      ∙ others_sealed files digests parts.1

  pub digests_stay : (files : List FileId) (records : List Record) → is_among files file ≡ false
      → digests_kept (removed records files) file object version ≡ digests_kept records file object version
  unfolding digests_kept
  digests_stay files records out =
      fold-append (digests_after file object version) [] records (removals files)
      ∙ others_sealed files (fold (digests_after file object version) [] records) out

pub says_but : (files : List FileId) (records : List Record) → SaysBut files records (removed records files)
says_but files records = record {
  folds = folds_but files records;
  requests = requests_stay files records;
  bodies = λ file object version. bodies_stay file object version files records;
  digests = λ file object version out. digests_stay file object version files records out;
}
