-- payloads that are read as records, one after the other
use Rattle.std.proofs.Common.{◌≡◌, ℕ, List, [], ◌∷◌, ◌++◌, length, ap, ◌∙◌, sym, subst, arith}
use Rattle.std.specs.List.{All, fold}
use Rattle.std.proofs.lemmas.List.{map-append}
use Rattle.std.proofs.lemmas.List.Elements.{All-append, All-push}
use Rattle.std.proofs.lemmas.List.Sums.{fold-append}
use Rattle.xt_messages.specs.Limits.{FitsRecord}
use Rattle.xt_messages.specs.declared.record.Folded.{Folded}
use Rattle.xt_messages.specs.declared.record.Record.{Record}
use Rattle.xt_protocol.specs.Folds.{folded_after, nothing_kept, fold_of, IsInPlace, AreInPlace}
use Rattle.replica_records.specs.RecordText.{record_text}
use Rattle.xt_journal.specs.Placed.{Placed}
use Rattle.xt_journal.specs.Reading.{payloads_of}
use Rattle.object_store.specs.Texts.{texts_of, AreRecords, IsFirstBad}

pub texts-push : (records : List Record) (rec : Record) → texts_of (records ++ rec ∷ []) ≡ texts_of records ++ record_text rec ∷ []
texts-push records rec = map-append record_text records (rec ∷ [])

placed-append : (folded : Folded) (records recs : List Record) → AreInPlace folded records → AreInPlace (fold folded_after folded records) recs
    → AreInPlace folded (records ++ recs)
placed-append folded [] recs are more = more
placed-append folded (r ∷ records) recs are more = (are.0, placed-append (folded_after folded r) records recs are.1 more)

-- records more, each in its place
pub in_place-append : (before records recs : List Record) → AreInPlace (fold_of before) records → AreInPlace (fold_of (before ++ records)) recs
    → AreInPlace (fold_of before) (records ++ recs)
unfolding fold_of
in_place-append before records recs are more =
    placed-append (fold_of before) records recs are
    (subst (λ (f : Folded). AreInPlace f recs) (fold-append folded_after nothing_kept before records) more)

pub are-append : (records recs : List Record) → AreRecords records → All FitsRecord recs → AreInPlace (fold_of records) recs → AreRecords (records ++ recs)
unfolding fold_of
are-append records recs are fit more = record {
  fit = All-append FitsRecord records recs are.fit fit;
  placed = placed-append nothing_kept records recs are.placed more;
}

pub one_fits : (rec : Record) → FitsRecord rec → All FitsRecord (rec ∷ [])
one_fits rec fits = All-push FitsRecord [] rec (λ k d less. absurd (omega (arith, less))) fits

-- a record more
pub are-push : (records : List Record) (rec : Record) → AreRecords records → FitsRecord rec → IsInPlace (fold_of records) rec → AreRecords (records ++ rec ∷ [])
are-push records rec are fits is = are-append records (rec ∷ []) are (one_fits rec fits) (is, tt)

pub none_are : AreRecords []
none_are = record { fit = λ k d less. absurd (omega arith); placed = tt }

pub texts_more : (records : List Record) (rec : Record) (placed : List Placed) (p : Placed) → p.bytes ≡ record_text rec → texts_of records ≡ payloads_of placed
    → texts_of (records ++ rec ∷ []) ≡ payloads_of (placed ++ p ∷ [])
texts_more records rec placed p text before =
    texts-push records rec ∙ ap (λ l. l ++ record_text rec ∷ []) before ∙ ap (λ b. payloads_of placed ++ b ∷ []) (sym text)
    ∙ sym (map-append (λ q. q.bytes) placed (p ∷ []))

-- the first payload that is no record in its place
pub first_bad : (records : List Record) (count : ℕ) (placed : List Placed) (p : Placed) (rest : List Placed) → count ≡ length records → texts_of records ≡ payloads_of placed
    → AreRecords records → ((rec : Record) → FitsRecord rec → p.bytes ≡ record_text rec → IsInPlace (fold_of records) rec → ⊥)
    → IsFirstBad (payloads_of (placed ++ p ∷ rest)) count
first_bad records count placed p rest all before are bad = record {
  before = records;
  are = are;
  payload = p.bytes;
  rest = payloads_of rest;
  split = map-append (λ q. q.bytes) placed (p ∷ rest) ∙ ap (λ l. l ++ p.bytes ∷ payloads_of rest) (sym before);
  place = all;
  bad = bad;
}
