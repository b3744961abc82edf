-- payloads of records that are read again
use Rattle.std.proofs.Common.{◌≡◌, ℕ, suc, List, [], ◌∷◌, ◌++◌, Ok, refl, ap, ◌∙◌, sym, subst, arith}
use Rattle.std.specs.List.{All, fold}
use Rattle.xt_messages.specs.Limits.{FitsRecord}
use Rattle.xt_messages.specs.declared.record.Folded.{Folded}
use Rattle.xt_messages.specs.declared.record.Record.{Record}
use Rattle.xt_protocol.specs.Folds.{folded_after, nothing_kept, fold_of, IsInPlace, AreInPlace}
use Rattle.replica_records.specs.RecordText.{record_text}
use Rattle.replica_records.specs.RecordFields.{recorded}
use Rattle.replica_records.proofs.RecordLaws.{recorded_again}
use Rattle.object_store.specs.Texts.{texts_of, AreRecords, IsFirstBad}

-- a record has its text alone
text_once : (a b : Record) → FitsRecord a → FitsRecord b → record_text a ≡ record_text b → a ≡ b
text_once a b fits_a fits_b same =
    let both : Ok a ≡ Ok b = sym (recorded_again a fits_a) ∙ ap recorded same ∙ recorded_again b fits_b in cc

first : (a : Record) (rs : List Record) → All FitsRecord (a ∷ rs) → FitsRecord a
first a rs fit = fit 0 a (omega arith)

others : (a : Record) (rs : List Record) → All FitsRecord (a ∷ rs) → All FitsRecord rs
others a rs fit = λ k d less. fit (suc k) d (omega (arith, less))

no_texts : (payload : List ℕ) (rest : List (List ℕ)) → [] ≡ payload ∷ rest → ⊥
no_texts payload rest is = cc

heads : (a b : List ℕ) (rs bs : List (List ℕ)) → a ∷ rs ≡ b ∷ bs → a ≡ b
heads a b rs bs is = cc

tails : (a b : List ℕ) (rs bs : List (List ℕ)) → a ∷ rs ≡ b ∷ bs → rs ≡ bs
tails a b rs bs is = cc

one_list : (kept found : List Record) → All FitsRecord kept → All FitsRecord found → texts_of found ≡ texts_of kept → found ≡ kept
one_list [] [] fit_k fit_f same = refl
one_list [] (f ∷ fs) fit_k fit_f same = absurd (no_texts _ _ (sym same))
one_list (k ∷ ks) [] fit_k fit_f same = absurd (no_texts _ _ same)
one_list (k ∷ ks) (f ∷ fs) fit_k fit_f same =
    let here = text_once f k (first f fs fit_f) (first k ks fit_k) (heads _ _ _ _ same) in
    let there = one_list ks fs (others k ks fit_k) (others f fs fit_f) (tails _ _ _ _ same) in
    λ i. here i ∷ there i

pub are_of_one_list : (kept found : List Record) → AreRecords kept → AreRecords found → texts_of found ≡ texts_of kept → found ≡ kept
are_of_one_list kept found are_k are_f same = one_list kept found are_k.fit are_f.fit same

-- a payload that is no record in its place isn't among them
bad_at : (folded : Folded) (kept before : List Record) (payload : List ℕ) (rest : List (List ℕ)) → All FitsRecord kept → AreInPlace folded kept
    → All FitsRecord before → texts_of kept ≡ texts_of before ++ payload ∷ rest
    → ((rec : Record) → FitsRecord rec → payload ≡ record_text rec → IsInPlace (fold folded_after folded before) rec → ⊥) → ⊥
bad_at folded [] [] payload rest fit placed fit_b same bad = no_texts _ _ same
bad_at folded [] (b ∷ bs) payload rest fit placed fit_b same bad = no_texts _ _ same
bad_at folded (k ∷ ks) [] payload rest fit placed fit_b same bad = bad k (first k ks fit) (sym (heads _ _ _ _ same)) placed.0
bad_at folded (k ∷ ks) (b ∷ bs) payload rest fit placed fit_b same bad =
    let here = text_once k b (first k ks fit) (first b bs fit_b) (heads _ _ _ _ same) in
    bad_at (folded_after folded b) ks bs payload rest (others k ks fit)
    (subst (λ (r : Record). AreInPlace (folded_after folded r) ks) here placed.1) (others b bs fit_b) (tails _ _ _ _ same) bad

pub none_is_bad : (kept : List Record) (index : ℕ) → AreRecords kept → IsFirstBad (texts_of kept) index → ⊥
unfolding fold_of
none_is_bad kept index are is = bad_at nothing_kept kept is.before is.payload is.rest are.fit are.placed is.are.fit is.split is.bad
