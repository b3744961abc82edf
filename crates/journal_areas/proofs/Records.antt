-- Runs of records: one more, and where a run ends.
use Rattle.std.proofs.Common.{◌≡◌, ◌≢◌, ◌⊎◌, inl, inr, ℕ, ◌+◌, ◌^◌, ◌<◌, ◌≤◌, suc, List, [], ◌∷◌, ◌++◌, length, take, drop, refl, sym, ◌∙◌, ap, subst, arith, append_assoc, length-append}
use Rattle.std.specs.Prelude.{slice_index}
use Rattle.std.proofs.lemmas.List.{take_at, drop_at}
use Rattle.byteorder.specs.Endian.{big_bytes, big_number}
use Rattle.byteorder.specs.Numbers.{big_number-reads_back, length-bytes_high_first}
use Rattle.journal_records.specs.Records.{IsCutOff}
use Rattle.journal_areas.specs.Format.{open_gate, record_of, records, end_of, superblock_kind, IsPayload, IsGiven, AreGiven}

pub length-record : (payload : List ℕ) → length (record_of payload) ≡ 4 + length payload
length-record payload = omega (arith, length-append (big_bytes 4 (length payload)) payload)

-- ---- one more

pub records-append : (ps qs : List (List ℕ)) → records (ps ++ qs) ≡ records ps ++ records qs
records-append [] qs = refl
records-append (p ∷ ps) qs =
    ap (λ (l : List ℕ). open_gate ∷ (record_of p ++ l)) (records-append ps qs)
    ∙ ap (λ (l : List ℕ). open_gate ∷ l) (sym (append_assoc (record_of p) (records ps) (records qs)))

pub records-push : (payloads : List (List ℕ)) (payload rest : List ℕ) → records (payloads ++ payload ∷ []) ++ rest ≡ records payloads ++ open_gate ∷ (record_of payload ++ rest)
records-push [] payload rest = ap (λ (l : List ℕ). open_gate ∷ l) (append_assoc (record_of payload) [] rest)
records-push (p ∷ payloads) payload rest =
    ap (λ (l : List ℕ). open_gate ∷ l)
    (append_assoc (record_of p) (records (payloads ++ payload ∷ [])) rest
    ∙ ap (λ (l : List ℕ). record_of p ++ l) (records-push payloads payload rest)
    ∙ sym (append_assoc (record_of p) (records payloads) (open_gate ∷ (record_of payload ++ rest))))

pub length-push : (payloads : List (List ℕ)) (payload : List ℕ) → length (records (payloads ++ payload ∷ [])) ≡ length (records payloads) + (5 + length payload)
length-push [] payload = omega (arith, length-append (record_of payload) [], length-record payload)
length-push (p ∷ payloads) payload =
    omega (arith, length-push payloads payload, length-append (record_of p) (records (payloads ++ payload ∷ [])), length-append (record_of p) (records payloads))

pub end_of-push : (payloads : List (List ℕ)) (payload : List ℕ) → end_of (payloads ++ payload ∷ []) ≡ end_of payloads + (5 + length payload)
end_of-push payloads payload = omega (arith, length-push payloads payload)

-- ---- where a run ends

-- the length that is read back
pub number_of_record : (payload rest : List ℕ) → length payload < 2 ^ 32 → big_number 4 (record_of payload ++ rest) ≡ length payload
number_of_record payload rest fits =
    ap (big_number 4) (append_assoc (big_bytes 4 (length payload)) payload rest) ∙ big_number-reads_back 4 (length payload) (payload ++ rest) (omega arith)

pub not_cut_off : (payload rest : List ℕ) → IsPayload payload → 1 ≤ length rest → IsCutOff (record_of payload ++ rest) → ⊥
not_cut_off payload rest is some (inl short) = omega (arith, length-append (record_of payload) rest, length-record payload)
not_cut_off payload rest is some (inr (inl none)) = omega (arith, none, number_of_record payload rest is.fits, is.some)
not_cut_off payload rest is some (inr (inr less)) =
    omega (arith, less, number_of_record payload rest is.fits, length-append (record_of payload) rest, length-record payload)

-- a record that begins as a superblock's
pub record IsOfKind (rest : List ℕ) : Type 0 where
  pub payload : List ℕ
  pub more : List ℕ
  pub is_payload : IsPayload payload
  pub kind : slice_index payload 0 ≡ superblock_kind
  pub some : 1 ≤ length more
  pub are : rest ≡ record_of payload ++ more

-- a gate with what comes after it, where a run of given records ends
abbrev pub EndsRun : ℕ → List ℕ → Type 0
EndsRun gate rest = (gate ≢ open_gate) ⊎ (IsCutOff rest ⊎ IsOfKind rest)

-- a payload is seen by the bytes of its record
pub heads : (p q x y : List ℕ) → IsPayload p → IsPayload q → record_of p ++ x ≡ record_of q ++ y → (p ≡ q) × (x ≡ y)
heads p q x y is_p is_q same =
    let size : length p ≡ length q = sym (number_of_record p x is_p.fits) ∙ ap (big_number 4) same ∙ number_of_record q y is_q.fits in
    let split : (p ++ x) ≡ (q ++ y) =
    sym (drop_at (big_bytes 4 (length p)) (p ++ x) 4 (length-bytes_high_first 4 (length p)))
    ∙ ap (drop 4) (sym (append_assoc (big_bytes 4 (length p)) p x) ∙ same ∙ append_assoc (big_bytes 4 (length q)) q y)
    ∙ drop_at (big_bytes 4 (length q)) (q ++ y) 4 (length-bytes_high_first 4 (length q)) in (
      sym (take_at p x (length p) refl) ∙ ap (take (length p)) split ∙ take_at q y (length p) (sym size),
      sym (drop_at p x (length p) refl) ∙ ap (drop (length p)) split ∙ drop_at q y (length p) (sym size),
    )

no_record : (payload after : List ℕ) (gate : ℕ) (rest : List ℕ) → IsGiven payload → 1 ≤ length after → EndsRun gate rest → gate ≡ open_gate → rest ≡ record_of payload ++ after → ⊥
no_record payload after gate rest is some (inl shut) opened is_rest = shut opened
no_record payload after gate rest is some (inr (inl cut)) opened is_rest = not_cut_off payload after is.fits some (subst IsCutOff is_rest cut)
no_record payload after gate rest is some (inr (inr k)) opened is_rest =
    is.kind (ap (λ (p : List ℕ). slice_index p 0) ((heads payload k.payload after k.more is.fits k.is_payload (sym is_rest ∙ k.are)).0) ∙ k.kind)

behind : (payload : List ℕ) (payloads : List (List ℕ)) (gate : ℕ) (rest : List ℕ)
    → records (payload ∷ payloads) ++ gate ∷ rest ≡ open_gate ∷ (record_of payload ++ (records payloads ++ gate ∷ rest))
behind payload payloads gate rest = ap (λ (l : List ℕ). open_gate ∷ l) (append_assoc (record_of payload) (records payloads) (gate ∷ rest))

some_left : (payloads : List (List ℕ)) (gate : ℕ) (rest : List ℕ) → 1 ≤ length (records payloads ++ gate ∷ rest)
some_left payloads gate rest = omega (arith, length-append (records payloads) (gate ∷ rest))

first : (payload : List ℕ) (payloads : List (List ℕ)) → AreGiven (payload ∷ payloads) → IsGiven payload
first payload payloads given = given 0 [] (omega arith)

others : (payload : List ℕ) (payloads : List (List ℕ)) → AreGiven (payload ∷ payloads) → AreGiven payloads
others payload payloads given = λ k d inside. given (suc k) d (omega (arith, inside))

-- a run of given records ends in one place
pub same_run : (ps qs : List (List ℕ)) (g h : ℕ) (r s : List ℕ) → AreGiven ps → AreGiven qs → EndsRun g r → EndsRun h s
    → records ps ++ g ∷ r ≡ records qs ++ h ∷ s → (ps ≡ qs) × (g ≡ h) × (r ≡ s)
same_run [] [] g h r s given_p given_q end_p end_q same = (refl, cc same, cc same)
same_run [] (q ∷ qs) g h r s given_p given_q end_p end_q same =
    let is = same ∙ behind q qs h s in
    absurd (no_record q (records qs ++ h ∷ s) g r (first q qs given_q) (some_left qs h s) end_p (cc is) (cc is))
same_run (p ∷ ps) [] g h r s given_p given_q end_p end_q same =
    let is = sym same ∙ behind p ps g r in
    absurd (no_record p (records ps ++ g ∷ r) h s (first p ps given_p) (some_left ps g r) end_q (cc is) (cc is))
same_run (p ∷ ps) (q ∷ qs) g h r s given_p given_q end_p end_q same =
    let is : open_gate ∷ (record_of p ++ (records ps ++ g ∷ r)) ≡ open_gate ∷ (record_of q ++ (records qs ++ h ∷ s)) = sym (behind p ps g r) ∙ same ∙ behind q qs h s in
    let parts = heads p q (records ps ++ g ∷ r) (records qs ++ h ∷ s) (first p ps given_p).fits (first q qs given_q).fits (cc is) in
    let rest = same_run ps qs g h r s (others p ps given_p) (others q qs given_q) end_p end_q parts.1 in
    (cc (parts.0, rest.0), rest.1, rest.2)
