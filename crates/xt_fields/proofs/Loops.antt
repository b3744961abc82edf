-- Reading fields one after the other, as a loop does.
use Rattle.std.proofs.Common.{◌≡◌, ℕ, suc, ◌-◌, ◌+◌, ◌≤◌, ◌<◌, List, [], ◌∷◌, ◌++◌, length, take, set, Result, Ok, Err, refl, sym, ap, subst, ◌∙◌, append_assoc, arith}
use Rattle.std.proofs.lemmas.List.{append-nil, take_more_set}
use Rattle.xt_fields.specs.declared.fault.FieldErr.{FieldErr}
use Rattle.xt_fields.specs.declared.fault.FieldErr.TheVariants as fault
use Rattle.xt_fields.specs.Reading.{Field, ◌>>=◌, Fails}
use Rattle.xt_fields.specs.BasicFields.{list_at}

-- what was read before, and what is still read
abbrev pub with_front : {A : Type 0} → List A → Result (List A × List ℕ) FieldErr → Result (List A × List ℕ) FieldErr
with_front front read = read >>= λ x. Ok (front ++ x.0, x.1)

regroup : {A : Type 0} (front : List A) (n : A) (read : Result (List A × List ℕ) FieldErr) → with_front front (read >>= λ x. Ok (n ∷ x.0, x.1)) ≡ with_front (front ++ n ∷ []) read
regroup {A} front n (Ok x) = ap (λ (ns : List A). Ok (ns, x.1)) (simp append_assoc)
regroup front n (Err f) = refl

pub goes_on : {A : Type 0} (at : Field A) (front : List A) (count i : ℕ) (bytes : List ℕ) (n : A) (after : List ℕ) (total : Result (List A × List ℕ) FieldErr) → i < count → at bytes ≡ Ok (n, after)
    → with_front front (list_at at (count - i) bytes) ≡ total → with_front (front ++ n ∷ []) (list_at at (count - (i + 1)) after) ≡ total
unfolding list_at
goes_on at front count i bytes n after total lt h so_far =
    let k : count - i ≡ suc (count - (i + 1)) = omega arith in
    let one : with_front front (list_at at (count - i) bytes) ≡ with_front (front ++ n ∷ []) (list_at at (count - (i + 1)) after) = rw (k, h) (regroup front n (list_at at (count - (i + 1)) after)) in
    sym one ∙ so_far

stops : {A : Type 0} (at : Field A) (e : FieldErr) (front : List A) (count i : ℕ) (bytes : List ℕ) (total : Result (List A × List ℕ) FieldErr) → i < count → at bytes ≡ Err e
    → with_front front (list_at at (count - i) bytes) ≡ total → total ≡ Err e
unfolding list_at
stops at e front count i bytes total lt h so_far =
    let k : count - i ≡ suc (count - (i + 1)) = omega arith in
    let one : with_front front (list_at at (count - i) bytes) ≡ Err e = rw (k, h) refl in
    sym so_far ∙ one

-- reading that fails so, fails so
pub as_fails : {A : Type 0} (e : FieldErr) (read : Result A FieldErr) → read ≡ Err e → Fails e read
as_fails fault.OutOfMemory read h = tt
as_fails fault.Short read h = h
as_fails fault.Over read h = h
as_fails fault.NotText read h = h
as_fails fault.Unfit read h = h

pub ends : {A : Type 0} (at : Field A) (e : FieldErr) (front : List A) (count i : ℕ) (bytes : List ℕ) (total : Result (List A × List ℕ) FieldErr) → i < count → Fails e (at bytes)
    → with_front front (list_at at (count - i) bytes) ≡ total → Fails e total
ends at fault.OutOfMemory front count i bytes total lt h so_far = tt
ends at fault.Short front count i bytes total lt h so_far = stops at fault.Short front count i bytes total lt h so_far
ends at fault.Over front count i bytes total lt h so_far = stops at fault.Over front count i bytes total lt h so_far
ends at fault.NotText front count i bytes total lt h so_far = stops at fault.NotText front count i bytes total lt h so_far
ends at fault.Unfit front count i bytes total lt h so_far = stops at fault.Unfit front count i bytes total lt h so_far

pub is_done : {A : Type 0} (at : Field A) (front : List A) (count i : ℕ) (bytes : List ℕ) (total : Result (List A × List ℕ) FieldErr) → count ≤ i → with_front front (list_at at (count - i) bytes) ≡ total → total ≡ Ok (front, bytes)
unfolding list_at
is_done {A} at front count i bytes total le so_far =
    let k : count - i ≡ 0 = omega arith in
    let one : with_front front (list_at at (count - i) bytes) ≡ Ok (front, bytes) = rw k (ap (λ (ns : List A). Ok (ns, bytes)) (append-nil front)) in
    sym so_far ∙ one

-- the same, where the places of an array are filled
pub fills : {A : Type 0} (at : Field A) (places : List A) (count i : ℕ) (bytes : List ℕ) (n : A) (after : List ℕ) (total : Result (List A × List ℕ) FieldErr) → i < count → i < length places → at bytes ≡ Ok (n, after)
    → with_front (take i places) (list_at at (count - i) bytes) ≡ total → with_front (take (i + 1) (set places i n)) (list_at at (count - (i + 1)) after) ≡ total
fills {A} at places count i bytes n after total lt within h so_far =
    subst (λ (front : List A). with_front front (list_at at (count - (i + 1)) after) ≡ total) (sym (take_more_set places i n within))
    (goes_on at (take i places) count i bytes n after total lt h so_far)

pub are_filled : {A : Type 0} (at : Field A) (places : List A) (count i : ℕ) (bytes : List ℕ) (total : Result (List A × List ℕ) FieldErr) → count ≤ i → i ≤ count
    → with_front (take i places) (list_at at (count - i) bytes) ≡ total → total ≡ Ok (take count places, bytes)
are_filled {A} at places count i bytes total le ge so_far =
    let same : i ≡ count = omega arith in
    subst (λ (k : ℕ). total ≡ Ok (take k places, bytes)) same (is_done at (take i places) count i bytes total le so_far)
