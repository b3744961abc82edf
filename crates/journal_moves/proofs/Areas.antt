-- How long the payloads of an area are.
use Rattle.std.proofs.Common.{◌≡◌, inl, inr, ⊎_elim, add_assoc, nat_le, ℕ, suc, zero, ◌+◌, ◌^◌, ◌<◌, ◌≤◌, Bool, true, false, List, [], ◌∷◌, length, take, drop, get_or, refl, sym, ◌∙◌, ap, arith, length-append, length-drop, length-take}
use Rattle.std.specs.Prelude.{IsTrue}
use Rattle.std.specs.List.{All}
use Rattle.std.proofs.Math.Seq.{drop-cons}
use Rattle.std.proofs.lemmas.List.{length-replicate}
use Rattle.std.proofs.lemmas.Bool.{cases_Bool, cond-true, cond-false, leb-false}
use Rattle.journal_areas.specs.declared.site.Area.{Area}
use Rattle.journal_areas.specs.Format.{records, record_of, AreGiven}
use Rattle.journal_areas.specs.Sites.{area_size}
use Rattle.journal_areas.proofs.Records.{length-record}
use Rattle.journal_moves.specs.declared.gathered.Gathered.{Gathered}
use Rattle.journal_moves.specs.Gathering.{IsThere, chunk, chunk_calls, chunks, gathered, gathered_in, held_after, longest, size_in, size_of_area, sizes_of}
use Rattle.journal_moves.specs.Writing.{IsIn}

-- ---- one payload after the other

pub next : (payloads : List Gathered) (i : ℕ) (payload : Gathered) → i < length payloads → payload ≡ get_or payloads i payload → drop i payloads ≡ payload ∷ drop (i + 1) payloads
next payloads i payload inside is =
    let one : suc i ≡ i + 1 = omega arith in
    drop-cons payloads i payload inside
    ∙ ap (λ (p : Gathered). p ∷ drop (suc i) payloads) (sym is)
    ∙ ap (λ (n : ℕ). payload ∷ drop n payloads) one

pub longest-drop : (i : ℕ) (payloads : List Gathered) → longest (drop i payloads) ≤ longest payloads
longest-drop zero payloads = omega arith
longest-drop (suc i) [] = omega arith
longest-drop (suc i) (payload ∷ payloads) = omega (arith, longest-drop i payloads)

pub fits : (payloads : List Gathered) (i : ℕ) (payload : Gathered) → i < length payloads → payload ≡ get_or payloads i payload → size_in payload ≤ longest payloads
fits payloads i payload inside is = omega (arith, longest-drop i payloads, ap longest (next payloads i payload inside is))

-- ---- their lengths

pub size_gathered : (told : Bool) (read : List ℕ) (payload : Gathered) → (IsTrue told → IsIn read payload.rest) → length (gathered_in told read payload) ≡ size_in payload
size_gathered false read payload there = omega (arith, length-append payload.front (gathered_in false read (record payload { front = [] })), length-replicate {A = ℕ} payload.rest.len 0)
size_gathered true read payload there =
    let size = length-append payload.front (take payload.rest.len (drop payload.rest.at read)) in
    let rest = length-take payload.rest.len (drop payload.rest.at read) in
    let left = length-drop payload.rest.at read in
    elim (there refl) [ inl none ↦ omega (arith, size, rest, none) | inr inside ↦ omega (arith, size, rest, left, inside) ]

in_there : (read : List ℕ) (area : Area) (payload : Gathered) → IsThere read area payload → IsIn read payload.rest
in_there read area payload (inl none) = inl none
in_there read area payload (inr held) = inr held.inside

pub all_in : (told : Bool) (read : List ℕ) (area : Area) (payloads : List Gathered) → (IsTrue told → All (IsThere read area) payloads) → IsTrue told → All (λ (p : Gathered). IsIn read p.rest) payloads
all_in told read area payloads there is = λ k d inside. in_there read area (get_or payloads k d) (there is k d inside)

later : (P : Gathered → Type 0) (payload : Gathered) (payloads : List Gathered) → All P (payload ∷ payloads) → All P payloads
later P payload payloads all = λ k d inside. all (suc k) d (omega (arith, inside))

first : (P : Gathered → Type 0) (payload : Gathered) (payloads : List Gathered) → All P (payload ∷ payloads) → P payload
first P payload payloads all = all 0 payload (omega arith)

pub size_area : (told : Bool) (read : List ℕ) (payloads : List Gathered) → (IsTrue told → All (λ (p : Gathered). IsIn read p.rest) payloads) → area_size (gathered told read payloads) ≡ size_of_area payloads
size_area told read [] there = omega arith
size_area told read (payload ∷ payloads) there =
    let P : Gathered → Type 0 = λ p. IsIn read p.rest in
    let list = gathered_in told read payload in
    omega (
      arith,
      size_gathered told read payload (λ is. first P payload payloads (there is)),
      size_area told read payloads (λ is. later P payload payloads (there is)),
      length-append (record_of list) (records (gathered told read payloads)),
      length-record list,
    )

pub longest_given : (told : Bool) (read : List ℕ) (payloads : List Gathered) → (IsTrue told → All (λ (p : Gathered). IsIn read p.rest) payloads) → AreGiven (gathered told read payloads) → longest payloads < 2 ^ 32
longest_given told read [] there given = omega arith
longest_given told read (payload ∷ payloads) there given =
    let P : Gathered → Type 0 = λ p. IsIn read p.rest in
    let here = given 0 [] (omega arith) in
    omega (
      arith,
      here.fits.fits,
      size_gathered told read payload (λ is. first P payload payloads (there is)),
      longest_given told read payloads (λ is. later P payload payloads (there is)) (λ k d inside. given (suc k) d (omega (arith, inside))),
    )

pub area_some : (payloads : List Gathered) → 1 ≤ size_of_area payloads
area_some [] = omega arith
area_some (payload ∷ payloads) = omega (arith, area_some payloads)

-- ---- the writes

pub held_short : (count : ℕ) → held_after count < chunk
held_short count =
    ⊎_elim (λ full. omega (arith, cond-true (nat_le chunk count) 0 count full)) (λ less. omega (arith, cond-false (nat_le chunk count) 0 count less, leb-false chunk count less)) (cases_Bool (nat_le chunk count))

pub chunks_next : (held after n all : ℕ) (payloads rest : List Gathered) (payload : Gathered) → payloads ≡ payload ∷ rest → after ≡ held_after (held + (5 + size_in payload))
    → n + chunks held (sizes_of payloads) ≡ all → n + chunk_calls (held + (5 + size_in payload)) + chunks after (sizes_of rest) ≡ all
chunks_next held after n all payloads rest payload is then was =
    let calls = chunk_calls (held + (5 + size_in payload)) in
    add_assoc n calls (chunks after (sizes_of rest))
    ∙ ap (λ (h : ℕ). n + (calls + chunks h (sizes_of rest))) then
    ∙ ap (λ (l : List Gathered). n + chunks held (sizes_of l)) (sym is)
    ∙ was
