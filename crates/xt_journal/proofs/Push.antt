-- One more record.
use Rattle.std.proofs.Common.{◌≡◌, ⊎_elim, ℕ, ◌+◌, ◌≤◌, List, [], ◌∷◌, ◌++◌, length, map, nat_lt, if◌then◌else◌, refl, sym, ◌∙◌, ap, arith, length-append, Option, Some, None}
use Rattle.std.proofs.lemmas.List.{map-append}
use Rattle.std.proofs.lemmas.Bool.{cond-true, cond-false, lt-ltb, le-ltb}
use Rattle.journal_areas.specs.declared.superblock.Slot.{Slot}
use Rattle.journal_areas.specs.declared.superblock.Superblock.{Superblock}
use Rattle.journal_areas.specs.Superblocks.{current}
use Rattle.journal_areas.specs.Areas.{IsUnmoved, IsMoved, end_by}
use Rattle.journal_areas.proofs.Records.{length-record, length-push, records-append}
use Rattle.journal_areas.proofs.Reaching.{has_gate}
use Rattle.xt_journal.specs.Placed.{Placed}
use Rattle.xt_journal.specs.Format.{record_of, records, end_of, Reached, end_in}
use Rattle.xt_journal.specs.Reading.{payloads_of, placed_from, past, placed_by, placed_in}
pub use Rattle.journal_areas.proofs.Records.{records-push, end_of-push}

pub placed_from-push : (gate : ℕ) (payloads : List (List ℕ)) (payload : List ℕ)
    → placed_from gate (payloads ++ payload ∷ []) ≡ placed_from gate payloads ++ record { gate = gate + length (records payloads); bytes = payload } ∷ []
placed_from-push gate [] payload = let here : gate ≡ gate + 0 = omega arith in ap (λ (g : ℕ). record { gate = g; bytes = payload } ∷ []) here
placed_from-push gate (p ∷ payloads) payload =
    let there : (gate + (5 + length p)) + length (records payloads) ≡ gate + length (records (p ∷ payloads)) = omega (arith, length-append (record_of p) (records payloads), length-record p) in
    ap (λ (l : List Placed). record { gate = gate; bytes = p } ∷ l)
    (placed_from-push (gate + (5 + length p)) payloads payload ∙ ap (λ (g : ℕ). placed_from (gate + (5 + length p)) payloads ++ record { gate = g; bytes = payload } ∷ []) there)

pub payloads_of-push : (placed : List Placed) (last : Placed) → payloads_of (placed ++ last ∷ []) ≡ payloads_of placed ++ last.bytes ∷ []
payloads_of-push [] last = refl
payloads_of-push (p ∷ placed) last = ap (λ (l : List (List ℕ)). p.bytes ∷ l) (payloads_of-push placed last)

-- ---- the place where reading has come

end_by-push : (s : Superblock) (slot : Option Slot) (payloads : List (List ℕ)) (payload : List ℕ) → end_by s slot (payloads ++ payload ∷ []) ≡ end_by s slot payloads + (5 + length payload)
end_by-push s None payloads payload = omega (arith, length-push payloads payload)
end_by-push s (Some slot) payloads payload = omega (arith, length-push payloads payload)

pub end_in-push : (super : Option Superblock) (payloads : List (List ℕ)) (payload : List ℕ) → end_in super (payloads ++ payload ∷ []) ≡ end_in super payloads + (5 + length payload)
end_in-push None payloads payload = end_of-push payloads payload
end_in-push (Some s) payloads payload = end_by-push s (current s) payloads payload

-- ---- the gates of the payloads

pub payloads_of_placed : (gate : ℕ) (payloads : List (List ℕ)) → payloads_of (placed_from gate payloads) ≡ payloads
payloads_of_placed gate [] = refl
payloads_of_placed gate (p ∷ payloads) = ap (λ (l : List (List ℕ)). p ∷ l) (payloads_of_placed (gate + (5 + length p)) payloads)

payloads_past : (place : ℕ) (placed : List Placed) → payloads_of (map (past place) placed) ≡ payloads_of placed
payloads_past place [] = refl
payloads_past place (p ∷ placed) = ap (λ (l : List (List ℕ)). p.bytes ∷ l) (payloads_past place placed)

payloads_by : (s : Superblock) (slot : Option Slot) (payloads : List (List ℕ)) → payloads_of (placed_by s slot payloads) ≡ payloads
payloads_by s None payloads = payloads_past s.gate (placed_from 12 payloads) ∙ payloads_of_placed 12 payloads
payloads_by s (Some slot) payloads = payloads_of_placed slot.place payloads

-- the payloads of placed payloads are these
pub payloads_in : (super : Option Superblock) (payloads : List (List ℕ)) → payloads_of (placed_in super payloads) ≡ payloads
payloads_in None payloads = payloads_of_placed 12 payloads
payloads_in (Some s) payloads = payloads_by s (current s) payloads

-- the superblock's record comes after all of them
pub none_past : (place gate : ℕ) (payloads : List (List ℕ)) → gate + length (records payloads) ≤ place → map (past place) (placed_from gate payloads) ≡ placed_from gate payloads
none_past place gate [] below = refl
none_past place gate (p ∷ payloads) below =
    let size : length (records (p ∷ payloads)) ≡ (5 + length p) + length (records payloads) = omega (arith, length-append (record_of p) (records payloads), length-record p) in
    let here : (if nat_lt gate place then gate else gate + 56) ≡ gate = cond-true (nat_lt gate place) gate (gate + 56) (lt-ltb gate place (omega (arith, below, size))) in
    ap (λ (g : ℕ). record { gate = g; bytes = p } ∷ map (past place) (placed_from (gate + (5 + length p)) payloads)) here
    ∙ ap (λ (l : List Placed). record { gate = gate; bytes = p } ∷ l) (none_past place (gate + (5 + length p)) payloads (omega (arith, below, size)))

-- it comes before the next one
past-push : (place : ℕ) (payloads : List (List ℕ)) (payload : List ℕ) → place ≤ end_of payloads
    → map (past place) (placed_from 12 (payloads ++ payload ∷ [])) ≡ map (past place) (placed_from 12 payloads) ++ record { gate = 68 + length (records payloads); bytes = payload } ∷ []
past-push place payloads payload below =
    let gate = 12 + length (records payloads) in
    let shifted : (if nat_lt gate place then gate else gate + 56) ≡ gate + 56 = cond-false (nat_lt gate place) gate (gate + 56) (le-ltb gate place (omega (arith, below))) in
    let there : gate + 56 ≡ 68 + length (records payloads) = omega arith in
    ap (map (past place)) (placed_from-push 12 payloads payload) ∙ map-append (past place) (placed_from 12 payloads) (record { gate = gate; bytes = payload } ∷ [])
    ∙ ap (λ (g : ℕ). map (past place) (placed_from 12 payloads) ++ record { gate = g; bytes = payload } ∷ []) (shifted ∙ there)

module _ (bytes : List ℕ) (s : Superblock) (payloads : List (List ℕ)) (rest payload : List ℕ) where
  placed_with : Option Slot → List Placed
  placed_with slot = placed_by s slot payloads ++ record { gate = end_by s slot payloads; bytes = payload } ∷ []

  unmoved-push : IsUnmoved bytes s payloads rest → placed_in (Some s) (payloads ++ payload ∷ []) ≡ placed_in (Some s) payloads ++ record { gate = end_in (Some s) payloads; bytes = payload } ∷ []
  unfolding placed_with
  unmoved-push is =
      let gate = has_gate bytes s is.before (records is.after ++ rest) is.has in
      let size : length (records payloads) ≡ length (records is.before) + length (records is.after) =
      ap (λ (ps : List (List ℕ)). length (records ps)) is.all ∙ ap length (records-append is.before is.after) ∙ length-append (records is.before) (records is.after) in
      ap (λ (c : Option Slot). placed_by s c (payloads ++ payload ∷ [])) is.none ∙ past-push s.gate payloads payload (omega (arith, gate, size)) ∙ sym (ap placed_with is.none)

  moved-push : IsMoved bytes s payloads rest → placed_in (Some s) (payloads ++ payload ∷ []) ≡ placed_in (Some s) payloads ++ record { gate = end_in (Some s) payloads; bytes = payload } ∷ []
  unfolding placed_with
  moved-push is =
      ap (λ (c : Option Slot). placed_by s c (payloads ++ payload ∷ [])) is.counts ∙ placed_from-push is.slot.place payloads payload ∙ sym (ap placed_with is.counts)

-- the next payload's gate is the one to which reading has come
pub placed_in-push : (super : Option Superblock) (bytes : List ℕ) (payloads : List (List ℕ)) (rest payload : List ℕ) → Reached super bytes payloads rest
    → placed_in super (payloads ++ payload ∷ []) ≡ placed_in super payloads ++ record { gate = end_in super payloads; bytes = payload } ∷ []
placed_in-push None bytes payloads rest payload is = placed_from-push 12 payloads payload
placed_in-push (Some s) bytes payloads rest payload is = ⊎_elim (unmoved-push bytes s payloads rest payload) (moved-push bytes s payloads rest payload) is
