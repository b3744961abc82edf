-- the parts of one message in order
use Rattle.std.proofs.Common.{◌≡◌, ◌<◌, ◌≤◌, ◌+◌, ◌-◌, ◌==◌, ◌∷◌, ◌++◌, ◌⊎◌, inl, inr, [], zero, suc, ℕ, Bool, true, false, List, Option, Some, None, nat_lt, if◌then◌else◌, length, take, map, refl, sym, ap, subst, ◌∙◌, arith, eq-eqb, ne_eqb}
use Rattle.std.specs.List.{range_with_len}
use Rattle.std.proofs.lemmas.Bool.{cases_lt, cases_eq, or_left, or_right, or_from, lt-ltb, le-ltb}
use Rattle.std.proofs.lemmas.List.{append-nil, map-id}
use Rattle.std.proofs.lemmas.List.FromFn.{map-range_with_len_more, take-map-range_with_len}
use Rattle.message_ids.specs.declared.MessageId.{MessageId}
use Rattle.xt_parts.specs.Part.{parts_in, payload_of, part_of, parts_of}
use Rattle.xt_parts.specs.Joining.{HalfJoined, Taken, given_or_kept, after_part}
use Rattle.xt_parts.specs.Runs.{joined, CanBeCut, whole_of, HasRoomFor, first_payloads, after_first, has_index, parts_at, IsLastOf}
use Rattle.xt_parts.specs.Laws.{StepsInOrder, WholeInOrder, EarlyInOrder, WholeInAnyOrder, EarlyInAnyOrder}
use Rattle.xt_parts.proofs.Taking.{lacking, complete, has_same, has_other, kept_index}
use Rattle.xt_parts.proofs.Running.{half_at, after_index, any_index, state, state-more, early, nothing_yet, whole_behind, whole_then}

in_range : (n start index : ℕ) → start ≤ index → index < start + n → has_index (range_with_len start n) index ≡ true
in_range zero start index from below = absurd (omega arith)
in_range (suc n) start index from below =
    at (cases_eq start index) (λ more. in_range n (start + 1) index more (omega arith))
  where
    at : (start ≡ index) ⊎ (start ≡ index → ⊥) →
        (start + 1 ≤ index → has_index (range_with_len (start + 1) n) index ≡ true) →
        has_index (range_with_len start (suc n)) index ≡ true
    at (inl same) rest = or_left (start == index) (has_index (range_with_len (start + 1) n) index) (eq-eqb start index same)
    at (inr differs) rest =
        or_right (start == index) (has_index (range_with_len (start + 1) n) index) (rest (omega arith))

past_range : (n start index : ℕ) → start + n ≤ index → has_index (range_with_len start n) index ≡ false
past_range zero start index past = refl
past_range (suc n) start index past =
    or_from (start == index) (has_index (range_with_len (start + 1) n) index) (ne_eqb start index (λ same. omega arith))
    (past_range n (start + 1) index (omega arith))

below_range : (n index : ℕ) → has_index (range_with_len 0 n) index ≡ true → index < n
below_range n index there = at (cases_lt index n)
  where
    at : (index < n) ⊎ (n ≤ index) → index < n
    at (inl below) = below
    at (inr past) = let none : has_index (range_with_len 0 n) index ≡ false = past_range n 0 index (omega arith) in cc

map_agree : {X : Type 0} (f g : ℕ → X) → ((index : ℕ) → f index ≡ g index) → (indices : List ℕ) → map f indices ≡ map g indices
map_agree f g agree [] = refl
map_agree f g agree (index ∷ indices) =
    ap (λ x. x ∷ map f indices) (agree index) ∙ ap (λ rest. g index ∷ rest) (map_agree f g agree indices)

range_more : (n : ℕ) → range_with_len 0 (n + 1) ≡ range_with_len 0 n ++ n ∷ []
range_more n =
    sym (map-id (range_with_len 0 (n + 1))) ∙ map-range_with_len_more (λ index. index) 0 n n (omega arith)
    ∙ ap (λ front. front ++ n ∷ []) (map-id (range_with_len 0 n))

-- the indices in order, the last one apart
in_order : (n : ℕ) → IsLastOf (n + 1) (range_with_len 0 n) n
in_order n = record {
  below = λ index there. below index there (cases_eq index n);
  new = past_range n 0 n (omega arith);
  complete = λ index below. there index below (cases_eq index n);
}
  where
    below : (index : ℕ) → has_index (range_with_len 0 n ++ n ∷ []) index ≡ true → (index ≡ n) ⊎ (index ≡ n → ⊥) → index < n + 1
    below index there (inl same) = omega arith
    below index there (inr differs) =
        let less : index < n = below_range n index (sym (has_other (range_with_len 0 n) n index differs) ∙ there) in omega arith

    there : (index : ℕ) → index < n + 1 → (index ≡ n) ⊎ (index ≡ n → ⊥) → has_index (range_with_len 0 n ++ n ∷ []) index ≡ true
    there index below (inl same) = ap (has_index (range_with_len 0 n ++ n ∷ [])) same ∙ has_same (range_with_len 0 n) n
    there index below (inr differs) =
        kept_index (range_with_len 0 n) n index (in_range n 0 index (omega arith) (omega arith))

module _ (held : List HalfJoined) (id : MessageId) (message : List ℕ) (can : CanBeCut id message) (room : HasRoomFor held id) where
  whole_at : (n : ℕ) → parts_in (length message) ≡ n + 1 →
      joined held (map (part_of id message) (range_with_len 0 (n + 1))) ≡ Some (record { held = held; wholes = whole_of id message ∷ [] })
  whole_at n count =
      let P : ℕ → Type 0 = λ k. IsLastOf k (range_with_len 0 n) n in
      ap (joined held) (map-range_with_len_more (part_of id message) 0 n n (omega arith))
      ∙ whole_behind id message can held room (range_with_len 0 n) n (subst P (sym count) (in_order n))

  whole_ordered : joined held (parts_of id message) ≡ Some (record { held = held; wholes = whole_of id message ∷ [] })
  whole_ordered =
      let count : parts_in (length message) ≡ (parts_in (length message) - 1) + 1 = omega (arith, can.some) in
      ap (λ n. joined held (map (part_of id message) (range_with_len 0 n))) count
      ∙ whole_at (parts_in (length message) - 1) count

  early_ordered : (taken : ℕ) → taken < parts_in (length message) →
      joined held (take taken (parts_of id message))
      ≡ Some (record { held = state id message can held room (range_with_len 0 taken); wholes = [] })
  early_ordered taken below =
      ap (joined held) (take-map-range_with_len (part_of id message) 0 (parts_in (length message)) taken (omega arith)
      ∙ sym (append-nil (parts_at id message (range_with_len 0 taken))))
      ∙ early id message can held room (range_with_len 0 taken) [] taken []
      (λ index there. let less : index < taken = below_range taken index there in omega arith) below
      (past_range taken 0 taken (omega arith))

  -- the indices below a number are those of a range
  index_below : (n index : ℕ) → has_index (range_with_len 0 n) index ≡ nat_lt index n
  index_below n index = at (cases_lt index n)
    where
      at : (index < n) ⊎ (n ≤ index) → has_index (range_with_len 0 n) index ≡ nat_lt index n
      at (inl below) = in_range n 0 index (omega arith) (omega arith) ∙ sym (lt-ltb index n below)
      at (inr past) = past_range n 0 index (omega arith) ∙ sym (le-ltb index n past)

  half_first : (n : ℕ) → half_at id message can (range_with_len 0 n)
      ≡ record { id = id; size = length message; taken = first_payloads message n }
  half_first n =
      let half : List (Option (List ℕ)) → HalfJoined = λ taken. record { id = id; size = length message; taken = taken } in
      ap half
      (map_agree (λ index. if has_index (range_with_len 0 n) index then Some (payload_of message index) else None)
      (λ index. if nat_lt index n then Some (payload_of message index) else None)
      (λ index. ap (λ (b : Bool). if b then Some (payload_of message index) else None) (index_below n index))
      (range_with_len 0 (parts_in (length message))))

  state_first : (n : ℕ) → n < parts_in (length message) →
      after_first held id message n ≡ state id message can held room (range_with_len 0 n)
  state_first zero below = refl
  state_first (suc n) below =
      rw (ne_eqb (suc n) 0 (λ same. omega arith), ne_eqb (suc n) (parts_in (length message)) (λ same. omega arith))
      (ap (λ half. held ++ half ∷ []) (sym (half_first (suc n))))

  step_ordered : (taken : ℕ) → taken < parts_in (length message) →
      after_part (after_first held id message taken) (part_of id message taken)
      ≡ Some (record {
        held = after_first held id message (taken + 1);
        whole = if taken + 1 == parts_in (length message) then Some (whole_of id message) else None;
      })
  step_ordered taken below =
      ap (λ before. after_part before (part_of id message taken)) (state_first taken below)
      ∙ any_index id message can held room (range_with_len 0 taken) taken below (past_range taken 0 taken (omega arith)) taken below
      ∙ at (cases_eq (taken + 1) (parts_in (length message)))
    where
      seen : List ℕ
      seen = range_with_len 0 taken ++ taken ∷ []

      has_below : (index : ℕ) → index < taken + 1 → has_index seen index ≡ true
      has_below index less =
          ap (λ all. has_index all index) (sym (range_more taken)) ∙ in_range (taken + 1) 0 index (omega arith) (omega arith)

      lacks_next : has_index seen (taken + 1) ≡ false
      lacks_next = ap (λ all. has_index all (taken + 1)) (sym (range_more taken)) ∙ past_range (taken + 1) 0 (taken + 1) (omega arith)

      kept_half : List HalfJoined → Option Taken
      kept_half kept = Some (record { held = kept; whole = None })

      given_if : Bool → Option Taken
      given_if b = Some (record {
        held = after_first held id message (taken + 1);
        whole = if b then Some (whole_of id message) else None;
      })

      at : (taken + 1 ≡ parts_in (length message)) ⊎ (taken + 1 ≡ parts_in (length message) → ⊥) →
          Some (after_index id message can held seen) ≡ Some (record {
            held = after_first held id message (taken + 1);
            whole = if taken + 1 == parts_in (length message) then Some (whole_of id message) else None;
          })
      at (inl last) =
          rw (ne_eqb (taken + 1) 0 (λ same. omega arith), eq-eqb (taken + 1) (parts_in (length message)) last)
          (ap (λ bytes. Some (given_or_kept id held (held ++ half_at id message can seen ∷ []) bytes))
          (complete message seen (λ index below. has_below index (omega arith))))
      at (inr further) =
          let less : taken + 1 < parts_in (length message) = omega arith in
          ap (λ bytes. Some (given_or_kept id held (held ++ half_at id message can seen ∷ []) bytes))
          (lacking message seen (taken + 1) less lacks_next)
          ∙ ap kept_half
          (sym (state_first (taken + 1) less ∙ ap (state id message can held room) (range_more taken)
          ∙ state-more id message can held room (range_with_len 0 taken) taken))
          ∙ ap given_if
          (sym (ne_eqb (taken + 1) (parts_in (length message)) further))

pub steps_in_order : StepsInOrder
steps_in_order held id message can room taken below = step_ordered held id message can room taken below

pub whole_in_order : WholeInOrder
whole_in_order held id message can room = whole_ordered held id message can room

pub early_in_order : EarlyInOrder
early_in_order held id message can room taken below = rw (early_ordered held id message can room taken below) refl

pub whole_in_any_order : WholeInAnyOrder
whole_in_any_order held id message can room front last order = whole_then id message can held room front last order

pub early_in_any_order : EarlyInAnyOrder
early_in_any_order held id message can room front last order = rw (nothing_yet id message can held room front last order) refl
