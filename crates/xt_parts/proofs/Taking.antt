-- the payloads of one message when some of its indices were taken
use Rattle.std.proofs.Common.{◌≡◌, ◌≢◌, ◌<◌, ◌≤◌, ◌+◌, ◌*◌, ◌==◌, ◌||◌, ◌∷◌, ◌++◌, ◌⊎◌, inl, inr, [], zero, suc, ℕ, Bool, true, false, List, Option, Some, None, length, take, drop, map, get_or, is_some, unwrap_or, slice_get, slice_set, if◌then◌else◌, refl, sym, ap, ◌∙◌, arith, eq-eqb, ne_eqb}
use Rattle.std.specs.List.{range_with_len}
use Rattle.std.proofs.lemmas.Bool.{cases_eq, and_parts, and_from, or_right}
use Rattle.std.proofs.lemmas.List.{same_lists, length-set, length-replicate, get_or-set_same, get_or-set_other, get_or-replicate, take_all, drop-drop}
use Rattle.std.proofs.lemmas.List.Folds.{list_any-append, list_all_at}
use Rattle.std.proofs.lemmas.List.FromFn.{length-map-range_with_len, get_or-map-range_with_len}
use Rattle.std.proofs.lemmas.Option.{slice_get-get_or}
use Rattle.std.proofs.Math.Seq.{take-add}
use Rattle.xt_parts.specs.declared.TheConstants.{PAYLOAD}
use Rattle.xt_parts.specs.Part.{parts_in, payload_of}
use Rattle.xt_parts.specs.Joining.{has_payload, bytes_of, none_taken}
use Rattle.xt_parts.specs.Runs.{has_index}
use Rattle.xt_parts.proofs.Payloads.{flat, all_taken}

has_more : (indices : List ℕ) (index other : ℕ) →
    has_index (indices ++ index ∷ []) other ≡ (has_index indices other || has_index (index ∷ []) other)
has_more indices index other = list_any-append (λ i. i == other) indices (index ∷ [])

pub has_same : (indices : List ℕ) (index : ℕ) → has_index (indices ++ index ∷ []) index ≡ true
has_same indices index = has_more indices index index ∙ rw (eq-eqb index index refl) (or_right (has_index indices index) true refl)

pub has_other : (indices : List ℕ) (index other : ℕ) → other ≢ index →
    has_index (indices ++ index ∷ []) other ≡ has_index indices other
has_other indices index other differs =
    let apart : index ≢ other = λ same. differs (sym same) in
    has_more indices index other ∙ rw (ne_eqb index other apart) (or_false (has_index indices other))
  where
    or_false : (b : Bool) → (b || false) ≡ b
    or_false true = refl
    or_false false = refl

pub kept_index : (indices : List ℕ) (index other : ℕ) → has_index indices other ≡ true →
    has_index (indices ++ index ∷ []) other ≡ true
kept_index indices index other there = has_more indices index other ∙ rw there refl

module _ (message : List ℕ) where
  -- the payload of the index, if it was taken
  abbrev pub taken_at : List ℕ → ℕ → Option (List ℕ)
  taken_at indices index = if has_index indices index then Some (payload_of message index) else None

  abbrev pub taken_of : List ℕ → List (Option (List ℕ))
  taken_of indices = map (taken_at indices) (range_with_len 0 (parts_in (length message)))

  pub length_taken : (indices : List ℕ) → length (taken_of indices) ≡ parts_in (length message)
  length_taken indices = length-map-range_with_len (taken_at indices) 0 (parts_in (length message))

  taken_there : (indices : List ℕ) (index : ℕ) (other : Option (List ℕ)) → index < parts_in (length message) →
      get_or (taken_of indices) index other ≡ taken_at indices index
  taken_there indices index other below =
      get_or-map-range_with_len (taken_at indices) 0 (parts_in (length message)) index index other below (omega arith)

  count_none : length (none_taken (length message)) ≡ parts_in (length message)
  count_none = length-replicate (parts_in (length message)) None

  -- at first nothing is taken
  pub none_first : none_taken (length message) ≡ taken_of []
  none_first =
      same_lists (none_taken (length message)) (taken_of [])
      (count_none ∙ sym (length_taken []))
      (λ index other below.
      let inside : index < parts_in (length message) = omega (arith, count_none) in
      get_or-replicate (parts_in (length message)) index None other inside ∙ sym (taken_there [] index other inside))

  same_taken : (indices others : List ℕ) → ((index : ℕ) → has_index indices index ≡ has_index others index) →
      taken_of indices ≡ taken_of others
  same_taken indices others same =
      same_lists (taken_of indices) (taken_of others) (length_taken indices ∙ sym (length_taken others))
      (λ index other below.
      let inside : index < parts_in (length message) = omega (arith, length_taken indices) in
      taken_there indices index other inside
      ∙ ap (λ (b : Bool). if b then Some (payload_of message index) else None) (same index)
      ∙ sym (taken_there others index other inside))

  -- a new index adds its payload
  pub more : (indices : List ℕ) (index : ℕ) → index < parts_in (length message) →
      slice_set (taken_of indices) index (Some (payload_of message index)) ≡ taken_of (indices ++ index ∷ [])
  more indices index inside =
      let set_length : length (slice_set (taken_of indices) index (Some (payload_of message index))) ≡ parts_in (length message)
      = length-set (taken_of indices) index (Some (payload_of message index)) ∙ length_taken indices in
      same_lists (slice_set (taken_of indices) index (Some (payload_of message index))) (taken_of (indices ++ index ∷ []))
      (set_length ∙ sym (length_taken (indices ++ index ∷ [])))
      (λ place other below.
      let within : place < parts_in (length message) = omega (arith, set_length) in
      at_place indices index inside place other within (cases_eq place index)
      ∙ sym (taken_there (indices ++ index ∷ []) place other within))
    where
      at_place : (indices : List ℕ) (index : ℕ) → index < parts_in (length message) →
          (place : ℕ) (other : Option (List ℕ)) → place < parts_in (length message) →
          (place ≡ index) ⊎ (place ≡ index → ⊥) →
          get_or (slice_set (taken_of indices) index (Some (payload_of message index))) place other
          ≡ taken_at (indices ++ index ∷ []) place
      at_place indices index inside place other within (inl same) =
          let fits : index < length (taken_of indices) = omega (arith, length_taken indices) in
          ap (λ n. get_or (slice_set (taken_of indices) index (Some (payload_of message index))) n other) same
          ∙ get_or-set_same (taken_of indices) index (Some (payload_of message index)) other fits
          ∙ sym (ap (taken_at (indices ++ index ∷ [])) same ∙ rw (has_same indices index) refl)
      at_place indices index inside place other within (inr differs) =
          get_or-set_other (taken_of indices) index place (Some (payload_of message index)) other differs
          ∙ taken_there indices place other within
          ∙ ap (λ (b : Bool). if b then Some (payload_of message place) else None) (sym (has_other indices index place differs))

  -- a repeated index adds nothing
  pub again : (indices : List ℕ) (index : ℕ) → has_index indices index ≡ true →
      taken_of indices ≡ taken_of (indices ++ index ∷ [])
  again indices index there =
      same_taken indices (indices ++ index ∷ []) (λ other. at_index indices index there other (cases_eq other index))
    where
      at_index : (indices : List ℕ) (index : ℕ) → has_index indices index ≡ true → (other : ℕ) →
          (other ≡ index) ⊎ (other ≡ index → ⊥) → has_index indices other ≡ has_index (indices ++ index ∷ []) other
      at_index indices index there other (inl same) =
          ap (has_index indices) same ∙ there ∙ sym (ap (has_index (indices ++ index ∷ [])) same ∙ has_same indices index)
      at_index indices index there other (inr differs) = sym (has_other indices index other differs)

  pub known : (indices : List ℕ) (index : ℕ) → index < parts_in (length message) →
      has_payload (slice_get (taken_of indices) index) ≡ has_index indices index
  known indices index inside =
      let fits : index < length (taken_of indices) = omega (arith, length_taken indices) in
      ap has_payload (slice_get-get_or (taken_of indices) index None fits ∙ ap Some (taken_there indices index None inside))
      ∙ of_choice (has_index indices index)
    where
      of_choice : (b : Bool) → has_payload (Some (if b then Some (payload_of message index) else None)) ≡ b
      of_choice true = refl
      of_choice false = refl

  -- where an index is missing the message isn't whole
  pub lacking : (indices : List ℕ) (index : ℕ) → index < parts_in (length message) → has_index indices index ≡ false →
      bytes_of (taken_of indices) ≡ None
  lacking indices index inside missing =
      let fits : index < length (taken_of indices) = omega (arith, length_taken indices) in
      rw (list_all_at is_some (taken_of indices) index None fits
      (ap is_some (taken_there indices index None inside) ∙ rw missing refl)) refl

  first_flat : (indices : List ℕ) (start : ℕ) (rest : List (Option (List ℕ))) → is_some (taken_at indices start) ≡ true →
      flat (taken_at indices start ∷ rest) ≡ payload_of message start ++ flat rest
  first_flat indices start rest there = of_choice (has_index indices start) (payload_of message start) (flat rest) there
    where
      of_choice : (b : Bool) (payload bytes : List ℕ) → is_some (if b then Some payload else None) ≡ true →
          unwrap_or (if b then Some payload else None) [] ++ bytes ≡ payload ++ bytes
      of_choice true payload bytes there = refl
      of_choice false payload bytes there = cc

  next_bytes : (n start : ℕ) →
      payload_of message start ++ take (n * PAYLOAD) (drop ((start + 1) * PAYLOAD) message)
      ≡ take (suc n * PAYLOAD) (drop (start * PAYLOAD) message)
  next_bytes n start =
      let begin : (start + 1) * PAYLOAD ≡ start * PAYLOAD + PAYLOAD = omega arith in
      let many : PAYLOAD + n * PAYLOAD ≡ suc n * PAYLOAD = omega arith in
      ap (λ bytes. payload_of message start ++ take (n * PAYLOAD) bytes)
      (ap (λ at. drop at message) begin ∙ sym (drop-drop PAYLOAD (start * PAYLOAD) message))
      ∙ sym (take-add PAYLOAD (n * PAYLOAD) (drop (start * PAYLOAD) message))
      ∙ ap (λ k. take k (drop (start * PAYLOAD) message)) many

  -- the payloads from one index on are the message from there on
  flat_from : (indices : List ℕ) (n start : ℕ) → all_taken (map (taken_at indices) (range_with_len start n)) ≡ true →
      flat (map (taken_at indices) (range_with_len start n)) ≡ take (n * PAYLOAD) (drop (start * PAYLOAD) message)
  flat_from indices zero start all = refl
  flat_from indices (suc n) start all =
      let rest = map (taken_at indices) (range_with_len (start + 1) n) in
      let here = and_parts (is_some (taken_at indices start)) (all_taken rest) all in
      first_flat indices start rest here.0
      ∙ ap (λ bytes. payload_of message start ++ bytes) (flat_from indices n (start + 1) here.1)
      ∙ next_bytes n start

  flat_all : (indices : List ℕ) → all_taken (taken_of indices) ≡ true → flat (taken_of indices) ≡ message
  flat_all indices all =
      let long : length message ≤ parts_in (length message) * PAYLOAD = omega arith in
      flat_from indices (parts_in (length message)) 0 all ∙ take_all (parts_in (length message) * PAYLOAD) message long

  -- payloads of the message alone never join to anything else
  pub never_else : (indices : List ℕ) → (bytes_of (taken_of indices) ≡ None) ⊎ (bytes_of (taken_of indices) ≡ Some message)
  never_else indices = of_test (all_taken (taken_of indices)) refl
    where
      of_test : (b : Bool) → all_taken (taken_of indices) ≡ b →
          (bytes_of (taken_of indices) ≡ None) ⊎ (bytes_of (taken_of indices) ≡ Some message)
      of_test true all = inr (rw (all, flat_all indices all) refl)
      of_test false missing = inl (rw missing refl)

  all_there : (indices : List ℕ) (n start : ℕ) →
      ((index : ℕ) → start ≤ index → index < start + n → has_index indices index ≡ true) →
      all_taken (map (taken_at indices) (range_with_len start n)) ≡ true
  all_there indices zero start each = refl
  all_there indices (suc n) start each =
      and_from _ _ (rw (each start (omega arith) (omega arith)) refl)
      (all_there indices n (start + 1) (λ index from below. each index (omega arith) (omega arith)))

  -- where no index is missing it is whole
  pub complete : (indices : List ℕ) → ((index : ℕ) → index < parts_in (length message) → has_index indices index ≡ true) →
      bytes_of (taken_of indices) ≡ Some message
  complete indices each =
      let all : all_taken (taken_of indices) ≡ true
      = all_there indices (parts_in (length message)) 0 (λ index from below. each index (omega arith)) in
      rw (all, flat_all indices all) refl
