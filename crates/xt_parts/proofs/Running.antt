-- the parts of one message, taken one after another
use Rattle.std.proofs.Common.{◌≡◌, ◌<◌, ◌≤◌, ◌-◌, ◌*◌, ◌^◌, ◌==◌, ◌∷◌, ◌++◌, [], ℕ, Bool, true, false, List, Option, Some, None, length, drop, min, option_and_then, slice_set, if◌then◌else◌, refl, sym, ap, ◌∙◌, arith, eq-eqb, length-append}
use Rattle.std.specs.Option.{option_map}
use Rattle.std.proofs.lemmas.Bool.{or_parts, or_left, or_right}
use Rattle.std.proofs.lemmas.List.{length-take, length-drop, append_assoc, append-nil, map-append}
use Rattle.std.proofs.lemmas.List.Folds.{list_any-append}
use Rattle.xt_parts.specs.declared.TheConstants.{PAYLOAD, HALF_JOINED}
use Rattle.message_ids.specs.declared.MessageId.{MessageId}
use Rattle.xt_parts.specs.declared.part.Header.{Header}
use Rattle.xt_parts.specs.Part.{parts_in, bytes_in, payload_of, part_of, read_part}
use Rattle.message_ids.specs.Same.{is_same}
use Rattle.xt_parts.specs.Joining.{HalfJoined, Taken, half_of, without, changed, newest, bytes_of, given_or_kept, continued, joined_to, after_part}
use Rattle.xt_parts.specs.Runs.{Joined, joined, with_whole, CanBeCut, whole_of, HasRoomFor, has_index, parts_at, IsLastOf}
use Rattle.message_ids.proofs.SameId.{same_itself}
use Rattle.xt_parts.proofs.Reading.{reads}
use Rattle.xt_parts.proofs.Taking.{taken_of, none_first, more, again, known, lacking, complete, has_same, kept_index}

-- The first in the list isn't the one that isn't there.
pub not_first : (b : Bool) (half : HalfJoined) (found : Option HalfJoined) → (if b then Some half else found) ≡ None →
    (b ≡ false) × (found ≡ None)
not_first true half found none = (cc, cc)
not_first false half found none = (refl, none)

-- A part that gives nothing leaves the rest of the run as it is.
pub nothing_given : (later : Option Joined) → option_map (with_whole None) later ≡ later
nothing_given None = refl
nothing_given (Some later) = refl

lacks_front : (front rest : List ℕ) (index : ℕ) → has_index (front ++ rest) index ≡ false → has_index front index ≡ false
lacks_front front rest index lacks =
    (or_parts (has_index front index) (has_index rest index) (sym (list_any-append (λ i. i == index) front rest) ∙ lacks)).0

-- a half joined message that stands last
module _ (half : HalfJoined) where
  pub half_of-last : (held : List HalfJoined) → half_of held half.id ≡ None →
      half_of (held ++ half ∷ []) half.id ≡ Some half
  half_of-last [] unknown = rw (same_itself half.id) refl
  half_of-last (first ∷ held) unknown =
      let other = not_first (is_same first.id half.id) first (half_of held half.id) unknown in
      rw other.0 (half_of-last held other.1)

  pub without-last : (held : List HalfJoined) → half_of held half.id ≡ None →
      without (held ++ half ∷ []) half.id ≡ held
  without-last [] unknown = rw (same_itself half.id) refl
  without-last (first ∷ held) unknown =
      let other = not_first (is_same first.id half.id) first (half_of held half.id) unknown in
      rw other.0 (ap (λ rest. first ∷ rest) (without-last held other.1))

  pub changed-last : (new : HalfJoined) (held : List HalfJoined) → half_of held half.id ≡ None →
      changed (held ++ half ∷ []) half.id new ≡ held ++ new ∷ []
  changed-last new [] unknown = rw (same_itself half.id) refl
  changed-last new (first ∷ held) unknown =
      let other = not_first (is_same first.id half.id) first (half_of held half.id) unknown in
      rw other.0 (ap (λ rest. first ∷ rest) (changed-last new held other.1))

newest-few : (held : List HalfJoined) → length held ≤ HALF_JOINED → newest held ≡ held
newest-few held few = let none : length held - HALF_JOINED ≡ 0 = omega arith in ap (λ k. drop k held) none

module _ (id : MessageId) (message : List ℕ) where
  abbrev pub header_at : ℕ → Header
  header_at index = record { id = id; index = index; size = length message }

  module _ (can : CanBeCut id message) where
    -- a part of the message is read as its header and its payload
    pub reads_part : (index : ℕ) → index < parts_in (length message) →
        read_part (part_of id message index) ≡ Some (header_at index, payload_of message index)
    unfolding part_of
    reads_part index below =
        let size : length message < 2 ^ 32 = omega (arith, can.limit) in
        let whole : length (payload_of message index) ≡ bytes_in (length message) index
        = length-take PAYLOAD (drop (index * PAYLOAD) message) ∙ ap (min PAYLOAD) (length-drop (index * PAYLOAD) message) in
        reads (header_at index) (payload_of message index)
        (record { sender = can.sender; boot = can.boot; number = can.number; size = size })
        can.some can.limit below whole

    -- the message when these indices were taken
    abbrev pub half_at : List ℕ → HalfJoined
    half_at indices = record { id = id; size = length message; taken = taken_of message indices }

    abbrev pub after_index : List HalfJoined → List ℕ → Taken
    after_index held indices = given_or_kept id held (held ++ half_at indices ∷ []) (bytes_of (taken_of message indices))

    -- the part that begins the message, where others are half joined
    pub begins : (held : List HalfJoined) → half_of held id ≡ None → (index : ℕ) → index < parts_in (length message) →
        after_part held (part_of id message index)
        ≡ Some (given_or_kept id held (newest (held ++ half_at (index ∷ []) ∷ [])) (bytes_of (taken_of message (index ∷ []))))
    begins held unknown index below =
        ap (option_and_then (λ part. joined_to held (half_of held part.0.id) part.0 part.1)) (reads_part index below)
        ∙ ap (λ found. joined_to held found (header_at index) (payload_of message index)) unknown
        ∙ ap (λ taken. Some (given_or_kept id held
        (newest (held ++ record { id = id; size = length message; taken = taken } ∷ [])) (bytes_of taken)))
        (ap (λ taken. slice_set taken index (Some (payload_of message index))) (none_first message)
        ∙ more message [] index below)

    module _ (held : List HalfJoined) (room : HasRoomFor held id) where
      -- the part that begins the message
      pub first_index : (index : ℕ) → index < parts_in (length message) →
          after_part held (part_of id message index) ≡ Some (after_index held (index ∷ []))
      first_index index below =
          let few : length (held ++ half_at (index ∷ []) ∷ []) ≤ HALF_JOINED
          = omega (arith, length-append held (half_at (index ∷ []) ∷ []), room.room) in
          begins held room.unknown index below
          ∙ ap (λ kept. Some (given_or_kept id held kept (bytes_of (taken_of message (index ∷ []))))) (newest-few _ few)

      -- a further part of the message, repeated or not, while one is missing
      pub further_index : (seen : List ℕ) (missing : ℕ) → missing < parts_in (length message) →
          has_index seen missing ≡ false → (index : ℕ) → index < parts_in (length message) →
          after_part (held ++ half_at seen ∷ []) (part_of id message index) ≡ Some (after_index held (seen ++ index ∷ []))
      further_index seen missing inside lacks index below =
          let here = held ++ half_at seen ∷ [] in
          ap (option_and_then (λ part. joined_to here (half_of here part.0.id) part.0 part.1)) (reads_part index below)
          ∙ ap (λ found. joined_to here found (header_at index) (payload_of message index))
          (half_of-last (half_at seen) held room.unknown)
          ∙ of_index (has_index seen index) refl
        where
          of_index : (b : Bool) → has_index seen index ≡ b →
              continued (held ++ half_at seen ∷ []) (half_at seen) (header_at index) (payload_of message index)
              ≡ Some (after_index held (seen ++ index ∷ []))
          of_index true repeated =
              rw (eq-eqb (length message) (length message) refl, known message seen index below, repeated)
              (ap (λ bytes. Some (given_or_kept id held (held ++ half_at seen ∷ []) bytes)) (sym (lacking message seen missing inside lacks))
              ∙ ap (λ taken. Some (given_or_kept id held (held ++ record { id = id; size = length message; taken = taken } ∷ [])
              (bytes_of taken))) (again message seen index repeated))
          of_index false new =
              rw (
                eq-eqb (length message) (length message) refl,
                known message seen index below,
                new,
                without-last (half_at seen) held room.unknown,
              )
              (ap (λ kept. Some (given_or_kept id held kept (bytes_of (slice_set (taken_of message seen) index (Some (payload_of message index))))))
              (changed-last (half_at seen)
              (record { id = id; size = length message; taken = slice_set (taken_of message seen) index (Some (payload_of message index)) })
              held room.unknown)
              ∙ ap (λ taken. Some (given_or_kept id held (held ++ record { id = id; size = length message; taken = taken } ∷ [])
              (bytes_of taken))) (more message seen index below))

      -- the joiner when these indices were taken: before the first it is as it was
      abbrev pub state : List ℕ → List HalfJoined
      state [] = held
      state (first ∷ others) = held ++ half_at (first ∷ others) ∷ []

      pub state-more : (seen : List ℕ) (index : ℕ) → state (seen ++ index ∷ []) ≡ held ++ half_at (seen ++ index ∷ []) ∷ []
      state-more [] index = refl
      state-more (first ∷ others) index = refl

      pub any_index : (seen : List ℕ) (missing : ℕ) → missing < parts_in (length message) →
          has_index seen missing ≡ false → (index : ℕ) → index < parts_in (length message) →
          after_part (state seen) (part_of id message index) ≡ Some (after_index held (seen ++ index ∷ []))
      any_index [] missing inside lacks index below = first_index index below
      any_index (first ∷ others) missing inside lacks index below = further_index (first ∷ others) missing inside lacks index below

      -- while an index is missing nothing is given
      early_index : (seen : List ℕ) (index missing : ℕ) → index < parts_in (length message) →
          missing < parts_in (length message) → has_index (seen ++ index ∷ []) missing ≡ false →
          after_part (state seen) (part_of id message index) ≡ Some (record { held = state (seen ++ index ∷ []); whole = None })
      early_index seen index missing below inside lacks =
          any_index seen missing inside (lacks_front seen (index ∷ []) missing lacks) index below
          ∙ ap (λ bytes. Some (given_or_kept id held (held ++ half_at (seen ++ index ∷ []) ∷ []) bytes))
          (lacking message (seen ++ index ∷ []) missing inside lacks)
          ∙ ap (λ kept. Some (record { held = kept; whole = None })) (sym (state-more seen index))

      -- the parts with these indices, while an index is missing
      pub early : (indices seen : List ℕ) (missing : ℕ) (tail : List (List ℕ)) →
          ((index : ℕ) → has_index indices index ≡ true → index < parts_in (length message)) →
          missing < parts_in (length message) → has_index (seen ++ indices) missing ≡ false →
          joined (state seen) (parts_at id message indices ++ tail) ≡ joined (state (seen ++ indices)) tail
      early [] seen missing tail below inside lacks = ap (λ indices. joined (state indices) tail) (sym (append-nil seen))
      early (index ∷ indices) seen missing tail below inside lacks =
          let regroup : (seen ++ index ∷ []) ++ indices ≡ seen ++ (index ∷ indices) = append_assoc seen (index ∷ []) indices in
          let lacks_all : has_index ((seen ++ index ∷ []) ++ indices) missing ≡ false = ap (λ all. has_index all missing) regroup ∙ lacks in
          let first_below : index < parts_in (length message)
          = below index (or_left (index == index) (has_index indices index) (eq-eqb index index refl)) in
          ap (option_and_then (λ taken. option_map (with_whole taken.whole) (joined taken.held (parts_at id message indices ++ tail))))
          (early_index seen index missing first_below inside (lacks_front (seen ++ index ∷ []) indices missing lacks_all))
          ∙ nothing_given (joined (state (seen ++ index ∷ [])) (parts_at id message indices ++ tail))
          ∙ early indices (seen ++ index ∷ []) missing tail
          (λ other there. below other (or_right (index == other) (has_index indices other) there)) inside lacks_all
          ∙ ap (λ all. joined (state all) tail) regroup

      module _ (front : List ℕ) (last : ℕ) (order : IsLastOf (parts_in (length message)) front last) where
        last_below : last < parts_in (length message)
        last_below = order.below last (has_same front last)

        front_below : (index : ℕ) → has_index front index ≡ true → index < parts_in (length message)
        front_below index there = order.below index (kept_index front last index there)

        -- before the last index nothing is given
        pub nothing_yet : joined held (parts_at id message front) ≡ Some (record { held = state front; wholes = [] })
        nothing_yet =
            ap (joined held) (sym (append-nil (parts_at id message front)))
            ∙ early front [] last [] front_below last_below order.new

        last_index : after_part (state front) (part_of id message last) ≡ Some (record { held = held; whole = Some (whole_of id message) })
        last_index =
            any_index front last last_below order.new last last_below
            ∙ ap (λ bytes. Some (given_or_kept id held (held ++ half_at (front ++ last ∷ []) ∷ []) bytes))
            (complete message (front ++ last ∷ []) order.complete)

        -- the last index gives the message
        pub whole_behind : joined held (parts_at id message front ++ part_of id message last ∷ [])
            ≡ Some (record { held = held; wholes = whole_of id message ∷ [] })
        whole_behind =
            early front [] last (part_of id message last ∷ []) front_below last_below order.new
            ∙ ap (option_and_then (λ taken. option_map (with_whole taken.whole) (joined taken.held []))) last_index

        pub whole_then : joined held (parts_at id message (front ++ last ∷ []))
            ≡ Some (record { held = held; wholes = whole_of id message ∷ [] })
        whole_then = ap (joined held) (map-append (part_of id message) front (last ∷ [])) ∙ whole_behind
