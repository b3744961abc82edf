-- the payloads of a message, and its bytes
use Rattle.std.proofs.Common.{◌≡◌, ◌<◌, ◌≤◌, ◌+◌, ◌-◌, ◌*◌, ◌++◌, ◌∷◌, [], ℕ, zero, suc, Bool, true, false, List, Option, Some, None, length, take, drop, min, replicate, nat_lt, is_some, unwrap_or, get_or, if◌then◌else◌, slice_set, slice_get, refl, sym, ap, ◌∙◌, length-drop, arith, ltb-true, ltb-false}
use Rattle.std.specs.List.{list_all, flat_map}
use Rattle.std.proofs.lemmas.Bool.{and_parts}
use Rattle.std.proofs.lemmas.List.{append-nil, take_all, take_at, take-append-le, take-append-drop, take-take, drop_all, drop_at, drop-append-le, drop-take, drop-drop, length-take-le}
use Rattle.xt_parts.specs.Joining.{bytes_of, has_payload}
use Rattle.xt_parts.specs.Buffers.{payloads_in}

abbrev pub flat : List (Option (List ℕ)) → List ℕ
flat taken = flat_map (λ payload. unwrap_or payload []) taken

abbrev pub all_taken : List (Option (List ℕ)) → Bool
all_taken taken = list_all is_some taken

-- Where no index is taken, there is no payload.
pub none_in : (width count : ℕ) (bytes : List ℕ) → payloads_in width (replicate count false) bytes ≡ replicate count None
none_in width zero bytes = refl
none_in width (suc count) bytes = ap (λ later. None ∷ later) (none_in width count (drop width bytes))

pub length_in : (width : ℕ) (taken : List Bool) (bytes : List ℕ) → length (payloads_in width taken bytes) ≡ length taken
length_in width [] bytes = refl
length_in width (is_taken ∷ later) bytes = ap suc (length_in width later (drop width bytes))

chosen : (b : Bool) (payload : List ℕ) → has_payload (Some (if b then Some payload else None)) ≡ b
chosen true payload = refl
chosen false payload = refl

-- An index has a payload exactly if it is taken.
pub taken_at : (width : ℕ) (taken : List Bool) (bytes : List ℕ) (index : ℕ) (other : Bool) → index < length taken →
    has_payload (slice_get (payloads_in width taken bytes) index) ≡ get_or taken index other
taken_at width [] bytes index other below = absurd (omega arith)
taken_at width (is_taken ∷ later) bytes zero other below = chosen is_taken (take width bytes)
taken_at width (is_taken ∷ later) bytes (suc index) other below =
    taken_at width later (drop width bytes) index other (omega arith)

all_next : (b : Bool) (payload : List ℕ) (rest : List (Option (List ℕ))) (later : List Bool) →
    all_taken rest ≡ list_all (λ taken. taken) later →
    all_taken ((if b then Some payload else None) ∷ rest) ≡ list_all (λ taken. taken) (b ∷ later)
all_next true payload rest later same = same
all_next false payload rest later same = refl

-- Each index has a payload exactly if each is taken.
pub all_in : (width : ℕ) (taken : List Bool) (bytes : List ℕ) →
    list_all is_some (payloads_in width taken bytes) ≡ list_all (λ taken. taken) taken
all_in width [] bytes = refl
all_in width (is_taken ∷ later) bytes =
    all_next is_taken (take width bytes) (payloads_in width later (drop width bytes)) later
    (all_in width later (drop width bytes))

-- the payload at the front of what it was written over
front_taken : (width : ℕ) (payload bytes : List ℕ) → length payload ≡ min width (length bytes) →
    take width (payload ++ drop (length payload) bytes) ≡ payload
front_taken width payload bytes long = by (nat_lt (length bytes) width) refl
  where
    by : (b : Bool) → nat_lt (length bytes) width ≡ b → take width (payload ++ drop (length payload) bytes) ≡ payload
    by true short =
        let less = ltb-true (length bytes) width short in
        ap (λ rest. take width (payload ++ rest)) (drop_all (length payload) bytes (omega arith))
        ∙ ap (take width) (append-nil payload) ∙ take_all width payload (omega arith)
    by false full =
        let most = ltb-false (length bytes) width full in
        take_at payload (drop (length payload) bytes) width (omega arith)

front_dropped : (width : ℕ) (payload bytes : List ℕ) → length payload ≡ min width (length bytes) →
    drop width (payload ++ drop (length payload) bytes) ≡ drop width bytes
front_dropped width payload bytes long = by (nat_lt (length bytes) width) refl
  where
    by : (b : Bool) → nat_lt (length bytes) width ≡ b →
        drop width (payload ++ drop (length payload) bytes) ≡ drop width bytes
    by true short =
        let less = ltb-true (length bytes) width short in
        ap (λ rest. drop width (payload ++ rest)) (drop_all (length payload) bytes (omega arith))
        ∙ ap (drop width) (append-nil payload) ∙ drop_all width payload (omega arith)
        ∙ sym (drop_all width bytes (omega arith))
    by false full =
        let most = ltb-false (length bytes) width full in
        let same : length payload ≡ width = omega arith in
        drop_at payload (drop (length payload) bytes) width same ∙ ap (λ n. drop n bytes) same

-- the bytes with these in place of those from this place on
abbrev pub overwritten : ℕ → List ℕ → List ℕ → List ℕ
overwritten start payload bytes = take start bytes ++ (payload ++ drop (start + length payload) bytes)

-- what lies before the place that is written over
later_taken : (width at : ℕ) (payload bytes : List ℕ) → width + at ≤ length bytes →
    take width (overwritten (width + at) payload bytes) ≡ take width bytes
later_taken width at payload bytes within =
    let front : length (take (width + at) bytes) ≡ width + at = length-take-le (width + at) bytes within in
    take-append-le width (take (width + at) bytes) (payload ++ drop (width + at + length payload) bytes) (omega arith)
    ∙ take-take width (width + at) bytes (omega arith)

later_dropped : (width at : ℕ) (payload bytes : List ℕ) → width + at ≤ length bytes →
    drop width (overwritten (width + at) payload bytes) ≡ overwritten at payload (drop width bytes)
later_dropped width at payload bytes within =
    let front : length (take (width + at) bytes) ≡ width + at = length-take-le (width + at) bytes within in
    let past : width + at + length payload ≡ width + (at + length payload) = omega arith in
    drop-append-le width (take (width + at) bytes) (payload ++ drop (width + at + length payload) bytes) (omega arith)
    ∙ ap (λ rest. rest ++ (payload ++ drop (width + at + length payload) bytes)) (drop-take width at bytes)
    ∙ ap (λ rest. take at (drop width bytes) ++ (payload ++ rest))
    (ap (λ n. drop n bytes) past ∙ sym (drop-drop (at + length payload) width bytes))

overwritten_first : (payload bytes : List ℕ) → overwritten 0 payload bytes ≡ payload ++ drop (length payload) bytes
overwritten_first payload bytes =
    let past : 0 + length payload ≡ length payload = omega arith in
    ap (λ n. payload ++ drop n bytes) past

-- A payload that is written in its place is the one at its index, and the others stay.
pub one_more : (width : ℕ) (taken : List Bool) (index : ℕ) (payload bytes : List ℕ) →
    index < length taken → index * width ≤ length bytes → length payload ≡ min width (length bytes - index * width) →
    payloads_in width (slice_set taken index true) (overwritten (index * width) payload bytes)
    ≡ slice_set (payloads_in width taken bytes) index (Some payload)
one_more width [] index payload bytes below within long = absurd (omega arith)
one_more width (is_taken ∷ later) zero payload bytes below within long =
    let start : zero * width ≡ 0 = omega arith in
    let here : length payload ≡ min width (length bytes) = omega arith in
    rw (start, overwritten_first payload bytes, front_taken width payload bytes here, front_dropped width payload bytes here) refl
one_more width (is_taken ∷ later) (suc index) payload bytes below within long =
    let start : suc index * width ≡ width + index * width = omega arith in
    let room : width + index * width ≤ length bytes = omega arith in
    let rest : length (drop width bytes) ≡ length bytes - width = length-drop width bytes in
    rw (start, later_taken width (index * width) payload bytes room, later_dropped width (index * width) payload bytes room)
    (ap (λ more. (if is_taken then Some (take width bytes) else None) ∷ more)
    (one_more width later index payload (drop width bytes) (omega arith) (omega arith) (omega arith)))

first_bytes : (b : Bool) (width : ℕ) (bytes rest : List ℕ) → b ≡ true → rest ≡ drop width bytes →
    unwrap_or (if b then Some (take width bytes) else None) [] ++ rest ≡ bytes
first_bytes true width bytes rest is same = ap (λ more. take width bytes ++ more) same ∙ take-append-drop width bytes
first_bytes false width bytes rest is same = cc

-- Where all are taken, the payloads in order are the bytes.
pub flat_in : (width : ℕ) (taken : List Bool) (bytes : List ℕ) → list_all (λ taken. taken) taken ≡ true →
    length bytes ≤ length taken * width → flat (payloads_in width taken bytes) ≡ bytes
flat_in width [] bytes all short = sym (drop_all zero bytes (omega arith))
flat_in width (is_taken ∷ later) bytes all short =
    let both = and_parts is_taken (list_all (λ taken. taken) later) all in
    first_bytes is_taken width bytes (flat (payloads_in width later (drop width bytes))) both.0
    (flat_in width later (drop width bytes) both.1 (omega (arith, length-drop width bytes)))

-- The message of a whole buffer is what the buffer holds.
pub bytes_in_place : (width : ℕ) (taken : List Bool) (bytes : List ℕ) →
    list_all is_some (payloads_in width taken bytes) ≡ true → length bytes ≤ length taken * width →
    bytes_of (payloads_in width taken bytes) ≡ Some bytes
bytes_in_place width taken bytes all short =
    rw (all, flat_in width taken bytes (sym (all_in width taken bytes) ∙ all) short) refl
