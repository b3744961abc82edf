-- A record at a gate, of which the gate, the length and the first byte of the payload were read.
use Rattle.std.proofs.Common.{◌≡◌, ℕ, ◌+◌, ◌<◌, ◌≤◌, List, [], ◌∷◌, ◌++◌, length, take, drop, get_or, sym, ◌∙◌, ap, arith, append_assoc, take-append-drop, rules}
use Rattle.std.specs.Prelude.{slice_index}
use Rattle.std.proofs.lemmas.List.{drop-drop, drop_more, get_or-drop, get_or-take, length-drop, length-take-le}
use Rattle.byteorder.specs.Endian.{big_bytes, big_number}
use Rattle.byteorder.specs.Numbers.{big_from-lt}
use Rattle.xt_base.specs.FieldLimits.{AreBytes}
use Rattle.xt_journal.specs.Format.{open_gate, record_of}
use Rattle.xt_journal.specs.Nexts.{HasRecord, payload_at}

-- four bytes are those of the number in them
four_bytes : (xs : List ℕ) → length xs ≡ 4 → AreBytes xs → big_bytes 4 (big_number 4 xs) ≡ xs
four_bytes [] size all = absurd (omega (arith, size))
four_bytes (a ∷ []) size all = absurd (omega (arith, size))
four_bytes (a ∷ b ∷ []) size all = absurd (omega (arith, size))
four_bytes (a ∷ b ∷ c ∷ []) size all = absurd (omega (arith, size))
four_bytes (a ∷ b ∷ c ∷ d ∷ []) size all =
    let first : a < 256 = all 0 in
    let second : b < 256 = all 1 in
    let third : c < 256 = all 2 in
    let fourth : d < 256 = all 3 in
    search rules
four_bytes (a ∷ b ∷ c ∷ d ∷ e ∷ xs) size all = absurd (omega (arith, size))

-- the first byte of some that come after a place
first_byte : (bytes : List ℕ) (place some : ℕ) → 1 ≤ some → slice_index (take some (drop place bytes)) 0 ≡ slice_index bytes place
first_byte bytes place some is =
    let here : place + 0 ≡ place = omega arith in
    get_or-take some (drop place bytes) 0 0 (omega (arith, is)) ∙ get_or-drop place bytes 0 0 ∙ ap (λ (n : ℕ). get_or bytes n 0) here

-- what a buffer was read as, for its size in numbers and for the disk as it was at first
pub read_as : {D : Type 0} (read : D → List ℕ) {source old : D} {buf : List ℕ} (place : ℕ) {size : ℕ} (n : ℕ) → buf ≡ take size (drop place (read source)) → size ≡ n → source ≡ old
    → buf ≡ take n (drop place (read old))
read_as read {source} place n is same was = is ∙ ap (λ (m : ℕ). take m (drop place (read source))) same ∙ ap (λ d. take n (drop place (read d))) was

module _ (bytes first number one : List ℕ) (gate len : ℕ) (is_first : first ≡ take 1 (drop gate bytes)) (opens : slice_index first 0 ≡ open_gate)
    (is_number : number ≡ take 4 (drop (gate + 1) bytes)) (all : AreBytes number) (says : len ≡ big_number 4 number) (some : 1 ≤ len) (room : gate + (6 + len) ≤ length bytes)
    (is_one : one ≡ take 1 (drop (gate + 5) bytes)) where
  payload_length : length (payload_at bytes gate len) ≡ len
  payload_length = length-take-le len (drop (gate + 5) bytes) (omega (arith, room, length-drop (gate + 5) bytes))

  number_length : length number ≡ 4
  number_length = ap length is_number ∙ length-take-le 4 (drop (gate + 1) bytes) (omega (arith, room, length-drop (gate + 1) bytes))

  length_bytes : take 4 (drop (gate + 1) bytes) ≡ big_bytes 4 (length (payload_at bytes gate len))
  length_bytes = sym is_number ∙ sym (four_bytes number number_length all) ∙ ap (big_bytes 4) (sym says ∙ sym payload_length)

  behind : drop 4 (drop (gate + 1) bytes) ≡ payload_at bytes gate len ++ drop (gate + (5 + len)) bytes
  behind =
      let there : gate + 1 + 4 ≡ gate + 5 = omega arith in
      let later : gate + 5 + len ≡ gate + (5 + len) = omega arith in
      drop-drop 4 (gate + 1) bytes ∙ ap (λ (n : ℕ). drop n bytes) there ∙ sym (take-append-drop len (drop (gate + 5) bytes))
      ∙ ap (λ (l : List ℕ). payload_at bytes gate len ++ l) (drop-drop len (gate + 5) bytes ∙ ap (λ (n : ℕ). drop n bytes) later)

  record_is : drop (gate + 1) bytes ≡ record_of (payload_at bytes gate len) ++ drop (gate + (5 + len)) bytes
  record_is =
      sym (take-append-drop 4 (drop (gate + 1) bytes)) ∙ ap (λ (l : List ℕ). l ++ drop 4 (drop (gate + 1) bytes)) length_bytes
      ∙ ap (λ (l : List ℕ). big_bytes 4 (length (payload_at bytes gate len)) ++ l) behind
      ∙ sym (append_assoc (big_bytes 4 (length (payload_at bytes gate len))) (payload_at bytes gate len) (drop (gate + (5 + len)) bytes))

  pub record_there : HasRecord bytes gate len (slice_index one 0)
  record_there =
      let is_open : get_or bytes gate 0 ≡ open_gate = sym (first_byte bytes gate 1 (omega arith)) ∙ ap (λ (l : List ℕ). slice_index l 0) (sym is_first) ∙ opens in
      record {
        is = record {
          are =
              drop_more bytes gate 0 (omega (arith, room)) ∙ ap (λ (g : ℕ). g ∷ drop (gate + 1) bytes) is_open
              ∙ ap (λ (l : List ℕ). open_gate ∷ l) record_is;
          is_payload = record { some = omega (arith, payload_length, some); fits = omega (arith, payload_length, says, big_from-lt 0 4 number all) };
          some = omega (arith, room, length-drop (gate + (5 + len)) bytes);
        };
        kind_is = ap (λ (l : List ℕ). slice_index l 0) is_one ∙ first_byte bytes (gate + 5) 1 (omega arith) ∙ sym (first_byte bytes (gate + 5) len some);
      }
