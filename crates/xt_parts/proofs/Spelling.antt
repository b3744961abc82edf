-- what is read as a part is laid out as one
use Rattle.std.proofs.Common.{◌≡◌, ◌<◌, ◌≤◌, ◌^◌, ◌+◌, ◌-◌, ◌==◌, ◌&&◌, ◌∷◌, ◌++◌, ◌⊎◌, inl, inr, ℕ, true, List, length, take, drop, get_or, nat_le, nat_lt, slice_index, subst, refl, sym, ap, ◌∙◌, arith, append_assoc}
use Rattle.std.specs.Int.{w32, w64, to_be_bytes}
use Rattle.std.proofs.lemmas.Nat.{be_bytes_4, be_bytes_8}
use Rattle.std.proofs.lemmas.Bool.{and_parts, cases_lt, eqb-true, leb-true, ltb-true}
use Rattle.std.proofs.lemmas.List.{take-append-drop, drop-drop, drop_more, length-take-le, length-drop, length-take, get_or-take, get_or-drop, get_or_past}
use Rattle.std.proofs.lemmas.Option.{cond_some}
use Rattle.xt_base.specs.declared.TheConstants.{FRAME}
use Rattle.xt_parts.specs.declared.TheConstants.{VERSION, HEADER}
use Rattle.xt_parts.specs.declared.part.Header.{Header}
use Rattle.xt_parts.specs.Part.{parts_in, bytes_in, FitsMessage, part_bytes, word_at, long_at, header_of, is_cut, is_part}
use Rattle.xt_parts.specs.Laws.{ReadsLayout, ReadsLayoutOnly}
use Rattle.xt_parts.proofs.Reading.{reads}

-- how the fields of a part are grouped
grouped :
    (version index total : ℕ) (sender boot number size payload : List ℕ) →
    (version ∷ sender ++ boot ++ number ++ index ∷ total ∷ size) ++ payload
    ≡ version ∷ (sender ++ (boot ++ (number ++ (index ∷ total ∷ (size ++ payload)))))
grouped version index total sender boot number size payload = simp append_assoc

module _ (bytes : List ℕ) (small : (i : ℕ) → get_or bytes i 0 < 256) (long : HEADER ≤ length bytes) where
  small_part : (at n i : ℕ) → get_or (take n (drop at bytes)) i 0 < 256
  small_part at n i = of_place (cases_lt i n)
    where
      of_place : (i < n) ⊎ (n ≤ i) → get_or (take n (drop at bytes)) i 0 < 256
      of_place (inl inside) = rw (get_or-take n (drop at bytes) i 0 inside, get_or-drop at bytes i 0) (small (at + i))
      of_place (inr past) =
          let none : length (take n (drop at bytes)) ≤ i = omega (arith, length-take n (drop at bytes)) in
          rw (get_or_past (take n (drop at bytes)) i 0 none) (omega arith)

  part_length : (at n : ℕ) → at + n ≤ length bytes → length (take n (drop at bytes)) ≡ n
  part_length at n inside =
      let rest : n ≤ length (drop at bytes) = omega (arith, length-drop at bytes) in length-take-le n (drop at bytes) rest

  word_spelled : (at : ℕ) → at + 4 ≤ length bytes → to_be_bytes w32 (word_at bytes at) ++ drop (at + 4) bytes ≡ drop at bytes
  word_spelled at inside =
      ap (λ field. field ++ drop (at + 4) bytes)
      (be_bytes_4 (take 4 (drop at bytes)) (word_at bytes at) (part_length at 4 inside) (small_part at 4) refl)
      ∙ ap (λ rest. take 4 (drop at bytes) ++ rest) (sym (drop-drop 4 at bytes))
      ∙ take-append-drop 4 (drop at bytes)

  long_spelled : (at : ℕ) → at + 8 ≤ length bytes → to_be_bytes w64 (long_at bytes at) ++ drop (at + 8) bytes ≡ drop at bytes
  long_spelled at inside =
      ap (λ field. field ++ drop (at + 8) bytes)
      (be_bytes_8 (take 8 (drop at bytes)) (long_at bytes at) (part_length at 8 inside) (small_part at 8) refl)
      ∙ ap (λ rest. take 8 (drop at bytes) ++ rest) (sym (drop-drop 8 at bytes))
      ∙ take-append-drop 8 (drop at bytes)

  byte_spelled : (at : ℕ) → at < length bytes → slice_index bytes at ∷ drop (at + 1) bytes ≡ drop at bytes
  byte_spelled at inside = sym (drop_more bytes at 0 inside)

  laid_out : slice_index bytes 0 ≡ VERSION → slice_index bytes 22 ≡ parts_in (word_at bytes 23) →
      part_bytes (header_of bytes) (drop HEADER bytes) ≡ bytes
  unfolding header_of
  laid_out version total =
      grouped VERSION (slice_index bytes 21) (parts_in (word_at bytes 23)) (to_be_bytes w32 (word_at bytes 1))
      (to_be_bytes w64 (long_at bytes 5)) (to_be_bytes w64 (long_at bytes 13)) (to_be_bytes w32 (word_at bytes 23)) (drop 27 bytes)
      ∙ ap (λ rest. VERSION ∷ (to_be_bytes w32 (word_at bytes 1) ++ (to_be_bytes w64 (long_at bytes 5)
      ++ (to_be_bytes w64 (long_at bytes 13) ++ (slice_index bytes 21 ∷ rest)))))
      (ap (λ size. parts_in (word_at bytes 23) ∷ size) (word_spelled 23 (omega arith))
      ∙ ap (λ count. count ∷ drop 23 bytes) (sym total) ∙ byte_spelled 22 (omega arith))
      ∙ ap (λ rest. VERSION ∷ (to_be_bytes w32 (word_at bytes 1) ++ (to_be_bytes w64 (long_at bytes 5)
      ++ (to_be_bytes w64 (long_at bytes 13) ++ rest)))) (byte_spelled 21 (omega arith))
      ∙ ap (λ rest. VERSION ∷ (to_be_bytes w32 (word_at bytes 1) ++ (to_be_bytes w64 (long_at bytes 5) ++ rest)))
      (long_spelled 13 (omega arith))
      ∙ ap (λ rest. VERSION ∷ (to_be_bytes w32 (word_at bytes 1) ++ rest)) (long_spelled 5 (omega arith))
      ∙ ap (λ rest. VERSION ∷ rest) (word_spelled 1 (omega arith))
      ∙ ap (λ first. first ∷ drop 1 bytes) (sym version)
      ∙ byte_spelled 0 (omega arith)

tests_of :
    (bytes : List ℕ) → is_part bytes ≡ true →
    (HEADER ≤ length bytes) × (slice_index bytes 0 ≡ VERSION) × (is_cut bytes (word_at bytes 23) ≡ true)
unfolding is_part
tests_of bytes is =
    let front = and_parts (nat_le HEADER (length bytes) && (slice_index bytes 0 == VERSION)) (is_cut bytes (word_at bytes 23)) is in
    let first = and_parts (nat_le HEADER (length bytes)) (slice_index bytes 0 == VERSION) front.0 in
    (leb-true HEADER (length bytes) first.0, eqb-true (slice_index bytes 0) VERSION first.1, front.1)

record Cut (bytes : List ℕ) (size : ℕ) : Type 0 where
  some : 1 ≤ size
  limit : size ≤ FRAME
  total : slice_index bytes 22 ≡ parts_in size
  index : slice_index bytes 21 < parts_in size
  payload : length bytes - HEADER ≡ bytes_in size (slice_index bytes 21)

cut_of : (bytes : List ℕ) (size : ℕ) → is_cut bytes size ≡ true → Cut bytes size
cut_of bytes size is =
    let five = and_parts (nat_le 1 size && nat_le size FRAME && (slice_index bytes 22 == parts_in size)
    && nat_lt (slice_index bytes 21) (parts_in size)) (length bytes - HEADER == bytes_in size (slice_index bytes 21)) is in
    let four = and_parts (nat_le 1 size && nat_le size FRAME && (slice_index bytes 22 == parts_in size))
    (nat_lt (slice_index bytes 21) (parts_in size)) five.0 in
    let three = and_parts (nat_le 1 size && nat_le size FRAME) (slice_index bytes 22 == parts_in size) four.0 in
    let two = and_parts (nat_le 1 size) (nat_le size FRAME) three.0 in
    record {
      some = leb-true 1 size two.0;
      limit = leb-true size FRAME two.1;
      total = eqb-true (slice_index bytes 22) (parts_in size) three.1;
      index = ltb-true (slice_index bytes 21) (parts_in size) four.1;
      payload = eqb-true (length bytes - HEADER) (bytes_in size (slice_index bytes 21)) five.1;
    }

fits_message : (bytes : List ℕ) → Cut bytes (word_at bytes 23) → FitsMessage (header_of bytes) (drop HEADER bytes)
unfolding header_of
fits_message bytes cut = record {
  some = cut.some;
  limit = cut.limit;
  index = cut.index;
  long = length-drop HEADER bytes ∙ cut.payload;
}

pub reads_layout_only : ReadsLayoutOnly
reads_layout_only bytes part small is =
    let read = cond_some (is_part bytes) (header_of bytes, drop HEADER bytes) part is in
    let tests = tests_of bytes read.0 in
    let cut = cut_of bytes (word_at bytes 23) tests.2 in
    let P : Header × List ℕ → Type 0 = λ p. FitsMessage p.0 p.1 × (bytes ≡ part_bytes p.0 p.1) in
    subst P read.1 (fits_message bytes cut, sym (laid_out bytes small tests.0 tests.1 cut.total))

pub reads_layout : ReadsLayout
reads_layout header payload fields fits =
    let size : header.size < 2 ^ 32 = omega (arith, fits.limit) in
    reads header payload (record { sender = fields.sender; boot = fields.boot; number = fields.number; size = size })
    fits.some fits.limit fits.index fits.long
