-- one field of each kind, one after the other, and fields that are refused
use Rattle.std.specs.Prelude.{ℕ, List, [], ◌∷◌, ◌++◌, map, codes}
use Rattle.std.specs.Str.{chars, is_utf8}
use lib.Utf8.{encode}
use Rattle.xt_fields.specs.declared.fault.FieldErr.{FieldErr}
use Rattle.xt_fields.specs.declared.fault.FieldErr.TheVariants as fault
use Rattle.xt_fields.specs.Reading.{Field, ◌&◌, made}
use Rattle.xt_fields.specs.BasicFields.{byte_bytes, half_bytes, word_bytes, long_bytes, octets_bytes, text_bytes, byte_at, half_at, word_at, long_at, count_at, raw_at, octets_at, utf8_at, text_at}

-- opens what reads and writes fields
unfoldable pub fields : Unit {0}
unfolding half_bytes word_bytes long_bytes byte_at half_at word_at long_at count_at raw_at octets_at utf8_at text_at
    is_utf8 chars encode
fields = tt

-- the fronts of bytes that aren't all of them
abbrev pub fronts_of : List ℕ → List (List ℕ)
fronts_of [] = []
fronts_of (byte ∷ bytes) = [] ∷ map (λ front. byte ∷ front) (fronts_of bytes)

-- the bytes of the text `é`
abbrev pub e_acute : List ℕ
e_acute = 0xc3 ∷ 0xa9 ∷ []

abbrev pub written : List ℕ
written =
    byte_bytes 1 ++ half_bytes 0x0203 ++ word_bytes 0x04050607 ++ long_bytes 0x08090a0b0c0d0e0f ++ octets_bytes (codes "ab") ++ text_bytes e_acute

abbrev pub bytes : List ℕ
bytes =
    1 ∷ 2 ∷ 3 ∷ 4 ∷ 5 ∷ 6 ∷ 7 ∷ 8 ∷ 9 ∷ 10 ∷ 11 ∷ 12 ∷ 13 ∷ 14 ∷ 15 ∷ 0 ∷ 0 ∷ 0 ∷ 2 ∷ 97 ∷ 98 ∷ 0 ∷ 2 ∷ 0xc3 ∷ 0xa9 ∷ []

abbrev pub fields_at : Field (((((ℕ × ℕ) × ℕ) × ℕ) × List ℕ) × List ℕ)
fields_at = byte_at & half_at & word_at & long_at & octets_at 2 & text_at 2

abbrev pub values : ((((ℕ × ℕ) × ℕ) × ℕ) × List ℕ) × List ℕ
values = (((((1, 0x0203), 0x04050607), 0x08090a0b0c0d0e0f), codes "ab"), e_acute)

-- fields, bytes that they refuse, and why: the limit comes before the end
abbrev pub refused : List (Field (List ℕ) × List ℕ × FieldErr)
refused =
    (octets_at 2, 0 ∷ 0 ∷ 0 ∷ 3 ∷ 9 ∷ [], fault.Over)
    ∷ (octets_at 3, 0 ∷ 0 ∷ 0 ∷ 3 ∷ 9 ∷ [], fault.Short)
    ∷ (octets_at 3, 0 ∷ 0 ∷ 0 ∷ [], fault.Short)
    ∷ (text_at 0, 0 ∷ 1 ∷ 0xff ∷ [], fault.Over)
    ∷ (text_at 1, 0 ∷ 1 ∷ 0xff ∷ [], fault.NotText)
    ∷ (text_at 2, 0 ∷ 2 ∷ 0xff ∷ [], fault.Short)
    ∷ (made (λ n. n ∷ []) count_at, 0x3f ∷ 0xff ∷ 0xff ∷ [], fault.Short)
    -- 2^62
    ∷ (made (λ n. n ∷ []) count_at, 0x40 ∷ 0 ∷ 0 ∷ 0 ∷ 0 ∷ 0 ∷ 0 ∷ 0 ∷ [], fault.Unfit)
    ∷ []
