-- numbers, bytes and texts as fields
use Rattle.std.specs.Prelude.{ℕ, zero, suc, ◌^◌, List, [], ◌∷◌, ◌++◌, length, take, drop, Ok, Err, nat_lt, nat_le, ◌&&◌, if◌then◌else◌}
use Rattle.std.specs.Str.{is_utf8}
use Rattle.std.specs.Int.{Width, w16, w32, w64, byte_len, from_be_bytes, to_be_bytes}
use Rattle.xt_fields.specs.declared.fault.FieldErr.TheVariants as fault
use Rattle.xt_fields.specs.Reading.{Field, ◌>>=◌, fit}

-- ---- numbers, the high byte first

abbrev pub byte_bytes : ℕ → List ℕ
byte_bytes n = n ∷ []

unfoldable pub half_bytes : ℕ → List ℕ
half_bytes n = to_be_bytes w16 n

unfoldable pub word_bytes : ℕ → List ℕ
word_bytes n = to_be_bytes w32 n

unfoldable pub long_bytes : ℕ → List ℕ
long_bytes n = to_be_bytes w64 n

unfoldable pub byte_at : Field ℕ
byte_at [] = Err fault.Short
byte_at (b ∷ rest) = Ok (b, rest)

abbrev pub number_at : Width → Field ℕ
number_at w bytes = if nat_lt (length bytes) (byte_len w) then Err fault.Short else Ok (from_be_bytes w (take (byte_len w) bytes), drop (byte_len w) bytes)

unfoldable pub half_at : Field ℕ
half_at = number_at w16

unfoldable pub word_at : Field ℕ
word_at = number_at w32

unfoldable pub long_at : Field ℕ
long_at = number_at w64

-- a number of eight bytes below 2 ^ 62
unfoldable pub count_at : Field ℕ
count_at = fit (λ n. nat_lt n (2 ^ 62)) long_at

-- ---- bytes

-- so many bytes
unfoldable pub raw_at : ℕ → Field (List ℕ)
raw_at n bytes = if nat_lt (length bytes) n then Err fault.Short else Ok (take n bytes, drop n bytes)

-- four bytes of length, and that many bytes
abbrev pub octets_bytes : List ℕ → List ℕ
octets_bytes bytes = word_bytes (length bytes) ++ bytes

unfoldable pub octets_at : ℕ → Field (List ℕ)
octets_at limit bytes = do
  len ← word_at bytes
  if nat_lt limit len.0 then Err fault.Over else raw_at len.0 len.1

-- two bytes of length, and that many bytes of UTF-8
abbrev pub text_bytes : List ℕ → List ℕ
text_bytes text = half_bytes (length text) ++ text

unfoldable pub utf8_at : ℕ → Field (List ℕ)
utf8_at len bytes = do
  text ← raw_at len bytes
  if is_utf8 text.0 then Ok text else Err fault.NotText

unfoldable pub text_at : ℕ → Field (List ℕ)
text_at limit bytes = do
  len ← half_at bytes
  if nat_lt limit len.0 then Err fault.Over else utf8_at len.0 len.1

-- ---- what fields are made of

-- a number from the one to the other
abbrev pub within : ℕ → ℕ → Field ℕ → Field ℕ
within low high = fit (λ n. nat_le low n && nat_le n high)

-- a byte says which field comes
abbrev pub tagged : {A : Type 0} → (ℕ → Field A) → Field A
tagged arms bytes = do
  tag ← byte_at bytes
  arms tag.0 tag.1

-- so many fields
unfoldable pub list_at : {A : Type 0} → Field A → ℕ → Field (List A)
list_at entry zero bytes = Ok ([], bytes)
list_at entry (suc n) bytes = do
  first ← entry bytes
  others ← list_at entry n first.1
  Ok (first.0 ∷ others.0, others.1)

-- a number, at most limit, and so many fields
abbrev pub counted : {A : Type 0} → ℕ → Field ℕ → Field A → Field (List A)
counted limit count entry bytes = do
  n ← count bytes
  if nat_lt limit n.0 then Err fault.Over else list_at entry n.0 n.1
