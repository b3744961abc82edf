-- numbers, bytes and texts
use Rattle.std.proofs.Common.{◌≡◌, ℕ, zero, suc, ◌+◌, ◌^◌, ◌<◌, ◌≤◌, false, cond, ltb, leb, ◌&&◌, List, [], ◌∷◌, ◌++◌, length, take, drop, Ok, Err, refl, sym, ap, subst, ◌∙◌, append_assoc, arith, inl, inr, lit<}
use Rattle.std.specs.List.{flat_map, AllByRecursion}
use Rattle.std.proofs.lemmas.List.Concat.{flat_map-cons}
use Rattle.std.specs.Prelude.{IsUtf8}
use Rattle.std.specs.Str.{is_utf8}
use Rattle.std.specs.Int.{Width, w16, w32, w64, byte_len, from_be_bytes, to_be_bytes}
use Rattle.std.proofs.lemmas.Bool.{cases_lt, ltb-false, le-ltb, ltb-true, lt-ltb, leb-true, le-leb}
use Rattle.std.proofs.lemmas.List.{take_at, drop_at, take-append-drop, length-append, length-take, get_or-drop, get_or-take, get_or_past}
use Rattle.std.proofs.lemmas.Nat.{be_bytes_2, be_bytes_4, be_bytes_8, from_be_bytes-to_be_bytes_2, from_be_bytes-to_be_bytes_4, from_be_bytes-to_be_bytes_8}
use Rattle.std.proofs.lemmas.Str.{IsUtf8-from_is_utf8, is_utf8-from_IsUtf8}
use Rattle.xt_base.specs.FieldLimits.{AreBytes, IsCount, FitsBytes, FitsText, FitsPath, FitsName, FitsTag}
use Rattle.xt_fields.specs.declared.fault.FieldErr.TheVariants as fault
use Rattle.xt_fields.specs.Reading.{Field, ◌>>=◌}
use Rattle.xt_fields.specs.BasicFields.{byte_bytes, half_bytes, word_bytes, long_bytes, byte_at, number_at, half_at, word_at, long_at, count_at, raw_at, octets_bytes, octets_at, text_bytes, text_at, utf8_at, within, list_at, counted, tagged}
use Rattle.xt_fields.specs.OneSpelling.{Taken, IsField}
use Rattle.xt_fields.proofs.Laws.{AreArms, bind_ok, ok_is, went_on, passed, fit_field, as_field, and_is, is_and}

bytes-drop : (n : ℕ) (bytes : List ℕ) → AreBytes bytes → AreBytes (drop n bytes)
bytes-drop n bytes h i = rw get_or-drop (h (n + i))

pub bytes-take : (n : ℕ) (bytes : List ℕ) → AreBytes bytes → AreBytes (take n bytes)
bytes-take n bytes h i =
    elim (cases_lt i n) [
      | inl lt ↦ rw (get_or-take n bytes i 0 lt) (h i)
      | inr le ↦ rw (get_or_past (take n bytes) i 0 (omega (arith, length-take n bytes))) (omega arith)
    ]

-- ---- numbers

pub record IsWide (w : Width) (limit : ℕ) : Type 0 where
  pub len : (n : ℕ) → length (to_be_bytes w n) ≡ byte_len w
  pub back : (bytes : List ℕ) → length bytes ≡ byte_len w → AreBytes bytes → to_be_bytes w (from_be_bytes w bytes) ≡ bytes
  pub again : (n : ℕ) → n < limit → from_be_bytes w (to_be_bytes w n) ≡ n
  pub below : (bytes : List ℕ) → AreBytes bytes → from_be_bytes w bytes < limit

wide16 : IsWide w16 (2 ^ 16)
wide16 = record {
  len = λ n. refl;
  back = λ bytes len fits. be_bytes_2 bytes _ len fits refl;
  again = λ n lt. from_be_bytes-to_be_bytes_2 n lt;
  below = λ bytes fits. omega (arith, fits 0, fits 1);
}

wide32 : IsWide w32 (2 ^ 32)
wide32 = record {
  len = λ n. refl;
  back = λ bytes len fits. be_bytes_4 bytes _ len fits refl;
  again = λ n lt. from_be_bytes-to_be_bytes_4 n lt;
  below = λ bytes fits. omega (arith, fits 0, fits 1, fits 2, fits 3);
}

wide64 : IsWide w64 (2 ^ 64)
wide64 = record {
  len = λ n. refl;
  back = λ bytes len fits. be_bytes_8 bytes _ len fits refl;
  again = λ n lt. from_be_bytes-to_be_bytes_8 n lt;
  below = λ bytes fits. omega (arith, fits 0, fits 1, fits 2, fits 3, fits 4, fits 5, fits 6, fits 7);
}

number_field : (w : Width) (limit : ℕ) → IsWide w limit → IsField (to_be_bytes w) (λ n. n < limit) (number_at w)
number_field w limit wide = record {
  takes = λ given x all e.
      let g = went_on (ltb (length given) (byte_len w)) fault.Short (Ok (from_be_bytes w (take (byte_len w) given), drop (byte_len w) given)) x e in
      let long : byte_len w ≤ length given = ltb-false _ _ g.0 in
      let front : to_be_bytes w (from_be_bytes w (take (byte_len w) given)) ≡ take (byte_len w) given = wide.back (take (byte_len w) given) (omega (arith, length-take (byte_len w) given)) (bytes-take (byte_len w) given all) in
      let whole : given ≡ to_be_bytes w (from_be_bytes w (take (byte_len w) given)) ++ drop (byte_len w) given = rw front (sym (take-append-drop (byte_len w) given)) in
      let read : ℕ × List ℕ = (from_be_bytes w (take (byte_len w) given), drop (byte_len w) given) in
      subst (λ (y : ℕ × List ℕ). Taken given (to_be_bytes w y.0) y.1 (y.0 < limit)) (ok_is read x g.1)
      (record { parts = whole; left = bytes-drop (byte_len w) given all; within = wide.below (take (byte_len w) given) (bytes-take (byte_len w) given all) });
  again = λ n rest lt.
      let len = wide.len n in
      let long : ltb (length (to_be_bytes w n ++ rest)) (byte_len w) ≡ false = le-ltb _ _ (omega (arith, length-append (to_be_bytes w n) rest)) in
      rw (long, take_at (to_be_bytes w n) rest (byte_len w) len, drop_at (to_be_bytes w n) rest (byte_len w) len, wide.again n lt) refl;
}

pub half_field : IsField half_bytes (λ n. n < 2 ^ 16) half_at
unfolding half_bytes half_at
half_field = number_field w16 (2 ^ 16) wide16

pub word_field : IsField word_bytes (λ n. n < 2 ^ 32) word_at
unfolding word_bytes word_at
word_field = number_field w32 (2 ^ 32) wide32

pub long_field : IsField long_bytes (λ n. n < 2 ^ 64) long_at
unfolding long_bytes long_at
long_field = number_field w64 (2 ^ 64) wide64

pub half-length : (n : ℕ) → length (half_bytes n) ≡ 2
unfolding half_bytes
half-length n = refl

pub word-length : (n : ℕ) → length (word_bytes n) ≡ 4
unfolding word_bytes
word-length n = refl

pub long-length : (n : ℕ) → length (long_bytes n) ≡ 8
unfolding long_bytes
long-length n = refl

byte-takes : (given : List ℕ) (x : ℕ × List ℕ) → AreBytes given → byte_at given ≡ Ok x → Taken given (byte_bytes x.0) x.1 (x.0 < 2 ^ 8)
unfolding byte_at
byte-takes [] x all e = absurd cc
byte-takes (b ∷ rest) x all e =
    let read : ℕ × List ℕ = (b, rest) in
    subst (λ (y : ℕ × List ℕ). Taken (b ∷ rest) (byte_bytes y.0) y.1 (y.0 < 2 ^ 8)) (ok_is read x e)
    (record { parts = refl; left = λ i. all (suc i); within = all 0 })

pub byte_field : IsField byte_bytes (λ n. n < 2 ^ 8) byte_at
unfolding byte_at
byte_field = record {
  takes = byte-takes;
  again = λ n rest lt. refl;
}

pub count_field : IsField long_bytes IsCount count_at
unfolding count_at
count_field = as_field (λ n h. ltb-true _ _ (h.1)) (λ n h. (omega arith, lt-ltb _ _ h)) (fit_field (λ n. ltb n (2 ^ 62)) long_field)

-- ---- bytes

pub record IsRaw (n : ℕ) (bytes : List ℕ) : Type 0 where
  pub all : AreBytes bytes
  pub whole : length bytes ≡ n

pub raw_field : (n : ℕ) → IsField (λ (bytes : List ℕ). bytes) (IsRaw n) (raw_at n)
unfolding raw_at
raw_field n = record {
  takes = λ given x all e.
      let g = went_on (ltb (length given) n) fault.Short (Ok (take n given, drop n given)) x e in
      let long : n ≤ length given = ltb-false _ _ g.0 in
      let read : List ℕ × List ℕ = (take n given, drop n given) in
      subst (λ (y : List ℕ × List ℕ). Taken given y.0 y.1 (IsRaw n y.0)) (ok_is read x g.1)
      (record { parts = sym (take-append-drop n given); left = bytes-drop n given all; within = record { all = bytes-take n given all; whole = omega (arith, length-take n given) } });
  again = λ bytes rest fits.
      let len = fits.whole in
      let long : ltb (length (bytes ++ rest)) n ≡ false = le-ltb _ _ (omega (arith, length-append bytes rest)) in
      rw (long, take_at bytes rest n len, drop_at bytes rest n len) refl;
}

-- as many bytes as a number before them says, at most limit
sized_takes : (limit width : ℕ) (size : ℕ → List ℕ) (size_at : Field ℕ) (body_at : ℕ → Field (List ℕ)) (fits : List ℕ → Type 0)
    → IsField size (λ n. n < width) size_at → ((n : ℕ) → IsField (λ (bytes : List ℕ). bytes) (λ bytes. IsRaw n bytes × fits bytes) (body_at n))
    → (given : List ℕ) (x : List ℕ × List ℕ) → AreBytes given
    → (size_at given >>= λ len. cond (ltb limit len.0) (Err fault.Over) (body_at len.0 len.1)) ≡ Ok x
    → Taken given (size (length x.0) ++ x.0) x.1 (AreBytes x.0 × (length x.0 ≤ limit) × fits x.0)
sized_takes limit width size size_at body_at fits p q given x all e =
    let a = bind_ok (size_at given) (λ len. cond (ltb limit len.0) (Err fault.Over) (body_at len.0 len.1)) x e in
    let g = went_on (ltb limit a.0.0) fault.Over (body_at a.0.0 a.0.1) x a.2 in
    let s = p.takes given a.0 all a.1 in
    let t = (q a.0.0).takes a.0.1 x s.left g.1 in
    let few : a.0.0 ≤ limit = ltb-false _ _ g.0 in
    let raw = t.within.0 in
    let parts : given ≡ size a.0.0 ++ (x.0 ++ x.1) = s.parts ∙ ap (λ (r : List ℕ). size a.0.0 ++ r) t.parts in
    let named : given ≡ size (length x.0) ++ (x.0 ++ x.1) = subst (λ (n : ℕ). given ≡ size n ++ (x.0 ++ x.1)) (sym raw.whole) parts in
    record { parts = named ∙ sym (append_assoc (size (length x.0)) x.0 x.1); left = t.left; within = (raw.all, omega (arith, raw.whole), t.within.1) }

sized_again : (limit width : ℕ) (size : ℕ → List ℕ) (size_at : Field ℕ) (body_at : ℕ → Field (List ℕ)) (fits : List ℕ → Type 0)
    → IsField size (λ n. n < width) size_at → ((n : ℕ) → IsField (λ (bytes : List ℕ). bytes) (λ bytes. IsRaw n bytes × fits bytes) (body_at n))
    → limit < width → (bytes rest : List ℕ) → AreBytes bytes → length bytes ≤ limit → fits bytes
    → (size_at ((size (length bytes) ++ bytes) ++ rest) >>= λ len. cond (ltb limit len.0) (Err fault.Over) (body_at len.0 len.1)) ≡ Ok (bytes, rest)
sized_again limit width size size_at body_at fits p q lt bytes rest all few within =
    let h : size_at (size (length bytes) ++ (bytes ++ rest)) ≡ Ok (length bytes, bytes ++ rest) = p.again (length bytes) (bytes ++ rest) (omega arith) in
    let g : ltb limit (length bytes) ≡ false = le-ltb _ _ few in
    let b : body_at (length bytes) (bytes ++ rest) ≡ Ok (bytes, rest) = (q (length bytes)).again bytes rest (record { all = all; whole = refl }, within) in
    ap (λ (t : List ℕ). size_at t >>= λ len. cond (ltb limit len.0) (Err fault.Over) (body_at len.0 len.1)) (append_assoc (size (length bytes)) bytes rest)
    ∙ rw (h, g, b) refl

any_field : (n : ℕ) → IsField (λ (bytes : List ℕ). bytes) (λ bytes. IsRaw n bytes × Unit {0}) (raw_at n)
any_field n = as_field (λ bytes h. (h, tt)) (λ bytes h. h.0) (raw_field n)

pub record FitsOctets (limit : ℕ) (bytes : List ℕ) : Type 0 where
  pub all : AreBytes bytes
  pub few : length bytes ≤ limit

pub octets_field : (limit : ℕ) → limit < 2 ^ 32 → IsField octets_bytes (FitsOctets limit) (octets_at limit)
unfolding octets_at
octets_field limit lt = record {
  takes = λ given x all e.
      let s = sized_takes limit (2 ^ 32) word_bytes word_at raw_at (λ bytes. Unit {0}) word_field any_field given x all e in
      record { parts = s.parts; left = s.left; within = record { all = s.within.0; few = s.within.1 } };
  again = λ bytes rest fits. sized_again limit (2 ^ 32) word_bytes word_at raw_at (λ bytes. Unit {0}) word_field any_field lt bytes rest fits.all fits.few tt;
}

utf8_field : (n : ℕ) → IsField (λ (bytes : List ℕ). bytes) (λ bytes. IsRaw n bytes × IsUtf8 bytes) (utf8_at n)
unfolding utf8_at
utf8_field n = record {
  takes = λ given x all e.
      let a = bind_ok (raw_at n given) (λ text. cond (is_utf8 text.0) (Ok text) (Err fault.NotText)) x e in
      let g = passed (is_utf8 a.0.0) fault.NotText a.0 x a.2 in
      let s = (raw_field n).takes given a.0 all a.1 in
      subst (λ (y : List ℕ × List ℕ). Taken given y.0 y.1 (IsRaw n y.0 × IsUtf8 y.0)) g.1
      (record { parts = s.parts; left = s.left; within = (s.within, IsUtf8-from_is_utf8 _ g.0) });
  again = λ bytes rest fits. rw ((raw_field n).again bytes rest fits.0, is_utf8-from_IsUtf8 bytes fits.1) refl;
}

pub text_field : (limit : ℕ) → limit < 2 ^ 16 → IsField text_bytes (FitsText limit) (text_at limit)
unfolding text_at
text_field limit lt = record {
  takes = λ given x all e.
      let s = sized_takes limit (2 ^ 16) half_bytes half_at utf8_at IsUtf8 half_field utf8_field given x all e in
      record { parts = s.parts; left = s.left; within = record { all = s.within.0; few = s.within.1; utf8 = s.within.2 } };
  again = λ bytes rest fits. sized_again limit (2 ^ 16) half_bytes half_at utf8_at IsUtf8 half_field utf8_field lt bytes rest fits.all fits.few fits.utf8;
}

-- ---- limits of lengths

pub body_field : IsField octets_bytes FitsBytes (octets_at 131072)
body_field = as_field (λ b h. record { all = h.all; few = h.few }) (λ b h. record { all = h.all; few = h.few }) (octets_field 131072 (lit< tt))

pub path_field : IsField text_bytes FitsPath (text_at 65535)
path_field = text_field 65535 (lit< tt)

pub name_field : IsField text_bytes FitsName (text_at 255)
name_field = text_field 255 (lit< tt)

pub tag_field : IsField (λ (bytes : List ℕ). bytes) FitsTag (raw_at 32)
tag_field = as_field (λ b h. record { all = h.all; whole = h.whole }) (λ b h. record { all = h.all; whole = h.whole }) (raw_field 32)

-- ---- numbers within limits

within_field : {bytes : ℕ → List ℕ} {at : Field ℕ} (low high width : ℕ) → high < width → IsField bytes (λ n. n < width) at
    → IsField bytes (λ n. (low ≤ n) × (n ≤ high)) (within low high at)
within_field low high width lt p =
    as_field
    (λ n h. let t = and_is (leb low n) (leb n high) h.1 in (leb-true _ _ t.0, leb-true _ _ t.1))
    (λ n h. let below : n < width = omega arith in (below, is_and (leb low n) (leb n high) (le-leb _ _ h.0) (le-leb _ _ h.1)))
    (fit_field (λ n. leb low n && leb n high) p)

pub within_byte : (low high : ℕ) → high < 2 ^ 8 → IsField byte_bytes (λ n. (low ≤ n) × (n ≤ high)) (within low high byte_at)
within_byte low high lt = within_field low high (2 ^ 8) lt byte_field

pub within_word : (low high : ℕ) → high < 2 ^ 32 → IsField word_bytes (λ n. (low ≤ n) × (n ≤ high)) (within low high word_at)
within_word low high lt = within_field low high (2 ^ 32) lt word_field

-- ---- lists

pub record AreListed {A : Type 0} (fits : A → Type 0) (n : ℕ) (list : List A) : Type 0 where
  pub whole : length list ≡ n
  pub each : AllByRecursion fits list

pub list_takes : {A : Type 0} {bytes : A → List ℕ} {fits : A → Type 0} {at : Field A} → IsField bytes fits at
    → (n : ℕ) (given : List ℕ) (x : List A × List ℕ) → AreBytes given → list_at at n given ≡ Ok x → Taken given (flat_map bytes x.0) x.1 (AreListed fits n x.0)
unfolding list_at
list_takes {A} {bytes} {fits} {at} p zero given x all e =
    let read : List A × List ℕ = ([], given) in
    subst (λ (y : List A × List ℕ). Taken given (flat_map bytes y.0) y.1 (AreListed fits 0 y.0)) (ok_is read x e)
    (record { parts = refl; left = all; within = record { whole = refl; each = tt } })
list_takes {A} {bytes} {fits} {at} p (suc n) given x all e =
    let a = bind_ok (at given) (λ first. list_at at n first.1 >>= λ others. Ok (first.0 ∷ others.0, others.1)) x e in
    let b = bind_ok (list_at at n a.0.1) (λ others. Ok (a.0.0 ∷ others.0, others.1)) x a.2 in
    let s = p.takes given a.0 all a.1 in
    let t = list_takes p n a.0.1 b.0 s.left b.1 in
    let read : List A × List ℕ = (a.0.0 ∷ b.0.0, b.0.1) in
    let parts : given ≡ flat_map bytes (a.0.0 ∷ b.0.0) ++ b.0.1 = s.parts ∙ ap (λ (r : List ℕ). bytes a.0.0 ++ r) t.parts ∙ sym (append_assoc (bytes a.0.0) (flat_map bytes b.0.0) b.0.1) ∙ ap (λ (r : List ℕ). r ++ b.0.1) (sym (flat_map-cons bytes a.0.0 b.0.0)) in
    subst (λ (y : List A × List ℕ). Taken given (flat_map bytes y.0) y.1 (AreListed fits (suc n) y.0)) (ok_is read x b.2)
    (record { parts = parts; left = t.left; within = record { whole = ap suc t.within.whole; each = (s.within, t.within.each) } })

pub list_again : {A : Type 0} {bytes : A → List ℕ} {fits : A → Type 0} {at : Field A} → IsField bytes fits at
    → (list : List A) (rest : List ℕ) → AllByRecursion fits list → list_at at (length list) (flat_map bytes list ++ rest) ≡ Ok (list, rest)
unfolding list_at
list_again p [] rest h = refl
list_again {A} {bytes} {fits} {at} p (a ∷ list) rest h =
    let regrouped : flat_map bytes (a ∷ list) ++ rest ≡ bytes a ++ (flat_map bytes list ++ rest) = ap (λ (r : List ℕ). r ++ rest) (flat_map-cons bytes a list) ∙ append_assoc (bytes a) (flat_map bytes list) rest in
    ap (list_at at (suc (length list))) regrouped ∙ rw (p.again a (flat_map bytes list ++ rest) h.0, list_again p list rest h.1) refl

pub record AreFew {A : Type 0} (fits : A → Type 0) (limit : ℕ) (list : List A) : Type 0 where
  pub few : length list ≤ limit
  pub each : AllByRecursion fits list

pub counted_field : {A : Type 0} {bytes : A → List ℕ} {fits : A → Type 0} {at : Field A} {size : ℕ → List ℕ} {size_at : Field ℕ} (limit width : ℕ)
    → limit < width → IsField size (λ n. n < width) size_at → IsField bytes fits at
    → IsField (λ (list : List A). size (length list) ++ flat_map bytes list) (AreFew fits limit) (counted limit size_at at)
counted_field {A} {bytes} {fits} {at} {size} {size_at} limit width lt q p = record {
  takes = λ given x all e.
      let a = bind_ok (size_at given) (λ n. cond (ltb limit n.0) (Err fault.Over) (list_at at n.0 n.1)) x e in
      let g = went_on (ltb limit a.0.0) fault.Over (list_at at a.0.0 a.0.1) x a.2 in
      let s = q.takes given a.0 all a.1 in
      let t = list_takes p a.0.0 a.0.1 x s.left g.1 in
      let few : a.0.0 ≤ limit = ltb-false _ _ g.0 in
      let parts : given ≡ size a.0.0 ++ (flat_map bytes x.0 ++ x.1) = s.parts ∙ ap (λ (r : List ℕ). size a.0.0 ++ r) t.parts in
      let named : given ≡ size (length x.0) ++ (flat_map bytes x.0 ++ x.1) = subst (λ (n : ℕ). given ≡ size n ++ (flat_map bytes x.0 ++ x.1)) (sym t.within.whole) parts in
      record { parts = named ∙ sym (append_assoc (size (length x.0)) (flat_map bytes x.0) x.1); left = t.left; within = record { few = omega (arith, t.within.whole); each = t.within.each } };
  again = λ list rest h.
      let counts : size_at (size (length list) ++ (flat_map bytes list ++ rest)) ≡ Ok (length list, flat_map bytes list ++ rest) = q.again (length list) (flat_map bytes list ++ rest) (omega (arith, h.few)) in
      let g : ltb limit (length list) ≡ false = le-ltb _ _ h.few in
      ap (counted limit size_at at) (append_assoc (size (length list)) (flat_map bytes list) rest)
      ∙ rw (counts, g, list_again p list rest h.each) refl;
}

-- ---- fields after a tag

pub tagged_field : {B : Type 0} {bytes : B → List ℕ} {fits : B → Type 0} {arms : ℕ → Field B} → AreArms bytes fits arms
    → ((b : B) (rest : List ℕ) → fits b → tagged arms (bytes b ++ rest) ≡ Ok (b, rest)) → IsField bytes fits (tagged arms)
tagged_field {B} {bytes} {fits} {arms} p again = record {
  takes = λ given x all e.
      let a = bind_ok (byte_at given) (λ tag. arms tag.0 tag.1) x e in
      let s = byte_field.takes given a.0 all a.1 in
      let t = p.takes a.0.0 a.0.1 x s.left a.2 in
      record { parts = s.parts ∙ t.parts; left = t.left; within = t.within };
  again = again;
}
