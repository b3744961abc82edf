-- What was written determines the bytes, step by step.
use Rattle.std.proofs.Common.{◌≡◌, ◌≢◌, ◌∙◌, ℕ, ◌+◌, ◌-◌, ◌<◌, ◌≤◌, ◌⊎◌, inl, inr, ⊎_elim, true, false, List, [], ◌∷◌, ◌++◌, length, get_or, take, drop, Option, Some, None, refl, sym, ap, arith}
use Rattle.std.specs.Prelude.{max, min, cond}
use Rattle.std.specs.Option.{unwrap_or}
use Rattle.std.specs.Ordering.{nat_cmp, is_eq, is_gt}
use Rattle.std.specs.Map.{lookup, keys_of}
use Rattle.std.specs.BTreeMap.{BTreeMap, is_at, keys, Updates}
use Rattle.std.specs.List.{All}
use Rattle.std.proofs.lemmas.Bool.{cases_lt}
use Rattle.std.proofs.lemmas.Bool.Decides.{nat_tests}
use Rattle.std.proofs.lemmas.List.{get_or_past, ext_get_or}
use Rattle.std.proofs.lemmas.List.Elements.{All-head, All-tail}
use Rattle.xt_base.specs.Overlay.{overlay, cut_or_filled}
use Rattle.sparse_bytes.specs.Sparse.{byte_at, Tells}
use Rattle.sparse_bytes.proofs.Bytes.{length-overlay, overlay-inside, overlay-outside, length-cut_or_filled, byte-cut_or_filled, past-cut_or_filled, length-range, byte-range}

-- ---- a write

-- so many of the bytes were put at their place, and nothing else was
pub record ArePut (old new : BTreeMap ℕ ℕ) (at : ℕ) (bytes : List ℕ) (count : ℕ) : Type 0 where
  pub inside : (i : ℕ) → i < count → byte_at new (at + i) ≡ get_or bytes i 0
  pub outside : (place : ℕ) → (place < at) ⊎ (at + count ≤ place) → byte_at new place ≡ byte_at old place

pub none_put : (old : BTreeMap ℕ ℕ) (at : ℕ) (bytes : List ℕ) → ArePut old old at bytes 0
none_put old at bytes = record { inside = λ i few. absurd (omega (arith, few)); outside = λ place out. refl }

apart : (a b : ℕ) → a ≢ b → is_eq (nat_cmp a b) ≡ false
apart a b different = grind (arith, nat_tests)

here : (old new : BTreeMap ℕ ℕ) (place byte : ℕ) → Updates nat_cmp old new place (Some byte) → byte_at new place ≡ byte
here old new place byte updates = ap (λ (o : Option ℕ). unwrap_or o 0) updates.1

elsewhere : (old new : BTreeMap ℕ ℕ) (place byte other : ℕ) → Updates nat_cmp old new place (Some byte) → place ≢ other → byte_at new other ≡ byte_at old other
elsewhere old new place byte other updates different = ap (λ (o : Option ℕ). unwrap_or o 0) (updates.2 other (apart place other different))

pub one_put : (old before new : BTreeMap ℕ ℕ) (at : ℕ) (bytes : List ℕ) (count byte : ℕ) → byte ≡ get_or bytes count 0 → ArePut old before at bytes count
    → Updates nat_cmp before new (at + count) (Some byte) → ArePut old new at bytes (count + 1)
one_put old before new at bytes count byte is so_far updates = record { inside = inside; outside = outside }
  where
    inside : (i : ℕ) → i < count + 1 → byte_at new (at + i) ≡ get_or bytes i 0
    inside i few =
        ⊎_elim
        (λ earlier. elsewhere before new (at + count) byte (at + i) updates (λ same. absurd (omega (arith, same, earlier))) ∙ so_far.inside i earlier)
        (λ last.
        let same : i ≡ count = omega (arith, last, few) in
        ap (λ (k : ℕ). byte_at new (at + k)) same ∙ here before new (at + count) byte updates ∙ is ∙ ap (λ (k : ℕ). get_or bytes k 0) (sym same))
        (cases_lt i count)

    outside : (place : ℕ) → (place < at) ⊎ (at + (count + 1) ≤ place) → byte_at new place ≡ byte_at old place
    outside place (inl below) =
        elsewhere before new (at + count) byte place updates (λ same. absurd (omega (arith, same, below))) ∙ so_far.outside place (inl below)
    outside place (inr above) =
        elsewhere before new (at + count) byte place updates (λ same. absurd (omega (arith, same, above))) ∙ so_far.outside place (inr (omega (arith, above)))

pub all_put : (old new : BTreeMap ℕ ℕ) (size at : ℕ) (bytes : List ℕ) (content : List ℕ) → ArePut old new at bytes (length bytes) → Tells size old content
    → Tells (max size (at + length bytes)) new (overlay content at bytes)
all_put old new size at bytes content put tells = record { long = length-overlay content at bytes ∙ ap (λ (n : ℕ). max n (at + length bytes)) tells.long; same = same }
  where
    same : (place : ℕ) → byte_at new place ≡ get_or (overlay content at bytes) place 0
    same place =
        ⊎_elim
        (λ below. put.outside place (inl below) ∙ tells.same place ∙ sym (overlay-outside content at bytes place (inl below)))
        (λ from.
        ⊎_elim
        (λ within.
        let there : at + (place - at) ≡ place = omega (arith, from) in
        ap (byte_at new) (sym there) ∙ put.inside (place - at) (omega (arith, from, within)) ∙ sym (overlay-inside content at bytes place from within))
        (λ above. put.outside place (inr above) ∙ tells.same place ∙ sym (overlay-outside content at bytes place (inr above)))
        (cases_lt place (at + length bytes)))
        (cases_lt place at)

-- ---- another size

behind : (size place : ℕ) → is_gt (nat_cmp size place) ≡ false → size ≤ place
behind size place h = grind (arith, nat_tests)

before : (size place : ℕ) → is_gt (nat_cmp size place) ≡ true → place < size
before size place h = grind (arith, nat_tests)

-- of entries in two parts only one has the place
in_first : (place size : ℕ) (xs ys : List (ℕ × ℕ)) → place < size → All (λ k. is_gt (nat_cmp size k) ≡ false) (keys_of ys) → lookup (is_at (nat_cmp place)) (xs ++ ys) ≡ lookup (is_at (nat_cmp place)) xs
in_first place size [] [] below all = refl
in_first place size [] (y ∷ ys) below all =
    let key = behind size y.0 (All-head (λ k. is_gt (nat_cmp size k) ≡ false) y.0 (keys_of ys) all) in
    ap (λ b. cond b (Some y.1) (lookup (is_at (nat_cmp place)) ys)) (apart place y.0 (λ same. absurd (omega (arith, same, below, key))))
    ∙ in_first place size [] ys below (All-tail (λ k. is_gt (nat_cmp size k) ≡ false) y.0 (keys_of ys) all)
in_first place size (x ∷ xs) ys below all =
    ap (λ (o : Option ℕ). cond (is_at (nat_cmp place) x.0) (Some x.1) o) (in_first place size xs ys below all)

not_in : (place size : ℕ) (xs : List (ℕ × ℕ)) → size ≤ place → All (λ k. is_gt (nat_cmp size k) ≡ true) (keys_of xs) → lookup (is_at (nat_cmp place)) xs ≡ None
not_in place size [] from all = refl
not_in place size (x ∷ xs) from all =
    let key = before size x.0 (All-head (λ k. is_gt (nat_cmp size k) ≡ true) x.0 (keys_of xs) all) in
    ap (λ b. cond b (Some x.1) (lookup (is_at (nat_cmp place)) xs)) (apart place x.0 (λ same. absurd (omega (arith, same, from, key))))
    ∙ not_in place size xs from (All-tail (λ k. is_gt (nat_cmp size k) ≡ true) x.0 (keys_of xs) all)

pub is_cut : (old new rest : BTreeMap ℕ ℕ) (size most : ℕ) (content : List ℕ) → size < most → old.entries ≡ new.entries ++ rest.entries
    → All (λ k. is_gt (nat_cmp size k) ≡ true) (keys new) → All (λ k. is_gt (nat_cmp size k) ≡ false) (keys rest)
    → Tells most old content → Tells size new (cut_or_filled content size)
is_cut old new rest size most content less parts below above tells = record { long = length-cut_or_filled content size; same = same }
  where
    same : (place : ℕ) → byte_at new place ≡ get_or (cut_or_filled content size) place 0
    same place =
        ⊎_elim
        (λ inside.
        ap (λ (o : Option ℕ). unwrap_or o 0)
        (sym (in_first place size new.entries rest.entries inside above) ∙ ap (λ es. lookup (is_at (nat_cmp place)) es) (sym parts))
        ∙ tells.same place ∙ sym (byte-cut_or_filled content size place inside))
        (λ past. ap (λ (o : Option ℕ). unwrap_or o 0) (not_in place size new.entries past below) ∙ sym (past-cut_or_filled content size place past))
        (cases_lt place size)

pub is_filled : (written : BTreeMap ℕ ℕ) (size least : ℕ) (content : List ℕ) → least ≤ size → Tells least written content → Tells size written (cut_or_filled content size)
is_filled written size least content more tells = record { long = length-cut_or_filled content size; same = same }
  where
    same : (place : ℕ) → byte_at written place ≡ get_or (cut_or_filled content size) place 0
    same place =
        ⊎_elim
        (λ inside. tells.same place ∙ sym (byte-cut_or_filled content size place inside))
        (λ past. tells.same place ∙ get_or_past content place 0 (omega (arith, past, more, tells.long)) ∙ sym (past-cut_or_filled content size place past))
        (cases_lt place size)

-- ---- a range

pub is_shown : (written : BTreeMap ℕ ℕ) (size from len : ℕ) (bytes content : List ℕ) → Tells size written content → length bytes ≡ min (size - from) len
    → ((i : ℕ) → i < length bytes → byte_at written (from + i) ≡ get_or bytes i 0) → bytes ≡ take len (drop from content)
is_shown written size from len bytes content tells long same =
    let ranged = length-range content from len in
    ext_get_or 0 bytes (take len (drop from content)) (omega (arith, long, ranged, tells.long))
    (λ i inside. sym (same i inside) ∙ tells.same (from + i) ∙ sym (byte-range content from len i (omega (arith, inside, long))))

pub no_other : (written : BTreeMap ℕ ℕ) (size from len i : ℕ) (bytes content : List ℕ) → Tells size written content → i < length bytes → length bytes ≡ min (size - from) len
    → byte_at written (from + i) ≢ get_or bytes i 0 → bytes ≢ take len (drop from content)
no_other written size from len i bytes content tells inside long other is =
    other (tells.same (from + i) ∙ sym (byte-range content from len i (omega (arith, inside, long))) ∙ ap (λ (xs : List ℕ). get_or xs i 0) (sym is))

pub too_long : (written : BTreeMap ℕ ℕ) (size from len : ℕ) (bytes content : List ℕ) → Tells size written content → length bytes ≢ min (size - from) len
    → bytes ≢ take len (drop from content)
too_long written size from len bytes content tells other is =
    other (ap length is ∙ (let ranged = length-range content from len in omega (arith, ranged, tells.long)))
