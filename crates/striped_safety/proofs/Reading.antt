-- what a client shows of a member's bytes, and the mark that it joins
use Rattle.std.proofs.Common.{◌≡◌, ℕ, ◌+◌, ◌-◌, ◌*◌, ◌<◌, ◌≤◌, ◌⊎◌, inl, inr, Bool, true, false, List, length, take, drop, get_or, refl, ap, ap₂, sym, ◌∙◌, subst, arith, cond}
use Rattle.std.specs.Prelude.{min, max}
use Rattle.std.proofs.lemmas.List.{places, same_lists, get_or_default, length-take}
use Rattle.std.proofs.lemmas.Bool.Decides.{nat_tests}
use Rattle.xt_base.specs.declared.ids.SizeMark.{SizeMark}
use Rattle.xt_base.specs.Overlay.{cut_or_filled}
use Rattle.xt_protocol.specs.Objects.{readable}
use Rattle.time_line.specs.Content.{place_of, range_of}
use Rattle.truncate_epochs.specs.SizeMarks.{is_smaller, merged}
use Rattle.replica_runs.proofs.Bytes.{length-cut_or_filled, byte-cut_or_filled}
use Rattle.striped_safety.specs.Members.{Lies}

range-length : (content : List ℕ) (place len : ℕ) → length (take len (drop place content)) ≡ min len (length content - place)
range-length content place len = grind (arith, places)

shown-length : (bytes : List ℕ) (size len : ℕ) → size ≤ len → length (take size (cut_or_filled bytes len)) ≡ size
shown-length bytes size len low = let whole = length-cut_or_filled bytes len in let cut = length-take size (cut_or_filled bytes len) in omega (arith, whole, cut)

-- one byte
read_same : (base at len place size : ℕ) (body content : List ℕ) (k d : ℕ) → base + k ≡ place → place < length content → k < len → k < size → size ≤ len
    → get_or content place 0 ≡ get_or body (at + k) 0 → length (take size (cut_or_filled (drop at body) len)) ≡ size
    → get_or (take size (cut_or_filled (drop at body) len)) k d ≡ get_or (take len (drop base content)) k d
read_same base at len place size body content k d e inside short below low here long =
    let within : k < length (take size (cut_or_filled (drop at body) len)) = omega (arith, long, below) in
    let first : get_or (take size (cut_or_filled (drop at body) len)) k d ≡ get_or (take size (cut_or_filled (drop at body) len)) k 0 = get_or_default (take size (cut_or_filled (drop at body) len)) k d 0 within in
    let cut : get_or (take size (cut_or_filled (drop at body) len)) k 0 ≡ get_or (cut_or_filled (drop at body) len) k 0 = grind (arith, places) in
    let filled = byte-cut_or_filled (drop at body) len k short in
    let byte : get_or (drop at body) k 0 ≡ get_or body (at + k) 0 = grind (arith, places) in
    let there : get_or (take len (drop base content)) k d ≡ get_or content (base + k) d = grind (arith, places) in
    let moved : get_or content (base + k) d ≡ get_or content place d = ap (λ j. get_or content j d) e in
    let zero_or : get_or content place d ≡ get_or content place 0 = get_or_default content place d 0 inside in
    first ∙ cut ∙ filled ∙ byte ∙ sym here ∙ sym (there ∙ moved ∙ zero_or)

-- a read, cut where the file ends, shows the range of the content
pub read_shows : (stripe object at len : ℕ) (content body : List ℕ) → at + len ≤ stripe → Lies stripe content object body
    → take (readable (length content) stripe object at len) (cut_or_filled (drop at body) len) ≡ range_of content (place_of stripe object at) len
read_shows stripe object at len content body fits lies =
    let base = object * stripe + at in
    let size = min len (length content - (object * stripe + at)) in
    let long = shown-length (drop at body) size len (omega arith) in
    same_lists (take size (cut_or_filled (drop at body) len)) (take len (drop base content)) (long ∙ sym (range-length content base len))
    (λ k d h.
    let below : k < size = subst (λ n. k < n) long h in
    read_same base at len (object * stripe + (at + k)) size body content k d (omega arith) (omega arith) (omega arith) below (omega arith) (lies.bytes (at + k) (omega arith)) long)

-- ---- marks

mark_is : (a b : SizeMark) → a.epoch ≡ b.epoch → a.size ≡ b.size → a ≡ b
mark_is a b e s = ap₂ (λ (x y : ℕ). record { epoch = x; size = y }) e s

smaller_true : (a b : SizeMark) → is_smaller a b ≡ true → (a.epoch < b.epoch) ⊎ ((a.epoch ≡ b.epoch) × (a.size < b.size))
smaller_true a b h = grind (arith, nat_tests)

smaller_false : (a b : SizeMark) → is_smaller a b ≡ false → (b.epoch < a.epoch) ⊎ ((a.epoch ≡ b.epoch) × (b.size ≤ a.size))
smaller_false a b h = grind (arith, nat_tests)

-- the greater of two marks, by what the greatest may be
pub join_same : (a b c : SizeMark) → a.epoch ≡ c.epoch → b.epoch ≡ c.epoch → max a.size b.size ≡ c.size → merged a b ≡ c
join_same a b c p q r = go (is_smaller a b) refl where
  go : (t : Bool) → is_smaller a b ≡ t → cond t b a ≡ c
  go true is = by (smaller_true a b is) where
    by : (a.epoch < b.epoch) ⊎ ((a.epoch ≡ b.epoch) × (a.size < b.size)) → b ≡ c
    by (inl low) = absurd (omega (arith, low, p, q))
    by (inr both) = mark_is b c q (let less = both.1 in omega (arith, less, r))
  go false is = by (smaller_false a b is) where
    by : (b.epoch < a.epoch) ⊎ ((a.epoch ≡ b.epoch) × (b.size ≤ a.size)) → a ≡ c
    by (inl low) = absurd (omega (arith, low, p, q))
    by (inr both) = mark_is a c p (let less = both.1 in omega (arith, less, r))

pub join_later : (a b c : SizeMark) → a.epoch < b.epoch → b ≡ c → merged a b ≡ c
join_later a b c low is = go (is_smaller a b) refl where
  go : (t : Bool) → is_smaller a b ≡ t → cond t b a ≡ c
  go true at = is
  go false at = by (smaller_false a b at) where
    by : (b.epoch < a.epoch) ⊎ ((a.epoch ≡ b.epoch) × (b.size ≤ a.size)) → a ≡ c
    by (inl h) = absurd (omega (arith, low, h))
    by (inr both) = absurd (let same = both.0 in omega (arith, low, same))
