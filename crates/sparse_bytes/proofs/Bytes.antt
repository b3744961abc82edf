-- bytes with others over them, cut, filled or asked for, byte by byte
use Rattle.std.proofs.Common.{◌≡◌, ℕ, ◌+◌, ◌-◌, ◌<◌, ◌≤◌, ◌⊎◌, List, length, get_or, take, drop, arith}
use Rattle.std.specs.Prelude.{max, min}
use Rattle.std.proofs.lemmas.List.{places}
use Rattle.xt_base.specs.Overlay.{overlay, cut_or_filled}

pub length-overlay : (old : List ℕ) (at : ℕ) (new : List ℕ) → length (overlay old at new) ≡ max (length old) (at + length new)
length-overlay old at new = grind (arith, places)

pub overlay-inside : (old : List ℕ) (at : ℕ) (new : List ℕ) (i : ℕ) → at ≤ i → i < at + length new → get_or (overlay old at new) i 0 ≡ get_or new (i - at) 0
overlay-inside old at new i low high = grind (arith, places)

pub overlay-outside : (old : List ℕ) (at : ℕ) (new : List ℕ) (i : ℕ) → (i < at) ⊎ (at + length new ≤ i) → get_or (overlay old at new) i 0 ≡ get_or old i 0
overlay-outside old at new i h = grind (arith, places)

pub length-cut_or_filled : (bytes : List ℕ) (size : ℕ) → length (cut_or_filled bytes size) ≡ size
length-cut_or_filled bytes size = grind (arith, places)

pub byte-cut_or_filled : (bytes : List ℕ) (size i : ℕ) → i < size → get_or (cut_or_filled bytes size) i 0 ≡ get_or bytes i 0
byte-cut_or_filled bytes size i h = grind (arith, places)

pub past-cut_or_filled : (bytes : List ℕ) (size i : ℕ) → size ≤ i → get_or (cut_or_filled bytes size) i 0 ≡ 0
past-cut_or_filled bytes size i h = grind (arith, places)

pub length-range : (bytes : List ℕ) (from len : ℕ) → length (take len (drop from bytes)) ≡ min len (length bytes - from)
length-range bytes from len = grind (arith, places)

pub byte-range : (bytes : List ℕ) (from len i : ℕ) → i < len → get_or (take len (drop from bytes)) i 0 ≡ get_or bytes (from + i) 0
byte-range bytes from len i h = grind (arith, places)
