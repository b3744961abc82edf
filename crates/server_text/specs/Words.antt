-- the words of a line
use Rattle.std.specs.Prelude.{ℕ, List, [], ◌∷◌, ◌++◌, ◌+◌, ◌/◌, ◌%◌, nat_lt, if◌then◌else◌, map, codes}
use Rattle.std.specs.List.{flat_map}
use Rattle.std.specs.Fmt.{decimal}
use Rattle.xt_base.specs.declared.ids.NodeId.{NodeId}

-- these words, a space before each
abbrev pub behind : List (List ℕ) → List ℕ
behind words = flat_map (λ word. 32 ∷ word) words

-- these words, one space between
abbrev pub spaced : List (List ℕ) → List ℕ
spaced [] = []
spaced (word ∷ words) = word ++ behind words

-- a hex digit: 0 to 9, a to f
abbrev pub hex_digit : ℕ → ℕ
hex_digit n = if nat_lt n 10 then 48 + n else 87 + n

-- the two hex digits of a byte
abbrev pub hex_pair : ℕ → List ℕ
hex_pair byte = hex_digit (byte / 16) ∷ hex_digit (byte % 16) ∷ []

-- two hex digits a byte
abbrev pub hex_of : List ℕ → List ℕ
hex_of bytes = flat_map hex_pair bytes

-- the hex of bytes, or a dash where there are none
abbrev pub hex_or_dash : List ℕ → List ℕ
hex_or_dash [] = codes "-"
hex_or_dash (byte ∷ bytes) = hex_of (byte ∷ bytes)

-- three octal digits
abbrev pub mode_word : ℕ → List ℕ
mode_word mode = (48 + mode / 64 % 8) ∷ (48 + mode / 8 % 8) ∷ (48 + mode % 8) ∷ []

-- the numbers of nodes
abbrev pub node_words : List NodeId → List (List ℕ)
node_words nodes = map (λ node. decimal node.0) nodes
