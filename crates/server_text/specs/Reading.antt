-- how a line is read: loosely, since its spelling is compared with it afterwards
use Rattle.std.specs.Prelude.{ℕ, zero, suc, List, [], ◌∷◌, ◌+◌, ◌-◌, ◌*◌, ◌%◌, ◌^◌, ◌==◌, length, min, nat_lt, if◌then◌else◌, Option, Some, None}
use Rattle.std.specs.List.{fold, before_first, after_first}
use Rattle.std.specs.Str.{is_utf8}
use Rattle.xt_base.specs.MemberList.{are_members}
use Rattle.xt_base.specs.declared.ids.NodeId.{NodeId}

-- the bytes before the first space
unfoldable pub first_word : List ℕ → List ℕ
first_word bytes = before_first (λ byte. byte == 32) bytes

-- the bytes after the first space
unfoldable pub other_words : List ℕ → List ℕ
other_words bytes = after_first (λ byte. byte == 32) bytes

-- a number with a digit after it, or the greatest one below 2 to the power of `bits`
abbrev pub with_digit : ℕ → ℕ → ℕ → ℕ
with_digit bits number byte = min (min (number * 10) (2 ^ bits - 1) + (byte - 48)) (2 ^ bits - 1)

-- the number that digits spell, or the greatest one below 2 to the power of `bits`
unfoldable pub number_of : ℕ → List ℕ → ℕ
number_of bits word = fold (with_digit bits) 0 word

-- the number of the first word, and the words after it
unfoldable pub number_at : ℕ → List ℕ → ℕ × List ℕ
number_at bits words = (number_of bits (first_word words), other_words words)

-- what the first words say, at most so many of them, each read by itself
unfoldable pub each_word : {A : Type 0} → (List ℕ → A) → ℕ → List ℕ → List A
each_word read zero words = []
each_word read (suc most) [] = []
each_word read (suc most) (byte ∷ words) = read (first_word (byte ∷ words)) ∷ each_word read most (other_words (byte ∷ words))

-- what a hex digit stands for
abbrev pub digit_of : ℕ → ℕ
digit_of byte = if nat_lt byte 58 then byte % 16 else (byte + 9) % 16

-- the byte that two hex digits spell
unfoldable pub byte_of : List ℕ → Option ℕ
byte_of (high ∷ low ∷ []) = Some (digit_of high * 16 + digit_of low)
byte_of _ = None

-- the bytes that hex digits spell
abbrev pub bytes_of : List ℕ → List ℕ
bytes_of [] = []
bytes_of (high ∷ []) = []
bytes_of (high ∷ low ∷ digits) = (digit_of high * 16 + digit_of low) ∷ bytes_of digits

-- the mode that three octal digits spell
unfoldable pub mode_in : List ℕ → ℕ
mode_in (a ∷ b ∷ c ∷ []) = a % 8 * 64 + b % 8 * 8 + c % 8
mode_in _ = 0

-- the text that a word is, or none where it isn't UTF-8
unfoldable pub text_in : List ℕ → List ℕ
text_in word = if is_utf8 word then word else []

-- the texts that words are
unfoldable pub texts_in : List ℕ → List (List ℕ)
texts_in words = each_word text_in (length words) words

-- the node of a number
abbrev pub node_of : ℕ → NodeId
node_of number = record { 0 = number }

-- the node that a word numbers, or the greatest one
abbrev pub node_in : List ℕ → NodeId
node_in word = node_of (number_of 32 word)

-- the nodes that the first words number, at most so many of them
abbrev pub nodes_of : ℕ → List ℕ → List NodeId
nodes_of most words = each_word node_in most words

-- these nodes, where they are one to nine different ones
abbrev pub as_members : List NodeId → Option (List NodeId)
as_members nodes = if are_members nodes then Some nodes else None

-- the members of a file that the words number
unfoldable pub members_at : List ℕ → Option (List NodeId)
members_at words = as_members (nodes_of 9 words)

-- the nodes that words number
unfoldable pub nodes_in : List ℕ → List NodeId
nodes_in words = each_word node_in (length words) words
