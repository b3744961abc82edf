-- what a field may hold: the limits of numbers, bytes and texts
use Rattle.std.specs.Prelude.{ℕ, ◌<◌, ◌≤◌, ◌^◌, ◌≡◌, List, length, IsUtf8, slice_index}
use Rattle.xt_base.specs.declared.TheConstants.{BODY}

-- each of them is a byte
abbrev pub AreBytes : List ℕ → Type 0
AreBytes bytes = (i : ℕ) → slice_index bytes i < 256

-- a count, a boot, the number of an epoch, a truncate epoch, a version in the registry, the number of an operation
abbrev pub IsCount : ℕ → Type 0
IsCount n = n < 2 ^ 62

-- at most 131,072 bytes
pub record FitsBytes (bytes : List ℕ) : Type 0 where
  pub all : AreBytes bytes
  pub few : length bytes ≤ BODY

-- UTF-8 of at most so many bytes
pub record FitsText (limit : ℕ) (text : List ℕ) : Type 0 where
  pub all : AreBytes text
  pub few : length text ≤ limit
  pub utf8 : IsUtf8 text

-- the text of a path, or of the name after which a list goes on
abbrev pub FitsPath : List ℕ → Type 0
FitsPath text = FitsText 65535 text

-- the text of a name in a list of names, or of an address
abbrev pub FitsName : List ℕ → Type 0
FitsName text = FitsText 255 text

-- the tag of a capability, or of the message that stops a node
pub record FitsTag (tag : List ℕ) : Type 0 where
  pub all : AreBytes tag
  pub whole : length tag ≡ 32
