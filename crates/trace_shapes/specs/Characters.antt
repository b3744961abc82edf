-- characters of XML text
use Rattle.std.specs.Prelude.{ℕ, Bool, ◌==◌, ◌&&◌, ◌||◌, not, nat_le}

-- a line feed or a printable ASCII character that stands for itself: none of `"`, `&`, `<` and `>`
abbrev pub is_plain : ℕ → Bool
is_plain byte = byte == 10 || ((nat_le 32 byte && nat_le byte 126) && not (byte == 34 || (byte == 38 || (byte == 60 || byte == 62))))
