use Rattle.std.proofs.Common.{◌≡◌, ◌++◌, take}
use Rattle.server_text.specs.Words.{hex_of}
use Rattle.server_text.proofs.spelling.push_hex.Given as goal

-- the bytes so far are spelled
abbrev pub invariant-loop-byte : goal.invariant-loop-byte
invariant-loop-byte l = l.out.items ≡ l.fn.out.items ++ hex_of (take l.byte-index l.bytes)
