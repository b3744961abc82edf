use Rattle.std.proofs.Common.{◌≡◌, ◌++◌, map, take, drop}
use Rattle.std.specs.Prelude.{bit_xor}
use Rattle.capabilities.proofs.mask.Given as goal

-- the bytes so far are changed
abbrev pub invariant-loop-byte : goal.invariant-loop-byte
invariant-loop-byte l = l.bytes ≡ map (λ byte. bit_xor byte l.pad) (take l.byte-index l.initial.bytes) ++ drop l.byte-index l.initial.bytes
