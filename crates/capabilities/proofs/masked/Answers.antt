use Rattle.std.proofs.Common.{◌≡◌, ◌∙◌, ◌++◌, ℕ, List, length, drop, replicate}
use Rattle.std.specs.Prelude.{map, bit_xor}
use Rattle.std.proofs.lemmas.List.{drop-replicate}
use Rattle.capabilities.specs.Tags.{masked}
use Rattle.capabilities.proofs.masked.Goals as goal

filled : (pad : ℕ) (key copied : List ℕ) → copied ≡ key → map (λ byte. bit_xor byte pad) (copied ++ drop (length key) (replicate 64 0)) ≡ masked pad key
filled pad key copied same = rw (same, drop-replicate)

pub returns : goal.returns
returns c = c.mask.ensures ∙ filled c.args.pad c.args.key.now c.copy_from_slice.new.self c.copy_from_slice.ensures.after
