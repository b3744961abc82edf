-- the bytes of extents
use Rattle.std.specs.Prelude.{ℕ, Bool, true, false, List, take, drop, replicate}
use Rattle.journal_moves.specs.declared.extent.Extent.{Extent}

-- What a read of the disk gives there; as many zeros where contracts don't know what it gives.
abbrev pub bytes_in : Bool → List ℕ → Extent → List ℕ
bytes_in true read extent = take extent.len (drop extent.at read)
bytes_in false read extent = replicate extent.len 0
