use Rattle.std.proofs.Common.{◌≡◌, ◌<◌, ◌+◌, ℕ, get_or}
use Rattle.sparse_bytes.specs.Sparse.{byte_at}
use Rattle.sparse_bytes.proofs.SparseBytes.shows.Given as goal

abbrev pub invariant-loop-i : goal.invariant-loop-i
invariant-loop-i l = (i : ℕ) → i < l.i → byte_at l.fn.self.written (l.fn.from + i) ≡ get_or l.fn.bytes i 0
