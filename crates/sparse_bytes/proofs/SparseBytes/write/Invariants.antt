use Rattle.std.proofs.Common.{◌≡◌}
use Rattle.sparse_bytes.proofs.Written.{ArePut}
use Rattle.sparse_bytes.proofs.SparseBytes.write.Given as goal

abbrev pub invariant-loop-i : goal.invariant-loop-i
invariant-loop-i l = (l.self.size ≡ l.fn.self.size) × ArePut l.fn.self.written l.self.written l.fn.at l.bytes l.i
