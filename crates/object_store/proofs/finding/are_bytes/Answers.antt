use Rattle.std.proofs.Common.{arith}
use Rattle.object_store.proofs.finding.are_bytes.Goals as goal

pub returns : goal.returns
returns c i = omega (arith, c.type_inv._bytes i)
