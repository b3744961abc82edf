use Rattle.std.proofs.Common.{arith}
use Rattle.client_jobs.proofs.limits.are_few.Goals as goal

pub returns-clause-bytes : goal.returns-clause-bytes
returns-clause-bytes c i = omega (arith, c.type_inv.bytes i)
