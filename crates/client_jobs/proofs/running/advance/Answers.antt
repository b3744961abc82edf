use Rattle.std.proofs.Common.{refl}
use Rattle.client_jobs.proofs.running.advance.Goals as goal

pub returns-in-Err-clause-cause : goal.returns-in-Err-clause-cause
returns-in-Err-clause-cause g c source = (c.in-Err.ensures.cause source, refl)
