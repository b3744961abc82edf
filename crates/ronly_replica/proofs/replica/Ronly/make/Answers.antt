use Rattle.std.proofs.Common.{refl}
use Rattle.object_store.specs.Waits.{recs_of}
use Rattle.ronly_replica.proofs.Made.{made}
use Rattle.ronly_replica.proofs.replica.Ronly.make.Goals as goal

pub returns-in-Ok-put_all-clause-makes : goal.returns-in-Ok-put_all-clause-makes
returns-in-Ok-put_all-clause-makes g c =
    made c.args.store c.args.pin.now _ (recs_of c.in-Ok.waiting) c.in-Ok.ensures.0 c.in-Ok-put_all.ensures.end c.requires.empty refl
