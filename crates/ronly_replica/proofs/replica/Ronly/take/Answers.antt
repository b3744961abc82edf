use Rattle.std.proofs.Common.{◌∷◌, [], subst, arith}
use Rattle.xt_messages.specs.declared.record.Record.{Record}
use Rattle.xt_journal.specs.Append.{IsWithAllOrNone}
use Rattle.object_store.specs.Texts.{texts_of}
use Rattle.ronly_replica.specs.Access.{records_of}
use Rattle.ronly_replica.specs.Disks.{Leaves}
use Rattle.ronly_replica.proofs.Holdings.{taken_left}
use Rattle.ronly_replica.proofs.replica.Ronly.take.Goals as goal

pub returns-clause-leaves : goal.returns-clause-leaves
returns-clause-leaves g c =
    let self = c.args.self in
    taken_left self c.args.object c.args.fetched c.put.result (omega (arith, c.if-count-self.false))
    (subst (λ (rec : Record). Leaves self (IsWithAllOrNone (texts_of (records_of self)) (texts_of (rec ∷ []))) c.put.result) c.stage-rec.ensures c.put.ensures.leaves)
