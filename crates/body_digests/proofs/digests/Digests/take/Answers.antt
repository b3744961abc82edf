use Rattle.std.proofs.Common.{◌++◌, ◌∷◌, [], subst, sym}
use Rattle.std.proofs.lemmas.Result.{on_ok_weaker}
use Rattle.xt_messages.specs.declared.record.Record.{Record}
use Rattle.body_digests.specs.Digests.{AreDigestsIn}
use Rattle.body_digests.proofs.Sealing.{forget_taken, other_taken, seal_taken}
use Rattle.body_digests.proofs.digests.Digests.take.Goals as goal

pub returns-in-Seal : goal.returns-in-Seal
returns-in-Seal c =
    on_ok_weaker c.put.result
    (λ puts. λ records are.
    subst (λ (r : Record). AreDigestsIn c.put.new.self (records ++ r ∷ [])) (sym c.in-Seal.is) (seal_taken c.args.self.now c.put.new.self _ _ _ puts records are))
    c.put.ensures

pub returns-in-Forget : goal.returns-in-Forget
returns-in-Forget c = λ records are.
    subst (λ (r : Record). AreDigestsIn c.remove.new.self (records ++ r ∷ [])) (sym c.in-Forget.is)
    (forget_taken c.args.self.now c.remove.new.self _ c.remove.ensures records are)

pub returns-in_default : goal.returns-in_default
returns-in_default c = other_taken c.args.self.now c.args.rec.now c.in_default.not-Seal c.in_default.not-Forget
