use Rattle.std.proofs.lemmas.Str.{IsUtf8-had}
use Rattle.xt_base.proofs.address.Address.as_str.Goals as goal

pub returns-in-Err : goal.returns-in-Err
returns-in-Err c = absurd (c.in-Err.ensures.cases.0 (IsUtf8-had _ c.self.invariant.2))
