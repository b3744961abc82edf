use Rattle.std.proofs.Common.{ap, sym, ◌∙◌}
use Rattle.body_digests.specs.Digests.{under_or_none}
use Rattle.body_digests.proofs.Noting.{none_under}
use Rattle.body_digests.proofs.digests.bodies_or_none.Goals as goal

pub returns-in-None : goal.returns-in-None
returns-in-None c = λ v. none_under c.new.result c.new.ensures.empty v ∙ ap (λ o. under_or_none o v) (sym c.in-None.is)
