use Rattle.std.proofs.Common.{refl}
use Rattle.spec_examples.specs.Requests.{requests}
use Rattle.spec_examples.proofs.servers.requests_are_answered.Goals as goal

pub returns-clause-answers : goal.returns-clause-answers
unfolding requests
returns-clause-answers c = refl

pub returns-clause-wake : goal.returns-clause-wake
unfolding requests
returns-clause-wake c = refl
