use Rattle.std.proofs.Common.{refl}
use Rattle.spec_examples.specs.ClientScenes.{seen_from}
use Rattle.spec_examples.proofs.clients.calls_to_the_servers_end.Goals as goal

pub returns-clause-meta : goal.returns-clause-meta
unfolding seen_from
returns-clause-meta c = refl

pub returns-clause-granted : goal.returns-clause-granted
unfolding seen_from
returns-clause-granted c = refl

pub returns-clause-registry : goal.returns-clause-registry
unfolding seen_from
returns-clause-registry c = refl

pub returns-clause-last : goal.returns-clause-last
unfolding seen_from
returns-clause-last c = refl
