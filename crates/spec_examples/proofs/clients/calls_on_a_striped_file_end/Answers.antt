use Rattle.std.proofs.Common.{refl}
use Rattle.spec_examples.specs.ClientScenes.{seen_from}
use Rattle.spec_examples.proofs.clients.calls_on_a_striped_file_end.Goals as goal

pub returns-clause-cut : goal.returns-clause-cut
unfolding seen_from
returns-clause-cut c = refl

pub returns-clause-away : goal.returns-clause-away
unfolding seen_from
returns-clause-away c = refl

pub returns-clause-refused : goal.returns-clause-refused
unfolding seen_from
returns-clause-refused c = refl

pub returns-clause-truncated : goal.returns-clause-truncated
unfolding seen_from
returns-clause-truncated c = refl
