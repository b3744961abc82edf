use Rattle.std.proofs.Common.{refl}
use Rattle.spec_examples.specs.ClientScenes.{seen_from}
use Rattle.spec_examples.proofs.clients.calls_on_a_replicated_file_end.Goals as goal

pub returns-clause-silent : goal.returns-clause-silent
unfolding seen_from
returns-clause-silent c = refl

pub returns-clause-again : goal.returns-clause-again
unfolding seen_from
returns-clause-again c = refl

pub returns-clause-away : goal.returns-clause-away
unfolding seen_from
returns-clause-away c = refl

pub returns-clause-on : goal.returns-clause-on
unfolding seen_from
returns-clause-on c = refl

pub returns-clause-refused : goal.returns-clause-refused
unfolding seen_from
returns-clause-refused c = refl

pub returns-clause-aimed : goal.returns-clause-aimed
unfolding seen_from
returns-clause-aimed c = refl

pub returns-clause-last : goal.returns-clause-last
unfolding seen_from
returns-clause-last c = refl
