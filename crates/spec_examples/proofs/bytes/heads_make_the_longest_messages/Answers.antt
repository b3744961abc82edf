use Rattle.std.proofs.Common.{refl}
use Rattle.spec_examples.proofs.bytes.heads_make_the_longest_messages.Goals as goal

pub returns-clause-heads : goal.returns-clause-heads
returns-clause-heads c = λ head full. rw (full.versions, full.sessions) refl

pub returns-clause-messages : goal.returns-clause-messages
returns-clause-messages c = λ head full. rw (full.versions, full.sessions) refl
