use Rattle.list_entries.proofs.Moments.{none_hold, prefix_holds, more_hold}
use Rattle.list_entries.proofs.members_hold.Goals as goal

pub returns-clause-none : goal.returns-clause-none
returns-clause-none c = none_hold

pub returns-clause-prefix : goal.returns-clause-prefix
returns-clause-prefix c = prefix_holds

pub returns-clause-more : goal.returns-clause-more
returns-clause-more c = more_hold
