use Rattle.list_entries.proofs.Stretched.{from_first, rises, same_stretch, none_later}
use Rattle.list_entries.proofs.stretches_rise.Goals as goal

pub returns-clause-first : goal.returns-clause-first
returns-clause-first c = from_first

pub returns-clause-rise : goal.returns-clause-rise
returns-clause-rise c = rises

pub returns-clause-same : goal.returns-clause-same
returns-clause-same c = same_stretch

pub returns-clause-later : goal.returns-clause-later
returns-clause-later c = none_later
