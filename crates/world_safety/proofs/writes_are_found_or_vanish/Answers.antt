-- Line by line.
use Rattle.std.proofs.Common.{refl}
use Rattle.time_line.specs.TimeLine.{location_in}
use Rattle.world_safety.proofs.Lines.{found_fits, vanished_fits}
use Rattle.world_safety.proofs.writes_are_found_or_vanish.Goals as goal

pub returns-clause-found_lines : goal.returns-clause-found_lines
returns-clause-found_lines c = found_fits

pub returns-clause-found_file : goal.returns-clause-found_file
unfolding location_in
returns-clause-found_file c = refl

pub returns-clause-vanished_lines : goal.returns-clause-vanished_lines
returns-clause-vanished_lines c = vanished_fits

pub returns-clause-vanished_file : goal.returns-clause-vanished_file
unfolding location_in
returns-clause-vanished_file c = refl
