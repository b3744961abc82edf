use Rattle.list_changes.proofs.Telling.{all_told}
use Rattle.list_changes.proofs.records_tell_the_changes.Goals as goal

pub returns : goal.returns
returns c = all_told
