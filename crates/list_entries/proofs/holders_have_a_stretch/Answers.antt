use Rattle.list_entries.proofs.Stretched.{told_in_a_stretch}
use Rattle.list_entries.proofs.holders_have_a_stretch.Goals as goal

pub returns : goal.returns
returns c = told_in_a_stretch
