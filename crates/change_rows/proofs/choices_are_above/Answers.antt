use Rattle.change_rows.proofs.Promises.{above}
use Rattle.change_rows.proofs.choices_are_above.Goals as goal

pub returns : goal.returns
returns c = above
