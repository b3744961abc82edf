use Rattle.list_laws.proofs.Outcomes.{given}
use Rattle.list_laws.proofs.own_rows_give_so.Goals as goal

pub returns : goal.returns
returns c = given
