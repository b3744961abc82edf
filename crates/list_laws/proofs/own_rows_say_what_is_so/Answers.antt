use Rattle.list_laws.proofs.Saying.{row_says}
use Rattle.list_laws.proofs.own_rows_say_what_is_so.Goals as goal

pub returns : goal.returns
returns c = row_says
