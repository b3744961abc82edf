use Rattle.striped_safety.proofs.UsedByOne.{used}
use Rattle.striped_safety.proofs.a_file_is_used_by_one.Goals as goal

pub returns-clause-used : goal.returns-clause-used
returns-clause-used c = used
