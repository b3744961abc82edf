use Rattle.object_store.proofs.Again.{are_of_one_list, none_is_bad}
use Rattle.object_store.proofs.laws.loads_what_was_put.Goals as goal

pub returns : goal.returns
returns c = record { one = are_of_one_list; sound = none_is_bad }
