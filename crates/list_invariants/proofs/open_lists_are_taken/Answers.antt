use Rattle.list_invariants.proofs.OpenLists.{open_message, open_asked}
use Rattle.list_invariants.proofs.open_lists_are_taken.Goals as goal

pub returns : goal.returns
returns c = record { message = open_message; ask = open_asked }
