use Rattle.change_rows.proofs.Wakes.{wakes_once}
use Rattle.change_rows.proofs.a_wake_makes_one_choice.Goals as goal

pub returns : goal.returns
returns c = wakes_once
