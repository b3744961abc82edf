-- Calls do at each moment what they do in the whole trace.
use Rattle.world_safety.proofs.Orders.{have_begun, stand_once, answers_show}
use Rattle.world_safety.proofs.what_is_told_has_begun.Goals as goal

pub returns-clause-begun : goal.returns-clause-begun
returns-clause-begun c = have_begun

pub returns-clause-stand_once : goal.returns-clause-stand_once
returns-clause-stand_once c = stand_once

pub returns-clause-answers_show : goal.returns-clause-answers_show
returns-clause-answers_show c = answers_show
