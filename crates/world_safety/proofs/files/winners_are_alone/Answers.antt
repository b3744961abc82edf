use Rattle.world_safety.proofs.Winners
use Rattle.world_safety.proofs.files.winners_are_alone.Goals as goal

pub returns : goal.returns
returns c = record { time = Winners.wins_in_time; alone = Winners.winners_are_alone }
