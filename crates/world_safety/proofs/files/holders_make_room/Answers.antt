use Rattle.world_safety.proofs.May
use Rattle.world_safety.proofs.files.holders_make_room.Goals as goal

pub returns : goal.returns
returns c = May.holders_make_room
