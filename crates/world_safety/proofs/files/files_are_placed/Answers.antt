use Rattle.world_safety.proofs.Runs.{runs_are_placed, parts_are_placed}
use Rattle.world_safety.proofs.files.files_are_placed.Goals as goal

pub returns : goal.returns
returns c = record { whole = runs_are_placed; part = parts_are_placed }
