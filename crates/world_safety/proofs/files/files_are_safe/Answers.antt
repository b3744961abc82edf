use Rattle.world_safety.proofs.Runs.{runs_are_safe, parts_are_safe}
use Rattle.world_safety.proofs.files.files_are_safe.Goals as goal

pub returns : goal.returns
returns c = record { whole = runs_are_safe; part = parts_are_safe }
