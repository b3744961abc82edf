use Rattle.world_safety.proofs.Records.{keeps_own, keeps_other}
use Rattle.world_safety.proofs.files.records_are_of_a_file.Goals as goal

pub returns : goal.returns
returns c = record { own = keeps_own; other = keeps_other }
