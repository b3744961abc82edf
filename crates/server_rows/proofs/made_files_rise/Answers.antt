use Rattle.server_rows.proofs.Rising.{made_files_rise}
use Rattle.server_rows.proofs.made_files_rise.Goals as goal

pub returns : goal.returns
returns c = made_files_rise
