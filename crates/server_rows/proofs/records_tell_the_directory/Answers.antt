use Rattle.server_rows.proofs.Directory.{told}
use Rattle.server_rows.proofs.records_tell_the_directory.Goals as goal

pub returns : goal.returns
returns c = told
