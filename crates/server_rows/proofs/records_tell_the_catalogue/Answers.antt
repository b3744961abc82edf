use Rattle.server_rows.proofs.Metadata.{all_told}
use Rattle.server_rows.proofs.records_tell_the_catalogue.Goals as goal

pub returns : goal.returns
returns c = all_told
