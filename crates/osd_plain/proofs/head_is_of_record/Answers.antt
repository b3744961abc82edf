use Rattle.osd_plain.proofs.Heads.{is_of_record}
use Rattle.osd_plain.proofs.head_is_of_record.Goals as goal

pub returns : goal.returns
returns c = is_of_record
