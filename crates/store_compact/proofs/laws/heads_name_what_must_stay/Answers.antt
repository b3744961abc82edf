use Rattle.store_compact.proofs.Named.{heads_name_them}
use Rattle.store_compact.proofs.laws.heads_name_what_must_stay.Goals as goal

pub returns : goal.returns
returns c = heads_name_them
