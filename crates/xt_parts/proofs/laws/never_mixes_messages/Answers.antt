use Rattle.xt_parts.proofs.Mixing.{never_mixes}
use Rattle.xt_parts.proofs.laws.never_mixes_messages.Goals as goal

pub returns : goal.returns
returns c = never_mixes
